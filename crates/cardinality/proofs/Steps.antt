-- What each step of the walk over the nodes gives.
use Prim.Native.Nat.{ℕ, zero, suc, ◌+◌, ◌-◌, ◌*◌, ◌≤◌, ◌<◌}
use mathlib.Core.Path.{◌≡◌, refl, sym, ap, ◌∙◌}
use mathlib.Core.Logic.{◌≢◌}
use mathlib.Core.Bool.{not}
use mathlib.Core.List.{List}
use native.Mathlib.Omega.{arith}
use lib.ListN.{length, get_or}
use lib.Dec.{T}
use lib.Ieee.{Float, binary64, add, mul, fits, is_nan, nan_bits, of_bits, to_bits}
use lib.Ieee.Fits.{add-fits}
use Rattle.diagram.specs.Diagram.{var_of, low_of, high_of, size, vars, Ordered}
use Rattle.diagram.proofs.Tests.{by-eq}
use Rattle.diagram.proofs.Reading.{Layer, layered, by_two, at_end, var_most}
use Rattle.levels.specs.Chains.{Last, Linked, Given, Known}
use Rattle.levels.proofs.Chaining.{known_from, known_begins, known_ends, at_chain, chain_falls, heads_all}
use Rattle.cardinality.specs.Cardinality.{nought, power_of_two, terminal_of, part_of}
use Rattle.cardinality.specs.Table.{bits_at, In, Noted, float_of, Floated, Parting, Joining, Descending, At}
use Rattle.cardinality.proofs.Wholes.{no_nan}
use Rattle.cardinality.proofs.Counts.{float_of_end, float_of_node, float_stands}
use Rattle.cardinality.proofs.Bits.{bits_back, bits_no_nan}

-- ---- a node's float is one of the format's, and no NaN

terminal_fits : (p : ℕ) → p < 2 → T (fits binary64 (terminal_of p))
unfolding terminal_of fits
terminal_fits zero h = tt
terminal_fits (suc zero) h = tt
terminal_fits (suc (suc p)) h = absurd (omega arith)

module _ (w : List ℕ) (o : Ordered w) (p : ℕ) (h : p < size w) where
  float_fits : T (fits binary64 (float_of w p))
  float_fits = by_two p
      (λ t. rw (float_of_end w o p t) (terminal_fits p t))
      (λ two. rw (float_of_node w o p two h) (add-fits binary64 (part_of w p (low_of w p) (float_of w (low_of w p))) (part_of w p (high_of w p) (float_of w (high_of w p)))))

  float_no_nan : T (not (is_nan (float_of w p)))
  float_no_nan = let s = float_stands w o p h in no_nan (float_of w p) s.number 1 s.whole.value

  -- its bits, read back
  pub read_asks : (b : ℕ) → b ≡ to_bits binary64 (float_of w p) → T (not (nan_bits binary64 b))
  read_asks b e = bits_no_nan (float_of w p) float_fits b e float_no_nan

  pub read_back : (b : ℕ) → b ≡ to_bits binary64 (float_of w p) → of_bits binary64 b ≡ float_of w p
  read_back b e = bits_back (float_of w p) float_fits b e

-- ---- a child's part

module _ {w room : List ℕ} {n p q : ℕ} (k : Parting w room n p q) where
  pub part_few : (here there : ℕ) → here ≡ var_of w p → there ≡ var_of w q → there - here - 1 < 1024
  part_few here there eh et =
      let m = var_most w (vars w) (size w) (layered w k.ordered) q k.inside in
      let u = k.ordered.formed.variables in
      omega arith

  pub part_asks : In n room q × T (not (nan_bits binary64 (bits_at n room q)))
  part_asks = (k.place, read_asks w k.ordered q k.inside (bits_at n room q) k.noted)

  pub part_done : (here there : ℕ) → here ≡ var_of w p → there ≡ var_of w q → {x factor : Float} → factor ≡ power_of_two (there - here - 1)
      → x ≡ of_bits binary64 (bits_at n room q) → mul binary64 x factor ≡ part_of w p q (float_of w q)
  part_done here there eh et {x} {factor} ef ex =
      let y : x ≡ float_of w q = ex ∙ read_back w k.ordered q k.inside (bits_at n room q) k.noted in
      let f : factor ≡ power_of_two (var_of w q - var_of w p - 1) = ef ∙ rw (eh, et) in
      rw (y, f)

-- ---- one node

floated_as : {w room : List ℕ} {c b : ℕ} → Floated w room c b → (d e : ℕ) → ((q : ℕ) → q < size w → Known w d e q → Known w c b q) → Floated w room d e
floated_as s d e f = record { long = s.long; next = s.next; right = λ q h k. s.right q h (f q h k) }

module _ {w room : List ℕ} {n p : ℕ} (j : Joining w room n p) where
  abbrev o : Ordered w
  o = j.given.ordered

  abbrev layer : Layer w (vars w) (size w) p
  layer = (layered w o).node p j.node.two j.node.inside

  child : (q : ℕ) → q < size w → var_of w p < var_of w q → Parting w room n p q
  child q h up = record {
    ordered = o;
    inside = h;
    place = omega (arith, j.floated.long, j.given.nodes);
    above = up;
    noted = ap (λ (m : ℕ). bits_at m room q) j.given.nodes ∙ j.floated.right q h (record { level = omega arith; turn = λ e. absurd (omega arith) });
  }

  pub join_low : (low : ℕ) → low ≡ low_of w p → Parting w room n p low
  join_low low e = let l = layer in rw e (child (low_of w p) l.low l.above_low)

  pub join_high : (high : ℕ) → high ≡ high_of w p → Parting w room n p high
  join_high high e = let l = layer in rw e (child (high_of w p) l.high l.above_high)

  module _ (low : ℕ) (el : low ≡ low_of w p) {x : Float} (ex : x ≡ part_of w p low (float_of w low))
      (high : ℕ) (eh : high ≡ high_of w p) {y : Float} (ey : y ≡ part_of w p high (float_of w high)) where
    sum_is : add binary64 x y ≡ float_of w p
    sum_is =
        let a : x ≡ part_of w p (low_of w p) (float_of w (low_of w p)) = ex ∙ rw el in
        let b : y ≡ part_of w p (high_of w p) (float_of w (high_of w p)) = ey ∙ rw eh in
        rw (a, b) (sym (float_of_node w o p j.node.two j.node.inside))

    pub join_asks : In n room p × T (not (is_nan (add binary64 x y)))
    join_asks = (omega (arith, j.floated.long, j.given.nodes, j.node.inside), rw sum_is (float_no_nan w o p j.node.inside))

    pub join_done : {after : List ℕ} → Noted n room p (to_bits binary64 (add binary64 x y)) after → Floated w after (var_of w p) p
    join_done {after} noted =
        let k : Noted (size w) room p (to_bits binary64 (float_of w p)) after = rw (j.given.nodes, sum_is) at noted in
        record {
          long = omega (arith, k.size, j.floated.long);
          next = λ q two h. rw (k.before q h) (j.floated.next q two h);
          right = λ q h known. by-eq q p
              (λ e. rw e k.here)
              (λ ne. k.other q ne ∙ j.floated.right q h (record { level = known.level; turn = λ e. let t = known.turn e in omega arith }));
        }

-- ---- the terminals

zero_is : nought ≡ terminal_of 0
unfolding terminal_of
zero_is = refl

one_is : power_of_two 0 ≡ terminal_of 1
unfolding terminal_of
one_is = refl

module _ (w heads : List ℕ) (n : ℕ) (given : Given w n) {r₀ : List ℕ} (links : Linked w heads r₀ n) (long : n + 2 * n ≤ length r₀) where
  pub terminals_done : {x y : Float} → x ≡ nought → y ≡ power_of_two 0 → {r₁ r₂ : List ℕ} → Noted n r₀ 0 (to_bits binary64 x) r₁ → Noted n r₁ 1 (to_bits binary64 y) r₂
      → Floated w r₂ (vars w) 0
  terminals_done {x} {y} ex ey {r₁} {r₂} a b =
      let o = given.ordered in
      let e = given.nodes in
      let two = given.two in
      let base : (q : ℕ) → bits_at n r₂ q ≡ bits_at (size w) r₂ q = λ q. ap (λ (m : ℕ). bits_at m r₂ q) e in
      let none : bits_at (size w) r₂ 0 ≡ to_bits binary64 (float_of w 0) = sym (base 0) ∙ b.other 0 (λ z. omega arith) ∙ a.here ∙ ap (to_bits binary64) (ex ∙ zero_is ∙ sym (float_of_end w o 0 (omega arith))) in
      let one : bits_at (size w) r₂ 1 ≡ to_bits binary64 (float_of w 1) = sym (base 1) ∙ b.here ∙ ap (to_bits binary64) (ey ∙ one_is ∙ sym (float_of_end w o 1 (omega arith))) in
      record {
        long = omega (arith, a.size, b.size);
        next = λ p t h. rw (b.before p (omega arith), a.before p (omega arith)) (links.next p t (omega arith));
        right = λ q h k. ends (λ q'. bits_at (size w) r₂ q' ≡ to_bits binary64 (float_of w q')) none one q (at_end w (vars w) (size w) (layered w o) q h k.level);
      }
    where
      ends : (P : ℕ → Type 0) → P 0 → P 1 → (q : ℕ) → q < 2 → P q
      ends P x y zero h = x
      ends P x y (suc zero) h = y
      ends P x y (suc (suc q)) h = absurd (omega arith)

-- ---- one variable

module _ {w room : List ℕ} {n c : ℕ} (given : Given w n) (level : c < vars w) where
  module _ {p : ℕ} (s : At w room c p) (ne : p ≢ 0) where
    pub down_joins : Joining w room n p
    down_joins =
        let k = s.node ne in
        record { given = given; node = k.0; floated = rw k.1 s.floated }

    pub down_on : {after : List ℕ} → Floated w after (var_of w p) p → (q : ℕ) → q ≡ get_or after p 0 → At w after c q × (q < p)
    down_on {after} floated q e =
        let k = s.node ne in
        let mine : Floated w after c p = rw k.1 at floated in
        let last : Last w c p q = rw (e, ← k.1) (floated.next p k.0.two k.0.inside) in (
          record {
            node = at_chain (omega (arith, k.0.inside)) last;
            floated = floated_as mine c (suc q) (known_from w given.ordered c level last);
          },
          chain_falls k.0.two last,
        )

  pub down_ends : {p : ℕ} → At w room c p → p ≡ 0 → Floated w room c 0
  down_ends {p} s e =
      let mine : Floated w room c 1 = rw e at s.floated in
      floated_as mine c 0 (known_ends w given.ordered c level)

pub down_begins : {w heads room : List ℕ} {n c : ℕ} → Descending w heads room n c → (p : ℕ) → p ≡ get_or heads c 0 → At w room c p
down_begins {w} {heads} {room} {n} {c} d p e =
    let last : Last w c (size w) p = rw e (d.head c d.level) in
    record {
      node = at_chain (omega arith) last;
      floated = floated_as d.floated c (suc p)
          (λ q h k. known_begins w d.given.ordered c d.level q h (known_from w d.given.ordered c d.level last q h k));
    }

-- ---- all variables

pub all_down : {w heads nexts room : List ℕ} {n v c : ℕ} → Given w n → Linked w heads nexts n → v ≡ vars w → c ≤ v → 0 < c → Floated w room c 0
    → Descending w heads room n (c - 1)
all_down {c = c} given l e below some s =
    let back : c ≡ suc (c - 1) = omega arith in
    record { given = given; level = omega arith; head = heads_all given l; floated = rw back at s }
