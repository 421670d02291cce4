-- What each step of the walk over the nodes gives, from the last variable to the first.
use Prim.Native.Nat.{ℕ, zero, suc, ◌+◌, ◌-◌, ◌*◌, ◌≤◌, ◌<◌}
use mathlib.Core.Path.{◌≡◌, sym, ap, ◌∙◌}
use mathlib.Core.Logic.{◌≢◌}
use mathlib.Core.Bool.{Bool}
use mathlib.Core.List.{List}
use native.Mathlib.Omega.{arith}
use lib.ListN.{length, get_or}
use Rattle.naturals.specs.Natural.{word_count, Holds}
use Rattle.naturals.proofs.Answer.{holds_as}
use Rattle.diagram.specs.Diagram.{var_of, low_of, high_of, size, vars, Ordered}
use Rattle.diagram.proofs.Tests.{by-eq}
use Rattle.diagram.proofs.Reading.{Layer, layered, at_end}
use Rattle.levels.specs.Chains.{Last, Linked, Given, Known}
use Rattle.levels.proofs.Chaining.{known_from, known_begins, known_ends, at_chain, chain_falls, heads_all}
use Rattle.counts.specs.Table.{entry, num, In, Noted}
use Rattle.counts.specs.Worth.{worth_of, shared_of, Sharing, Worths, Joining, Descending, AtDown}
use Rattle.counts.proofs.Nodes.{worth_end, worth_node, worth_most}

worths_as : {how : Bool} {w room : List ℕ} {c b : ℕ} → Worths how w room c b → (d e : ℕ) → ((q : ℕ) → q < size w → Known w d e q → Known w c b q)
    → Worths how w room d e
worths_as s d e f = record { long = s.long; next = s.next; right = λ q h k. s.right q h (f q h k) }

-- the table's place in the room
pub worths_in : {how : Bool} {w room : List ℕ} {c b n : ℕ} → Worths how w room c b → n ≡ size w → (q : ℕ) → q < size w → In n room q
worths_in s e q h = omega (arith, s.long)

-- the terminals' worths are their numbers
pub worths_start : (how : Bool) (w heads : List ℕ) (n : ℕ) → Given w n → {r₀ r₁ r₂ : List ℕ} → Linked w heads r₀ n → n + word_count * n ≤ length r₀
    → Noted n r₀ 0 0 r₁ → Noted n r₁ 1 1 r₂ → Worths how w r₂ (vars w) 0
worths_start how w heads n given {r₀} {r₁} {r₂} links long a b =
    let o = given.ordered in
    let e = given.nodes in
    let two = given.two in
    let base : (q : ℕ) → entry n r₂ q ≡ entry (size w) r₂ q = λ q. ap (λ (m : ℕ). entry m r₂ q) e in
    let one : Holds (worth_of how w 1) (entry (size w) r₂ 1) = holds_as (sym (worth_end w o how 1 (omega arith) (omega arith))) (rw (base 1) at b.here) in
    let none : Holds (worth_of how w 0) (entry (size w) r₂ 0) =
    holds_as (sym (worth_end w o how 0 (omega arith) (omega arith))) (rw (sym (b.other 0 (λ z. omega arith)) ∙ base 0) at a.here) in
    record {
      long = omega (arith, a.size, b.size);
      next = λ p t h. rw (b.before p (omega arith), a.before p (omega arith)) (links.next p t (omega arith));
      right = λ q h k. ends (λ q'. Holds (worth_of how w q') (entry (size w) r₂ q')) none one q (at_end w (vars w) (size w) (layered w o) q h k.level);
    }
  where
    ends : (P : ℕ → Type 0) → P 0 → P 1 → (q : ℕ) → q < 2 → P q
    ends P x y zero h = x
    ends P x y (suc zero) h = y
    ends P x y (suc (suc q)) h = absurd (omega arith)

-- ---- one node

module _ {how : Bool} {w room : List ℕ} {n p : ℕ} (j : Joining how w room n p) where
  abbrev ordered : Ordered w
  ordered = j.given.ordered

  abbrev layer : Layer w (vars w) (size w) p
  layer = (layered w ordered).node p j.node.two j.node.inside

  child_known : (q : ℕ) → q < size w → var_of w p < var_of w q → num n room q ≡ worth_of how w q
  child_known q h up =
      ap (λ (m : ℕ). num m room q) j.given.nodes
      ∙ (j.worths.right q h (record { level = omega arith; turn = λ e. absurd (omega arith) })).worth

  shared : shared_of how w n room p ≡ worth_of how w p
  shared =
      let l = layer in
      rw (child_known (low_of w p) l.low l.above_low, child_known (high_of w p) l.high l.above_high)
      (sym (worth_node w ordered how p j.node.two j.node.inside))

  pub join_asks : Sharing how w n room p
  join_asks =
      let l = layer in
      record {
        inside = worths_in j.worths j.given.nodes p j.node.inside;
        low = worths_in j.worths j.given.nodes (low_of w p) l.low;
        high = worths_in j.worths j.given.nodes (high_of w p) l.high;
        level = omega (arith, l.var);
        above_low = l.above_low;
        above_high = l.above_high;
        variables = ordered.formed.variables;
        fits = rw shared (worth_most w ordered how p);
      }

  worths_noted : {after : List ℕ} → Noted (size w) room p (worth_of how w p) after → Worths how w after (var_of w p) p
  worths_noted {after} k = record {
    long = omega (arith, k.size, j.worths.long);
    next = λ q two h. rw (k.before q h) (j.worths.next q two h);
    right = λ q h known. by-eq q p
        (λ e. rw e k.here)
        (λ ne. rw (k.other q ne) (j.worths.right q h (record { level = known.level; turn = λ e. let t = known.turn e in omega arith })));
  }

  pub join_done : {after : List ℕ} → Noted n room p (shared_of how w n room p) after → Worths how w after (var_of w p) p
  join_done m = worths_noted (rw (shared, j.given.nodes) at m)

-- ---- one variable

module _ {how : Bool} {w room : List ℕ} {n c : ℕ} (given : Given w n) (level : c < vars w) where
  module _ {p : ℕ} (s : AtDown how w room c p) (ne : p ≢ 0) where
    pub down_joins : Joining how w room n p
    down_joins =
        let k = s.node ne in
        record { given = given; node = k.0; worths = rw k.1 s.worths }

    pub down_on : {after : List ℕ} → Worths how w after (var_of w p) p → (q : ℕ) → q ≡ get_or after p 0 → AtDown how w after c q × (q < p)
    down_on {after} worths q e =
        let k = s.node ne in
        let mine : Worths how w after c p = rw k.1 at worths in
        let last : Last w c p q = rw (e, ← k.1) (worths.next p k.0.two k.0.inside) in (
          record {
            node = at_chain (omega (arith, k.0.inside)) last;
            worths = worths_as mine c (suc q) (known_from w given.ordered c level last);
          },
          chain_falls k.0.two last,
        )

  pub down_ends : {p : ℕ} → AtDown how w room c p → p ≡ 0 → Worths how w room c 0
  down_ends {p} s e =
      let mine : Worths how w room c 1 = rw e at s.worths in
      worths_as mine c 0 (known_ends w given.ordered c level)

pub down_begins : {how : Bool} {w heads room : List ℕ} {n c : ℕ} → Descending how w heads room n c → (p : ℕ) → p ≡ get_or heads c 0 → AtDown how w room c p
down_begins {how} {w} {heads} {room} {n} {c} d p e =
    let last : Last w c (size w) p = rw e (d.head c d.level) in
    record {
      node = at_chain (omega arith) last;
      worths = worths_as d.worths c (suc p)
          (λ q h k. known_begins w d.given.ordered c d.level q h (known_from w d.given.ordered c d.level last q h k));
    }

-- ---- all variables

pub all_down : {how : Bool} {w heads nexts room : List ℕ} {n v c : ℕ} → Given w n → Linked w heads nexts n → v ≡ vars w → c ≤ v → 0 < c → Worths how w room c 0
    → Descending how w heads room n (c - 1)
all_down {c = c} given l e below some s =
    let back : c ≡ suc (c - 1) = omega arith in
    record { given = given; level = omega arith; head = heads_all given l; worths = rw back at s }
