-- A block that is written is taken, and its nodes come back.
use Prim.Native.Nat.{ℕ, zero, suc, ◌+◌, ◌-◌, ◌*◌, ◌/◌, ◌%◌, ◌≤◌, ◌<◌, ◌^◌}
use mathlib.Core.Path.{◌≡◌, refl, sym, ap, ◌∙◌}
use mathlib.Core.Bool.{Bool, true, ◌&&◌, ◌||◌}
use mathlib.Core.List.{List, [], ◌∷◌, ◌++◌, append_assoc}
use native.Mathlib.Omega.{arith}
use lib.ListN.{length, get_or, take, drop, replicate, length-append, length-replicate}
use lib.Seq.{take_at, drop_at, drop-drop, get_or-drop}
use lib.Dec.{eqb}
use borrow.Author.Tests.{eq-eqb, ne_eqb, lt-ltb}
use Rattle.diagram.specs.Diagram.{var_of}
use Rattle.blocks.specs.Block.{two, four, two_bytes, four_bytes, nodes_bytes, nodes_at, nodes_in, total, weighted, front, sealed, block_of, here, unused, sums_right, counts_right, block_outcome, nodes, block_bytes, block_words, summed as summed_bytes, byte_span, max_stored, pair_span}
use Rattle.blocks.proofs.Testing.{taken}
use Rattle.blocks.proofs.Front.{nodes_length, front_length, block_length}

-- Words that fit their bytes: variables two, links four.
pub record Fits (w : List ℕ) : Type 0 where
  pub small : (k : ℕ) → get_or w k 0 < 2 ^ 32
  pub narrow : (p : ℕ) → var_of w p < pair_span

-- ---- what stands at a place of the bytes

module _ (s : List ℕ) where
  pub at_next : (at k : ℕ) (part : List ℕ) {r : List ℕ} → drop at s ≡ part ++ r → length part ≡ k → drop (at + k) s ≡ r
  at_next at k part {r} e l = sym (drop-drop k at s) ∙ ap (drop k) e ∙ drop_at part r k l

  at_first : (at : ℕ) {x : ℕ} {r : List ℕ} → drop at s ≡ x ∷ r → get_or s at 0 ≡ x
  at_first at {x} {r} e =
      let z : at + 0 ≡ at = omega arith in
      ap (λ (k : ℕ). get_or s k 0) (sym z) ∙ sym (get_or-drop at s 0 0) ∙ ap (λ (l : List ℕ). get_or l 0 0) e

  two_at : (at x : ℕ) {r : List ℕ} → drop at s ≡ two_bytes x ++ r → two s at ≡ x % pair_span
  two_at at x {r} e =
      let a : get_or s at 0 ≡ x % byte_span = at_first at e in
      let b : get_or s (at + 1) 0 ≡ x / byte_span % byte_span = at_first (at + 1) (at_next at 1 (x % byte_span ∷ []) e refl) in
      omega arith

  two_is : (at x : ℕ) {r : List ℕ} → x < pair_span → drop at s ≡ two_bytes x ++ r → two s at ≡ x
  two_is at x h e = omega (arith, two_at at x e)

  pub four_is : (at x : ℕ) {r : List ℕ} → x < 2 ^ 32 → drop at s ≡ four_bytes x ++ r → four s at ≡ x
  four_is at x {r} h e =
      let a : two s at ≡ x % pair_span = two_at at x e in
      let b : two s (at + 2) ≡ x / pair_span % pair_span = two_at (at + 2) (x / pair_span) (at_next at 2 (two_bytes x) e refl) in
      omega arith

fits_next : {a b d : ℕ} {w : List ℕ} → Fits (a ∷ b ∷ d ∷ w) → Fits w
fits_next {a} {b} {d} {w} f =
    record {
      small = λ k. f.small (suc (suc (suc k)));
      narrow = λ p. (let e : 3 * suc p ≡ suc (suc (suc (3 * p))) = omega arith in rw e at (f.narrow (suc p)));
    }

pub nodes_back : (s w r : List ℕ) (at c : ℕ) → Fits w → length w ≡ 3 * c → drop at s ≡ nodes_bytes w ++ r → nodes_at s at c ≡ w
unfolding nodes_at nodes_bytes
nodes_back s [] r at zero f l e = refl
nodes_back s [] r at (suc c) f l e = absurd (omega arith)
nodes_back s (a ∷ []) r at c f l e = absurd (omega arith)
nodes_back s (a ∷ b ∷ []) r at c f l e = absurd (omega arith)
nodes_back s (a ∷ b ∷ d ∷ w) r at zero f l e = absurd (omega arith)
nodes_back s (a ∷ b ∷ d ∷ w) r at (suc c) f l e =
    let x : two s at ≡ a = two_is s at a (f.narrow 0) e in
    let y : four s (at + 2) ≡ b = four_is s (at + 2) b (f.small 1) (at_next s at 2 (two_bytes a) e refl) in
    let z : four s (at + 6) ≡ d = four_is s (at + 6) d (f.small 2) (at_next s at 6 (two_bytes a ++ four_bytes b) e refl) in
    let u : nodes_at s (at + 10) c ≡ w =
    nodes_back s w r (at + 10) c (fits_next f) (omega arith) (at_next s at 10 (two_bytes a ++ four_bytes b ++ four_bytes d) e refl) in
    rw (x, y, z, u)

pub zeros_total : (k : ℕ) → total (replicate k 0) ≡ 0
unfolding total
zeros_total zero = refl
zeros_total (suc k) = omega (arith, zeros_total k)

both : (a b : Bool) → a ≡ true → b ≡ true → (a && b) ≡ true
both a b e f = rw (e, f)

same_stated : (number n stated : ℕ) → (0 < number → n ≡ stated) → (eqb number 0 || eqb n stated) ≡ true
same_stated zero n stated h = refl
same_stated (suc k) n stated h = let e : n ≡ stated = h (omega arith) in simp (ne_eqb (suc k) 0 (omega arith), eq-eqb n stated e)

in_order : (a b c d e r : List ℕ) → a ++ b ++ c ++ d ++ e ++ r ≡ a ++ (b ++ (c ++ (d ++ (e ++ r))))
in_order a b c d e r = simp append_assoc

-- ---- what is sealed, and what follows it

module _ (f r : List ℕ) where
  sealed_first : sealed f ++ r ≡ f ++ (two_bytes (total f) ++ (two_bytes (weighted 1 f) ++ r))
  sealed_first =
      append_assoc (f ++ two_bytes (total f)) (two_bytes (weighted 1 f)) r
      ∙ append_assoc f (two_bytes (total f)) (two_bytes (weighted 1 f) ++ r)

  pub sums_sealed : length f ≡ summed_bytes → sums_right (sealed f ++ r) ≡ true
  unfolding sums_right
  sums_sealed long =
      let front-taken : take summed_bytes (sealed f ++ r) ≡ f = ap (take summed_bytes) sealed_first ∙ take_at f (two_bytes (total f) ++ (two_bytes (weighted 1 f) ++ r)) summed_bytes long in
      let sum : drop summed_bytes (sealed f ++ r) ≡ two_bytes (total f) ++ (two_bytes (weighted 1 f) ++ r) = at_next (sealed f ++ r) 0 summed_bytes f sealed_first long in
      let sum-weighted : drop (summed_bytes + 2) (sealed f ++ r) ≡ two_bytes (weighted 1 f) ++ r = at_next (sealed f ++ r) summed_bytes 2 (two_bytes (total f)) sum refl in
      both _ _
      (eq-eqb _ _ (two_at (sealed f ++ r) summed_bytes (total f) sum ∙ rw front-taken))
      (eq-eqb _ _ (two_at (sealed f ++ r) (summed_bytes + 2) (weighted 1 f) sum-weighted ∙ rw front-taken))

-- ---- a block and what follows it

module _ (n number : ℕ) (w r : List ℕ) (held : ℕ) (whole : length w ≡ 3 * held) (some : 0 < held) (few : n ≤ max_stored) (right : held ≡ here n number) (fits : Fits w) where
  abbrev bytes : List ℕ
  bytes = block_of n number w ++ r

  abbrev sums : List ℕ
  sums = two_bytes (total (front n number w)) ++ (two_bytes (weighted 1 (front n number w)) ++ r)

  short : length w ≤ block_words
  short = omega arith

  front_first : bytes ≡ front n number w ++ sums
  unfolding block_of
  front_first = sealed_first (front n number w) r

  front_parts : front n number w ≡ two_bytes number ++ two_bytes held ++ nodes_bytes w ++ replicate (500 - 10 * held) 0 ++ four_bytes n
  unfolding front
  front_parts = let h : length w / 3 ≡ held = omega arith in rw h

  all_parts : bytes ≡ two_bytes number ++ (two_bytes held ++ (nodes_bytes w ++ (replicate (500 - 10 * held) 0 ++ (four_bytes n ++ sums))))
  all_parts =
      front_first ∙ ap (λ (l : List ℕ). l ++ sums) front_parts
      ∙ in_order (two_bytes number) (two_bytes held) (nodes_bytes w) (replicate (500 - 10 * held) 0) (four_bytes n) sums

  front_long : length (front n number w) ≡ 508
  front_long = front_length n number w short

  summed : take 508 bytes ≡ front n number w
  summed = ap (take 508) front_first ∙ take_at (front n number w) sums 508 front_long

  -- field by field
  from_2 : drop 2 bytes ≡ two_bytes held ++ (nodes_bytes w ++ (replicate (500 - 10 * held) 0 ++ (four_bytes n ++ sums)))
  from_2 = at_next bytes 0 2 (two_bytes number) all_parts refl

  from_4 : drop 4 bytes ≡ nodes_bytes w ++ (replicate (500 - 10 * held) 0 ++ (four_bytes n ++ sums))
  from_4 = at_next bytes 2 2 (two_bytes held) from_2 refl

  from_zeros : drop (4 + 10 * held) bytes ≡ replicate (500 - 10 * held) 0 ++ (four_bytes n ++ sums)
  from_zeros = at_next bytes 4 (10 * held) (nodes_bytes w) from_4 (omega (arith, nodes_length w))

  from_504 : drop 504 bytes ≡ four_bytes n ++ sums
  from_504 =
      let e : 4 + 10 * held + (500 - 10 * held) ≡ 504 = omega arith in
      rw e at (at_next bytes (4 + 10 * held) (500 - 10 * held) (replicate (500 - 10 * held) 0) from_zeros (length-replicate (500 - 10 * held) 0))

  from_508 : drop 508 bytes ≡ sums
  from_508 = at_next bytes 504 4 (four_bytes n) from_504 refl

  from_510 : drop 510 bytes ≡ two_bytes (weighted 1 (front n number w)) ++ r
  from_510 = at_next bytes 508 2 (two_bytes (total (front n number w))) from_508 refl

  numbered : two bytes 0 ≡ number
  numbered = two_is bytes 0 number (omega arith) all_parts

  pub held_back : two bytes 2 ≡ held
  held_back = two_is bytes 2 held (omega arith) from_2

  stated_back : four bytes 504 ≡ n
  stated_back = four_is bytes 504 n (omega arith) from_504

  pub words_back : nodes_in bytes ≡ w
  words_back = rw held_back (nodes_back bytes w _ 4 held fits whole from_4)

  unused_back : total (unused bytes (two bytes 2)) ≡ 0
  unused_back =
      let e : 504 - (4 + 10 * held) ≡ 500 - 10 * held = omega arith in
      let t : take (500 - 10 * held) (drop (4 + 10 * held) bytes) ≡ replicate (500 - 10 * held) 0 =
      ap (take (500 - 10 * held)) from_zeros ∙ take_at (replicate (500 - 10 * held) 0) (four_bytes n ++ sums) (500 - 10 * held) (length-replicate (500 - 10 * held) 0) in
      rw (held_back, e, t) (zeros_total (500 - 10 * held))

  sums_back : sums_right bytes ≡ true
  unfolding sums_right
  sums_back =
      both _ _
      (eq-eqb _ _ (two_at bytes 508 (total (front n number w)) from_508 ∙ rw summed))
      (eq-eqb _ _ (two_at bytes 510 (weighted 1 (front n number w)) from_510 ∙ rw summed))

  -- A later block states what the first one stated.
  module _ (stated : ℕ) (same : 0 < number → stated ≡ n) where
    counts_back : counts_right number stated bytes ≡ true
    unfolding counts_right
    counts_back =
        let m : (eqb number 0 || eqb (four bytes 504) stated) ≡ true = same_stated number (four bytes 504) stated (λ h. stated_back ∙ sym (same h)) in
        let e : two bytes 2 ≡ here (four bytes 504) number = held_back ∙ right ∙ ap (λ (k : ℕ). here k number) (sym stated_back) in
        both _ _ (eq-eqb _ _ numbered) (both _ _ m (both _ _ (lt-ltb 0 (two bytes 2) (omega (arith, held_back))) (eq-eqb _ _ e)))

    pub taken_back : (lent : ℕ) → block_words * number + 3 * held ≤ lent → block_outcome number stated bytes lent ≡ nodes n
    taken_back lent h =
        let long : block_bytes ≤ length bytes = simp length-append (omega (arith, block_length n number w short)) in
        sym (taken bytes number stated lent long sums_back counts_back (omega (arith, stated_back)) (eq-eqb _ _ unused_back) (omega (arith, held_back))) ∙ ap nodes stated_back
