-- A node's number from its children's, in a table, and the whole's from its root's.
use Prim.Native.Nat.{ℕ, ◌+◌, ◌-◌, ◌*◌, ◌^◌, ◌≤◌, ◌<◌}
use mathlib.Core.Path.{◌≡◌, refl, ap}
use mathlib.Core.Logic.{◌≢◌, inl, inr, ⊎_elim}
use mathlib.Core.Bool.{Bool}
use mathlib.Core.List.{List}
use native.Mathlib.Omega.{arith}
use native.Mathlib.Nat.{le-mul_of_pos_right}
use lib.Pow.{pow_pos}
use borrow.Author.Tests.{lt-ltb}
use Rattle.naturals.specs.Natural.{value, word_count, limit_in, Holds, Fitted}
use Rattle.in_place.specs.InPlace.{words_for, shifted_in, Clear, Adding, Fitting}
use Rattle.in_place.specs.declared.sum.Shifted.{Shifted}
use Rattle.in_place.proofs.Placed.{words_enough}
use Rattle.diagram.specs.Diagram.{var_of, low_of, high_of, vars}
use Rattle.counts.specs.Table.{num, In, Noted}
use Rattle.counts.specs.Worth.{doublings, part_of, shared_of, Sharing, root_of, Rooted}
use Rattle.counts.proofs.Entries.{apart, noted_put, entry_few}

-- a sum that fits is noted
pub noted_sum : (base : ℕ) (s : List ℕ) (q n : ℕ) {x y : ℕ} {fits : Bool} {after : List ℕ} → In base s q
    → Fitting word_count n s (base + word_count * q) x fits after → x ≡ y → y < limit_in n → Noted base s q y after
noted_sum base s q n {x} {y} inside f e less = noted_put base s q inside (rw (e, lt-ltb y (limit_in n) less) at f.left)

-- a child's part, where it stands
pub record PartAt (how : Bool) (w : List ℕ) (base p q : ℕ) (a : Shifted) : Type 0 where
  pub at_is : a.at ≡ base + word_count * q
  pub bits_is : a.bits ≡ doublings how (var_of w q - var_of w p - 1)

pub part_at : {how : Bool} {w : List ℕ} {base p q : ℕ} {a : Shifted} → (a.at ≡ base + word_count * q) × (a.bits ≡ doublings how (var_of w q - var_of w p - 1))
    → PartAt how w base p q a
part_at e = record { at_is = e.0; bits_is = e.1 }

module _ {how : Bool} {w : List ℕ} {base : ℕ} {s : List ℕ} {p : ℕ} (k : Sharing how w base s p) where
  abbrev left : ℕ
  left = vars w - var_of w p

  few : words_for left ≤ word_count
  few = omega (arith, k.variables)

  -- a part that is among those many words, read from these
  part_is : {q : ℕ} {a : Shifted} → PartAt how w base p q a → part_of how w p q (num base s q) ≤ 2 ^ left → shifted_in (words_for left) s a ≡ part_of how w p q (num base s q)
  part_is {q} {a} e most =
      let less = le-mul_of_pos_right (num base s q) (pow_pos (doublings how (var_of w q - var_of w p - 1))) in
      rw (e.at_is, e.bits_is)
      (ap (λ (x : ℕ). x * 2 ^ doublings how (var_of w q - var_of w p - 1)) (entry_few base s q left (omega arith) few))

  other : (q : ℕ) → var_of w p < var_of w q → q ≢ p
  other q up e = let same = ap (λ (r : ℕ). var_of w r) e in omega arith

  clear : {q : ℕ} {a : Shifted} → PartAt how w base p q a → var_of w p < var_of w q → Clear word_count (base + word_count * p) (words_for left) a
  clear {q} e up =
      let at = e.at_is in
      let less = few in
      inl (⊎_elim (λ l. inl (omega arith)) (λ l. inr (omega arith)) (apart base q p (other q up)))

  module _ {low : ℕ} (el : low ≡ low_of w p) {a : Shifted} (ea : PartAt how w base p low a) {high : ℕ} (eh : high ≡ high_of w p) {b : Shifted}
      (eb : PartAt how w base p high b) {place used : ℕ} (ep : place ≡ base + word_count * p) (eu : used ≡ words_for left) where
    first : PartAt how w base p (low_of w p) a
    first = rw el at ea

    second : PartAt how w base p (high_of w p) b
    second = rw eh at eb

    pub share_asks : Adding word_count used s place a b
    share_asks =
        let less = few in
        rw (ep, eu) (record {
          few = few;
          target = k.inside;
          first = omega (arith, k.low, first.at_is);
          second = omega (arith, k.high, second.at_is);
          first_clear = clear first k.above_low;
          second_clear = clear second k.above_high;
        })

    pub share_done : {fits : Bool} {after : List ℕ} → Fitting word_count used s place (shifted_in used s a + shifted_in used s b) fits after
        → Noted base s p (shared_of how w base s p) after
    share_done {fits} {after} f =
        let most = k.fits in
        let sum : shifted_in (words_for left) s a + shifted_in (words_for left) s b ≡ shared_of how w base s p =
        rw (part_is first (omega arith), part_is second (omega arith)) refl in
        let mine : Fitting word_count (words_for left) s (base + word_count * p) (shifted_in (words_for left) s a + shifted_in (words_for left) s b) fits after = rw (ep, eu) at f in
        noted_sum base s p (words_for left) k.inside mine sum (words_enough (shared_of how w base s p) left most)
