-- Tables of numbers in lent words.
use Prim.Native.Nat.{ℕ, ◌+◌, ◌-◌, ◌*◌, ◌^◌, ◌≤◌}
use mathlib.Core.Path.{sym, ◌≡◌, ◌∙◌}
use mathlib.Core.Logic.{◌≢◌, ◌⊎◌, inl, inr}
use mathlib.Core.Bool.{Bool}
use mathlib.Core.List.{List}
use native.Mathlib.Omega.{arith}
use native.Mathlib.Decide.{dec_lt}
use lib.ListN.{length, take, drop, length-drop}
use lib.Seq.{ext_get_or, get_or-drop}
use lib.Dec.{leb}
use Rattle.naturals.specs.Natural.{value, word_count, Holds, Answers, Stores}
use Rattle.naturals.proofs.Place.{stored_after, stored_before, stores_length, stores_holds, stores_apart}
use Rattle.in_place.specs.InPlace.{number_in, words_for, Put}
use Rattle.in_place.proofs.Placed.{put_apart, number_few, words_enough}
use Rattle.counts.specs.Table.{num, In, Noted}

-- two entries stand apart
pub apart : (base r q : ℕ) → r ≢ q → (base + word_count * r + word_count ≤ base + word_count * q) ⊎ (base + word_count * q + word_count ≤ base + word_count * r)
apart base r q ne = elim (dec_lt r q) [ yes l ↦ inl (omega arith) | no l ↦ inr (omega arith) ]

pub noted : (base : ℕ) (s : List ℕ) (q : ℕ) {words after : List ℕ} {done : Bool} → In base s q
    → Stores word_count s (base + word_count * q) words done after → (x : ℕ) → Holds x words → Noted base s q x after
noted base s q {words} {after} {done} inside r x h =
    let e = h.count in
    record {
      size = stores_length r e;
      here = stores_holds r h inside;
      other = λ k ne. stores_apart r e (base + word_count * k) (apart base k q ne);
      before = λ k l. rw r.left (stored_before s (base + word_count * q) words e k (omega arith));
      beyond = λ m l. ext_get_or 0 (drop m after) (drop m s)
          (length-drop m after ∙ rw (stores_length r e) (sym (length-drop m s)))
          (λ i k. rw (get_or-drop m after i 0, get_or-drop m s i 0, r.left) (stored_after s (base + word_count * q) words e (m + i) (omega arith)));
    }

-- ---- what the functions on tables give

pub note_done : (base : ℕ) (s : List ℕ) (q i : ℕ) → i ≡ q → In base s q → {words after : List ℕ} {done : Bool}
    → Stores word_count s (base + word_count * i) words done after → (x : ℕ) → Holds x words → Noted base s q x after
note_done base s q i e inside r = noted base s q inside (rw e at r)

-- a number that was put at an entry's place
pub noted_put : (base : ℕ) (s : List ℕ) (q : ℕ) {x : ℕ} {after : List ℕ} → In base s q → Put word_count s (base + word_count * q) x after → Noted base s q x after
noted_put base s q {x} {after} inside r = record {
  size = r.kept;
  here = r.here;
  other = λ k ne. put_apart r word_count (base + word_count * k) (apart base k q ne);
  before = λ k l. r.before k (omega arith);
  beyond = λ m l. ext_get_or 0 (drop m after) (drop m s)
      (length-drop m after ∙ rw r.kept (sym (length-drop m s)))
      (λ i k. rw (get_or-drop m after i 0, get_or-drop m s i 0) (r.beyond (m + i) (omega arith)));
}

-- a number of few words, as it stands in an entry
pub entry_few : (base : ℕ) (s : List ℕ) (q d : ℕ) → num base s q ≤ 2 ^ d → words_for d ≤ word_count → number_in (words_for d) s (base + word_count * q) ≡ num base s q
entry_few base s q d most few = number_few (words_for d) word_count s (base + word_count * q) few (words_enough (num base s q) d most)
