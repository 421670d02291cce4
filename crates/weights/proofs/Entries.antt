-- Tables of numbers in lent words: kept, emptied and copied.
use Prim.Native.Nat.{ℕ, ◌+◌, ◌-◌, ◌*◌, ◌^◌, ◌≤◌, ◌<◌, min}
use mathlib.Core.Path.{◌≡◌, refl, sym, ap, ◌∙◌}
use mathlib.Core.List.{List, ◌++◌}
use native.Mathlib.Omega.{arith}
use lib.ListN.{length, get_or, take, drop, set, length-take, length-drop, length-set}
use lib.Seq.{ext_get_or, get_or-take, get_or-drop, get_or-set_same, get_or-set_other, drop-set-lt, take-append-le, drop-append-le, drop-drop, length-take-le, length_front, drop_at}
use Rattle.naturals.specs.Natural.{value, word_count, Holds}
use Rattle.naturals.proofs.Place.{words_count, words_at_lem}
use Rattle.in_place.specs.Words.{Blanked}
use Rattle.in_place.proofs.Placed.{words_small_at, blank_put}
use Rattle.diagram.specs.Valuations.{weight_of}
use Rattle.diagram.proofs.Tests.{by-eq}
use Rattle.counts.specs.Table.{entry, num, In}
use Rattle.weights.specs.Passes.{weights_from, weights_to, Standing, Emptied, Handed}

-- words that are as they were, in an entry
pub entry_kept : (base : ℕ) (s after : List ℕ) (q : ℕ) → length after ≡ length s
    → ((k : ℕ) → k < base + word_count * q + word_count → get_or after k 0 ≡ get_or s k 0) → entry base after q ≡ entry base s q
entry_kept base s after q same front =
    ext_get_or 0 (entry base after q) (entry base s q)
    (long after ∙ ap (λ (n : ℕ). min word_count (n - (base + word_count * q))) same ∙ sym (long s))
    (λ i h.
    let l : i < word_count = omega (arith, long after) in
    at after i l ∙ front (base + word_count * q + i) (omega arith) ∙ sym (at s i l))
  where
    long : (l : List ℕ) → length (entry base l q) ≡ min word_count (length l - (base + word_count * q))
    long l = length-take word_count (drop (base + word_count * q) l) ∙ ap (λ (n : ℕ). min word_count n) (length-drop (base + word_count * q) l)

    at : (l : List ℕ) (i : ℕ) → i < word_count → get_or (entry base l q) i 0 ≡ get_or l (base + word_count * q + i) 0
    at l i h = get_or-take word_count (drop (base + word_count * q) l) i 0 h ∙ get_or-drop (base + word_count * q) l i 0

-- an entry of a part that stands before another
pub entry_front : (base q : ℕ) (part rest : List ℕ) → In base part q → entry base (part ++ rest) q ≡ entry base part q
entry_front base q part rest inside =
    ap (λ (l : List ℕ). take word_count l) (drop-append-le (base + word_count * q) part rest (omega arith))
    ∙ take-append-le word_count (drop (base + word_count * q) part) rest (omega (arith, length-drop (base + word_count * q) part))

-- ---- emptying a table

pub emptied : {base : ℕ} {s after : List ℕ} {n : ℕ} → base + word_count * n ≤ length s → Blanked s base (word_count * n) after → Emptied base s n after
emptied {base} {s} {after} {n} inside b = record {
  size = b.kept;
  none = λ q h. (blank_put (omega arith) (here q h)).here;
  before = b.before;
}
  where
    -- one entry, which is zero now
    here : (q : ℕ) → q < n → Blanked after (base + word_count * q) word_count after
    here q h = record {
      kept = refl;
      none = λ i l. let place : base + word_count * q + i ≡ base + (word_count * q + i) = omega arith in rw place (b.none (word_count * q + i) (omega arith));
      before = λ i l. refl;
      beyond = λ i l. refl;
    }

-- ---- copying one

-- the first i words are those from a base on; all others are as they were
pub record Copied (base : ℕ) (room before : List ℕ) (i : ℕ) (now : List ℕ) : Type 0 where
  pub kept : length now ≡ length before
  pub front : (j : ℕ) → j < i → get_or now j 0 ≡ get_or room (base + j) 0
  pub small : (j : ℕ) → j < i → get_or now j 0 < 2 ^ 32
  pub rest : drop i now ≡ drop i before

pub copy_begins : (base : ℕ) (room before : List ℕ) → Copied base room before 0 before
copy_begins base room before = record { kept = refl; front = λ j h. absurd (omega arith); small = λ j h. absurd (omega arith); rest = refl }

pub copy_on : {base : ℕ} {room before : List ℕ} {i : ℕ} {now : List ℕ} → Copied base room before i now → i < length before
    → get_or room (base + i) 0 < 2 ^ 32 → Copied base room before (i + 1) (set now i (get_or room (base + i) 0))
copy_on {base} {room} {before} {i} {now} c h word = record {
  kept = length-set now i (get_or room (base + i) 0) ∙ c.kept;
  front = λ j l. by-eq j i
      (λ e. rw e (get_or-set_same now i (get_or room (base + i) 0) 0 (omega (arith, c.kept))))
      (λ ne. get_or-set_other now i j (get_or room (base + i) 0) 0 (λ e. ne (omega arith)) ∙ c.front j (omega arith));
  small = λ j l. by-eq j i
      (λ e. rw (e, get_or-set_same now i (get_or room (base + i) 0) 0 (omega (arith, c.kept))) word)
      (λ ne. rw (get_or-set_other now i j (get_or room (base + i) 0) 0 (λ e. ne (omega arith))) (c.small j (omega arith)));
  rest = drop-set-lt (i + 1) now i (get_or room (base + i) 0) (omega arith) ∙ sym (drop-drop 1 i now) ∙ ap (λ (l : List ℕ). drop 1 l) c.rest ∙ drop-drop 1 i before;
}

pub handed : {base : ℕ} {room before after : List ℕ} {n : ℕ} → base + word_count * n ≤ length room → word_count * n ≤ length before
    → Copied base room before (word_count * n) after → Handed base room before n after
handed {base} {room} {before} {after} {n} from to c = record { kept = c.kept; number = number; rest = c.rest }
  where
    same : (q : ℕ) → q < n → entry 0 after q ≡ entry base room q
    same q h =
        let in-room : base + word_count * q + word_count ≤ length room = omega arith in
        let in_after : 0 + word_count * q + word_count ≤ length after = omega (arith, c.kept) in
        ext_get_or 0 (entry 0 after q) (entry base room q)
        (words_count word_count after (0 + word_count * q) in_after ∙ sym (words_count word_count room (base + word_count * q) in-room))
        (λ i l.
        let less : i < word_count = omega (arith, words_count word_count after (0 + word_count * q) in_after) in
        words_at_lem word_count after (0 + word_count * q) in_after i less
        ∙ c.front (0 + word_count * q + i) (omega arith)
        ∙ ap (λ (k : ℕ). get_or room k 0) (omega arith)
        ∙ sym (words_at_lem word_count room (base + word_count * q) in-room i less))

    number : (q : ℕ) → q < n → Holds (num base room q) (entry 0 after q)
    number q h =
        let inside : 0 + word_count * q + word_count ≤ length after = omega (arith, c.kept) in
        record {
          count = words_count word_count after (0 + word_count * q) inside;
          small = words_small_at word_count after (0 + word_count * q) inside (λ i l. c.small (0 + word_count * q + i) (omega arith));
          worth = ap value (same q h);
        }

-- ---- a part that is lent

-- What stands in the part that is lent stands in the whole.
pub stands : {w : List ℕ} {n : ℕ} (room part : List ℕ) → weights_to n ≤ length room → length part ≡ length (take (weights_to n) room)
    → ((p : ℕ) → p < n → Holds (weight_of w p) (entry (weights_from n) part p)) → Standing w room n (part ++ drop (weights_to n) room)
stands {w} {n} room part fits same h =
    let long : length part ≡ weights_to n = same ∙ length-take-le (weights_to n) room fits in
    record {
      kept = length_front room part (weights_to n) same;
      weight = λ p l. rw (entry_front (weights_from n) p part (drop (weights_to n) room) (omega arith)) (h p l);
      rest = drop_at part (drop (weights_to n) room) (weights_to n) long;
    }
