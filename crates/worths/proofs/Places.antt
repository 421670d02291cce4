-- What stands at a place of the table, and what a count or a flag that is noted leaves.
use Prim.Native.Nat.{ℕ, suc, ◌+◌, ◌*◌, ◌/◌, ◌%◌, ◌≤◌, ◌<◌}
use mathlib.Core.Path.{◌≡◌, refl, sym, ap, ◌∙◌}
use mathlib.Core.Logic.{◌≢◌}
use mathlib.Core.Bool.{Bool, true, false, cond, not, ◌&&◌, ◌||◌}
use mathlib.Core.List.{List}
use native.Mathlib.Omega.{arith}
use lib.ListN.{length, get_or, set, length-set}
use lib.Seq.{get_or-drop, get_or-set_same, get_or-set_other}
use lib.Dec.{eqb}
use Rattle.naturals.specs.Natural.{word_count, Holds, Stores}
use Rattle.in_place.proofs.Placed.{words_same}
use Rattle.diagram.specs.Limits.{max_nodes}
use Rattle.diagram.specs.Diagram.{vars}
use Rattle.diagram.proofs.Tests.{by-eq}
use Rattle.counts.specs.Table.{entry, Noted}
use Rattle.counts.proofs.Entries.{noted}
use Rattle.pairs.specs.Pairs.{max_pairs, Pair, pair, level_of, next, ended, all_of, pairs_of}
use Rattle.pairs.specs.Table.{key_in, low_in, high_in, counts_from, flags_from, Settled, Standing}
use Rattle.pairs.proofs.Levels.{Inside}
use Rattle.worths.specs.Worth.{worth, unlike_at, flag_in, Listed, pair_at, Placed, Worths, Noting, Ending, Stepping, Counted}
use Rattle.worths.proofs.Beside.{worth_end, unlike_ended, unlike_node}

-- ---- the pair at a place

module _ {a b : List ℕ} {c : ℕ} {t : List ℕ} {i : ℕ} (k : Placed a b c t i) where
  pub place_small : (c ≤ max_pairs) × (i < max_pairs)
  place_small =
      let inside = k.inside in
      let fits = k.listed.standing.fits in
      let few = k.listed.space.few in
      (few, omega arith)

  pub place_inside : Inside a b (pair_at a b i)
  place_inside = let s = k.listed.standing.settled i k.inside in record { first = s.first; second = s.second }

  pub first_is : {p : ℕ} → p ≡ key_in c t i / max_nodes → p ≡ (pair_at a b i).first
  first_is e =
      let few = k.listed.alike.second.formed.few in
      let less = place_inside.second in
      let held = k.listed.standing.held i k.inside in
      omega arith

  pub second_is : {q : ℕ} → q ≡ key_in c t i % max_nodes → q ≡ (pair_at a b i).second
  second_is e =
      let few = k.listed.alike.second.formed.few in
      let less = place_inside.second in
      let held = k.listed.standing.held i k.inside in
      omega arith

  pub level_is : {p q r : ℕ} → p ≡ key_in c t i / max_nodes → q ≡ key_in c t i % max_nodes → r ≡ level_of a b (pair p q) → r ≡ level_of a b (pair_at a b i)
  level_is ep eq er = er ∙ rw (first_is ep, second_is eq) refl

  pub ended_is : {p q : ℕ} {r : Bool} → p ≡ key_in c t i / max_nodes → q ≡ key_in c t i % max_nodes → r ≡ ended (pair p q) → r ≡ ended (pair_at a b i)
  ended_is ep eq er = er ∙ rw (first_is ep, second_is eq) refl

-- ---- flags

flag_told : (d : Bool) → not (eqb (cond d 1 0) 0) ≡ d
flag_told true = refl
flag_told false = refl

pub flag_is : {a b : List ℕ} {c : ℕ} {t : List ℕ} {n i : ℕ} → Worths a b c t n → i < n → {r : Bool} → r ≡ not (eqb (flag_in c t i) 0) → r ≡ unlike_at a b (pair_at a b i)
flag_is {a} {b} {c} {t} {n} {i} w less e = e ∙ rw (w.flag i less) (flag_told (unlike_at a b (pair_at a b i)))

-- ---- a count is noted

module _ {a b : List ℕ} {c : ℕ} {t t' : List ℕ} where
  -- words of the pairs themselves are as they were
  standing_kept : {s : List Pair} → Standing a b c s t → ((j : ℕ) → j < counts_from c → get_or t' j 0 ≡ get_or t j 0) → Standing a b c s t'
  standing_kept {s} k same =
      let fits = k.fits in
      record {
        fits = k.fits;
        held = λ i l. same (c + 4 * i) (omega arith) ∙ k.held i l;
        settled = λ i l. settled_kept i (k.settled i l) (same (c + 4 * i + 2) (omega arith)) (same (c + 4 * i + 3) (omega arith));
      }
    where
      settled_kept : (i : ℕ) → Settled a b c s t i → low_in c t' i ≡ low_in c t i → high_in c t' i ≡ high_in c t i → Settled a b c s t' i
      settled_kept i k el eh = record {
        first = k.first;
        second = k.second;
        low_before = λ e. rw el (k.low_before e);
        low = λ e. rw el (k.low e);
        high_before = λ e. rw eh (k.high_before e);
        high = λ e. rw eh (k.high e);
      }

  listed_kept : Listed a b c t → length t' ≡ length t → ((j : ℕ) → j < counts_from c → get_or t' j 0 ≡ get_or t j 0) → Listed a b c t'
  listed_kept k size same = record {
    alike = k.alike;
    space = record { some = k.space.some; few = k.space.few; long = let long = k.space.long in omega arith };
    standing = standing_kept k.standing same;
  }

  pub count_noted : {place x : ℕ} → Worths a b c t place → place < pairs_of a b → Noted (counts_from c) t place x t' → x ≡ worth ◌&&◌ a b (pair_at a b place)
      → Counted a b c t' place
  count_noted {place} {x} w inside n e =
      let fits = w.listed.standing.fits in
      record {
        worths = record {
          listed = listed_kept w.listed n.size n.before;
          count = λ i l. rw (n.other i (omega arith)) (w.count i l);
          flag = λ i l. flag_kept i ∙ w.flag i l;
        };
        inside = inside;
        here = rw (← e) n.here;
      }
    where
      -- flags stand behind all counts
      flag_kept : (i : ℕ) → flag_in c t' i ≡ flag_in c t i
      flag_kept i =
          let fits = w.listed.standing.fits in
          sym (get_or-drop (flags_from c) t' i 0) ∙ ap (λ (l : List ℕ). get_or l i 0) (n.beyond (flags_from c) (omega arith)) ∙ get_or-drop (flags_from c) t i 0

  -- ---- a flag is noted

  pub flag_noted : {place : ℕ} {d : Bool} → Counted a b c t place → t' ≡ set t (flags_from c + place) (cond d 1 0) → d ≡ unlike_at a b (pair_at a b place)
      → Worths a b c t' (suc place)
  flag_noted {place} {d} n et e = record {
    listed = listed_kept n.worths.listed size (λ j l. other j (omega arith));
    count = λ i l. by-eq i place
        (λ same. rw same (rw (entry_kept place n.inside) n.here))
        (λ ne. rw (entry_kept i (omega (arith, n.inside))) (n.worths.count i (omega arith)));
    flag = λ i l. by-eq i place
        (λ same. rw same (here ∙ ap (λ (b : Bool). cond b 1 0) e))
        (λ ne. other (flags_from c + i) (omega arith) ∙ n.worths.flag i (omega arith));
  }
    where
      size : length t' ≡ length t
      size = rw et (length-set t (flags_from c + place) (cond d 1 0))

      other : (j : ℕ) → j ≢ flags_from c + place → get_or t' j 0 ≡ get_or t j 0
      other j ne = rw et (get_or-set_other t (flags_from c + place) j (cond d 1 0) 0 ne)

      here : get_or t' (flags_from c + place) 0 ≡ cond d 1 0
      here =
          let long = n.worths.listed.space.long in
          let fits = n.worths.listed.standing.fits in
          let inside = n.inside in
          rw et (get_or-set_same t (flags_from c + place) (cond d 1 0) 0 (omega arith))

      entry_kept : (i : ℕ) → i < pairs_of a b → entry (counts_from c) t' i ≡ entry (counts_from c) t i
      entry_kept i l =
          let long = n.worths.listed.space.long in
          let fits = n.worths.listed.standing.fits in
          let all = size in
          words_same word_count t' t (counts_from c + word_count * i) size (omega arith) (λ j m. other (counts_from c + word_count * i + j) (omega arith))

-- ---- a pair that has ended

module _ {a b : List ℕ} {c : ℕ} {t : List ℕ} {place v p q : ℕ} (n : Noting a b c t place v) (k : Ending a b place p q) where
  placed : Placed a b c t place
  placed = record { listed = n.worths.listed; inside = n.inside }

  pub end_small : (c ≤ max_pairs) × (place < max_pairs)
  end_small = place_small placed

  pub end_done : {at : ℕ} {words after after' : List ℕ} {done d : Bool} → at ≡ counts_from c + word_count * place → Holds (cond (eqb p 1 && eqb q 1) 1 0) words
      → Stores word_count t at words done after → after' ≡ set after (flags_from c + place) (cond d 1 0) → d ≡ not (eqb p q) → Worths a b c after' (suc place)
  end_done {at} {words} {after} {after'} {done} {d} ea h r es ed =
      let long = n.worths.listed.space.long in
      let fits = n.worths.listed.standing.fits in
      let inside = n.inside in
      let alike = n.worths.listed.alike in
      let there : Stores word_count t (counts_from c + word_count * place) words done after = rw ea at r in
      let wrote = noted (counts_from c) t place (omega arith) there (cond (eqb p 1 && eqb q 1) 1 0) h in
      let worth-is : cond (eqb p 1 && eqb q 1) 1 0 ≡ worth ◌&&◌ a b (pair_at a b place) = rw (k.first, k.second) (sym (worth_end ◌&&◌ alike (pair_at a b place) (place_inside placed) k.done)) in
      let flag-right : d ≡ unlike_at a b (pair_at a b place) =
      ed ∙ rw (k.first, k.second) (sym (unlike_ended alike (pair_at a b place) (place_inside placed) k.done)) in
      flag_noted (count_noted n.worths n.inside wrote worth-is) es flag-right

-- ---- which of the two a pair is

module _ {a b : List ℕ} {c : ℕ} {t : List ℕ} {place v : ℕ} (n : Noting a b c t place v) {p q : ℕ} (ep : p ≡ key_in c t place / max_nodes)
    (eq : q ≡ key_in c t place % max_nodes) {r : Bool} (er : r ≡ ended (pair p q)) where
  at_place : Placed a b c t place
  at_place = record { listed = n.worths.listed; inside = n.inside }

  pub pair_ends : r ≡ true → Ending a b place p q
  pair_ends e = record { done = sym (ended_is at_place ep eq er) ∙ e; first = first_is at_place ep; second = second_is at_place eq }

  pub pair_goes : r ≡ false → Stepping a b place
  pair_goes e = record { going = sym (ended_is at_place ep eq er) ∙ e }

-- ---- all pairs

pub worths_none : {a b : List ℕ} {c : ℕ} {t : List ℕ} → Listed a b c t → Worths a b c t 0
worths_none l = record { listed = l; count = λ i less. absurd (omega arith); flag = λ i less. absurd (omega arith) }

pub worths_next : {a b : List ℕ} {c : ℕ} {t : List ℕ} {place n v : ℕ} → Worths a b c t place → place < n → n ≡ pairs_of a b → v ≡ vars a → Noting a b c t place v
worths_next w less e ev = record { worths = w; inside = omega arith; variables = ev }

pub worths_to : {a b : List ℕ} {c : ℕ} {t : List ℕ} {place n : ℕ} → Worths a b c t place → place ≡ n → Worths a b c t n
worths_to w e = rw e at w

-- ---- a pair that goes on differs where one does that it goes to

module _ {a b : List ℕ} {c : ℕ} {t : List ℕ} {place : ℕ} (n : Counted a b c t place) (k : Stepping a b place) where
  counted_placed : Placed a b c t place
  counted_placed = record { listed = n.worths.listed; inside = n.inside }

  settled : Settled a b c (all_of a b) t place
  settled = n.worths.listed.standing.settled place n.inside

  pub either_small : (c ≤ max_pairs) × (place < max_pairs)
  either_small = place_small counted_placed

  pub low_small : {low : ℕ} → low ≡ low_in c t place → (c ≤ max_pairs) × (low < max_pairs)
  low_small e = let less = settled.low_before k.going in (either_small.0, omega (arith, either_small.1))

  pub high_small : {high : ℕ} → high ≡ high_in c t place → (c ≤ max_pairs) × (high < max_pairs)
  high_small e = let less = settled.high_before k.going in (either_small.0, omega (arith, either_small.1))

  pub either_done : {low high : ℕ} {x y d : Bool} {after : List ℕ} → low ≡ low_in c t place → x ≡ not (eqb (flag_in c t low) 0) → high ≡ high_in c t place
      → y ≡ not (eqb (flag_in c t high) 0) → d ≡ (x || y) → after ≡ set t (flags_from c + place) (cond d 1 0) → Worths a b c after (suc place)
  either_done {low} {high} {x} {y} {d} {after} el ex eh ey ed es =
      let less = settled.low_before k.going in
      let less' = settled.high_before k.going in
      let low_is : x ≡ unlike_at a b (next a b (pair_at a b place) false) =
      flag_is n.worths (omega arith) ex ∙ rw el (ap (unlike_at a b) (settled.low k.going)) in
      let high_is : y ≡ unlike_at a b (next a b (pair_at a b place) true) =
      flag_is n.worths (omega arith) ey ∙ rw eh (ap (unlike_at a b) (settled.high k.going)) in
      flag_noted n es (ed ∙ rw (low_is, high_is) (sym (unlike_node n.worths.listed.alike (pair_at a b place) (place_inside counted_placed) k.going)))
