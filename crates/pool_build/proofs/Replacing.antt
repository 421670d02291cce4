-- What was built takes the place of what was there.
use Prim.Native.Nat.{ℕ, zero, suc, ◌+◌, ◌-◌, ◌*◌, ◌/◌, ◌≤◌, ◌<◌, min}
use mathlib.Core.Path.{◌≡◌, refl, sym, ap, ◌∙◌, subst}
use mathlib.Core.List.{List, ◌++◌}
use native.Mathlib.Omega.{arith}
use lib.ListN.{length, get_or, set, take, drop, replicate, length-set, length-replicate, take-append-drop}
use lib.Seq.{take_all, take-length, get_or-set_same, get_or-set_other}
use borrow.Author.Tests.{eq-eqb, ne_eqb}
use Rattle.diagram.specs.Diagram.{size, vars, holds, Ordered}
use Rattle.diagram.proofs.Tests.{by-eq}
use Rattle.diagram.proofs.Words.{zeros_whole}
use Rattle.store.specs.Store.{Node, words, terminals}
use Rattle.store.specs.Room.{word_in}
use Rattle.store.proofs.Tables.{take_words}
use Rattle.reduction.specs.Room.{Copied}
use Rattle.reduction.proofs.Answering.{copied_front}
use Rattle.pool.specs.Pool.{slot_count, terminal_words, WellFormed, Slot, live, held, gather, needs, table_of, slots_of}
use Rattle.pool.specs.Answers.{with_added, with_dropped}
use Rattle.pool.specs.Walked.{walked_words, walked}
use Rattle.pool.proofs.Walked.{walked_ordered, walked_vars, walked_names, walked_held}
use Rattle.pool.proofs.Gathered.{held_dropped, needs_is}
use Rattle.pool.proofs.Fewest.{dropped_fit}
use Rattle.pool_build.specs.Work.{store_from, work_words, Standing, Begun, Composed, Handing, HandedBack, Blank, Replaced, Puts}

-- ---- handing back

abbrev pub zeros : ℕ → List ℕ
zeros k = replicate k 0

drop_zeros : (k m : ℕ) → drop k (zeros m) ≡ zeros (m - k)
drop_zeros zero m = let e : m ≡ m - 0 = omega arith in ap zeros e
drop_zeros (suc k) zero = let e : 0 ≡ 0 - suc k = omega arith in ap zeros e
drop_zeros (suc k) (suc m) = let e : m - k ≡ suc m - suc k = omega arith in drop_zeros k m ∙ ap zeros e

-- all words of a list of that length
pub copied_whole : {n before after : List ℕ} {k : ℕ} → Copied n 0 before after k → length n ≡ k → length after ≡ k → after ≡ n
copied_whole {n} {before} {after} {k} c is-n is-after =
    sym (take_all k after (omega arith)) ∙ copied_front c (omega arith) (omega arith) ∙ take_all k n (omega arith)

module _ {r n t s : List ℕ} {count : ℕ} (h : Handing r n t s count) where
  pub handed_back : {t₁ t₂ s' : List ℕ} → t₁ ≡ replicate (min (length t) (length t)) 0 ++ drop (length t) t → length t₂ ≡ length t
      → Copied r store_from t₁ t₂ (3 * count) → length s' ≡ length s → Copied n 0 s s' slot_count → HandedBack r n t t₂ s' count
  handed_back {t₁} {t₂} {s'} cleared same-t copied same_s copied-s =
      let blank : t₁ ≡ zeros (length t) = cleared ∙ zeros_whole t t refl in
      let fits = h.fits in
      let store = h.store in
      let slots = h.slots in
      record {
        table = sym (take-append-drop (3 * count) t₂)
            ∙ (rw (copied_front copied (omega arith) (omega arith), copied.rest, blank, drop_zeros (3 * count) (length t)) refl);
        slots = copied_whole copied-s h.names (omega arith);
      }

-- ---- a pool's own words to begin with

pub length_zeros : (k : ℕ) → length (zeros k) ≡ k
length_zeros k = length-replicate k 0

pub zero_words : (k j : ℕ) → get_or (zeros k) j 0 ≡ 0
zero_words zero j = refl
zero_words (suc k) zero = refl
zero_words (suc k) (suc j) = zero_words k j

pub blank_lent : Blank (zeros slot_count) (zeros work_words)
blank_lent = record { slots = length_zeros slot_count; long = length_zeros work_words; zero = zero_words work_words }

walked_part : (t : List ℕ) → terminal_words ≤ length t → walked_words t ≤ length t
unfolding walked_words
walked_part t h = by-eq (vars t) 0
    (λ e. simp (eq-eqb (vars t) 0 e) h)
    (λ ne. simp (ne_eqb (vars t) 0 ne) (omega arith))

module _ {t s : List ℕ} (f : WellFormed t s) where
  pub part_fits : {part : ℕ} → part ≡ walked_words t → part ≤ length t
  part_fits e = let two = f.two in let whole = f.whole in rw e (walked_part t (omega arith))

  -- a word of the slots names a node of the part that is walked
  slot_inside : (j : ℕ) → j < slot_count → get_or s j 0 ≤ size (walked t)
  slot_inside j in-j = by-eq (get_or s j 0) 0
      (λ e. omega arith)
      (λ ne.
      let is : get_or s j 0 ≡ suc (get_or s j 0 - 1) = omega arith in
      let inside = walked_names t s f j (get_or s j 0 - 1) (record { inside = in-j; names = is }) in
      omega arith)

  module _ {n₀ r : List ℕ} (blank : Blank n₀ r) {n : List ℕ} (naming : (j : ℕ) → j < slot_count → get_or n j 0 ≤ size (walked t)) (long : length n ≡ slot_count) where
    begun : {part c : ℕ} → part ≡ walked_words t → c ≡ length t / 3 → Begun (take part t) c n r
    begun is-part is_c =
        let is-long = blank.long in
        rw (is-part, is_c) (record {
          ordered = walked_ordered t s f;
          two = f.two;
          few = f.few;
          long = omega arith;
          zero = blank.zero;
          slots = long;
          naming = record { up = omega arith; most = omega arith; inside = λ j low high. naming j high };
        })

  -- what was composed from the part that is walked, as the whole table's
  module _ {cs : List Slot} {part : ℕ} (is-part : part ≡ walked_words t) {n r : List ℕ} {count : ℕ} (made : Composed (take part t) cs (size t) n r count) where
    vars_part : vars (take part t) ≡ vars t
    vars_part = rw is-part (walked_vars t s f)

    count_is : count ≡ min (needs (vars t) cs) (suc (size t))
    count_is = made.is_count ∙ ap (λ (v : ℕ). min (needs v cs) (suc (size t))) vars_part

    pub replaced_not : size t < count → Replaced t s cs t s count
    replaced_not over =
        record { is_count = count_is; table = λ few. absurd (omega arith); slots = λ few. absurd (omega arith); kept = λ _. (refl, refl) }

    module _ (few : count ≤ size t) where
      nodes : List Node
      nodes = gather (vars t) cs (terminals (vars t))

      on : Standing (take part t) (size t) nodes r
      unfolding nodes
      on = subst (λ (v : ℕ). Standing (take part t) (size t) (gather v cs (terminals v)) r) vars_part (made.standing few)

      nodes_are : length nodes ≡ count
      unfolding nodes
      nodes_are = let e = needs_is (vars t) cs in let is = count_is in omega arith

      pub handing : length r ≡ work_words → length n ≡ slot_count → Handing r n t s count
      handing long names =
          let whole = f.whole in
          let most = f.few in
          record { store = omega arith; fits = omega arith; few = omega arith; names = names; slots = f.slots }

      front : length r ≡ work_words → take (3 * count) r ≡ words nodes
      front long =
          let all = nodes_are in
          let most = f.few in
          take_words nodes (word_in store_from r) on.stored.held r count (omega arith) (omega arith) (λ j h. let here : j ≡ store_from + j = omega arith in ap (λ (i : ℕ). get_or r i 0) here)
          ∙ ap words (ap (λ (k : ℕ). take k nodes) (sym all) ∙ take-length nodes)

      pub replaced : {t' s' : List ℕ} → length r ≡ work_words → HandedBack r n t t' s' count → Replaced t s cs t' s' count
      unfolding nodes table_of
      replaced long h =
          let whole = f.whole in
          let is = count_is in
          let rest : length t - 3 * count ≡ 3 * (size t - needs (vars t) cs) = omega arith in
          record {
            is_count = count_is;
            table = λ _. h.table ∙ ap (λ (m : List ℕ). m ++ replicate (length t - 3 * count) 0) (front long)
                ∙ ap (λ (k : ℕ). words (gather (vars t) cs (terminals (vars t))) ++ replicate k 0) rest;
            slots = λ _. h.slots ∙ made.slots few ∙ ap (λ (v : ℕ). slots_of v cs) vars_part;
            kept = λ over. absurd (omega arith);
          }

-- ---- a diagram is put to a slot

module _ {t s d : List ℕ} {slot : ℕ} (a : Puts t s d slot) {n₀ r : List ℕ} (blank : Blank n₀ r) {part c : ℕ} (is-part : part ≡ walked_words t) (is_c : c ≡ length t / 3)
    {n : List ℕ} (copied : Copied s 0 n₀ n slot_count) (same : length n ≡ length n₀) where
  names_are : n ≡ s
  names_are = copied_whole copied a.pool.slots (same ∙ blank.slots)

  pub put_begun : Begun (take part t) c n r × (slot < slot_count) × Ordered d × (vars d ≡ vars (take part t))
  put_begun = (
    begun a.pool blank (λ j in-j. rw names_are (slot_inside a.pool j in-j)) (same ∙ blank.slots) is-part is_c,
    a.slot,
    a.diagram,
    a.variables ∙ sym (walked_vars t s a.pool) ∙ ap (λ (k : ℕ). vars (take k t)) (sym is-part),
  )

  pub put_composed : {n' r' : List ℕ} {count : ℕ} → Composed (take part t) (set (held (take part t) n) slot (live (holds d))) c n' r' count
      → Composed (take part t) (with_added t s d slot) (size t) n' r' count
  put_composed {n'} {r'} {count} made =
      let same-slots : held (take part t) n ≡ held t s = rw (names_are, is-part) (walked_held t s a.pool s) in
      subst (λ (k : ℕ). Composed (take part t) (with_added t s d slot) k n' r' count) is_c
      (subst (λ (cs : List Slot). Composed (take part t) (set cs slot (live (holds d))) c n' r' count) same-slots made)

-- ---- a slot is emptied

module _ {t s : List ℕ} (f : WellFormed t s) (slot : ℕ) {n₀ r : List ℕ} (blank : Blank n₀ r) {part c : ℕ} (is-part : part ≡ walked_words t) (is_c : c ≡ length t / 3)
    {n : List ℕ} (copied : Copied s 0 n₀ n slot_count) (same : length n ≡ length n₀) {n₁ : List ℕ} (emptied : n₁ ≡ set n slot 0) where
  left_are : n₁ ≡ set s slot 0
  left_are = emptied ∙ ap (λ (m : List ℕ). set m slot 0) (copied_whole copied f.slots (same ∙ blank.slots))

  left_inside : (j : ℕ) → j < slot_count → get_or (set s slot 0) j 0 ≤ size (walked t)
  left_inside j in-j = by-eq j slot
      (λ e. let z : get_or (set s slot 0) j 0 ≡ 0 = rw e (get_or-set_same s slot 0 0 (let all = f.slots in omega arith)) in omega arith)
      (λ ne. rw (get_or-set_other s slot j 0 0 ne) (slot_inside f j in-j))

  pub left_begun : Begun (take part t) c n₁ r
  left_begun =
      begun f blank (λ j in-j. rw left_are (left_inside j in-j)) (ap length left_are ∙ length-set s slot 0 ∙ f.slots) is-part is_c

  module _ {n' r' : List ℕ} {count : ℕ} (made : Composed (take part t) (held (take part t) n₁) c n' r' count) where
    pub left_composed : Composed (take part t) (with_dropped t s slot) (size t) n' r' count
    left_composed =
        let same-slots : held (take part t) n₁ ≡ with_dropped t s slot = rw (left_are, is-part) (walked_held t s f (set s slot 0) ∙ held_dropped t s slot) in
        subst (λ (k : ℕ). Composed (take part t) (with_dropped t s slot) k n' r' count) is_c
        (subst (λ (cs : List Slot). Composed (take part t) cs c n' r' count) same-slots made)

    -- fewer conditions never need more places
    pub left_fits : count ≤ size t
    left_fits = let is = count_is f is-part left_composed in let fits = dropped_fit t s f slot in omega arith
