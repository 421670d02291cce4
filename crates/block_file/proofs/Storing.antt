-- The tests of the writer, and its blocks one after another.
use Prim.Native.Nat.{ℕ, zero, suc, ◌+◌, ◌-◌, ◌*◌, ◌%◌, ◌≤◌, ◌<◌}
use mathlib.Core.Path.{◌≡◌, refl, sym, ap, ◌∙◌}
use mathlib.Core.Logic.{◌≢◌}
use mathlib.Core.Bool.{Bool, true, false}
use mathlib.Core.List.{List, [], ◌++◌}
use native.Mathlib.Omega.{arith}
use native.Mathlib.Numerals.{add-one}
use lib.ListN.{length, get_or, take, drop, length-take, length-drop, length-append, get_or-eq_default}
use lib.Seq.{take_all, get_or-take, get_or-drop}
use lib.Dec.{ltb}
use borrow.Author.Tests.{lt-ltb, le-ltb, eq-eqb, ne_eqb, ltb-false, eqb-true, eqb-false, not-false}
use Rattle.diagram.specs.Diagram.{var_of, size}
use Rattle.diagram.proofs.Count.{Scanned, scan_start, scan_on, scan_hit, scan_end, first_least}
use Rattle.writing.specs.Writing.{Wrote}
use Rattle.writing.proofs.Laws.{wrote_fits, by_le, Still, still_begins}
use Rattle.blocks.specs.Block.{Stored, Outcome, nodes, refused, said, row, here, block_of, Whole, block_bytes, block_nodes, block_words, max_stored, pair_span}
use Rattle.diagram.specs.declared.verdict.Refused.{Refused}
use Rattle.std.specs.Prelude.{Ok, Err}
use Rattle.blocks.proofs.Front.{block_length}
use Rattle.block_file.specs.File.{widest, part, block_count, blocks_from, file_of, first_wide, write_outcome, written, WritesFile, Storable}

-- ---- the rows

module _ (w : List ℕ) (lent : ℕ) where
  pub refused_1 : length w ≡ 0 → refused 1 0 ≡ write_outcome w lent
  unfolding write_outcome row
  refused_1 h = simp (eq-eqb (length w) 0 h)

  module _ (some : length w ≢ 0) where
    pub refused_2 : length w % 3 ≢ 0 → refused 2 0 ≡ write_outcome w lent
    unfolding write_outcome row
    refused_2 h = simp (ne_eqb (length w) 0 some, ne_eqb (length w % 3) 0 h)

    module _ (whole : length w % 3 ≡ 0) where
      pub refused_25 : max_stored < size w → refused 25 0 ≡ write_outcome w lent
      unfolding write_outcome row
      refused_25 h = simp (ne_eqb (length w) 0 some, eq-eqb (length w % 3) 0 whole, lt-ltb max_stored (size w) h)

      module _ (few : size w ≤ max_stored) where
        pub refused_4 : lent < block_bytes * block_count (size w) → refused 4 0 ≡ write_outcome w lent
        unfolding write_outcome row
        refused_4 h = simp (ne_eqb (length w) 0 some, eq-eqb (length w % 3) 0 whole, le-ltb max_stored (size w) few, lt-ltb lent (block_bytes * block_count (size w)) h)

        module _ (fits : block_bytes * block_count (size w) ≤ lent) where
          pub refused_26 : {p : ℕ} → p ≡ first_wide w → p < size w → refused 26 p ≡ write_outcome w lent
          unfolding write_outcome row
          refused_26 {p} e h =
              let h' : first_wide w < size w = rw e at h in
              rw e
              (simp (
                ne_eqb (length w) 0 some,
                eq-eqb (length w % 3) 0 whole,
                le-ltb max_stored (size w) few,
                le-ltb lent (block_bytes * block_count (size w)) fits,
                lt-ltb (first_wide w) (size w) h',
              ))

          pub storable : {p : ℕ} → p ≡ first_wide w → size w ≤ p → nodes (size w) ≡ write_outcome w lent
          unfolding write_outcome row
          storable {p} e h =
              let h' : size w ≤ first_wide w = rw e at h in
              simp (
                ne_eqb (length w) 0 some,
                eq-eqb (length w % 3) 0 whole,
                le-ltb max_stored (size w) few,
                le-ltb lent (block_bytes * block_count (size w)) fits,
                le-ltb (first_wide w) (size w) h',
              )

-- ---- the blocks

pub part_is : (w : List ℕ) (number : ℕ) → length w ≡ 3 * size w → take (3 * here (size w) number) (drop (block_words * number) w) ≡ part w number
part_is w number whole =
    by_le block_nodes (size w - block_nodes * number)
    (λ h. let e : 3 * here (size w) number ≡ block_words = omega arith in rw e)
    (λ h.
    let e : 3 * here (size w) number ≡ length (drop (block_words * number) w) = simp length-drop (omega arith) in
    take_all (3 * here (size w) number) (drop (block_words * number) w) (omega arith) ∙ sym (take_all block_words (drop (block_words * number) w) (omega arith)))

pub part_few : (w : List ℕ) (number : ℕ) → length (part w number) ≤ block_words
part_few w number = omega (arith, length-take block_words (drop (block_words * number) w))

-- what stands at a place of a part
part_none : (w : List ℕ) (number k : ℕ) → block_words ≤ k → get_or (part w number) k 0 ≡ 0
part_none w number k h = get_or-eq_default (part w number) 0 (omega (arith, part_few w number))

part_some : (w : List ℕ) (number k : ℕ) → k < block_words → get_or (part w number) k 0 ≡ get_or w (block_words * number + k) 0
part_some w number k h = get_or-take block_words (drop (block_words * number) w) k 0 h ∙ get_or-drop (block_words * number) w k 0

pub part_small : (w : List ℕ) (number m : ℕ) → 0 < m → ((k : ℕ) → get_or w k 0 < m) → (k : ℕ) → get_or (part w number) k 0 < m
part_small w number m pos small k =
    by_le block_words k
    (λ h. rw (part_none w number k h) pos)
    (λ h. rw (part_some w number k h) (small (block_words * number + k)))

pub part_narrow : (w : List ℕ) (number : ℕ) → ((p : ℕ) → var_of w p < pair_span) → (p : ℕ) → var_of (part w number) p < pair_span
part_narrow w number narrow p =
    by_le block_words (3 * p)
    (λ h. rw (part_none w number (3 * p) h) (omega arith))
    (λ h. let e : block_words * number + 3 * p ≡ 3 * (block_nodes * number + p) = omega arith in rw (part_some w number (3 * p) h, e) (narrow (block_nodes * number + p)))

pub blocks_next : (w : List ℕ) (number left : ℕ) → 0 < left → blocks_from w number left ≡ block_of (size w) number (part w number) ++ blocks_from w (number + 1) (left - 1)
unfolding blocks_from
blocks_next w number zero h = absurd (omega arith)
blocks_next w number (suc k) h = let e : suc k - 1 ≡ k = omega arith in rw (e, add-one number)

pub blocks_none : (w : List ℕ) (number left : ℕ) → left ≤ 0 → blocks_from w number left ≡ []
unfolding blocks_from
blocks_none w number left h = let e : left ≡ 0 = omega arith in rw e

pub blocks_length : (w : List ℕ) (number c : ℕ) → length (blocks_from w number c) ≡ block_bytes * c
unfolding blocks_from
blocks_length w number zero = refl
blocks_length w number (suc c) =
    simp length-append (omega (arith, blocks_length w (suc number) c, block_length (size w) number (part w number) (part_few w number)))

pub file_length : (w : List ℕ) → length (file_of w) ≡ block_bytes * block_count (size w)
unfolding file_of
file_length w = blocks_length w 0 (block_count (size w))

-- ---- variables that fit two bytes

pub record Narrow (w : List ℕ) (p : ℕ) : Type 0 where
  pub scanned : Scanned (λ q. ltb widest (var_of w q)) 0 p
  pub within : p ≤ size w

pub narrow_begins : (w : List ℕ) → Narrow w 0
narrow_begins w = record { scanned = scan_start (λ q. ltb widest (var_of w q)) 0; within = omega arith }

module _ {w : List ℕ} {p : ℕ} (a : Narrow w p) where
  pub narrow_end : size w ≤ p → size w ≡ first_wide w
  unfolding first_wide
  narrow_end h = omega (arith, a.within, scan_end (λ q. ltb widest (var_of w q)) 0 (size w) p a.scanned (omega (arith, a.within)))

  module _ (more : p < size w) {x : ℕ} (e : x ≡ var_of w p) where
    pub narrow_hit : widest < x → p ≡ first_wide w
    unfolding first_wide
    narrow_hit h =
        let h' : widest < var_of w p = rw e at h in
        scan_hit (λ q. ltb widest (var_of w q)) 0 (size w) p a.scanned (omega arith) (lt-ltb widest (var_of w p) h')

    pub narrow_on : x ≤ widest → Narrow w (p + 1)
    narrow_on h =
        let h' : var_of w p ≤ widest = rw e at h in
        record { scanned = scan_on (λ q. ltb widest (var_of w q)) 0 p a.scanned (le-ltb widest (var_of w p) h'); within = omega arith }

pub narrow_all : (w : List ℕ) → ((p : ℕ) → var_of w p < pair_span) → (p : ℕ) → p ≤ size w → Narrow w p
narrow_all w small zero h = narrow_begins w
narrow_all w small (suc p) h = rw (sym (add-one p)) (narrow_on (narrow_all w small p (omega arith)) (omega arith) refl (omega (arith, small p)))

-- ---- a block, and the blocks one after another

module _ {w : List ℕ} (a : Storable w) (number : ℕ) (more : block_nodes * number < size w) {h : ℕ} (eh : h ≡ here (size w) number) where
  lent_is : take (block_words * number + 3 * h - block_words * number) (drop (block_words * number) w) ≡ part w number
  lent_is =
      let e : block_words * number + 3 * h - block_words * number ≡ 3 * here (size w) number = omega arith in
      rw e (part_is w number a.whole)

  pub part_whole : Whole (size w) number (take (block_words * number + 3 * h - block_words * number) (drop (block_words * number) w))
  part_whole =
      let l : length (take (block_words * number + 3 * h - block_words * number) (drop (block_words * number) w)) ≡ 3 * here (size w) number = simp (length-take, length-drop) (omega (arith, a.whole)) in
      record { whole = omega arith; few = omega arith; narrow = rw lent_is (part_narrow w number a.narrow); counted = omega (arith, a.few); numbered = omega (arith, a.few) }

  pub wrote_part : {before left : List ℕ} {at place : ℕ} → Wrote (block_of (size w) number (take (block_words * number + 3 * h - block_words * number) (drop (block_words * number) w))) before at left place
      → Wrote (block_of (size w) number (part w number)) before at left place
  wrote_part b = rw lent_is at b

pub blocks_begin : (w file : List ℕ) → Still (file_of w) file 0 (blocks_from w 0 (block_count (size w) - 0)) file 0
unfolding file_of
blocks_begin w file =
    let e : block_count (size w) - 0 ≡ block_count (size w) = omega arith in
    rw e (still_begins (blocks_from w 0 (block_count (size w))) file 0)

pub blocks_step : (w : List ℕ) (number : ℕ) → number < block_count (size w)
    → blocks_from w number (block_count (size w) - number) ≡ block_of (size w) number (part w number) ++ blocks_from w (number + 1) (block_count (size w) - (number + 1))
blocks_step w number h =
    let e : block_count (size w) - (number + 1) ≡ block_count (size w) - number - 1 = omega arith in
    rw e (blocks_next w number (block_count (size w) - number) (omega arith))

pub blocks_end : (w : List ℕ) (number : ℕ) → block_count (size w) ≤ number → blocks_from w number (block_count (size w) - number) ≡ []
blocks_end w number h = blocks_none w number (block_count (size w) - number) (omega arith)

-- ---- the answers

pub passed : (k : ℕ) (t : Bool) (p : ℕ) (o : Outcome) {n : ℕ} → row k t p o ≡ nodes n → (t ≡ false) × (o ≡ nodes n)
unfolding row
passed k true p o e = let z : ◌≡◌ {A = ℕ} 0 1 = cc in absurd (omega arith)
passed k false p o e = (refl, e)

pub all_narrow : (w : List ℕ) → length w ≡ 3 * size w → size w ≤ first_wide w → (p : ℕ) → var_of w p < pair_span
unfolding first_wide
all_narrow w whole h p =
    by_le (size w) p
    (λ l. let z : var_of w p ≡ 0 = get_or-eq_default w 0 (omega arith) in omega arith)
    (λ l. let n = ltb-false widest (var_of w p) (first_least (λ q. ltb widest (var_of w q)) 0 (size w) p (omega arith) (omega arith)) in omega arith)

-- Words that may be written have passed every test.
pub record Written (w : List ℕ) (lent n : ℕ) : Type 0 where
  pub lengths : Storable w
  pub fits : block_bytes * block_count (size w) ≤ lent
  pub narrow : size w ≤ first_wide w
  pub count : size w ≡ n

pub is_written : (w : List ℕ) (lent n : ℕ) → write_outcome w lent ≡ nodes n → Written w lent n
unfolding write_outcome
is_written w lent n e =
    let a = passed _ _ _ _ e in
    let b = passed _ _ _ _ a.1 in
    let d = passed _ _ _ _ b.1 in
    let f = passed _ _ _ _ d.1 in
    let g = passed _ _ _ _ f.1 in
    let some : length w ≡ 0 → ⊥ = eqb-false _ _ a.0 in
    let whole : length w % 3 ≡ 0 = eqb-true _ _ (not-false _ b.0) in
    let wide : size w ≤ first_wide w = ltb-false _ _ g.0 in
    record {
      lengths = record { whole = omega arith; some = omega arith; few = ltb-false _ _ d.0; narrow = all_narrow w (omega arith) wide };
      fits = ltb-false _ _ f.0;
      narrow = wide;
      count = cc;
    }

module _ (w file : List ℕ) {r : Stored} (e : said r ≡ write_outcome w (length file)) where
  pub writes_refused : {x : Refused} → r ≡ Err x → WritesFile w file file (Err x)
  unfolding written
  writes_refused {x} f =
      let g : write_outcome w (length file) ≡ said (Err x) = sym e ∙ ap said f in
      record { answer = sym g; leaves = rw g }

  module _ {n : ℕ} (f : r ≡ Ok n) where
    outcome_is : write_outcome w (length file) ≡ nodes n
    outcome_is = sym e ∙ ap said f

    pub writes_storable : Storable w
    writes_storable = (is_written w (length file) n outcome_is).lengths

    pub writes_taken : {left : List ℕ} {p : ℕ} → Wrote (file_of w) file 0 left p → WritesFile w file left (Ok n)
    unfolding written
    writes_taken {left} b =
        let l : length (file_of w) ≤ length file = omega (arith, file_length w, (is_written w (length file) n outcome_is).fits) in
        let q : left ≡ take 0 file ++ file_of w ++ drop (0 + length (file_of w)) file = wrote_fits b (omega arith) in
        let z : 0 + length (file_of w) ≡ length (file_of w) = omega arith in
        record { answer = sym outcome_is; leaves = rw outcome_is (rw z at q) }
