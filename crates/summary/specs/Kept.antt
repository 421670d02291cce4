-- What adding and dropping answer and leave where a summary is kept beside the pool, for any words. `kept` is the lent words: those of the
-- first records, one for each variable, and then words that are neither looked at nor changed.
use Rattle.std.specs.Prelude.{ℕ, ◌≡◌, Bool, true, false, not, ◌&&◌, List, [], ◌∷◌, ◌++◌, length, take, drop, ltb, eqb}
use Rattle.diagram.specs.Diagram.{size, vars}
use Rattle.diagram.specs.Verdict.{Verdict, Outcome, accepted, said, row, if_accepted, room_after}
use Rattle.diagram.specs.declared.verdict.Output.TheVariants.{Nothing}
use Rattle.pool.specs.Pool.{is_pool, table_of, slots_of}
use Rattle.pool.specs.Answers.{with_added, with_dropped, add_of, drop_of}
use Rattle.summary.specs.Summary.{summary_words, fresh_summary}

-- Two lists have the same words.
unfoldable pub same : List ℕ → List ℕ → Bool
same [] [] = true
same [] (y ∷ ys) = false
same (x ∷ xs) [] = false
same (x ∷ xs) (y ∷ ys) = eqb x y && same xs ys

-- The first records are those worked out afresh.
unfoldable pub agrees : (t s kept : List ℕ) → Bool
agrees t s kept = same (take (summary_words t) kept) (fresh_summary t s)

-- The words with the summary worked out afresh in front.
abbrev pub renewed : (t s kept : List ℕ) → List ℕ
renewed t s kept = fresh_summary t s ++ drop (summary_words t) kept

-- ---- the verdicts

-- 46 and 37: there is a pool, and a record for each variable.
unfoldable pub roomy : (t s kept : List ℕ) → Outcome → Outcome
roomy t s kept below =
    row 46 (not (is_pool t s)) 0
    (row 37 (ltb (length kept) (summary_words t)) 0
    below)

-- And 47: the records agree with the pool. Then what would be answered without a summary.
unfoldable pub beside : (t s kept : List ℕ) → Outcome → Outcome
beside t s kept answer = roomy t s kept (row 47 (not (agrees t s kept)) 0 answer)

abbrev pub add_beside : (t s kept w : List ℕ) (room k : ℕ) → Outcome
add_beside t s kept w room k = beside t s kept (add_of t s w room k)

abbrev pub drop_beside : (t s kept : List ℕ) (k : ℕ) → Outcome
drop_beside t s kept k = beside t s kept (drop_of t s k)

-- A pool with a summary that agrees, with the number of the places.
abbrev pub standing : (t s kept : List ℕ) → Outcome
standing t s kept = beside t s kept (accepted (size t) (vars t))

abbrev pub summarized : (t s kept : List ℕ) → Outcome
summarized t s kept = roomy t s kept (accepted (size t) (vars t))

-- ---- the contracts: every word that is left, for any words

-- A refused addition or drop changes no word of table, slots and summary; after one that is answered the summary is worked out afresh from the
-- new pool. The room is as it was after 46, 37 and 47, and else as the diagram's check leaves it.
pub record AddsBeside (t s kept w : List ℕ) (k : ℕ) (t' s' kept' room room' : List ℕ) (r : Verdict) : Type 0 where
  pub verdict : said r ≡ add_beside t s kept w (length room) k
  pub table : t' ≡ if_accepted (add_beside t s kept w (length room) k) (table_of (size t) (vars t) (with_added t s w k)) t
  pub slots : s' ≡ if_accepted (add_beside t s kept w (length room) k) (slots_of (vars t) (with_added t s w k)) s
  pub summary : kept' ≡ if_accepted (add_beside t s kept w (length room) k) (renewed t' s' kept) kept
  pub left : room' ≡ if_accepted (standing t s kept) (room_after w Nothing room) room

pub record DropsBeside (t s kept : List ℕ) (k : ℕ) (t' s' kept' : List ℕ) (r : Verdict) : Type 0 where
  pub verdict : said r ≡ drop_beside t s kept k
  pub table : t' ≡ if_accepted (drop_beside t s kept k) (table_of (size t) (vars t) (with_dropped t s k)) t
  pub slots : s' ≡ if_accepted (drop_beside t s kept k) (slots_of (vars t) (with_dropped t s k)) s
  pub summary : kept' ≡ if_accepted (drop_beside t s kept k) (renewed t' s' kept) kept

-- Working a summary out, for a pool that has none or has another one.
pub record Summarizes (t s kept kept' : List ℕ) (r : Verdict) : Type 0 where
  pub verdict : said r ≡ summarized t s kept
  pub summary : kept' ≡ if_accepted (summarized t s kept) (renewed t s kept) kept
