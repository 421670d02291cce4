-- Any list of calls that begins with the empty pool and a summary of zeros: by induction on the calls, what is kept is the summary worked out
-- afresh, and so each call answers as it does without one.
use Prim.Native.Nat.{ℕ, zero, suc, ◌+◌, ◌-◌, ◌*◌, ◌≤◌}
use mathlib.Core.Path.{◌≡◌, refl, sym, ap, ◌∙◌, subst}
use mathlib.Core.List.{List, [], ◌∷◌, ◌++◌}
use native.Mathlib.Omega.{arith}
use lib.ListN.{length, get_or, take, drop, replicate, length-append, length-replicate}
use lib.Seq.{get_or-append-add, take_at}
use Rattle.diagram.specs.Limits.{max_nodes, max_variables}
use Rattle.diagram.specs.Diagram.{size, vars}
use Rattle.diagram.specs.Verdict.{Outcome, accepted, refused, if_accepted}
use Rattle.diagram.proofs.Reading.{by_two}
use Rattle.pool.specs.Pool.{slot_count, terminal_words, WellFormed, Free}
use Rattle.pool.specs.Answers.{add_of, drop_of}
use Rattle.pool.specs.History.{Lent, empty_pool, Call, add, drop as drop_at, read, after, run}
use Rattle.pool.proofs.Testing.{free_tells}
use Rattle.pool.proofs.Histories.{history}
use Rattle.summary.specs.Summary.{record_words, summary_words, is_node_at, depends_on, nodes_at, slots_at, fresh_summary}
use Rattle.summary.specs.Kept.{renewed}
use Rattle.summary.specs.Summaries.{Roomy, Renewed}
use Rattle.summary.specs.Evenings.{Evening, changed, next, through, begun, Evenings}
use Rattle.summary.proofs.Counting.{many_never, at_terminal, at_free, nodes_all, slots_all, depends_empty, fresh_is, renewed_front, renewed_behind, renewed_length}
use Rattle.summary.proofs.Rows.{beside_on}

-- ---- the empty pool

abbrev zeros : ℕ → List ℕ
zeros k = replicate k 0

zeros_length : (k : ℕ) → length (zeros k) ≡ k
zeros_length k = length-replicate k 0

zeros_at : (k j : ℕ) → get_or (zeros k) j 0 ≡ 0
zeros_at zero j = refl
zeros_at (suc k) zero = refl
zeros_at (suc k) (suc j) = zeros_at k j

module _ (n v : ℕ) where
  abbrev table : List ℕ
  table = (empty_pool n v).table

  abbrev slots : List ℕ
  slots = (empty_pool n v).slots

  -- Behind the terminals there are zeros.
  word_behind : (j : ℕ) → terminal_words ≤ j → get_or table j 0 ≡ 0
  unfolding empty_pool
  word_behind j h =
      let behind : terminal_words + (j - terminal_words) ≡ j = omega arith in
      subst (λ (x : ℕ). get_or (v ∷ 0 ∷ 0 ∷ v ∷ 1 ∷ 1 ∷ zeros (3 * (n - 2))) x 0 ≡ 0) behind
      (get_or-append-add (v ∷ 0 ∷ 0 ∷ v ∷ 1 ∷ 1 ∷ []) (zeros (3 * (n - 2))) (j - terminal_words) 0 ∙ zeros_at (3 * (n - 2)) (j - terminal_words))

  place_free : (p : ℕ) → 2 ≤ p → Free table p
  place_free p two = record {
    var = word_behind (3 * p) (omega arith);
    low = word_behind (3 * p + 1) (omega arith);
    high = word_behind (3 * p + 2) (omega arith);
  }

  empty_vars : vars table ≡ v
  unfolding empty_pool
  empty_vars = refl

  empty_nodes : (i : ℕ) → nodes_at table i ≡ 0
  empty_nodes i = nodes_all table i ∙ many_never (size table) (is_node_at table i) (λ p h. by_two p
      (at_terminal table i p)
      (λ two. at_free table i p (free_tells table p (place_free p two))))

  empty_slot : (k : ℕ) → get_or slots k 0 ≡ 0
  unfolding empty_pool
  empty_slot k = zeros_at slot_count k

  empty_slots : (i : ℕ) → slots_at table slots i ≡ 0
  empty_slots i = slots_all table slots i
      ∙ many_never slot_count (λ k. depends_on table i (get_or slots k 0)) (λ k h. ap (depends_on table i) (empty_slot k) ∙ depends_empty table i)

  empty_fresh : zeros (record_words * v) ≡ fresh_summary table slots
  empty_fresh = fresh_is table slots (zeros (record_words * v)) (zeros_length (record_words * v) ∙ ap (λ (u : ℕ). record_words * u) (sym empty_vars))
      (λ i h. zeros_at (record_words * v) (record_words * i) ∙ sym (empty_nodes i))
      (λ i h. zeros_at (record_words * v) (record_words * i + 1) ∙ sym (empty_slots i))

-- ---- a pool that calls make of the empty one, with its summary

run_last : (calls : List Call) (c : Call) (p : Lent) → run (calls ++ (c ∷ [])) p ≡ after c (run calls p)
unfolding run
run_last [] c p = refl
run_last (d ∷ calls) c p = run_last calls c (after d p)

-- A call that is refused changes no pool.
settled : (o : Outcome) (p changed-to was : Lent) → p ≡ if_accepted o changed-to was → if_accepted o p was ≡ p
settled (accepted n v) p changed-to was e = refl
settled (refused number place) p changed-to was e = sym e

pool_of_lem : (o : Outcome) (yes-case no-case : Evening) → (if_accepted o yes-case no-case).pool ≡ if_accepted o yes-case.pool no-case.pool
pool_of_lem (accepted n v) yes-case no-case = refl
pool_of_lem (refused number place) yes-case no-case = refl

module _ (n v : ℕ) (two : 2 ≤ n) (few : n ≤ max_nodes) (variables : v ≤ max_variables) (before : List ℕ) where
  record Standing (e : Evening) : Type 0 where
    calls : List Call
    made : e.pool ≡ run calls (empty_pool n v)
    long : record_words * v ≤ length e.kept
    fresh : take (record_words * v) e.kept ≡ fresh_summary e.pool.table e.pool.slots
    behind : drop (record_words * v) e.kept ≡ drop (record_words * v) before

  either : (o : Outcome) (yes-case no-case : Evening) → Standing yes-case → Standing no-case → Standing (if_accepted o yes-case no-case)
  either (accepted m u) yes-case no-case a b = a
  either (refused number place) yes-case no-case a b = b

  made_vars : (calls : List Call) (p : Lent) → p ≡ run calls (empty_pool n v) → vars p.table ≡ v
  made_vars calls p e = ap (λ (q : Lent). vars q.table) e ∙ history.vars_stay n v two few variables calls

  module _ (e : Evening) (st : Standing e) where
    formed : WellFormed e.pool.table e.pool.slots
    formed = subst (λ (p : Lent). WellFormed p.table p.slots) (sym st.made) (history.stays n v two few variables st.calls)

    same_words : summary_words e.pool.table ≡ record_words * v
    same_words = ap (λ (u : ℕ). record_words * u) (made_vars st.calls e.pool st.made)

    roomy : Roomy e.pool.table e.pool.slots e.kept
    roomy = record { pool = formed; long = let a = st.long in let b = same_words in omega arith }

    agreeing : take (summary_words e.pool.table) e.kept ≡ fresh_summary e.pool.table e.pool.slots
    agreeing = rw same_words st.fresh

    -- ---- one call

    changed_words : (c : Call) → summary_words (after c e.pool).table ≡ record_words * v
    changed_words c =
        ap (λ (u : ℕ). record_words * u)
        (made_vars (st.calls ++ (c ∷ [])) (after c e.pool) (ap (after c) st.made ∙ sym (run_last st.calls c (empty_pool n v))))

    changed_stands : (c : Call) → Standing (changed c e)
    unfolding changed
    changed_stands c =
        let t : List ℕ = (after c e.pool).table in
        let s : List ℕ = (after c e.pool).slots in
        let words : summary_words t ≡ record_words * v = changed_words c in
        let enough = st.long in
        let length-is = renewed_length t s e.kept (omega arith) in
        record {
          calls = st.calls ++ (c ∷ []);
          made = ap (after c) st.made ∙ sym (run_last st.calls c (empty_pool n v));
          long = omega arith;
          fresh = subst (λ (k : ℕ). take k (renewed t s e.kept) ≡ fresh_summary t s) words (renewed_front t s e.kept);
          behind = subst (λ (k : ℕ). drop k (renewed t s e.kept) ≡ drop k e.kept) words (renewed_behind t s e.kept) ∙ st.behind;
        }

    -- Each call answers as it does without a summary.
    next_add : (w : List ℕ) (room k : ℕ) → next (add w room k) e ≡ if_accepted (add_of e.pool.table e.pool.slots w room k) (changed (add w room k) e) e
    unfolding next
    next_add w room k =
        ap (λ (o : Outcome). if_accepted o (changed (add w room k) e) e)
        (beside_on e.pool.table e.pool.slots e.kept (add_of e.pool.table e.pool.slots w room k) roomy agreeing)

    next_drop : (k : ℕ) → next (drop_at k) e ≡ if_accepted (drop_of e.pool.table e.pool.slots k) (changed (drop_at k) e) e
    unfolding next
    next_drop k =
        ap (λ (o : Outcome). if_accepted o (changed (drop_at k) e) e)
        (beside_on e.pool.table e.pool.slots e.kept (drop_of e.pool.table e.pool.slots k) roomy agreeing)

    next_stands : (c : Call) → Standing (next c e)
    unfolding next
    next_stands (add w room k) =
        subst Standing (sym (next_add w room k))
        (either (add_of e.pool.table e.pool.slots w room k) (changed (add w room k) e) e (changed_stands (add w room k)) st)
    next_stands (drop_at k) =
        subst Standing (sym (next_drop k))
        (either (drop_of e.pool.table e.pool.slots k) (changed (drop_at k) e) e (changed_stands (drop_at k)) st)
    next_stands (read k room out) = st

    next_pool : (c : Call) → (next c e).pool ≡ after c e.pool
    unfolding next changed after
    next_pool (add w room k) =
        ap (λ (x : Evening). x.pool) (next_add w room k)
        ∙ pool_of_lem (add_of e.pool.table e.pool.slots w room k) (changed (add w room k) e) e
        ∙ settled (add_of e.pool.table e.pool.slots w room k) (after (add w room k) e.pool) _ e.pool refl
    next_pool (drop_at k) =
        ap (λ (x : Evening). x.pool) (next_drop k)
        ∙ pool_of_lem (drop_of e.pool.table e.pool.slots k) (changed (drop_at k) e) e
        ∙ settled (drop_of e.pool.table e.pool.slots k) (after (drop_at k) e.pool) _ e.pool refl
    next_pool (read k room out) = refl

    still_renewed : Renewed e.pool.table e.pool.slots before e.kept
    still_renewed = record { fresh = agreeing; behind = rw same_words st.behind }

  -- ---- any calls

  through_stands : (calls : List Call) (e : Evening) → Standing e → Standing (through calls e)
  unfolding through
  through_stands [] e st = st
  through_stands (c ∷ calls) e st = through_stands calls (next c e) (next_stands e st c)

  through_pool : (calls : List Call) (e : Evening) → Standing e → (through calls e).pool ≡ run calls e.pool
  unfolding through run
  through_pool [] e st = refl
  through_pool (c ∷ calls) e st = through_pool calls (next c e) (next_stands e st c) ∙ ap (run calls) (next_pool e st c)

module _ (n v : ℕ) (two : 2 ≤ n) (few : n ≤ max_nodes) (variables : v ≤ max_variables) (behind : List ℕ) where
  begins : Standing n v two few variables (begun n v behind).kept (begun n v behind)
  unfolding run
  begins = record {
    calls = [];
    made = refl;
    long = omega (arith, length-append (zeros (record_words * v)) behind, zeros_length (record_words * v));
    fresh = take_at (zeros (record_words * v)) behind (record_words * v) (zeros_length (record_words * v)) ∙ empty_fresh n v;
    behind = refl;
  }

  pools_after : (calls : List Call) → (through calls (begun n v behind)).pool ≡ run calls (empty_pool n v)
  pools_after calls = through_pool n v two few variables (begun n v behind).kept calls (begun n v behind) begins

  kept_after : (calls : List Call)
      → Renewed (run calls (empty_pool n v)).table (run calls (empty_pool n v)).slots (begun n v behind).kept (through calls (begun n v behind)).kept
  kept_after calls =
      subst (λ (p : Lent). Renewed p.table p.slots (begun n v behind).kept (through calls (begun n v behind)).kept) (pools_after calls)
      (still_renewed n v two few variables (begun n v behind).kept (through calls (begun n v behind))
      (through_stands n v two few variables (begun n v behind).kept calls (begun n v behind) begins))

pub evenings : Evenings
evenings = record { pools = pools_after; keeps = kept_after }
