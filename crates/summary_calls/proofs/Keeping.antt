-- Each of the returns of the operations.
use Prim.Native.Nat.{ℕ, ◌*◌, ◌≤◌, ◌<◌}
use mathlib.Core.Path.{◌≡◌, refl, sym, ap, ◌∙◌, subst}
use mathlib.Core.Bool.{true, false}
use mathlib.Core.List.{List}
use native.Mathlib.Omega.{arith}
use lib.ListN.{length, set, take, length-set}
use Rattle.diagram.specs.Diagram.{size, vars, holds}
use Rattle.diagram.specs.Verdict.{Verdict, Outcome, accepted, refused, said, if_accepted, room_after}
use Rattle.diagram.specs.declared.verdict.Output.TheVariants.{Nothing}
use Rattle.diagram.specs.declared.verdict.Extent.{Extent}
use Rattle.diagram.specs.declared.verdict.Refused.{Refused}
use Rattle.std.specs.Prelude.{Ok, Err}
use Rattle.diagram.proofs.Tests.{cond-true}
use Rattle.diagram.proofs.Outcomes.{never_both}
use Rattle.pool.specs.Pool.{slot_count, WellFormed, is_pool, Slot, empty, live, held, needs, table_of, slots_of}
use Rattle.pool.specs.Answers.{with_added, with_dropped, add_of, drop_of, Adds, Drops}
use Rattle.pool.proofs.Testing.{pool_told, pool_tells}
use Rattle.pool.proofs.Gathered.{held_length}
use Rattle.pool.proofs.Fewest.{dropped_fit}
use Rattle.pool.proofs.Tables.{table_vars}
use Rattle.pool.proofs.Closed.{table_formed}
use Rattle.pool.proofs.Rows.{added_fits}
use Rattle.summary.specs.Summary.{record_words, summary_words, fresh_summary}
use Rattle.summary.specs.Kept.{agrees, renewed, roomy, beside, add_beside, drop_beside, standing, summarized, AddsBeside, DropsBeside}
use Rattle.summary.specs.Summaries.{Roomy}
use Rattle.summary.proofs.Agreeing.{agrees_told}
use Rattle.summary.proofs.Rows.{by_roomy, roomy_off, roomy_short, roomy_on, by_beside, beside_on, beside_other}

-- ---- 46, 37 and 47

module _ (t s kept : List ℕ) where
  pub no_pool_there : is_pool t s ≡ false → summarized t s kept ≡ refused 46 0
  no_pool_there e = roomy_off t s kept (accepted (size t) (vars t)) e

  module _ (e : is_pool t s ≡ true) {v : ℕ} (is-v : v ≡ vars t) where
    pub too_short : length kept < record_words * v → summarized t s kept ≡ refused 37 0
    too_short h = roomy_short t s kept (accepted (size t) (vars t)) (pool_told t s e) (omega arith)

    pub long_enough : record_words * v ≤ length kept → summarized t s kept ≡ accepted (size t) v
    long_enough h =
        roomy_on t s kept (accepted (size t) (vars t)) (record { pool = pool_told t s e; long = omega arith })
        ∙ ap (accepted (size t)) (sym is-v)

module _ (t s kept : List ℕ) {r : Verdict} (told : said r ≡ summarized t s kept) where
  -- A refusal is given whatever comes behind it.
  pub refused_before : (below : Outcome) {x : Refused} → r ≡ Err x → roomy t s kept below ≡ said (Err x)
  refused_before below e = by_roomy t s kept (accepted (size t) (vars t))
      (λ none d. by_roomy t s kept below (λ n o. o ∙ sym d ∙ sym told ∙ ap said e) (λ f h o. absurd (none f)) (λ y o. absurd (none y.pool)))
      (λ f h d. by_roomy t s kept below (λ n o. absurd (n f)) (λ f₂ h₂ o. o ∙ sym d ∙ sym told ∙ ap said e) (λ y o. let l = y.long in absurd (omega arith)))
      (λ y d. absurd (never_both (sym told ∙ ap said e) d))

  pub stands_refused : {x : Refused} → r ≡ Err x → said (Err x) ≡ standing t s kept
  unfolding beside
  stands_refused e = sym (refused_before _ e)

  module _ {x : Extent} (yes-it : r ≡ Ok x) where
    pub roomy_told : Roomy t s kept
    roomy_told = by_roomy t s kept (accepted (size t) (vars t))
        (λ none d. absurd (never_both d (sym told ∙ ap said yes-it)))
        (λ f h d. absurd (never_both d (sym told ∙ ap said yes-it)))
        (λ y d. y)

    pub stands_other : agrees t s kept ≡ false → standing t s kept ≡ refused 47 0
    stands_other e = beside_other t s kept (accepted (size t) (vars t)) roomy_told e

    pub stands_told : agrees t s kept ≡ true → said (Ok x) ≡ standing t s kept
    stands_told e =
        sym (ap said yes-it) ∙ told ∙ roomy_on t s kept (accepted (size t) (vars t)) roomy_told
        ∙ sym (beside_on t s kept (accepted (size t) (vars t)) roomy_told (agrees_told t s kept e))

-- ---- adding and dropping

module _ (t s kept : List ℕ) {r : Verdict} (told : said r ≡ standing t s kept) where
  -- A refusal is given whatever would be answered.
  before_answer : (answer : Outcome) {x : Refused} → r ≡ Err x → beside t s kept answer ≡ said (Err x)
  before_answer answer e = by_beside t s kept (accepted (size t) (vars t))
      (λ none d. by_beside t s kept answer (λ n o. o ∙ sym d ∙ sym told ∙ ap said e) (λ f h o. absurd (none f)) (λ y ne o. absurd (none y.pool)) (λ y is o. absurd (none y.pool)))
      (λ f h d. by_beside t s kept answer (λ n o. absurd (n f)) (λ f₂ h₂ o. o ∙ sym d ∙ sym told ∙ ap said e)
      (λ y ne o. let l = y.long in absurd (omega arith)) (λ y is o. let l = y.long in absurd (omega arith)))
      (λ y ne d. by_beside t s kept answer (λ n o. absurd (n y.pool)) (λ f h o. let l = y.long in absurd (omega arith))
      (λ y₂ ne₂ o. o ∙ sym d ∙ sym told ∙ ap said e) (λ y₂ is o. absurd (ne is)))
      (λ y is d. absurd (never_both (sym told ∙ ap said e) d))

  pub add_before : (w : List ℕ) (k : ℕ) (room : List ℕ) {x : Refused} → r ≡ Err x → AddsBeside t s kept w k t s kept room room (Err x)
  add_before w k room e =
      let is = before_answer (add_of t s w (length room) k) e in
      let stays = sym told ∙ ap said e in
      record { verdict = sym is; table = rw is refl; slots = rw is refl; summary = rw is refl; left = rw stays refl }

  pub drop_before : (k : ℕ) {x : Refused} → r ≡ Err x → DropsBeside t s kept k t s kept (Err x)
  drop_before k e =
      let is = before_answer (drop_of t s k) e in
      record { verdict = sym is; table = rw is refl; slots = rw is refl; summary = rw is refl }

  module _ {x : Extent} (yes-it : r ≡ Ok x) where
    -- The pool and its summary stand.
    stands : Roomy t s kept × (take (summary_words t) kept ≡ fresh_summary t s)
    stands = by_beside t s kept (accepted (size t) (vars t))
        (λ none d. absurd (never_both d (sym told ∙ ap said yes-it)))
        (λ f h d. absurd (never_both d (sym told ∙ ap said yes-it)))
        (λ y ne d. absurd (never_both d (sym told ∙ ap said yes-it)))
        (λ y is d. (y, is))

    pub pool_there : is_pool t s ≡ true
    pool_there = pool_tells t s stands.0.pool

    answer_is : (answer : Outcome) → beside t s kept answer ≡ answer
    answer_is answer = beside_on t s kept answer stands.0 stands.1

    changed_pool : (cs : List Slot) → length cs ≡ slot_count → needs (vars t) cs ≤ size t → {t' s' : List ℕ}
        → t' ≡ table_of (size t) (vars t) cs → s' ≡ slots_of (vars t) cs → Roomy t' s' kept
    changed_pool cs count fits {t'} {s'} et es =
        let f = stands.0.pool in
        let formed : WellFormed t' s' = rw (et, es) (table_formed (size t) (vars t) cs count f.few f.variables fits) in
        let is_vars : vars t' ≡ vars t = ap (λ (l : List ℕ). vars l) et ∙ table_vars (size t) (vars t) cs in
        let long = stands.0.long in
        record { pool = formed; long = omega arith }

    put_long : (k : ℕ) (c : Slot) → length (set (held t s) k c) ≡ slot_count
    put_long k c = length-set (held t s) k c ∙ held_length t s ∙ stands.0.pool.slots

    module _ {w : List ℕ} {k : ℕ} {t' s' room room' : List ℕ} {a : Verdict} (adds : Adds t s w k t' s' room room' a) where
      add_answer : said a ≡ add_beside t s kept w (length room) k
      add_answer = adds.verdict ∙ sym (answer_is (add_of t s w (length room) k))

      module _ {kept' : List ℕ} (is : kept' ≡ if_accepted (said a) (renewed t' s' kept) kept) where
        add_all : AddsBeside t s kept w k t' s' kept' room room' a
        add_all =
            let same_answer = answer_is (add_of t s w (length room) k) in
            let accepts = sym told ∙ ap said yes-it in
            record {
              verdict = add_answer;
              table = rw same_answer adds.table;
              slots = rw same_answer adds.slots;
              summary = is ∙ ap (λ (o : Outcome). if_accepted o (renewed t' s' kept) kept) add_answer;
              left = adds.left ∙ cond-true (is_pool t s) (room_after w Nothing room) room pool_there ∙ sym (ap (λ (o : Outcome). if_accepted o (room_after w Nothing room) room) accepts);
            }

      pub add_refused : {y : Refused} → a ≡ Err y → AddsBeside t s kept w k t' s' kept room room' (Err y)
      add_refused e = subst (λ (v : Verdict). AddsBeside t s kept w k t' s' kept room room' v) e
          (add_all (sym (ap (λ (o : Outcome). if_accepted o (renewed t' s' kept) kept) (ap said e))))

      module _ {y : Extent} (added : a ≡ Ok y) where
        add_accepted : add_of t s w (length room) k ≡ said (Ok y)
        add_accepted = sym adds.verdict ∙ ap said added

        pub add_recounting : Roomy t' s' kept
        add_recounting = changed_pool (with_added t s w k) (put_long k (live (holds w))) (added_fits t s w (length room) k add_accepted)
            (adds.table ∙ ap (λ (o : Outcome). if_accepted o (table_of (size t) (vars t) (with_added t s w k)) t) add_accepted)
            (adds.slots ∙ ap (λ (o : Outcome). if_accepted o (slots_of (vars t) (with_added t s w k)) s) add_accepted)

        pub add_done : {kept' : List ℕ} → kept' ≡ renewed t' s' kept → AddsBeside t s kept w k t' s' kept' room room' (Ok y)
        add_done {kept'} e = subst (λ (v : Verdict). AddsBeside t s kept w k t' s' kept' room room' v) added
            (add_all (e ∙ sym (ap (λ (o : Outcome). if_accepted o (renewed t' s' kept) kept) (ap said added))))

    module _ {k : ℕ} {t' s' : List ℕ} {a : Verdict} (drops : Drops t s k t' s' a) where
      drop_answer : said a ≡ drop_beside t s kept k
      drop_answer = drops.verdict ∙ sym (answer_is (drop_of t s k))

      drop_all : {kept' : List ℕ} → kept' ≡ if_accepted (said a) (renewed t' s' kept) kept → DropsBeside t s kept k t' s' kept' a
      drop_all is =
          let same_answer = answer_is (drop_of t s k) in
          record {
            verdict = drop_answer;
            table = rw same_answer drops.table;
            slots = rw same_answer drops.slots;
            summary = is ∙ ap (λ (o : Outcome). if_accepted o (renewed t' s' kept) kept) drop_answer;
          }

      pub drop_refused : {y : Refused} → a ≡ Err y → DropsBeside t s kept k t' s' kept (Err y)
      drop_refused e = subst (λ (v : Verdict). DropsBeside t s kept k t' s' kept v) e
          (drop_all (sym (ap (λ (o : Outcome). if_accepted o (renewed t' s' kept) kept) (ap said e))))

      module _ {y : Extent} (dropped : a ≡ Ok y) where
        drop_accepted : drop_of t s k ≡ said (Ok y)
        drop_accepted = sym drops.verdict ∙ ap said dropped

        pub drop_recounting : Roomy t' s' kept
        drop_recounting = changed_pool (with_dropped t s k) (put_long k empty) (dropped_fit t s stands.0.pool k)
            (drops.table ∙ ap (λ (o : Outcome). if_accepted o (table_of (size t) (vars t) (with_dropped t s k)) t) drop_accepted)
            (drops.slots ∙ ap (λ (o : Outcome). if_accepted o (slots_of (vars t) (with_dropped t s k)) s) drop_accepted)

        pub drop_done : {kept' : List ℕ} → kept' ≡ renewed t' s' kept → DropsBeside t s kept k t' s' kept' (Ok y)
        drop_done {kept'} e = subst (λ (v : Verdict). DropsBeside t s kept k t' s' kept' v) dropped
            (drop_all (e ∙ sym (ap (λ (o : Outcome). if_accepted o (renewed t' s' kept) kept) (ap said dropped))))
