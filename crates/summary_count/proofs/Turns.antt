-- Slots counted one after the other: variable by variable once a slot is walked, and then slot by slot.
use Prim.Native.Nat.{ℕ, suc, ◌+◌, ◌-◌, ◌*◌, ◌≤◌, ◌<◌}
use mathlib.Core.Path.{◌≡◌, refl, sym, ap, ◌∙◌, subst}
use mathlib.Core.Logic.{◌≢◌}
use mathlib.Core.Bool.{cond}
use mathlib.Core.List.{List}
use native.Mathlib.Omega.{arith}
use lib.ListN.{length, get_or, set, drop, replicate, length-set, length-replicate, get_or-replicate, get_or-eq_default}
use lib.Dec.{eqb, ltb}
use borrow.Author.Tests.{eq-eqb, ne_eqb, ltb-true, ltb-false}
use Rattle.diagram.specs.Limits.{max_nodes}
use Rattle.diagram.specs.Diagram.{vars}
use Rattle.diagram.proofs.Tests.{by_test, by-eq, cond-true, cond-false}
use Rattle.pool.specs.Pool.{slot_count}
use Rattle.summary.specs.Summary.{record_words, comes_to, depends_on}
use Rattle.summary.proofs.Counting.{many_most, slots_none, slots_empty, slots_on, slots_off, slots_all}
use Rattle.summary_count.specs.Counting.{nodes_in, slots_in, Behind}
use Rattle.summary_count.specs.Walking.{marks, with_slot, Noting, Noted, Stamping, Stamped, slots_before, Slotting, Slotted, Working, Worked}
use Rattle.summary_count.proofs.Records.{slots_set, slots_stay, nodes_by_slots, rest_by_slots}

-- ---- the variables that a slot has stamped

-- The slots of a variable afterwards.
abbrev after : ℕ → List ℕ → List ℕ → ℕ → ℕ
after number work kept i = cond (eqb (get_or work i 0) number) (suc (slots_in kept i)) (slots_in kept i)

-- One variable.
module _ (work : List ℕ) (number i : ℕ) (kept : List ℕ) where
  pub off_stays : (get_or work i 0 ≡ number → ⊥) → kept ≡ with_slot work number i kept
  unfolding with_slot
  off_stays off = sym (cond-false (eqb (get_or work i 0) number) (set kept (record_words * i + 1) (slots_in kept i + 1)) kept (ne_eqb (get_or work i 0) number off))

  pub on_counts : get_or work i 0 ≡ number → (x : ℕ) → x ≡ slots_in kept i → {kept' : List ℕ} → kept' ≡ set kept (record_words * i + 1) (x + 1)
      → kept' ≡ with_slot work number i kept
  unfolding with_slot
  on_counts on x is_x e =
      e ∙ ap (λ (y : ℕ). set kept (record_words * i + 1) (y + 1)) is_x
      ∙ sym (cond-true (eqb (get_or work i 0) number) (set kept (record_words * i + 1) (slots_in kept i + 1)) kept (eq-eqb (get_or work i 0) number on))

-- So it is of the variables below n; the others are as they were.
pub record Through (v number : ℕ) (work kept : List ℕ) (n : ℕ) (kept' : List ℕ) : Type 0 where
  pub long : length kept' ≡ length kept
  pub rest : drop (record_words * v) kept' ≡ drop (record_words * v) kept
  pub nodes : (i : ℕ) → i < v → nodes_in kept' i ≡ nodes_in kept i
  pub gone : (i : ℕ) → i < n → i < v → slots_in kept' i ≡ after number work kept i
  pub left : (i : ℕ) → n ≤ i → i < v → slots_in kept' i ≡ slots_in kept i

module _ (v number : ℕ) (work kept : List ℕ) (noting : Noting v kept) where
  module _ (n : ℕ) {kept' : List ℕ} (through : Through v number work kept n kept') (inside : n < v) where
    enough : record_words * v ≤ length kept'
    enough = let e = through.long in let l = noting.long in omega arith

    one_on : get_or work n 0 ≡ number → Through v number work kept (suc n) (set kept' (record_words * n + 1) (slots_in kept' n + 1))
    one_on on =
        let x = slots_in kept' n + 1 in
        record {
          long = length-set kept' (record_words * n + 1) x ∙ through.long;
          rest = rest_by_slots v kept' enough n inside x ∙ through.rest;
          nodes = λ i h. nodes_by_slots v kept' enough n inside x i ∙ through.nodes i h;
          gone = λ i m h. by-eq i n
              (λ e.
              let was = through.left n (omega arith) inside in
              let one : slots_in kept' n + 1 ≡ suc (slots_in kept n) = omega arith in
              rw e (slots_set v kept' enough n inside x ∙ one
              ∙ sym (cond-true (eqb (get_or work n 0) number) (suc (slots_in kept n)) (slots_in kept n) (eq-eqb (get_or work n 0) number on))))
              (λ other. slots_stay v kept' enough n inside x i other ∙ through.gone i (omega arith) h);
          left = λ i m h. slots_stay v kept' enough n inside x i (λ e. absurd (omega arith)) ∙ through.left i (omega arith) h;
        }

    one_off : (get_or work n 0 ≡ number → ⊥) → Through v number work kept (suc n) kept'
    one_off off = record {
      long = through.long;
      rest = through.rest;
      nodes = through.nodes;
      gone = λ i m h. by-eq i n
          (λ e. rw e (through.left n (omega arith) inside ∙ sym (cond-false (eqb (get_or work n 0) number) (suc (slots_in kept n)) (slots_in kept n) (ne_eqb (get_or work n 0) number off))))
          (λ other. through.gone i (omega arith) h);
      left = λ i m h. through.left i (omega arith) h;
    }

    one_more : Through v number work kept (suc n) (with_slot work number n kept')
    unfolding with_slot
    one_more = by-eq (get_or work n 0) number
        (λ on. rw (eq-eqb (get_or work n 0) number on) (one_on on))
        (λ off. rw (ne_eqb (get_or work n 0) number off) (one_off off))

    pub one_next : {kept₂ : List ℕ} → kept₂ ≡ with_slot work number n kept' → Through v number work kept (n + 1) kept₂
    one_next e = subst (λ (l : List ℕ). Through v number work kept (n + 1) l) (sym e) (subst (λ (m : ℕ). Through v number work kept m (with_slot work number n kept')) (omega arith) one_more)

-- ---- a slot

module _ (t s kept work : List ℕ) (k : ℕ) (slotting : Slotting t s kept work k) where
  -- An empty one counts nowhere.
  slot_empty : get_or s k 0 ≡ 0 → Slotted t s k kept kept work work
  slot_empty e = record {
    behind = record { long = refl; rest = refl };
    nodes = λ i h. refl;
    slots = λ i h. slotting.slots i h ∙ sym (slots_empty t s i k e);
    room = refl;
    few = λ j. let f = slotting.few j in omega arith;
  }

  module _ (r : ℕ) (named : get_or s k 0 ≡ suc r) where
    inside_slots : k < slot_count
    inside_slots = by-eq k slot_count
        (λ e. absurd (let z = get_or-eq_default s 0 {n = k} (let l = slotting.pool.slots in omega arith) in omega arith))
        (λ other. let i = slotting.inside in omega arith)

    from_root : Stamping t work (suc k) r
    from_root = record {
      slots = s;
      pool = slotting.pool;
      place = slotting.pool.named k r (record { inside = inside_slots; names = named });
      long = slotting.room;
      settled = λ q i place two is h on. absurd (let f = slotting.few (marks + q) in omega arith);
      few = λ j. let f = slotting.few j in omega arith;
    }

    ready_to_note : Noting (vars t) kept
    ready_to_note = record {
      variables = slotting.pool.variables;
      long = slotting.long;
      few = λ i h.
          let e = slotting.slots i h in
          let m = many_most k (λ j. depends_on t i (get_or s j 0)) in
          let l = inside_slots in
          omega arith;
    }

    module _ {work' kept' : List ℕ} (stamped : Stamped t work (suc k) r work') (noted : Noted (vars t) (suc k) work' kept kept') where
      counted : (i : ℕ) → i < vars t → slots_in kept' i ≡ slots_before t s (suc k) i
      counted i h = by_test (comes_to t i (vars t) r)
          (λ on.
          let stamp = stamped.stamps i h ∙ cond-true (comes_to t i (vars t) r) (suc k) (get_or work i 0) on in
          noted.slots i h
          ∙ cond-true (eqb (get_or work' i 0) (suc k)) (suc (slots_in kept i)) (slots_in kept i) (eq-eqb (get_or work' i 0) (suc k) stamp)
          ∙ ap suc (slotting.slots i h) ∙ sym (slots_on t s i k r named on))
          (λ off.
          let stamp = stamped.stamps i h ∙ cond-false (comes_to t i (vars t) r) (suc k) (get_or work i 0) off in
          let few = slotting.few i in
          noted.slots i h
          ∙ cond-false (eqb (get_or work' i 0) (suc k)) (suc (slots_in kept i)) (slots_in kept i) (ne_eqb (get_or work' i 0) (suc k) (λ e. absurd (omega arith)))
          ∙ slotting.slots i h ∙ sym (slots_off t s i k r named off))

      slot_counted : Slotted t s k kept kept' work work'
      slot_counted = record {
        behind = record { long = noted.long; rest = noted.rest };
        nodes = noted.nodes;
        slots = counted;
        room = stamped.long;
        few = stamped.few;
      }

-- The same with the words that the code has read.
module _ {t s kept work : List ℕ} {k : ℕ} (slotting : Slotting t s kept work k) {name : ℕ} (is_name : name ≡ get_or s k 0) where
  pub slot_skipped : name ≡ 0 → Slotted t s k kept kept work work
  slot_skipped none = slot_empty t s kept work k slotting (sym is_name ∙ none)

  module _ (some : name ≢ 0) where
    named : get_or s k 0 ≡ suc (name - 1)
    named = sym is_name ∙ omega arith

    number : suc k ≡ k + 1
    number = omega arith

    pub slot_root : Stamping t work (k + 1) (name - 1)
    slot_root = subst (λ (n : ℕ). Stamping t work n (name - 1)) number (from_root t s kept work k slotting (name - 1) named)

    module _ {v : ℕ} (is_vars : v ≡ vars t) where
      pub slot_ready : Noting v kept
      slot_ready = subst (λ (n : ℕ). Noting n kept) (sym is_vars) (ready_to_note t s kept work k slotting (name - 1) named)

      pub slot_done : {work' kept' : List ℕ} → Stamped t work (k + 1) (name - 1) work' → Noted v (k + 1) work' kept kept' → Slotted t s k kept kept' work work'
      slot_done {work'} {kept'} stamped noted =
          slot_counted t s kept work k slotting (name - 1) named
          (subst (λ (n : ℕ). Stamped t work n (name - 1) work') (sym number) stamped)
          (subst (λ (n : ℕ). Noted (vars t) n work' kept kept') (sym number) (subst (λ (n : ℕ). Noted n (k + 1) work' kept kept') is_vars noted))

-- ---- all slots

-- The first k slots are counted, and nothing else has changed.
pub record Up (t s kept : List ℕ) (k : ℕ) (kept' work : List ℕ) : Type 0 where
  pub slotting : Slotting t s kept' work k
  pub behind : Behind t kept kept'
  pub nodes : (i : ℕ) → i < vars t → nodes_in kept' i ≡ nodes_in kept i

abbrev zeros : ℕ → List ℕ
zeros n = replicate n 0

zeros_long : (n : ℕ) → length (zeros n) ≡ n
zeros_long n = length-replicate {A = ℕ} n 0

zero_anywhere : (n j : ℕ) → get_or (zeros n) j 0 ≡ 0
zero_anywhere n j = by_test (ltb j n)
    (λ e. get_or-replicate {A = ℕ} n j 0 0 (ltb-true j n e))
    (λ e. get_or-eq_default (zeros n) 0 {n = j} (let l = zeros_long n in let h = ltb-false j n e in omega arith))

module _ (t s kept : List ℕ) where
  pub up_all : {k : ℕ} {kept' work : List ℕ} → slot_count ≤ k → Up t s kept k kept' work → Worked t s kept kept'
  up_all {k} end up =
      let is : k ≡ slot_count = let i = up.slotting.inside in omega arith in
      record {
        behind = up.behind;
        nodes = up.nodes;
        slots = λ i h. up.slotting.slots i h ∙ ap (λ (n : ℕ). slots_before t s n i) is ∙ sym (slots_all t s i);
      }

  pub work_begins : Working t s kept → (work : List ℕ) → work ≡ zeros (marks + max_nodes) → Slotting t s kept work 0
  work_begins working work e = record {
    pool = working.pool;
    long = working.long;
    inside = omega arith;
    slots = λ i h. working.none i h ∙ sym (slots_none t s i);
    room = ap length e ∙ zeros_long (marks + max_nodes);
    few = λ j. let z = ap (λ (l : List ℕ). get_or l j 0) e ∙ zero_anywhere (marks + max_nodes) j in omega arith;
  }
