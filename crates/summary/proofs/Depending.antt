-- A live slot depends on a variable exactly where a way leads from its root to a node that tests it. Where there is one, some bits lead along it,
-- and others tell the node's children apart; where there is none, the path never asks for the variable's bit.
use Prim.Native.Nat.{ℕ, zero, suc, ◌+◌, ◌≤◌, ◌<◌}
use mathlib.Core.Path.{◌≡◌, refl, sym, ap, ◌∙◌, subst}
use mathlib.Core.Logic.{⊎_elim, ◌≢◌}
use mathlib.Core.Bool.{Bool, true, false, not, cond, ◌||◌}
use mathlib.Core.List.{List, [], ◌∷◌}
use native.Mathlib.Omega.{arith}
use lib.ListN.{length, get_or, set, length-set}
use lib.Dec.{eqb}
use borrow.Author.Tests.{eqb-true, eq-eqb}
use Rattle.diagram.specs.Diagram.{var_of, low_of, high_of, vars}
use Rattle.diagram.specs.Reading.{pass, eval}
use Rattle.diagram.proofs.Tests.{by_test, not_both, or_cases}
use Rattle.diagram.proofs.Reading.{by_pass, pass_tests, pass_skips, eval_cons}
use Rattle.counts.specs.Counting.{Number}
use Rattle.pool.specs.Pool.{slot_count, WellFormed, Inner, Live, holds_from}
use Rattle.pool.proofs.Walked.{holds_from_eval}
use Rattle.summary.specs.Summary.{comes_to, depends_on, slots_at}
use Rattle.summary.specs.Summaries.{switched, Depends}
use Rattle.summary.proofs.Counting.{Place, place_node, place_inside, low_place, high_place, comes_end, comes_step, comes_node, depends_empty, depends_live, slots_all}
use Rattle.summary.proofs.Numbers.{number_as, many_number}
use Rattle.summary.proofs.Apart.{table_ordered, Stands, by_level, pass_stands, Apart, apart}

neither : (a b : Bool) → (a || b) ≡ false → (a ≡ false) × (b ≡ false)
neither true b e = absurd (not_both true refl e)
neither false b e = (refl, e)

module _ (t s : List ℕ) (f : WellFormed t s) (i : ℕ) where
  abbrev comes : ℕ → Bool
  comes p = comes_to t i (vars t) p

  -- ---- a way goes by smaller variables to a node

  comes_before : (d p : ℕ) → Place t p → comes_to t i d p ≡ true → Inner t p × (var_of t p ≤ i)
  unfolding comes_to
  comes_before zero p place e = absurd (not_both false e refl)
  comes_before (suc d) p place e = ⊎_elim
      (λ ends. absurd (not_both (comes_to t i (suc d) p) e (comes_end t i (suc d) p ends)))
      (λ node. (
        node,
        or_cases (eqb (var_of t p) i) (comes_to t i d (low_of t p) || comes_to t i d (high_of t p)) (sym (comes_step t i d p node.after) ∙ e)
            (λ here. let same = eqb-true (var_of t p) i here in omega arith)
            (λ on. or_cases (comes_to t i d (low_of t p)) (comes_to t i d (high_of t p)) on
            (λ low. let up = (f.ordered p node).low in let rest = (comes_before d (low_of t p) (low_place t s f p node) low).1 in omega arith)
            (λ high. let up = (f.ordered p node).high in let rest = (comes_before d (high_of t p) (high_place t s f p node) high).1 in omega arith)),
      ))
      place

  -- ---- no way: the variable's bit is never asked for

  record Clear (p : ℕ) : Type 0 where
    place : Place t p
    none : comes p ≡ false

  -- A node without a way tests another variable, and its children have none.
  clear_node : (p : ℕ) → Inner t p → comes p ≡ false → (eqb (var_of t p) i ≡ false) × (comes (low_of t p) ≡ false) × (comes (high_of t p) ≡ false)
  clear_node p node e =
      let a = neither (eqb (var_of t p) i) (comes (low_of t p) || comes (high_of t p)) (sym (comes_node t s f i p node) ∙ e) in
      let b = neither (comes (low_of t p)) (comes (high_of t p)) a.1 in
      (a.0, b.0, b.1)

  clear_child : (p : ℕ) (b : Bool) → Inner t p → comes p ≡ false → Clear (cond b (high_of t p) (low_of t p))
  clear_child p true node e = record { place = high_place t s f p node; none = (clear_node p node e).2 }
  clear_child p false node e = record { place = low_place t s f p node; none = (clear_node p node e).1 }

  clear_pass : (j p : ℕ) (b : Bool) → Clear p → Clear (pass t j p b)
  clear_pass j p b c = by_pass Clear t j p b (λ two e. clear_child p b (place_node t p c.place two) c.none) c

  clear_stays : (p : ℕ) (b : Bool) → Clear p → pass t i p b ≡ p
  clear_stays p b c = by_pass (λ q. q ≡ p) t i p b
      (λ two e. absurd (not_both (eqb (var_of t p) i) (eq-eqb (var_of t p) i e) (clear_node p (place_node t p c.place two) c.none).0))
      refl

  clear_eval : (bs : List Bool) (m j p : ℕ) (b : Bool) → j + m ≡ i → Clear p → eval t j p bs ≡ eval t j p (set bs m b)
  unfolding eval
  clear_eval [] m j p b at_i c = refl
  clear_eval (x ∷ bs) zero j p b at_i c =
      let here : j ≡ i = omega arith in
      rw here (ap (λ (q : ℕ). eval t (suc i) q bs) (clear_stays p x c ∙ sym (clear_stays p b c)))
  clear_eval (x ∷ bs) (suc m) j p b at_i c = clear_eval bs m (suc j) (pass t j p x) b (omega arith) (clear_pass j p x c)

  -- ---- a way: bits that lead along it, and tell the children apart

  module _ (inside : i < vars t) where
    some : 0 < vars t
    some = omega arith

    -- Bits of the variables from j on, for which the path's end changes with the m-th of them.
    record Turning (j m p k : ℕ) : Type 0 where
      bits : List Bool
      count : length bits ≡ k
      turns : eval t j p bits ≢ eval t j p (switched m bits)

    eval_child : (p : ℕ) (b : Bool) (bs : List Bool) → Inner t p → var_of t p ≡ i
        → eval t i p (b ∷ bs) ≡ eval t (suc i) (cond b (high_of t p) (low_of t p)) bs
    eval_child p b bs node e = eval_cons t i p b bs ∙ ap (λ (q : ℕ). eval t (suc i) q bs) (pass_tests t i p b node.after e)

    turn_here : (p k : ℕ) → i + suc k ≡ vars t → Inner t p → var_of t p ≡ i → Turning i 0 p (suc k)
    turn_here p k left node e =
        let a : Apart t s f some (suc i) (low_of t p) (high_of t p) k =
        apart t s f some k (suc i) (low_of t p) (high_of t p) (omega arith)
        (record { place = low_place t s f p node; level = let up = (f.ordered p node).low in omega arith })
        (record { place = high_place t s f p node; level = let up = (f.ordered p node).high in omega arith })
        (f.lean p node) in
        record {
          bits = false ∷ a.bits;
          count = ap suc a.count;
          turns = λ same. a.differ (sym (eval_child p false a.bits node e) ∙ same ∙ eval_child p true a.bits node e);
        }

    turn_on : (j m p k : ℕ) (b : Bool) → Turning (suc j) m (pass t j p b) k → Turning j (suc m) p (suc k)
    unfolding eval
    turn_on j m p k b r = record { bits = b ∷ r.bits; count = ap suc r.count; turns = r.turns }

    -- Before variable i some bit leads on along a way.
    way_on : {C : Type 0} (j p : ℕ) → j < i → Stands t s f some j p → comes p ≡ true → ((b : Bool) → comes (pass t j p b) ≡ true → C) → C
    way_on j p h st e next = by_level t s f some j p (omega arith) st
        (λ node var.
        or_cases (eqb (var_of t p) i) (comes (low_of t p) || comes (high_of t p)) (sym (comes_node t s f i p node) ∙ e)
        (λ here. let same = eqb-true (var_of t p) i here in absurd (omega arith))
        (λ on. or_cases (comes (low_of t p)) (comes (high_of t p)) on
        (λ low. next false (ap comes (pass_tests t j p false node.after var) ∙ low))
        (λ high. next true (ap comes (pass_tests t j p true node.after var) ∙ high))))
        (λ up. next false (ap comes (pass_skips t j p false up) ∙ e))

    turning : (m k j p : ℕ) → j + m ≡ i → j + k ≡ vars t → Stands t s f some j p → comes p ≡ true → Turning j m p k
    turning zero zero j p at_i left st e = absurd (omega arith)
    turning (suc m) zero j p at_i left st e = absurd (omega arith)
    turning zero (suc k) j p at_i left st e =
        let here : j ≡ i = omega arith in
        let b = comes_before (vars t) p st.place e in
        let level = st.level in
        let most = b.1 in
        subst (λ (x : ℕ). Turning x 0 p (suc k)) (sym here) (turn_here p k (omega arith) b.0 (omega arith))
    turning (suc m) (suc k) j p at_i left st e = way_on j p (omega arith) st e
        (λ b on. turn_on j m p k b (turning m k (suc j) (pass t j p b) (omega arith) (omega arith) (pass_stands t s f some j p b (omega arith) st) on))

    -- ---- a live slot

    module _ (k r : ℕ) (live : Live s k r) where
      root_place : Place t r
      root_place = f.named k r live

      reads : (bs : List Bool) → length bs ≡ vars t → holds_from t r bs ≡ eval t 0 r bs
      reads = holds_from_eval t (table_ordered t s f some) r (place_inside t s f r root_place)

      way_depends : comes r ≡ true → Depends t s i k
      way_depends e =
          let a : Turning 0 i r (vars t) = turning i (vars t) 0 r (omega arith) (omega arith) (record { place = root_place; level = omega arith }) e in
          record {
            root = r;
            is_live = live;
            valuation = a.bits;
            each = a.count;
            changes = λ same. a.turns (sym (reads a.bits a.count) ∙ same ∙ reads (switched i a.bits) (length-set a.bits i _ ∙ a.count));
          }

      depends_way : (bs : List Bool) → length bs ≡ vars t → holds_from t r bs ≢ holds_from t r (switched i bs) → comes r ≡ true
      depends_way bs count changes = by_test (comes r)
          (λ on. on)
          (λ off. absurd (changes (reads bs count
          ∙ clear_eval bs i 0 r (not (get_or bs i false)) (omega arith) (record { place = root_place; none = off })
          ∙ sym (reads (switched i bs) (length-set bs i _ ∙ count)))))

    word_told : (k x : ℕ) → k < slot_count → get_or s k 0 ≡ x → depends_on t i x ≡ true → Depends t s i k
    word_told k zero in-slots names e = absurd (not_both (depends_on t i 0) e (depends_empty t i))
    word_told k (suc r) in-slots names e = way_depends k r (record { inside = in-slots; names = names }) (sym (depends_live t i r) ∙ e)

    word_tells : (k : ℕ) → Depends t s i k → depends_on t i (get_or s k 0) ≡ true
    word_tells k d =
        ap (depends_on t i) d.is_live.names ∙ depends_live t i d.root ∙ depends_way k d.root d.is_live d.valuation d.each d.changes

    pub slots_number : Number (Depends t s i) (slots_at t s i)
    slots_number = number_as
        (λ k b. word_told k (get_or s k 0) b.0 refl b.1)
        (λ k d. (d.is_live.inside, word_tells k d))
        (sym (slots_all t s i)) (many_number slot_count (λ k. depends_on t i (get_or s k 0)))
