-- What is promised of cuts, proved.
use Prim.Native.Nat.{ℕ, ◌+◌, ◌≤◌, ◌<◌}
use mathlib.Core.Path.{◌≡◌, sym, ◌∙◌}
use mathlib.Core.Bool.{Bool, true, false, cond}
use mathlib.Core.List.{List, []}
use native.Mathlib.Omega.{arith}
use lib.ListN.{length}
use lib.Dec.{leb, eqb}
use borrow.Author.Tests.{le-leb}
use Rattle.diagram.specs.Diagram.{size, vars, root, holds, Ordered, Accepted}
use Rattle.diagram.specs.Valuations.{meets}
use Rattle.diagram.specs.Verdict.{accepted}
use Rattle.diagram.proofs.Tests.{both_and, cond-true, cond-false}
use Rattle.diagram.proofs.Reading.{accepted_ordered}
use Rattle.reduction.specs.Reduce.{reduce}
use Rattle.reduction.proofs.Count.{count, count_mono}
use Rattle.approximation.specs.Cut.{listed, cut, list_of}
use Rattle.approximation.specs.Sorted.{Distinct}
use Rattle.approximation.specs.Demand2.{ByList, Demand2}
use Rattle.approximation.proofs.Send.{send_is_cut}
use Rattle.approximation.proofs.Cut.{hits, cut_root_under, cut_root_over, cut_smaller, cut_holds_lem, cut_reduced, cut_under, cut_over, cut_same, cut_none}
use Rattle.approximation.proofs.Members.{each_listed, count_listed, order_sorted, order_distinct, order_listed, order_unique}
use Rattle.approximation.proofs.Listing.{list_accepted, list_verdict, under_accepted_open, over_accepted_open, over_accepted_most}
use Rattle.approximation.proofs.Rules.{under_size, over_size, under_count, over_count}
use Rattle.approximation.proofs.Sizing.{under_accepted_some, over_accepted_some, over_accepted_least, size_verdict_lem}
use Rattle.approximation.proofs.Settling.{size_under, size_over, count_under, count_over, settles_size_under, settles_size_over, settles_count_under, settles_count_over}

module _ (w list : List ℕ) (o : Ordered w) where
  list_holds : (t : ℕ) → t < 2 → (bs : List Bool) → length bs ≡ vars w
      → holds (cut w (listed list) t) bs ≡ cond (meets w bs (listed list)) (eqb t 1) (holds w bs)
  list_holds t h bs l = cut_holds_lem w o (listed list) t h bs l

  list_free : (t : ℕ) → t < 2 → (bs : List Bool) → length bs ≡ vars w → meets w bs (listed list) ≡ false
      → holds (cut w (listed list) t) bs ≡ holds w bs
  list_free t h bs l e = list_holds t h bs l ∙ cond-false (meets w bs (listed list)) (eqb t 1) (holds w bs) e

  list_met : (t : ℕ) → t < 2 → (bs : List Bool) → length bs ≡ vars w → meets w bs (listed list) ≡ true
      → holds (cut w (listed list) t) bs ≡ eqb t 1
  list_met t h bs l e = list_holds t h bs l ∙ cond-true (meets w bs (listed list)) (eqb t 1) (holds w bs) e

  -- A list that isn't refused.
  module _ (fine : list_of w list ≡ accepted (size w) (vars w)) where
    list_node : (p : ℕ) → listed list p ≡ true → (2 ≤ p) × (p < size w)
    list_node = each_listed (λ p. (2 ≤ p) × (p < size w)) list (list_accepted w list (size w) (vars w) fine)

    list_less : (t : ℕ) → t < 2 → size (cut w (listed list) t) + count (size w) (hits (listed list)) ≤ size w
    list_less t h = cut_smaller w o (listed list) t h (λ e. (list_node (root w) e).0)

    list_fits : (t : ℕ) → t < 2 → size (cut w (listed list) t) ≤ size w
    list_fits t h = let less = list_less t h in omega arith

    list_smaller : Distinct list → (t : ℕ) → t < 2 → size (cut w (listed list) t) + length list ≤ size w
    list_smaller d t h =
        let less = list_less t h in
        let found = count_listed (size w) d (λ p e. (list_node p e).1) in
        let all = count_mono (size w) (listed list) (hits (listed list))
        (λ p in-w e. both_and (leb 2 p) (listed list p) (le-leb 2 p (list_node p e).0) e) in
        omega arith

pub by_list : (w list : List ℕ) → Accepted w → ByList w list
by_list w list a =
    let o = accepted_ordered w a in
    record {
      elsewhere = λ bs l e. (list_free w list o 0 (omega arith) bs l e, list_free w list o 1 (omega arith) bs l e);
      met = λ bs l e. (list_met w list o 0 (omega arith) bs l e, list_met w list o 1 (omega arith) bs l e);
      under = cut_under w o (listed list);
      over = cut_over w o (listed list);
      reduced = (cut_reduced w o (listed list) 0 (omega arith), cut_reduced w o (listed list) 1 (omega arith));
      sent = λ e. (sym (send_is_cut w o (listed list) 0 (omega arith) e), sym (send_is_cut w o (listed list) 1 (omega arith) e));
      rooted = λ e. (cut_root_under w o (listed list) e, cut_root_over w o (listed list) e);
      members = λ others same.
          (cut_same w o (listed list) (listed others) 0 (λ p h. same p), cut_same w o (listed list) (listed others) 1 (λ p h. same p));
      fits = λ fine. (list_fits w list o fine 0 (omega arith), list_fits w list o fine 1 (omega arith));
      smaller = λ fine d. (list_smaller w list o fine d 0 (omega arith), list_smaller w list o fine d 1 (omega arith));
    }

empty_list : (w : List ℕ) (t : ℕ) → cut w (listed []) t ≡ reduce w
unfolding listed
empty_list w t = cut_none w t

pub demand2 : Demand2
demand2 = record {
  list_verdict = list_verdict;
  by_list = by_list;
  empty = λ w. (empty_list w 0, empty_list w 1);
  priorities = λ w. record { sorted = order_sorted w; distinct = order_distinct w; nodes = order_listed w };
  no_others = λ w list p. order_unique w list p.sorted p.distinct p.nodes;
  size_verdict_lem = size_verdict_lem;
  size_under = λ as_is w t a e. size_under w t a as_is (under_accepted_some w t e);
  size_over = λ as_is w t a e. size_over w t a as_is (over_accepted_some w t e);
  count_under = λ as_is w k a e. count_under w k a (under_accepted_open w k e) as_is;
  count_over = λ as_is w k a e. count_over w k a (over_accepted_most w k e) (over_accepted_open w k e) as_is;
  settles_size_under = settles_size_under;
  settles_size_over = settles_size_over;
  settles_count_under = λ w k a e. settles_count_under w k a (under_accepted_open w k e);
  settles_count_over = λ w k a e. settles_count_over w k a (over_accepted_most w k e) (over_accepted_open w k e);
  under_size = λ w t e. under_size w t (under_accepted_some w t e);
  over_size = λ w t a e. over_size w t a (over_accepted_least w t e);
  under_count = λ w k a e. under_count w k a (under_accepted_open w k e);
  over_count = λ w k a e. over_count w k a (over_accepted_most w k e) (over_accepted_open w k e);
}
