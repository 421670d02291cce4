-- The cut by the first priorities.
use Prim.Native.Nat.{ℕ, suc, ◌+◌, ◌-◌, ◌*◌, ◌≤◌, ◌<◌, min}
use mathlib.Core.Path.{◌≡◌, refl, sym, ap, ◌∙◌}
use mathlib.Core.Bool.{Bool, not, ◌||◌}
use mathlib.Core.List.{List, ◌++◌}
use native.Mathlib.Omega.{arith}
use lib.ListN.{length, get_or, take, drop, replicate, length-append, length-replicate, length-drop, get_or-replicate, get_or-append}
use lib.Seq.{get_or-take, get_or-append-add, take-take, length-take-le}
use lib.Dec.{eqb}
use borrow.Rule.Slice.PartMut.{put_mid, mid_of, post_of, take_put, drop_put, mid_len}
use Rattle.diagram.specs.Diagram.{size}
use Rattle.diagram.specs.Verdict.{most}
use Rattle.room_map.specs.Map.{marks_to, tables_from, answer_from, tables_to}
use Rattle.approximation.specs.Cut.{cut, listed}
use Rattle.approximation.specs.Search.{order, cut_first}
use Rattle.approximation.proofs.Cut.{cut_same, cut_most}
use Rattle.approximation.proofs.Members.{order_length, order_nodes}
use Rattle.cuts.specs.Marks.{marked_in, Markable, Marked, Cutting, CutWithin}
use Rattle.cuts.proofs.Marking.{present}
use Rattle.cuts.proofs.Rooms.{drop_more}
use Rattle.trials.specs.Trials.{Ready, Trying, Tried}
use Rattle.trials.specs.First.{Unmarkable, Unmarked, FirstMarkable, Limited, TriedWithin}
use Rattle.trials.proofs.Readying.{ready_front, ready_marks}

-- ---- no marks

module _ {r : List ℕ} {n : ℕ} (a : Unmarkable r n) where
  pub unmarked : {part : List ℕ} → part ≡ replicate (min n (length (mid_of n (marks_to n - n) r))) 0 ++ drop n (mid_of n (marks_to n - n) r)
      → Unmarked n r (put_mid n (marks_to n - n) r part)
  unfolding marked_in
  unmarked {part} e =
      let long = a.long in
      let mid : length (mid_of n (marks_to n - n) r) ≡ n = mid_len n (marks_to n) r long ∙ omega arith in
      let all : min n (length (mid_of n (marks_to n - n) r)) ≡ n = omega arith in
      let zeros = length-replicate {A = ℕ} n 0 in
      let rest = length-drop n (mid_of n (marks_to n - n) r) in
      let is : part ≡ replicate n 0 ++ drop n (mid_of n (marks_to n - n) r) = e ∙ ap (λ (k : ℕ). replicate k 0 ++ drop n (mid_of n (marks_to n - n) r)) all in
      let size : length part ≡ n = ap (λ (l : List ℕ). length l) is ∙ length-append (replicate n 0) (drop n (mid_of n (marks_to n - n) r)) ∙ omega arith in
      let front : length (take n r) ≡ n = length-take-le n r (omega arith) in
      let after = put_mid n (marks_to n - n) r part in
      record {
        kept =
            length-append (take n r) (part ++ post_of n (marks_to n - n) r)
            ∙ (let both = length-append part (post_of n (marks_to n - n) r) in
            let post = length-drop (marks_to n - n) (drop n r) in
            let tail = length-drop n r in
            omega arith);
        none = λ q h.
            let at : get_or (take n r ++ (part ++ post_of n (marks_to n - n) r)) (length (take n r) + q) 0 ≡ 0 =
            get_or-append-add (take n r) (part ++ post_of n (marks_to n - n) r) q 0
            ∙ get_or-append part (post_of n (marks_to n - n) r) 0 q (omega arith)
            ∙ ap (λ (l : List ℕ). get_or l q 0) is
            ∙ get_or-append (replicate n 0) (drop n (mid_of n (marks_to n - n) r)) 0 q (omega arith)
            ∙ get_or-replicate n q 0 0 h in
            let place : n + q ≡ length (take n r) + q = omega arith in
            ap (λ (x : ℕ). not (eqb x 0)) (ap (λ (i : ℕ). get_or (take n r ++ (part ++ post_of n (marks_to n - n) r)) i 0) place ∙ at);
        before = take_put n (marks_to n - n) r part (omega arith);
        beyond = drop_put n (marks_to n) r part (omega arith) long (omega arith);
      }

-- ---- marks of the first

module _ {r : List ℕ} {n c : ℕ} (a : FirstMarkable r n c) where
  pub first_markable : Markable (take c r) r n
  first_markable =
      let long = a.long in
      let within = a.within in
      record {
        few = a.few;
        long = long;
        inside = λ j h.
            let inside : j < c = rw (length-take-le c r (omega arith)) at h in
            rw (get_or-take c r j 0 inside) (a.inside j inside);
      }

  pub first_long : length (take c r) ≡ c
  first_long = let long = a.long in let within = a.within in length-take-le c r (omega arith)

  pub first_read : {i x : ℕ} {s : List ℕ} → Marked (take i (take c r)) n r s → i < c → x ≡ get_or s i 0 → x ≡ get_or (take c r) i 0
  first_read {i} {x} {s} m h e =
      let within = a.within in
      e ∙ sym (get_or-take n s i 0 (omega arith)) ∙ ap (λ (l : List ℕ). get_or l i 0) m.before ∙ get_or-take n r i 0 (omega arith) ∙ sym (get_or-take c r i 0 h)

-- ---- the cut

module _ {w sent r : List ℕ} {c n v : ℕ} (a : Trying w sent r c n v) where
  pub trying_unmarkable : Unmarkable r n
  trying_unmarkable =
      let few = a.ordered.formed.few in
      let is = a.is_size in
      let long = a.long in
      record { few = omega arith; long = omega arith }

  module _ {s : List ℕ} (none : Unmarked n r s) where
    ready_none : Ready w s
    ready_none = ready_marks a.ready none.kept (rw (sym a.is_size) none.before) (rw (sym a.is_size) none.beyond)

    first_is : take c s ≡ take c (order w)
    first_is =
        let few = a.few in
        let is = a.is_size in
        sym (take-take c (size w - 2) s (omega arith)) ∙ ap (λ (l : List ℕ). take c l) ready_none.order

    order_at : (j : ℕ) → j < size w - 2 → get_or s j 0 ≡ get_or (order w) j 0
    order_at j h = sym (get_or-take (size w - 2) s j 0 h) ∙ ap (λ (l : List ℕ). get_or l j 0) ready_none.order

    pub trying_markable : FirstMarkable s n c
    trying_markable =
        let few = a.ordered.formed.few in
        let is = a.is_size in
        let long = a.long in
        let fits = a.few in
        let kept = none.kept in
        let all = order_length w in
        record {
          few = omega arith;
          long = omega arith;
          within = omega arith;
          inside = λ j h.
              let e = order_at j (omega arith) in
              let in_order = (order_nodes w (get_or (order w) j 0) (present (order w) j (get_or (order w) j 0) (omega arith) refl)).1 in
              omega arith;
        }

    module _ {t : List ℕ} (marks : Marked (take c s) n s t) where
      ready_marked : Ready w t
      ready_marked = ready_marks ready_none marks.kept (rw (sym a.is_size) marks.before) (rw (sym a.is_size) marks.beyond)

      is_most : most w ≡ n
      is_most = let many = a.many in let is = a.is_size in omega arith

      marks_are : (q : ℕ) → q < size w → marked_in (most w) t q ≡ listed (take c (order w)) q
      marks_are q h =
          let is = a.is_size in
          ap (λ (k : ℕ). marked_in k t q) is_most ∙ marks.marks q ∙ ap (λ (b : Bool). b || listed (take c s) q) (none.none q (omega arith))
          ∙ ap (λ (l : List ℕ). listed l q) first_is

      pub trying_cutting : {l : ℕ} → 2 ≤ l → l ≤ n → Cutting w sent t l 0 n v
      trying_cutting two within =
          let m = is_most in
          let long = a.long in
          let same = none.kept in
          let kept = marks.kept in
          record {
            ordered = a.ordered;
            is_size = a.is_size;
            is_vars = a.is_vars;
            two = two;
            within = omega arith;
            terminal = omega arith;
            copy = a.copy;
            long = omega arith;
          }

      cut_is : cut w (marked_in (most w) t) 0 ≡ cut_first w c
      unfolding cut_first
      cut_is = cut_same w a.ordered (marked_in (most w) t) (listed (take c (order w))) 0 marks_are

      most_is : most w ≡ size w
      most_is = is_most ∙ a.is_size

      module _ {l : ℕ} {u : List ℕ} {k : ℕ} (x : CutWithin w l 0 t u k) where
        kept_all : length u ≡ length r
        kept_all = x.kept ∙ marks.kept ∙ none.kept

        ready_all : Ready w u
        ready_all =
            let m = is_most in
            let long = a.long in
            let is = a.is_size in
            let same = none.kept in
            let kept = marks.kept in
            ready_front ready_marked x.kept (omega arith)
            (ap (λ (i : ℕ). take (tables_from i) u) (sym most_is) ∙ x.before ∙ ap (λ (i : ℕ). take (tables_from i) t) most_is)

        beyond_all : drop (tables_to (size w)) u ≡ drop (tables_to (size w)) r
        beyond_all =
            let is = a.is_size in
            ap (λ (i : ℕ). drop (tables_to i) u) (sym most_is) ∙ x.beyond ∙ ap (λ (i : ℕ). drop (tables_to i) t) (most_is ∙ sym is)
            ∙ drop_more (marks_to n) (tables_to n) t s (omega arith) marks.beyond ∙ drop_more (marks_to n) (tables_to n) s r (omega arith) none.beyond
            ∙ ap (λ (i : ℕ). drop (tables_to i) r) is

        all_tried : k ≤ l → Tried w c r u k
        all_tried few =
            let y = x.cut_in few in
            record {
              count = y.count ∙ ap (λ (i : List ℕ). size i) cut_is;
              words = ap (λ (i : List ℕ). length i) (sym cut_is) ∙ y.words;
              fits = y.fits;
              kept = kept_all;
              made = ap (λ (i : ℕ). take (3 * k) (drop (answer_from i) u)) (sym most_is) ∙ y.made ∙ cut_is;
              ready = ready_all;
              beyond = beyond_all;
            }

        pub tried_within : TriedWithin w l c r u k
        tried_within = record {
          count = x.count ∙ ap (λ (i : List ℕ). min (size i) (suc l)) cut_is;
          tried = all_tried;
          kept = kept_all;
          ready = ready_all;
          beyond = beyond_all;
        }

  -- With as many places as there are nodes.
  pub all_limited : Limited w sent r n c n v
  all_limited = record { trying = a; two = let many = a.many in omega arith; within = omega arith }

  pub tried : {u : List ℕ} {k : ℕ} → TriedWithin w n c r u k → Tried w c r u k
  unfolding cut_first
  tried x =
      let few = cut_most w a.ordered (listed (take c (order w))) 0 (omega arith) in
      let e = x.count in
      let is = a.is_size in
      let many = a.many in
      x.tried (omega arith)
