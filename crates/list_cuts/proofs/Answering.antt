-- The answer of cutting by a list.
use Prim.Native.Nat.{ℕ, ◌+◌, ◌*◌, ◌≤◌, ◌<◌, max, min}
use mathlib.Core.Path.{◌≡◌, refl, sym, ap, ◌∙◌}
use mathlib.Core.Bool.{not, ◌||◌}
use mathlib.Core.List.{List, ◌++◌}
use native.Mathlib.Omega.{arith}
use lib.ListN.{length, take, drop, replicate, take-append-drop}
use lib.Dec.{eqb}
use Rattle.diagram.specs.Limits.{max_nodes}
use Rattle.diagram.specs.Diagram.{size, vars}
use Rattle.diagram.specs.Verdict.{Verdict, said, most, room_of, Checked}
use Rattle.std.specs.Prelude.{Ok, Err}
use Rattle.diagram.specs.declared.verdict.Extent.{Extent}
use Rattle.diagram.specs.declared.verdict.Refused.{Refused}
use Rattle.diagram.specs.declared.verdict.Output.TheVariants.{Diagram}
use Rattle.diagram.proofs.Reading.{accepted_ordered}
use Rattle.diagram.proofs.Entering.{refusal_is, verdict_is, admitted, lent_fits, lent_word, lent_enough, builds_refused, builds_accepted}
use Rattle.room_map.specs.Map.{marks_to, answer_from, tables_to}
use Rattle.reduction.specs.Room.{Copied}
use Rattle.reduction.proofs.Answering.{copied_front}
use Rattle.approximation.specs.Cut.{cut, listed, list_of}
use Rattle.approximation.proofs.Cut.{cut_same}
use Rattle.approximation.proofs.Listing.{list_accepted, list_verdict}
use Rattle.cuts.proofs.Rooms.{zeros_back, drop_more}
use Rattle.cuts.proofs.Cutting.{within_most}
use Rattle.cuts.specs.Marks.{marked_in, Markable, Marked, Cutting, CutIn, CutWithin}
use Rattle.list_cuts.specs.Listed.{Listing, Listed}
use Rattle.list_cuts.specs.Approximates.{cut_verdict, Approximates}

-- ---- the cut by a list

module _ {w list : List ℕ} {t : ℕ} {r out : List ℕ} {n v : ℕ} (a : Listing w list t r out n v) {m : ℕ} (is_m : m ≡ max n 2) where
  listing_most : m ≡ most w
  listing_most = is_m ∙ ap (λ (k : ℕ). max k 2) a.is_size

  pub listing_few : m ≤ max_nodes
  listing_few = let e = listing_most in let few = (accepted_ordered w a.accepted).formed.few in omega arith

  pub listing_markable : Markable list r m
  listing_markable =
      let e = listing_most in
      let long = a.long in
      record {
        few = listing_few;
        long = omega arith;
        inside = λ j h. let inside = a.inside j h in omega arith;
      }

  module _ {s : List ℕ} (marks : Marked list m r s) where
    marks_are : (q : ℕ) → q < size w → marked_in (most w) s q ≡ listed list q
    unfolding marked_in
    marks_are q h =
        let e = listing_most in
        ap (λ (k : ℕ). marked_in k s q) (sym e) ∙ marks.marks q
        ∙ ap (λ (x : ℕ). not (eqb x 0) || listed list q) (a.zero (m + q) (omega arith))

    pub listing_cutting : {sent : List ℕ} → 3 * max_nodes ≤ length sent → Cutting w sent s m t n v
    listing_cutting long-sent =
        let o = accepted_ordered w a.accepted in
        let few = o.formed.few in
        let whole = o.formed.whole in
        let long = a.long in
        let same = marks.kept in
        record {
          ordered = o;
          is_size = a.is_size;
          is_vars = a.is_vars;
          two = let e = listing_most in omega arith;
          within = let e = listing_most in omega arith;
          terminal = a.terminal;
          copy = omega arith;
          long = omega arith;
        }

    module _ {after : List ℕ} {k : ℕ} (within : CutWithin w m t s after k) where
      c : CutIn w t s after k
      c = within_most (accepted_ordered w a.accepted) a.terminal (let e = listing_most in omega arith) within

      cut_is : cut w (marked_in (most w) s) t ≡ cut w (listed list) t
      cut_is = cut_same w (accepted_ordered w a.accepted) (marked_in (most w) s) (listed list) t marks_are

      pub listing_made : k ≤ max_nodes
      listing_made = let fits = c.fits in let e = listing_most in let few = listing_few in omega arith

      pub listing_inside : answer_from m + 3 * k ≤ length after
      listing_inside =
          let fits = c.fits in
          let e = listing_most in
          let long = a.long in
          let kept = c.kept in
          let marked = marks.kept in
          omega arith

      pub listing_fits : 3 * k ≤ length out
      listing_fits = let fits = c.fits in let room = a.output in omega arith

      beyond_all : drop (tables_to m) after ≡ drop (tables_to m) r
      beyond_all =
          let e = listing_most in
          ap (λ (i : ℕ). drop (tables_to i) after) e ∙ c.beyond ∙ ap (λ (i : ℕ). drop (tables_to i) s) (sym e)
          ∙ drop_more (marks_to m) (tables_to m) s r (omega arith) marks.beyond

      pub listing_ends : {out' u : List ℕ} → length out' ≡ length out → Copied after (answer_from m) out out' (3 * k)
          → u ≡ replicate (min (tables_to m) (length after)) 0 ++ drop (tables_to m) after → Listed w list t r u out out' k
      listing_ends {out'} {u} same copied e =
          let is_most = listing_most in
          let long = a.long in
          let fits = listing_fits in
          let room = c.fits in
          let kept = c.kept in
          let marked = marks.kept in
          let front : take (3 * k) out' ≡ cut w (listed list) t =
          copied_front copied (omega arith) (omega arith) ∙ ap (λ (i : ℕ). take (3 * k) (drop (answer_from i) after)) is_most ∙ c.made ∙ cut_is in
          let words : length (cut w (listed list) t) ≡ 3 * k = ap (λ (l : List ℕ). length l) (sym cut_is) ∙ c.words in
          record {
            count = c.count ∙ ap (λ (l : List ℕ). size l) cut_is;
            room = e ∙ zeros_back (tables_to m) r after (omega arith) (λ j h. a.zero j (omega arith)) (kept ∙ marked) beyond_all;
            written = sym (take-append-drop (3 * k) out') ∙ (rw (front, copied.rest, words) refl);
          }

-- ---- the verdicts

module _ {w : List ℕ} (list : List ℕ) (t : ℕ) {room room' : List ℕ} (out : List ℕ) {verdict : Verdict} (checked : Checked w (Diagram (length out)) room room' verdict) where
  abbrev result : List ℕ
  result = cut w (listed list) t

  pub check_refuses : {x : Refused} → verdict ≡ Err x → Approximates w list t room room' out out (Err x) 0
  check_refuses e = builds_refused (cut_verdict w list) result out checked.left refl (rw (refusal_is checked e) refl)

  module _ {x : Extent} (e : verdict ≡ Ok x) (l : Verdict) (says : (w : List ℕ) → x.nodes ≡ size w → x.vars ≡ vars w → said l ≡ list_of w list) where
    -- the check accepts: the verdict is what the list's checks say
    listed_is : list_of w list ≡ said l
    listed_is = sym (says w (admitted checked e).nodes (admitted checked e).variables)

    listing_is : cut_verdict w list (length room) (length out) ≡ said l
    listing_is = rw (verdict_is checked e) listed_is

    pub list_refuses : {y : Refused} → l ≡ Err y → Approximates w list t room room' out out (Err y) 0
    list_refuses f = builds_refused (cut_verdict w list) result out checked.left refl (listing_is ∙ ap said f)

    module _ {y : Extent} (f : l ≡ Ok y) where
      -- both accept, and count the same
      both_accept : cut_verdict w list (length room) (length out) ≡ said (Ok x)
      both_accept =
          let given = admitted checked e in
          let own = ((list_verdict w list).accepts y.nodes y.vars).0 (listed_is ∙ ap said f) in
          listing_is ∙ ap said f ∙ (rw (own.1, own.2, given.nodes, given.variables) refl)

      pub list_given : t < 2 → Listing w list t room' out x.nodes x.vars
      list_given terminal =
          let given = admitted checked e in
          let nodes = list_accepted w list y.nodes y.vars (listed_is ∙ ap said f) in
          record {
            accepted = given.accepted;
            is_size = given.nodes;
            is_vars = given.variables;
            terminal = terminal;
            inside = λ j h. (nodes j h).1;
            long = lent_fits checked e (room_of w) (omega arith);
            zero = lent_word checked e (room_of w) (omega arith);
            output = lent_enough w (length out) given.lent;
          }

      pub list_answered : {room'' out' : List ℕ} {k : ℕ} → Listed w list t room' room'' out out' k → Approximates w list t room room'' out out' (Ok x) k
      list_answered a = builds_accepted (cut_verdict w list) result out (a.room ∙ checked.left) refl both_accept a.count a.written
