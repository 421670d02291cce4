-- Cutting to a count: what the searches are given, and overapproximating by negation.
use Prim.Native.Nat.{ℕ, ◌-◌, ◌*◌, ◌^◌, ◌≤◌, ◌<◌, max}
use mathlib.Core.Path.{◌≡◌, refl, sym, ap, ◌∙◌}
use mathlib.Core.Bool.{Bool, true, false}
use mathlib.Core.List.{List}
use native.Mathlib.Omega.{arith}
use lib.ListN.{length, take, drop}
use Rattle.naturals.specs.Natural.{value}
use Rattle.diagram.specs.Limits.{max_nodes, max_variables}
use Rattle.diagram.specs.Diagram.{size, vars, Accepted}
use Rattle.diagram.specs.Valuations.{count_of}
use Rattle.diagram.specs.Verdict.{Verdict, accepted, said, most, Checked}
use Rattle.std.specs.Prelude.{Ok, Err}
use Rattle.diagram.specs.declared.verdict.Extent.{Extent}
use Rattle.diagram.specs.declared.verdict.Refused.{Refused}
use Rattle.diagram.specs.declared.verdict.Output.TheVariants.{Diagram}
use Rattle.diagram.proofs.Entering.{refusal_is, verdict_is, admitted}
use Rattle.diagram.proofs.Tests.{by-eq}
use Rattle.room_map.specs.Map.{counts_to, search_to}
use Rattle.negation.specs.Negation.{negated, Ready}
use Rattle.negation.proofs.Words.{negated_true}
use Rattle.negation.proofs.Meaning.{negated_vars, negated_is_two, negated_accepted, negated_count}
use Rattle.approximation.specs.Cut.{over_count_of, Under}
use Rattle.approximation.specs.Search.{back, under_to_count}
use Rattle.approximation.specs.Met.{met, under_count_answer, over_count_answer}
use Rattle.approximation.proofs.Listing.{under_open_accepted, under_count_own, over_count_own, over_accepted_open, over_accepted_most}
use Rattle.approximation.proofs.Targets.{Open, opposite, one_count, to_count_none, over_count_negates, to_count_under}
use Rattle.approximation.proofs.Settling.{under_count_is_none, under_count_is_met, under_count_is_sought, over_count_is_met, over_count_is_sought}
use Rattle.cuts.proofs.Rooms.{drop_more}
use Rattle.recounts.specs.Kept.{Turnable, Turned}
use Rattle.recounts.proofs.Turned.{turned_whole}
use Rattle.trials.specs.Trials.{Searching, Found}
use Rattle.trials.specs.Answers.{Constant, Returned}
use Rattle.trials.proofs.Early.{searching_ordered, searching_few, falsely}
use Rattle.count_search.specs.Rounds.{Counted, Aiming, Above}
use Rattle.count_search.proofs.Aims.{counted_searches, counted_beyond}
use Rattle.told.specs.Told.{count_told_of}
use Rattle.targets.specs.Hits.{Hit}
use Rattle.count_targets.specs.Aims.{to_count, count_verdict, ToCount, remaining, Counting, Lacking, Mirroring}
use Rattle.targets.proofs.Hitting.{Flipped, most_same, targeting_searches, negation_hits, meets_refused, meets_hit, check_targets}

pub under_aims : {w r out : List ℕ} {k n v : ℕ} → Counting false w r out k n v → Aiming w r k n v
under_aims a = record { searching = targeting_searches a.targeting; target = a.target }

-- ---- what a target leaves of all valuations

remaining_open : (w : List ℕ) (k : ℕ) → Accepted w → over_count_of w k ≡ accepted (size w) (vars w) → Open (negated w) (remaining w k)
remaining_open w k acc target two low less =
    let one = negated_is_two w acc two in
    let even = ap (λ (i : ℕ). 2 ^ i) (negated_vars w acc) in
    let most = over_accepted_most w k target in
    over_accepted_open w k target one (omega arith) (omega arith)

-- the negation of true is false
true_negates : (w : List ℕ) → size w ≡ 2 → count_of (negated w) ≡ 0
true_negates w two = one_count (negated w) (ap (λ (l : List ℕ). size l) (negated_true w two))

-- the negation can be searched where the diagram can
negation_searches : {w r : List ℕ} {n v : ℕ} → Searching w r n v → {made : ℕ} → made ≡ size (negated w) → Searching (negated w) r made v
negation_searches {w} a e =
    let long = a.long in
    let even = most_same w a.accepted in
    record {
      accepted = negated_accepted w a.accepted;
      is_size = e;
      is_vars = a.is_vars ∙ sym (negated_vars w a.accepted);
      long = omega arith;
    }

module _ {w heads r : List ℕ} {k count n v : ℕ} (a : Lacking w heads r k count n v) where
  abbrev acc : Accepted w
  acc = a.searching.accepted

  pub lacking_few : n ≤ max_nodes
  lacking_few = searching_few a.searching

  pub lacking_variables : v ≤ max_variables
  lacking_variables = let is = a.searching.is_vars in let few = acc.formed.variables in omega arith

  module _ {left : ℕ} (is_left : left ≡ 2 ^ v - k) where
    left_is : left ≡ remaining w k
    left_is = is_left ∙ ap (λ (i : ℕ). 2 ^ i - k) a.searching.is_vars

    -- nothing is left: the negation of false
    pub lacking_none : left ≡ 0 → {after : List ℕ} {j trials : ℕ} → Constant (max n 2) 0 v r after j trials
        → Found (negated w) (under_to_count (negated w) (remaining w k)) r after j trials
    lacking_none e c =
        let even : max n 2 ≡ max (size (negated w)) 2 = ap (λ (i : ℕ). max i 2) a.searching.is_size ∙ sym (most_same w acc) in
        falsely (negation_searches a.searching refl) (rw (sym even) c) (to_count_none (negated w) (remaining w k) (sym left_is ∙ e))

    module _ (ne : left ≡ 0 → ⊥) {others : ℕ} (is-others : others ≡ 2 ^ v - count) where
      lacking_many : 2 < size w
      lacking_many =
          let some = acc.formed.some in
          let is = left_is in
          let high = a.high in
          let all = negated_count w acc in
          by-eq (size w) 1
          (λ one.
          let none = one_count w one in
          absurd (over_accepted_open w k a.target one (omega arith) (omega arith)))
          (λ x. by-eq (size w) 2
          (λ two. let none = true_negates w two in absurd (omega arith))
          (λ y. omega arith))

      pub lacking_mirrors : Mirroring w heads r left others n v
      lacking_mirrors =
          let m = lacking_many in
          let is-n = a.searching.is_size in
          let is = left_is in
          let high = a.high in
          let all = negated_count w acc in
          let count_is = a.is_count in
          let same : 2 ^ v ≡ 2 ^ vars w = ap (λ (i : ℕ). 2 ^ i) a.searching.is_vars in
          let most = over_accepted_most w k a.target in
          record {
            searching = a.searching;
            many = omega arith;
            whole = a.whole (omega arith);
            target = rw is (under_open_accepted (negated w) (remaining w k) (remaining_open w k acc a.target));
            low = omega arith;
            high = omega arith;
            is_count = omega arith;
          }

      pub lacking_found : {after : List ℕ} {j trials : ℕ} → Found (negated w) (under_to_count (negated w) left) r after j trials
          → Found (negated w) (under_to_count (negated w) (remaining w k)) r after j trials
      lacking_found f = rw left_is at f

-- ---- the search over the negation

module _ {w heads r : List ℕ} {k count n v : ℕ} (a : Mirroring w heads r k count n v) where
  abbrev ok : Accepted w
  ok = a.searching.accepted

  pub mirror_ready : Ready w v
  mirror_ready = record { formed = ok.formed; count = a.searching.is_vars }

  mirror_many : 2 < size w
  mirror_many = let is = a.searching.is_size in let m = a.many in omega arith

  pub mirror_turns : Turnable w r n v
  mirror_turns =
      let m = a.many in
      let is = a.searching.is_size in
      let long = a.searching.long in
      record {
        given = record { ordered = searching_ordered a.searching; nodes = is; two = omega arith };
        is_vars = a.searching.is_vars;
        many = m;
        long = omega arith;
        left = a.whole.left;
      }

  module _ {made : ℕ} {flipped : List ℕ} (e : Flipped w made flipped) {b : List ℕ} (t : Turned w r b n) where
    mirror_searches : Searching w b n v
    mirror_searches =
        let long = a.searching.long in
        let kept = t.untouched.kept in
        record { accepted = ok; is_size = a.searching.is_size; is_vars = a.searching.is_vars; long = omega arith }

    pub mirror_above : Above (take (3 * made) flipped) heads b k count made v
    mirror_above = rw e.words (record {
      aiming = record { searching = negation_searches mirror_searches e.count; target = a.target };
      whole = turned_whole ok mirror_many a.searching.is_size a.whole t;
      low = a.low;
      high = a.high;
      is_count = a.is_count;
    })

    pub mirror_found : {after : List ℕ} {j trials : ℕ} → Found (take (3 * made) flipped) (under_to_count (take (3 * made) flipped) k) b after j trials
        → Found (negated w) (under_to_count (negated w) k) r after j trials
    mirror_found {after} {j} {trials} g =
        let f : Found (negated w) (under_to_count (negated w) k) b after j trials = rw e.words at g in
        let even = most_same w ok in
        record {
          trials = f.trials;
          count = f.count;
          words = f.words;
          fits = f.fits;
          kept = f.kept ∙ t.untouched.kept;
          made = f.made;
          beyond = f.beyond ∙ drop_more (counts_to (size w)) (search_to (most (negated w))) b r (omega arith) t.untouched.beyond;
        }

-- ---- which answer it is

module _ (as_is : Bool) {w r out : List ℕ} {k n v : ℕ} (a : Counting false w r out k n v) {u out' : List ℕ} {c trials : ℕ} where
  pub under_none : k ≡ 0 → Hit (under_to_count w k) r u out out' c trials → Hit (under_count_answer as_is w k) r u out out' c trials
  under_none e h = rw (under_count_is_none as_is w k e) h

  module _ {heads b count : List ℕ} (x : Counted w heads r b count) (ne : k ≡ 0 → ⊥) where
    pub under_met : value count ≤ k → Hit (met as_is w) r u out out' c trials → Hit (under_count_answer as_is w k) r u out out' c trials
    under_met fits h = let e = x.count.worth in rw (under_count_is_met as_is w k (omega arith) (omega arith)) h

    pub under_sought : k < value count → Hit (under_to_count w k) r u out out' c trials → Hit (under_count_answer as_is w k) r u out out' c trials
    under_sought high h = let e = x.count.worth in rw (under_count_is_sought as_is w k (omega arith) (omega arith)) h

module _ (as_is : Bool) {w r out : List ℕ} {k n v : ℕ} (a : Counting true w r out k n v) where
  pub over_searches : Searching w r n v
  over_searches = targeting_searches a.targeting

  module _ {heads b count : List ℕ} (x : Counted w heads r b count) where
    pub over_met : k ≤ value count → {u out' : List ℕ} {c trials : ℕ} → Hit (met as_is w) r u out out' c trials
        → Hit (over_count_answer as_is w k) r u out out' c trials
    over_met fits h = let e = x.count.worth in rw (over_count_is_met as_is w k (omega arith)) h

    -- ---- by negation

    pub over_lacks : value count < k → Lacking w heads b k (value count) n v
    over_lacks high =
        let e = x.count.worth in
        record { searching = counted_searches over_searches x; target = a.target; whole = x.whole; high = omega arith; is_count = e }

    module _ (high : value count < k) where
      below : count_of w < k
      below = let e = x.count.worth in omega arith

      over_is : over_count_answer as_is w k ≡ back (under_to_count (negated w) (remaining w k))
      over_is =
          let all = negated_count w a.targeting.accepted in
          let most = over_accepted_most w k a.target in
          let less = below in
          let opposite-is : opposite w k ≡ remaining w k = omega arith in
          over_count_is_sought as_is w k below ∙ over_count_negates w k below ∙ ap (λ (i : ℕ). back (under_to_count (negated w) i)) opposite-is

      pub over_under : Under (negated w) (under_to_count (negated w) (remaining w k)).words
      over_under = to_count_under (negated w) (remaining w k) (negated_accepted w a.targeting.accepted) (remaining_open w k a.targeting.accepted a.target)

      module _ {s : List ℕ} {j trials : ℕ} (f : Found (negated w) (under_to_count (negated w) (remaining w k)) b s j trials) where
        pub over_found : Found (negated w) (under_to_count (negated w) (remaining w k)) r s j trials
        over_found =
            let even = most_same w a.targeting.accepted in
            record {
              trials = f.trials;
              count = f.count;
              words = f.words;
              fits = f.fits;
              kept = f.kept ∙ x.kept;
              made = f.made;
              beyond = f.beyond
                  ∙ (ap (λ (i : ℕ). drop (search_to i) b) even ∙ counted_beyond over_searches x ∙ ap (λ (i : ℕ). drop (search_to i) r) (sym even));
            }

        pub over_hits : {m : ℕ} → m ≡ max n 2 → {Room-after out' : List ℕ} {c : ℕ} → Returned m j s out Room-after out' c
            → Hit (over_count_answer as_is w k) r Room-after out out' c trials
        over_hits is_m g = rw over_is (negation_hits a.targeting is_m over_found over_under g)

-- ---- the verdicts

-- An acceptance of a target has the diagram's own counts.
told_own : (above : Bool) (w : List ℕ) (k : ℕ) {n v : ℕ} → count_told_of above w k ≡ accepted n v → count_told_of above w k ≡ accepted (size w) (vars w)
told_own true w k e = over_count_own w k e
told_own false w k e = under_count_own w k e

module _ (above as_is : Bool) {w : List ℕ} (k : ℕ) {room room' : List ℕ} (out : List ℕ) {verdict : Verdict} (checked : Checked w (Diagram (length out)) room room' verdict) where
  pub check_refuses : {x : Refused} → verdict ≡ Err x → ToCount above as_is w k room room' out out (Err x) 0 0
  check_refuses e = meets_refused (count_verdict above w k) (to_count above as_is w k) out checked.left refl (rw (refusal_is checked e) refl)

  module _ {x : Extent} (e : verdict ≡ Ok x) where
    pub open_few : x.vars ≤ max_variables
    open_few = let is = (admitted checked e).variables in let few = (admitted checked e).accepted.formed.variables in omega arith

    module _ (l : Verdict) (says : (w : List ℕ) → x.nodes ≡ size w → x.vars ≡ vars w → said l ≡ count_told_of above w k) where
      -- the check accepts: the verdict is what is told of the target
      target_is : count_told_of above w k ≡ said l
      target_is = sym (says w (admitted checked e).nodes (admitted checked e).variables)

      told_is : count_verdict above w k (length room) (length out) ≡ said l
      told_is = rw (verdict_is checked e) target_is

      pub open_refuses : {y : Refused} → l ≡ Err y → ToCount above as_is w k room room' out out (Err y) 0 0
      open_refuses f = meets_refused (count_verdict above w k) (to_count above as_is w k) out checked.left refl (told_is ∙ ap said f)

      module _ {y : Extent} (f : l ≡ Ok y) where
        own : count_told_of above w k ≡ accepted (size w) (vars w)
        own = told_own above w k (target_is ∙ ap said f)

        pub open_counts : Counting above w room' out k x.nodes x.vars
        open_counts = record { targeting = check_targets out checked e; target = own }

        -- both accept, and count the same
        both_accept : count_verdict above w k (length room) (length out) ≡ said (Ok x)
        both_accept = let given = admitted checked e in told_is ∙ sym target_is ∙ own ∙ (rw (given.nodes, given.variables) refl)

        pub open_meets : {room'' out' : List ℕ} {j trials : ℕ} → Hit (to_count above as_is w k) room' room'' out out' j trials
            → ToCount above as_is w k room room'' out out' (Ok x) j trials
        open_meets h = meets_hit (count_verdict above w k) (to_count above as_is w k) out checked.left refl both_accept h
