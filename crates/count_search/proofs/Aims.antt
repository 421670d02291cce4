-- The answer to a count target that takes no search, and what a search begins with.
use Prim.Native.Nat.{ℕ, ◌+◌, ◌-◌, ◌*◌, ◌≤◌, ◌<◌, max}
use mathlib.Core.Path.{◌≡◌, refl, sym, ◌∙◌}
use mathlib.Core.Bool.{true, false}
use mathlib.Core.List.{List}
use native.Mathlib.Omega.{arith}
use lib.ListN.{length, take, drop, replicate}
use borrow.Rule.Slice.PartMut.{put_mid, mid_of}
use Rattle.naturals.specs.Natural.{value, Holds}
use Rattle.naturals.proofs.Answer.{holds_as}
use Rattle.diagram.specs.Limits.{max_nodes}
use Rattle.diagram.specs.Diagram.{size, Ordered}
use Rattle.diagram.specs.Verdict.{most}
use Rattle.diagram.specs.Valuations.{count_of, weight_of}
use Rattle.diagram.proofs.Tests.{by-eq}
use Rattle.levels.specs.Chains.{chain_count, Given}
use Rattle.counts.specs.Table.{entry}
use Rattle.counts.proofs.Parts.{part_entry, part_kept, part_beyond, lent_long}
use Rattle.weights.specs.Passes.{weights_from as weightsInFrom, Rising, Tables}
use Rattle.weights.proofs.Ascent.{rises}
use Rattle.approximation.specs.Cut.{listed}
use Rattle.approximation.specs.Search.{Answer, under_to_count}
use Rattle.approximation.proofs.Listing.{under_accepted_open}
use Rattle.approximation.proofs.Targets.{one_count, to_count_none, search_many}
use Rattle.priorities.specs.Prioritised.{Topped, Prioritised}
use Rattle.priorities.proofs.Ordering.{weights_topped}
use Rattle.cuts.specs.Marks.{marked_in}
use Rattle.cuts.proofs.Rooms.{drop_more}
use Rattle.room_map.specs.Map.{marks_to, links_from, counts_to, weights_from, weights_to, search_to}
use Rattle.counts.specs.Worth.{Totalling, Totalled}
use Rattle.counts.proofs.Nodes.{total_valuations}
use Rattle.recounts.proofs.Counting.{whole_lent, whole_put, whole_behind, whole_stale}
use Rattle.trials.specs.Trials.{Searching, Preparing, Found}
use Rattle.trials.specs.First.{Unmarkable, Unmarked}
use Rattle.trials.specs.Answers.{Constant}
use Rattle.trials.proofs.Readying.{ready_ordered, ready_marks}
use Rattle.trials.proofs.Early.{searching_ordered, searching_few, falsely}
use Rattle.count_search.specs.Rounds.{Counted, Taken, Seeking, Aiming, Weighing, Weighed, Above}

-- ---- the count

module _ {w r : List ℕ} {n v : ℕ} (a : Searching w r n v) where
  -- the part that is lent: links and counts
  abbrev counted-part : List ℕ
  counted-part = mid_of (links_from n) (counts_to n - links_from n) r

  pub counted_inside : counts_to n ≤ length r
  counted_inside = let long = a.long in let is = a.is_size in omega arith

  pub counts_asks : {heads : List ℕ} → heads ≡ replicate chain_count 0 → Totalling w heads counted-part n v
  counts_asks e =
      let long = lent_long (links_from n) (counts_to n) r (omega arith) counted_inside in
      record { ordered = searching_ordered a; nodes = a.is_size; variables = a.is_vars; empty = e; long = omega arith }

  pub counts_done : {heads part words : List ℕ} → length part ≡ length counted-part → Totalled true w heads part words
      → Counted w heads r (put_mid (links_from n) (counts_to n - links_from n) r part) words
  counts_done {heads} {part} same t =
      let is = a.is_size in
      let after = put_mid (links_from n) (counts_to n - links_from n) r part in
      record {
        count = holds_as (total_valuations w (searching_ordered a)) t.total;
        kept = part_kept (links_from n) (counts_to n) r part (omega arith) counted_inside same;
        beyond = drop_more (counts_to n) (counts_to (most w)) after r (omega arith) (part_beyond (links_from n) (counts_to n) r part (omega arith) counted_inside same);
        whole = λ two.
            whole_put (record { ordered = searching_ordered a; nodes = is; two = omega arith }) (counts_to n) r (omega arith) counted_inside same
            (t.head two) (t.worths two);
      }

  module _ {heads b count : List ℕ} (x : Counted w heads r b count) where
    pub counted_searches : Searching w b n v
    counted_searches =
        let long = a.long in
        let kept = x.kept in
        record { accepted = a.accepted; is_size = a.is_size; is_vars = a.is_vars; long = omega arith }

    pub counted_beyond : drop (search_to (most w)) b ≡ drop (search_to (most w)) r
    counted_beyond = drop_more (counts_to (most w)) (search_to (most w)) b r (omega arith) x.beyond

    -- what is found where it was counted is found
    pub counted_found : {d : Answer} {after : List ℕ} {j trials : ℕ} → Found w d b after j trials → Found w d r after j trials
    counted_found f = record {
      trials = f.trials;
      count = f.count;
      words = f.words;
      fits = f.fits;
      kept = f.kept ∙ x.kept;
      made = f.made;
      beyond = f.beyond ∙ counted_beyond;
    }

-- ---- the answers

module _ {w r : List ℕ} {k n v : ℕ} (a : Aiming w r k n v) where
  ordered : Ordered w
  ordered = searching_ordered a.searching

  pub aiming_few : n ≤ max_nodes
  aiming_few = searching_few a.searching

  pub aiming_none : k ≡ 0 → {after : List ℕ} {j trials : ℕ} → Constant (max n 2) 0 v r after j trials → Found w (under_to_count w k) r after j trials
  aiming_none e c = falsely a.searching c (to_count_none w k e)

  module _ {heads b count : List ℕ} (x : Counted w heads r b count) where
    pub aiming_above : (k ≡ 0 → ⊥) → k < value count → Above w heads b k (value count) n v
    aiming_above ne high =
        let e = x.count.worth in
        let some = a.searching.accepted.formed.some in
        let two : 2 ≤ size w = by-eq (size w) 1 (λ one. let none = one_count w one in absurd (omega arith)) (λ other. omega arith) in
        record {
          aiming = record { searching = counted_searches a.searching x; target = a.target };
          whole = x.whole two;
          low = omega arith;
          high = omega arith;
          is_count = e;
        }

-- ---- the weights, behind what was counted

module _ {w heads r : List ℕ} {n v : ℕ} (a : Weighing w heads r n v) where
  pub weighing_few : n ≤ max_nodes
  weighing_few = let few = a.preparing.ordered.formed.few in let is = a.preparing.is_size in omega arith

  weighing_given : Given w n
  weighing_given = let many = a.preparing.many in record { ordered = a.preparing.ordered; nodes = a.preparing.is_size; two = omega arith }

  abbrev lent : List ℕ
  lent = mid_of (links_from n) (weights_to n - links_from n) r

  pub weighing_rises : Rising w heads (weightsInFrom n) lent n v
  weighing_rises =
      let long = lent_long (links_from n) (weights_to n) r (omega arith) a.preparing.long in
      rises weighing_given a.preparing.is_vars a.whole.chained.head
      (whole_lent weighing_given (weights_to n) r (omega arith) a.preparing.long a.whole) (omega arith)

  module _ {part : List ℕ} (same : length part ≡ length lent) (x : Tables w n part) where
    abbrev weighted : List ℕ
    weighted = put_mid (links_from n) (weights_to n - links_from n) r part

    same_long : length weighted ≡ length r
    same_long = part_kept (links_from n) (weights_to n) r part (omega arith) a.preparing.long same

    weights_stand : (p : ℕ) → p < n → Holds (weight_of w p) (entry (weights_from n) weighted p)
    weights_stand p h =
        let long = lent_long (links_from n) (weights_to n) r (omega arith) a.preparing.long in
        rw (part_entry (links_from n) (weights_to n) r part (omega arith) a.preparing.long same (weightsInFrom n) p (omega arith) {place = weights_from n} (omega arith))
        (x.weight p h)

    pub weighing_fits : Topped n weighted
    weighing_fits =
        let many = a.preparing.many in
        let few = weighing_few in
        let long = a.preparing.long in
        let kept = same_long in
        weights_topped w (record { least = omega arith; most = omega arith; long = omega arith }) weights_stand

    pub weighing_done : {t : List ℕ} → Prioritised n weighted t → Weighed w heads r t
    weighing_done {t} p =
        let is = a.preparing.is_size in
        record {
          prepared = record {
            ready = ready_ordered is p weights_stand;
            kept = p.size ∙ same_long;
            beyond = rw (sym is)
                (drop_more (marks_to n) (weights_to n) t weighted (omega arith) p.beyond
                ∙ part_beyond (links_from n) (weights_to n) r part (omega arith) a.preparing.long same);
          };
          whole = whole_behind (rw (sym is) p.beyond)
              (whole_put weighing_given (weights_to n) r (omega arith) a.preparing.long same a.whole.chained.head x.sated);
        }

-- ---- the search

module _ {w heads r : List ℕ} {k count n v : ℕ} (a : Above w heads r k count n v) where
  is : n ≡ size w
  is = a.aiming.searching.is_size

  above_many : 2 < n
  above_many =
      let e = is in
      let many = search_many w k a.aiming.searching.accepted (under_accepted_open w k a.aiming.target) a.low a.high in
      omega arith

  above_long : search_to n ≤ length r
  above_long =
      let many = above_many in
      let e = is in
      let long = a.aiming.searching.long in
      omega arith

  pub above_weighs : Weighing w heads r n v
  above_weighs =
      let long = above_long in
      record {
        preparing = record { ordered = ordered a.aiming; is_size = is; is_vars = a.aiming.searching.is_vars; many = above_many; long = omega arith };
        whole = a.whole;
      }

  module _ {s : List ℕ} (p : Weighed w heads r s) where
    pub above_unmarkable : Unmarkable s n
    above_unmarkable =
        let long = above_long in
        let kept = p.prepared.kept in
        record { few = aiming_few a.aiming; long = omega arith }

    module _ {t : List ℕ} (u : Unmarked n s t) where
      given : Given w (size w)
      given = let many = above_many in let e = is in record { ordered = ordered a.aiming; nodes = refl; two = omega arith }

      nothing_marked : (q : ℕ) → q < size w → marked_in (size w) t q ≡ false
      nothing_marked q h = rw (sym is) (u.none q (let e = is in omega arith))

      behind_marks : drop (marks_to (size w)) t ≡ drop (marks_to (size w)) s
      behind_marks = rw (sym is) u.beyond

      nothing_taken : (sent : List ℕ) → Taken w heads t sent t 0
      unfolding listed
      nothing_taken sent = record {
        few = omega arith;
        kept = refl;
        ready = ready_marks p.prepared.ready u.kept (rw (sym is) u.before) behind_marks;
        marks = nothing_marked;
        beyond = refl;
        stale = whole_stale given (whole_behind behind_marks p.whole) nothing_marked sent;
      }

      pub above_seeking : {sent : List ℕ} → 3 * max_nodes ≤ length sent → Seeking w heads sent t k count n v
      above_seeking {sent} long-sent =
          let few = (ordered a.aiming).formed.few in
          let whole = (ordered a.aiming).formed.whole in
          let long = above_long in
          let same = u.kept in
          let kept = p.prepared.kept in
          record {
            ordered = ordered a.aiming;
            is_size = is;
            is_vars = a.aiming.searching.is_vars;
            many = above_many;
            copy = omega arith;
            long = omega arith;
            taken = nothing_taken sent;
            low = a.low;
            high = a.high;
            is_count = a.is_count;
          }

      pub above_found : {d : Answer} {after : List ℕ} {j trials : ℕ} → Found w d t after j trials → Found w d r after j trials
      above_found f =
          let many = above_many in
          let e = is in
          record {
            trials = f.trials;
            count = f.count;
            words = f.words;
            fits = f.fits;
            kept = f.kept ∙ u.kept ∙ p.prepared.kept;
            made = f.made;
            beyond =
                f.beyond ∙ drop_more (marks_to (size w)) (search_to (most w)) t s (omega arith) behind_marks
                ∙ drop_more (weights_to (size w)) (search_to (most w)) s r (omega arith) p.prepared.beyond;
          }
