-- The rounds of the search: the inner walk, and the cut after it.
use Prim.Native.Nat.{ℕ, suc, ◌+◌, ◌-◌, ◌*◌, ◌≤◌, ◌<◌}
use mathlib.Core.Path.{◌≡◌, refl, sym, ap, ◌∙◌}
use mathlib.Core.Bool.{Bool, ◌||◌}
use mathlib.Core.List.{List, [], ◌∷◌}
use native.Mathlib.Omega.{arith}
use native.Mathlib.Decide.{dec_lt}
use native.Mathlib.Nat.{sub-zero}
use native.Mathlib.Numerals.{add-one}
use lib.ListN.{length, get_or, set, take, drop, length-set, length-drop}
use lib.Seq.{get_or-take, take-set-le, drop-set-lt}
use lib.Dec.{leb, eqb}
use Rattle.naturals.specs.Natural.{value, word_count, Holds}
use Rattle.diagram.specs.Limits.{max_nodes}
use Rattle.diagram.specs.Diagram.{size, vars}
use Rattle.diagram.specs.Verdict.{most}
use Rattle.diagram.specs.Valuations.{count_of, weight_of}
use Rattle.diagram.proofs.Tests.{by_test}
use Rattle.room_map.specs.Map.{counts_from, counts_to, weights_from, tables_to, search_to}
use Rattle.counts.specs.Table.{num, Noted}
use Rattle.approximation.specs.Cut.{cut, listed}
use Rattle.approximation.specs.Search.{answer, order, cut_first, covering, reached, count_search, under_to_count}
use Rattle.approximation.proofs.Cut.{cut_same}
use Rattle.approximation.proofs.Members.{order_length, order_nodes}
use Rattle.approximation.proofs.Search.{first_all, false_count, walk_out, walk_covers, walk_on, count_enough, count_on}
use Rattle.approximation.proofs.Targets.{to_count_search}
use Rattle.cuts.specs.Marks.{marked_in, Cutting, CutIn, CutWithin}
use Rattle.cuts.proofs.Cutting.{within_most}
use Rattle.cuts.proofs.Marking.{present}
use Rattle.cuts.proofs.Marking.{set_marks, listed_take}
use Rattle.cuts.proofs.Rooms.{drop_more}
use Rattle.recounts.specs.Kept.{Untouched, Recounting, Recounted}
use Rattle.recounts.proofs.Passes.{same_words, untouched_marks, untouched_noted}
use Rattle.recounts.proofs.Counting.{stale_taken}
use Rattle.trials.specs.Trials.{Ready, Found}
use Rattle.trials.proofs.Readying.{ready_marks}
use Rattle.count_search.specs.Rounds.{Takeable, Took, Taken, Seeking}

-- Priorities stand before the counts, and weights behind them.
ready_untouched : {w r after : List ℕ} → counts_to (size w) ≤ length r → Ready w r → Untouched (size w) r after → Ready w after
ready_untouched {w} {r} {after} long a u = record {
  order = same_words (counts_from (size w)) r after u.kept u.before 0 (size w - 2) (omega arith) (omega arith) ∙ a.order;
  weight = λ p h. rw (drop_more (counts_to (size w)) (weights_from (size w) + word_count * p) after r (omega arith) u.beyond) (a.weight p h);
}

-- ---- one more node

module _ {w heads start changed r : List ℕ} {c : ℕ} (t : Taken w heads start changed r c) (h : c < size w - 2) where
  taken_at : get_or r c 0 ≡ get_or (order w) c 0
  taken_at = sym (get_or-take (size w - 2) r c 0 h) ∙ ap (λ (l : List ℕ). get_or l c 0) t.ready.order

  taken_inside : (2 ≤ get_or r c 0) × (get_or r c 0 < size w)
  taken_inside =
      let all = order_length w in
      let e = taken_at in
      let in_order = order_nodes w (get_or (order w) c 0) (present (order w) c (get_or (order w) c 0) (omega arith) refl) in
      rw e in_order

  pub takeable : {n : ℕ} → n ≡ size w → n ≤ max_nodes → search_to n ≤ length r → Takeable r n c
  takeable e few long = let inside = taken_inside.1 in record { few = few; inside = omega arith; long = omega arith }

  module _ (long : counts_to (size w) ≤ length r) (flags : size w ≤ length changed) {changed' after words : List ℕ}
      (x : Took changed r changed' after (size w) (get_or r c 0) words) where
    abbrev marked : List ℕ
    marked = set r (size w + get_or r c 0) 1

    marked_length : length marked ≡ length r
    marked_length = simp length-set

    untouched : Untouched (size w) marked after
    untouched = untouched_noted taken_inside.1 x.noted

    after_ready : Ready w after
    after_ready =
        let inside = taken_inside.1 in
        let same = marked_length in
        ready_untouched (omega arith)
        (ready_marks t.ready marked_length
        (take-set-le (size w) r (size w + get_or r c 0) 1 (omega arith))
        (drop-set-lt (2 * size w) r (size w + get_or r c 0) 1 (omega arith)))
        untouched

    pub taken_on : Taken w heads start changed' after (c + 1)
    taken_on =
        let inside = taken_inside.1 in
        let all = order_length w in
        record {
          few = omega arith;
          kept = untouched.kept ∙ marked_length ∙ t.kept;
          ready = after_ready;
          marks = λ q l.
              untouched_marks untouched q l
              ∙ set_marks (size w) r (get_or r c 0) q (omega arith)
              ∙ ap (λ (b : Bool). b || eqb q (get_or r c 0)) (t.marks q l)
              ∙ ap (λ (y : ℕ). listed (take c (order w)) q || eqb q y) taken_at
              ∙ sym (listed_take (order w) c q (omega arith))
              ∙ ap (λ (i : ℕ). listed (take i (order w)) q) (sym (add-one c));
          beyond = untouched.beyond ∙ drop-set-lt (counts_to (size w)) r (size w + get_or r c 0) 1 (omega arith) ∙ t.beyond;
          stale = stale_taken t.stale taken_inside.0 inside long flags x.flag x.noted;
        }

    pub taken_weight : value words ≡ weight_of w (get_or (order w) c 0)
    taken_weight = x.weight.worth ∙ (after_ready.weight (get_or r c 0) taken_inside.1).worth ∙ ap (λ (p : ℕ). weight_of w p) taken_at

-- What taking a node gives, by the node's place.
pub took : (changed r : List ℕ) {changed' after words none : List ℕ} (n i : ℕ) {x : ℕ} → x ≡ get_or r i 0 → {marked : List ℕ} → marked ≡ set r (n + x) 1
    → Holds 0 none → (changed' ≡ set changed x 1) × ((y : ℕ) → Holds y none → Noted (counts_from n) marked x y after) → Holds (num (weights_from n) after x) words
    → Took changed r changed' after n (get_or r i 0) words
took changed r {changed'} {after} {words} n i {x} e {marked} m none_left (flag, note) h =
    rw e at (the_node (rw m at (note 0 none_left)))
  where
    the_node : Noted (counts_from n) (set r (n + x) 1) x 0 after → Took changed r changed' after n x words
    the_node k = record { flag = flag; noted = k; weight = h }

-- ---- the inner walk

-- From c0 nodes and rest0 to c nodes and a rest: the walk goes on to the same end.
pub record Walk (w heads s0 r0 s r : List ℕ) (c0 rest0 c rest : ℕ) : Type 0 where
  pub on : (start : List ℕ) → Taken w heads start s0 r0 c0 → Taken w heads start s r c
  pub same : reached w c rest ≡ reached w c0 rest0

-- It has come to its end.
pub record Walked (w heads s0 r0 s r : List ℕ) (c0 rest0 c : ℕ) : Type 0 where
  pub on : (start : List ℕ) → Taken w heads start s0 r0 c0 → Taken w heads start s r c
  pub same : c ≡ reached w c0 rest0

pub walked_as : {w heads s0 r0 s r s' r' : List ℕ} {c0 rest0 c d : ℕ} → s' ≡ s → r' ≡ r → d ≡ c → Walked w heads s0 r0 s r c0 rest0 c
    → Walked w heads s0 r0 s' r' c0 rest0 d
walked_as e f g x = rw (e, f, g) x

pub walk_start : (w heads s r : List ℕ) (c rest : ℕ) → Walk w heads s r s r c rest c rest
walk_start w heads s r c rest = record { on = λ start t. t; same = refl }

module _ {w heads s0 r0 s r : List ℕ} {c0 rest0 c rest : ℕ} (x : Walk w heads s0 r0 s r c0 rest0 c rest) where
  -- no node is left
  pub walk_left : size w - 2 ≤ c → Walked w heads s0 r0 s r c0 rest0 c
  walk_left h = record {
    on = x.on;
    same = let all = order_length w in sym (walk_out (weight_of w) (order w) c rest (omega arith)) ∙ x.same;
  }

  module _ {n : ℕ} (is-n : n ≡ size w) (h : c < n - 2) (long : search_to n ≤ length r) (flags : n ≤ length s) {s' after words : List ℕ}
      (got : Took s r s' after n (get_or r c 0) words) where
    got_is : Took s r s' after (size w) (get_or r c 0) words
    got_is = rw is-n at got

    walk_taken : (start : List ℕ) → Taken w heads start s0 r0 c0 → Taken w heads start s' after (c + 1)
    walk_taken start t = taken_on (x.on start t) (omega arith) (omega arith) (omega arith) got_is

    walk_weight : (start : List ℕ) → Taken w heads start s0 r0 c0 → value words ≡ weight_of w (get_or (order w) c 0)
    walk_weight start t = taken_weight (x.on start t) (omega arith) (omega arith) (omega arith) got_is

    module _ {start : List ℕ} (t : Taken w heads start s0 r0 c0) where
      -- the node whose weight reaches the rest
      pub walk_breaks : rest ≤ value words → Walked w heads s0 r0 s' after c0 rest0 (c + 1)
      walk_breaks reach = record {
        on = walk_taken;
        same =
            let all = order_length w in
            let weight = walk_weight start t in
            add-one c ∙ sym (walk_covers (weight_of w) (order w) c rest (omega arith) (omega arith)) ∙ x.same;
      }

      pub walk_again : value words < rest → {next : ℕ} → next ≡ rest - value words → Walk w heads s0 r0 s' after c0 rest0 (c + 1) next
      walk_again less {next} e = record {
        on = walk_taken;
        same =
            let all = order_length w in
            let weight = walk_weight start t in
            let is-next : next ≡ rest - weight_of w (get_or (order w) c 0) = e ∙ ap (λ (k : ℕ). rest - k) weight in
            ap (λ (i : ℕ). reached w i next) (add-one c)
            ∙ ap (λ (k : ℕ). reached w (suc c) k) is-next
            ∙ sym (walk_on (weight_of w) (order w) c rest (omega arith) (omega arith)) ∙ x.same;
      }

-- ---- rounds

-- After some trials, with a rest to remove: the search goes on to the same answer.
pub record Round (w heads start s r : List ℕ) (k c rest trials : ℕ) : Type 0 where
  pub taken : Taken w heads start s r c
  pub few : trials ≤ c
  pub same : count_search w k (size w - 2 - trials) c rest trials ≡ under_to_count w k

covering_some : (weight : ℕ → ℕ) (rest : ℕ) (s : List ℕ) → 0 < length s → 0 < covering weight rest s
unfolding covering
covering_some weight rest [] h = absurd (omega arith)
covering_some weight rest (p ∷ s) h = by_test (leb rest (weight p)) (λ e. rw e (omega arith)) (λ e. rw e (omega arith))

reached_more : (w : List ℕ) (c rest : ℕ) → c < size w - 2 → c < reached w c rest
reached_more w c rest h =
    let n = order_length w in
    let l = length-drop c (order w) in
    let some = covering_some (weight_of w) rest (drop c (order w)) (omega arith) in
    omega arith

module _ {w heads sent start : List ℕ} {k count n v : ℕ} (a : Seeking w heads sent start k count n v) where
  pub seeking_few : n ≤ max_nodes
  seeking_few = let few = a.ordered.formed.few in let is = a.is_size in omega arith

  pub seeking_flags : (s : List ℕ) → length s ≡ length sent → n ≤ length s
  seeking_flags s e =
      let fits = a.copy in
      let is = a.is_size in
      let whole = a.ordered.formed.whole in
      omega arith

  pub round_start : {rest : ℕ} → rest ≡ count - k → Round w heads start sent start k 0 rest 0
  round_start {rest} e =
      let is : rest ≡ count_of w - k = e ∙ ap (λ (x : ℕ). x - k) a.is_count in
      record {
        taken = a.taken;
        few = omega arith;
        same = ap (λ (j : ℕ). count_search w k j 0 rest 0) (sub-zero (size w - 2)) ∙ ap (λ (x : ℕ). count_search w k (size w - 2) 0 x 0) is ∙ sym (to_count_search w k a.low a.high);
      }

  module _ {s r : List ℕ} {c : ℕ} (t : Taken w heads start s r c) where
    pub taken_long : search_to n ≤ length r
    taken_long = let long = a.long in let kept = t.kept in omega arith

    pub taken_recounting : length s ≡ length sent → Recounting w heads s r n v
    taken_recounting e =
        let many = a.many in
        record {
          given = record { ordered = a.ordered; nodes = a.is_size; two = omega arith };
          is_vars = a.is_vars;
          long = let long = taken_long in omega arith;
          flags = seeking_flags s e;
          stale = t.stale;
        }

    pub taken_recounted : {s' after words : List ℕ} → Recounted w heads r s' after n words → Taken w heads start s' after c
    taken_recounted {s'} {after} x =
        let u : Untouched (size w) r after = rw a.is_size at x.untouched in
        let long : search_to (size w) ≤ length r = rw a.is_size at taken_long in
        record {
          few = t.few;
          kept = u.kept ∙ t.kept;
          ready = ready_untouched (omega arith) t.ready u;
          marks = λ q h. untouched_marks u q h ∙ t.marks q h;
          beyond = u.beyond ∙ t.beyond;
          stale = x.stale;
        }

    pub taken_cutting : {copy : List ℕ} → length copy ≡ length sent → Cutting w copy r n 0 n v
    taken_cutting {copy} e =
        let long = taken_long in
        let fits = a.copy in
        let is = a.is_size in
        let many = a.many in
        record {
          ordered = a.ordered;
          is_size = is;
          is_vars = a.is_vars;
          two = omega arith;
          within = omega arith;
          terminal = omega arith;
          copy = omega arith;
          long = omega arith;
        }

    -- the marks are those of the first priorities
    cut_is : cut w (marked_in (size w) r) 0 ≡ cut_first w c
    unfolding cut_first
    cut_is = cut_same w a.ordered (marked_in (size w) r) (listed (take c (order w))) 0 t.marks

    -- what the cut leaves
    pub left_is : {words : List ℕ} → Holds (count_of (cut w (marked_in n r) 0)) words → value words ≡ count_of (cut_first w c)
    left_is h =
        h.worth ∙ ap (λ (i : ℕ). count_of (cut w (marked_in i r) 0)) a.is_size ∙ ap (λ (l : List ℕ). count_of l) cut_is

  module _ {s0 r0 s r : List ℕ} {c0 rest0 trials c : ℕ} (x : Round w heads start s0 r0 k c0 rest0 trials) (y : Walked w heads s0 r0 s r c0 rest0 c) where
    pub round_taken : Taken w heads start s r c
    round_taken = y.on start x.taken

    count_is : count_of (cut_first w c) ≡ count_of (cut_first w (reached w c0 rest0))
    count_is = ap (λ (i : ℕ). count_of (cut_first w i)) y.same

    module _ {s' r' words : List ℕ} (z : Recounted w heads r s' r' n words) where
      abbrev left : ℕ
      left = value words

      is_left : left ≡ count_of (cut_first w c)
      is_left = left_is round_taken z.count

      pub round_counted : Taken w heads start s' r' c
      round_counted = taken_recounted round_taken z

      -- when all are taken nothing is left
      round_open : k < left → c0 < size w - 2
      round_open h = elim (dec_lt c0 (size w - 2)) [
        | yes l ↦ l
        | no l ↦
            let e-left = is_left in
            let end = y.same in
            let is = a.is_size in
            let many = a.many in
            let none = ap (λ (z : List ℕ). count_of z) (first_all w a.ordered c (omega arith) (omega arith)) in
            let zeros = false_count (vars w) in
            absurd (omega arith)
      ]

      pub round_more : k < left → c0 < c
      round_more h =
          let end = y.same in
          let less = reached_more w c0 rest0 (round_open h) in
          omega arith

      pub round_again : k < left → {rest : ℕ} → rest ≡ left - k → Round w heads start s' r' k c rest (trials + 1)
      round_again h {rest} e =
          let e-left = is_left in
          let open-round = round_open h in
          let more = round_more h in
          let few = x.few in
          let is = count_is in
          let fuel : size w - 2 - trials ≡ suc (size w - 2 - suc trials) = omega arith in
          let is-rest : rest ≡ count_of (cut_first w (reached w c0 rest0)) - k = omega arith in
          record {
            taken = round_counted;
            few = omega arith;
            same =
                ap (λ (j : ℕ). count_search w k (size w - 2 - j) c rest j) (add-one trials)
                ∙ ap (λ (i : ℕ). count_search w k (size w - 2 - suc trials) i rest (suc trials)) y.same
                ∙ ap (λ (z : ℕ). count_search w k (size w - 2 - suc trials) (reached w c0 rest0) z (suc trials)) is-rest
                ∙ sym (count_on w k (size w - 2 - suc trials) c0 rest0 trials (omega arith))
                ∙ ap (λ (z : ℕ). count_search w k z c0 rest0 trials) (sym fuel) ∙ x.same;
          }

      answer_is : left ≤ k → under_to_count w k ≡ answer (cut_first w c) (trials + 1)
      answer_is h =
          let e-left = is_left in
          let is = count_is in
          sym x.same ∙ count_enough w k (size w - 2 - trials) c0 rest0 trials (omega arith)
          ∙ ap (λ (i : ℕ). answer (cut_first w i) (suc trials)) (sym y.same)
          ∙ ap (λ (j : ℕ). answer (cut_first w c) j) (sym (add-one trials))

      pub round_done : left ≤ k → {after : List ℕ} {found : ℕ} → CutWithin w n 0 r' after found → Found w (under_to_count w k) start after found (trials + 1)
      round_done h {after} {found} x =
          let is = a.is_size in
          let many = a.many in
          let t : CutIn w 0 r' after found = within_most a.ordered (omega arith) (omega arith) x in
          let is_most : most w ≡ size w = omega arith in
          let made : cut w (marked_in (most w) r') 0 ≡ cut_first w c = rw is_most (cut_is round_counted) in
          rw (answer_is h) (record {
            trials = refl;
            count = t.count ∙ ap (λ (l : List ℕ). size l) made;
            words = ap (λ (l : List ℕ). length l) (sym made) ∙ t.words;
            fits = t.fits;
            kept = t.kept ∙ round_counted.kept;
            made = t.made ∙ made;
            beyond =
                drop_more (tables_to (most w)) (search_to (most w)) after r' (omega arith) t.beyond
                ∙ drop_more (counts_to (size w)) (search_to (most w)) r' start (omega arith) round_counted.beyond;
          })
