-- What a count begins with and gives, and the counts of a diagram of which nothing is taken.
use Prim.Native.Nat.{ℕ, ◌+◌, ◌-◌, ◌*◌, ◌^◌, ◌≤◌, ◌<◌}
use mathlib.Core.Path.{◌≡◌, refl, sym, ap, ◌∙◌}
use mathlib.Core.Logic.{◌≢◌}
use mathlib.Core.Bool.{Bool, true, false, cond, ◌||◌, or-false, true≢false}
use mathlib.Core.List.{List}
use native.Mathlib.Omega.{arith}
use lib.Dec.{eqb}
use borrow.Author.Tests.{eq-eqb, ne_eqb}
use lib.ListN.{length, get_or, set, take, drop}
use lib.Seq.{get_or-drop, get_or-set_other, drop-set-lt}
use borrow.Rule.Slice.PartMut.{put_mid, mid_of}
use Rattle.naturals.specs.Natural.{word_count, Holds}
use Rattle.naturals.proofs.Answer.{holds_as}
use Rattle.diagram.specs.Limits.{max_nodes}
use Rattle.diagram.specs.Diagram.{var_of, size, vars, root, Ordered}
use Rattle.diagram.specs.Valuations.{count_of}
use Rattle.diagram.proofs.Tests.{by_test, by-eq, or_right}
use Rattle.diagram.proofs.Reading.{layered, at_end, root_in}
use Rattle.levels.specs.Chains.{Heads, Given}
use Rattle.counts.specs.Table.{entry, Noted}
use Rattle.counts.specs.Worth.{doublings, root_of, Rooted, Worths}
use Rattle.counts.proofs.Parts.{part_word, part_entry, lent_long, lent_word, lent_entry}
use Rattle.approximation.specs.Cut.{cut}
use Rattle.approximation.proofs.Cut.{cut_same}
use Rattle.cuts.specs.Marks.{marked_in}
use Rattle.cuts.proofs.Marking.{set_marks}
use Rattle.cuts.proofs.Rooms.{drop_more}
use Rattle.room_map.specs.Map.{links_from, counts_from, counts_to}
use Rattle.recounts.specs.Kept.{left_of, Stale, Renewed, Passing, Recounting, Recounted, Whole}
use Rattle.recounts.proofs.Left.{left_cond, left_end, left_none, left_total, left_total_fits}
use Rattle.recounts.proofs.Passes.{untouched_noted, untouched_marks}

-- ---- a count

module _ {w heads changed room : List ℕ} {n v : ℕ} (a : Recounting w heads changed room n v) where
  abbrev o : Ordered w
  o = a.given.ordered

  pub recount_few : n ≤ max_nodes
  recount_few = let few = o.formed.few in let e = a.given.nodes in omega arith

  abbrev old : ℕ → Bool
  old = a.stale.before

  abbrev taken : ℕ → Bool
  taken = marked_in (size w) room

  never : (q : ℕ) → q < 2 → q < size w → old q ≡ false
  never q t h = by_test (old q) (λ e. absurd (true≢false (sym (a.stale.less q h e) ∙ a.stale.ends q t))) (λ e. e)

  -- at a terminal nothing changes
  end_same : (q : ℕ) → q < 2 → q < size w → left_of w taken q ≡ left_of w old q
  end_same q t h = left_end w o taken q t h (a.stale.ends q t) ∙ sym (left_end w o old q t h (never q t h))

  pub recount_passes : Passing w heads changed room n v
  recount_passes =
      let e = a.given.nodes in
      let long = a.long in
      let flags = a.flags in
      let ev = a.is_vars in
      record {
        given = a.given;
        is_vars = ev;
        head = a.stale.chained.head;
        renewing = record {
          long = omega arith;
          flags = omega arith;
          next = a.stale.chained.next;
          before = old;
          taken = taken;
          marks = λ q h. refl;
          less = a.stale.less;
          done = λ q h k.
              let t = at_end w (vars w) (size w) (layered w o) q h (let up = k.level in omega arith) in
              let same = end_same q t h in
              (holds_as (rw (a.stale.ends q t) (sym same)) (a.stale.left q h), λ x. same);
          todo = λ q h k. (a.stale.left q h, a.stale.same q h);
        };
      }

  module _ {changed' after : List ℕ} (x : Renewed w room changed' after 0 0) where
    right : (q : ℕ) → q < size w → Holds (left_of w x.renewing.taken q) (entry (counts_from (size w)) after q)
    right q h = (x.renewing.done q h (record { level = omega arith; turn = λ e. omega arith })).0

    root_left : root_of true w (counts_from n) after n ≡ left_of w x.renewing.taken (root w) * 2 ^ var_of w (root w)
    unfolding doublings
    root_left =
        ap (λ (k : ℕ). root_of true w (counts_from k) after k) a.given.nodes
        ∙ ap (λ (y : ℕ). y * 2 ^ var_of w (root w)) (right (root w) (root_in w o)).worth

    pub recount_root : Rooted true w (counts_from n) after n
    recount_root =
        let e = a.given.nodes in
        let two = a.given.two in
        let long = x.renewing.long in
        record { two = two; few = recount_few; inside = omega arith; fits = rw root_left (left_total_fits w o x.renewing.taken) }

    recount_kept : {flags : List ℕ} → Stale w heads flags after
    recount_kept = record {
      chained = record { head = a.stale.chained.head; next = x.renewing.next };
      before = x.renewing.taken;
      ends = λ q t.
          let e = a.given.nodes in
          let two = a.given.two in
          untouched_marks x.untouched q (omega arith) ∙ a.stale.ends q t;
      less = λ q h e. x.renewing.marks q h ∙ e;
      left = λ q h. holds_as (sym (ap (λ (b : Bool). cond b 0 (left_of w x.renewing.taken q)) (x.renewing.marks q h) ∙ left_cond w x.renewing.taken q)) (right q h);
      same = λ q h f. x.renewing.marks q h;
    }

    same_cut : count_of (cut w x.renewing.taken 0) ≡ count_of (cut w (marked_in n room) 0)
    same_cut =
        ap (λ (l : List ℕ). count_of l)
        (cut_same w o x.renewing.taken (marked_in (size w) room) 0 (λ q h. sym (x.renewing.marks q h) ∙ untouched_marks x.untouched q h))
        ∙ ap (λ (i : ℕ). count_of (cut w (marked_in i room) 0)) (sym a.given.nodes)

    pub recount_done : {words : List ℕ} → Holds (root_of true w (counts_from n) after n) words → {flags : List ℕ} → Recounted w heads room flags after n words
    recount_done h = record {
      count = holds_as (root_left ∙ left_total w o x.renewing.taken ∙ same_cut) h;
      stale = recount_kept;
      untouched = rw a.given.nodes x.untouched;
    }

-- ---- the beginning

-- Links and counts in a part of the room that is lent, from the links to some place e behind the counts.
module _ {w : List ℕ} {n : ℕ} (given : Given w n) (e : ℕ) (r : List ℕ) (enough : counts_to n ≤ e) (inside : e ≤ length r) where
  n_is : n ≡ size w
  n_is = given.nodes

  pub whole_lent : {heads : List ℕ} → Whole w heads r → Worths true w (mid_of (links_from n) (e - links_from n) r) 0 0
  whole_lent x =
      let is = n_is in
      let long = lent_long (links_from n) e r (omega arith) inside in
      record {
        long = omega arith;
        next = λ p two h.
            rw (lent_word (links_from n) e r (omega arith) inside p (omega arith), ap (λ (i : ℕ). get_or r (links_from i + p) 0) is)
            (x.chained.next p two h);
        right = λ q h k.
            rw (lent_entry (links_from n) e r (omega arith) inside (size w) q (omega arith) {place = counts_from (size w)} (omega arith)) (x.left q h);
      }

  pub whole_put : {heads part : List ℕ} → length part ≡ length (mid_of (links_from n) (e - links_from n) r) → Heads w heads → Worths true w part 0 0
      → Whole w heads (put_mid (links_from n) (e - links_from n) r part)
  whole_put {heads} {part} same head x =
      let is = n_is in
      let long = x.long in
      let after = put_mid (links_from n) (e - links_from n) r part in
      record {
        chained = record {
          head = head;
          next = λ p two h.
              rw (ap (λ (i : ℕ). get_or after (links_from i + p) 0) (sym is), part_word (links_from n) e r part (omega arith) inside same p (omega arith))
              (x.next p two h);
        };
        left = λ q h.
            rw (part_entry (links_from n) e r part (omega arith) inside same (size w) q (omega arith) {place = counts_from (size w)} (omega arith))
            (x.right q h (record { level = omega arith; turn = λ z. omega arith }));
      }

-- Where nothing is marked nothing is taken, whatever is said to have changed.
pub whole_stale : {w heads room : List ℕ} → Given w (size w) → Whole w heads room → ((q : ℕ) → q < size w → marked_in (size w) room q ≡ false)
    → (changed : List ℕ) → Stale w heads changed room
whole_stale {w} {heads} {room} given x free changed = record {
  chained = x.chained;
  before = λ q. false;
  ends = λ q t. let two = given.two in free q (omega arith);
  less = λ q h e. absurd (true≢false (sym e));
  left = λ q h. rw (free q h) (holds_as (sym (left_none w q)) (x.left q h));
  same = λ q h f. free q h;
}

-- The words before the links may be others.
pub whole_behind : {w heads room after : List ℕ} → drop (links_from (size w)) after ≡ drop (links_from (size w)) room → Whole w heads room → Whole w heads after
whole_behind {w} {heads} {room} {after} same x = record {
  chained = record {
    head = x.chained.head;
    next = λ p two h.
        rw (sym (get_or-drop (links_from (size w)) after p 0) ∙ ap (λ (l : List ℕ). get_or l p 0) same ∙ get_or-drop (links_from (size w)) room p 0)
        (x.chained.next p two h);
  };
  left = λ q h. rw (drop_more (links_from (size w)) (counts_from (size w) + word_count * q) after room (omega arith) same) (x.left q h);
}

-- ---- one more node is taken

module _ {w heads changed room : List ℕ} (x : Stale w heads changed room) {p : ℕ} (two : 2 ≤ p) (inside : p < size w)
    (long : counts_to (size w) ≤ length room) (flags : size w ≤ length changed)
    {changed' after : List ℕ} (flag : changed' ≡ set changed p 1) (k : Noted (counts_from (size w)) (set room (size w + p) 1) p 0 after) where
  taken_marks : (q : ℕ) → q < size w → marked_in (size w) after q ≡ (marked_in (size w) room q || eqb q p)
  taken_marks q h = untouched_marks (untouched_noted inside k) q h ∙ set_marks (size w) room p q (omega arith)

  taken_flags : (q : ℕ) → marked_in 0 changed' q ≡ (marked_in 0 changed q || eqb q p)
  taken_flags q =
      let z : p ≡ 0 + p = omega arith in
      ap (λ (l : List ℕ). marked_in 0 l q) (flag ∙ ap (λ (i : ℕ). set changed i 1) z) ∙ set_marks 0 changed p q (omega arith)

  word_same : (j : ℕ) → j < counts_from (size w) → j ≢ size w + p → get_or after j 0 ≡ get_or room j 0
  word_same j h ne = k.before j h ∙ get_or-set_other room (size w + p) j 1 0 ne

  same_entry : (q : ℕ) → q ≢ p → entry (counts_from (size w)) after q ≡ entry (counts_from (size w)) room q
  same_entry q ne =
      k.other q ne
      ∙ ap (λ (l : List ℕ). take word_count l) (drop-set-lt (counts_from (size w) + word_count * q) room (size w + p) 1 (omega arith))

  pub stale_taken : Stale w heads changed' after
  stale_taken = record {
    chained = record {
      head = x.chained.head;
      next = λ q t h. rw (word_same (links_from (size w) + q) (omega arith) (λ e. omega arith)) (x.chained.next q t h);
    };
    before = x.before;
    ends = λ q t. taken_marks q (omega arith) ∙ rw (x.ends q t, ne_eqb q p (λ e. omega arith)) refl;
    less = λ q h e. taken_marks q h ∙ rw (x.less q h e) refl;
    left = λ q h. by-eq q p
        (λ e. rw (taken_marks q h, eq-eqb q p e) (rw (or_right (marked_in (size w) room q) true refl) (rw e k.here)))
        (λ ne. rw (taken_marks q h, ne_eqb q p ne, or-false (marked_in (size w) room q), same_entry q ne) (x.left q h));
    same = λ q h f. by-eq q p
        (λ e. absurd (true≢false (sym (taken_flags q ∙ rw (eq-eqb q p e) (or_right (marked_in 0 changed q) true refl)) ∙ f)))
        (λ ne.
        let unset : marked_in 0 changed q ≡ false = sym (taken_flags q ∙ rw (ne_eqb q p ne) (or-false (marked_in 0 changed q))) ∙ f in
        taken_marks q h ∙ rw (ne_eqb q p ne) (or-false (marked_in (size w) room q)) ∙ x.same q h unset);
  }
