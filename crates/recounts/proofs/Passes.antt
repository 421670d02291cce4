-- What each step of the pass gives that works out again what is left, from the last variable to the first.
use Prim.Native.Nat.{ℕ, suc, ◌+◌, ◌-◌, ◌≤◌, ◌<◌}
use mathlib.Core.Path.{◌≡◌, refl, sym, ap, ◌∙◌}
use mathlib.Core.Logic.{◌≢◌}
use mathlib.Core.Bool.{Bool, true, false, ◌||◌, or-false, true≢false}
use mathlib.Core.List.{List}
use native.Mathlib.Omega.{arith}
use lib.ListN.{length, get_or, set, take, drop, length-set, length-drop}
use lib.Seq.{ext_get_or, get_or-take, get_or-drop, length-take-le}
use borrow.Author.Tests.{eq-eqb, ne_eqb}
use Rattle.naturals.specs.Natural.{Holds}
use Rattle.naturals.proofs.Answer.{holds_as}
use Rattle.diagram.specs.Limits.{max_nodes}
use Rattle.diagram.specs.Diagram.{var_of, low_of, high_of, size, vars, Ordered}
use Rattle.diagram.proofs.Tests.{by-eq, by_test, or_right}
use Rattle.diagram.proofs.Reading.{Layer, layered, by_two}
use Rattle.levels.specs.Chains.{Last, Given, Known}
use Rattle.levels.proofs.Chaining.{known_from, known_begins, known_ends, at_chain, chain_falls}
use Rattle.counts.specs.Table.{entry, num, Noted, scaled}
use Rattle.counts.specs.Worth.{shared_of, Sharing}
use Rattle.cuts.specs.Marks.{marked_in}
use Rattle.cuts.proofs.Marking.{set_marks}
use Rattle.diagram.specs.Limits.{max_nodes}
use Rattle.room_map.specs.Map.{links_from, counts_from, counts_to}
use Rattle.recounts.specs.Kept.{left_of, Untouched, Renewing, Renewed, Turning, Joining, Levelling, AtLevel, Passing}
use Rattle.recounts.proofs.Left.{part_is, left_taken, left_node, left_most}

-- ---- what stays

pub untouched_none : (n : ℕ) (room : List ℕ) → Untouched n room room
untouched_none n room = record { kept = refl; before = λ k h. refl; beyond = refl }

pub untouched_on : {n : ℕ} {room mid after : List ℕ} → Untouched n room mid → Untouched n mid after → Untouched n room after
untouched_on x y = record {
  kept = y.kept ∙ x.kept;
  before = λ k h. y.before k h ∙ x.before k h;
  beyond = y.beyond ∙ x.beyond;
}

pub untouched_noted : {n q x : ℕ} {room after : List ℕ} → q < n → Noted (counts_from n) room q x after → Untouched n room after
untouched_noted {n} {q} h k = record { kept = k.size; before = k.before; beyond = k.beyond (counts_to n) (omega arith) }

-- Words that are the same one by one.
pub same_words : (m : ℕ) (room after : List ℕ) → length after ≡ length room → ((k : ℕ) → k < m → get_or after k 0 ≡ get_or room k 0)
    → (i k : ℕ) → i + k ≤ m → i + k ≤ length room → take k (drop i after) ≡ take k (drop i room)
same_words m room after e same i k h fits =
    let a = length-drop i after in
    let b = length-drop i room in
    let la : length (take k (drop i after)) ≡ k = length-take-le k (drop i after) (omega arith) in
    let lb : length (take k (drop i room)) ≡ k = length-take-le k (drop i room) (omega arith) in
    ext_get_or 0 (take k (drop i after)) (take k (drop i room)) (la ∙ sym lb) (λ j l.
    let inside : j < k = omega arith in
    get_or-take k (drop i after) j 0 inside ∙ get_or-drop i after j 0 ∙ same (i + j) (omega arith)
    ∙ sym (get_or-take k (drop i room) j 0 inside ∙ get_or-drop i room j 0))

pub marks_read : (n : ℕ) (room after : List ℕ) (q : ℕ) → get_or after (n + q) 0 ≡ get_or room (n + q) 0 → marked_in n after q ≡ marked_in n room q
unfolding marked_in
marks_read n room after q e = rw e refl

pub untouched_marks : {n : ℕ} {room after : List ℕ} → Untouched n room after → (q : ℕ) → q < n → marked_in n after q ≡ marked_in n room q
untouched_marks {n} {room} {after} u q h = marks_read n room after q (u.before (n + q) (omega arith))

-- ---- where the pass stands, both ways

renewing_as : {w changed room : List ℕ} {c b : ℕ} → Renewing w changed room c b → (d e : ℕ)
    → ((q : ℕ) → q < size w → Known w d e q → Known w c b q) → ((q : ℕ) → q < size w → Known w c b q → Known w d e q)
    → Renewing w changed room d e
renewing_as s d e f g = record {
  long = s.long;
  flags = s.flags;
  next = s.next;
  before = s.before;
  taken = s.taken;
  marks = s.marks;
  less = s.less;
  done = λ q h k. s.done q h (f q h k);
  todo = λ q h k. s.todo q h (λ x. k (g q h x));
}

renewed_as : {w start changed room : List ℕ} {c b : ℕ} → Renewed w start changed room c b → (d e : ℕ)
    → ((q : ℕ) → q < size w → Known w d e q → Known w c b q) → ((q : ℕ) → q < size w → Known w c b q → Known w d e q)
    → Renewed w start changed room d e
renewed_as s d e f g = record { renewing = renewing_as s.renewing d e f g; untouched = s.untouched }

-- past p, in p's chain
known_past : {w : List ℕ} {c p q : ℕ} → q ≢ p → Known w c p q → Known w c (suc p) q
known_past ne k = record { level = k.level; turn = λ e. let t = k.turn e in omega arith }

known_still : {w : List ℕ} {c p q : ℕ} → Known w c (suc p) q → Known w c p q
known_still k = record { level = k.level; turn = λ e. let t = k.turn e in omega arith }

-- ---- a node that has changed

pub change_done : (changed : List ℕ) (p : ℕ) {after : List ℕ} → after ≡ set changed (0 + p) 1 → after ≡ set changed p 1
change_done changed p e = let z : 0 + p ≡ p = omega arith in e ∙ ap (λ (i : ℕ). set changed i 1) z

-- ---- one node

module _ {w changed room : List ℕ} {n p : ℕ} (t : Turning w changed room n p) where
  abbrev ordered : Ordered w
  ordered = t.given.ordered

  abbrev layer : Layer w (vars w) (size w) p
  layer = (layered w ordered).node p t.node.two t.node.inside

  abbrev s : Renewing w changed room (var_of w p) (suc p)
  s = t.renewing

  is_size : n ≡ size w
  is_size = t.given.nodes

  below_known : (q : ℕ) → var_of w p < var_of w q → Known w (var_of w p) (suc p) q
  below_known q up = record { level = omega arith; turn = λ e. absurd (omega arith) }

  self_known : Known w (var_of w p) p p
  self_known = record { level = omega arith; turn = λ e. omega arith }

  self_todo : Known w (var_of w p) (suc p) p → ⊥
  self_todo k = let x = k.turn refl in omega arith

  child_is : (q : ℕ) → q < size w → var_of w p < var_of w q → num (counts_from n) room q ≡ left_of w s.taken q
  child_is q h up = ap (λ (i : ℕ). num (counts_from i) room q) is_size ∙ (s.done q h (below_known q up)).0.worth

  left_is : (m : ℕ → Bool) → m p ≡ false
      → left_of w m p ≡ scaled w p (low_of w p) (left_of w m (low_of w p)) + scaled w p (high_of w p) (left_of w m (high_of w p))
  left_is m e = let l = layer in left_node w ordered m p t.node.two t.node.inside l.low l.high e

  -- nothing is written, and the node is right
  stays : (Holds (left_of w s.taken p) (entry (counts_from (size w)) room p)) × (marked_in 0 changed p ≡ false → left_of w s.taken p ≡ left_of w s.before p)
      → Renewed w room changed room (var_of w p) p
  stays x = record {
    renewing = record {
      long = s.long;
      flags = s.flags;
      next = s.next;
      before = s.before;
      taken = s.taken;
      marks = s.marks;
      less = s.less;
      done = λ q h k. by-eq q p
          (λ e. rw e x)
          (λ ne. s.done q h (known_past ne k));
      todo = λ q h k. s.todo q h (λ y. k (known_still y));
    };
    untouched = untouched_none (size w) room;
  }

  -- it is taken
  pub renew_taken : marked_in n room p ≡ true → Renewed w room changed room (var_of w p) p
  renew_taken e =
      let gone : s.taken p ≡ true = sym (s.marks p t.node.inside) ∙ ap (λ (i : ℕ). marked_in i room p) (sym is_size) ∙ e in
      let old = s.todo p t.node.inside self_todo in
      let none = left_taken w s.taken p gone in
      stays (
        holds_as (rw gone (sym none)) old.0,
        (λ f. none ∙ sym (left_taken w s.before p (sym (old.1 f) ∙ gone))),
      )

  -- no child has changed
  pub renew_still : (marked_in 0 changed (low_of w p) || marked_in 0 changed (high_of w p)) ≡ false → Renewed w room changed room (var_of w p) p
  renew_still e = by_test (s.taken p)
      (λ gone. renew_taken (ap (λ (i : ℕ). marked_in i room p) is_size ∙ s.marks p t.node.inside ∙ gone))
      (λ free.
      let l = layer in
      let was : s.before p ≡ false = by_test (s.before p) (λ b. absurd (true≢false (sym (s.less p t.node.inside b) ∙ free))) (λ b. b) in
      let low = (s.done (low_of w p) l.low (below_known (low_of w p) l.above_low)).1 (none_left (marked_in 0 changed (low_of w p)) (marked_in 0 changed (high_of w p)) e) in
      let high = (s.done (high_of w p) l.high (below_known (high_of w p) l.above_high)).1 (none_right (marked_in 0 changed (low_of w p)) (marked_in 0 changed (high_of w p)) e) in
      let same : left_of w s.taken p ≡ left_of w s.before p = left_is s.taken free ∙ rw (low, high) (sym (left_is s.before was)) in
      stays (holds_as (rw free (sym same)) (s.todo p t.node.inside self_todo).0, (λ f. same)))
    where
      none_left : (a b : Bool) → (a || b) ≡ false → a ≡ false
      none_left true b x = x
      none_left false b x = refl

      none_right : (a b : Bool) → (a || b) ≡ false → b ≡ false
      none_right true b x = absurd (true≢false x)
      none_right false b x = x

module _ {w changed room : List ℕ} {n p : ℕ} (j : Joining w changed room n p) where
  free : (s j.turning).taken p ≡ false
  free = sym ((s j.turning).marks p j.turning.node.inside) ∙ ap (λ (i : ℕ). marked_in i room p) (sym (is_size j.turning)) ∙ j.free

  -- together the children have what is left
  shared : shared_of true w (counts_from n) room p ≡ left_of w (s j.turning).taken p
  shared =
      let t = j.turning in
      let l = layer t in
      rw (part_is w p (low_of w p) (num (counts_from n) room (low_of w p)), part_is w p (high_of w p) (num (counts_from n) room (high_of w p)), child_is t (low_of w p) l.low l.above_low, child_is t (high_of w p) l.high l.above_high)
      (sym (left_is t (s t).taken free))

  pub join_few : n ≤ max_nodes
  join_few = let few = (ordered j.turning).formed.few in let e = is_size j.turning in omega arith

  pub join_asks : Sharing true w (counts_from n) room p
  join_asks =
      let t = j.turning in
      let l = layer t in
      let e = is_size t in
      let long = (s t).long in
      let inside = t.node.inside in
      record {
        inside = omega arith;
        low = omega (arith, l.low);
        high = omega (arith, l.high);
        level = omega (arith, l.var);
        above_low = l.above_low;
        above_high = l.above_high;
        variables = (ordered t).formed.variables;
        fits = rw shared (left_most w (ordered t) (s t).taken p);
      }

  module _ {changed' after : List ℕ} (f : changed' ≡ set changed p 1) (k : Noted (counts_from (size w)) room p (left_of w (s j.turning).taken p) after) where
    flag_set : changed' ≡ set changed (0 + p) 1
    flag_set = let e : p ≡ 0 + p = omega arith in f ∙ ap (λ (i : ℕ). set changed i 1) e

    flag_other : (q : ℕ) → q ≢ p → marked_in 0 changed' q ≡ marked_in 0 changed q
    flag_other q ne =
        let fits = (s j.turning).flags in
        let inside = j.turning.node.inside in
        ap (λ (l : List ℕ). marked_in 0 l q) flag_set ∙ set_marks 0 changed p q (omega arith) ∙ rw (ne_eqb q p ne) (or-false (marked_in 0 changed q))

    flag_here : marked_in 0 changed' p ≡ true
    flag_here =
        let fits = (s j.turning).flags in
        let inside = j.turning.node.inside in
        ap (λ (l : List ℕ). marked_in 0 l p) flag_set ∙ set_marks 0 changed p p (omega arith) ∙ rw (eq-eqb p p refl) (or_right (marked_in 0 changed p) true refl)

    joined : Renewed w room changed' after (var_of w p) p
    joined =
        let t = j.turning in
        let inside = t.node.inside in
        let u = untouched_noted inside k in
        record {
          renewing = record {
            long = omega (arith, (s t).long, k.size);
            flags = omega (arith, (s t).flags, ap (λ (l : List ℕ). length l) f, same_length changed p);
            next = λ q two h. rw (k.before (links_from (size w) + q) (omega arith)) ((s t).next q two h);
            before = (s t).before;
            taken = (s t).taken;
            marks = λ q h. untouched_marks u q h ∙ (s t).marks q h;
            less = (s t).less;
            done = λ q h known. by-eq q p
                (λ e. rw e (k.here, λ x. absurd (true≢false (sym flag_here ∙ x))))
                (λ ne.
                let old = (s t).done q h (known_past ne known) in
                (rw (k.other q ne) old.0, λ x. old.1 (sym (flag_other q ne) ∙ x)));
            todo = λ q h known. by-eq q p
                (λ e. absurd (known (rw e (self_known t))))
                (λ ne.
                let old = (s t).todo q h (λ y. known (known_still y)) in
                (rw (k.other q ne) old.0, λ x. old.1 (sym (flag_other q ne) ∙ x)));
          };
          untouched = u;
        }
      where
        same_length : (l : List ℕ) (i : ℕ) → length (set l i 1) ≡ length l
        same_length l i = simp length-set

  pub join_done : {changed' after : List ℕ} → changed' ≡ set changed (0 + p) 1 → Noted (counts_from n) room p (shared_of true w (counts_from n) room p) after
      → Renewed w room changed' after (var_of w p) p
  join_done {changed'} {after} flag note =
      let mine : Noted (counts_from n) room p (left_of w (s j.turning).taken p) after = rw shared at note in
      joined (change_done changed p flag) (noted_as (is_size j.turning) mine)
    where
      noted_as : {a b x : ℕ} → a ≡ b → Noted (counts_from a) room p x after → Noted (counts_from b) room p x after
      noted_as e k = rw e at k

-- ---- one variable

module _ {w : List ℕ} (o : Ordered w) {c : ℕ} (level : c < vars w) where
  known_back : {b p : ℕ} → Last w c b p → b ≤ size w → (q : ℕ) → q < size w → Known w c b q → Known w c (suc p) q
  known_back {b} {p} l fits q h k = record {
    level = k.level;
    turn = λ e.
        let t = k.turn e in
        let two = tests_two e in
        by-eq p 0 (λ z. omega arith) (λ ne. let below = (l.node ne).1 in omega arith);
  }
    where
      tests_two : var_of w q ≡ c → 2 ≤ q
      tests_two e = by_two q (λ t. let x = (layered w o).terminal q t h in absurd (omega arith)) (λ two. two)

module _ {w start changed room : List ℕ} {n c : ℕ} (given : Given w n) (level : c < vars w) where
  module _ {p : ℕ} (a : AtLevel w start changed room c p) (ne : p ≢ 0) where
    pub level_turns : Turning w changed room n p
    level_turns =
        let k = a.node ne in
        record { given = given; node = k.0; renewing = rw k.1 a.renewed.renewing }

    pub level_on : {changed' after : List ℕ} → Renewed w room changed' after (var_of w p) p → (q : ℕ) → q ≡ get_or after (links_from n + p) 0
        → AtLevel w start changed' after c q × (q < p)
    level_on {changed'} {after} x q e =
        let k = a.node ne in
        let mine : Renewed w start changed' after c p = record { renewing = rw k.1 at x.renewing; untouched = untouched_on a.renewed.untouched x.untouched } in
        let last : Last w c p q = rw (e, given.nodes, ← k.1) (x.renewing.next p k.0.two k.0.inside) in
        let inside = k.0.inside in (
          record {
            node = at_chain (omega arith) last;
            renewed = renewed_as mine c (suc q) (known_from w given.ordered c level last) (known_back given.ordered level last (omega arith));
          },
          chain_falls k.0.two last,
        )

  pub level_ends : {p : ℕ} → AtLevel w start changed room c p → p ≡ 0 → Renewed w start changed room c 0
  level_ends {p} a e =
      let mine : Renewed w start changed room c 1 = rw e at a.renewed in
      renewed_as mine c 0 (known_ends w given.ordered c level) (λ q h k. known_still k)

pub level_begins : {w heads changed room : List ℕ} {n c : ℕ} → Levelling w heads changed room n c → (p : ℕ) → p ≡ get_or heads c 0 → AtLevel w room changed room c p
level_begins {w} {heads} {changed} {room} {n} {c} d p e =
    let o = d.given.ordered in
    let last : Last w c (size w) p = rw e (d.head c d.level) in
    record {
      node = at_chain (omega arith) last;
      renewed = record {
        renewing = renewing_as d.renewing c (suc p)
            (λ q h k. known_begins w o c d.level q h (known_from w o c d.level last q h k))
            (λ q h k. known_back o d.level last (omega arith) q h (record { level = omega (arith, k.level); turn = λ x. let up = k.level in absurd (omega arith) }));
        untouched = untouched_none (size w) room;
      };
    }

-- ---- all variables

pub all_levels : {w heads changed room : List ℕ} {n v : ℕ} → Passing w heads changed room n v → {start changed' after : List ℕ} {c : ℕ} → c ≤ v → 0 < c
    → Renewed w start changed' after c 0 → Levelling w heads changed' after n (c - 1)
all_levels p {start} {changed'} {after} {c} below some x =
    let back : c ≡ suc (c - 1) = omega arith in
    let e = p.is_vars in
    record { given = p.given; level = omega arith; head = p.head; renewing = rw back at x.renewing }

pub all_starts : {w heads changed room : List ℕ} {n v : ℕ} → Passing w heads changed room n v → Renewed w room changed room v 0
all_starts {w} {heads} {changed} {room} p = record { renewing = p.renewing; untouched = untouched_none (size w) room }

pub all_on : {w start changed room changed' after : List ℕ} {c : ℕ} → Renewed w start changed room c 0 → Renewed w room changed' after (c - 1) 0
    → Renewed w start changed' after (c - 1) 0
all_on x y = record { renewing = y.renewing; untouched = untouched_on x.untouched y.untouched }

-- ---- a child that has changed

module _ (w changed : List ℕ) (p : ℕ) where
  pub above_low : {low : ℕ} {b : Bool} → low ≡ low_of w p → b ≡ marked_in 0 changed low → b ≡ true
      → true ≡ (marked_in 0 changed (low_of w p) || marked_in 0 changed (high_of w p))
  above_low e is t = sym (rw (sym (ap (λ (q : ℕ). marked_in 0 changed q) e) ∙ sym is ∙ t) refl)

  pub above_high : {low high : ℕ} {b d : Bool} → low ≡ low_of w p → b ≡ marked_in 0 changed low → b ≡ false → high ≡ high_of w p → d ≡ marked_in 0 changed high
      → d ≡ (marked_in 0 changed (low_of w p) || marked_in 0 changed (high_of w p))
  above_high e is f eh id =
      id ∙ ap (λ (q : ℕ). marked_in 0 changed q) eh
      ∙ sym (rw (sym (ap (λ (q : ℕ). marked_in 0 changed q) e) ∙ sym is ∙ f) refl)

-- ---- places

pub level_place : {w start changed room : List ℕ} {n c p : ℕ} → Given w n → AtLevel w start changed room c p → p ≢ 0 → links_from n + p < counts_from max_nodes
level_place given a ne =
    let few = given.ordered.formed.few in
    let e = given.nodes in
    let inside = (a.node ne).0.inside in
    omega arith

pub next_is : (room : List ℕ) (n p : ℕ) {i q : ℕ} → i ≡ p → q ≡ get_or room (links_from n + i) 0 → q ≡ get_or room (links_from n + p) 0
next_is room n p e h = h ∙ ap (λ (k : ℕ). get_or room (links_from n + k) 0) e

pub turning_few : {w changed room : List ℕ} {n p : ℕ} → Turning w changed room n p → n ≤ max_nodes
turning_few t = let few = t.given.ordered.formed.few in let e = t.given.nodes in omega arith

pub all_done : {w start changed room : List ℕ} {c : ℕ} → Renewed w start changed room c 0 → c ≡ 0 → Renewed w start changed room 0 0
all_done x e = rw e at x
