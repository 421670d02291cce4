-- The search for reachable nodes: what a push, a pop and a visit keep, and what the marks say in the end.
use Prim.Native.Nat.{ℕ, suc, ◌+◌, ◌-◌, ◌*◌, ◌≤◌, ◌<◌, min}
use mathlib.Core.Path.{◌≡◌, sym, ◌∙◌, ap}
use mathlib.Core.Bool.{false, not}
use mathlib.Core.List.{List, ◌++◌}
use mathlib.Core.Logic.{◌⊎◌, ◌≢◌, inl, inr, ⊎_elim}
use native.Mathlib.Omega.{arith}
use native.Mathlib.Numerals.{add-one}
use borrow.Author.Tests.{eq-eqb, ne_eqb}
use lib.ListN.{length, get_or, set, drop, replicate, length-set, length-append, length-replicate, length-drop, get_or-replicate, get_or-append}
use lib.Seq.{get_or-set_same, get_or-set_other}
use lib.Dec.{eqb}
use Rattle.diagram.specs.Diagram.{low_of, high_of, size, root, Reach, start, by_low, by_high, Formed}
use Rattle.diagram.specs.Verdict.{reaches}
use Rattle.diagram.specs.Marking.{zeros, Marked, OnStack, pushed, pushed_top, Working, Onward, Marks}
use Rattle.diagram.proofs.Tests.{by_test, by-eq, cond-true, cond-false}
use Rattle.diagram.proofs.Count.{count_most, count_less}
use Rattle.diagram.proofs.Reaching.{reaches_sound, reaches_complete}

-- what a push gives: the search goes on, and the node has its mark
pub record Pushed (w : List ℕ) (busy : ℕ) (r : List ℕ) (top p : ℕ) (r' : List ℕ) (top' : ℕ) : Type 0 where
  pub working : Working w busy r' top'
  pub onward : Onward w 0 r top r' top'
  pub marked : Marked r' p

module _ (w : List ℕ) (busy : ℕ) (r : List ℕ) (top p : ℕ) (s : Working w busy r top) (l : p < size w) (h : Reach w (root w) p) where
  -- the node had its mark
  push_old : 0 < get_or r p 0 → Pushed w busy r top p r top
  push_old m =
      record { working = s; onward = record { grown = λ q l' g. g; left = omega arith }; marked = m }

  -- it had none
  new : List ℕ
  new = set (set r p 1) (size w + top) p

  new_length : length new ≡ length r
  unfolding new
  new_length = simp length-set

  module _ (e : get_or r p 0 ≡ 0) where
    here : get_or new p 0 ≡ 1
    unfolding new
    here = get_or-set_other (set r p 1) (size w + top) p p 0 (λ x. omega arith) ∙ get_or-set_same r p 1 0 (omega (arith, s.long))

    other : (q : ℕ) → (q ≡ p → ⊥) → q < size w + top → get_or new q 0 ≡ get_or r q 0
    unfolding new
    other q ne m = get_or-set_other (set r p 1) (size w + top) q p 0 (λ x. omega arith) ∙ get_or-set_other r p q 1 0 ne

    fewer : zeros (size w) r ≡ suc (zeros (size w) new)
    fewer =
        count_less (size w) (λ q. eqb (get_or r q 0) 0) (λ q. eqb (get_or new q 0) 0) p l (eq-eqb (get_or r p 0) 0 e)
        (ne_eqb (get_or new p 0) 0 (λ x. omega (arith, here)))
        (λ q m ne. ap (λ (x : ℕ). eqb x 0) (sym (other q ne (omega arith))))

    above : get_or new (size w + top) 0 ≡ p
    unfolding new
    above = get_or-set_same (set r p 1) (size w + top) p 0 (rw length-set (omega (arith, s.long, s.space, fewer)))

    kept : (q : ℕ) → q < size w + top → Marked r q → Marked new q
    kept q m g = by-eq q p (λ x. rw x (omega (arith, here))) (λ x. omega (arith, other q x m))

    now_stacked : (k : ℕ) → k < suc top → (get_or new (size w + k) 0 < size w) × Marked new (get_or new (size w + k) 0)
    now_stacked k m =
        by-eq k top
        (λ x. rw (x, above) (l, omega (arith, here)))
        (λ x.
        let o = other (size w + k) (λ y. omega arith) (omega arith) in
        let b = s.stacked k (omega arith) in
        rw o (b.0, kept (get_or r (size w + k) 0) (omega (arith, b.0)) b.1))

    still : (q : ℕ) → OnStack (size w) r top q → OnStack (size w) new (suc top) q
    still q o = (o.0, omega (arith, o.1), other (size w + o.0) (λ y. omega arith) (omega (arith, o.1)) ∙ o.2)

    now_done : Formed w → (q : ℕ) → 2 ≤ q → q < size w → q ≢ busy → Marked new q
        → OnStack (size w) new (suc top) q ⊎ (Marked new (low_of w q) × Marked new (high_of w q))
    now_done formed q two m nb g =
        by-eq q p
        (λ x. inl (top, omega arith, above ∙ sym x))
        (λ x.
        ⊎_elim
        (λ o. inl (still q o))
        (λ c.
        let i = formed.ranges q two m in
        inr (kept (low_of w q) (omega (arith, i.low)) c.0, kept (high_of w q) (omega (arith, i.high)) c.1))
        (s.done q two m nb (omega (arith, g, other q x (omega arith)))))

    now_sound : (q : ℕ) → q < size w → Marked new q → Reach w (root w) q
    now_sound q m g = by-eq q p (λ x. rw x h) (λ x. s.sound q m (omega (arith, g, other q x (omega arith))))

    push_new : Formed w → Pushed w busy r top p new (suc top)
    push_new formed =
        record {
          working =
              record {
                long = rw new_length s.long;
                space = omega (arith, s.space, fewer);
                sound = now_sound;
                stacked = now_stacked;
                done = now_done formed;
              };
          onward = record { grown = λ q m g. kept q (omega arith) g; left = omega (arith, fewer) };
          marked = omega (arith, here);
        }

  -- either way
  pub push_keeps : Formed w → Pushed w busy r top p (pushed (size w) r top p) (pushed_top r top p)
  unfolding new
  push_keeps formed =
      by-eq (get_or r p 0) 0
      (λ e. rw (eq-eqb (get_or r p 0) 0 e, add-one) (push_new e formed))
      (λ e. rw (ne_eqb (get_or r p 0) 0 e) (push_old (omega arith)))

-- the top of the stack is taken off: it is a marked node, and the one that is busy now
pub record Popped (w : List ℕ) (r : List ℕ) (top p : ℕ) : Type 0 where
  pub working : Working w p r top
  pub node : p < size w
  pub marked : Marked r p

pub pop_keeps : (w r : List ℕ) (top : ℕ) → Working w 0 r (top + 1) → Popped w r top (get_or r (size w + top) 0)
pop_keeps w r top s =
    let b = s.stacked top (omega arith) in
    record {
      working =
          record {
            long = s.long;
            space = omega (arith, s.space);
            sound = s.sound;
            stacked = λ k m. s.stacked k (omega arith);
            done = λ q two m ne g.
                ⊎_elim
                (λ o. by-eq o.0 top (λ x. absurd (ne (sym o.2 ∙ ap (λ (k : ℕ). get_or r (size w + k) 0) x))) (λ x. inl (o.0, omega (arith, o.1), o.2)))
                (λ c. inr c)
                (s.done q two m (λ z. omega arith) g);
          };
      node = b.0;
      marked = b.1;
    }

-- the busy node is a terminal, or both its children have their marks by now
pub rest_terminal : (w r : List ℕ) (top p : ℕ) → p < 2 → Working w p r top → Working w 0 r top
rest_terminal w r top p l s =
    record {
      long = s.long;
      space = s.space;
      sound = s.sound;
      stacked = s.stacked;
      done = λ q two m ne g. s.done q two m (λ x. omega arith) g;
    }

pub rest_node : (w r : List ℕ) (top p : ℕ) → Working w p r top → Marked r (low_of w p) → Marked r (high_of w p) → Working w 0 r top
rest_node w r top p s low high =
    record {
      long = s.long;
      space = s.space;
      sound = s.sound;
      stacked = s.stacked;
      done = λ q two m ne g. by-eq q p (λ x. rw x (inr (low, high))) (λ x. s.done q two m x g);
    }

-- nothing is left on the stack: every node that can be reached has its mark
marked_all : (w r : List ℕ) → Formed w → Working w 0 r 0 → Marked r (root w) → {p : ℕ} → Reach w (root w) p → (p < size w) × Marked r p
marked_all w r formed s b start = (omega (arith, formed.some), b)
marked_all w r formed s b (by_low {p = q} h two) =
    let i = marked_all w r formed s b h in
    ((formed.ranges q two i.0).low, ⊎_elim (λ o. absurd (omega (arith, o.1))) (λ c. c.0) (s.done q two i.0 (λ x. omega arith) i.1))
marked_all w r formed s b (by_high {p = q} h two) =
    let i = marked_all w r formed s b h in
    ((formed.ranges q two i.0).high, ⊎_elim (λ o. absurd (omega (arith, o.1))) (λ c. c.1) (s.done q two i.0 (λ x. omega arith) i.1))

pub marks_right : (w r : List ℕ) → Formed w → Working w 0 r 0 → Marked r (root w) → Marks w r
marks_right w r formed s b p l =
    by-eq (get_or r p 0) 0
    (λ e. eq-eqb (get_or r p 0) 0 e ∙ sym (ap not (unreached e)))
    (λ e. ne_eqb (get_or r p 0) 0 e ∙ sym (ap not (reaches_complete w formed p (s.sound p l (omega arith)))))
  where
    unreached : get_or r p 0 ≡ 0 → reaches w p ≡ false
    unreached e =
        by_test (reaches w p)
        (λ t. absurd (omega (arith, e, (marked_all w r formed s b (reaches_sound w p t)).1)))
        (λ f. f)

-- before anything is marked
clean : ℕ → List ℕ → List ℕ
clean n r = replicate (min n (length r)) 0 ++ drop n r

clean_length : (n : ℕ) (r : List ℕ) → n ≤ length r → length (clean n r) ≡ length r
unfolding clean
clean_length n r h = simp (length-append, length-replicate, length-drop) (omega arith)

clean_zero : (n : ℕ) (r : List ℕ) (p : ℕ) → n ≤ length r → p < n → get_or (clean n r) p 0 ≡ 0
unfolding clean
clean_zero n r p h l =
    let m : p < min n (length r) = omega arith in
    get_or-append (replicate (min n (length r)) 0) (drop n r) 0 p (rw length-replicate m) ∙ get_or-replicate (min n (length r)) p 0 0 m

pub search_begins : (w r : List ℕ) → 2 * size w ≤ length r → Working w 0 (replicate (min (size w) (length r)) 0 ++ drop (size w) r) 0
unfolding clean
search_begins w r long =
    record {
      long = rw (clean_length (size w) r (omega arith)) long;
      space = omega (arith, count_most (size w) (λ p. eqb (get_or (clean (size w) r) p 0) 0));
      sound = λ p l g. absurd (omega (arith, g, clean_zero (size w) r p (omega arith) l));
      stacked = λ k m. absurd (omega arith);
      done = λ p two l ne g. absurd (omega (arith, g, clean_zero (size w) r p (omega arith) l));
    }

-- what the code's push wrote is `pushed`
pub push_hit : (n : ℕ) (r : List ℕ) (top p x : ℕ) (r₁ r₂ : List ℕ) → x ≡ get_or r p 0 → x ≡ 0 → r₁ ≡ set r p 1 → r₂ ≡ set r₁ (n + top) p
    → (top + 1 ≡ pushed_top r top p) × (r₂ ≡ pushed n r top p)
push_hit n r top p x r₁ r₂ e z a b =
    let t = eq-eqb (get_or r p 0) 0 (sym e ∙ z) in
    (sym (cond-true (eqb (get_or r p 0) 0) (top + 1) top t), b ∙ ap (λ (l : List ℕ). set l (n + top) p) a ∙ sym (cond-true (eqb (get_or r p 0) 0) (set (set r p 1) (n + top) p) r t))

pub push_miss : (n : ℕ) (r : List ℕ) (top p x : ℕ) → x ≡ get_or r p 0 → (x ≡ 0 → ⊥)
    → (top ≡ pushed_top r top p) × (r ≡ pushed n r top p)
push_miss n r top p x e z =
    let t = ne_eqb (get_or r p 0) 0 (λ y. z (e ∙ y)) in
    (sym (cond-false (eqb (get_or r p 0) 0) (top + 1) top t), sym (cond-false (eqb (get_or r p 0) 0) (set (set r p 1) (n + top) p) r t))

pub push_most : (r : List ℕ) (top p : ℕ) → pushed_top r top p ≤ top + 1
push_most r top p =
    by-eq (get_or r p 0) 0
    (λ e. rw (eq-eqb (get_or r p 0) 0 e) (omega arith))
    (λ e. rw (ne_eqb (get_or r p 0) 0 e) (omega arith))

-- a visit, by its two ways
pub visit_terminal : (w r : List ℕ) (n below p : ℕ) → n ≡ size w → Working w 0 r (below + 1) → p ≡ get_or r (n + below) 0 → p < 2
    → Working w 0 r below × Onward w 1 r (below + 1) r below
visit_terminal w r n below p en s e l =
    let q : Popped w r below p = rw (e, en) (pop_keeps w r below s) in
    (rest_terminal w r below p l q.working, record { grown = λ x m g. g; left = omega arith })

both_pushed : (w r : List ℕ) (below p : ℕ) → Formed w → Popped w r below p → 2 ≤ p → (r₁ : List ℕ) (top₁ : ℕ)
    → Pushed w p r below (low_of w p) r₁ top₁
    → Working w 0 (pushed (size w) r₁ top₁ (high_of w p)) (pushed_top r₁ top₁ (high_of w p))
    × Onward w 1 r (below + 1) (pushed (size w) r₁ top₁ (high_of w p)) (pushed_top r₁ top₁ (high_of w p))
both_pushed w r below p formed q two r₁ top₁ a =
    let i = formed.ranges p two q.node in
    let b = push_keeps w p r₁ top₁ (high_of w p) a.working i.high (by_high (q.working.sound p q.node q.marked) two) formed in (
      rest_node w (pushed (size w) r₁ top₁ (high_of w p)) (pushed_top r₁ top₁ (high_of w p)) p b.working
          (b.onward.grown (low_of w p) i.low a.marked) b.marked,
      record {
        grown = λ x m g. b.onward.grown x m (a.onward.grown x m g);
        left = omega (arith, a.onward.left, b.onward.left);
      },
    )

pub visit_node : (w r : List ℕ) (n below p low high : ℕ) (r₁ : List ℕ) (top₁ : ℕ) (r₂ : List ℕ) (top₂ : ℕ) → n ≡ size w → Formed w
    → Working w 0 r (below + 1) → p ≡ get_or r (n + below) 0 → 2 ≤ p → low ≡ low_of w p → high ≡ high_of w p
    → r₁ ≡ pushed n r below low → top₁ ≡ pushed_top r below low
    → r₂ ≡ pushed n r₁ top₁ high → top₂ ≡ pushed_top r₁ top₁ high
    → Working w 0 r₂ top₂ × Onward w 1 r (below + 1) r₂ top₂
visit_node w r n below p low high r₁ top₁ r₂ top₂ en formed s e two el eh a₁ b₁ a₂ b₂ =
    let q : Popped w r below p = rw (e, en) (pop_keeps w r below s) in
    let i = formed.ranges p two q.node in
    let a : Pushed w p r below (low_of w p) r₁ top₁ =
    rw (a₁, b₁, el, en) (push_keeps w p r below (low_of w p) q.working i.low (by_low (q.working.sound p q.node q.marked) two) formed)
    in
    rw (a₂, b₂, eh, en) (both_pushed w r below p formed q two r₁ top₁ a)

-- the search begins: the marks are cleared and the root is pushed
pub search_first : (w r r₁ r₂ : List ℕ) (n top : ℕ) → n ≡ size w → Formed w → 2 * n ≤ length r
    → r₁ ≡ replicate (min n (length r)) 0 ++ drop n r → r₂ ≡ pushed n r₁ 0 (n - 1) → top ≡ pushed_top r₁ 0 (n - 1)
    → Working w 0 r₂ top × Marked r₂ (root w)
search_first w r r₁ r₂ n top en formed long a b c =
    let s : Working w 0 r₁ 0 = rw (a, en) (search_begins w r (omega arith)) in
    let p = push_keeps w 0 r₁ 0 (root w) s (omega (arith, formed.some)) start formed in
    rw (b, c, en) (p.working, p.marked)

-- and goes on, with `top` written as the code takes it
pub search_on : (w r : List ℕ) (top : ℕ) → 0 < top → Working w 0 r top → Working w 0 r (top - 1 + 1)
search_on w r top l s =
    let e : top - 1 + 1 ≡ top = omega arith in
    rw e s
