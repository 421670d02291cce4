-- The second pass: what each node has received is passed on to its children, and with what goes on from it gives its weight.
use Prim.Native.Nat.{ℕ, suc, ◌+◌, ◌-◌, ◌*◌, ◌^◌, ◌≤◌, ◌<◌}
use mathlib.Core.Path.{◌≡◌, refl, sym, ap, ◌∙◌}
use mathlib.Core.Logic.{◌≢◌, inl, inr, ⊎_elim}
use mathlib.Core.Bool.{Bool, true}
use mathlib.Core.List.{List}
use native.Mathlib.Omega.{arith}
use native.Mathlib.Decide.{dec_le}
use native.Mathlib.Nat.{mul-one, mul-zero, zero-mul, suc-mul, mul-le-mul, mul-le-mul_right, le-mul_of_pos_right}
use lib.Pow.{pow_pos, pow-add, pow_mono}
use lib.ListN.{length, get_or}
use Rattle.naturals.specs.Natural.{value, limit, word_count, Holds, Fitted}
use Rattle.std.specs.Prelude.{Option, Some}
use Rattle.naturals.specs.declared.Natural.{Natural}
use Rattle.naturals.proofs.Answer.{holds_as, fitted_some, answers_said}
use Rattle.in_place.specs.InPlace.{number_in, shifted_in, words_for, Adding, Multiplying, Fitting}
use Rattle.in_place.specs.declared.sum.Shifted.{Shifted}
use Rattle.in_place.proofs.Placed.{words_enough}
use Rattle.diagram.specs.Limits.{max_variables}
use Rattle.diagram.specs.Diagram.{var_of, low_of, high_of, size, vars, root, Ordered}
use Rattle.diagram.specs.Valuations.{weight_of}
use Rattle.diagram.proofs.Tests.{by-eq}
use Rattle.diagram.proofs.Reading.{Layer, layered, root_in, var_most, by_two}
use Rattle.levels.specs.Chains.{Last, Heads, Given, Todo}
use Rattle.levels.proofs.Chaining.{todo_from, todo_back, todo_ends, todo_begins, by_todo, at_chain, chain_falls}
use Rattle.counts.specs.Table.{entry, num, In, Noted, skip, scaled}
use Rattle.counts.proofs.Nodes.{worth_end, worth_most, under_limit}
use Rattle.counts.proofs.Entries.{apart, entry_few}
use Rattle.counts.proofs.Shares.{noted_sum}
use Rattle.weights.specs.Passes.{sat_of, through_of, dot, Sated, Counted, Emptied, Passing, Turning, Ascending, AtUp, Giving, Taking, Rising, weights_from, weights_to, Tables}
use Rattle.weights.proofs.Dots.{bump, bump_here, bump_other, bump_least, without, without_here, without_other, dot_least, dot_only, dot_moved}
use Rattle.weights.proofs.Levels.{Shared, through_node, through_self, through_none, weight_through, all_node, all_root}
use Rattle.weights.proofs.Entries.{entry_kept}

-- what is written behind the table of the first pass leaves links and counts as they are
sated_front : {w room after : List ℕ} {base : ℕ} → Sated w room → size w + word_count * size w ≤ base → length after ≡ length room
    → ((k : ℕ) → k < base → get_or after k 0 ≡ get_or room k 0) → Sated w after
sated_front {w} {room} {after} s behind same front = record {
  long = omega (arith, s.long);
  next = λ p t h. rw (front p (omega arith)) (s.next p t h);
  right = λ q h k. rw (entry_kept (size w) room after q same (λ i l. front i (omega arith))) (s.right q h k);
}

sated_kept : {w room after : List ℕ} {base q x : ℕ} → Sated w room → size w + word_count * size w ≤ base → Noted base room q x after → Sated w after
sated_kept s behind m = sated_front s behind m.size m.before

pub passing_as : {w : List ℕ} {m : ℕ} {room : List ℕ} {c b : ℕ} → Passing w m room c b → (d e : ℕ) → ((q : ℕ) → q < size w → Todo w c b q → Todo w d e q)
    → ((q : ℕ) → q < size w → Todo w d e q → Todo w c b q) → Passing w m room d e
passing_as s d e f g = record {
  sated = s.sated;
  behind = s.behind;
  long = s.long;
  received = s.received;
  todo = λ q h k. s.todo q h (g q h k);
  done = λ q h k. s.done q h (λ t. k (f q h t));
  all = s.all;
  visits = λ t h k. s.visits t h (g t h k);
}

pub passing_in : {w : List ℕ} {m : ℕ} {room : List ℕ} {c b : ℕ} → Passing w m room c b → (q : ℕ) → q < size w → In m room q
passing_in s q h = omega (arith, s.long)

-- of the nodes of the smallest variable that is left: received, times what goes on from it
pub weight_is : {w : List ℕ} {m : ℕ} {room : List ℕ} {c b : ℕ} → Ordered w → (s : Passing w m room c b) → (t : ℕ) → t < size w → Todo w c b t → var_of w t ≡ c
    → weight_of w t ≡ s.received t * sat_of w t
weight_is {w} {m} {room} {c} {b} o s t h k e =
    sym (s.visits t h k)
    ∙ dot_only (size w) s.received (through_of w t) t h others
    ∙ ap (λ (x : ℕ). s.received t * x) (through_self w o t)
  where
    others : (r : ℕ) → r < size w → r ≢ t → s.received r * through_of w t r ≡ 0
    others r m ne = by_todo w c b r
        (λ x. rw (through_none w o t r m ne (omega (arith, x.level))) (mul-zero (s.received r)))
        (λ x. rw (s.done r m x).0 (zero-mul (through_of w t r)))

-- a node has received no more than there are valuations of the variables before its own
received_few : (w : List ℕ) (a : ℕ → ℕ) → dot (size w) a (λ q. 2 ^ (vars w - var_of w q)) ≡ 2 ^ vars w → (q : ℕ) → q < size w → var_of w q ≤ vars w
    → a q ≤ 2 ^ var_of w q
received_few w a e q h level =
    let whole : var_of w q + (vars w - var_of w q) ≡ vars w = omega arith in
    let parts : 2 ^ vars w ≡ 2 ^ var_of w q * 2 ^ (vars w - var_of w q) = ap (λ (i : ℕ). 2 ^ i) (sym whole) ∙ pow-add 2 (var_of w q) (vars w - var_of w q) in
    elim (dec_le (a q) (2 ^ var_of w q)) [
      | yes l ↦ l
      | no l ↦ absurd (omega (
        arith,
        dot_least (size w) a (λ r. 2 ^ (vars w - var_of w r)) q h,
        mul-le-mul_right {m = suc (2 ^ var_of w q)} {n = a q} (2 ^ (vars w - var_of w q)) (omega arith),
        suc-mul (2 ^ var_of w q) (2 ^ (vars w - var_of w q)),
        pow_pos (vars w - var_of w q),
      ))
    ]

within : (w : List ℕ) → Ordered w → (x : ℕ) → x ≤ 2 ^ vars w → x < limit
within w o x h = under_limit x (vars w) h o.formed.variables

-- ---- one node

module _ {w : List ℕ} {base : ℕ} {room : List ℕ} {n p : ℕ} (k : Turning w base room n p) where
  abbrev ordered : Ordered w
  ordered = k.given.ordered

  abbrev layer : Layer w (vars w) (size w) p
  layer = (layered w ordered).node p k.node.two k.node.inside

  abbrev a : ℕ → ℕ
  a = k.passing.received

  todo_here : Todo w (var_of w p) (suc p) p
  todo_here = record { level = omega arith; turn = λ e. omega arith }

  turn_in : In base room p
  turn_in = passing_in k.passing p k.node.inside

  has : num base room p ≡ a p
  has = (k.passing.todo p k.node.inside todo_here).worth

  -- what each has afterwards: nothing is left at p, and the children have their shares more
  abbrev x : ℕ
  x = a p * 2 ^ skip w p (low_of w p)

  abbrev y : ℕ
  y = a p * 2 ^ skip w p (high_of w p)

  abbrev one : ℕ → ℕ
  one = without a p

  abbrev two : ℕ → ℕ
  two = bump one (low_of w p) x

  abbrev three : ℕ → ℕ
  three = bump two (high_of w p) y

  conserved : (f : ℕ → ℕ) → Shared w f p → dot (size w) three f ≡ dot (size w) a f
  conserved f e =
      let l = layer in
      dot_moved (size w) a f p (low_of w p) (2 ^ skip w p (low_of w p)) (high_of w p) (2 ^ skip w p (high_of w p)) k.node.inside l.low l.high e

  all_conserved : dot (size w) three (λ q. 2 ^ (vars w - var_of w q)) ≡ 2 ^ vars w
  all_conserved = conserved (λ q. 2 ^ (vars w - var_of w q)) (all_node w ordered p k.node.two k.node.inside) ∙ k.passing.all

  three_few : (q : ℕ) → q < size w → three q ≤ 2 ^ var_of w q
  three_few q h = received_few w three all_conserved q h (var_most w (vars w) (size w) (layered w ordered) q h)

  -- still to do afterwards: as before, but for p
  child_todo : (q : ℕ) → var_of w p < var_of w q → Todo w (var_of w p) p q
  child_todo q up = record { level = omega arith; turn = λ e. absurd (omega arith) }

  todo_before : (q : ℕ) → Todo w (var_of w p) p q → Todo w (var_of w p) (suc p) q
  todo_before q t = record { level = t.level; turn = λ e. let m = t.turn e in omega arith }

  todo_not : (q : ℕ) → Todo w (var_of w p) p q → q ≢ p
  todo_not q t e = let m = t.turn (ap (λ (z : ℕ). var_of w z) e) in omega arith

  todo_after : (q : ℕ) → Todo w (var_of w p) (suc p) q → q ≢ p → Todo w (var_of w p) p q
  todo_after q t ne = record { level = t.level; turn = λ e. let m = t.turn e in omega arith }

  -- the table has these amounts for the nodes that are still to do
  abbrev Has : List ℕ → (ℕ → ℕ) → Type 0
  Has s f = (q : ℕ) → q < size w → Todo w (var_of w p) p q → Holds (f q) (entry base s q)

  has_given : {s after : List ℕ} (f : ℕ → ℕ) (q z : ℕ) → q < size w → Todo w (var_of w p) p q → Has s f → Noted base s q (num base s q + z) after → Has after (bump f q z)
  has_given {s} {after} f q z h t table m r l u = by-eq r q
      (λ e. rw e (holds_as (ap (λ (v : ℕ). v + z) (table q h t).worth ∙ sym (bump_here f q z)) m.here))
      (λ ne. rw (m.other r ne) (holds_as (sym (bump_other f q z r ne)) (table r l u)))

  has_one : Has room one
  has_one q h t = holds_as (sym (without_other a p q (todo_not q t))) (k.passing.todo q h (todo_before q t))

  low_todo : Todo w (var_of w p) p (low_of w p)
  low_todo = let l = layer in child_todo (low_of w p) l.above_low

  high_todo : Todo w (var_of w p) p (high_of w p)
  high_todo = let l = layer in child_todo (high_of w p) l.above_high

  level_few : (q : ℕ) → q < size w → var_of w q ≤ max_variables
  level_few q h = let m = var_most w (vars w) (size w) (layered w ordered) q h in let u = ordered.formed.variables in omega arith

  pub turn_low : (low : ℕ) → low ≡ low_of w p → Giving w base room p low
  turn_low low e =
      let l = layer in
      let sum : num base room (low_of w p) + scaled w p (low_of w p) (num base room p) ≡ two (low_of w p) =
      rw (has, (has_one (low_of w p) l.low low_todo).worth) (sym (bump_here one (low_of w p) x)) in
      let most = bump_least two (high_of w p) y (low_of w p) in
      rw e (record {
        node = turn_in;
        inside = passing_in k.passing (low_of w p) l.low;
        above = l.above_low;
        level = level_few (low_of w p) l.low;
        fits = omega (arith, sum, most, three_few (low_of w p) l.low);
      })

  module _ (low : ℕ) (el : low ≡ low_of w p) {room₁ : List ℕ} (gave : Noted base room low (num base room low + scaled w p low (num base room p)) room₁) where
    gave_low : Noted base room (low_of w p) (num base room (low_of w p) + x) room₁
    gave_low = rw (el, has) at gave

    has_two : Has room₁ two
    has_two = let l = layer in has_given one (low_of w p) x l.low low_todo has_one gave_low

    -- p is none of its children
    still_low : entry base room₁ p ≡ entry base room p
    still_low = gave_low.other p (λ e. todo_not (low_of w p) low_todo (sym e))

    still : num base room₁ p ≡ a p
    still = ap value still_low ∙ has

    pub turn_high : (high : ℕ) → high ≡ high_of w p → Giving w base room₁ p high
    turn_high high e =
        let l = layer in
        let sum : num base room₁ (high_of w p) + scaled w p (high_of w p) (num base room₁ p) ≡ three (high_of w p) =
        rw (still, (has_two (high_of w p) l.high high_todo).worth) (sym (bump_here two (high_of w p) y)) in
        rw e (record {
          node = omega (arith, turn_in, gave_low.size);
          inside = omega (arith, passing_in k.passing (high_of w p) l.high, gave_low.size);
          above = l.above_high;
          level = level_few (high_of w p) l.high;
          fits = omega (arith, sum, three_few (high_of w p) l.high);
        })

    module _ (high : ℕ) (eh : high ≡ high_of w p) {room₂ : List ℕ} (gave₂ : Noted base room₁ high (num base room₁ high + scaled w p high (num base room₁ p)) room₂) where
      gave_high : Noted base room₁ (high_of w p) (num base room₁ (high_of w p) + y) room₂
      gave_high = rw (eh, still) at gave₂

      has_given_both : Has room₂ three
      has_given_both = let l = layer in has_given two (high_of w p) y l.high high_todo has_two gave_high

      sated_given : Sated w room₂
      sated_given = sated_kept (sated_kept k.passing.sated k.passing.behind gave_low) k.passing.behind gave_high

      received_is : num base room₂ p ≡ a p
      received_is = ap value (gave_high.other p (λ e. todo_not (high_of w p) high_todo (sym e))) ∙ still

      left_is : num n room₂ p ≡ sat_of w p
      left_is =
          ap (λ (m : ℕ). num m room₂ p) k.given.nodes
          ∙ (sated_given.right p k.node.inside (record { level = omega arith; turn = λ e. omega arith })).worth

      pub turn_asks : Taking w base room₂ n p
      turn_asks =
          let l = layer in
          let behind = k.passing.behind in
          let inside = k.node.inside in
          let en = k.given.nodes in
          record {
            inside = omega (arith, turn_in, gave_low.size, gave_high.size);
            before = omega arith;
            level = omega (arith, l.var);
            variables = ordered.formed.variables;
            received = rw received_is (received_few w a k.passing.all p inside (omega (arith, l.var)));
            left = rw left_is (worth_most w ordered true p);
          }

      module _ {room₃ : List ℕ} (took : Noted base room₂ p (num base room₂ p * num n room₂ p) room₃) where
        weighed : Noted base room₂ p (weight_of w p) room₃
        weighed = rw (received_is, left_is, ← weight_is ordered k.passing p k.node.inside todo_here refl) at took

        has_three : Has room₃ three
        has_three q h t = rw (weighed.other q (todo_not q t)) (has_given_both q h t)

        -- a node that is no longer to do is no child of p
        spent : (q : ℕ) → (Todo w (var_of w p) p q → ⊥) → (three q ≡ one q) × (entry base room₂ q ≡ entry base room q)
        spent q not-todo =
            let not_low : q ≢ low_of w p = λ e. not-todo (rw e low_todo) in
            let not-high : q ≢ high_of w p = λ e. not-todo (rw e high_todo) in (
              bump_other two (high_of w p) y q not-high ∙ bump_other one (low_of w p) x q not_low,
              gave_high.other q not-high ∙ gave_low.other q not_low,
            )

        done_now : (q : ℕ) → q < size w → (Todo w (var_of w p) p q → ⊥) → (three q ≡ 0) × Holds (weight_of w q) (entry base room₃ q)
        done_now q h not-todo =
            let s = spent q not-todo in
            by-eq q p
            (λ e. (s.0 ∙ rw e (without_here a p), rw e weighed.here))
            (λ ne.
            let d = k.passing.done q h (λ t. not-todo (todo_after q t ne)) in
            (s.0 ∙ without_other a p q ne ∙ d.0, rw (weighed.other q ne, s.1) d.1))

        pub turn_done : Passing w base room₃ (var_of w p) p
        turn_done =
            record {
              sated = sated_kept sated_given k.passing.behind weighed;
              behind = k.passing.behind;
              long = omega (arith, k.passing.long, weighed.size, gave_low.size, gave_high.size);
              received = three;
              todo = has_three;
              done = done_now;
              all = all_conserved;
              visits = λ t h u.
                  conserved (through_of w t) (through_node w ordered t p k.node.two k.node.inside (λ e. todo_not t u (sym e)))
                  ∙ k.passing.visits t h (todo_before t u);
            }

-- ---- one variable

module _ {w heads : List ℕ} {base : ℕ} {room : List ℕ} {n c : ℕ} (d : Ascending w heads base room n c) where
  along : {now : List ℕ} {b p : ℕ} → Last w c b p → Passing w base now c b → Passing w base now c (suc p)
  along {p = p} last s = passing_as s c (suc p) (todo_from w d.given.ordered c d.level last) (todo_back w d.given.ordered c d.level last)

  pub up_begins : (p : ℕ) → p ≡ get_or heads c 0 → AtUp w base room c p
  up_begins p e =
      let last : Last w c (size w) p = rw e (d.head c d.level) in
      record { node = at_chain (omega arith) last; passing = along last d.passing }

  module _ {now : List ℕ} {p : ℕ} (s : AtUp w base now c p) where
    module _ (ne : p ≢ 0) where
      pub up_turns : Turning w base now n p
      up_turns =
          let k = s.node ne in
          record { given = d.given; node = k.0; passing = rw k.1 s.passing }

      pub up_on : {after : List ℕ} → Passing w base after (var_of w p) p → (q : ℕ) → q ≡ get_or after p 0 → AtUp w base after c q × (q < p)
      up_on {after} m q e =
          let k = s.node ne in
          let last : Last w c p q = rw (e, ← k.1) (m.sated.next p k.0.two k.0.inside) in
          let mine : Passing w base after c p = rw k.1 at m in (
            record { node = at_chain (omega (arith, k.0.inside)) last; passing = along last mine },
            chain_falls k.0.two last,
          )

    pub up_ends : p ≡ 0 → Passing w base now (suc c) (size w)
    up_ends e =
        let mine : Passing w base now c 1 = rw e at s.passing in
        passing_as mine (suc c) (size w) (todo_ends w d.given.ordered c d.level) (todo_begins w d.given.ordered c d.level)

-- ---- before the first variable, and after the last

nothing : ℕ → ℕ
nothing q = 0

pub root_fits : (w : List ℕ) → Ordered w → 2 ^ var_of w (root w) < limit
root_fits w o =
    let most = var_most w (vars w) (size w) (layered w o) (root w) (root_in w o) in
    within w o (2 ^ var_of w (root w)) (pow_mono most)

-- at first only the root has received any, one for each valuation of the variables before it
abbrev first : List ℕ → ℕ → ℕ
first w = bump nothing (root w) (2 ^ var_of w (root w))

only_root : (w : List ℕ) → Ordered w → (f : ℕ → ℕ) → dot (size w) (first w) f ≡ 2 ^ var_of w (root w) * f (root w)
unfolding nothing
only_root w o f =
    dot_only (size w) (first w) f (root w) (root_in w o)
    (λ r h ne. rw (bump_other nothing (root w) (2 ^ var_of w (root w)) r ne) (zero-mul (f r)))
    ∙ ap (λ (x : ℕ). x * f (root w)) (bump_here nothing (root w) (2 ^ var_of w (root w)) ∙ omega arith)

module _ {w : List ℕ} {base : ℕ} {room : List ℕ} {n : ℕ} (k : Counted w base room n) {zeros : List ℕ} (z : Emptied base room n zeros) where
  pub begin_in : In base zeros (n - 1)
  begin_in = omega (arith, z.size, k.long, k.given.two)

  start_passing : {start : List ℕ} → Noted base zeros (n - 1) (2 ^ var_of w (n - 1)) start → Passing w base start 0 (size w)
  unfolding nothing
  start_passing {start} s =
      let o = k.given.ordered in
      let e : n - 1 ≡ root w = ap (λ (m : ℕ). m - 1) k.given.nodes in
      let m : Noted base zeros (root w) (2 ^ var_of w (root w)) start = rw e at s in
      let every : (q : ℕ) → q < size w → Todo w 0 (size w) q = λ q h. record { level = omega arith; turn = λ x. h } in
      let behind : size w + word_count * size w ≤ base = omega (arith, k.behind, k.given.nodes) in
      record {
        sated = sated_kept (sated_front k.sated behind z.size z.before) behind m;
        behind = behind;
        long = omega (arith, z.size, m.size, k.long, k.given.nodes);
        received = first w;
        todo = λ q h t. by-eq q (root w)
            (λ x. rw x (holds_as (sym (bump_here nothing (root w) (2 ^ var_of w (root w)) ∙ omega arith)) m.here))
            (λ ne. rw (m.other q ne) (holds_as (sym (bump_other nothing (root w) (2 ^ var_of w (root w)) q ne)) (z.none q (omega (arith, k.given.nodes)))));
        done = λ q h t. absurd (t (every q h));
        all = only_root w o (λ q. 2 ^ (vars w - var_of w q)) ∙ all_root w o;
        visits = λ t h u. only_root w o (through_of w t) ∙ sym (weight_through w o t);
      }

  pub begin_fits : (above : ℕ) → above ≡ var_of w (n - 1) → {f : Option Natural} → Fitted (2 ^ above) f
      → (a : Natural) × (f ≡ Some a) × Holds (2 ^ var_of w (n - 1)) a.words
  begin_fits above e {f} a =
      let root_is : n - 1 ≡ root w = ap (λ (m : ℕ). m - 1) k.given.nodes in
      let power : 2 ^ above ≡ 2 ^ var_of w (n - 1) = ap (λ (i : ℕ). 2 ^ i) e in
      let fits : 2 ^ var_of w (n - 1) < limit = rw root_is (root_fits w k.given.ordered) in
      fitted_some (rw power at a) fits

  pub begin_done : (above : ℕ) → above ≡ var_of w (n - 1) → {f : Option Natural} → Fitted (2 ^ above) f → {one : Natural} → f ≡ Some one → {after : List ℕ}
      → ((y : ℕ) → Holds y one.words → Noted base zeros (n - 1) y after) → Passing w base after 0 (size w)
  begin_done above e a {one} is note =
      let power : 2 ^ above ≡ 2 ^ var_of w (n - 1) = ap (λ (i : ℕ). 2 ^ i) e in
      start_passing (note (2 ^ var_of w (n - 1)) (answers_said (rw power at a) is))

-- at the end only the terminals are left: node 1 has received its weight, and node 0's is zero
pub passes_done : {w : List ℕ} {room : List ℕ} {n v : ℕ} → Given w n → v ≡ vars w → Passing w (weights_from n) room v (size w) → {after : List ℕ}
    → Noted (weights_from n) room 0 0 after → Tables w n after
passes_done {w} {room} {n} {v} given ev at_end {after} z =
    record { sated = sated_kept at_end.sated at_end.behind z; weight = λ q h. weight_of_lem q (omega (arith, given.nodes)) }
  where
    s : Passing w (weights_from n) room (vars w) (size w)
    s = rw ev at at_end

    todo : (q : ℕ) → q < 2 → q < size w → Todo w (vars w) (size w) q
    todo q t h = record { level = omega (arith, (layered w given.ordered).terminal q t h); turn = λ x. h }

    ended : (q : ℕ) → q < 2 → (h : q < size w) → weight_of w q ≡ s.received q * q
    ended q t h =
        weight_is given.ordered s q h (todo q t h) ((layered w given.ordered).terminal q t h)
        ∙ ap (λ (y : ℕ). s.received q * y) (worth_end w given.ordered true q t h)

    none : {q : ℕ} → q ≡ 0 → q < size w → weight_of w 0 ≡ 0
    none e h = ended 0 (omega arith) (omega arith) ∙ mul-zero (s.received 0)

    one : (q : ℕ) → q ≢ 0 → q < 2 → q < size w → weight_of w q ≡ s.received q
    one q ne t h =
        let e : q ≡ 1 = omega arith in
        ended q t h ∙ ap (λ (y : ℕ). s.received q * y) e ∙ mul-one (s.received q)

    weight_of_lem : (q : ℕ) → q < size w → Holds (weight_of w q) (entry (weights_from n) after q)
    weight_of_lem q h = by-eq q 0
        (λ e. rw e (holds_as (sym (none e h)) z.here))
        (λ ne. rw (z.other q ne) (by_two q
        (λ t. holds_as (sym (one q ne t h)) (s.todo q h (todo q t h)))
        (λ two. (s.done q h (λ u. let r = (layered w given.ordered).node q two h in absurd (omega (arith, u.level, r.var)))).1)))

-- ---- what the functions of the pass ask for and give

-- a child's sum
module _ {w : List ℕ} {base : ℕ} {room : List ℕ} {p q : ℕ} (k : Giving w base room p q) {had share : Shifted} {to used : ℕ}
    (et : to ≡ base + word_count * q) (eh : had.at ≡ to) (none : had.bits ≡ 0) (es : share.at ≡ base + word_count * p) (eb : share.bits ≡ skip w p q)
    (eu : used ≡ words_for (var_of w q)) where
  few : words_for (var_of w q) ≤ word_count
  few = omega (arith, k.level)

  other : p ≢ q
  other e = let same = ap (λ (r : ℕ). var_of w r) e in omega (arith, k.above)

  pub give_asks : Adding word_count used room to had share
  give_asks =
      let less = few in
      rw (eu, et) (record {
        few = few;
        target = k.inside;
        first = omega (arith, k.inside);
        second = omega (arith, k.node);
        first_clear = inr (eh ∙ et, omega arith);
        second_clear = inl (⊎_elim (λ l. inl (omega arith)) (λ l. inr (omega arith)) (apart base p q other));
      })

  pub give_done : {fits : Bool} {after : List ℕ} → Fitting word_count used room to (shifted_in used room had + shifted_in used room share) fits after
      → Noted base room q (num base room q + scaled w p q (num base room p)) after
  give_done {fits} {after} f =
      let most = k.fits in
      let less = le-mul_of_pos_right (num base room p) (pow_pos (skip w p q)) in
      let first : shifted_in (words_for (var_of w q)) room had ≡ num base room q =
      rw (eh, et, none) (mul-one (number_in (words_for (var_of w q)) room (base + word_count * q)) ∙ entry_few base room q (var_of w q) (omega arith) few) in
      let second : shifted_in (words_for (var_of w q)) room share ≡ scaled w p q (num base room p) =
      rw (es, eb) (ap (λ (v : ℕ). v * 2 ^ skip w p q) (entry_few base room p (var_of w q) (omega arith) few)) in
      let sum : shifted_in (words_for (var_of w q)) room had + shifted_in (words_for (var_of w q)) room share ≡ num base room q + scaled w p q (num base room p) =
      rw (first, second) refl in
      let mine : Fitting word_count (words_for (var_of w q)) room (base + word_count * q) (shifted_in (words_for (var_of w q)) room had + shifted_in (words_for (var_of w q)) room share) fits after = rw (eu, et) at f in
      noted_sum base room q (words_for (var_of w q)) k.inside mine sum (words_enough (num base room q + scaled w p q (num base room p)) (var_of w q) most)

-- a node's product
module _ {w : List ℕ} {base : ℕ} {room : List ℕ} {n p : ℕ} (k : Taking w base room n p) {to m b l : ℕ}
    (et : to ≡ base + word_count * p) (em : m ≡ words_for (var_of w p)) (eb : b ≡ n + word_count * p) (el : l ≡ words_for (vars w - var_of w p)) where
  pub take_asks : Multiplying word_count room to m b l
  take_asks =
      let v = k.variables in
      let level = k.level in
      let inside = k.inside in
      let before = k.before in
      record {
        first = omega arith;
        second = omega arith;
        few = omega arith;
        target = omega arith;
        inside = omega arith;
      }

  pub take_done : {fits : Bool} {after : List ℕ} → Fitting word_count word_count room to (number_in m room to * number_in l room b) fits after
      → Noted base room p (num base room p * num n room p) after
  take_done {fits} {after} f =
      let v = k.variables in
      let level = k.level in
      let first : number_in m room (base + word_count * p) ≡ num base room p = rw em (entry_few base room p (var_of w p) k.received (omega arith)) in
      let second : number_in l room b ≡ num n room p = rw (el, eb) (entry_few n room p (vars w - var_of w p) k.left (omega arith)) in
      let mine : Fitting word_count word_count room (base + word_count * p) (number_in m room (base + word_count * p) * number_in l room b) fits after = rw et at f in
      noted_sum base room p word_count k.inside mine (rw (first, second) refl) less
    where
      less : num base room p * num n room p < limit
      less =
          let level = k.level in
          let whole : var_of w p + (vars w - var_of w p) ≡ vars w = omega arith in
          let most : num base room p * num n room p ≤ 2 ^ vars w =
          omega (arith, mul-le-mul k.received k.left, pow-add 2 (var_of w p) (vars w - var_of w p), ap (λ (i : ℕ). 2 ^ i) whole) in
          under_limit (num base room p * num n room p) (vars w) most k.variables

-- ---- all variables

pub rises : {w heads room : List ℕ} {n v : ℕ} → Given w n → v ≡ vars w → Heads w heads → Sated w room → weights_to n ≤ length room
    → Rising w heads (weights_from n) room n v
rises given e heads sated long =
    record {
      counted = record { given = given; sated = sated; behind = omega arith; long = omega arith };
      variables = e;
      head = heads;
    }

pub all_up : {w heads : List ℕ} {base : ℕ} {room now : List ℕ} {n v c : ℕ} → Rising w heads base room n v → c < v → Passing w base now c (size w)
    → Ascending w heads base now n c
all_up r l s = record { given = r.counted.given; level = omega (arith, r.variables); head = r.head; passing = s }
