-- Each of the returns of the operations on a pool.
use Prim.Native.Nat.{ℕ, ◌-◌, ◌*◌, ◌≤◌, ◌<◌}
use mathlib.Core.Path.{◌≡◌, refl, sym, ap, ◌∙◌}
use mathlib.Core.Logic.{◌≢◌}
use mathlib.Core.Bool.{true, false}
use mathlib.Core.List.{List, ◌++◌}
use native.Mathlib.Omega.{arith}
use lib.ListN.{length, get_or, take, drop}
use lib.Seq.{length-take-le}
use lib.Dec.{ltb, leb, eqb}
use borrow.Author.Tests.{lt-ltb, le-ltb, leb-true, leb-false, eqb-true, eqb-false}
use Rattle.diagram.specs.Limits.{max_nodes, room_per_node}
use Rattle.diagram.specs.Diagram.{size, vars}
use Rattle.diagram.specs.Verdict.{Verdict, Outcome, accepted, refused, said, row, and_then, room_of, output_after, Checked}
use Rattle.diagram.specs.declared.verdict.Output.TheVariants.{Nothing}
use Rattle.diagram.specs.declared.verdict.Extent.{Extent}
use Rattle.diagram.specs.declared.verdict.Refused.{Refused}
use Rattle.std.specs.Prelude.{Ok, Err}
use Rattle.diagram.proofs.Tests.{by_test}
use Rattle.diagram.proofs.Outcomes.{same_counts, never_both}
use Rattle.diagram.proofs.Words.{front_cleared}
use Rattle.diagram.proofs.Entering.{refusal_is, verdict_is, ordered}
use Rattle.pool.specs.Pool.{slot_count, Live, WellFormed, is_pool, needs}
use Rattle.pool.specs.Answers.{with_added, with_dropped, read_from, place_of, live_of, drop_of, roomed_of, read_of, Adds, Drops, Reads}
use Rattle.pool.proofs.Testing.{pool_told}
use Rattle.pool.proofs.Fewest.{dropped_fit}
use Rattle.pool.proofs.Tables.{read_is}
use Rattle.pool.proofs.Rows.{slot_ready, roomVerdict, room_over, room_fits, add_no_pool, add_own, add_slot, live_no_pool, live_no_slot, live_empty, live_there, row_on, row_off}
use Rattle.pool_build.specs.Work.{Replaced, answer_of, fetch_of, Fetching, Fetched}
use Rattle.pool_calls.specs.Calls.{Addable, Placing, AddsTo}

-- ---- a live slot

-- What is told of a slot that is live.
pub record There (t s : List ℕ) (k n v : ℕ) : Type 0 where
  pub is_pool_lem : is_pool t s ≡ true
  pub inside : k < slot_count
  pub some : get_or s k 0 ≢ 0
  pub is_size : n ≡ size t
  pub is_vars : v ≡ vars t

-- A verdict on a slot by the three tests.
by_slot : {C : Type 0} (t s : List ℕ) (k : ℕ) → (is_pool t s ≡ false → C) → (is_pool t s ≡ true → slot_count ≤ k → C)
    → (is_pool t s ≡ true → k < slot_count → get_or s k 0 ≡ 0 → C) → (is_pool t s ≡ true → k < slot_count → get_or s k 0 ≢ 0 → C) → C
by_slot t s k no_pool no_such none there = by_test (is_pool t s)
    (λ e. by_test (leb slot_count k)
    (λ h. no_such e (leb-true slot_count k h))
    (λ h. by_test (eqb (get_or s k 0) 0)
    (λ z. none e (leb-false slot_count k h) (eqb-true (get_or s k 0) 0 z))
    (λ z. there e (leb-false slot_count k h) (eqb-false (get_or s k 0) 0 z))))
    no_pool

pub told_live : (t s : List ℕ) (k : ℕ) {n v : ℕ} → live_of t s k (size t) ≡ accepted n v → There t s k n v
told_live t s k {n} {v} e = by_slot t s k
    (λ a. absurd (never_both (live_no_pool t s k (size t) a) e))
    (λ a b. absurd (never_both (live_no_slot t s k (size t) a b) e))
    (λ a b c. absurd (never_both (live_empty t s k (size t) a b c) e))
    (λ a b c.
    let same = same_counts e (live_there t s k (size t) a b c) in
    record { is_pool_lem = a; inside = b; some = c; is_size = same.0; is_vars = same.1 })

-- A refusal doesn't hang on the number that an acceptance has.
live_refused : (t s : List ℕ) (k n : ℕ) {j p : ℕ} → live_of t s k (size t) ≡ refused j p → live_of t s k n ≡ refused j p
live_refused t s k n e = by_slot t s k
    (λ a. live_no_pool t s k n a ∙ sym (live_no_pool t s k (size t) a) ∙ e)
    (λ a b. live_no_slot t s k n a b ∙ sym (live_no_slot t s k (size t) a b) ∙ e)
    (λ a b c. live_empty t s k n a b c ∙ sym (live_empty t s k (size t) a b c) ∙ e)
    (λ a b c. absurd (never_both e (live_there t s k (size t) a b c)))

-- ---- dropping

pub drop_nothing : (t s : List ℕ) (k : ℕ) → is_pool t s ≡ false → {r : Verdict} → said r ≡ refused 46 0 → Drops t s k t s r
unfolding drop_of
drop_nothing t s k e told =
    let is = live_no_pool t s k (needs (vars t) (with_dropped t s k)) e in
    record { verdict = told ∙ sym is; table = rw is refl; slots = rw is refl }

pub drop_refused : (t s : List ℕ) (k : ℕ) {r : Verdict} → said r ≡ live_of t s k (size t) → {x : Refused} → r ≡ Err x → Drops t s k t s (Err x)
unfolding drop_of
drop_refused t s k {r} told {x} e =
    let is : drop_of t s k ≡ said (Err x) = live_refused t s k (needs (vars t) (with_dropped t s k)) (sym told ∙ ap said e) in
    record { verdict = sym is; table = rw is refl; slots = rw is refl }

module _ (t s : List ℕ) (k : ℕ) {r : Verdict} (told : said r ≡ live_of t s k (size t)) {a : Extent} (e : r ≡ Ok a) where
  there : There t s k a.nodes a.vars
  there = told_live t s k (sym told ∙ ap said e)

  pub live_pool : WellFormed t s
  live_pool = pool_told t s there.is_pool_lem

  pub live_few : a.nodes ≤ max_nodes
  live_few = let is = there.is_size in let few = live_pool.few in omega arith

  pub live_some : get_or s k 0 ≢ 0
  live_some = there.some

  pub drop_done : {t' s' : List ℕ} {count : ℕ} → Replaced t s (with_dropped t s k) t' s' count → {r' : Verdict} → said r' ≡ accepted count a.vars
      → Drops t s k t' s' r'
  unfolding drop_of
  drop_done {t'} {s'} {count} b says =
      let fits = dropped_fit t s live_pool k in
      let is_count = b.is_count in
      let few : count ≤ size t = omega arith in
      let is-needs : count ≡ needs (vars t) (with_dropped t s k) = omega arith in
      let is : drop_of t s k ≡ accepted (needs (vars t) (with_dropped t s k)) (vars t) =
      live_there t s k (needs (vars t) (with_dropped t s k)) there.is_pool_lem there.inside there.some in
      record {
        verdict = says ∙ ap (λ (c : ℕ). accepted c a.vars) is-needs ∙ ap (accepted (needs (vars t) (with_dropped t s k))) there.is_vars ∙ sym is;
        table = rw is (b.table few);
        slots = rw is (b.slots few);
      }

  -- ---- reading

  module _ (room out : List ℕ) where
    roomed : Outcome
    roomed = row 5 (ltb (length room) (room_of t)) 0 (accepted (size t) (vars t))

    roomed_is : roomed_of t s k (length room) ≡ roomed
    unfolding roomed_of roomed
    roomed_is =
        ap (λ (o : Outcome). and_then o (row 5 (ltb (length room) (room_of t)) 0 (accepted (size t) (vars t))))
        (live_there t s k (size t) there.is_pool_lem there.inside there.some)

    all_is : {all : ℕ} → all ≡ room_per_node * a.nodes → all ≡ room_of t
    all_is is = let size_is = there.is_size in let two = live_pool.two in omega arith

    pub read_no_room : {all : ℕ} → all ≡ room_per_node * a.nodes → length room < all → {r' : Verdict} → said r' ≡ refused 5 0 → Reads t s k room room out out r'
    unfolding read_of roomed
    read_no_room {all} is short five =
        let is_all : all ≡ room_of t = all_is is in
        let no : roomed_of t s k (length room) ≡ refused 5 0 =
        roomed_is ∙ row_on 5 0 (ltb (length room) (room_of t)) (accepted (size t) (vars t)) (lt-ltb (length room) (room_of t) (omega arith)) in
        let none : read_of t s k (length room) (length out) ≡ refused 5 0 =
        ap (λ (o : Outcome). and_then o (row 4 (ltb (length out) (length (read_from t s k))) 0 (accepted (size (read_from t s k)) (vars t)))) no in
        record { verdict = five ∙ sym none; left = rw no refl; output = rw none refl }

    module _ {all x : ℕ} (is : all ≡ room_per_node * a.nodes) (fits : all ≤ length room) (is_IsWord : x ≡ get_or s k 0) where
      root_live : Live s k (x - 1)
      root_live = let some = live_some in record { inside = there.inside; names = omega arith }

      pub read_fetches : Fetching t (x - 1) a.nodes a.vars (take all room)
      read_fetches = record {
        slots = s;
        slot = k;
        pool = live_pool;
        root = root_live;
        is_size = there.is_size;
        is_vars = there.is_vars;
        long = length-take-le all room fits ∙ all_is is;
      }

      pub read_done : {r' : List ℕ} {out' : List ℕ} {verdict : Verdict} → Fetched t (x - 1) a.vars (take all room) r' out out' verdict
          → Reads t s k room (r' ++ drop all room) out out' verdict
      unfolding read_of roomed
      read_done {r'} {out'} b =
          let is_all : all ≡ room_of t = all_is is in
          let yes-room : roomed_of t s k (length room) ≡ accepted (size t) (vars t) =
          roomed_is ∙ row_off 5 0 (ltb (length room) (room_of t)) (accepted (size t) (vars t)) (le-ltb (length room) (room_of t) (omega arith)) in
          let answer : read_from t s k ≡ answer_of t (x - 1) = read_is t s k (x - 1) root_live in
          let told_is : read_of t s k (length room) (length out) ≡ fetch_of (answer_of t (x - 1)) a.vars (length out) =
          ap (λ (o : Outcome). and_then o (row 4 (ltb (length out) (length (read_from t s k))) 0 (accepted (size (read_from t s k)) (vars t)))) yes-room
          ∙ ap (λ (l : List ℕ). fetch_of l (vars t) (length out)) answer
          ∙ ap (λ (u : ℕ). fetch_of (answer_of t (x - 1)) u (length out)) (sym there.is_vars) in
          record {
            verdict = b.outcome ∙ sym told_is;
            left = front_cleared room all r' fits b.room ∙ (rw (yes-room, is_all) refl);
            output = b.output ∙ ap (λ (o : Outcome). output_after o (answer_of t (x - 1)) out) (sym told_is)
                ∙ ap (λ (l : List ℕ). output_after (read_of t s k (length room) (length out)) l out) (sym answer);
          }

pub read_refused : (t s : List ℕ) (k : ℕ) (room out : List ℕ) {r : Verdict} → said r ≡ live_of t s k (size t) → {x : Refused} → r ≡ Err x
    → Reads t s k room room out out (Err x)
unfolding read_of roomed_of
read_refused t s k room out {r} told {x} e =
    let is : live_of t s k (size t) ≡ said (Err x) = sym told ∙ ap said e in
    let no : roomed_of t s k (length room) ≡ said (Err x) =
    ap (λ (o : Outcome). and_then o (row 5 (ltb (length room) (room_of t)) 0 (accepted (size t) (vars t)))) is in
    let none : read_of t s k (length room) (length out) ≡ said (Err x) =
    ap (λ (o : Outcome). and_then o (row 4 (ltb (length out) (length (read_from t s k))) 0 (accepted (size (read_from t s k)) (vars t)))) no in
    record { verdict = sym none; left = rw no refl; output = rw none refl }

-- ---- adding

module _ (t s w : List ℕ) (k : ℕ) where
  -- a refusal changes nothing
  pub adds_refused : {number : ℕ} {r : Verdict} → said r ≡ refused number 0 → place_of t s w k ≡ refused number 0 → AddsTo t s w k t s r
  adds_refused told is = record { verdict = told ∙ sym is; table = rw is refl; slots = rw is refl }

  module _ (a : Placing t s w k) where
    ready : {o : Outcome} → roomVerdict t s w k ≡ o → place_of t s w k ≡ o
    ready e = slot_ready t s w k a.slot a.free a.variables ∙ e

    module _ {t' s' : List ℕ} {count : ℕ} (b : Replaced t s (with_added t s w k) t' s' count) where
      pub place_full : size t < count → {r : Verdict} → said r ≡ refused 36 0 → AddsTo t s w k t' s' r
      place_full over told =
          let is_count = b.is_count in
          let is = ready (room_over t s w k (omega arith)) in
          let kept = b.kept over in
          record { verdict = told ∙ sym is; table = rw is kept.0; slots = rw is kept.1 }

      pub place_done : count ≤ size t → {v : ℕ} → v ≡ vars w → {r : Verdict} → said r ≡ accepted count v → AddsTo t s w k t' s' r
      place_done few {v} is_vars says =
          let is_count = b.is_count in
          let is-needs : count ≡ needs (vars t) (with_added t s w k) = omega arith in
          let is = ready (room_fits t s w k (omega arith)) in
          record {
            verdict = says ∙ ap (λ (c : ℕ). accepted c v) is-needs ∙ ap (accepted (needs (vars t) (with_added t s w k))) (is_vars ∙ a.variables) ∙ sym is;
            table = rw is (b.table few);
            slots = rw is (b.slots few);
          }

  module _ (room : List ℕ) where
    pub add_nothing : is_pool t s ≡ false → {r : Verdict} → said r ≡ refused 46 0 → Adds t s w k t s room room r
    add_nothing e told =
        let is = add_no_pool t s w k (length room) e in
        record { verdict = told ∙ sym is; table = rw is refl; slots = rw is refl; left = rw e refl }

    module _ (e : is_pool t s ≡ true) {room' : List ℕ} {r : Verdict} (c : Checked w Nothing room room' r) where
      pub add_refused : {x : Refused} → r ≡ Err x → Adds t s w k t s room room' (Err x)
      add_refused fails =
          let is = add_own t s w k (length room) e (refusal_is c fails) in
          record { verdict = sym is; table = rw is refl; slots = rw is refl; left = rw e c.left }

      module _ {x : Extent} (yes-it : r ≡ Ok x) where
        pub add_addable : Addable t s w
        add_addable = record { pool = pool_told t s e; diagram = ordered c yes-it }

        pub add_done : {t' s' : List ℕ} {r' : Verdict} → AddsTo t s w k t' s' r' → Adds t s w k t' s' room room' r'
        add_done a =
            let is = add_slot t s w k (length room) e (verdict_is c yes-it) in
            record { verdict = a.verdict ∙ sym is; table = rw is a.table; slots = rw is a.slots; left = rw e c.left }
