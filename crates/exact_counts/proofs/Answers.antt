-- The whole, and what the public functions answer.
use Prim.Native.Nat.{ℕ, ◌+◌, ◌*◌, ◌^◌, ◌≤◌}
use mathlib.Core.Path.{◌≡◌, refl, sym, ap, ◌∙◌}
use mathlib.Core.Bool.{Bool}
use mathlib.Core.List.{List, ◌++◌}
use native.Mathlib.Omega.{arith}
use native.Mathlib.Nat.{zero-mul}
use lib.ListN.{length, drop, take, replicate, length-replicate}
use Rattle.naturals.specs.Natural.{Holds, word_count}
use Rattle.naturals.proofs.Answer.{holds_as, holds_zero}
use Rattle.diagram.specs.Limits.{max_nodes}
use Rattle.diagram.specs.Diagram.{var_of, size, vars, root, Ordered}
use Rattle.diagram.specs.Verdict.{Verdict, Outcome, accepted, refused, if_accepted, room_of, verdict_of, Checked}
use Rattle.std.specs.Prelude.{Ok, Err}
use Rattle.diagram.specs.declared.verdict.Extent.{Extent}
use Rattle.diagram.specs.declared.verdict.Refused.{Refused}
use Rattle.diagram.specs.declared.verdict.Output.TheVariants.{Nothing}
use Rattle.diagram.proofs.Meaning.{verdict_accepted}
use Rattle.diagram.proofs.Reading.{root_in, accepted_ordered}
use Rattle.levels.specs.Chains.{chain_count, Heads, Given}
use Rattle.counts.specs.Counted.{Counts}
use Rattle.counts.specs.Worth.{worth_of, doublings, total_of, root_of, Rooted, entry, Worths, Totalling, Totalled}
use Rattle.counts.proofs.Nodes.{worth_end, total_fits}
use Rattle.diagram.proofs.Entering.{when_refused, when_accepted, admitted, ordered, still_checked, lent_fits, lent_zero, lent_back, checked_as}

-- ---- the whole

zeros_long : (r : List ℕ) (n : ℕ) → r ≡ replicate (entry * n) 0 → n + word_count * n ≤ length r
zeros_long r n e = omega (arith, ap length e, length-replicate {A = ℕ} (entry * n) 0)

module _ {w heads room : List ℕ} {n v : ℕ} (a : Totalling w heads room n v) where
  -- one node alone is worth nothing
  pub total_alone : n ≡ 1 → {how : Bool} {heads' room' words : List ℕ} → Holds 0 words → Totalled how w heads' room' words
  total_alone one {how} h =
      let en = a.nodes in
      let first : root w ≡ 0 = omega arith in
      let none : worth_of how w (root w) ≡ 0 = ap (worth_of how w) first ∙ worth_end w a.ordered how 0 (omega arith) (omega arith) in
      record {
        total = holds_as (sym (ap (λ (s : ℕ). s * 2 ^ doublings how (var_of w (root w))) none ∙ zero-mul (2 ^ doublings how (var_of w (root w))))) h;
        head = λ two. absurd (omega arith);
        worths = λ two. absurd (omega arith);
      }

  module _ (more : n ≡ 1 → ⊥) where
    given : Given w n
    given =
        let some = a.ordered.formed.some in
        let en = a.nodes in
        record { ordered = a.ordered; nodes = en; two = omega arith }

    pub total_asks : Given w n × (v ≡ vars w) × (heads ≡ replicate chain_count 0) × (n + word_count * n ≤ length room)
    total_asks = (given, a.variables, a.empty, a.long)

    module _ {how : Bool} (heads' : List ℕ) {room' : List ℕ} (made : Heads w heads' × Worths how w room' 0 0) where
      whole : root_of how w n room' n ≡ total_of how w
      whole =
          ap (λ (k : ℕ). root_of how w k room' k) a.nodes
          ∙ ap (λ (y : ℕ). y * 2 ^ doublings how (var_of w (root w)))
          (made.1.right (root w) (root_in w a.ordered) (record { level = omega arith; turn = λ e. omega arith })).worth

      pub total_rooted : Rooted how w n room' n
      total_rooted =
          let some = a.ordered.formed.some in
          let few = a.ordered.formed.few in
          let en = a.nodes in
          let long = made.1.long in
          record { two = omega arith; few = omega arith; inside = omega arith; fits = rw whole (total_fits w a.ordered how) }

      pub total_done : {words : List ℕ} → Holds (root_of how w n room' n) words → Totalled how w heads' room' words
      total_done h = record { total = holds_as whole h; head = λ two. made.0; worths = λ two. made.1 }

-- with chains of its own, over a room of zeros
pub alone_asks : {w room : List ℕ} {n v : ℕ} → n ≡ size w → v ≡ vars w → Ordered w → room ≡ replicate (entry * n) 0
    → Totalling w (replicate chain_count 0) room n v
alone_asks {w} {room} {n} en ev o zeros = record { ordered = o; nodes = en; variables = ev; empty = refl; long = zeros_long room n zeros }

-- ---- the answer

module _ {w before after : List ℕ} {v : Verdict} (c : Checked w Nothing before after v) where
  pub count_refused : {x : Refused} → v ≡ Err x → (n : ℕ) → Counts w n before after (Err x) (replicate word_count 0)
  count_refused e n = record { checked = rw e at c; counted = holds_as (sym (when_refused c e n 0)) holds_zero }

  module _ {x : Extent} (e : v ≡ Ok x) where
    pub count_nodes : (x.nodes ≡ size w) × (x.nodes ≤ max_nodes)
    count_nodes = let a = admitted c e in (a.nodes, omega (arith, a.nodes, a.accepted.formed.few))

    used_fits : entry * x.nodes ≤ room_of w
    used_fits = omega (arith, (admitted c e).nodes)

    pub count_fits : entry * x.nodes ≤ length after
    count_fits = lent_fits c e (entry * x.nodes) used_fits

    pub count_asks : (x.nodes ≡ size w) × (x.vars ≡ vars w) × Ordered w × (take (entry * x.nodes) after ≡ replicate (entry * x.nodes) 0)
    count_asks = ((admitted c e).nodes, (admitted c e).variables, ordered c e, lent_zero c e (entry * x.nodes) used_fits)

    pub count_accepted : (t : ℕ) {count part : List ℕ} → Holds t count → part ≡ replicate (length (take (entry * x.nodes) after)) 0
        → Counts w t before (part ++ drop (entry * x.nodes) after) (Ok x) count
    count_accepted t {count} {part} h z = record {
      checked = checked_as (still_checked c e) (lent_back c e (entry * x.nodes) used_fits part z);
      counted = holds_as (sym (when_accepted c e t 0)) h;
    }

-- the same count by another name, where the words are accepted
pub count_as : {w before after : List ℕ} {v : Verdict} {count : List ℕ} (m n : ℕ) → (Ordered w → m ≡ n) → Counts w m before after v count
    → Counts w n before after v count
count_as {w} {before} m n same r = record {
  checked = r.checked;
  counted = holds_as (by_verdict (verdict_of w Nothing (length before)) (λ k u e. same (accepted_ordered w (verdict_accepted w Nothing (length before) k u e).accepted))) r.counted;
}
  where
    by_verdict : (x : Outcome) → ((k u : ℕ) → x ≡ accepted k u → m ≡ n) → if_accepted x m 0 ≡ if_accepted x n 0
    by_verdict (accepted k u) f = f k u refl
    by_verdict (refused k p) f = refl
