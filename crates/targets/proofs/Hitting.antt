-- From what a search finds to what is answered: as it is, or negated back.
use Prim.Native.Nat.{ℕ, ◌*◌, ◌≤◌, max, min}
use mathlib.Core.Path.{◌≡◌, refl, sym, ap, ◌∙◌}
use mathlib.Core.List.{List, ◌++◌}
use native.Mathlib.Omega.{arith}
use lib.ListN.{length, take, drop, replicate}
use lib.Seq.{take-append_seam}
use Rattle.diagram.specs.Limits.{max_nodes}
use Rattle.diagram.specs.Diagram.{size, Accepted, Ordered}
use Rattle.diagram.specs.Verdict.{Verdict, Outcome, said, most, room_of, room_after, Checked}
use Rattle.std.specs.Prelude.{Ok, Err}
use Rattle.diagram.specs.declared.verdict.Extent.{Extent}
use Rattle.diagram.specs.declared.verdict.Refused.{Refused}
use Rattle.diagram.specs.declared.verdict.Output.TheVariants.{Diagram}
use Rattle.diagram.proofs.Reading.{accepted_ordered}
use Rattle.diagram.proofs.Entering.{admitted, lent_fits, lent_word, lent_enough, builds_refused, builds_accepted}
use Rattle.room_map.specs.Map.{answer_from, search_to}
use Rattle.negation.specs.Negation.{negated, over, Ready}
use Rattle.negation.proofs.Meaning.{negated_vars, negated_accepted, negated_twice, negated_most}
use Rattle.approximation.specs.Cut.{Under}
use Rattle.approximation.specs.Search.{Answer, back}
use Rattle.cuts.proofs.Rooms.{zeros_back}
use Rattle.trials.specs.Trials.{Searching, Found}
use Rattle.trials.specs.Answers.{answer_in, Giving, Given, Returning, Returned}
use Rattle.targets.specs.Targets.{Meets}
use Rattle.targets.specs.Hits.{Targeting, Hit}

-- The negation stands at the front of a list.
pub record Flipped (w : List ℕ) (made : ℕ) (flipped : List ℕ) : Type 0 where
  pub count : made ≡ size (negated w)
  pub words : take (3 * made) flipped ≡ negated w

-- An accepted diagram and its negation.
module _ (w : List ℕ) (acc : Accepted w) where
  length_of : (x : List ℕ) → Accepted x → length x ≡ 3 * size x
  length_of x y = let whole = y.formed.whole in omega arith

  pub most_same : most (negated w) ≡ most w
  most_same =
      let one = negated_most w acc in
      let two = negated_most (negated w) (negated_accepted w acc) in
      let twice = ap (λ (l : List ℕ). size l) (negated_twice w acc) in
      omega arith

  pub negation_fits : length (negated w) ≤ 3 * max_nodes
  negation_fits =
      let l = length_of (negated w) (negated_accepted w acc) in
      let few = (negated_accepted w acc).formed.few in
      omega arith

  pub flips : (before : List ℕ) {made : ℕ} {flipped : List ℕ} → (made ≡ size (negated w)) × (flipped ≡ over (negated w) before) → Flipped w made flipped
  flips before {made} {flipped} (count, written) =
      let l = length_of (negated w) (negated_accepted w acc) in
      let long : 3 * made ≡ length (negated w) = omega arith in
      record {
        count = count;
        words = ap (λ (k : ℕ). take k flipped) long ∙ ap (λ (l : List ℕ). take (length (negated w)) l) written
            ∙ take-append_seam (negated w) (drop (length (negated w)) before);
      }

  pub flips_few : {made : ℕ} → made ≡ size (negated w) → made ≤ max_nodes
  flips_few m = let few = (negated_accepted w acc).formed.few in omega arith

module _ {w r out : List ℕ} {n v : ℕ} (a : Targeting w r out n v) where
  ordered : Ordered w
  ordered = accepted_ordered w a.accepted

  pub targeting_searches : Searching w r n v
  targeting_searches =
      let long = a.long in
      record {
        accepted = a.accepted;
        is_size = a.is_size;
        is_vars = a.is_vars;
        long = omega arith;
      }

  module _ {m : ℕ} (is_m : m ≡ max n 2) where
    m_is : m ≡ most w
    m_is = is_m ∙ ap (λ (k : ℕ). max k 2) a.is_size

    -- The room is as it was.
    room_back : (s u : List ℕ) → length s ≡ length r → drop (search_to m) s ≡ drop (search_to m) r → u ≡ replicate (search_to m) 0 ++ drop (search_to m) s → u ≡ r
    room_back s u same rest e =
        let is = m_is in
        let long = a.long in
        let all : search_to m ≡ min (search_to m) (length s) = omega arith in
        e ∙ ap (λ (i : ℕ). replicate i 0 ++ drop (search_to m) s) all ∙ zeros_back (search_to m) r s (omega arith) (λ j h. a.zero j (omega arith)) same rest

    -- ---- as it is

    module _ {b : Answer} {s : List ℕ} {k trials : ℕ} (f : Found w b r s k trials) where
      pub found_gives : Giving s out m k
      found_gives =
          let is = m_is in
          let few = ordered.formed.few in
          let fits = f.fits in
          let long = a.long in
          let kept = f.kept in
          let output = a.output in
          record { few = omega arith; nodes = omega arith; long = omega arith; output = omega arith }

      answer_is : answer_in m s k ≡ b.words
      answer_is = ap (λ (i : ℕ). take (3 * k) (drop (answer_from i) s)) m_is ∙ f.made

      rest_is : drop (search_to m) s ≡ drop (search_to m) r
      rest_is = ap (λ (i : ℕ). drop (search_to i) s) m_is ∙ f.beyond ∙ ap (λ (i : ℕ). drop (search_to i) r) (sym m_is)

      pub found_hits : {u out' : List ℕ} → Given m k s out u out' → Hit b r u out out' k trials
      found_hits {u} g = record {
        count = f.count;
        trials = f.trials;
        room = room_back s u f.kept rest_is g.room;
        written = g.written ∙ (rw (answer_is, f.words) refl);
      }

  -- ---- negated back

  same : most (negated w) ≡ most w
  same = most_same w a.accepted

  pub negation_ready : Ready w v
  negation_ready = record { formed = a.accepted.formed; count = a.is_vars }

  pub negation_few : length (negated w) ≤ 3 * max_nodes
  negation_few = negation_fits w a.accepted

  pub flip : (before : List ℕ) {made : ℕ} {flipped : List ℕ} → (made ≡ size (negated w)) × (flipped ≡ over (negated w) before) → Flipped w made flipped
  flip before e = flips w a.accepted before e

  module _ {m : ℕ} (is_m : m ≡ max n 2) {b : Answer} {s : List ℕ} {k trials : ℕ} (f : Found (negated w) b r s k trials) (u : Under (negated w) b.words) where
    mm : m ≡ most w
    mm = m_is is_m

    answer_back : answer_in m s k ≡ b.words
    answer_back = ap (λ (i : ℕ). take (3 * k) (drop (answer_from i) s)) (mm ∙ sym same) ∙ f.made

    pub negation_returns : Returning s out m k v
    negation_returns =
        let is = mm in
        let even = same in
        let few = ordered.formed.few in
        let fits = f.fits in
        let long = a.long in
        let kept = f.kept in
        let output = a.output in
        let count = f.count in
        let l = length_of w a.accepted (negated b.words) (negated_accepted b.words u.accepted) in
        let less = negated_most b.words u.accepted in
        record {
          giving = record { few = omega arith; nodes = omega arith; long = omega arith; output = omega arith };
          is_size = rw answer_back f.count;
          ready = rw answer_back (record { formed = u.accepted.formed; count = a.is_vars ∙ sym (u.variables ∙ negated_vars w a.accepted) });
          fits = rw answer_back (omega arith);
        }

    pub negation_hits : {Room-after out' : List ℕ} {c : ℕ} → Returned m k s out Room-after out' c → Hit (back b) r Room-after out out' c trials
    unfolding back
    negation_hits {Room-after} {out'} {c} g =
        let rest : drop (search_to m) s ≡ drop (search_to m) r =
        ap (λ (i : ℕ). drop (search_to i) s) (mm ∙ sym same) ∙ f.beyond ∙ ap (λ (i : ℕ). drop (search_to i) r) (same ∙ sym mm) in
        record {
          count = rw answer_back at g.count;
          trials = f.trials;
          room = room_back is_m s Room-after f.kept rest g.room;
          written = rw answer_back at g.written;
        }

  module _ {made : ℕ} {flipped : List ℕ} (e : Flipped w made flipped) where
    pub flipped_few : made ≤ max_nodes
    flipped_few = flips_few w a.accepted e.count

    pub flipped_searches : Searching (take (3 * made) flipped) r made v
    flipped_searches =
        let long = a.long in
        let even = same in
        rw e.words (record {
          accepted = negated_accepted w a.accepted;
          is_size = e.count;
          is_vars = a.is_vars ∙ sym (negated_vars w a.accepted);
          long = omega arith;
        })

    module _ {m : ℕ} (is_m : m ≡ max n 2) {b : Answer} {s : List ℕ} {k trials : ℕ} (f : Found (take (3 * made) flipped) b r s k trials)
        (u : Under (take (3 * made) flipped) b.words) where
      pub back_returns : Returning s out m k v
      back_returns = negation_returns is_m (rw e.words at f) (rw e.words at u)

      pub back_hits : {Room-after out' : List ℕ} {c : ℕ} → Returned m k s out Room-after out' c → Hit (back b) r Room-after out out' c trials
      back_hits g = negation_hits is_m (rw e.words at f) (rw e.words at u) g

-- ---- the verdicts

-- A refusal, and an answer, of a request with a verdict of its own.
module _ (outcome : ℕ → ℕ → Outcome) (b : Answer) {w room room' : List ℕ} (out : List ℕ)
    (left : room' ≡ room_after w (Diagram (length out)) room) {r : Verdict} where
  pub meets_refused : {x : Refused} → r ≡ Err x → outcome (length room) (length out) ≡ said (Err x) → Meets outcome b w room room' out out r 0 0
  meets_refused e is = record { builds = builds_refused outcome b.words out left e is; trials = rw is refl }

  pub meets_hit : {x : Extent} → r ≡ Ok x → outcome (length room) (length out) ≡ said (Ok x) → {room'' out' : List ℕ} {k trials : ℕ}
      → Hit b room' room'' out out' k trials → Meets outcome b w room room'' out out' r k trials
  meets_hit e is h = record {
    builds = builds_accepted outcome b.words out (h.room ∙ left) e is h.count h.written;
    trials = rw is h.trials;
  }

module _ {w room room' : List ℕ} (out : List ℕ) {verdict : Verdict} (checked : Checked w (Diagram (length out)) room room' verdict) where
  pub check_targets : {x : Extent} → verdict ≡ Ok x → Targeting w room' out x.nodes x.vars
  check_targets e =
      let given = admitted checked e in
      record {
        accepted = given.accepted;
        is_size = given.nodes;
        is_vars = given.variables;
        long = lent_fits checked e (room_of w) (omega arith);
        zero = lent_word checked e (room_of w) (omega arith);
        output = lent_enough w (length out) given.lent;
      }
