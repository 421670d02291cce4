-- What is reported of a diagram and of a file.
use Prim.Native.Nat.{ℕ, ◌+◌, ◌*◌, ◌≤◌, ◌<◌}
use mathlib.Core.Path.{◌≡◌, sym, ap, ◌∙◌}
use mathlib.Core.List.{List, ◌++◌}
use native.Mathlib.Omega.{arith}
use lib.ListN.{length, take}
use borrow.Author.Tests.{le-leb, ltb-false}
use Rattle.naturals.specs.Natural.{value, word_count}
use Rattle.diagram.specs.declared.verdict.Output.TheVariants.{Weights}
use Rattle.diagram.proofs.Meaning.{verdict_accepted}
use Rattle.diagram.specs.Diagram.{size}
use Rattle.diagram.specs.Valuations.{count_of, weight_of}
use Rattle.diagram.specs.Verdict.{verdict_in, accepted, said, short, verdict_for}
use Rattle.diagram.specs.declared.verdict.Finding.{Finding}
use Rattle.naturals.specs.declared.Natural.{Natural}
use Rattle.counts.specs.Counted.{words_in}
use Rattle.diagram.specs.Refusal.{number_of}
use Rattle.weights.specs.Weighed.{CountsAndWeighs}
use Rattle.node_weights.proofs.Answers.{weighed_long, weighed_at}
use Rattle.diagram.specs.Limits.{max_nodes}
use Rattle.diagram.specs.declared.verdict.Refused.{Refused}
use Rattle.std.specs.Prelude.{Result, Ok, Err}
use Rattle.blocks.specs.Block.{Stored}
use Rattle.forms.specs.Form.{FormReads}
use Rattle.forms.specs.declared.Form.{Form}
use Rattle.forms.proofs.Laws.{form_few}
use Rattle.writing.specs.Writing.{Wrote}
use Rattle.report.specs.Report.{refusal, head, lines, weight_in, weights_lent, room_lent, diagram_report, blank, report_of}
use Rattle.report.proofs.Composing.{lines_same}

module _ (w room room_left_lem table left : List ℕ) (r : Result (Finding Natural) Refused) (a : CountsAndWeighs w room room_left_lem table left (verdict_in r) (words_in r))
    (lent : length table ≡ weights_lent) (roomy : length room ≡ room_lent) where
  verdict_is : said (verdict_in r) ≡ verdict_for Weights w room_lent weights_lent
  verdict_is = rw (lent, roomy) at a.weighs.verdict

  pub diagram_refused : {x : Refused} {before after : List ℕ} {end : ℕ} → r ≡ Err x → Wrote (refusal (number_of x.reason) x.place) before 0 after end → Wrote (diagram_report w) before 0 after end
  unfolding diagram_report
  diagram_refused e t = rw (sym verdict_is, e) t

  module _ {x : Finding Natural} (e : r ≡ Ok x) where
    accepted_is : verdict_for Weights w (length room) (length table) ≡ accepted x.extent.nodes x.extent.vars
    accepted_is = sym a.weighs.verdict ∙ ap (λ (v : Result (Finding Natural) Refused). said (verdict_in v)) e

    pub weights_fit : word_count * size w ≤ weights_lent
    unfolding short
    weights_fit =
        let d = verdict_accepted w (Weights (length table)) (length room) x.extent.nodes x.extent.vars accepted_is in
        let f : word_count * size w ≤ length table = ltb-false _ _ d.lent in
        omega arith

    count_is : value x.value.words ≡ count_of w
    count_is = sym (ap (λ (v : Result (Finding Natural) Refused). value (words_in v)) e) ∙ (rw accepted_is at a.counted).worth

    weight_is : (q : ℕ) → q < size w → weight_in left q ≡ weight_of w q
    weight_is q h =
        let f : word_count * q + word_count ≤ length left = omega (arith, weighed_long a.weighs accepted_is, weights_fit) in
        rw (le-leb (word_count * q + word_count) (length left) f) (weighed_at a.weighs accepted_is q h)

    pub diagram_weighed : {before after : List ℕ} {end : ℕ} → Wrote (head w (value x.value.words) ++ lines w (weight_in left) 0 (size w)) before 0 after end
        → Wrote (diagram_report w) before 0 after end
    unfolding diagram_report
    diagram_weighed t =
        let l : lines w (weight_in left) 0 (size w) ≡ lines w (weight_of w) 0 (size w) = lines_same w (weight_in left) (weight_of w) 0 (size w) (λ q h. weight_is q (omega arith)) in
        rw (sym verdict_is, e) (rw (count_is, l) at t)

-- ---- of a file

module _ (form : Form) (s before-words left : List ℕ) {r : Stored} (a : FormReads form s before-words left r) (is-blank : before-words ≡ blank) where
  pub file_refused : {x : Refused} {before after : List ℕ} {end : ℕ} → r ≡ Err x → Wrote (refusal (number_of x.reason) x.place) before 0 after end → Wrote (report_of form s) before 0 after end
  unfolding report_of
  file_refused e t = rw (sym is-blank, sym a.is, e) t

  pub file_read_lem : {n : ℕ} {before after : List ℕ} {end : ℕ} → r ≡ Ok n → Wrote (diagram_report (take (3 * n) left)) before 0 after end → Wrote (report_of form s) before 0 after end
  unfolding report_of
  file_read_lem e t = rw (sym is-blank, sym a.is, e) t

  pub file_few : {n : ℕ} → r ≡ Ok n → n ≤ max_nodes
  file_few e = form_few form s before-words (sym (rw e at a.is))
