-- The report of every file fits the bytes that the program lends.
use Prim.Native.Nat.{ℕ, zero, suc, ◌+◌, ◌*◌, ◌≤◌, ◌<◌}
use mathlib.Core.Path.{◌≡◌, refl, ap, ◌∙◌}
use mathlib.Core.List.{List, ◌++◌}
use native.Mathlib.Omega.{arith}
use lib.ListN.{length, take, drop, length-append}
use lib.Seq.{take_at}
use Rattle.diagram.specs.Diagram.{var_of, size, vars, Accepted}
use Rattle.diagram.specs.Valuations.{count_of, weight_of}
use Rattle.diagram.specs.Verdict.{Outcome, accepted, refused, verdict_for}
use Rattle.diagram.specs.declared.verdict.Output.TheVariants.{Weights}
use Rattle.diagram.proofs.Meaning.{verdict_accepted}
use Rattle.diagram.proofs.Reading.{layered, accepted_ordered, var_most}
use Rattle.blocks.specs.Block.{nodes, refused as unread}
use Rattle.block_file.specs.File.{Reading, reading}
use Rattle.forms.specs.Form.{read_as}
use Rattle.forms.specs.declared.Form.{Form}
use Rattle.forms.proofs.Promised.{front_enough}
use Rattle.text.specs.Digits.{decimal_digits, decimal}
use Rattle.text.proofs.Numerals.{decimal_length, decimal_short, hexadecimal_length}
use Rattle.writing.specs.Writing.{Wrote}
use Rattle.writing.proofs.Laws.{wrote_length, wrote_fits, wrote_place}
use Rattle.report.specs.Reported.{small_digits, longest_head, longest_line, report_buffer, Reported}
use Rattle.report.specs.Report.{refused_at, refusal, line, lines, head, weighed_report, diagram_report, weights_lent, room_lent, stored_report, blank, report_of}

-- What is weighed was accepted, so its numbers are small: variables and nodes have few digits.
weighed_accepted : (w : List ℕ) {n v : ℕ} → verdict_for Weights w room_lent weights_lent ≡ accepted n v → Accepted w
weighed_accepted w {n} {v} e = (verdict_accepted w (Weights weights_lent) room_lent n v e).accepted

-- The lengths of the lines: few digits for a variable and for a node, all that a number may have for a count and for what refuses.
refusal_length : (number place : ℕ) → length (refusal number place) ≤ 13 + 2 * decimal_digits
unfolding refused_at
refusal_length number place = simp length-append (omega (arith, decimal_length number, decimal_length place))

module _ (w : List ℕ) (a : Accepted w) where
  var_short : (p : ℕ) → p < size w → length (decimal (var_of w p)) ≤ small_digits
  var_short p h =
      let most = var_most w (vars w) (size w) (layered w (accepted_ordered w a)) p h in
      decimal_short (var_of w p) small_digits (omega arith) (omega (arith, a.formed.variables))

  node_short : (p : ℕ) → p ≤ size w → length (decimal p) ≤ small_digits
  node_short p h = decimal_short p small_digits (omega arith) (omega (arith, a.formed.few))

  head_length : (count : ℕ) → length (head w count) ≤ longest_head
  unfolding head
  head_length count = simp length-append (omega (arith, var_short 0 a.formed.some, node_short (size w) (omega arith), hexadecimal_length count))

  line_length : (weight p : ℕ) → p < size w → length (line w weight p) ≤ longest_line
  unfolding line
  line_length weight p h = simp length-append (omega (arith, node_short p (omega arith), var_short p h, hexadecimal_length weight))

  lines_length : (weight : ℕ → ℕ) (p c : ℕ) → p + c ≤ size w → length (lines w weight p c) ≤ longest_line * c
  unfolding lines
  lines_length weight p zero h = omega arith
  lines_length weight p (suc c) h =
      simp length-append (omega (arith, line_length (weight p) p (omega arith), lines_length weight (suc p) c (omega arith)))

weighed_length : (w : List ℕ) (o : Outcome) → verdict_for Weights w room_lent weights_lent ≡ o → length (weighed_report w o) ≤ report_buffer
weighed_length w (accepted n v) e =
    let a = weighed_accepted w e in
    simp length-append (omega (arith, a.formed.few, head_length w a (count_of w), lines_length w a (weight_of w) 0 (size w) (omega arith)))
weighed_length w (refused number place) e = omega (arith, refusal_length number place)

diagram_length : (w : List ℕ) → length (diagram_report w) ≤ report_buffer
unfolding diagram_report
diagram_length w = weighed_length w (verdict_for Weights w room_lent weights_lent) refl

stored_length : (r : Reading) → length (stored_report r) ≤ report_buffer
stored_length (reading (nodes n) left) = diagram_length (take (3 * n) left)
stored_length (reading (unread number place) left) = omega (arith, refusal_length number place)

pub report_length : (form : Form) (s : List ℕ) → length (report_of form s) ≤ report_buffer
unfolding report_of
report_length form s = stored_length (read_as form s blank)

-- What was written up to the place that the writer returns is the whole report.
pub report_whole : (form : Form) (s : List ℕ) {before after : List ℕ} {end : ℕ} → report_buffer ≤ length before → Wrote (report_of form s) before 0 after end
    → (end ≤ length after) × (take end after ≡ report_of form s)
report_whole form s {before} {after} {end} h w =
    let l : 0 + length (report_of form s) ≤ length before = omega (arith, report_length form s) in
    let e : length (report_of form s) ≡ end = omega (arith, wrote_place w l) in
    let f : after ≡ report_of form s ++ drop (0 + length (report_of form s)) before = wrote_fits w l in
    (omega (arith, wrote_length w), ap (take end) f ∙ take_at (report_of form s) (drop (0 + length (report_of form s)) before) end e)

pub reported : Reported
unfolding report_of
reported =
    record {
      fits = report_length;
      front_enough = λ form s k h. ap stored_report (front_enough form s blank k h);
    }
