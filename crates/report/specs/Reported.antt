-- What is promised of the report (proofs/Fitting.antt).
use Rattle.std.specs.Prelude.{ℕ, ◌+◌, ◌*◌, ◌≤◌, ◌≡◌, List, length, take}
use Rattle.writing.specs.Writing.{bytes}
use Rattle.diagram.specs.Limits.{max_nodes}
use Rattle.node_file.specs.NodeFile.{node_input_bytes}
use Rattle.forms.specs.declared.Form.{Form}
use Rattle.text.specs.Digits.{hexadecimal_digits}
use Rattle.report.specs.Report.{report_of}

-- Digits of a variable and of a number of nodes: both are below 10 ^ small_digits.
abbrev pub small_digits : ℕ
small_digits = 5

-- The longest head and the longest line: their words, two such numbers and a count.
abbrev pub longest_head : ℕ
longest_head = length (bytes "vars \nnodes \ncount \n") + 2 * small_digits + hexadecimal_digits

abbrev pub longest_line : ℕ
longest_line = length (bytes "node  var  weight \n") + 2 * small_digits + hexadecimal_digits

-- The text buffer of the program `weigh`: the longest report of a file. The code has the same number in src/lines.rt.
abbrev pub report_buffer : ℕ
report_buffer = longest_head + max_nodes * longest_line

pub record Reported : Type 0 where
  -- every report fits the buffer; the bytes of one node more than there may be are enough of the input
  pub fits : (form : Form) (s : List ℕ) → length (report_of form s) ≤ report_buffer
  pub front_enough : (form : Form) (s : List ℕ) (k : ℕ) → node_input_bytes ≤ k → report_of form (take k s) ≡ report_of form s
