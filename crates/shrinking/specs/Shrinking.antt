-- What shrinking a file answers: `w` is the words of a diagram, `s` the bytes of a file; `form`, `keep`, `as_is` and `aim` are what
-- the words of a request mean.
use Rattle.std.specs.Prelude.{ℕ, ◌*◌, ◌≡◌, Bool, true, false, List, [], ◌++◌, length, take, drop}
use Rattle.diagram.specs.Diagram.{size}
use Rattle.diagram.specs.Valuations.{count_of}
use Rattle.diagram.specs.Verdict.{Verdict, Outcome, accepted, refused as rejected}
use Rattle.approximation.specs.Search.{Answer}
use Rattle.approximation.specs.Met.{under_size_answer, over_size_answer, under_count_answer, over_count_answer}
use Rattle.targets.specs.Targets.{under_size_verdict, over_size_verdict, under_count_verdict, over_count_verdict, Meets}
use Rattle.diagram.specs.Limits.{max_words}
use Rattle.blocks.specs.Block.{Outcome as Stored, nodes as stored, refused as unread}
use Rattle.block_file.specs.File.{Reading, reading}
use Rattle.node_file.specs.NodeFile.{node_file_bytes}
use Rattle.forms.specs.Form.{read_as, write_as, file_as}
use Rattle.forms.specs.declared.Form.{Form}
use Rattle.writing.specs.Writing.{Wrote}
use Rattle.report.specs.Report.{room_lent, blank}
use Rattle.request.specs.Request.{Aim, nodes, cases, Meaning, help, unknown, which, cut}
use Rattle.messages.specs.Texts.{help_text, unknown_text, which_text, refusal_text, target_text, sizes_text, counts_text, change_text, trials_text, longest_summary}

-- ---- the one cut that is meant: keep goes over, suppress goes under

unfoldable pub wanted : Bool → Bool → Aim → List ℕ → Answer
wanted true as_is (nodes t) w = over_size_answer as_is w t
wanted false as_is (nodes t) w = under_size_answer as_is w t
wanted true as_is (cases k) w = over_count_answer as_is w k
wanted false as_is (cases k) w = under_count_answer as_is w k

unfoldable pub wanted_verdict : Bool → Aim → List ℕ → ℕ → ℕ → Outcome
wanted_verdict true (nodes t) w = over_size_verdict w t
wanted_verdict false (nodes t) w = under_size_verdict w t
wanted_verdict true (cases k) w = over_count_verdict w k
wanted_verdict false (cases k) w = under_count_verdict w k

-- For the code inside: what is answered of it.
abbrev pub Wants : (w : List ℕ) (keep as_is : Bool) (aim : Aim) (room room' out out' : List ℕ) → Verdict → ℕ → ℕ → Type 0
Wants w keep as_is aim = Meets (wanted_verdict keep aim w) (wanted keep as_is aim w) w

-- ---- what is done

-- Only a text; a refusal; or a cut, with the form of its file, its words before and after and its trials.
pub data Done : Type 0 where
  told : List ℕ → Done
  refused : ℕ → ℕ → Done
  shrunk : Form → Bool → Aim → List ℕ → List ℕ → ℕ → Done

-- An answer has to fit the file that is lent.
abbrev pub if_stored : Form → Bool → Aim → List ℕ → List ℕ → ℕ → Stored → Done
if_stored form keep aim w a trials (stored n) = shrunk form keep aim w a trials
if_stored form keep aim w a trials (unread number place) = refused number place

unfoldable pub storing : Form → Bool → Aim → List ℕ → List ℕ → ℕ → ℕ → Done
storing form keep aim w a trials lent = if_stored form keep aim w a trials (write_as form a lent)

-- The words of the output and of the room are those that the most nodes need.
abbrev pub if_cut : Form → Bool → Bool → Aim → List ℕ → ℕ → Outcome → Done
if_cut form keep as_is aim w lent (accepted n v) = storing form keep aim w (wanted keep as_is aim w).words (wanted keep as_is aim w).trials lent
if_cut form keep as_is aim w lent (rejected number place) = refused number place

unfoldable pub diagram_done : Form → Bool → Bool → Aim → List ℕ → ℕ → Done
diagram_done form keep as_is aim w lent = if_cut form keep as_is aim w lent (wanted_verdict keep aim w room_lent max_words)

abbrev pub if_read : Form → Bool → Bool → Aim → ℕ → Reading → Done
if_read form keep as_is aim lent (reading (stored n) left) = diagram_done form keep as_is aim (take (3 * n) left) lent
if_read form keep as_is aim lent (reading (unread number place) left) = refused number place

-- By what the words mean; `lent` is the length of the file buffer.
unfoldable pub done : Form → Meaning → List ℕ → ℕ → Done
done form help s lent = told help_text
done form unknown s lent = told unknown_text
done form which s lent = told which_text
done form (cut keep as_is aim) s lent = if_read form keep as_is aim lent (read_as form s blank)

-- Whether the input is looked at: only for a cut.
abbrev pub looks : Meaning → Bool
looks help = false
looks unknown = false
looks which = false
looks (cut keep as_is aim) = true

-- ---- what is written of it

unfoldable pub summary : Bool → Aim → List ℕ → List ℕ → ℕ → List ℕ
summary keep aim w a trials =
    target_text keep aim
    ++ sizes_text (size w) (size a)
    ++ (counts_text (count_of w) (count_of a) ++ change_text keep (count_of w) (count_of a))
    ++ trials_text trials

-- The bytes of standard output: none but for a cut. Those of standard error.
abbrev pub file_bytes : Done → List ℕ
file_bytes (told t) = []
file_bytes (refused number place) = []
file_bytes (shrunk form keep aim w a trials) = file_as form a

abbrev pub text_bytes : Done → List ℕ
text_bytes (told t) = t
text_bytes (refused number place) = refusal_text number place
text_bytes (shrunk form keep aim w a trials) = summary keep aim w a trials

-- The buffers of the program: the bytes of the most nodes, and the longest summary. Each holds every answer (proofs/Fitting.antt).
abbrev pub file_buffer : ℕ
file_buffer = node_file_bytes

abbrev pub text_buffer : ℕ
text_buffer = longest_summary

-- The file begins with its bytes and is as it was beyond them; the text is what is said.
pub record Shrinks (d : Done) (file file-left text text-left : List ℕ) (file-end text-end : ℕ) : Type 0 where
  pub stored : file-left ≡ file_bytes d ++ drop (length (file_bytes d)) file
  pub stored_end : file-end ≡ length (file_bytes d)
  pub told : Wrote (text_bytes d) text 0 text-left text-end
