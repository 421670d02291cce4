-- What converting a file answers: from a block file to a node file, or back. `w` is the words of nodes, three each, `s` the bytes of a
-- file; `from` is the form of the input, `to` that of the output.
use Rattle.std.specs.Prelude.{ℕ, ◌+◌, ◌*◌, ◌≡◌, Bool, true, false, cond, not, ◌&&◌, List, [], ◌++◌, length, take, drop, eqb}
use Rattle.diagram.specs.Diagram.{size}
use Rattle.diagram.specs.Verdict.{Outcome, accepted, refused as rejected, verdict_of}
use Rattle.diagram.specs.declared.verdict.Output.TheVariants.{Nothing}
use Rattle.blocks.specs.Block.{Stored, Outcome as Stores, nodes as stored, refused as unread, said}
use Rattle.block_file.specs.File.{Reading, reading}
use Rattle.node_file.specs.NodeFile.{node_file_bytes}
use Rattle.forms.specs.Form.{read_as, write_as, file_as}
use Rattle.forms.specs.declared.Form.{Form}
use Rattle.forms.specs.declared.Form.TheVariants.{Blocks, Nodes}
use Rattle.writing.specs.Writing.{bytes, Wrote}
use Rattle.text.specs.Digits.{decimal_digits, decimal}
use Rattle.report.specs.Report.{room_lent, feed, blank}
use Rattle.request.specs.Request.{alike}
use Rattle.messages.specs.Texts.{refusal_text}
use Rattle.converting.specs.declared.words.Conversion.{Conversion}
use Rattle.converting.specs.declared.words.Conversion.TheVariants.{Help, Unknown, Convert}

abbrev pub other : Form → Form
other Blocks = Nodes
other Nodes = Blocks

-- ---- the words

-- `blocks to nodes`, `nodes to blocks`, none, and all else. What is converted is named by the form of its input.
abbrev pub are_words : List ℕ → List ℕ → List ℕ → List ℕ → Bool
are_words first from last to = alike first from && alike last to

unfoldable pub conversion_of : ℕ → List ℕ → List ℕ → List ℕ → Conversion
conversion_of count first second third =
    cond (eqb count 0) Help
    (cond (not (eqb count 3)) Unknown
    (cond (not (alike second (bytes "to"))) Unknown
    (cond (are_words first (bytes "blocks") third (bytes "nodes")) (Convert Blocks)
    (cond (are_words first (bytes "nodes") third (bytes "blocks")) (Convert Nodes)
    Unknown))))

-- The bytes that the program lends for a word: those of the longest that is taken.
abbrev pub word_buffer : ℕ
word_buffer = length (bytes "blocks")

-- Whether the input is looked at: only for a conversion.
abbrev pub looks : Conversion → Bool
looks Help = false
looks Unknown = false
looks (Convert from) = true

-- ---- what is done

-- Only a text; a refusal; or words in a form.
pub data Done : Type 0 where
  told : List ℕ → Done
  refused : ℕ → ℕ → Done
  written : Form → List ℕ → Done

-- The words that were read are checked as a diagram, with the room that the most nodes need.
abbrev pub if_diagram : ℕ → Outcome → Stores
if_diagram n (accepted m v) = stored n
if_diagram n (rejected number place) = unread number place

abbrev pub checked : Reading → Reading
checked (reading (stored n) left) = reading (if_diagram n (verdict_of (take (3 * n) left) Nothing room_lent)) left
checked (reading (unread number place) left) = reading (unread number place) left

-- The words have to fit the form, and the file that is lent.
abbrev pub if_stored : Form → List ℕ → Stores → Done
if_stored to w (stored n) = written to w
if_stored to w (unread number place) = refused number place

unfoldable pub storing : Form → List ℕ → ℕ → Done
storing to w lent = if_stored to w (write_as to w lent)

abbrev pub if_found : Form → ℕ → Reading → Done
if_found to lent (reading (stored n) left) = storing to (take (3 * n) left) lent
if_found to lent (reading (unread number place) left) = refused number place

-- The reader's refusal, else the diagram's own, else the writer's, else the same words in the other form. `lent` is the length of the
-- file buffer.
unfoldable pub file_done : Form → List ℕ → ℕ → Done
file_done from s lent = if_found (other from) lent (checked (read_as from s blank))

-- ---- what is said

abbrev pub help_text : List ℕ
help_text = bytes "convert blocks to nodes   a block file to a node file\nconvert nodes to blocks   a node file of at most 120 nodes to a block file\nReads standard input and writes standard output. What is not a diagram is refused.\n"

abbrev pub unknown_text : List ℕ
unknown_text = bytes "convert: the words are blocks to nodes, or nodes to blocks; convert alone prints its help\n"

unfoldable pub nodes_text : ℕ → List ℕ
nodes_text n = bytes "nodes " ++ decimal n ++ feed

-- By what the words ask for.
unfoldable pub done : Conversion → List ℕ → ℕ → Done
done Help s lent = told help_text
done Unknown s lent = told unknown_text
done (Convert from) s lent = file_done from s lent

-- ---- what is written of it

-- The bytes of standard output: none but for a conversion. Those of standard error.
abbrev pub file_bytes : Done → List ℕ
file_bytes (told t) = []
file_bytes (refused number place) = []
file_bytes (written to w) = file_as to w

abbrev pub text_bytes : Done → List ℕ
text_bytes (told t) = t
text_bytes (refused number place) = refusal_text number place
text_bytes (written to w) = nodes_text (size w)

-- The buffers of the program: the bytes of the most nodes, and the longest text, a refusal with its four numbers. Each holds every
-- answer (proofs/Fitting.antt).
abbrev pub file_buffer : ℕ
file_buffer = node_file_bytes

abbrev pub text_buffer : ℕ
text_buffer = 101 + 4 * decimal_digits

-- The file begins with its bytes and is as it was beyond them; the text is what is said.
pub record Converts (d : Done) (file file-left text text-left : List ℕ) (file-end text-end : ℕ) : Type 0 where
  pub stored : file-left ≡ file_bytes d ++ drop (length (file_bytes d)) file
  pub stored_end : file-end ≡ length (file_bytes d)
  pub told : Wrote (text_bytes d) text 0 text-left text-end

-- For the code inside: what reading a diagram says and leaves.
pub record Finds (form : Form) (s before left : List ℕ) (r : Stored) : Type 0 where
  pub is : reading (said r) left ≡ checked (read_as form s before)
