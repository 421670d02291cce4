-- What a supervisor is promised of `shrink`, from bytes to bytes (proofs/Supervising.antt).
use Rattle.std.specs.Prelude.{ℕ, suc, ◌≤◌, ◌<◌, ◌^◌, ◌≡◌, Bool, true, false, List, [], ◌++◌, ◌⊎◌, ◌≢◌, length, get_or, take, drop}
use Rattle.diagram.specs.Diagram.{size}
use Rattle.diagram.specs.Valuations.{count_of}
use Rattle.diagram.specs.Verdict.{accepted}
use Rattle.reduction.specs.Reduce.{reduce}
use Rattle.approximation.specs.Cut.{Under, Over}
use Rattle.writing.specs.Writing.{bytes}
use Rattle.blocks.specs.Block.{nodes as stored, refused as unread}
use Rattle.block_file.specs.File.{reading}
use Rattle.node_file.specs.NodeFile.{node_input_bytes}
use Rattle.forms.specs.Form.{read_as, write_as, file_as, short_as}
use Rattle.forms.specs.declared.Form.{Form}
use Rattle.forms.specs.declared.Form.TheVariants.{Blocks, Nodes}
use Rattle.report.specs.Report.{blank}
use Rattle.request.specs.Request.{nodes, cases, Meaning, request_of, form_of, words_of}
use Rattle.shrinking.specs.Shrinking.{wanted, wanted_verdict, looks, done, file_bytes, text_bytes, file_buffer, text_buffer}

-- The bytes of standard output, by all words of a request: `first` to `fifth` are the program's, `s` is its input.
abbrev pub output : ℕ → List ℕ → List ℕ → List ℕ → List ℕ → List ℕ → List ℕ → List ℕ
output count first second third fourth fifth s = file_bytes (done (form_of first) (words_of count first second third fourth fifth) s file_buffer)

-- The same by the form and the words but for `nodes`.
abbrev pub output_in : Form → ℕ → List ℕ → List ℕ → List ℕ → List ℕ → List ℕ → List ℕ
output_in form count first kind number flag s = file_bytes (done form (request_of count first kind number flag) s file_buffer)

-- Bytes that read back, in a form, as words of which something is true.
pub record ReadsAs (form : Form) (P : List ℕ → Type 0) (file : List ℕ) : Type 0 where
  pub words : List ℕ
  pub reads : read_as form file blank ≡ reading (stored (size words)) (words ++ drop (length words) blank)
  pub true_of_lem : P words

pub record Supervised : Type 0 where
  -- `nodes` in front of the words asks the same of a node file; without it the file is a block file, if the first word is keep or suppress
  pub node_file : (count : ℕ) (second third fourth fifth s : List ℕ) → output (suc count) (bytes "nodes") second third fourth fifth s ≡ output_in Nodes count second third fourth fifth s
  pub block_keep : (count : ℕ) (second third fourth fifth s : List ℕ) → output count (bytes "keep") second third fourth fifth s ≡ output_in Blocks count (bytes "keep") second third fourth s
  pub block_suppress : (count : ℕ) (second third fourth fifth s : List ℕ) → output count (bytes "suppress") second third fourth fifth s ≡ output_in Blocks count (bytes "suppress") second third fourth s
  -- the input is the file of w, as the writer makes it in that form: keep writes nothing, or what holds wherever w does
  pub keeps : (form : Form) (w kind number flag : List ℕ) (count lent n : ℕ) → ((k : ℕ) → get_or w k 0 < 2 ^ 32) → write_as form w lent ≡ stored n
      → (output_in form count (bytes "keep") kind number flag (file_as form w) ≡ []) ⊎ ReadsAs form (Over w) (output_in form count (bytes "keep") kind number flag (file_as form w))
  -- suppress writes nothing, or what holds only where w does
  pub suppresses : (form : Form) (w kind number flag : List ℕ) (count lent n : ℕ) → ((k : ℕ) → get_or w k 0 < 2 ^ 32) → write_as form w lent ≡ stored n
      → (output_in form count (bytes "suppress") kind number flag (file_as form w) ≡ []) ⊎ ReadsAs form (Under w) (output_in form count (bytes "suppress") kind number flag (file_as form w))
  -- three words write nothing, or what is reduced: of the fourth, `as-is`, they know nothing
  pub tidies : (form : Form) (w first kind number flag : List ℕ) (lent n : ℕ) → ((k : ℕ) → get_or w k 0 < 2 ^ 32) → write_as form w lent ≡ stored n
      → (output_in form 3 first kind number flag (file_as form w) ≡ []) ⊎ ReadsAs form (λ a. reduce a ≡ a) (output_in form 3 first kind number flag (file_as form w))
  -- words that ask for no cut write no byte of a file, whatever the input is
  pub no_file : (form : Form) (m : Meaning) (s : List ℕ) (lent : ℕ) → looks m ≡ false → file_bytes (done form m s lent) ≡ []
  pub no_input : (form : Form) (m : Meaning) (s t : List ℕ) (lent : ℕ) → looks m ≡ false → done form m s lent ≡ done form m t lent
  -- a number of nodes and a number of cases are met by every cut that isn't refused, with `as-is` and without
  pub nodes_kept : (as_is : Bool) (w : List ℕ) (t room lent n v : ℕ) → wanted_verdict true (nodes t) w room lent ≡ accepted n v → size (wanted true as_is (nodes t) w).words ≤ t
  pub nodes_left : (as_is : Bool) (w : List ℕ) (t room lent n v : ℕ) → wanted_verdict false (nodes t) w room lent ≡ accepted n v → size (wanted false as_is (nodes t) w).words ≤ t
  pub cases_kept : (as_is : Bool) (w : List ℕ) (k room lent n v : ℕ) → wanted_verdict true (cases k) w room lent ≡ accepted n v → k ≤ count_of (wanted true as_is (cases k) w).words
  pub cases_left : (as_is : Bool) (w : List ℕ) (k room lent n v : ℕ) → wanted_verdict false (cases k) w room lent ≡ accepted n v → count_of (wanted false as_is (cases k) w).words ≤ k
  -- both answers fit the buffers of the program, and that the file doesn't is never said there
  pub file_fits : (form : Form) (m : Meaning) (s : List ℕ) (lent : ℕ) → length (file_bytes (done form m s lent)) ≤ file_buffer
  pub text_fits : (form : Form) (m : Meaning) (s : List ℕ) (lent : ℕ) → length (text_bytes (done form m s lent)) ≤ text_buffer
  pub never_short : (form : Form) (a : List ℕ) (lent place : ℕ) → file_buffer ≤ lent → write_as form a lent ≢ unread (short_as form) place
  -- the bytes of one node more than there may be are enough of the input
  pub front_enough : (form : Form) (m : Meaning) (s : List ℕ) (k lent : ℕ) → node_input_bytes ≤ k → done form m (take k s) lent ≡ done form m s lent
