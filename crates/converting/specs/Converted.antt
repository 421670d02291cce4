-- What is promised of `convert`, from bytes to bytes (proofs/Promised.antt).
use Rattle.std.specs.Prelude.{ℕ, ◌*◌, ◌≤◌, ◌<◌, ◌≡◌, false, List, [], ◌≢◌, length, take}
use Rattle.diagram.specs.Diagram.{Accepted}
use Rattle.blocks.specs.Block.{Bytes, nodes}
use Rattle.block_file.specs.File.{reading}
use Rattle.node_file.specs.NodeFile.{node_input_bytes}
use Rattle.forms.specs.Form.{read_as}
use Rattle.forms.specs.declared.Form.{Form}
use Rattle.report.specs.Report.{blank}
use Rattle.converting.specs.Converting.{other, conversion_of, word_buffer, looks, done, file_bytes, text_bytes, file_buffer, text_buffer}
use Rattle.converting.specs.declared.words.Conversion.{Conversion}
use Rattle.converting.specs.declared.words.Conversion.TheVariants.{Convert}

-- The bytes of standard output, for an input of some form. Where a file is refused there are none.
abbrev pub output : Form → List ℕ → List ℕ
output from s = file_bytes (done (Convert from) s file_buffer)

pub record Converted : Type 0 where
  -- what is written reads, in the other form, exactly as the input does
  pub same_words : (from : Form) (s : List ℕ) → Bytes s → output from s ≢ [] → read_as (other from) (output from s) blank ≡ read_as from s blank
  -- and converted back it is the input, byte by byte
  pub there_and_back : (from : Form) (s : List ℕ) → Bytes s → output from s ≢ [] → output (other from) (output from s) ≡ s
  -- only diagrams are written
  pub only_diagrams : (from : Form) (s left : List ℕ) (n : ℕ) → output from s ≢ [] → read_as from s blank ≡ reading (nodes n) left → Accepted (take (3 * n) left)
  -- words that ask for no conversion write no byte of a file, whatever the input is
  pub no_file : (m : Conversion) (s : List ℕ) (lent : ℕ) → looks m ≡ false → file_bytes (done m s lent) ≡ []
  pub no_input : (m : Conversion) (s t : List ℕ) (lent : ℕ) → looks m ≡ false → done m s lent ≡ done m t lent
  -- both answers fit the buffers of the program
  pub file_fits : (m : Conversion) (s : List ℕ) (lent : ℕ) → length (file_bytes (done m s lent)) ≤ file_buffer
  pub text_fits : (m : Conversion) (s : List ℕ) (lent : ℕ) → length (text_bytes (done m s lent)) ≤ text_buffer
  -- the bytes of one node more than there may be are enough of the input
  pub front_enough : (m : Conversion) (s : List ℕ) (k lent : ℕ) → node_input_bytes ≤ k → done m (take k s) lent ≡ done m s lent
  -- a word that is longer than its buffer means what an empty one means, which is what the program reads in its place
  pub first_long : (count : ℕ) (a b c : List ℕ) → word_buffer < length a → conversion_of count a b c ≡ conversion_of count [] b c
  pub second_long : (count : ℕ) (a b c : List ℕ) → word_buffer < length b → conversion_of count a b c ≡ conversion_of count a [] c
  pub third_long : (count : ℕ) (a b c : List ℕ) → word_buffer < length c → conversion_of count a b c ≡ conversion_of count a b []
