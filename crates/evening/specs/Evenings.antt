-- What a supervisor is promised of stored settings (proofs/Promised.antt).
use Rattle.std.specs.Prelude.{Option, Some, option_map, ℕ, ◌≤◌, ◌<◌, ◌^◌, ◌≡◌, true, false, cond, List, [], ◌⊎◌, length, get_or, take, eqb}
use Rattle.approximation.specs.Cut.{Under, Over}
use Rattle.writing.specs.Writing.{bytes}
use Rattle.blocks.specs.Block.{block_bytes, nodes as stored-nodes}
use Rattle.node_file.specs.NodeFile.{node_input_bytes}
use Rattle.forms.specs.Form.{write_as, file_as}
use Rattle.forms.specs.declared.Form.{Form}
use Rattle.text.specs.Digits.{decimal}
use Rattle.request.specs.Request.{request_of}
use Rattle.shrinking.specs.Shrinking.{looks, done, file_bytes, text_bytes, file_buffer, text_buffer}
use Rattle.shrinking.specs.Supervised.{ReadsAs}
use Rattle.setting_blocks.specs.Settings.{kept, read_by, newest}
use Rattle.setting_blocks.specs.declared.setting.Setting.{Setting}
use Rattle.evening.specs.Words.{aim_in, number_of, meaning_of}
use Rattle.evening.specs.Evening.{settles, settled, evening_done}
use Rattle.evening.specs.Storing.{direction_word, kind_word, stored, filed}

pub record Evenings : Type 0 where
  -- what `settings` writes for some words does, to any input, what the words do
  pub as_words : (form : Form) (count : ℕ) (first second third fourth s : List ℕ) (lent : ℕ) → looks (request_of count first second third fourth) ≡ true
      → settled form (Some (stored (request_of count first second third fourth)).file) s lent ≡ done form (request_of count first second third fourth) s lent
  -- the words that `settings show` shows ask for what is stored
  pub shown_asks : (f : List ℕ) (version : ℕ) (x : Setting) → read_by newest f ≡ kept version x
      → request_of (cond (eqb x.as_is 1) 4 3) (direction_word (eqb x.direction 1)) (kind_word (aim_in x)) (decimal (number_of (aim_in x))) (bytes "as-is") ≡ meaning_of x
  -- the input is the file of w: a stored keep writes nothing, or what holds wherever w does; a stored suppress nothing, or what holds only there
  pub keeps : (form : Form) (w f : List ℕ) (version lent n : ℕ) (x : Setting) → ((k : ℕ) → get_or w k 0 < 2 ^ 32) → write_as form w lent ≡ stored-nodes n
      → read_by newest f ≡ kept version x → x.direction ≡ 1
      → (file_bytes (settled form (Some f) (file_as form w) file_buffer) ≡ []) ⊎ ReadsAs form (Over w) (file_bytes (settled form (Some f) (file_as form w) file_buffer))
  pub suppresses : (form : Form) (w f : List ℕ) (version lent n : ℕ) (x : Setting) → ((k : ℕ) → get_or w k 0 < 2 ^ 32) → write_as form w lent ≡ stored-nodes n
      → read_by newest f ≡ kept version x → x.direction ≡ 0
      → (file_bytes (settled form (Some f) (file_as form w) file_buffer) ≡ []) ⊎ ReadsAs form (Under w) (file_bytes (settled form (Some f) (file_as form w) file_buffer))
  -- a settings file that is not there or is refused writes no byte of a condition, whatever the input is
  pub no_file : (form : Form) (f : Option (List ℕ)) (s : List ℕ) (lent : ℕ) → settles f ≡ false → file_bytes (settled form f s lent) ≡ []
  pub no_input : (form : Form) (f : Option (List ℕ)) (s t : List ℕ) (lent : ℕ) → settles f ≡ false → settled form f s lent ≡ settled form f t lent
  -- all answers fit the buffers of `shrink_stored`
  pub file_fits : (count : ℕ) (first second third fourth fifth : List ℕ) (f : Option (List ℕ)) (s : List ℕ) (lent : ℕ)
      → length (file_bytes (evening_done count first second third fourth fifth f s lent)) ≤ file_buffer
  pub text_fits : (count : ℕ) (first second third fourth fifth : List ℕ) (f : Option (List ℕ)) (s : List ℕ) (lent : ℕ)
      → length (text_bytes (evening_done count first second third fourth fifth f s lent)) ≤ text_buffer
  -- one byte more than a block has is enough of a settings file, and the bytes of one node more than there may be of the input
  pub settings_enough : (form : Form) (f : Option (List ℕ)) (s : List ℕ) (lent k : ℕ) → block_bytes < k → settled form (option_map (take k) f) s lent ≡ settled form f s lent
  pub front_enough : (form : Form) (f : Option (List ℕ)) (s : List ℕ) (lent k : ℕ) → node_input_bytes ≤ k → settled form f (take k s) lent ≡ settled form f s lent
  -- both answers of `settings` fit its buffers, and one byte more than a block has is enough of its input
  pub stored_fits : (count : ℕ) (first second third fourth s : List ℕ) → length (filed count first second third fourth s).file ≤ block_bytes
  pub said_fits : (count : ℕ) (first second third fourth s : List ℕ) → length (filed count first second third fourth s).text ≤ text_buffer
  pub block_enough : (count : ℕ) (first second third fourth s : List ℕ) (k : ℕ) → block_bytes < k → filed count first second third fourth (take k s) ≡ filed count first second third fourth s
