-- What is promised of `differ`, from bytes to bytes (proofs/Promised.antt).
use Rattle.std.specs.Prelude.{Option, option_map, ℕ, ◌≤◌, ◌≡◌, false, ◌⊎◌, List, [], length, take}
use Rattle.diagram.specs.Diagram.{size, vars, Accepted}
use Rattle.pairs.specs.Pairs.{pairs_of}
use Rattle.blocks.specs.Block.{max_stored}
use Rattle.node_file.specs.NodeFile.{node_input_bytes}
use Rattle.messages.specs.Texts.{lent_pairs}
use Rattle.differ_texts.specs.Texts.{name_buffer, lines_buffer, text_buffer}
use Rattle.differing.specs.Differing.{Done, looks, done, line_bytes, text_bytes}
use Rattle.differing.specs.declared.words.Asked.{Asked}

pub record Differed : Type 0 where
  -- an answer has no byte of a text, and a text no line of an answer
  pub one_channel : (d : Done) → (line_bytes d ≡ []) ⊎ (text_bytes d ≡ [])
  -- words that ask for no comparison have the same answer whatever the files are
  pub no_files : (m : Asked) (a b c : List ℕ) (s t x y : Option (List ℕ)) → looks m ≡ false → done m a b c s t ≡ done m a b c x y
  -- both answers fit the buffers of the program, where the names fit theirs
  pub lines_fit : (m : Asked) (a b c : List ℕ) (s t : Option (List ℕ)) → length (line_bytes (done m a b c s t)) ≤ lines_buffer
  pub text_fits : (m : Asked) (a b c : List ℕ) (s t : Option (List ℕ)) → length a ≤ name_buffer → length b ≤ name_buffer → length c ≤ name_buffer
      → length (text_bytes (done m a b c s t)) ≤ text_buffer
  -- the bytes of one node more than there may be are enough of each file
  pub front_enough : (m : Asked) (a b c : List ℕ) (s t : Option (List ℕ)) (k : ℕ) → node_input_bytes ≤ k → done m a b c (option_map (take k) s) (option_map (take k) t) ≡ done m a b c s t
  -- the table that is lent is enough for any two conditions that fit a block file: these are never refused 32
  pub blocks_enough : (a b : List ℕ) → Accepted a → Accepted b → vars a ≡ vars b → size a ≤ max_stored → size b ≤ max_stored → pairs_of a b ≤ lent_pairs
