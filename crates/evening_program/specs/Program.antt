-- What can be said of a run of `shrink_stored`. No contract says which bytes reach a descriptor: what `answer_evening` of crates/evening
-- leaves in the two buffers is handed to them up to these ends, and it is the whole of both answers.
use Rattle.std.specs.Prelude.{Option, ℕ, ◌≡◌, List, length}
use Rattle.shrinking.specs.Shrinking.{file_bytes, text_bytes, file_buffer}
use Rattle.evening.specs.Evening.{evening_done}

-- So many bytes of a file and of a text are the answer to some words, a settings file and an input.
pub record Answered (count : ℕ) (first second third fourth fifth : List ℕ) (settings : Option (List ℕ)) (input : List ℕ) (file text : ℕ) : Type 0 where
  pub output : file ≡ length (file_bytes (evening_done count first second third fourth fifth settings input file_buffer))
  pub said : text ≡ length (text_bytes (evening_done count first second third fourth fifth settings input file_buffer))

-- There are words, a settings file and an input that were answered.
pub record Ran (file text : ℕ) : Type 0 where
  pub count : ℕ
  pub first : List ℕ
  pub second : List ℕ
  pub third : List ℕ
  pub fourth : List ℕ
  pub fifth : List ℕ
  pub settings : Option (List ℕ)
  pub input : List ℕ
  pub answered : Answered count first second third fourth fifth settings input file text
