-- What can be said of a run of `convert`. No contract says which bytes reach a descriptor: what `answer` of crates/converting
-- leaves in the two buffers is handed to them up to these ends, and it is the whole of both answers.
use Rattle.std.specs.Prelude.{ℕ, ◌≡◌, List, length}
use Rattle.converting.specs.Converting.{conversion_of, done, file_bytes, text_bytes, file_buffer}

-- So many bytes of a file and of a text are the answer to some words and an input.
pub record Answered (count : ℕ) (first second third input : List ℕ) (file text : ℕ) : Type 0 where
  pub output : file ≡ length (file_bytes (done (conversion_of count first second third) input file_buffer))
  pub said : text ≡ length (text_bytes (done (conversion_of count first second third) input file_buffer))

-- There are words and an input that were answered.
pub record Ran (file text : ℕ) : Type 0 where
  pub count : ℕ
  pub first : List ℕ
  pub second : List ℕ
  pub third : List ℕ
  pub input : List ℕ
  pub answered : Answered count first second third input file text
