-- What can be said of a run of `shrink`. No contract says which bytes reach a descriptor: what `answer` of crates/shrinking
-- leaves in the two buffers is handed to them up to these ends, and it is the whole of both answers.
use Rattle.std.specs.Prelude.{ℕ, ◌≡◌, List, length}
use Rattle.request.specs.Request.{form_of, words_of}
use Rattle.shrinking.specs.Shrinking.{done, file_bytes, text_bytes, file_buffer}

-- So many bytes of a file and of a text are the answer to some words and an input.
pub record Answered (count : ℕ) (first second third fourth fifth input : List ℕ) (file text : ℕ) : Type 0 where
  pub output : file ≡ length (file_bytes (done (form_of first) (words_of count first second third fourth fifth) input file_buffer))
  pub said : text ≡ length (text_bytes (done (form_of first) (words_of count first second third fourth fifth) input file_buffer))

-- There are words and an input that were answered.
pub record Ran (file text : ℕ) : Type 0 where
  pub count : ℕ
  pub first : List ℕ
  pub second : List ℕ
  pub third : List ℕ
  pub fourth : List ℕ
  pub fifth : List ℕ
  pub input : List ℕ
  pub answered : Answered count first second third fourth fifth input file text
