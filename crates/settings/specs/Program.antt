-- What can be said of a run of `settings`. No contract says which bytes reach a descriptor: what `store` of crates/evening leaves in
-- the two buffers is handed to them up to these ends, and it is the whole of both answers.
use Rattle.std.specs.Prelude.{ℕ, ◌≡◌, List, length}
use Rattle.evening.specs.Storing.{filed}

-- So many bytes of a file and of a text are the answer to some words and an input.
pub record Answered (count : ℕ) (first second third fourth input : List ℕ) (file text : ℕ) : Type 0 where
  pub output : file ≡ length (filed count first second third fourth input).file
  pub said : text ≡ length (filed count first second third fourth input).text

-- There are words and an input that were answered.
pub record Ran (file text : ℕ) : Type 0 where
  pub count : ℕ
  pub first : List ℕ
  pub second : List ℕ
  pub third : List ℕ
  pub fourth : List ℕ
  pub input : List ℕ
  pub answered : Answered count first second third fourth input file text
