-- What can be said of a run of `differ`. No contract says which bytes come from a file or reach a descriptor: what `answer` of
-- crates/differing leaves in the two buffers is handed to them up to these ends, and it is the whole of both answers.
use Rattle.std.specs.Prelude.{Option, ℕ, ◌≤◌, ◌≡◌, List, length}
use Rattle.differ_texts.specs.Texts.{name_buffer}
use Rattle.differing.specs.Differing.{asked_of, Done, done, line_bytes, text_bytes}

-- The words fit their buffers.
pub record Words (first second third : List ℕ) : Type 0 where
  pub first_fits : length first ≤ name_buffer
  pub second_fits : length second ≤ name_buffer
  pub third_fits : length third ≤ name_buffer

abbrev pub outcome : ℕ → List ℕ → List ℕ → List ℕ → Option (List ℕ) → Option (List ℕ) → Done
outcome count first second third old new = done (asked_of count first) first second third old new

-- So many bytes of lines and of a text are the answer to some words and two files.
pub record Answered (count : ℕ) (first second third : List ℕ) (old new : Option (List ℕ)) (lines text : ℕ) : Type 0 where
  pub printed : lines ≡ length (line_bytes (outcome count first second third old new))
  pub said : text ≡ length (text_bytes (outcome count first second third old new))

-- There are words and files that were answered.
pub record Ran (lines text : ℕ) : Type 0 where
  pub count : ℕ
  pub first : List ℕ
  pub second : List ℕ
  pub third : List ℕ
  pub old : Option (List ℕ)
  pub new : Option (List ℕ)
  pub answered : Answered count first second third old new lines text
