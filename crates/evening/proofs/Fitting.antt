-- All answers fit their buffers, and how much of each input is enough.
use Prim.Native.Nat.{ℕ, ◌+◌, ◌≤◌, ◌<◌}
use mathlib.Core.Path.{◌≡◌, refl, ap}
use mathlib.Core.Bool.{Bool, true, false}
use Rattle.std.specs.Prelude.{Option, Some, None, option_map}
use mathlib.Core.List.{List}
use native.Mathlib.Omega.{arith}
use lib.ListN.{length, take, length-append}
use lib.Dec.{eqb}
use Rattle.writing.specs.Writing.{bytes}
use Rattle.writing.proofs.Laws.{wrote_place}
use Rattle.blocks.specs.Block.{block_bytes}
use Rattle.node_file.specs.NodeFile.{node_input_bytes}
use Rattle.forms.specs.declared.Form.{Form}
use Rattle.text.specs.Digits.{decimal_digits}
use Rattle.text.proofs.Numerals.{decimal_length}
use Rattle.request.specs.Request.{Aim, nodes, cases, Meaning, help, unknown, which, cut, request_of, form_of, words_of}
use Rattle.messages.proofs.Fitting.{settings_refusal_length}
use Rattle.shrinking.specs.Shrinking.{Done, told, done, file_bytes, text_bytes, file_buffer, text_buffer, Shrinks}
use Rattle.shrinking.proofs.Fitting.{file_fits as done-file-fits, text_fits as done-text-fits, front_is_enough, ends_are_whole as done-ends-whole}
use Rattle.setting_blocks.specs.Settings.{Outcome, kept, refused, read_by, newest}
use Rattle.setting_blocks.proofs.Fields.{block_length}
use Rattle.setting_blocks.proofs.Promised.{outlives}
use Rattle.evening.specs.Words.{aim_in, meaning_of, setting_of, version_of}
use Rattle.evening.specs.Evening.{names_settings, blamed_text, missing_text, if_kept, settled, evening_done}
use Rattle.evening.specs.Storing.{aim_text, cut_text, version_text, Filed, if_shown, stored, is_show, filed, Files}
use Rattle.evening.proofs.Asking.{either}
use Rattle.evening.proofs.Settling.{setting_whole}

-- ---- `shrink`

blamed_fits : (number place : ℕ) → length (blamed_text number place) ≤ text_buffer
unfolding blamed_text
blamed_fits number place = simp length-append (omega (arith, settings_refusal_length number place))

-- What is true of all that words do, and of both texts about a settings file, is true of every answer.
module _ (P : Done → Type 0) (first s : List ℕ) (lent : ℕ) (does : (m : Meaning) → P (done (form_of first) m s lent))
    (blames : (number place : ℕ) → P (told (blamed_text number place))) (misses : P (told missing_text)) where
  kept_all : (o : Outcome) → P (if_kept (form_of first) s lent o)
  unfolding if_kept
  kept_all (kept version x) = does (meaning_of x)
  kept_all (refused number place) = blames number place

  settled_all : (f : Option (List ℕ)) → P (settled (form_of first) f s lent)
  unfolding settled
  settled_all (Some f) = kept_all (read_by newest f)
  settled_all None = misses

  evening_all : (count : ℕ) (second third fourth fifth : List ℕ) (f : Option (List ℕ)) → P (evening_done count first second third fourth fifth f s lent)
  unfolding evening_done
  evening_all count second third fourth fifth f =
      either P (names_settings count first second) (settled_all f) (does (words_of count first second third fourth fifth))

pub file_fits : (count : ℕ) (first second third fourth fifth : List ℕ) (f : Option (List ℕ)) (s : List ℕ) (lent : ℕ)
    → length (file_bytes (evening_done count first second third fourth fifth f s lent)) ≤ file_buffer
file_fits count first second third fourth fifth f s lent =
    evening_all (λ d. length (file_bytes d) ≤ file_buffer) first s lent (λ m. done-file-fits (form_of first) m s lent) (λ number place. omega arith) (omega arith)
    count second third fourth fifth f

pub text_fits : (count : ℕ) (first second third fourth fifth : List ℕ) (f : Option (List ℕ)) (s : List ℕ) (lent : ℕ)
    → length (text_bytes (evening_done count first second third fourth fifth f s lent)) ≤ text_buffer
text_fits count first second third fourth fifth f s lent =
    evening_all (λ d. length (text_bytes d) ≤ text_buffer) first s lent (λ m. done-text-fits (form_of first) m s lent) blamed_fits (omega arith)
    count second third fourth fifth f

-- ---- the inputs of `shrink`

pub settings_enough : (form : Form) (f : Option (List ℕ)) (s : List ℕ) (lent k : ℕ) → block_bytes < k → settled form (option_map (take k) f) s lent ≡ settled form f s lent
unfolding settled
settings_enough form (Some f) s lent k h = ap (if_kept form s lent) (outlives.front_enough newest k f h)
settings_enough form None s lent k h = refl

kept_enough : (form : Form) (o : Outcome) (s : List ℕ) (lent k : ℕ) → node_input_bytes ≤ k → if_kept form (take k s) lent o ≡ if_kept form s lent o
unfolding if_kept
kept_enough form (kept version x) s lent k h = front_is_enough form (meaning_of x) s k lent h
kept_enough form (refused number place) s lent k h = refl

pub front_enough : (form : Form) (f : Option (List ℕ)) (s : List ℕ) (lent k : ℕ) → node_input_bytes ≤ k → settled form f (take k s) lent ≡ settled form f s lent
unfolding settled
front_enough form (Some f) s lent k h = kept_enough form (read_by newest f) s lent k h
front_enough form None s lent k h = refl

-- ---- `settings`

-- The longest words of a cut, but for the digits of its number.
abbrev cut_words : ℕ
cut_words = length (bytes "suppress cases  as-is\n")

aim_length : (aim : Aim) → length (aim_text aim) ≤ length (bytes " cases ") + decimal_digits
unfolding aim_text
aim_length (nodes t) = simp length-append (omega (arith, decimal_length t))
aim_length (cases k) = simp length-append (omega (arith, decimal_length k))

cut_length : (keep as_is : Bool) (aim : Aim) → length (cut_text keep as_is aim) ≤ cut_words + decimal_digits
unfolding cut_text
cut_length true true aim = simp length-append (omega (arith, aim_length aim))
cut_length true false aim = simp length-append (omega (arith, aim_length aim))
cut_length false true aim = simp length-append (omega (arith, aim_length aim))
cut_length false false aim = simp length-append (omega (arith, aim_length aim))

version_length : (version : ℕ) → length (version_text version) ≤ length (bytes "version \n") + decimal_digits
unfolding version_text
version_length version = simp length-append (omega (arith, decimal_length version))

pub record Fits (d : Filed) : Type 0 where
  pub file_short : length d.file ≤ block_bytes
  pub text_short : length d.text ≤ text_buffer

shown_fits : (o : Outcome) → Fits (if_shown o)
unfolding if_shown meaning_of
shown_fits (kept version x) =
    record { file_short = omega (arith, cut_length (eqb x.direction 1) (eqb x.as_is 1) (aim_in x)); text_short = omega (arith, version_length version) }
shown_fits (refused number place) = record { file_short = omega arith; text_short = omega (arith, settings_refusal_length number place) }

stored_fits : (m : Meaning) → Fits (stored m)
unfolding stored
stored_fits help = record { file_short = omega arith; text_short = omega arith }
stored_fits unknown = record { file_short = omega arith; text_short = omega arith }
stored_fits which = record { file_short = omega arith; text_short = omega arith }
stored_fits (cut keep as_is aim) =
    record {
      file_short = omega (arith, block_length (version_of as_is) (setting_of keep as_is aim) (setting_whole keep as_is aim).count);
      text_short = omega (arith, cut_length keep as_is aim);
    }

pub filed_fits : (count : ℕ) (first second third fourth s : List ℕ) → Fits (filed count first second third fourth s)
unfolding filed
filed_fits count first second third fourth s = either Fits (is_show count first) (shown_fits (read_by newest s)) (stored_fits (request_of count first second third fourth))

pub block_enough : (count : ℕ) (first second third fourth s : List ℕ) (k : ℕ) → block_bytes < k → filed count first second third fourth (take k s) ≡ filed count first second third fourth s
unfolding filed
block_enough count first second third fourth s k h = rw (outlives.front_enough newest k s h) refl

-- ---- what stands in the buffers up to the ends is the whole of both answers

pub ends_whole : (count : ℕ) (first second third fourth fifth : List ℕ) (f : Option (List ℕ)) (s : List ℕ) {file left text text' : List ℕ} {end text-end : ℕ}
    → length file ≡ file_buffer → text_buffer ≤ length text → Shrinks (evening_done count first second third fourth fifth f s (length file)) file left text text' end text-end
    → (end ≡ length (file_bytes (evening_done count first second third fourth fifth f s file_buffer)))
    × (text-end ≡ length (text_bytes (evening_done count first second third fourth fifth f s file_buffer)))
ends_whole count first second third fourth fifth f s {file} {left} {text} {text'} {end} {text-end} lent roomy h =
    let d = evening_done count first second third fourth fifth f s file_buffer in
    let g : Shrinks d file left text text' end text-end = rw lent at h in
    let l : length (text_bytes d) ≤ length text = omega (arith, text_fits count first second third fourth fifth f s file_buffer) in
    let a = done-ends-whole d l g in
    (a.0, a.1)

pub filed_ends : (d : Filed) → Fits d → {file left text text' : List ℕ} {end text-end : ℕ} → block_bytes ≤ length file → text_buffer ≤ length text
    → Files d file left text text' end text-end → (end ≡ length d.file) × (text-end ≡ length d.text)
filed_ends d fit lent roomy h =
    (omega (arith, wrote_place h.filed_left (omega (arith, fit.file_short))), omega (arith, wrote_place h.text_said (omega (arith, fit.text_short))))
