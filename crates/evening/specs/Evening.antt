-- `shrink_stored settings FILE`: `f` is the bytes of that file, where it could be read, `s` the bytes of standard input.
use Rattle.std.specs.Prelude.{Option, Some, None, ℕ, Bool, true, false, cond, ◌&&◌, List, ◌++◌, eqb}
use Rattle.writing.specs.Writing.{bytes}
use Rattle.forms.specs.declared.Form.{Form}
use Rattle.request.specs.Request.{alike, is_nodes, form_of, words_of}
use Rattle.messages.specs.Texts.{settings_refusal_text}
use Rattle.shrinking.specs.Shrinking.{Done, told, done, looks}
use Rattle.setting_blocks.specs.Settings.{Outcome, kept, refused, read_by, newest}
use Rattle.evening.specs.Words.{meaning_of}

-- The words that name a settings file: `settings FILE`, and the same behind `nodes`.
abbrev pub is_settings : List ℕ → Bool
is_settings word = alike word (bytes "settings")

unfoldable pub names_settings : ℕ → List ℕ → List ℕ → Bool
names_settings count first second = cond (is_nodes first) (eqb count 3 && is_settings second) (eqb count 2 && is_settings first)

-- `settings file: refused 22 at 0: a check sum is wrong`
unfoldable pub blamed_text : ℕ → ℕ → List ℕ
blamed_text number place = bytes "settings file: " ++ settings_refusal_text number place

abbrev pub missing_text : List ℕ
missing_text = bytes "settings file: can't be opened\n"

-- What a stored setting does is what the words would have done.
unfoldable pub if_kept : Form → List ℕ → ℕ → Outcome → Done
if_kept form s lent (kept version x) = done form (meaning_of x) s lent
if_kept form s lent (refused number place) = told (blamed_text number place)

unfoldable pub settled : Form → Option (List ℕ) → List ℕ → ℕ → Done
settled form None s lent = told missing_text
settled form (Some f) s lent = if_kept form s lent (read_by newest f)

-- All words of `shrink_stored`.
unfoldable pub evening_done : ℕ → List ℕ → List ℕ → List ℕ → List ℕ → List ℕ → Option (List ℕ) → List ℕ → ℕ → Done
evening_done count first second third fourth fifth f s lent =
    cond (names_settings count first second)
    (settled (form_of first) f s lent)
    (done (form_of first) (words_of count first second third fourth fifth) s lent)

-- Whether the input is looked at: for a cut, by words or by a setting that is read.
abbrev pub is_kept : Outcome → Bool
is_kept (kept version x) = true
is_kept (refused number place) = false

abbrev pub settles : Option (List ℕ) → Bool
settles None = false
settles (Some f) = is_kept (read_by newest f)

unfoldable pub evening_looks : ℕ → List ℕ → List ℕ → List ℕ → List ℕ → List ℕ → Option (List ℕ) → Bool
evening_looks count first second third fourth fifth f =
    cond (names_settings count first second) (settles f) (looks (words_of count first second third fourth fifth))
