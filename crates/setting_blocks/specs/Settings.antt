-- Evening settings: what is stored beside a condition, in a block of 512 bytes (document 02, E9; the layout is docs/SETTINGS.md's).
-- `s` is a list of bytes, `x` a setting, `reader` the newest version that a reader knows.
use Rattle.std.specs.Prelude.{Result, Ok, Err, ℕ, zero, suc, ◌+◌, ◌-◌, ◌*◌, ◌^◌, ◌≡◌, Bool, cond, not, ◌&&◌, List, [], ◌∷◌, ◌++◌, length, get_or, take, drop, replicate, leb, ltb, eqb}
use Rattle.naturals.specs.Natural.{value, limit}
use Rattle.blocks.specs.Block.{block_bytes, summed, four_bytes, four, total, sealed, sums_right}
use Rattle.diagram.specs.Refusal.{number_of}
use Rattle.diagram.specs.declared.verdict.Refused.{Refused}
use Rattle.setting_blocks.specs.declared.setting.Kept.{Kept}
use Rattle.setting_blocks.specs.declared.setting.Setting.{Setting}
use Rattle.setting_blocks.specs.declared.setting.SettingRead.{SettingRead}
use Rattle.setting_blocks.specs.declared.setting.SettingWritten.{SettingWritten}

-- ---- the layout: byte 0 is the version

abbrev pub direction_at : ℕ
direction_at = 1

abbrev pub kind_at : ℕ
kind_at = 2

abbrev pub flag_at : ℕ
flag_at = 3

-- the target: sixty-four bytes, sixteen words of four, the least first; what is behind it, up to the sums, is unused
abbrev pub target_at : ℕ
target_at = 4

abbrev pub target_words : ℕ
target_words = 16

abbrev pub fields_end : ℕ
fields_end = target_at + 4 * target_words

abbrev pub unused_bytes : ℕ
unused_bytes = summed - fields_end

-- the version that readers and writer know as the last
abbrev pub newest : ℕ
newest = 2

-- ---- which settings there are

unfoldable pub known : ℕ → ℕ → Bool
known reader version = ltb 0 version && leb version reader

-- how many values the flag has: version 1 has no flag, so it is off
unfoldable pub flag_span : ℕ → ℕ
flag_span version = cond (eqb version 1) 1 2

-- kind 0 is a size, of at most 32 bits; kind 1 a count, of at most the words that a count has
unfoldable pub fits : ℕ → ℕ → Bool
fits kind n = cond (eqb kind 0) (ltb n (2 ^ 32)) (ltb n limit)

unfoldable pub right : ℕ → Setting → Bool
right version x = ltb x.direction 2 && (ltb x.kind 2 && (ltb x.as_is (flag_span version) && fits x.kind (value x.target)))

-- ---- what is written

unfoldable pub words_bytes : List ℕ → List ℕ
words_bytes [] = []
words_bytes (a ∷ w) = four_bytes a ++ words_bytes w

unfoldable pub front : ℕ → Setting → List ℕ
front version x = version ∷ x.direction ∷ x.kind ∷ x.as_is ∷ words_bytes x.target ++ replicate unused_bytes 0

-- with the two sums of a block
unfoldable pub block_of : ℕ → Setting → List ℕ
block_of version x = sealed (front version x)

-- ---- what is read

abbrev pub version_in : List ℕ → ℕ
version_in s = get_or s 0 0

unfoldable pub words_at : List ℕ → ℕ → ℕ → List ℕ
words_at s at zero = []
words_at s at (suc k) = four s at ∷ words_at s (at + 4) k

-- in version 1 the flag is off, and its byte is unused
unfoldable pub flag_in : List ℕ → ℕ
flag_in s = cond (eqb (version_in s) 1) 0 (get_or s flag_at 0)

unfoldable pub setting_in : List ℕ → Setting
setting_in s = record { direction = get_or s direction_at 0; kind = get_or s kind_at 0; as_is = flag_in s; target = words_at s target_at target_words }

unfoldable pub unused_flag : List ℕ → ℕ
unused_flag s = cond (eqb (version_in s) 1) (get_or s flag_at 0) 0

unfoldable pub unused_in : List ℕ → List ℕ
unused_in s = unused_flag s ∷ take unused_bytes (drop fields_end s)

-- ---- the answers

-- a version and a setting, or refused with number and place
pub data Outcome : Type 0 where
  kept : ℕ → Setting → Outcome
  refused : ℕ → ℕ → Outcome

unfoldable pub row : ℕ → Bool → Outcome → Outcome
row number test below = cond test (refused number 0) below

-- what the readers answer
abbrev pub said : Result Kept Refused → Outcome
said (Ok k) = kept k.version k.setting
said (Err e) = refused (number_of e.reason) e.place

-- the tests of a reader in their order
unfoldable pub read_by : ℕ → List ℕ → Outcome
read_by reader s =
    row 21 (not (eqb (length s) block_bytes))
    (row 22 (not (sums_right s))
    (row 38 (not (known reader (version_in s)))
    (row 39 (not (right (version_in s) (setting_in s)))
    (row 24 (not (eqb (total (unused_in s)) 0))
    (kept (version_in s) (setting_in s))))))

-- the tests of the writer in their order; `lent` is the length of the output
unfoldable pub write_by : ℕ → Setting → ℕ → Outcome
write_by version x lent =
    row 38 (not (known newest version))
    (row 39 (not (right version x))
    (row 4 (ltb lent block_bytes)
    (kept version x)))

-- ---- the same as C has it: number 0 with what was read, or a refusal that shows nothing

abbrev pub blank : Setting
blank = record { direction = 0; kind = 0; as_is = 0; target = replicate target_words 0 }

abbrev pub shown : Outcome → SettingRead
shown (kept version x) = record { number = 0; place = 0; version = version; setting = x }
shown (refused number place) = record { number = number; place = place; version = 0; setting = blank }

abbrev pub told : Outcome → SettingWritten
told (kept version x) = record { number = 0; place = 0; bytes = block_bytes }
told (refused number place) = record { number = number; place = place; bytes = 0 }

-- the writer's answer, the bytes that it wrote, likewise
abbrev pub laid : Result ℕ Refused → SettingWritten
laid (Ok n) = record { number = 0; place = 0; bytes = n }
laid (Err e) = record { number = number_of e.reason; place = e.place; bytes = 0 }

-- the output after it: the block, and as it was beyond it; after a refusal as it was
abbrev pub left : Outcome → List ℕ → List ℕ
left (kept version x) out = block_of version x ++ drop block_bytes out
left (refused number place) out = out

pub record Writes (version : ℕ) (x : Setting) (before after : List ℕ) (r : SettingWritten) : Type 0 where
  pub answer : r ≡ told (write_by version x (length before))
  pub output : after ≡ left (write_by version x (length before)) before
