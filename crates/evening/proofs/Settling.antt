-- A stored setting does what words do, and only a setting that is read does anything.
use Prim.Native.Nat.{ℕ, zero, suc, ◌*◌, ◌/◌, ◌≤◌, ◌<◌, ◌^◌}
use mathlib.Core.Path.{◌≡◌, refl, sym, ap, ◌∙◌}
use mathlib.Core.Bool.{Bool, true, false, cond, ◌&&◌, true≢false}
use mathlib.Core.List.{List, []}
use mathlib.Core.Logic.{◌⊎◌}
use native.Mathlib.Nat.{lt_of_lt_of_le}
use native.Mathlib.Omega.{arith}
use Rattle.std.specs.Prelude.{Option, Some, None}
use lib.ListN.{get_or}
use lib.Pow.{pow_mono}
use lib.Dec.{ltb, eqb}
use borrow.Author.Tests.{ltb-true, eq-eqb, ne_eqb}
use Rattle.naturals.specs.Natural.{value, word_count, limit, limit_in}
use Rattle.naturals.specs.Spelling.{words_of}
use Rattle.naturals.proofs.Spelling.{words_length, words_value}
use Rattle.diagram.proofs.Tests.{by-eq, both_and}
use Rattle.diagram.specs.Limits.{max_words}
use Rattle.approximation.specs.Cut.{Under, Over}
use Rattle.blocks.specs.Block.{block_bytes, nodes as stored-nodes}
use Rattle.forms.specs.Form.{write_as, file_as}
use Rattle.forms.specs.declared.Form.{Form}
use Rattle.report.specs.Report.{room_lent}
use Rattle.request.specs.Request.{Aim, nodes, cases, Meaning, help, unknown, which, cut}
use Rattle.shrinking.specs.Shrinking.{looks, done, file_bytes, file_buffer}
use Rattle.shrinking.specs.Supervised.{ReadsAs}
use Rattle.shrinking.proofs.Wanting.{keep_over, suppress_under, answer_accepted}
use Rattle.shrinking.proofs.Supervising.{file_reads}
use Rattle.setting_blocks.specs.Settings.{target_words, newest, known, flag_span, fits, right, Outcome, kept, refused, read_by, block_of}
use Rattle.setting_blocks.specs.Outlives.{Whole}
use Rattle.setting_blocks.specs.declared.setting.Setting.{Setting}
use Rattle.setting_blocks.proofs.Testing.{Storable, stores}
use Rattle.setting_blocks.proofs.Promised.{outlives}
use Rattle.evening.specs.Words.{aim_in, meaning_of, bit, kind_of, number_of, setting_of, version_of}
use Rattle.evening.specs.Evening.{if_kept, settled, is_kept, settles}
use Rattle.evening.specs.Storing.{stored}
use Rattle.evening.proofs.Asking.{storable, holdable}

-- ---- the setting that is stored for words

words_small : (k n i : ℕ) → get_or (words_of k n) i 0 < 2 ^ 32
unfolding words_of
words_small zero n i = omega arith
words_small (suc k) n zero = omega arith
words_small (suc k) n (suc i) = words_small k (n / 2 ^ 32) i

-- A size too is below the bound of counts.
fits_limit : (kind n : ℕ) → fits kind n ≡ true → n < limit
unfolding fits limit_in
fits_limit kind n h =
    by-eq kind 0
    (λ e. lt_of_lt_of_le (ltb-true n (2 ^ 32) (rw (eq-eqb kind 0 e) at h)) (pow_mono {i = 32} {j = 32 * word_count} (omega arith)))
    (λ ne. ltb-true n limit (rw (ne_eqb kind 0 ne) at h))

pub setting_whole : (keep as_is : Bool) (aim : Aim) → Whole (setting_of keep as_is aim)
unfolding setting_of
setting_whole keep as_is aim = record { count = words_length target_words (number_of aim); small = words_small target_words (number_of aim) }

bit_low : (b : Bool) → ltb (bit b) 2 ≡ true
bit_low true = refl
bit_low false = refl

bit_back : (b : Bool) → eqb (bit b) 1 ≡ b
bit_back true = refl
bit_back false = refl

kind_low : (aim : Aim) → ltb (kind_of aim) 2 ≡ true
kind_low (nodes t) = refl
kind_low (cases k) = refl

kind_back : (aim : Aim) → cond (eqb (kind_of aim) 1) (cases (number_of aim)) (nodes (number_of aim)) ≡ aim
kind_back (nodes t) = refl
kind_back (cases k) = refl

-- The version has the flag, and is known.
flag_low : (as_is : Bool) → ltb (bit as_is) (flag_span (version_of as_is)) ≡ true
unfolding flag_span version_of
flag_low true = refl
flag_low false = refl

pub version_known : (as_is : Bool) → known newest (version_of as_is) ≡ true
unfolding known version_of
version_known true = refl
version_known false = refl

version_most : (as_is : Bool) → version_of as_is ≤ newest
unfolding version_of
version_most true = omega arith
version_most false = omega arith

module _ (keep as_is : Bool) (aim : Aim) (h : storable aim ≡ true) where
  number_back : value (words_of target_words (number_of aim)) ≡ number_of aim
  unfolding limit_in
  number_back = words_value target_words (number_of aim) (fits_limit (kind_of aim) (number_of aim) h)

  pub setting_right : right (version_of as_is) (setting_of keep as_is aim) ≡ true
  unfolding right setting_of
  setting_right = both_and _ _ (bit_low keep) (both_and _ _ (kind_low aim) (both_and _ _ (flag_low as_is) (rw number_back h)))

  block_back : read_by newest (block_of (version_of as_is) (setting_of keep as_is aim)) ≡ kept (version_of as_is) (setting_of keep as_is aim)
  block_back =
      let p : Storable (version_of as_is) (setting_of keep as_is aim) = record { known_version = version_known as_is; in_range = setting_right } in
      outlives.written_reads (version_of as_is) newest block_bytes (setting_of keep as_is aim) (setting_whole keep as_is aim) (version_most as_is) (stores block_bytes p (omega arith))

  meaning_back : meaning_of (setting_of keep as_is aim) ≡ cut keep as_is aim
  unfolding meaning_of aim_in setting_of
  meaning_back = rw (bit_back keep, bit_back as_is, number_back, kind_back aim)

-- ---- what a setting does that is read

settled_kept : (form : Form) (f : List ℕ) (version : ℕ) (x : Setting) (s : List ℕ) (lent : ℕ) → read_by newest f ≡ kept version x
    → settled form (Some f) s lent ≡ done form (meaning_of x) s lent
unfolding settled if_kept
settled_kept form f version x s lent e = ap (if_kept form s lent) e

pub settled_stored : (form : Form) (m : Meaning) (s : List ℕ) (lent : ℕ) → holdable m ≡ true → looks m ≡ true → settled form (Some (stored m).file) s lent ≡ done form m s lent
unfolding stored
settled_stored form help s lent h l = absurd (true≢false (sym l))
settled_stored form unknown s lent h l = absurd (true≢false (sym l))
settled_stored form which s lent h l = absurd (true≢false (sym l))
settled_stored form (cut keep as_is aim) s lent h l =
    settled_kept form (block_of (version_of as_is) (setting_of keep as_is aim)) (version_of as_is) (setting_of keep as_is aim) s lent (block_back keep as_is aim h)
    ∙ ap (λ (m : Meaning). done form m s lent) (meaning_back keep as_is aim h)

-- ---- a setting that is read, with the file of w as the input

module _ (form : Form) (w f : List ℕ) (version lent n : ℕ) (x : Setting) (small : (k : ℕ) → get_or w k 0 < 2 ^ 32) (e : write_as form w lent ≡ stored-nodes n)
    (r : read_by newest f ≡ kept version x) where
  abbrev as_is : Bool
  as_is = eqb x.as_is 1

  settled_cut : (keep : Bool) → eqb x.direction 1 ≡ keep → settled form (Some f) (file_as form w) file_buffer ≡ done form (cut keep as_is (aim_in x)) (file_as form w) file_buffer
  unfolding meaning_of
  settled_cut keep d =
      settled_kept form f version x (file_as form w) file_buffer r ∙ ap (λ (k : Bool). done form (cut k as_is (aim_in x)) (file_as form w) file_buffer) d

  pub settled_keeps : x.direction ≡ 1
      → (file_bytes (settled form (Some f) (file_as form w) file_buffer) ≡ []) ⊎ ReadsAs form (Over w) (file_bytes (settled form (Some f) (file_as form w) file_buffer))
  settled_keeps d =
      rw (settled_cut true (eq-eqb x.direction 1 d))
      (file_reads form w lent n small e (Over w) true as_is (aim_in x)
      (λ m v g. (keep_over as_is w room_lent max_words (aim_in x) g, answer_accepted as_is w room_lent max_words true (aim_in x) g)))

  pub settled_suppresses : x.direction ≡ 0
      → (file_bytes (settled form (Some f) (file_as form w) file_buffer) ≡ []) ⊎ ReadsAs form (Under w) (file_bytes (settled form (Some f) (file_as form w) file_buffer))
  settled_suppresses d =
      rw (settled_cut false (ne_eqb x.direction 1 (omega arith)))
      (file_reads form w lent n small e (Under w) false as_is (aim_in x)
      (λ m v g. (suppress_under as_is w room_lent max_words (aim_in x) g, answer_accepted as_is w room_lent max_words false (aim_in x) g)))

-- ---- no setting that is read

module _ (form : Form) (lent : ℕ) where
  no_file_of : (o : Outcome) (s : List ℕ) → is_kept o ≡ false → file_bytes (if_kept form s lent o) ≡ []
  unfolding if_kept
  no_file_of (kept version x) s h = absurd (true≢false h)
  no_file_of (refused number place) s h = refl

  no_input_of : (o : Outcome) (s t : List ℕ) → is_kept o ≡ false → if_kept form s lent o ≡ if_kept form t lent o
  unfolding if_kept
  no_input_of (kept version x) s t h = absurd (true≢false h)
  no_input_of (refused number place) s t h = refl

pub no_file : (form : Form) (f : Option (List ℕ)) (s : List ℕ) (lent : ℕ) → settles f ≡ false → file_bytes (settled form f s lent) ≡ []
unfolding settled
no_file form (Some f) s lent h = no_file_of form lent (read_by newest f) s h
no_file form None s lent h = refl

pub no_input : (form : Form) (f : Option (List ℕ)) (s t : List ℕ) (lent : ℕ) → settles f ≡ false → settled form f s lent ≡ settled form f t lent
unfolding settled
no_input form (Some f) s t lent h = no_input_of form lent (read_by newest f) s t h
no_input form None s t lent h = refl
