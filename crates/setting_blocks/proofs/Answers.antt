-- What the readers and the writer answer and leave, row by row.
use Prim.Native.Nat.{ℕ, ◌+◌, ◌≤◌, ◌<◌}
use mathlib.Core.Path.{◌≡◌, sym, ap}
use mathlib.Core.Bool.{true, false}
use mathlib.Core.List.{List}
use mathlib.Core.Logic.{◌≢◌}
use native.Mathlib.Omega.{arith}
use lib.ListN.{length, take, drop, get_or}
use lib.Dec.{eqb}
use borrow.Author.Tests.{lt-ltb, le-ltb, eq-eqb, ne_eqb}
use Rattle.writing.specs.Writing.{Wrote}
use Rattle.writing.proofs.Laws.{wrote_fits}
use Rattle.blocks.specs.Block.{block_bytes, total, sealed, sums_right}
use Rattle.setting_blocks.specs.Settings.{direction_at, kind_at, flag_at, target_at, target_words, fields_end, unused_bytes, newest, known, right, front, block_of, version_in, words_at, flag_in, setting_in, unused_flag, unused_in, kept, refused, row, read_by, write_by, told, Writes}
use Rattle.setting_blocks.specs.declared.setting.Setting.{Setting}
use Rattle.setting_blocks.specs.declared.setting.SettingWritten.{SettingWritten}
use Rattle.setting_blocks.proofs.Fields.{block_length}

-- ---- the fields of a block

module _ (s : List ℕ) where
  pub flag_none : version_in s ≡ 1 → 0 ≡ flag_in s
  unfolding flag_in
  flag_none h = rw (eq-eqb (version_in s) 1 h)

  pub flag_there : version_in s ≢ 1 → get_or s flag_at 0 ≡ flag_in s
  unfolding flag_in
  flag_there h = rw (ne_eqb (version_in s) 1 h)

  pub byte_unused : version_in s ≡ 1 → get_or s flag_at 0 ≡ unused_flag s
  unfolding unused_flag
  byte_unused h = rw (eq-eqb (version_in s) 1 h)

  pub byte_used : version_in s ≢ 1 → 0 ≡ unused_flag s
  unfolding unused_flag
  byte_used h = rw (ne_eqb (version_in s) 1 h)

  pub setting_is : {flag : ℕ} {target : List ℕ} → flag ≡ flag_in s → target ≡ words_at s target_at target_words
      → record { direction = get_or s direction_at 0; kind = get_or s kind_at 0; as_is = flag; target = target } ≡ setting_in s
  unfolding setting_in
  setting_is e f = rw (e, f)

  module _ {flag : ℕ} (e : flag ≡ unused_flag s) where
    pub unused_flagged : flag ≢ 0 → false ≡ eqb (total (unused_in s)) 0
    unfolding unused_in total
    unused_flagged h = sym (ne_eqb (total (unused_in s)) 0 (λ z. h (omega arith)))

    pub unused_sum : {sum : ℕ} → flag ≡ 0 → sum ≡ total (take unused_bytes (drop fields_end s)) → eqb sum 0 ≡ eqb (total (unused_in s)) 0
    unfolding unused_in total
    unused_sum {sum} h f =
        let g : sum ≡ unused_flag s + total (take unused_bytes (drop fields_end s)) = omega arith in
        ap (λ (n : ℕ). eqb n 0) g

-- ---- the readers, behind `refused_38` of Testing.antt

module _ (reader : ℕ) (s : List ℕ) where
  module _ (whole : length s ≡ block_bytes) where
    module _ (sums : sums_right s ≡ true) where
      module _ (version : known reader (version_in s) ≡ true) where
        pub read_39 : right (version_in s) (setting_in s) ≡ false → refused 39 0 ≡ read_by reader s
        unfolding read_by row
        read_39 h = simp (eq-eqb (length s) block_bytes whole, sums, version, h)

        module _ (ranges : right (version_in s) (setting_in s) ≡ true) where
          pub read_24 : eqb (total (unused_in s)) 0 ≡ false → refused 24 0 ≡ read_by reader s
          unfolding read_by row
          read_24 h = simp (eq-eqb (length s) block_bytes whole, sums, version, ranges, h)

          pub read_kept : eqb (total (unused_in s)) 0 ≡ true → kept (version_in s) (setting_in s) ≡ read_by reader s
          unfolding read_by row
          read_kept h = simp (eq-eqb (length s) block_bytes whole, sums, version, ranges, h)

-- ---- the writer

module _ (version : ℕ) (x : Setting) (before : List ℕ) where
  -- a refusal leaves the output as it was
  writes_refused : {r : SettingWritten} {number : ℕ} → write_by version x (length before) ≡ refused number 0 → r ≡ told (refused number 0) → Writes version x before before r
  writes_refused e f = record { answer = rw e f; output = rw e }

  module _ {r : SettingWritten} where
    pub writes_38 : known newest version ≡ false → r ≡ told (refused 38 0) → Writes version x before before r
    unfolding write_by row
    writes_38 h e = writes_refused (simp h) e

    module _ (version_known : known newest version ≡ true) where
      pub writes_39 : right version x ≡ false → r ≡ told (refused 39 0) → Writes version x before before r
      unfolding write_by row
      writes_39 h e = writes_refused (simp (version_known, h)) e

      module _ (ranges : right version x ≡ true) where
        pub writes_4 : length before < block_bytes → r ≡ told (refused 4 0) → Writes version x before before r
        unfolding write_by row
        writes_4 h e = writes_refused (simp (version_known, ranges, lt-ltb (length before) block_bytes h)) e

        pub writes_kept : {part after : List ℕ} {place : ℕ} → block_bytes ≤ length before → length x.target ≡ target_words → part ≡ front version x
            → Wrote (sealed part) before 0 after place → r ≡ told (kept version x) → Writes version x before after r
        unfolding write_by row block_of
        writes_kept {part} {after} {place} h l e w f =
            let k : write_by version x (length before) ≡ kept version x = simp (version_known, ranges, le-ltb (length before) block_bytes h) in
            let w' : Wrote (sealed (front version x)) before 0 after place = rw e at w in
            let n : length (sealed (front version x)) ≡ block_bytes = block_length version x l in
            record { answer = rw k f; output = rw k (rw n at (wrote_fits w' (omega arith))) }
