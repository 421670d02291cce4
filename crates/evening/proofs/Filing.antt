-- A setting stored, and a block shown.
use Prim.Native.Nat.{ℕ, ◌<◌, ◌^◌}
use mathlib.Core.Path.{◌≡◌, refl, sym, ◌∙◌}
use mathlib.Core.Bool.{Bool, true, false}
use mathlib.Core.List.{List, append-nil}
use mathlib.Core.Logic.{◌≢◌}
use native.Mathlib.Omega.{arith}
use lib.ListN.{length, drop_of_length-le}
use Rattle.diagram.proofs.Tests.{by_test}
use Rattle.naturals.specs.Natural.{value}
use Rattle.naturals.proofs.Machine.{Typed}
use Rattle.naturals.proofs.Answer.{holds_typed, holds_less}
use Rattle.writing.specs.Writing.{Wrote}
use Rattle.writing.proofs.Laws.{wrote_none}
use Rattle.blocks.specs.Block.{block_bytes}
use Rattle.request.specs.Request.{Aim, Meaning, help, unknown, which, cut, request_of, aim_of}
use Rattle.request.specs.declared.Target.{Target}
use Rattle.messages.specs.Texts.{settings_refusal_text}
use Rattle.setting_blocks.specs.Settings.{target_words, newest, block_of, kept, read_by, said, Writes}
use Rattle.setting_blocks.specs.declared.setting.Setting.{Setting}
use Rattle.std.specs.Prelude.{Err}
use Rattle.diagram.specs.Refusal.{number_of as number_in}
use Rattle.diagram.specs.declared.verdict.Refused.{Refused}
use Rattle.setting_blocks.specs.declared.setting.SettingWritten.{SettingWritten}
use Rattle.setting_blocks.proofs.Testing.{Storable, stores}
use Rattle.evening.proofs.Asking.{storable, size_storable, count_storable}
use Rattle.evening.proofs.Settling.{version_known, setting_right}
use Rattle.evening.specs.Words.{meaning_of, setting_of, version_of}
use Rattle.evening.specs.Storing.{cut_text, version_text, help_text, unknown_text, which_text, saying, if_shown, stored, is_show, filed, Files}

-- ---- a block shown

-- A text, and nothing of a file.
says : (t file text text' : List ℕ) {end text-end : ℕ} → (end ≡ 0) × Wrote t text 0 text' text-end → Files (saying t) file file text text' end text-end
says t file text text' w = record { filed_left = rw w.0 (wrote_none file 0); text_said = w.1 }

module _ (f : List ℕ) {file text text' : List ℕ} {text-end : ℕ} where
  pub shows_refused : (x : Refused) → said (Err x) ≡ read_by newest f → Wrote (settings_refusal_text (number_in x.reason) x.place) text 0 text' text-end
      → Files (if_shown (read_by newest f)) file file text text' 0 text-end
  unfolding if_shown
  shows_refused x e w = rw (sym e) (says _ file text text' (refl, w))

  pub shows_kept : {version : ℕ} {x : Setting} → kept version x ≡ read_by newest f → {keep as_is : Bool} {aim : Aim} {file' : List ℕ} {end : ℕ} → cut keep as_is aim ≡ meaning_of x
      → Wrote (cut_text keep as_is aim) file 0 file' end → Wrote (version_text version) text 0 text' text-end
      → Files (if_shown (read_by newest f)) file file' text text' end text-end
  unfolding if_shown
  shows_kept e a w v = rw (sym e) (record { filed_left = rw (sym a) w; text_said = v })

-- ---- a setting stored

module _ (target : Target) (target_storable : storable (aim_of target) ≡ true) where
  may_store : Storable (version_of target.as_is) (setting_of target.keep target.as_is (aim_of target))
  may_store = record { known_version = version_known target.as_is; in_range = setting_right target.keep target.as_is (aim_of target) target_storable }

  module _ {version : ℕ} {x : Setting} (v : version ≡ version_of target.as_is) (s : x ≡ setting_of target.keep target.as_is (aim_of target))
      {before after : List ℕ} {r : SettingWritten} (long : length before ≡ block_bytes) (w : Writes version x before after r) where
    -- The block takes all of the room.
    block_is : after ≡ block_of (version_of target.as_is) (setting_of target.keep target.as_is (aim_of target))
    block_is =
        let w' : Writes (version_of target.as_is) (setting_of target.keep target.as_is (aim_of target)) before after r = rw (v, s) at w in
        let o = rw (stores (length before) may_store (omega arith)) at w'.output in
        o ∙ rw (drop_of_length-le before {i = block_bytes} (omega arith)) (append-nil _)

    pub stores_cut : {file file' text text' : List ℕ} {end text-end : ℕ} → Wrote after file 0 file' end
        → Wrote (cut_text target.keep target.as_is (aim_of target)) text 0 text' text-end
        → Files (stored (cut target.keep target.as_is (aim_of target))) file file' text text' end text-end
    unfolding stored
    stores_cut f t = record { filed_left = rw block_is at f; text_said = t }

-- ---- what the words mean

module _ (file text text' : List ℕ) {end text-end : ℕ} {m : Meaning} where
  pub says_help : m ≡ help → (end ≡ 0) × Wrote help_text text 0 text' text-end → Files (stored m) file file text text' end text-end
  unfolding stored
  says_help e w = rw e (says _ file text text' w)

  pub says_unknown : m ≡ unknown → (end ≡ 0) × Wrote unknown_text text 0 text' text-end → Files (stored m) file file text text' end text-end
  unfolding stored
  says_unknown e w = rw e (says _ file text text' w)

  pub says_which : m ≡ which → (end ≡ 0) × Wrote which_text text 0 text' text-end → Files (stored m) file file text text' end text-end
  unfolding stored
  says_which e w = rw e (says _ file text text' w)

pub stored_as : {m k : Meaning} {file file' text text' : List ℕ} {end text-end : ℕ} → m ≡ k → Files (stored k) file file' text text' end text-end
    → Files (stored m) file file' text text' end text-end
stored_as e w = rw e w

-- ---- all words

module _ (count : ℕ) (a b c d s : List ℕ) {t : Bool} (e : t ≡ is_show count a) {file file' text text' : List ℕ} {end text-end : ℕ} where
  pub files_shown : t ≡ true → Files (if_shown (read_by newest s)) file file' text text' end text-end → Files (filed count a b c d s) file file' text text' end text-end
  unfolding filed
  files_shown h w = rw (sym e, h) w

  pub files_stored : t ≡ false → Files (stored (request_of count a b c d)) file file' text text' end text-end → Files (filed count a b c d s) file file' text text' end text-end
  unfolding filed
  files_stored h w = rw (sym e, h) w
