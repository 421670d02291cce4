-- Settings in the place of words, one law for each return of the code.
use Prim.Native.Nat.{ℕ, zero, suc, ◌+◌, ◌*◌, ◌<◌, ◌^◌}
use mathlib.Core.Path.{◌≡◌, refl, sym, ap, ◌∙◌}
use mathlib.Core.Bool.{Bool, true, false, cond, ◌&&◌}
use mathlib.Core.List.{List, [], ◌∷◌, ◌++◌}
use mathlib.Core.Logic.{◌≢◌}
use native.Mathlib.Omega.{arith}
use lib.ListN.{length, get_or}
use lib.Dec.{ltb, eqb}
use borrow.Author.Tests.{eq-eqb, ne_eqb, ltb-true}
use Rattle.naturals.specs.Natural.{value, Holds}
use Rattle.naturals.specs.Spelling.{words_of}
use Rattle.naturals.proofs.Spelling.{words_of_lem}
use Rattle.writing.specs.Writing.{bytes, Wrote}
use Rattle.forms.specs.declared.Form.{Form}
use Rattle.request.specs.Request.{Aim, nodes, cases, Meaning, cut, alike, form_of, words_of as meaningOfWords, aim_of}
use Rattle.request.specs.declared.Target.{Target}
use Rattle.shrinking.specs.Shrinking.{Done, done, told, looks, Shrinks}
use Rattle.setting_blocks.specs.Settings.{newest, target_words, fits, Outcome, kept, refused, read_by, said}
use Rattle.setting_blocks.specs.declared.setting.Setting.{Setting}
use Rattle.std.specs.Prelude.{Option, Some, None, Result, Ok, Err, is_ok}
use Rattle.diagram.specs.Refusal.{number_of as number_in}
use Rattle.diagram.specs.declared.verdict.Refused.{Refused}
use Rattle.setting_blocks.specs.declared.setting.Kept.{Kept}
use Rattle.setting_blocks.proofs.Testing.{is_read}
use Rattle.evening.proofs.Asking.{right_target}
use Rattle.evening.specs.Words.{kind_of, number_of, aim_in, meaning_of, setting_of, version_of}
use Rattle.evening.specs.Evening.{is_settings, names_settings, blamed_text, missing_text, if_kept, settled, evening_done, is_kept, settles, evening_looks}

-- ---- from a setting to a target, and back

-- A number that one word holds is that word.
least : (w : List ℕ) → value w < 2 ^ 32 → value w ≡ get_or w 0 0
unfolding value
least [] h = refl
least (a ∷ w) h = omega arith

-- The largest size fits one word.
one_word : (x : Setting) (n : ℕ) → x.kind ≡ 0 → fits x.kind n ≡ true → n < 2 ^ 32
unfolding fits
one_word x n e f = ltb-true n (2 ^ 32) (rw e at f)

module _ (x : Setting) where
  pub aims_cases : x.kind ≡ 1 → cases (value x.target) ≡ aim_in x
  unfolding aim_in
  aims_cases e = rw (eq-eqb x.kind 1 e) refl

  pub aims_nodes : x.kind < 2 → x.kind ≢ 1 → fits x.kind (value x.target) ≡ true → nodes (get_or x.target 0 0) ≡ aim_in x
  unfolding aim_in
  aims_nodes h n f =
      let none : x.kind ≡ 0 = omega arith in
      rw (ne_eqb x.kind 1 n) (ap nodes (sym (least x.target (one_word x (value x.target) none f))))

  pub asks : {a : Aim} → a ≡ aim_in x → cut (eqb x.direction 1) (eqb x.as_is 1) a ≡ meaning_of x
  unfolding meaning_of
  asks e = ap (cut (eqb x.direction 1) (eqb x.as_is 1)) e

pub number_counted : {w : List ℕ} → Holds (value w) w → w ≡ words_of target_words (value w)
number_counted {w} h = sym (words_of_lem target_words w h.count h.small)

pub number_sized : {n : ℕ} {w : List ℕ} → Holds n w → w ≡ words_of target_words n
number_sized {n} {w} h = rw (sym h.worth) (sym (words_of_lem target_words w h.count h.small))

module _ (t : Target) where
  pub setting_is : {d k f : ℕ} {w : List ℕ} → d ≡ cond t.keep 1 0 → k ≡ kind_of (aim_of t) → f ≡ cond t.as_is 1 0 → w ≡ words_of target_words (number_of (aim_of t))
      → record { direction = d; kind = k; as_is = f; target = w } ≡ setting_of t.keep t.as_is (aim_of t)
  unfolding setting_of
  setting_is a b c d = rw (a, b, c, d)

pub version_two : (as-is : Bool) → as-is ≡ true → 2 ≡ version_of as-is
unfolding version_of
version_two as-is e = rw e

pub version_one : (as-is : Bool) → as-is ≡ false → 1 ≡ version_of as-is
unfolding version_of
version_one as-is e = rw e

-- ---- which words name a settings file

pub not_due : (count due : ℕ) (b : Bool) → count ≢ due → false ≡ (eqb count due && b)
not_due count due b h = simp (ne_eqb count due h)

pub when_due : (count due : ℕ) (b : Bool) → count ≡ due → b ≡ (eqb count due && b)
when_due count due b h = simp (eq-eqb count due h)

module _ (count : ℕ) (first second : List ℕ) {nodes-first : Bool} (e : nodes-first ≡ alike first (bytes "nodes")) where
  pub names_behind : {r : Bool} → nodes-first ≡ true → r ≡ (eqb count 3 && is_settings second) → r ≡ names_settings count first second
  unfolding names_settings
  names_behind h a = rw (sym e ∙ h) a

  pub names_plain : {r : Bool} → nodes-first ≡ false → r ≡ (eqb count 2 && is_settings first) → r ≡ names_settings count first second
  unfolding names_settings
  names_plain h a = rw (sym e ∙ h) a

-- ---- what was read

module _ (f : List ℕ) (version : ℕ) (x : Setting) (e : kept version x ≡ read_by newest f) where
  pub may_aim : (x.kind < 2) × (fits x.kind (value x.target) ≡ true)
  may_aim = right_target version x (is_read newest version x f (sym e)).in_range

pub is_kept_lem : (f : List ℕ) (r : Result Kept Refused) → said r ≡ read_by newest f → is_ok r ≡ is_kept (read_by newest f)
is_kept_lem f (Ok k) e = rw (sym e) refl
is_kept_lem f (Err x) e = rw (sym e) refl

-- ---- what is done

pub blamed : (form : Form) (s f : List ℕ) (x : Refused) {file text text' : List ℕ} {end text-end : ℕ} → said (Err x) ≡ read_by newest f
    → (end ≡ 0) × Wrote (blamed_text (number_in x.reason) x.place) text 0 text' text-end → Shrinks (if_kept form s (length file) (read_by newest f)) file file text text' end text-end
unfolding if_kept
blamed form s f x e t = rw (sym e) (record { stored = refl; stored_end = t.0; told = t.1 })

module _ (form : Form) (s : List ℕ) {file text text' : List ℕ} {end text-end : ℕ} where
  pub obeyed : (f : List ℕ) {file' : List ℕ} {version : ℕ} {x : Setting} {m : Meaning} → kept version x ≡ read_by newest f → m ≡ meaning_of x
      → Shrinks (done form m s (length file)) file file' text text' end text-end → Shrinks (if_kept form s (length file) (read_by newest f)) file file' text text' end text-end
  unfolding if_kept
  obeyed f e g d = rw (sym e, sym g) d

  pub does_stored : {file' : List ℕ} {r : Option (List ℕ)} {f : List ℕ} → r ≡ Some f → Shrinks (if_kept form s (length file) (read_by newest f)) file file' text text' end text-end
      → Shrinks (settled form r s (length file)) file file' text text' end text-end
  unfolding settled
  does_stored e d = rw e d

  pub missed : {r : Option (List ℕ)} → r ≡ None → (end ≡ 0) × Wrote missing_text text 0 text' text-end → Shrinks (settled form r s (length file)) file file text text' end text-end
  unfolding settled
  missed e t = rw e (record { stored = refl; stored_end = t.0; told = t.1 })

module _ (count : ℕ) (first second third fourth fifth : List ℕ) (f : Option (List ℕ)) {named : Bool} (e : named ≡ names_settings count first second) where
  pub looks_settled : {r : Bool} → named ≡ true → r ≡ settles f → r ≡ evening_looks count first second third fourth fifth f
  unfolding evening_looks
  looks_settled h a = rw (sym e ∙ h) a

  pub looks_asked : {r : Bool} → named ≡ false → r ≡ looks (meaningOfWords count first second third fourth fifth) → r ≡ evening_looks count first second third fourth fifth f
  unfolding evening_looks
  looks_asked h a = rw (sym e ∙ h) a

  module _ (s : List ℕ) {file file' text text' : List ℕ} {end text-end : ℕ} where
    pub does_settled : {form : Form} → named ≡ true → form ≡ form_of first → Shrinks (settled form f s (length file)) file file' text text' end text-end
        → Shrinks (evening_done count first second third fourth fifth f s (length file)) file file' text text' end text-end
    unfolding evening_done
    does_settled h g d = rw (sym e ∙ h, sym g) d

    pub does_asked : named ≡ false → Shrinks (done (form_of first) (meaningOfWords count first second third fourth fifth) s (length file)) file file' text text' end text-end
        → Shrinks (evening_done count first second third fourth fifth f s (length file)) file file' text text' end text-end
    unfolding evening_done
    does_asked h d = rw (sym e ∙ h) d
