-- The tests of versions and fields, one lemma for each return of the code.
use Prim.Native.Nat.{ℕ, suc, ◌≤◌, ◌<◌, ◌^◌}
use mathlib.Core.Path.{◌≡◌, sym, ◌∙◌}
use mathlib.Core.Bool.{Bool, true, false, cond, ◌&&◌}
use mathlib.Core.Logic.{◌≢◌}
use native.Mathlib.Omega.{arith}
use lib.Dec.{leb, ltb, eqb, leb-suc-suc}
use borrow.Author.Tests.{lt-ltb, le-ltb, eq-eqb, ne_eqb, leb-true, ltb-true}
use Rattle.diagram.proofs.Tests.{and_both}
use Rattle.naturals.specs.Natural.{value, limit}
use Rattle.writing.proofs.Laws.{by_le}
use Rattle.blocks.specs.Block.{byte_span}
use Rattle.setting_blocks.specs.Settings.{known, flag_span, fits, right}
use Rattle.setting_blocks.specs.declared.setting.Setting.{Setting}

-- ---- the version

module _ (reader version : ℕ) where
  pub known_none : version ≡ 0 → false ≡ known reader version
  unfolding known
  known_none h = simp (le-ltb 0 version (omega arith))

  pub known_some : version ≢ 0 → leb version reader ≡ known reader version
  unfolding known
  known_some h = simp (lt-ltb 0 version (omega arith))

  pub known_most : known reader version ≡ true → version ≤ reader
  unfolding known
  known_most e = leb-true version reader (and_both (ltb 0 version) (leb version reader) e).1

-- ---- the flag

only_zero : (n : ℕ) → eqb n 0 ≡ ltb n 1
only_zero n = by_le n 0 (λ h. eq-eqb n 0 (omega arith) ∙ sym (lt-ltb n 1 (omega arith))) (λ h. ne_eqb n 0 (omega arith) ∙ sym (le-ltb n 1 (omega arith)))

module _ (version flag : ℕ) where
  pub flag_first : version ≡ 1 → eqb flag 0 ≡ ltb flag (flag_span version)
  unfolding flag_span
  flag_first h = rw (eq-eqb version 1 h) (only_zero flag)

  pub flag_later : version ≢ 1 → leb flag 1 ≡ ltb flag (flag_span version)
  unfolding flag_span
  flag_later h = rw (ne_eqb version 1 h) (sym (leb-suc-suc flag 1))

-- ---- the target

module _ (kind n : ℕ) where
  pub fits_count : kind ≢ 0 → n < limit → true ≡ fits kind n
  unfolding fits
  fits_count h l = rw (ne_eqb kind 0 h) (sym (lt-ltb n limit l))

  -- `most` is the largest size
  pub fits_size : (most : ℕ) → kind ≡ 0 → suc most ≡ 2 ^ 32 → leb n most ≡ fits kind n
  unfolding fits
  fits_size most h e = rw (eq-eqb kind 0 h, ← e) (sym (leb-suc-suc n most))

-- ---- a setting

module _ (version : ℕ) (x : Setting) where
  pub right_direction : 1 < x.direction → false ≡ right version x
  unfolding right
  right_direction h = simp (le-ltb x.direction 2 h)

  module _ (direction : x.direction ≤ 1) where
    pub right_kind : 1 < x.kind → false ≡ right version x
    unfolding right
    right_kind h = simp (lt-ltb x.direction 2 (omega arith), le-ltb x.kind 2 h)

    module _ (kind : x.kind ≤ 1) {t : Bool} (flag : t ≡ ltb x.as_is (flag_span version)) where
      pub right_flag : t ≡ false → false ≡ right version x
      unfolding right
      right_flag h = simp (lt-ltb x.direction 2 (omega arith), lt-ltb x.kind 2 (omega arith), sym flag ∙ h)

      pub right_decides : {u : Bool} → t ≡ true → u ≡ fits x.kind (value x.target) → u ≡ right version x
      unfolding right
      right_decides h e = rw e (simp (lt-ltb x.direction 2 (omega arith), lt-ltb x.kind 2 (omega arith), sym flag ∙ h))

-- The fields of a right setting are single bytes.
pub record Narrow (x : Setting) : Type 0 where
  pub direction : x.direction < byte_span
  pub kind : x.kind < byte_span
  pub as_is : x.as_is < byte_span

of_two : (t : Bool) → cond t 1 2 ≤ 2
of_two true = omega arith
of_two false = omega arith

span_most : (version : ℕ) → flag_span version ≤ 2
unfolding flag_span
span_most version = of_two (eqb version 1)

pub right_narrow : (version : ℕ) (x : Setting) → right version x ≡ true → Narrow x
unfolding right
right_narrow version x e =
    let flag = ltb x.as_is (flag_span version) in
    let target = fits x.kind (value x.target) in
    let a = and_both (ltb x.direction 2) (ltb x.kind 2 && (flag && target)) e in
    let b = and_both (ltb x.kind 2) (flag && target) a.1 in
    let d = and_both flag target b.1 in
    record {
      direction = omega (arith, ltb-true x.direction 2 a.0);
      kind = omega (arith, ltb-true x.kind 2 b.0);
      as_is = omega (arith, ltb-true x.as_is (flag_span version) d.0, span_most version);
    }
