-- The tests of the readers and of the writer.
use Prim.Native.Nat.{ℕ, ◌≤◌, ◌<◌}
use mathlib.Core.Path.{◌≡◌, refl}
use mathlib.Core.Bool.{Bool, true, false, ◌&&◌}
use mathlib.Core.List.{List}
use mathlib.Core.Logic.{◌≢◌}
use native.Mathlib.Omega.{arith}
use lib.ListN.{length}
use lib.Dec.{ltb}
use borrow.Author.Tests.{lt-ltb, le-ltb, le-leb, lt-leb, eq-eqb, ne_eqb, eqb-true, ltb-true, leb-true, not-false}
use Rattle.diagram.proofs.Tests.{and_both, both_and}
use Rattle.naturals.specs.Natural.{value}
use Rattle.blocks.specs.Block.{total, sums_right, block_bytes}
use Rattle.setting_blocks.specs.Settings.{newest, known, flag_span, fits, right, version_in, setting_in, unused_in, Outcome, kept, refused, row, read_by, write_by}
use Rattle.setting_blocks.specs.declared.setting.Setting.{Setting}

-- ---- versions

pub knows : (reader version : ℕ) → 0 < version → version ≤ reader → known reader version ≡ true
unfolding known
knows reader version some most = both_and _ _ (lt-ltb 0 version some) (le-leb version reader most)

pub knows_not : (reader version : ℕ) → reader < version → known reader version ≡ false
unfolding known
knows_not reader version h = simp (lt-ltb 0 version (omega arith), lt-leb version reader h)

pub record Known (reader version : ℕ) : Type 0 where
  pub some : 0 < version
  pub most : version ≤ reader

pub is_known : (reader version : ℕ) → known reader version ≡ true → Known reader version
unfolding known
is_known reader version e = let a = and_both _ _ e in record { some = ltb-true _ _ a.0; most = leb-true _ _ a.1 }

-- Version 1 has the flag off.
pub flag_off : (x : Setting) → right 1 x ≡ true → x.as_is ≡ 0
unfolding right flag_span
flag_off x e =
    let flag = ltb x.as_is 1 && fits x.kind (value x.target) in
    let a = and_both (ltb x.direction 2) (ltb x.kind 2 && flag) e in
    let b = and_both (ltb x.kind 2) flag a.1 in
    let d = and_both (ltb x.as_is 1) (fits x.kind (value x.target)) b.1 in
    let l : x.as_is < 1 = ltb-true x.as_is 1 d.0 in
    omega arith

-- ---- a block that is read has passed every test

pub record Passed (reader version : ℕ) (x : Setting) (s : List ℕ) : Type 0 where
  pub long : length s ≡ block_bytes
  pub sums : sums_right s ≡ true
  pub version_is : version_in s ≡ version
  pub setting_is : setting_in s ≡ x
  pub taken : known reader version ≡ true
  pub in_range : right version x ≡ true
  pub rest : total (unused_in s) ≡ 0

passes : (number : ℕ) (t : Bool) (o : Outcome) {version : ℕ} {x : Setting} → row number t o ≡ kept version x → (t ≡ false) × (o ≡ kept version x)
unfolding row
passes number true o e = let z : ◌≡◌ {A = ℕ} 0 1 = cc in absurd (omega arith)
passes number false o e = (refl, e)

pub is_read : (reader version : ℕ) (x : Setting) (s : List ℕ) → read_by reader s ≡ kept version x → Passed reader version x s
unfolding read_by
is_read reader version x s e =
    let a = passes _ _ _ e in
    let b = passes _ _ _ a.1 in
    let d = passes _ _ _ b.1 in
    let f = passes _ _ _ d.1 in
    let g = passes _ _ _ f.1 in
    let v : version_in s ≡ version = cc in
    let y : setting_in s ≡ x = cc in
    record {
      long = eqb-true _ _ (not-false _ a.0);
      sums = not-false _ b.0;
      version_is = v;
      setting_is = y;
      taken = rw v at (not-false (known reader (version_in s)) d.0);
      in_range = rw (v, y) at (not-false (right (version_in s) (setting_in s)) f.0);
      rest = eqb-true _ _ (not-false _ g.0);
    }

pub reads : {reader version : ℕ} {x : Setting} {s : List ℕ} → Passed reader version x s → read_by reader s ≡ kept version x
unfolding read_by row
reads {reader} {version} {x} {s} p =
    rw (p.version_is, p.setting_is)
    (simp (eq-eqb (length s) block_bytes p.long, p.sums, p.taken, p.in_range, eq-eqb (total (unused_in s)) 0 p.rest))

module _ (reader : ℕ) (s : List ℕ) where
  pub refused_21 : length s ≢ block_bytes → read_by reader s ≡ refused 21 0
  unfolding read_by row
  refused_21 h = simp (ne_eqb (length s) block_bytes h)

  module _ (long : length s ≡ block_bytes) where
    pub refused_22 : sums_right s ≡ false → read_by reader s ≡ refused 22 0
    unfolding read_by row
    refused_22 h = simp (eq-eqb (length s) block_bytes long, h)

    pub refused_38 : sums_right s ≡ true → known reader (version_in s) ≡ false → read_by reader s ≡ refused 38 0
    unfolding read_by row
    refused_38 h g = simp (eq-eqb (length s) block_bytes long, h, g)

-- ---- a setting that is written has passed them too

pub record Storable (version : ℕ) (x : Setting) : Type 0 where
  pub known_version : known newest version ≡ true
  pub in_range : right version x ≡ true

pub is_stored : (version lent : ℕ) (x : Setting) → write_by version x lent ≡ kept version x → Storable version x
unfolding write_by
is_stored version lent x e =
    let a = passes _ _ _ e in
    let b = passes _ _ _ a.1 in
    record { known_version = not-false _ a.0; in_range = not-false _ b.0 }

pub stores : {version : ℕ} {x : Setting} (lent : ℕ) → Storable version x → block_bytes ≤ lent → write_by version x lent ≡ kept version x
unfolding write_by row
stores lent p h = simp (p.known_version, p.in_range, le-ltb lent block_bytes h)
