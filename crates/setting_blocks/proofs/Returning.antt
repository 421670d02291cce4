-- A setting that is written reads back.
use Prim.Native.Nat.{ℕ, ◌*◌}
use mathlib.Core.Path.{◌≡◌, sym, ap, ◌∙◌}
use mathlib.Core.Bool.{true}
use mathlib.Core.List.{List, [], ◌∷◌, ◌++◌, append_assoc, append-nil}
use native.Mathlib.Omega.{arith}
use lib.ListN.{get_or, take, drop, replicate, length-replicate}
use lib.Seq.{take_at}
use borrow.Author.Tests.{eq-eqb, ne_eqb}
use Rattle.diagram.proofs.Tests.{by-eq, cond-true, cond-false}
use Rattle.blocks.specs.Block.{two_bytes, total, weighted, sealed, sums_right}
use Rattle.blocks.proofs.Written.{at_next, sums_sealed, zeros_total}
use Rattle.setting_blocks.specs.Settings.{direction_at, kind_at, flag_at, target_at, target_words, fields_end, unused_bytes, known, right, words_bytes, words_at, front, block_of, version_in, flag_in, setting_in, unused_flag, unused_in}
use Rattle.setting_blocks.specs.Outlives.{Whole}
use Rattle.setting_blocks.specs.declared.setting.Setting.{Setting}
use Rattle.setting_blocks.proofs.Fields.{words_length, front_length, block_length, words_back}
use Rattle.setting_blocks.proofs.Testing.{Passed, flag_off}

module _ (version : ℕ) (x : Setting) (whole : Whole x) where
  abbrev block : List ℕ
  block = block_of version x

  abbrev sums : List ℕ
  sums = two_bytes (total (front version x)) ++ two_bytes (weighted 1 (front version x))

  abbrev after-target : List ℕ
  after-target = replicate unused_bytes 0 ++ sums

  pub right_sums : sums_right block ≡ true
  unfolding block_of
  right_sums = rw (append-nil (sealed (front version x))) at (sums_sealed (front version x) [] (front_length version x whole.count))

  all_parts : block ≡ version ∷ x.direction ∷ x.kind ∷ x.as_is ∷ (words_bytes x.target ++ after-target)
  unfolding block_of front
  all_parts = simp append_assoc

  from_target : drop target_at block ≡ words_bytes x.target ++ after-target
  from_target = ap (drop target_at) all_parts

  from_unused : drop fields_end block ≡ after-target
  from_unused = at_next block target_at (4 * target_words) (words_bytes x.target) from_target (omega (arith, words_length x.target, whole.count))

  -- field by field
  pub version_back : version_in block ≡ version
  version_back = ap version_in all_parts

  flag_byte : get_or block flag_at 0 ≡ x.as_is
  flag_byte = ap (λ (s : List ℕ). get_or s flag_at 0) all_parts

  target_back : words_at block target_at target_words ≡ x.target
  target_back = words_back block x.target after-target target_at target_words whole.small whole.count from_target

  module _ (in_range : right version x ≡ true) where
    flag_back : flag_in block ≡ x.as_is
    unfolding flag_in
    flag_back =
        by-eq version 1
        (λ e. cond-true _ _ _ (eq-eqb _ _ (version_back ∙ e)) ∙ sym (flag_off x (rw e at in_range)))
        (λ ne. cond-false _ _ _ (ne_eqb _ _ (λ e. ne (sym version_back ∙ e))) ∙ flag_byte)

    unused_flag_back : unused_flag block ≡ 0
    unfolding unused_flag
    unused_flag_back =
        by-eq version 1
        (λ e. cond-true _ _ _ (eq-eqb _ _ (version_back ∙ e)) ∙ flag_byte ∙ flag_off x (rw e at in_range))
        (λ ne. cond-false _ _ _ (ne_eqb _ _ (λ e. ne (sym version_back ∙ e))))

    setting_back : setting_in block ≡ x
    unfolding setting_in
    setting_back =
        let d : get_or block direction_at 0 ≡ x.direction = ap (λ (s : List ℕ). get_or s direction_at 0) all_parts in
        let k : get_or block kind_at 0 ≡ x.kind = ap (λ (s : List ℕ). get_or s kind_at 0) all_parts in
        rw (d, k, flag_back, target_back)

    unused_back : total (unused_in block) ≡ 0
    unfolding unused_in total
    unused_back =
        let t : take unused_bytes (drop fields_end block) ≡ replicate unused_bytes 0 =
        ap (take unused_bytes) from_unused ∙ take_at (replicate unused_bytes 0) sums unused_bytes (length-replicate {A = ℕ} unused_bytes 0) in
        rw (unused_flag_back, t) (zeros_total unused_bytes)

    pub passes_back : (reader : ℕ) → known reader version ≡ true → Passed reader version x block
    passes_back reader e =
        record {
          long = block_length version x whole.count;
          sums = right_sums;
          version_is = version_back;
          setting_is = setting_back;
          taken = e;
          in_range = in_range;
          rest = unused_back;
        }
