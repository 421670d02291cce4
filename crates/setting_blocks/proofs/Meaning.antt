-- A block that is read is the block that would be written for its setting.
use Prim.Native.Nat.{ℕ}
use mathlib.Core.Path.{◌≡◌, sym, ap, ◌∙◌}
use mathlib.Core.List.{List, ◌∷◌, ◌++◌, append_assoc}
use native.Mathlib.Omega.{arith}
use lib.ListN.{get_or, take, drop, replicate}
use lib.Seq.{take_all, take_at}
use borrow.Author.Tests.{eq-eqb, ne_eqb}
use Rattle.diagram.proofs.Tests.{by-eq, cond-true, cond-false}
use Rattle.writing.proofs.Laws.{drop_next}
use Rattle.blocks.specs.Block.{Bytes, total, sealed, block_bytes, summed}
use Rattle.blocks.proofs.Meaning.{split_zeros, block_sealed}
use Rattle.setting_blocks.specs.Settings.{direction_at, kind_at, flag_at, target_at, target_words, fields_end, unused_bytes, words_bytes, words_at, front, block_of, version_in, flag_in, setting_in, unused_flag, unused_in}
use Rattle.setting_blocks.specs.Outlives.{Whole}
use Rattle.setting_blocks.specs.declared.setting.Setting.{Setting}
use Rattle.setting_blocks.proofs.Fields.{words_at_length, words_at_small, split_words, front_length}
use Rattle.setting_blocks.proofs.Testing.{Passed}

module _ (s : List ℕ) (small : Bytes s) {reader version : ℕ} {x : Setting} (p : Passed reader version x s) where
  -- Unused bytes are zero, and in version 1 that of the flag is one of them.
  flag_unused : unused_flag s ≡ 0
  unfolding unused_in total
  flag_unused = omega (arith, p.rest)

  rest_unused : total (take unused_bytes (drop fields_end s)) ≡ 0
  unfolding unused_in total
  rest_unused = omega (arith, p.rest)

  flag_byte : get_or s flag_at 0 ≡ flag_in s
  unfolding flag_in unused_flag
  flag_byte =
      by-eq (version_in s) 1
      (λ e. sym (cond-true _ _ _ (eq-eqb _ _ e)) ∙ flag_unused ∙ sym (cond-true _ _ _ (eq-eqb _ _ e)))
      (λ ne. sym (cond-false _ _ _ (ne_eqb _ _ ne)))

  from_target : drop target_at s ≡ words_bytes (words_at s target_at target_words) ++ (replicate unused_bytes 0 ++ drop summed s)
  from_target =
      split_words s small target_at target_words (omega (arith, p.long))
      ∙ ap (λ (l : List ℕ). words_bytes (words_at s target_at target_words) ++ l) (split_zeros s fields_end summed (omega arith) (omega (arith, p.long)) rest_unused)

  four_first : s ≡ version_in s ∷ get_or s direction_at 0 ∷ get_or s kind_at 0 ∷ get_or s flag_at 0 ∷ drop target_at s
  four_first =
      drop_next s 0 (omega (arith, p.long))
      ∙ ap (λ (l : List ℕ). version_in s ∷ l) (drop_next s direction_at (omega (arith, p.long))
      ∙ ap (λ (l : List ℕ). get_or s direction_at 0 ∷ l) (drop_next s kind_at (omega (arith, p.long))
      ∙ ap (λ (l : List ℕ). get_or s kind_at 0 ∷ l) (drop_next s flag_at (omega (arith, p.long)))))

  front_is : s ≡ front (version_in s) (setting_in s) ++ drop summed s
  unfolding front setting_in
  front_is =
      four_first
      ∙ ap (λ (b : ℕ). version_in s ∷ get_or s direction_at 0 ∷ get_or s kind_at 0 ∷ b ∷ drop target_at s) flag_byte
      ∙ ap (λ (l : List ℕ). version_in s ∷ get_or s direction_at 0 ∷ get_or s kind_at 0 ∷ flag_in s ∷ l)
      (from_target ∙ sym (append_assoc (words_bytes (words_at s target_at target_words)) (replicate unused_bytes 0) (drop summed s)))

  pub whole_is : Whole x
  unfolding setting_in
  whole_is =
      let target_is : words_at s target_at target_words ≡ x.target = ap (λ (y : Setting). y.target) p.setting_is in
      record {
        count = rw target_is at (words_at_length s target_at target_words);
        small = λ k. rw target_is at (words_at_small s small target_at target_words k);
      }

  pub block_is : s ≡ block_of version x
  unfolding block_of
  block_is =
      let f : s ≡ front version x ++ drop summed s = rw (p.version_is, p.setting_is) at front_is in
      let t : take summed s ≡ front version x = ap (take summed) f ∙ take_at (front version x) (drop summed s) summed (front_length version x whole_is.count) in
      sym (take_all block_bytes s (omega (arith, p.long))) ∙ block_sealed s small (omega (arith, p.long)) p.sums ∙ ap sealed t
