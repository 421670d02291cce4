use mathlib.Core.Path.{◌≡◌, refl, sym, ◌∙◌}
use Prim.Native.Nat.{ℕ}
use lib.ListN.{length, length-replicate}
use Rattle.setting_blocks.specs.Settings.{target_words}
use Rattle.naturals.proofs.Machine.{typed}
use Rattle.blocks.specs.Block.{summed}
use Rattle.setting_blocks.proofs.Words.{wrote_all}
use Rattle.setting_blocks.proofs.Fields.{front_length}
use Rattle.setting_blocks.proofs.Answers.{writes_38, writes_39, writes_4, writes_kept}
use Rattle.setting_blocks.proofs.write.store.Goals as goal
use Rattle.setting_blocks.proofs.write.store.Goals.{Start}

target_length : (c : Start) → length c.args.setting.target ≡ target_words
target_length c = (let g = c.well_formed.1.0.1.1.1.1.1.0 in typed c.args.setting.target g.0 g.1.0.1 g.1.1).count

pub returns-then-not-is_known : goal.returns-then-not-is_known
returns-then-not-is_known c = writes_38 _ _ _ (sym c.is_known.ensures ∙ c.if-not-is_known.true) c.refused.ensures

pub returns-then-not-is_right : goal.returns-then-not-is_right
returns-then-not-is_right c = writes_39 _ _ _ (sym c.is_known.ensures ∙ c.if-not-is_known.false) (sym c.is_right.ensures ∙ c.if-not-is_right.true) c.refused-then-not-is_right.ensures

pub returns-then-output-lt-BLOCK : goal.returns-then-output-lt-BLOCK
returns-then-output-lt-BLOCK c = writes_4 _ _ _ (sym c.is_known.ensures ∙ c.if-not-is_known.false) (sym c.is_right.ensures ∙ c.if-not-is_right.false) c.if-output-lt-BLOCK.true c.refused-then-output-lt-BLOCK.ensures

pub put_front-requires : goal.put_front-requires
put_front-requires c = (sym c.is_known.ensures ∙ c.if-not-is_known.false, sym c.is_right.ensures ∙ c.if-not-is_right.false)

pub returns : goal.returns
returns c = writes_kept c.args.version c.args.setting _ (sym c.is_known.ensures ∙ c.if-not-is_known.false) (sym c.is_right.ensures ∙ c.if-not-is_right.false) c.if-output-lt-BLOCK.false (target_length (goal.at.returns c).Start) (wrote_all (front_length c.args.version c.args.setting (target_length (goal.at.returns c).Start) ∙ sym (length-replicate {A = ℕ} summed 0)) c.put_front.ensures) c.write_sealed.ensures refl
