use mathlib.Core.Path.{◌≡◌, refl}
use mathlib.Core.Bool.{false}
use mathlib.Core.Logic.{⊎_elim}
use Rattle.diagram.specs.Refusal.{number_of}
use Rattle.diagram.specs.declared.refusal.Refusal.{Refusal}
use Rattle.diagram.specs.declared.refusal.Refusal.TheVariants.{NoWords, BrokenWords, TooManyNodes, ShortOutput, ShortRoom, NoTerminal, TooManyVariables, BadVariable, BadLowLink, BadHighLink, BrokenLowOrder, Unreachable, BadPointer, ListedTerminal, CountTooLarge, BrokenHighOrder, SizeTooSmall, NothingToCut, ShortBlock, WrongSum, WrongCount, UnusedBytes, TooManyStored, WideVariable, OtherVariables, TooManyPairs, NoSuchSlot, WrongSlot, OtherPool, PoolFull, ShortSummary, UnknownVersion, OutOfRange, NoPool, OtherSummary, EmptyFile, BrokenNode, TooManyInFile, ShortFile, WideNode}
use Rattle.messages.specs.Texts.{of_node}
use Rattle.messages.proofs.refusal.of_node.Goals as goal

pub returns-in-NoTerminal : goal.returns-in-NoTerminal
unfolding of_node
returns-in-NoTerminal c = ⊎_elim (λ e. rw e) (⊎_elim (λ e. rw e) (⊎_elim (λ e. rw e) (⊎_elim (λ e. rw e) (⊎_elim (λ e. rw e) (⊎_elim (λ e. rw e) (λ e. rw e)))))) c.in-NoTerminal.is

pub returns-in_default : goal.returns-in_default
unfolding of_node
returns-in_default c = other c.args.reason refl
  where
    other : (r : Refusal) → c.args.reason ≡ r → false ≡ of_node (number_of r)
    other NoWords e = refl
    other BrokenWords e = refl
    other TooManyNodes e = refl
    other ShortOutput e = refl
    other ShortRoom e = refl
    other NoTerminal e = absurd (c.in_default.not-NoTerminal e)
    other TooManyVariables e = refl
    other BadVariable e = absurd (c.in_default.not-BadVariable e)
    other BadLowLink e = absurd (c.in_default.not-BadLowLink e)
    other BadHighLink e = absurd (c.in_default.not-BadHighLink e)
    other BrokenLowOrder e = absurd (c.in_default.not-BrokenLowOrder e)
    other Unreachable e = absurd (c.in_default.not-Unreachable e)
    other BadPointer e = refl
    other ListedTerminal e = refl
    other CountTooLarge e = refl
    other BrokenHighOrder e = absurd (c.in_default.not-BrokenHighOrder e)
    other SizeTooSmall e = refl
    other NothingToCut e = refl
    other ShortBlock e = refl
    other WrongSum e = refl
    other WrongCount e = refl
    other UnusedBytes e = refl
    other TooManyStored e = refl
    other WideVariable e = refl
    other OtherVariables e = refl
    other TooManyPairs e = refl
    other NoSuchSlot e = refl
    other WrongSlot e = refl
    other OtherPool e = refl
    other PoolFull e = refl
    other ShortSummary e = refl
    other UnknownVersion e = refl
    other OutOfRange e = refl
    other NoPool e = refl
    other OtherSummary e = refl
    other EmptyFile e = refl
    other BrokenNode e = refl
    other TooManyInFile e = refl
    other ShortFile e = refl
    other WideNode e = refl
