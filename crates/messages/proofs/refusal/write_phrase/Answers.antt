use mathlib.Core.Path.{◌≡◌, refl}
use Rattle.writing.specs.Writing.{bytes}
use Rattle.diagram.specs.Refusal.{number_of}
use Rattle.diagram.specs.declared.refusal.Refusal.{Refusal}
use Rattle.diagram.specs.declared.refusal.Refusal.TheVariants.{NoWords, BrokenWords, TooManyNodes, ShortOutput, ShortRoom, NoTerminal, TooManyVariables, BadVariable, BadLowLink, BadHighLink, BrokenLowOrder, Unreachable, BadPointer, ListedTerminal, CountTooLarge, BrokenHighOrder, SizeTooSmall, NothingToCut, ShortBlock, WrongSum, WrongCount, UnusedBytes, TooManyStored, WideVariable, OtherVariables, TooManyPairs, NoSuchSlot, WrongSlot, OtherPool, PoolFull, ShortSummary, UnknownVersion, OutOfRange, NoPool, OtherSummary, EmptyFile, BrokenNode, TooManyInFile, ShortFile, WideNode}
use Rattle.messages.specs.Texts.{phrase}
use Rattle.messages.proofs.refusal.write_phrase.Goals as goal

pub returns-in-ShortOutput : goal.returns-in-ShortOutput
unfolding phrase
returns-in-ShortOutput c = rw c.in-ShortOutput.is c.write.ensures

pub returns-in-NoTerminal : goal.returns-in-NoTerminal
unfolding phrase
returns-in-NoTerminal c = rw c.in-NoTerminal.is c.write-in-NoTerminal.ensures

pub returns-in-TooManyVariables : goal.returns-in-TooManyVariables
unfolding phrase
returns-in-TooManyVariables c = rw c.in-TooManyVariables.is c.write_limit.ensures

pub returns-in-BadVariable : goal.returns-in-BadVariable
unfolding phrase
returns-in-BadVariable c = rw c.in-BadVariable.is c.write-in-BadVariable.ensures

pub returns-in-BadLowLink : goal.returns-in-BadLowLink
unfolding phrase
returns-in-BadLowLink c = rw c.in-BadLowLink.is c.write-in-BadLowLink.ensures

pub returns-in-BadHighLink : goal.returns-in-BadHighLink
unfolding phrase
returns-in-BadHighLink c = rw c.in-BadHighLink.is c.write-in-BadHighLink.ensures

pub returns-in-BrokenLowOrder : goal.returns-in-BrokenLowOrder
unfolding phrase
returns-in-BrokenLowOrder c = rw c.in-BrokenLowOrder.is c.write-in-BrokenLowOrder.ensures

pub returns-in-BrokenHighOrder : goal.returns-in-BrokenHighOrder
unfolding phrase
returns-in-BrokenHighOrder c = rw c.in-BrokenHighOrder.is c.write-in-BrokenHighOrder.ensures

pub returns-in-Unreachable : goal.returns-in-Unreachable
unfolding phrase
returns-in-Unreachable c = rw c.in-Unreachable.is c.write-in-Unreachable.ensures

pub returns-in-CountTooLarge : goal.returns-in-CountTooLarge
unfolding phrase
returns-in-CountTooLarge c = rw c.in-CountTooLarge.is c.write-in-CountTooLarge.ensures

pub returns-in-SizeTooSmall : goal.returns-in-SizeTooSmall
unfolding phrase
returns-in-SizeTooSmall c = rw c.in-SizeTooSmall.is c.write-in-SizeTooSmall.ensures

pub returns-in-NothingToCut : goal.returns-in-NothingToCut
unfolding phrase
returns-in-NothingToCut c = rw c.in-NothingToCut.is c.write-in-NothingToCut.ensures

pub returns-in-ShortBlock : goal.returns-in-ShortBlock
unfolding phrase
returns-in-ShortBlock c = rw c.in-ShortBlock.is c.write-in-ShortBlock.ensures

pub returns-in-WrongSum : goal.returns-in-WrongSum
unfolding phrase
returns-in-WrongSum c = rw c.in-WrongSum.is c.write-in-WrongSum.ensures

pub returns-in-WrongCount : goal.returns-in-WrongCount
unfolding phrase
returns-in-WrongCount c = rw c.in-WrongCount.is c.write-in-WrongCount.ensures

pub returns-in-UnusedBytes : goal.returns-in-UnusedBytes
unfolding phrase
returns-in-UnusedBytes c = rw c.in-UnusedBytes.is c.write-in-UnusedBytes.ensures

pub returns-in-TooManyStored : goal.returns-in-TooManyStored
unfolding phrase
returns-in-TooManyStored c = rw c.in-TooManyStored.is c.write_limit-in-TooManyStored.ensures

pub returns-in-OtherVariables : goal.returns-in-OtherVariables
unfolding phrase
returns-in-OtherVariables c = rw c.in-OtherVariables.is c.write-in-OtherVariables.ensures

pub returns-in-TooManyPairs : goal.returns-in-TooManyPairs
unfolding phrase
returns-in-TooManyPairs c = rw c.in-TooManyPairs.is c.write_pairs.ensures

pub returns-in-EmptyFile : goal.returns-in-EmptyFile
unfolding phrase
returns-in-EmptyFile c = rw c.in-EmptyFile.is c.write-in-EmptyFile.ensures

pub returns-in-BrokenNode : goal.returns-in-BrokenNode
unfolding phrase
returns-in-BrokenNode c = rw c.in-BrokenNode.is c.write-in-BrokenNode.ensures

pub returns-in-TooManyInFile : goal.returns-in-TooManyInFile
unfolding phrase
returns-in-TooManyInFile c = rw c.in-TooManyInFile.is c.write_limit-in-TooManyInFile.ensures

pub returns-in_default : goal.returns-in_default
unfolding phrase
returns-in_default c = rw (other c.args.reason refl) c.write-in_default.ensures
  where
    other : (r : Refusal) → c.args.reason ≡ r → phrase (number_of r) ≡ bytes "the input is refused"
    other NoWords e = refl
    other BrokenWords e = refl
    other TooManyNodes e = refl
    other ShortOutput e = absurd (c.in_default.not-ShortOutput e)
    other ShortRoom e = refl
    other NoTerminal e = absurd (c.in_default.not-NoTerminal e)
    other TooManyVariables e = absurd (c.in_default.not-TooManyVariables e)
    other BadVariable e = absurd (c.in_default.not-BadVariable e)
    other BadLowLink e = absurd (c.in_default.not-BadLowLink e)
    other BadHighLink e = absurd (c.in_default.not-BadHighLink e)
    other BrokenLowOrder e = absurd (c.in_default.not-BrokenLowOrder e)
    other Unreachable e = absurd (c.in_default.not-Unreachable e)
    other BadPointer e = refl
    other ListedTerminal e = refl
    other CountTooLarge e = absurd (c.in_default.not-CountTooLarge e)
    other BrokenHighOrder e = absurd (c.in_default.not-BrokenHighOrder e)
    other SizeTooSmall e = absurd (c.in_default.not-SizeTooSmall e)
    other NothingToCut e = absurd (c.in_default.not-NothingToCut e)
    other ShortBlock e = absurd (c.in_default.not-ShortBlock e)
    other WrongSum e = absurd (c.in_default.not-WrongSum e)
    other WrongCount e = absurd (c.in_default.not-WrongCount e)
    other UnusedBytes e = absurd (c.in_default.not-UnusedBytes e)
    other TooManyStored e = absurd (c.in_default.not-TooManyStored e)
    other WideVariable e = refl
    other OtherVariables e = absurd (c.in_default.not-OtherVariables e)
    other TooManyPairs e = absurd (c.in_default.not-TooManyPairs e)
    other NoSuchSlot e = refl
    other WrongSlot e = refl
    other OtherPool e = refl
    other PoolFull e = refl
    other ShortSummary e = refl
    other UnknownVersion e = refl
    other OutOfRange e = refl
    other NoPool e = refl
    other OtherSummary e = refl
    other EmptyFile e = absurd (c.in_default.not-EmptyFile e)
    other BrokenNode e = absurd (c.in_default.not-BrokenNode e)
    other TooManyInFile e = absurd (c.in_default.not-TooManyInFile e)
    other ShortFile e = refl
    other WideNode e = refl
