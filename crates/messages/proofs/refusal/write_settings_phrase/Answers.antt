use mathlib.Core.Path.{◌≡◌, refl}
use Rattle.diagram.specs.Refusal.{number_of}
use Rattle.diagram.specs.declared.refusal.Refusal.{Refusal}
use Rattle.diagram.specs.declared.refusal.Refusal.TheVariants.{NoWords, BrokenWords, TooManyNodes, ShortOutput, ShortRoom, NoTerminal, TooManyVariables, BadVariable, BadLowLink, BadHighLink, BrokenLowOrder, Unreachable, BadPointer, ListedTerminal, CountTooLarge, BrokenHighOrder, SizeTooSmall, NothingToCut, ShortBlock, WrongSum, WrongCount, UnusedBytes, TooManyStored, WideVariable, OtherVariables, TooManyPairs, NoSuchSlot, WrongSlot, OtherPool, PoolFull, ShortSummary, UnknownVersion, OutOfRange, NoPool, OtherSummary, EmptyFile, BrokenNode, TooManyInFile, ShortFile, WideNode}
use Rattle.messages.specs.Texts.{phrase, settings_phrase}
use Rattle.messages.proofs.refusal.write_settings_phrase.Goals as goal

pub returns-in-UnknownVersion : goal.returns-in-UnknownVersion
unfolding settings_phrase
returns-in-UnknownVersion c = rw c.in-UnknownVersion.is c.write.ensures

pub returns-in-OutOfRange : goal.returns-in-OutOfRange
unfolding settings_phrase
returns-in-OutOfRange c = rw c.in-OutOfRange.is c.write-in-OutOfRange.ensures

pub returns-in_default : goal.returns-in_default
unfolding settings_phrase
returns-in_default c = rw (other c.args.reason refl) c.write_phrase.ensures
  where
    other : (r : Refusal) → c.args.reason ≡ r → settings_phrase (number_of r) ≡ phrase (number_of r)
    other NoWords e = refl
    other BrokenWords e = refl
    other TooManyNodes e = refl
    other ShortOutput e = refl
    other ShortRoom e = refl
    other NoTerminal e = refl
    other TooManyVariables e = refl
    other BadVariable e = refl
    other BadLowLink e = refl
    other BadHighLink e = refl
    other BrokenLowOrder e = refl
    other Unreachable e = refl
    other BadPointer e = refl
    other ListedTerminal e = refl
    other CountTooLarge e = refl
    other BrokenHighOrder e = refl
    other SizeTooSmall e = refl
    other NothingToCut e = refl
    other ShortBlock e = refl
    other WrongSum e = refl
    other WrongCount e = refl
    other UnusedBytes e = refl
    other TooManyStored e = refl
    other WideVariable e = refl
    other OtherVariables e = refl
    other TooManyPairs e = refl
    other NoSuchSlot e = refl
    other WrongSlot e = refl
    other OtherPool e = refl
    other PoolFull e = refl
    other ShortSummary e = refl
    other UnknownVersion e = absurd (c.in_default.not-UnknownVersion e)
    other OutOfRange e = absurd (c.in_default.not-OutOfRange e)
    other NoPool e = refl
    other OtherSummary e = refl
    other EmptyFile e = refl
    other BrokenNode e = refl
    other TooManyInFile e = refl
    other ShortFile e = refl
    other WideNode e = refl
