-- What is said of a number that no refusal has.
use Prim.Native.Nat.{ℕ, ◌<◌}
use mathlib.Core.Path.{◌≡◌, sym}
use mathlib.Core.Bool.{false}
use mathlib.Core.List.{[]}
use lib.Dec.{eqb}
use borrow.Author.Tests.{ne_eqb, le-leb, lt-leb}
use native.Mathlib.Omega.{arith}
use Rattle.std.specs.Prelude.{None}
use Rattle.diagram.specs.Refusal.{number_of}
use Rattle.diagram.specs.declared.refusal.Refusal.{Refusal}
use Rattle.diagram.specs.declared.refusal.Refusal.TheVariants.{UnknownVersion, OutOfRange, ShortOutput, NoTerminal, TooManyVariables, BadVariable, BadLowLink, BadHighLink, BrokenLowOrder, BrokenHighOrder, Unreachable, CountTooLarge, SizeTooSmall, NothingToCut, ShortBlock, WrongSum, WrongCount, UnusedBytes, TooManyStored, OtherVariables, TooManyPairs, EmptyFile, BrokenNode, TooManyInFile}
use Rattle.writing.specs.Writing.{bytes}
use Rattle.writing.proofs.Laws.{by_le}
use Rattle.messages.specs.Texts.{Numbered, of_node, subject, phrase, refusal_text, settings_phrase, settings_refusal_text}

module _ (number : ℕ) (none : Numbered number None) where
  differs : (r : Refusal) → eqb number (number_of r) ≡ false
  differs r = ne_eqb number (number_of r) (λ e. none r (sym e))

  pub phrase_else : phrase number ≡ bytes "the input is refused"
  unfolding phrase
  phrase_else =
      simp (
        differs ShortOutput,
        differs NoTerminal,
        differs TooManyVariables,
        differs BadVariable,
        differs BadLowLink,
        differs BadHighLink,
        differs BrokenLowOrder,
        differs BrokenHighOrder,
        differs Unreachable,
        differs CountTooLarge,
        differs SizeTooSmall,
        differs NothingToCut,
        differs ShortBlock,
        differs WrongSum,
        differs WrongCount,
        differs UnusedBytes,
        differs TooManyStored,
        differs OtherVariables,
        differs TooManyPairs,
        differs EmptyFile,
        differs BrokenNode,
        differs TooManyInFile,
      )

  pub subject_none : (place : ℕ) → subject number place ≡ []
  unfolding subject of_node
  subject_none place =
      by_le number 12
      (λ l.
      let h : number < 8 = omega (arith, none BadVariable, none BadLowLink, none BadHighLink, none BrokenLowOrder, none Unreachable) in
      simp (differs NoTerminal, differs BrokenHighOrder, lt-leb 8 number h))
      (λ l. simp (differs NoTerminal, differs BrokenHighOrder, le-leb 8 number (omega arith), lt-leb number 12 l))

  -- of a settings file no less: what `write_refusal` writes is this text too
  pub settings_as : (place : ℕ) → settings_refusal_text number place ≡ refusal_text number place
  unfolding settings_refusal_text settings_phrase refusal_text
  settings_as place = simp (differs UnknownVersion, differs OutOfRange)
