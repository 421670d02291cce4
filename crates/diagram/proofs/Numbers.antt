-- What holds of every number of refusal.
use Prim.Native.Nat.{◌<◌}
use native.Mathlib.Omega.{arith}
use Rattle.diagram.specs.Refusal.{number_of}
use Rattle.diagram.specs.declared.refusal.Refusal.{Refusal}
use Rattle.diagram.specs.declared.refusal.Refusal.TheVariants.{NoWords, BrokenWords, TooManyNodes, ShortOutput, ShortRoom, NoTerminal, TooManyVariables, BadVariable, BadLowLink, BadHighLink, BrokenLowOrder, BrokenHighOrder, Unreachable, BadPointer, ListedTerminal, CountTooLarge, SizeTooSmall, NothingToCut, ShortBlock, WrongSum, WrongCount, UnusedBytes, TooManyStored, WideVariable, OtherVariables, TooManyPairs, NoSuchSlot, WrongSlot, OtherPool, PoolFull, ShortSummary, UnknownVersion, OutOfRange, NoPool, OtherSummary, EmptyFile, BrokenNode, TooManyInFile, ShortFile, WideNode}

pub some_number : (r : Refusal) → 0 < number_of r
some_number NoWords = omega arith
some_number BrokenWords = omega arith
some_number TooManyNodes = omega arith
some_number ShortOutput = omega arith
some_number ShortRoom = omega arith
some_number NoTerminal = omega arith
some_number TooManyVariables = omega arith
some_number BadVariable = omega arith
some_number BadLowLink = omega arith
some_number BadHighLink = omega arith
some_number BrokenLowOrder = omega arith
some_number Unreachable = omega arith
some_number BadPointer = omega arith
some_number ListedTerminal = omega arith
some_number CountTooLarge = omega arith
some_number BrokenHighOrder = omega arith
some_number SizeTooSmall = omega arith
some_number NothingToCut = omega arith
some_number ShortBlock = omega arith
some_number WrongSum = omega arith
some_number WrongCount = omega arith
some_number UnusedBytes = omega arith
some_number TooManyStored = omega arith
some_number WideVariable = omega arith
some_number OtherVariables = omega arith
some_number TooManyPairs = omega arith
some_number NoSuchSlot = omega arith
some_number WrongSlot = omega arith
some_number OtherPool = omega arith
some_number PoolFull = omega arith
some_number ShortSummary = omega arith
some_number UnknownVersion = omega arith
some_number OutOfRange = omega arith
some_number NoPool = omega arith
some_number OtherSummary = omega arith
some_number EmptyFile = omega arith
some_number BrokenNode = omega arith
some_number TooManyInFile = omega arith
some_number ShortFile = omega arith
some_number WideNode = omega arith
