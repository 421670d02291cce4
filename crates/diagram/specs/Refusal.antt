-- The numbers of refusal (docs/RULES.md), each once.
use Rattle.std.specs.Prelude.{ℕ}
use Rattle.diagram.specs.declared.refusal.Refusal.{Refusal}
use Rattle.diagram.specs.declared.refusal.Refusal.TheVariants.{NoWords, BrokenWords, TooManyNodes, ShortOutput, ShortRoom, NoTerminal, TooManyVariables, BadVariable, BadLowLink, BadHighLink, BrokenLowOrder, BrokenHighOrder, Unreachable, BadPointer, ListedTerminal, CountTooLarge, SizeTooSmall, NothingToCut, ShortBlock, WrongSum, WrongCount, UnusedBytes, TooManyStored, WideVariable, OtherVariables, TooManyPairs, NoSuchSlot, WrongSlot, OtherPool, PoolFull, ShortSummary, UnknownVersion, OutOfRange, NoPool, OtherSummary, EmptyFile, BrokenNode, TooManyInFile, ShortFile, WideNode}

abbrev pub number_of : Refusal → ℕ
number_of NoWords = 1
number_of BrokenWords = 2
number_of TooManyNodes = 3
number_of ShortOutput = 4
number_of ShortRoom = 5
number_of NoTerminal = 6
number_of TooManyVariables = 7
number_of BadVariable = 8
number_of BadLowLink = 9
number_of BadHighLink = 10
number_of BrokenLowOrder = 11
number_of Unreachable = 12
number_of BadPointer = 13
number_of ListedTerminal = 14
number_of CountTooLarge = 16
number_of BrokenHighOrder = 17
number_of SizeTooSmall = 18
number_of NothingToCut = 19
number_of ShortBlock = 21
number_of WrongSum = 22
number_of WrongCount = 23
number_of UnusedBytes = 24
number_of TooManyStored = 25
number_of WideVariable = 26
number_of OtherVariables = 31
number_of TooManyPairs = 32
number_of NoSuchSlot = 33
number_of WrongSlot = 34
number_of OtherPool = 35
number_of PoolFull = 36
number_of ShortSummary = 37
number_of UnknownVersion = 38
number_of OutOfRange = 39
number_of NoPool = 46
number_of OtherSummary = 47
number_of EmptyFile = 51
number_of BrokenNode = 52
number_of TooManyInFile = 53
number_of ShortFile = 54
number_of WideNode = 55
