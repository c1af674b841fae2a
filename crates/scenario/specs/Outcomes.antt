-- Memory may fail at any line; a reader's promise is about every other outcome.
use Rattle.std.specs.Prelude.{◌≡◌, Bool, true, false, Ok, Err, Result}
use Rattle.statements.specs.declared.fault.Reason.{Reason}
use Rattle.statements.specs.declared.fault.Reason.TheVariants.{UnknownWord, MissingWord, ExtraWord, NotFourDigits, NotSixDigits, NotAByte, NotUpTo, NotALevel, NotAnAnswer, TooManyCodes, RowBeforeSky, BoardAfterCall, NoMemory}

abbrev pub memory_failed : Reason → Bool
memory_failed NoMemory = true
memory_failed UnknownWord = false
memory_failed MissingWord = false
memory_failed ExtraWord = false
memory_failed NotFourDigits = false
memory_failed NotSixDigits = false
memory_failed NotAByte = false
memory_failed (NotUpTo most) = false
memory_failed NotALevel = false
memory_failed NotAnAnswer = false
memory_failed TooManyCodes = false
memory_failed RowBeforeSky = false
memory_failed BoardAfterCall = false

-- what came is what was due: the value that is left where it succeeded, and the same reason where it did not
abbrev pub Due : {X Y : Type 0} → Result X Reason → Result Y Reason → X → Type 0
Due due (Ok _) left = due ≡ Ok left
Due due (Err e) left = memory_failed e ≡ false → due ≡ Err e
