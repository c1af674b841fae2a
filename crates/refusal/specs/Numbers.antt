-- The number of each refusal. Ten is not given to any.
use Rattle.std.specs.Prelude.{ℕ}
use Rattle.refusal.specs.declared.Refusal.{Refusal}
use Rattle.refusal.specs.declared.Refusal.TheVariants.{Technologies, NeededFile, HomeDigits, ShortTrail, WrongMode, Locked, Registered, UnusableRow, NoPlaces, NoFile, OutsideFile, NoRow}

abbrev pub number_of : Refusal → ℕ
number_of Technologies = 1
number_of (NeededFile file fault) = 2
number_of HomeDigits = 3
number_of ShortTrail = 4
number_of WrongMode = 5
number_of Locked = 6
number_of Registered = 7
number_of UnusableRow = 8
number_of NoPlaces = 9
number_of NoFile = 11
number_of OutsideFile = 12
number_of NoRow = 13
