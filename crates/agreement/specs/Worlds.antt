-- All that a call depends on and can change.
use Rattle.std.specs.Prelude.{ℕ}
use Rattle.card.specs.Files.{Files}
use Rattle.radio.specs.Airs.{Air}
use Rattle.states.specs.Standings.{Standing, fresh, switched_on}

-- what the selector, its radio and its card mean
pub record World : Type 0 where
  pub standing : Standing
  pub air : Air
  pub files : Files

abbrev pub world : Standing → Air → Files → World
world s a fs = record { standing = s; air = a; files = fs }

-- a new selector with this supported set, switched on, over a radio and a card
abbrev pub started : ℕ → Air → Files → World
started supported a fs = world (switched_on (fresh supported)) a fs
