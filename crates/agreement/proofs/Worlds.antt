-- Worlds are equal where their parts are.
use Rattle.std.proofs.Common.{◌≡◌}
use Rattle.card.specs.Files.{Files}
use Rattle.radio.specs.Airs.{Air}
use Rattle.states.specs.Standings.{Standing}
use Rattle.agreement.specs.Worlds.{world}

pub same_world : (s t : Standing) (a b : Air) (f g : Files) → s ≡ t → a ≡ b → f ≡ g → world s a f ≡ world t b g
same_world s t a b f g p q r = cc
