use Rattle.std.proofs.Common.{◌≡◌, ◌≤◌, length}
use Rattle.subscriber.specs.Codes.{codes_in}
use Rattle.effects.specs.Accepted.{accepted_codes}
use Rattle.effects.proofs.equivalents.accepted_codes.Given as goal

abbrev pub invariant-loop-i : goal.invariant-loop-i
invariant-loop-i g l = (codes_in l.codes ≡ accepted_codes (g.R.Registrar.air l.initial.radio).here l.place l.i) × (length (codes_in l.codes) ≤ l.i)
    × (g.R.Registrar.air l.radio ≡ g.R.Registrar.air l.initial.radio) × (g.R.Finder.sky l.radio ≡ g.R.Finder.sky l.initial.radio)
