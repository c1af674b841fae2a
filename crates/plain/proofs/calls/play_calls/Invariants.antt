use Rattle.std.proofs.Common.{◌≡◌, ◌++◌, drop, string_bytes}
use Rattle.selector.specs.Views.{standing}
use Rattle.agreement.specs.Worlds.{world}
use Rattle.plain.specs.Plays.{play_text}
use Rattle.plain.proofs.calls.play_calls.Given as goal

abbrev pub invariant-loop-call : goal.invariant-loop-call
invariant-loop-call g l =
    string_bytes l.out ++ play_text l.numbers (drop l.call-index l.calls) (world (standing l.on) (g.R.Registrar.air l.radio) (g.C.Card.files l.card))
    ≡ string_bytes l.initial.out ++ play_text l.numbers l.calls (world (standing l.initial.on) (g.R.Registrar.air l.initial.radio) (g.C.Card.files l.initial.card))
