use Rattle.std.proofs.Common.{◌≡◌, List, ◌++◌, length, drop}
use Rattle.selector.specs.Views.{standing}
use Rattle.agreement.specs.Histories.{Seen, lengths, history, finally, overwritten}
use Rattle.agreement.specs.Worlds.{world}
use Rattle.agreement.proofs.playing.play_calls.Given as goal

abbrev pub invariant-loop-i : goal.invariant-loop-i
invariant-loop-i g l =
    ((s : List Seen) → g.W.Recorder.heard l.initial.recorder s → (m : List Seen) × g.W.Recorder.heard l.recorder m
    × (m ++ history (drop l.i l.calls) (drop l.i (lengths l.rooms l.initial.trail)) (world (standing l.on) (g.R.Registrar.air l.radio) (g.C.Card.files l.card))
    ≡ s ++ history l.calls (lengths l.rooms l.initial.trail) (world (standing l.initial.on) (g.R.Registrar.air l.initial.radio) (g.C.Card.files l.initial.card))))
    × (finally (drop l.i l.calls) (drop l.i (lengths l.rooms l.initial.trail)) (world (standing l.on) (g.R.Registrar.air l.radio) (g.C.Card.files l.card))
    ≡ finally l.calls (lengths l.rooms l.initial.trail) (world (standing l.initial.on) (g.R.Registrar.air l.initial.radio) (g.C.Card.files l.initial.card)))
    × (overwritten (history (drop l.i l.calls) (drop l.i (lengths l.rooms l.initial.trail)) (world (standing l.on) (g.R.Registrar.air l.radio) (g.C.Card.files l.card))) l.trail
    ≡ overwritten (history l.calls (lengths l.rooms l.initial.trail) (world (standing l.initial.on) (g.R.Registrar.air l.initial.radio) (g.C.Card.files l.initial.card))) l.initial.trail)
    × (length l.trail ≡ length l.initial.trail)
