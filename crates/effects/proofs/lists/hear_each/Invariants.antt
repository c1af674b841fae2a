use Rattle.std.proofs.Common.{◌≡◌, take, fold}
use Rattle.effects.specs.Kept.{affected}
use Rattle.effects.specs.Lists.{lists_of}
use Rattle.effects.proofs.lists.hear_each.Given as goal

abbrev pub invariant-loop-h : goal.invariant-loop-h
invariant-loop-h l = lists_of l.after ≡ fold (affected l.home) (lists_of l.initial.after) (take l.h-index l.heard)
