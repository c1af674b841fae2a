use Rattle.std.proofs.Common.{◌≡◌}
use Rattle.answers.proofs.wording.describe_card.Given as goal

abbrev pub invariant-loop-file : goal.invariant-loop-file
invariant-loop-file g l = g.C.Card.files l.card ≡ g.C.Card.files l.initial.card
