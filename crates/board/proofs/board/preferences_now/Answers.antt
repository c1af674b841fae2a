use Rattle.std.proofs.Common.{refl, subst}
use Rattle.card.specs.Files.{Files}
use Rattle.subscriber.specs.Subscribers.{Reads}
use Rattle.board.proofs.board.preferences_now.Goals as goal

pub returns-clause-answer : goal.returns-clause-answer
returns-clause-answer g c = (
  record {
    card = (c.in-Ok.identity, c.in-Ok.ensures.answer, subst (λ (fs : Files). Reads fs c.in-Ok.identity c.read-lists.result) c.in-Ok.ensures.same c.read-lists.ensures.value);
    codes = c.equivalents.ensures;
  },
  refl,
)
