use Rattle.std.proofs.Common.{◌≡◌, ℕ, Bool, false, Option, List, length, take, ap, ◌∙◌}
use Rattle.std.specs.Option.{unwrap_or}
use Rattle.plain.proofs.TriedPlaces.{tried_here}
use Rattle.plain.proofs.marks.TableRadioMarked.was_tried.Goals as goal

pub returns-in-Some : goal.returns-in-Some
returns-in-Some c = ap (λ (o : Option Bool). unwrap_or o false) c.in-Some.ensures ∙ tried_here c.args.self.now.here.now c.args.self.now.tried c.args.place

pub returns-in-None : goal.returns-in-None
returns-in-None c = ap (λ (o : Option Bool). unwrap_or o false) c.in-None.ensures ∙ tried_here c.args.self.now.here.now c.args.self.now.tried c.args.place
