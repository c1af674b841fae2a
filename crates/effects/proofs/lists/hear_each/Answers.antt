use Rattle.std.proofs.Common.{rules}
use Rattle.std.proofs.lemmas.List.{take_all}
use Rattle.std.proofs.lemmas.List.Sums.{fold_more}
use Rattle.effects.specs.Kept.{affected}
use Rattle.effects.proofs.lists.hear_each.Goals as goal

pub loop-h-preserved : goal.loop-h-preserved
loop-h-preserved c = search (rules, fold_more (affected c.args.home.now))

pub returns : goal.returns
returns c = search (rules, take_all)
