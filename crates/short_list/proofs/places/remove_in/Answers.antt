use Rattle.std.proofs.Common.{rules}
use Rattle.std.proofs.lemmas.List.{take_all, drop_all}
use Rattle.std.proofs.lemmas.List.Edits.{map_over_more}
use Rattle.short_list.specs.Places.{emptied}
use Rattle.short_list.proofs.places.remove_in.Goals as goal

pub loop-p-preserved : goal.loop-p-preserved
loop-p-preserved g c = search (rules, map_over_more (emptied g.T.Same.alike g.T.Element.blank c.args.x))

pub returns : goal.returns
returns g c = search (rules, take_all, drop_all)
