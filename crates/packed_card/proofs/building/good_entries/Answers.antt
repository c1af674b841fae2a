use Rattle.std.proofs.Common.{rules}
use Rattle.std.proofs.lemmas.List.{take_all}
use Rattle.std.proofs.lemmas.List.Sums.{fold_more}
use Rattle.packed_card.specs.Directories.{admitted}
use Rattle.packed_card.proofs.building.good_entries.Goals as goal

pub loop-e-preserved : goal.loop-e-preserved
loop-e-preserved c = search (rules, fold_more (admitted c.args.size))

pub returns : goal.returns
returns c = search (rules, take_all)
