use Rattle.std.proofs.Common.{rules}
use Rattle.std.proofs.lemmas.List.{map_more, take_all}
use Rattle.entry_list.specs.declared.listed.Listed.{Listed}
use Rattle.code_list.proofs.gathering.all_codes.Goals as goal

pub loop-e-preserved : goal.loop-e-preserved
loop-e-preserved c = search (rules, map_more (λ (e : Listed). e.code))

pub returns : goal.returns
returns c = search (rules, take_all)
