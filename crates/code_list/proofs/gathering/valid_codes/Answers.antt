use Rattle.std.proofs.Common.{rules}
use Rattle.std.proofs.lemmas.List.{take_all}
use Rattle.code_list.proofs.Gathered.{valid_more_yes, valid_more_no}
use Rattle.code_list.proofs.gathering.valid_codes.Goals as goal

pub loop-e-preserved : goal.loop-e-preserved
loop-e-preserved c = search (rules, valid_more_yes, valid_more_no)

pub returns : goal.returns
returns c = search (rules, take_all)
