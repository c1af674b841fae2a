use Rattle.std.proofs.Common.{Some, rules}
use Rattle.std.proofs.lemmas.List.{at_drop_more, at_drop_all}
use Rattle.words.specs.Digits.{digits_from}
use Rattle.words.proofs.digits.decimal.Goals as goal

pub returns-in_err-so_far : goal.returns-in_err-so_far
returns-in_err-so_far c = search (rules, at_drop_more (digits_from c.args.most (Some c.loop-digit.so_far)))

pub loop-digit-preserved : goal.loop-digit-preserved
loop-digit-preserved c = search (rules, at_drop_more (digits_from c.args.most (Some c.loop-digit.so_far)))

pub returns : goal.returns
returns c = search (rules, at_drop_all (digits_from c.args.most (Some c.loop-digit.so_far)))
