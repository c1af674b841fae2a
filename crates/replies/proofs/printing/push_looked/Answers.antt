use Rattle.std.proofs.Common.{rules}
use Rattle.std.proofs.lemmas.List.{append_assoc}
use Rattle.replies.proofs.printing.push_looked.Goals as goal

pub returns-in_ok-push_decimal-in-Ok : goal.returns-in_ok-push_decimal-in-Ok
returns-in_ok-push_decimal-in-Ok c = search (rules, append_assoc)
