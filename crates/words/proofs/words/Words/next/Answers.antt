use Rattle.std.proofs.Common.{rules}
use Rattle.std.proofs.lemmas.List.{take_rest}
use Rattle.words.proofs.words.Words.next.Goals as goal

pub returns : goal.returns
returns c = record { value = search (rules, take_rest); after = search (rules, take_rest) }
