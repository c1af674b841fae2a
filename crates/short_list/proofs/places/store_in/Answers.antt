use Rattle.std.proofs.Common.{rules}
use Rattle.short_list.proofs.Lemmas.{stored_none}
use Rattle.short_list.proofs.places.store_in.Goals as goal

pub returns-then-is_empty : goal.returns-then-is_empty
returns-then-is_empty g c = search (rules, stored_none)
