use Rattle.std.proofs.Common.{◌≡◌, ◌++◌, length, drop}
use Rattle.ranking.specs.Lists.{keys_in}
use Rattle.order.specs.Keys.{keys_from}
use Rattle.row_classes.specs.Preferred.{facts_of}
use Rattle.order.proofs.ordering.keys_of.Given as goal

abbrev pub invariant-loop-row : goal.invariant-loop-row
invariant-loop-row l = (length (keys_in l.keys) ≡ l.row-index)
    × (keys_in l.keys ++ keys_from (facts_of l.preferences) l.home l.row-index (drop l.row-index l.rows) ≡ keys_from (facts_of l.preferences) l.home 0 l.rows)
