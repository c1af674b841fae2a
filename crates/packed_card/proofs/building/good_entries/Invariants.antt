use Rattle.std.proofs.Common.{◌≡◌, ◌≤◌, [], length, take, fold}
use Rattle.packed_card.specs.Packed.{listed}
use Rattle.packed_card.specs.Directories.{admitted}
use Rattle.packed_card.proofs.building.good_entries.Given as goal

abbrev pub invariant-loop-e : goal.invariant-loop-e
invariant-loop-e l = (listed l.good ≡ fold (admitted l.size) [] (take l.e-index l.e-items)) × (length (listed l.good) ≤ l.e-index) × (length l.e-items ≤ 12)
