use Rattle.std.proofs.Common.{◌≡◌, ◌≤◌, length, take}
use Rattle.code_list.specs.Codes.{codes_in, valid_codes}
use Rattle.code_list.proofs.gathering.valid_codes.Given as goal

abbrev pub invariant-loop-e : goal.invariant-loop-e
invariant-loop-e l = (codes_in l.found ≡ valid_codes (take l.e-index l.e-items)) × (length (codes_in l.found) ≤ l.e-index) × (length l.e-items ≤ 80)
