use Rattle.std.proofs.Common.{◌≡◌, ◌≤◌, length, take}
use Rattle.code_list.specs.Codes.{codes_in, codes_of}
use Rattle.code_list.proofs.gathering.all_codes.Given as goal

abbrev pub invariant-loop-e : goal.invariant-loop-e
invariant-loop-e l = (codes_in l.codes ≡ codes_of (take l.e-index l.e-items)) × (length (codes_in l.codes) ≤ l.e-index) × (length l.e-items ≤ 80)
