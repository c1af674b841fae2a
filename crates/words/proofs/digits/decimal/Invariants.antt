use Rattle.std.proofs.Common.{◌≡◌, ◌≤◌, drop, Some}
use Rattle.words.specs.Digits.{digits_from}
use Rattle.words.proofs.digits.decimal.Given as goal

abbrev pub invariant-loop-digit : goal.invariant-loop-digit
invariant-loop-digit l = (l.so_far ≤ l.most) × (digits_from l.most (Some l.so_far) (drop l.digit-index l.word) ≡ digits_from l.most (Some 0) l.word)
