use Rattle.std.proofs.Common.{◌≡◌, ◌-◌, length, Ok}
use Rattle.statements.specs.Statements.{no_codes, codes_from}
use Rattle.statements.proofs.parsing.read_codes.Given as goal

abbrev pub invariant-loop-i : goal.invariant-loop-i
invariant-loop-i l = (l.codes.count ≡ l._i) × (length l.codes.codes ≡ 5)
    × (codes_from (5 - l._i) (Ok l.codes) l.words.rest.now ≡ codes_from 5 (Ok no_codes) l.initial.words.rest.now)
