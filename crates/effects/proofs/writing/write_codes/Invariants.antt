use Rattle.std.proofs.Common.{◌≡◌, ◌*◌, length, take}
use Rattle.bounded.specs.Held.{held}
use Rattle.effects.specs.Cards.{codes_bytes}
use Rattle.effects.proofs.writing.write_codes.Given as goal

abbrev pub invariant-loop-code : goal.invariant-loop-code
invariant-loop-code g l = (held l.bytes ≡ codes_bytes (take l.code-index l.code-items)) × (length (held l.bytes) ≡ 3 * l.code-index)
