use Rattle.std.proofs.Common.{◌≡◌, ◌+◌, ◌++◌, length, take}
use Rattle.bounded.specs.Held.{held}
use Rattle.effects.specs.Cards.{code_bytes}
use Rattle.effects.proofs.writing.push_code.Given as goal

abbrev pub invariant-loop-byte : goal.invariant-loop-byte
invariant-loop-byte l =
    (held l.bytes ≡ held l.fn.bytes ++ take l.byte-index l.byte-items) × (length (held l.bytes) ≡ length (held l.fn.bytes) + l.byte-index) × (l.byte-items ≡ code_bytes l.fn.code)
