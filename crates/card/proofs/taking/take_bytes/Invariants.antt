use Rattle.std.proofs.Common.{◌≡◌, take}
use Rattle.bounded.specs.Held.{held}
use Rattle.card.specs.Files.{bytes_of}
use Rattle.card.proofs.taking.take_bytes.Given as goal

abbrev pub invariant-loop-at : goal.invariant-loop-at
invariant-loop-at g l =
    (g.C.Card.files l.card ≡ g.C.Card.files l.initial.card)
    × (held l.bytes ≡ take l.at (bytes_of (g.C.Card.files l.initial.card l.file)))
