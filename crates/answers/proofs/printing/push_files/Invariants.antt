use Rattle.std.proofs.Common.{◌≡◌, ◌++◌, take, string_bytes}
use Rattle.std.specs.List.{flat_map}
use Rattle.answers.specs.Printed.{file_line}
use Rattle.answers.proofs.printing.push_files.Given as goal

abbrev pub invariant-loop-file : goal.invariant-loop-file
invariant-loop-file g l = (g.C.Card.files l.card ≡ g.C.Card.files l.initial.card)
    × (string_bytes l.out ≡ string_bytes l.initial.out ++ flat_map (file_line (g.C.Card.files l.initial.card)) (take l.file-index l.numbers))
