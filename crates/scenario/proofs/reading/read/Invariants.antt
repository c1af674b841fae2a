use Rattle.std.proofs.Common.{◌≡◌, ◌+◌, length, Ok}
use Rattle.words.specs.Lines.{lines_of}
use Rattle.scenario.specs.Boards.{board_of}
use Rattle.scenario.specs.Texts.{read_on, read_text}
use Rattle.scenario.proofs.reading.read.Given as goal

abbrev pub invariant-loop-line : goal.invariant-loop-line
invariant-loop-line l =
    ((goal.iterator-loop-line).can_next l.line-iterator) × ((goal.iterator-loop-line).is_finite l.line-iterator)
    × (l.line-iterator.count + length (lines_of l.line-iterator.iter.0.now) ≡ length (lines_of l.text))
    × (read_on l.line-iterator.count (Ok (board_of l.scenario)) (lines_of l.line-iterator.iter.0.now) ≡ read_text l.text)
