-- A scenario is what the lines of its text add, one after another.
use Rattle.std.specs.Prelude.{◌≡◌, ℕ, ◌+◌, ◌≤◌, false, List, [], ◌∷◌, length, Ok, Err, Result}
use Rattle.scenario.specs.Boards.{Board, board_of, empty_board, extended}
use Rattle.scenario.specs.Outcomes.{memory_failed}
use Rattle.words.specs.Lines.{lines_of, unreturned}
use Rattle.statements.specs.Statements.{Sentence, sentence_of}
use Rattle.statements.specs.declared.fault.Fault.{Fault}
use Rattle.statements.specs.declared.fault.Reason.{Reason}
use Rattle.scenario.specs.declared.scenarios.Scenario.{Scenario}

abbrev pub extended_by : Board → Result Sentence Reason → Result Board Reason
extended_by b (Err e) = Err e
extended_by b (Ok s) = extended b s

abbrev pub with_line : Board → List ℕ → Result Board Reason
with_line b line = extended_by b (sentence_of (unreturned line))

-- the lines behind the first n, of which the last gave this; the first that is refused ends it
abbrev pub read_on : ℕ → Result Board Reason → List (List ℕ) → Result Board Fault
read_on n (Err e) ls = Err (record { line = n; reason = e })
read_on n (Ok b) [] = Ok b
read_on n (Ok b) (l ∷ ls) = read_on (n + 1) (with_line b l) ls

abbrev pub read_text : List ℕ → Result Board Fault
read_text text = read_on 0 (Ok empty_board) (lines_of text)

-- what was read is what the text says, unless memory failed
abbrev pub DueText : Result Board Fault → Result Scenario Fault → Type 0
DueText due (Ok s) = due ≡ Ok (board_of s)
DueText due (Err f) = memory_failed f.reason ≡ false → due ≡ Err f

-- a refusal names a line of the text
abbrev pub InText : List ℕ → Result Scenario Fault → Type 0
InText text (Ok s) = Unit {0}
InText text (Err f) = (1 ≤ f.line) × (f.line ≤ length (lines_of text))
