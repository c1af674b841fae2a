-- What a play prints: the line of each call of a scenario, and what the call leaves.
use Rattle.std.specs.Prelude.{ℕ, zero, suc, Bool, false, cond, List, [], ◌∷◌, ◌++◌, Some, None, codes, decimal, Option}
use Rattle.std.specs.Option.{unwrap_or, option_map}
use Rattle.std.specs.List.{slice_get}
use Rattle.answers.specs.Printed.{card_text}
use Rattle.radio.specs.Airs.{Cell}
use Rattle.replies.specs.Texts.{places_text}
use Rattle.transcript.specs.Lines.{reply_text}
use Rattle.agreement.specs.Rules.{reply_of, places_of, left_by}
use Rattle.agreement.specs.Worlds.{World}
use Rattle.agreement.specs.declared.call.Call.{Call as Made}
use Rattle.agreement.specs.declared.call.Call.TheVariants.{Run as RunMade, Look as LookMade, Pick as PickMade, ChangeMode, Restart as RestartMade}
use Rattle.statements.specs.declared.statement.Call.{Call}
use Rattle.statements.specs.declared.statement.Call.TheVariants.{Card, Marks, Run, Look, Pick, Mode, Restart}

-- the row at a place of the sky was tried
abbrev pub tried_at : List Cell → ℕ → Bool
tried_at cells place = unwrap_or (option_map (λ c. c.tried) (slice_get cells place)) false

-- the tried places below a number, the lowest first
abbrev pub marked_below : List Cell → ℕ → List ℕ
marked_below cells zero = []
marked_below cells (suc n) = marked_below cells n ++ cond (tried_at cells n) (n ∷ []) []

abbrev pub marks_text : List Cell → List ℕ
marks_text cells = codes "marks:" ++ (places_text (marked_below cells 20) ++ codes "\n")

-- what the selector answers to a call
abbrev pub answer_text : Made → ℕ → World → List ℕ
answer_text call room w = reply_text (reply_of call room w) (places_of call room w) ++ codes "\n"

-- the trail of a run has twenty numbers where its statement says nothing
abbrev pub room_of : Option ℕ → ℕ
room_of room = unwrap_or room 20

abbrev pub words_of_run : ℕ → Option ℕ → List ℕ
words_of_run draw None = codes "run " ++ (decimal draw ++ codes ": ")
words_of_run draw (Some room) = codes "run " ++ (decimal draw ++ (codes " " ++ (decimal room ++ codes ": ")))

-- the line of a call, or for a card as many lines as it has files and one
abbrev pub line_of : List ℕ → Call → World → List ℕ
line_of numbers Card w = card_text w.files numbers
line_of numbers Marks w = marks_text w.air.here
line_of numbers (Run draw room) w = words_of_run draw room ++ answer_text (RunMade draw) (room_of room) w
line_of numbers Look w = codes "look: " ++ answer_text LookMade 0 w
line_of numbers (Pick place) w = (codes "pick " ++ (decimal place ++ codes ": ")) ++ answer_text (PickMade place) 0 w
line_of numbers Mode w = codes "mode: " ++ answer_text ChangeMode 0 w
line_of numbers Restart w = codes "restart: " ++ answer_text RestartMade 0 w

-- what the call leaves
abbrev pub left_after : Call → World → World
left_after Card w = w
left_after Marks w = w
left_after (Run draw room) w = left_by (RunMade draw) (room_of room) w
left_after Look w = left_by LookMade 0 w
left_after (Pick place) w = left_by (PickMade place) 0 w
left_after Mode w = left_by ChangeMode 0 w
left_after Restart w = left_by RestartMade 0 w

-- the lines of all calls, each made where the one before it left off
abbrev pub play_text : List ℕ → List Call → World → List ℕ
play_text numbers [] w = []
play_text numbers (c ∷ cs) w = line_of numbers c w ++ play_text numbers cs (left_after c w)
