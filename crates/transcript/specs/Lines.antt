-- The line of each call.
use Rattle.std.specs.Prelude.{ℕ, List, [], ◌++◌, codes}
use Rattle.agreement.specs.Histories.{Seen}
use Rattle.agreement.specs.declared.call.Call.{Call}
use Rattle.agreement.specs.declared.call.Call.TheVariants.{Run, Look, Pick, Loss, ChangeMode, Restart}
use Rattle.agreement.specs.declared.call.Reply.{Reply}
use Rattle.agreement.specs.declared.call.Reply.TheVariants.{Ran, Looked, Picked, Lost, Changed, Restarted}
use Rattle.replies.specs.Texts.{spaced, state_text, ran_text, looked_text, picked_text, mode_text}

abbrev pub call_name : Call → List ℕ
call_name (Run draw) = codes "run"
call_name Look = codes "look"
call_name (Pick place) = codes "pick"
call_name Loss = codes "loss"
call_name ChangeMode = codes "mode"
call_name Restart = codes "restart"

abbrev pub call_number : Call → List ℕ
call_number (Run draw) = spaced draw
call_number Look = []
call_number (Pick place) = spaced place
call_number Loss = []
call_number ChangeMode = []
call_number Restart = []

-- the words of a call
abbrev pub call_text : Call → List ℕ
call_text c = call_name c ++ call_number c

-- what it answers, and the places that a run tried
abbrev pub reply_text : Reply → List ℕ → List ℕ
reply_text (Ran r) places = ran_text r places
reply_text (Looked r) places = looked_text r
reply_text (Picked r) places = picked_text r
reply_text (Lost s) places = state_text s
reply_text (Changed m) places = mode_text m
reply_text Restarted places = codes "on"

abbrev pub line_text : Call → Reply → List ℕ → List ℕ
line_text c r places = call_text c ++ (codes ": " ++ (reply_text r places ++ codes "\n"))

abbrev pub seen_text : Seen → List ℕ
seen_text s = line_text s.call s.reply s.trail
