-- What a line says: its first word tells which statement it is, and the others are that statement's own.
use Rattle.std.specs.Prelude.{◌≡◌, ℕ, zero, suc, ◌+◌, cond, List, set, replicate, ℤ, Some, None, Ok, Err, codes, Option, Result}
use Rattle.std.specs.Str.{bytes_eq}
use Rattle.packed_card.specs.declared.entry.Entry.{Entry}
use Rattle.plmn.specs.Codes.{empty_code}
use Rattle.plmn.specs.declared.code.Code.{Code}
use Rattle.plmn.specs.declared.row.Row.{Row}
use Rattle.statements.specs.Arguments.{asked}
use Rattle.words.specs.Digits.{four_value, six_value, number_up_to, level_value}
use Rattle.words.specs.Words.{word_of, past_word, bare}
use Rattle.statements.specs.declared.fault.Reason.{Reason}
use Rattle.statements.specs.declared.fault.Reason.TheVariants.{UnknownWord, MissingWord, ExtraWord, NotFourDigits, NotSixDigits, NotUpTo, NotALevel, NotAnAnswer, TooManyCodes}
use Rattle.statements.specs.declared.statement.Answer.{Answer}
use Rattle.statements.specs.declared.statement.Answer.TheVariants.{Accept, Cause, Silent}
use Rattle.statements.specs.declared.statement.Call.{Call}
use Rattle.statements.specs.declared.statement.Call.TheVariants.{Card, Marks, Run, Look, Pick, Mode, Restart}
use Rattle.statements.specs.declared.statement.Codes.{Codes}
use Rattle.statements.specs.declared.statement.Keyword.{Keyword}
use Rattle.statements.specs.declared.statement.Keyword.TheVariants as keyword
use Rattle.statements.specs.declared.statement.SkyRow.{SkyRow}
use Rattle.statements.specs.declared.statement.Statement.{Statement}
use Rattle.statements.specs.declared.statement.Statement.TheVariants as statement

-- the words of calls
abbrev pub call_keyword : List ℕ → Option Keyword
call_keyword w =
    cond (bytes_eq w (codes "marks")) (Some keyword.Marks) (cond (bytes_eq w (codes "run")) (Some keyword.Run) (cond (bytes_eq w (codes "look")) (Some keyword.Look)
    (cond (bytes_eq w (codes "pick")) (Some keyword.Pick) (cond (bytes_eq w (codes "mode")) (Some keyword.Mode) (cond (bytes_eq w (codes "restart")) (Some keyword.Restart) None)))))

abbrev pub keyword_of : List ℕ → Option Keyword
keyword_of w =
    cond (bytes_eq w (codes "supported")) (Some keyword.Supported) (cond (bytes_eq w (codes "file")) (Some keyword.File) (cond (bytes_eq w (codes "image")) (Some keyword.Image)
    (cond (bytes_eq w (codes "entry")) (Some keyword.Entry) (cond (bytes_eq w (codes "sky")) (Some keyword.Sky) (cond (bytes_eq w (codes "row")) (Some keyword.Row)
    (cond (bytes_eq w (codes "card")) (Some keyword.Card) (call_keyword w)))))))

-- the next word, as a number of four digits, a code, a number or a level
abbrev pub four_at : List ℕ → Result ℕ Reason
four_at line = asked NotFourDigits four_value line

abbrev pub code_at : List ℕ → Result Code Reason
code_at line = asked NotSixDigits six_value line

abbrev pub up_to_at : ℕ → List ℕ → Result ℕ Reason
up_to_at most line = asked (NotUpTo most) (number_up_to most) line

abbrev pub level_at : List ℕ → Result ℤ Reason
level_at line = asked NotALevel level_value line

-- START and LENGTH may be any number of 64 bits
abbrev pub place_at : List ℕ → Result ℕ Reason
place_at line = up_to_at 18446744073709551615 line

abbrev pub entry_by : Result ℕ Reason → Result ℕ Reason → Result ℕ Reason → Result Entry Reason
entry_by (Err e) start length = Err e
entry_by (Ok f) (Err e) length = Err e
entry_by (Ok f) (Ok s) (Err e) = Err e
entry_by (Ok f) (Ok s) (Ok n) = Ok (record { file = f; start = s; length = n })

abbrev pub entry_at : List ℕ → Result Entry Reason
entry_at line = entry_by (four_at line) (place_at (past_word line)) (place_at (past_word (past_word line)))

abbrev pub row_by : Result Code Reason → Result ℕ Reason → Result ℕ Reason → Result ℤ Reason → Result Row Reason
row_by (Err e) technology area level = Err e
row_by (Ok c) (Err e) area level = Err e
row_by (Ok c) (Ok t) (Err e) level = Err e
row_by (Ok c) (Ok t) (Ok a) (Err e) = Err e
row_by (Ok c) (Ok t) (Ok a) (Ok l) = Ok (record { code = c; technology = t; area = a; level = l })

abbrev pub row_at : List ℕ → Result Row Reason
row_at line = row_by (code_at line) (up_to_at 255 (past_word line)) (up_to_at 65535 (past_word (past_word line))) (level_at (past_word (past_word (past_word line))))

-- the line has no further word
abbrev pub closed : {X : Type 0} → List ℕ → Result X Reason → Result X Reason
closed rest (Err e) = Err e
closed rest (Ok x) = cond (bare rest) (Ok x) (Err ExtraWord)

-- five places, of which none is used
abbrev pub no_codes : Codes
no_codes = record { codes = replicate 5 empty_code; count = 0 }

abbrev pub added : Codes → Code → Codes
added cs c = record { codes = set cs.codes cs.count c; count = cs.count + 1 }

abbrev pub with_code : Codes → Result Code Reason → Result Codes Reason
with_code cs (Err e) = Err e
with_code cs (Ok c) = Ok (added cs c)

-- at most n further codes, to the line's end
abbrev pub codes_from : ℕ → Result Codes Reason → List ℕ → Result Codes Reason
codes_from n (Err e) line = Err e
codes_from zero (Ok cs) line = cond (bare line) (Ok cs) (Err TooManyCodes)
codes_from (suc n) (Ok cs) line = cond (bare line) (Ok cs) (codes_from n (with_code cs (code_at line)) (past_word line))

abbrev pub accept_by : Result Codes Reason → Result Answer Reason
accept_by (Err e) = Err e
accept_by (Ok cs) = Ok (Accept cs)

abbrev pub cause_by : Result ℕ Reason → Result Answer Reason
cause_by (Err e) = Err e
cause_by (Ok n) = Ok (Cause n)

abbrev pub answer_by : List ℕ → List ℕ → Result Answer Reason
answer_by w rest =
    cond (bytes_eq w (codes "accept")) (accept_by (codes_from 5 (Ok no_codes) rest)) (cond (bytes_eq w (codes "cause")) (closed (past_word rest) (cause_by (up_to_at 255 rest)))
    (cond (bytes_eq w (codes "silent")) (closed rest (Ok Silent)) (Err NotAnAnswer)))

abbrev pub answer_at : List ℕ → Result Answer Reason
answer_at line = cond (bare line) (Err MissingWord) (answer_by (word_of line) (past_word line))

-- a statement, with the bytes that it writes as they stand on the line
pub data Sentence : Type 0 where
  nothing : Sentence
  supported : ℕ → Sentence
  file : ℕ → List ℕ → Sentence
  image : List ℕ → Sentence
  entry : Entry → Sentence
  sky : Sentence
  row : SkyRow → Sentence
  call : Call → Sentence

abbrev pub supported_by : Result ℕ Reason → Result Sentence Reason
supported_by (Err e) = Err e
supported_by (Ok set) = Ok (supported set)

abbrev pub file_by : Result ℕ Reason → List ℕ → Result Sentence Reason
file_by (Err e) rest = Err e
file_by (Ok number) rest = Ok (file number rest)

abbrev pub entry_sentence : Result Entry Reason → Result Sentence Reason
entry_sentence (Err e) = Err e
entry_sentence (Ok e) = Ok (entry e)

abbrev pub row_sentence : Result Row Reason → Result Answer Reason → Result Sentence Reason
row_sentence (Err e) answer = Err e
row_sentence (Ok r) (Err e) = Err e
row_sentence (Ok r) (Ok a) = Ok (row (record { row = r; answer = a }))

abbrev pub call_sentence : Call → Sentence
call_sentence c = call c

abbrev pub pick_sentence : Result ℕ Reason → Result Sentence Reason
pick_sentence (Err e) = Err e
pick_sentence (Ok place) = Ok (call (Pick place))

-- the room of a trail, where it is written: a number up to 255
abbrev pub room_by : Result ℕ Reason → Result (Option ℕ) Reason
room_by (Err e) = Err e
room_by (Ok room) = Ok (Some room)

abbrev pub room_at : List ℕ → Result (Option ℕ) Reason
room_at line = cond (bare line) (Ok None) (closed (past_word line) (room_by (up_to_at 255 line)))

abbrev pub run_sentence : Result ℕ Reason → Result (Option ℕ) Reason → Result Sentence Reason
run_sentence (Err e) room = Err e
run_sentence (Ok draw) (Err e) = Err e
run_sentence (Ok draw) (Ok room) = Ok (call (Run draw room))

-- a call by its word
abbrev pub call_by : Keyword → List ℕ → Result Sentence Reason
call_by keyword.Run rest = run_sentence (place_at rest) (room_at (past_word rest))
call_by keyword.Pick rest = closed (past_word rest) (pick_sentence (place_at rest))
call_by keyword.Marks rest = closed rest (Ok (call Marks))
call_by keyword.Look rest = closed rest (Ok (call Look))
call_by keyword.Mode rest = closed rest (Ok (call Mode))
call_by keyword.Restart rest = closed rest (Ok (call Restart))
call_by keyword.Card rest = closed rest (Ok (call Card))
call_by keyword.Supported rest = closed rest (Ok (call Card))
call_by keyword.File rest = closed rest (Ok (call Card))
call_by keyword.Image rest = closed rest (Ok (call Card))
call_by keyword.Entry rest = closed rest (Ok (call Card))
call_by keyword.Sky rest = closed rest (Ok (call Card))
call_by keyword.Row rest = closed rest (Ok (call Card))

abbrev pub sentence_by : Keyword → List ℕ → Result Sentence Reason
sentence_by keyword.Supported rest = closed (past_word rest) (supported_by (four_at rest))
sentence_by keyword.File rest = file_by (four_at rest) (past_word rest)
sentence_by keyword.Image rest = Ok (image rest)
sentence_by keyword.Entry rest = closed (past_word (past_word (past_word rest))) (entry_sentence (entry_at rest))
sentence_by keyword.Sky rest = closed rest (Ok sky)
sentence_by keyword.Row rest = row_sentence (row_at rest) (answer_at (past_word (past_word (past_word (past_word rest)))))
sentence_by keyword.Card rest = call_by keyword.Card rest
sentence_by keyword.Marks rest = call_by keyword.Marks rest
sentence_by keyword.Run rest = call_by keyword.Run rest
sentence_by keyword.Look rest = call_by keyword.Look rest
sentence_by keyword.Pick rest = call_by keyword.Pick rest
sentence_by keyword.Mode rest = call_by keyword.Mode rest
sentence_by keyword.Restart rest = call_by keyword.Restart rest

abbrev pub known : Option Keyword → List ℕ → Result Sentence Reason
known None rest = Err UnknownWord
known (Some k) rest = sentence_by k rest

-- the statement of a line
abbrev pub sentence_of : List ℕ → Result Sentence Reason
sentence_of line = cond (bare line) (Ok nothing) (known (keyword_of (word_of line)) (past_word line))

abbrev pub meant : Statement → Sentence
meant statement.Nothing = nothing
meant (statement.Supported set) = supported set
meant (statement.File number line) = file number line.now
meant (statement.Image line) = image line.now
meant (statement.Entry e) = entry e
meant statement.Sky = sky
meant (statement.Row r) = row r
meant (statement.Call c) = call c

-- what was read is what the line says
abbrev pub Means : Result Sentence Reason → Result Statement Reason → Type 0
Means due (Ok s) = due ≡ Ok (meant s)
Means due (Err e) = due ≡ Err e
