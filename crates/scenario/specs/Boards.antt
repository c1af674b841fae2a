-- What a scenario holds, and what one more statement makes of it.
use Rattle.std.specs.Prelude.{ℕ, ◌-◌, Bool, true, false, cond, not, ◌&&◌, List, [], ◌∷◌, ◌++◌, length, Ok, Err, vec_items, Result, ◌==◌}
use Rattle.packed_card.specs.declared.entry.Entry.{Entry}
use Rattle.scenario.specs.Bytes.{with_bytes}
use Rattle.statements.specs.Statements.{Sentence, nothing, supported, file, image, entry, sky, row, call}
use Rattle.statements.specs.declared.fault.Reason.{Reason}
use Rattle.statements.specs.declared.fault.Reason.TheVariants.{RowBeforeSky, BoardAfterCall}
use Rattle.scenario.specs.declared.scenarios.Scenario.{Scenario}
use Rattle.statements.specs.declared.statement.Call.{Call}
use Rattle.statements.specs.declared.statement.SkyRow.{SkyRow}

-- skies holds, for each sky, how many rows stand before it
pub record Board : Type 0 where
  pub set : ℕ
  pub bytes : List ℕ
  pub directory : List Entry
  pub skies : List ℕ
  pub rows : List SkyRow
  pub calls : List Call

abbrev pub board_of : Scenario → Board
board_of s = record {
  set = s.supported;
  bytes = vec_items s.image;
  directory = vec_items s.directory;
  skies = vec_items s.skies;
  rows = vec_items s.rows;
  calls = vec_items s.calls;
}

-- all three technologies, and nothing else
abbrev pub empty_board : Board
empty_board = record { set = 0xC080; bytes = []; directory = []; skies = []; rows = []; calls = [] }

abbrev pub with_set : Board → ℕ → Board
with_set b set = record { set = set; bytes = b.bytes; directory = b.directory; skies = b.skies; rows = b.rows; calls = b.calls }

abbrev pub with_image : Board → List ℕ → Board
with_image b bytes = record { set = b.set; bytes = bytes; directory = b.directory; skies = b.skies; rows = b.rows; calls = b.calls }

abbrev pub with_entry : Board → Entry → Board
with_entry b e = record { set = b.set; bytes = b.bytes; directory = b.directory ++ e ∷ []; skies = b.skies; rows = b.rows; calls = b.calls }

abbrev pub with_sky : Board → Board
with_sky b = record { set = b.set; bytes = b.bytes; directory = b.directory; skies = b.skies ++ length b.rows ∷ []; rows = b.rows; calls = b.calls }

abbrev pub with_row : Board → SkyRow → Board
with_row b r = record { set = b.set; bytes = b.bytes; directory = b.directory; skies = b.skies; rows = b.rows ++ r ∷ []; calls = b.calls }

abbrev pub with_call : Board → Call → Board
with_call b c = record { set = b.set; bytes = b.bytes; directory = b.directory; skies = b.skies; rows = b.rows; calls = b.calls ++ c ∷ [] }

abbrev pub image_by : Board → Result (List ℕ) Reason → Result Board Reason
image_by b (Err e) = Err e
image_by b (Ok bytes) = Ok (with_image b bytes)

-- the file's entry is the stretch that its bytes take behind the image
abbrev pub file_in : Board → ℕ → Result (List ℕ) Reason → Result Board Reason
file_in b number (Err e) = Err e
file_in b number (Ok bytes) = Ok (with_entry (with_image b bytes) (record { file = number; start = length b.bytes; length = length bytes - length b.bytes }))

abbrev pub row_in : Board → SkyRow → Result Board Reason
row_in b r = cond (length b.skies == 0) (Err RowBeforeSky) (Ok (with_row b r))

-- what a statement adds
abbrev pub put : Board → Sentence → Result Board Reason
put b nothing = Ok b
put b (supported set) = Ok (with_set b set)
put b (file number line) = file_in b number (with_bytes b.bytes line)
put b (image line) = image_by b (with_bytes b.bytes line)
put b (entry e) = Ok (with_entry b e)
put b sky = Ok (with_sky b)
put b (row r) = row_in b r
put b (call c) = Ok (with_call b c)

abbrev pub of_board : Sentence → Bool
of_board nothing = false
of_board (supported set) = true
of_board (file number line) = true
of_board (image line) = true
of_board (entry e) = true
of_board sky = true
of_board (row r) = true
of_board (call c) = false

-- a statement of the board stands before the first call
abbrev pub extended : Board → Sentence → Result Board Reason
extended b s = cond (of_board s && not (length b.calls == 0)) (Err BoardAfterCall) (put b s)
