-- The rows of a sky with the answers of their networks, and which of them are shut at their turn.
use Rattle.std.specs.Prelude.{ℕ, Bool, ◌||◌, List, map, pos, slice_index_or}
use Rattle.plmn.specs.Areas.{same_area, area_of}
use Rattle.plmn.specs.Codes.{empty_code}
use Rattle.plmn.specs.declared.area.Area.{Area}
use Rattle.plmn.specs.declared.row.Row.{Row}
use Rattle.short_list.specs.Places.{held_in}
use Rattle.radio.specs.Airs.{Cell, answer_of}
use Rattle.radio.specs.declared.answer.Answer.TheVariants.{Silence}
use Rattle.causes.specs.Closing.{closed}
use Rattle.causes.specs.declared.heard.Heard.{Heard}

-- a row with what its network answers
abbrev pub heard_in : Cell → Heard
heard_in c = record { row = c.offer.row; answer = answer_of c.offer.reply }

abbrev pub heard_sky : List Cell → List Heard
heard_sky cells = map heard_in cells

abbrev pub nothing : Heard
nothing = record { row = record { code = empty_code; technology = 0; area = 0; level = pos 0 }; answer = Silence }

-- the row at a place, with its answer
abbrev pub at : List Heard → ℕ → Heard
at sky p = slice_index_or sky p nothing

-- the row's area is in one of the two area lists
abbrev pub barred : List Area → List Area → Row → Bool
barred roaming regional r = held_in same_area (area_of r) roaming || held_in same_area (area_of r) regional

-- a row is shut at its turn if it was barred at the start, or something heard before in this run closes it
abbrev pub shut : (Row → Bool) → List Heard → Row → Bool
shut bar done r = bar r || closed done r
