-- An area is a code and a number; the empty one is the empty code with 0.
use Rattle.std.specs.Prelude.{Bool, ◌&&◌, ◌==◌}
use Rattle.plmn.specs.declared.area.Area.{Area}
use Rattle.plmn.specs.declared.row.Row.{Row}
use Rattle.plmn.specs.Codes.{empty_code, same_code}

abbrev pub same_area : Area → Area → Bool
same_area a b = same_code a.code b.code && a.number == b.number

abbrev pub empty_area : Area
empty_area = record { code = empty_code; number = 0 }

-- the area that a row lies in
abbrev pub area_of : Row → Area
area_of r = record { code = r.code; number = r.area }
