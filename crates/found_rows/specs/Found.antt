-- The rows that a `Rows` holds.
use Rattle.std.specs.Prelude.{List}
use Rattle.bounded.specs.Held.{held}
use Rattle.plmn.specs.declared.row.Row.{Row}
use Rattle.found_rows.specs.declared.rows.Rows.{Rows}

abbrev pub rows_in : Rows → List Row
rows_in r = held r.held
