-- The list that an `EntryList` holds.
use Rattle.std.specs.Prelude.{List}
use Rattle.bounded.specs.Held.{held}
use Rattle.entry_list.specs.declared.list.EntryList.{EntryList}
use Rattle.entry_list.specs.declared.listed.Listed.{Listed}

abbrev pub list_of : EntryList → List Listed
list_of l = held l.held
