-- The files of a card image.
use Rattle.std.specs.Prelude.{ℕ, ◌+◌, cond, List, length, take, drop, Some, None, Option, nat_le}
use Rattle.bounded.specs.Held.{held}
use Rattle.card.specs.Files.{File, Files}
use Rattle.packed_card.specs.declared.entry.Entry.{Entry}
use Rattle.packed_card.specs.declared.good.GoodEntries.{GoodEntries}
use Rattle.packed_card.specs.Directories.{goods, found}

-- the bytes of an entry
abbrev pub part : List ℕ → Option Entry → File
part image None = None
part image (Some e) = Some (take e.length (drop e.start image))

-- the files of an image with this directory: each number that a good entry has
abbrev pub packed_files : List ℕ → List Entry → Files
packed_files image directory = λ n. part image (found n (goods (length image) directory))

-- the same over entries that were found good before: one that leaves the image is passed over
abbrev pub kept : ℕ → Option Entry → Option Entry
kept size None = None
kept size (Some e) = cond (nat_le (e.start + e.length) size) (Some e) None

abbrev pub files_in : List ℕ → List Entry → Files
files_in image good = λ n. part image (kept (length image) (found n good))

abbrev pub listed : GoodEntries → List Entry
listed g = held g.entries
