-- The file that an image stands for.
use Rattle.std.specs.Prelude.{Some, None, Option, ℕ}
use Rattle.bounded.specs.declared.bounded.Bounded.{Bounded}
use Rattle.bounded.specs.Held.{held}
use Rattle.card.specs.Files.{File}
use Rattle.card.specs.declared.image.FileImage.{FileImage}

abbrev pub file_of : Option (Bounded ℕ 240) → File
file_of None = None
file_of (Some b) = Some (held b)

abbrev pub image_of : FileImage → File
image_of i = file_of i.held
