-- Where a row of a joined sky stands below.
use Rattle.std.specs.Prelude.{◌≡◌, ℕ, ◌-◌, ◌<◌, ◌≤◌, Ok, Err, Result}
use Rattle.refusal.specs.declared.Refusal.{Refusal}
use Rattle.refusal.specs.declared.Refusal.TheVariants.{NoRow}
use Rattle.joined_places.specs.declared.side.Side.{Side}
use Rattle.joined_places.specs.declared.side.Side.TheVariants.{First, Second}

abbrev pub Stands : ℕ → ℕ → Result Side Refusal → Type 0
Stands place n (Ok (First below)) = (place < 20) × (place < n) × (below ≡ place)
Stands place n (Ok (Second below)) = (place < 20) × (n ≤ place) × (below ≡ place - n)
Stands place n (Err refusal) = (20 ≤ place) × (refusal ≡ NoRow)
