-- What a finder means: the rows of the sky now and of the skies to come, and what a search makes of them.
use Rattle.std.specs.Prelude.{ℕ, ◌≤◌, List, [], ◌∷◌, length, Result}
use Rattle.std.specs.Option.{ok_or}
use Rattle.std.specs.List.{AllByRecursion, slice_get}
use Rattle.refusal.specs.declared.Refusal.{Refusal}
use Rattle.refusal.specs.declared.Refusal.TheVariants.{NoRow}
use Rattle.plmn.specs.declared.row.Row.{Row}

pub record Sky : Type 0 where
  pub here : List Row
  pub coming : List (List Row)

-- the first sky to come, and the empty one where none waits
abbrev pub front : {X : Type 0} → List (List X) → List X
front [] = []
front (s ∷ _) = s

-- the skies after the first
abbrev pub later : {X : Type 0} → List (List X) → List (List X)
later [] = []
later (_ ∷ t) = t

-- a search makes the first sky to come the sky now
abbrev pub searched : Sky → Sky
searched s = record { here = front s.coming; coming = later s.coming }

-- the row at a place, or the refusal
abbrev pub row_at : List Row → ℕ → Result Row Refusal
row_at rows place = ok_or (slice_get rows place) NoRow

-- at most twenty
abbrev pub Few : {X : Type 0} → List X → Type 0
Few rows = length rows ≤ 20

-- every sky, now or to come, has at most twenty rows
pub record SmallSky (s : Sky) : Type 0 where
  pub few : Few s.here
  pub few_coming : AllByRecursion Few s.coming
