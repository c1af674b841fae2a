-- The skies of two radios as one.
use Rattle.std.specs.Prelude.{ℕ, ◌-◌, cond, ◌&&◌, List, [], ◌∷◌, ◌++◌, map, length, take, nat_le, nat_lt}
use Rattle.radio.specs.Skies.{Sky, front, later}
use Rattle.radio.specs.Airs.{Air, attempted}

-- the first twenty of the one's rows followed by the other's
abbrev pub joint : {X : Type 0} → List X → List X → List X
joint a b = take 20 (a ++ b)

-- sky by sky, a missing sky being empty
abbrev pub joints : {X : Type 0} → List (List X) → List (List X) → List (List X)
joints [] t = map (joint []) t
joints (a ∷ s) t = joint a (front t) ∷ joints s (later t)

abbrev pub joined_sky : Sky → Sky → Sky
joined_sky a b = record { here = joint a.here b.here; coming = joints a.coming b.coming }

-- answers and marks are kept
abbrev pub joined_air : Air → Air → Air
joined_air a b = record { here = joint a.here b.here; coming = joints a.coming b.coming }

-- what a try of the row at a place of the joined sky leaves of the first radio and of the second: only a row that is shown is tried
abbrev pub first_tried : Air → ℕ → Air
first_tried a place = cond (nat_lt place 20 && nat_lt place (length a.here)) (attempted a place) a

abbrev pub second_tried : Air → Air → ℕ → Air
second_tried a b place = cond (nat_lt place 20 && nat_le (length a.here) place) (attempted b (place - length a.here)) b
