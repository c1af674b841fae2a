-- What a run tries, as lists.
use Rattle.std.specs.Prelude.{◌≡◌, ℕ, ◌≤◌, Bool, cond, List, [], ◌∷◌, ◌++◌, map, take, drop, Some, None, fold, Option}
use Rattle.plmn.specs.declared.row.Row.{Row}
use Rattle.radio.specs.Airs.{Air, attempted}
use Rattle.causes.specs.Closing.{ends}
use Rattle.causes.specs.declared.heard.Heard.{Heard}
use Rattle.ranking.specs.declared.key.Key.{Key}
use Rattle.tries.specs.Turns.{heard_sky, at, shut}

-- the places that a run tries, where `done` was heard already
abbrev pub trail_of : (Row → Bool) → List Heard → List Heard → List Key → List ℕ
trail_of bar sky done [] = []
trail_of bar sky done (k ∷ ks) =
    cond (shut bar done (at sky k.place).row) (trail_of bar sky done ks)
    (k.place ∷ cond (ends (at sky k.place).answer) [] (trail_of bar sky (done ++ (at sky k.place ∷ [])) ks))

-- what ended the run
abbrev pub end_of : (Row → Bool) → List Heard → List Heard → List Key → Option Heard
end_of bar sky done [] = None
end_of bar sky done (k ∷ ks) =
    cond (shut bar done (at sky k.place).row) (end_of bar sky done ks)
    (cond (ends (at sky k.place).answer) (Some (at sky k.place)) (end_of bar sky (done ++ (at sky k.place ∷ [])) ks))

-- what the tries of a run leave: n of them, what was heard, what ended the run, the trail, which held `before`, and the air, which was `start`
pub record Walked (bar : Row → Bool) (start : Air) (order : List Key) (before : List ℕ) (n : ℕ) (heard : List Heard) (end : Option Heard) (after : List ℕ) (a : Air) : Type 0 where
  pub few : n ≤ 20
  pub trail : take n after ≡ trail_of bar (heard_sky start.here) [] order
  pub rest : drop n after ≡ drop n before
  pub heard_of : heard ≡ map (at (heard_sky start.here)) (take n after)
  pub ending : end ≡ end_of bar (heard_sky start.here) [] order
  pub air : a ≡ fold attempted start (take n after)
