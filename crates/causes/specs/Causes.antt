-- What follows each cause (3GPP TS 24.008).
use Rattle.std.specs.Prelude.{Bool, cond, ◌||◌, ℕ, eqb}
use Rattle.causes.specs.declared.cause.Effect.{Effect}
use Rattle.causes.specs.declared.cause.Effect.TheVariants.{Nothing, Lock, Forbid, Regional, Roaming}

-- 2, 3 and 6 lock the card; 11 forbids the code; 12 lists the area as regional, 13 and 15 as roaming; no other has an effect
abbrev pub effect_of : ℕ → Effect
effect_of n =
    cond (eqb n 2) Lock (cond (eqb n 3) Lock (cond (eqb n 6) Lock
    (cond (eqb n 11) Forbid (cond (eqb n 12) Regional (cond (eqb n 13) Roaming (cond (eqb n 15) Roaming Nothing))))))

-- 2, 3, 6 and 12 end a run
abbrev pub ends_of : ℕ → Bool
ends_of n = eqb n 2 || (eqb n 3 || (eqb n 6 || eqb n 12))
