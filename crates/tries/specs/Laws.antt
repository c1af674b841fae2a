-- The tries of a run in the subject's words.
use Rattle.std.specs.Prelude.{◌≡◌, ℕ, Bool, false, ◌⊎◌, List, [], ◌∷◌, ◌++◌}
use Rattle.plmn.specs.declared.row.Row.{Row}
use Rattle.radio.specs.declared.answer.Answer.{Answer}
use Rattle.radio.specs.declared.answer.Answer.TheVariants.{Acceptance, Rejection}
use Rattle.causes.specs.declared.heard.Heard.{Heard}
use Rattle.ranking.specs.declared.key.Key.{Key}
use Rattle.tries.specs.Turns.{at}

abbrev pub In : ℕ → List ℕ → Type 0
In p [] = ⊥
In p (q ∷ qs) = (p ≡ q) ⊎ In p qs

-- the answer to one row closes another: cause 11 closes its code, causes 13 and 15 its code and area
abbrev pub Shuts : Answer → Row → Row → Type 0
Shuts a r s =
    ((a ≡ Rejection 11) × (r.code ≡ s.code))
    ⊎ (((a ≡ Rejection 13) ⊎ (a ≡ Rejection 15)) × (r.code ≡ s.code) × (r.area ≡ s.area))

-- a row is open at its turn when its area was in neither list at the start, and no row tried earlier closes it
abbrev pub Open : (Row → Bool) → List Heard → List ℕ → ℕ → Type 0
Open bar sky earlier p = (bar (at sky p).row ≡ false) × ((q : ℕ) → In q earlier → Shuts (at sky q).answer (at sky q).row (at sky p).row → ⊥)

-- an acceptance, or cause 2, 3, 6 or 12, ends a run
abbrev pub Final : Answer → Type 0
Final a = ((n : ℕ) × (a ≡ Acceptance n)) ⊎ ((a ≡ Rejection 2) ⊎ ((a ≡ Rejection 3) ⊎ ((a ≡ Rejection 6) ⊎ (a ≡ Rejection 12))))

-- after the places `earlier`, the turns left give the trail: each row is tried if it is open at its turn, until one ends the run
pub data Tries (bar : Row → Bool) (sky : List Heard) : List ℕ → List Key → List ℕ → Type 0 where
  over : {earlier : List ℕ} → Tries bar sky earlier [] []
  pass : {earlier : List ℕ} {k : Key} {ks : List Key} {t : List ℕ} → (Open bar sky earlier k.place → ⊥) → Tries bar sky earlier ks t → Tries bar sky earlier (k ∷ ks) t
  last : {earlier : List ℕ} {k : Key} {ks : List Key} → Open bar sky earlier k.place → Final (at sky k.place).answer → Tries bar sky earlier (k ∷ ks) (k.place ∷ [])
  next : {earlier : List ℕ} {k : Key} {ks : List Key} {t : List ℕ} → Open bar sky earlier k.place → (Final (at sky k.place).answer → ⊥) →
      Tries bar sky (earlier ++ (k.place ∷ [])) ks t → Tries bar sky earlier (k ∷ ks) (k.place ∷ t)

-- the laws leave one trail only
abbrev pub OneTrail : Type 0
OneTrail = (bar : Row → Bool) (sky : List Heard) (earlier : List ℕ) (ks : List Key) (t u : List ℕ) → Tries bar sky earlier ks t → Tries bar sky earlier ks u → t ≡ u
