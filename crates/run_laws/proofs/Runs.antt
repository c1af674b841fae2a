-- The state that tries over an order end in.
use Rattle.std.proofs.Common.{◌≡◌, ℕ, List, [], ◌∷◌, Some, None, Option, refl, ap, arith}
use Rattle.plmn.specs.declared.row.Row.{Row}
use Rattle.radio.specs.Airs.{Air}
use Rattle.radio.specs.declared.answer.Answer.{Answer}
use Rattle.radio.specs.declared.answer.Answer.TheVariants.{Acceptance, Rejection, Silence}
use Rattle.causes.specs.Causes.{effect_of}
use Rattle.causes.specs.declared.cause.Effect.{Effect}
use Rattle.causes.specs.declared.cause.Effect.TheVariants.{Nothing, Lock, Forbid, Regional, Roaming}
use Rattle.causes.specs.declared.heard.Heard.{Heard}
use Rattle.ranking.specs.declared.key.Key.{Key}
use Rattle.conclusions.specs.Conclusions.{by_effect, by_answer, state_by}
use Rattle.selector.specs.Runs.{unended, tries_end}
use Rattle.states.specs.Standings.{Standing}
use Rattle.states.specs.States.{state_number}
use Rattle.states.specs.declared.state.State.TheVariants.{NoService}

effect_serves : (e : Effect) (r : Row) → by_effect e r ≡ NoService → ⊥
effect_serves Lock r h = let z : ◌≡◌ {A = ℕ} 4 3 = ap state_number h in omega arith
effect_serves Nothing r h = let z : ◌≡◌ {A = ℕ} 2 3 = ap state_number h in omega arith
effect_serves Forbid r h = let z : ◌≡◌ {A = ℕ} 2 3 = ap state_number h in omega arith
effect_serves Regional r h = let z : ◌≡◌ {A = ℕ} 2 3 = ap state_number h in omega arith
effect_serves Roaming r h = let z : ◌≡◌ {A = ℕ} 2 3 = ap state_number h in omega arith

answer_serves : (x : Answer) (r : Row) → by_answer x r ≡ NoService → ⊥
answer_serves (Acceptance n) r h = let z : ◌≡◌ {A = ℕ} 1 3 = ap state_number h in omega arith
answer_serves (Rejection cause) r h = effect_serves (effect_of cause) r h
answer_serves Silence r h = let z : ◌≡◌ {A = ℕ} 2 3 = ap state_number h in omega arith

state_serves : (end : Option Heard) (a : Air) (k : Key) (ks : List Key) → state_by end (unended a (k ∷ ks)) ≡ NoService → ⊥
state_serves None a k ks h = let z : ◌≡◌ {A = ℕ} 2 3 = ap state_number h in omega arith
state_serves (Some x) a k ks h = answer_serves x.answer x.row h

-- without service: no turn
pub no_turn : (s : Standing) (a : Air) (order : List Key) → state_by (tries_end s order a) (unended a order) ≡ NoService → order ≡ []
no_turn s a [] h = refl
no_turn s a (k ∷ ks) h = absurd (state_serves (tries_end s (k ∷ ks) a) a k ks h)

-- no turn: without service
pub no_service : (s : Standing) (a : Air) (order : List Key) → order ≡ [] → state_by (tries_end s order a) (unended a order) ≡ NoService
no_service s a order h = ap (λ (o : List Key). state_by (tries_end s o a) (unended a o)) h
