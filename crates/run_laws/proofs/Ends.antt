-- What ends a run is the answer of the last row tried.
use Rattle.std.proofs.Common.{◌≡◌, ℕ, Bool, true, false, cond, List, [], ◌∷◌, ◌++◌, Some, None, Option, sym, refl, ap, ◌∙◌, arith}
use Rattle.plmn.specs.declared.row.Row.{Row}
use Rattle.radio.specs.Airs.{Air}
use Rattle.radio.specs.declared.answer.Answer.{Answer}
use Rattle.radio.specs.declared.answer.Answer.TheVariants.{Acceptance, Rejection, Silence}
use Rattle.causes.specs.Causes.{effect_of}
use Rattle.causes.specs.Closing.{ends}
use Rattle.causes.specs.declared.cause.Effect.{Effect}
use Rattle.causes.specs.declared.cause.Effect.TheVariants.{Nothing, Lock, Forbid, Regional, Roaming}
use Rattle.causes.specs.declared.heard.Heard.{Heard}
use Rattle.ranking.specs.declared.key.Key.{Key}
use Rattle.tries.specs.Turns.{at, shut}
use Rattle.tries.specs.Walks.{trail_of, end_of}
use Rattle.conclusions.specs.Conclusions.{by_effect, by_answer, state_by}
use Rattle.selector.specs.Runs.{unended}
use Rattle.states.specs.States.{serving_of, state_number, serving}
use Rattle.states.specs.declared.state.Serving.{Serving}
use Rattle.states.specs.declared.state.State.TheVariants.{Registered}
use Rattle.run_laws.specs.Laws.{LastOf}

-- the answer of the last row tried, where it ends a run
abbrev end_in : List Heard → List ℕ → Option Heard
end_in sky [] = None
end_in sky (p ∷ []) = cond (ends (at sky p).answer) (Some (at sky p)) None
end_in sky (p ∷ q ∷ t) = end_in sky (q ∷ t)

end_more : (sky : List Heard) (p : ℕ) (t : List ℕ) → ends (at sky p).answer ≡ false → end_in sky t ≡ end_in sky (p ∷ t)
end_more sky p [] e = ap (λ (b : Bool). cond b (Some (at sky p)) None) (sym e)
end_more sky p (q ∷ t) e = refl

module _ (bar : Row → Bool) (sky : List Heard) where
  pub ended : (done : List Heard) (ks : List Key) → end_of bar sky done ks ≡ end_in sky (trail_of bar sky done ks)
  ended done [] = refl
  ended done (k ∷ ks) =
      let p : ℕ = k.place in
      elim (shut bar done (at sky p).row) as (λ b.
      cond b (end_of bar sky done ks) (cond (ends (at sky p).answer) (Some (at sky p)) (end_of bar sky (done ++ (at sky p ∷ [])) ks))
      ≡ end_in sky (cond b (trail_of bar sky done ks) (p ∷ cond (ends (at sky p).answer) [] (trail_of bar sky (done ++ (at sky p ∷ [])) ks)))) [
        | true ↦ ended done ks
        | false ↦
            elim (ends (at sky p).answer) as (λ b. ends (at sky p).answer ≡ b →
            cond b (Some (at sky p)) (end_of bar sky (done ++ (at sky p ∷ [])) ks)
            ≡ end_in sky (p ∷ cond b [] (trail_of bar sky (done ++ (at sky p ∷ [])) ks))) [
              | true ↦ λ e. ap (λ (b : Bool). cond b (Some (at sky p)) None) (sym e)
              | false ↦ λ e. ended (done ++ (at sky p ∷ [])) ks ∙ end_more sky p (trail_of bar sky (done ++ (at sky p ∷ [])) ks) e
            ] refl
      ]

end_last : (sky : List Heard) (earlier : List ℕ) (p : ℕ) → end_in sky (earlier ++ (p ∷ [])) ≡ end_in sky (p ∷ [])
end_last sky [] p = refl
end_last sky (e ∷ []) p = refl
end_last sky (e ∷ f ∷ es) p = end_last sky (f ∷ es) p

one_end : (sky : List Heard) (p : ℕ) (h : Heard) → end_in sky (p ∷ []) ≡ Some h → at sky p ≡ h
one_end sky p h =
    elim (ends (at sky p).answer) as (λ b. cond b (Some (at sky p)) None ≡ Some h → at sky p ≡ h) [
      | true ↦ λ e. cc
      | false ↦ λ e. absurd (let z : ◌≡◌ {A = ℕ} 0 1 = cc in omega arith)
    ]

last_of : (sky : List Heard) (t : List ℕ) (h : Heard) → end_in sky t ≡ Some h → (p : ℕ) × LastOf p t × (at sky p ≡ h)
last_of sky [] h e = absurd (let z : ◌≡◌ {A = ℕ} 0 1 = cc in omega arith)
last_of sky (p ∷ []) h e = (p, ([], refl), one_end sky p h e)
last_of sky (p ∷ q ∷ t) h e =
    let r = last_of sky (q ∷ t) h e in
    (r.0, (p ∷ r.1.0, ap (λ (l : List ℕ). p ∷ l) r.1.1), r.2)

effect_not : (e : Effect) (r : Row) (v : Serving) → by_effect e r ≡ Registered v → ⊥
effect_not Lock r v h = let z : ◌≡◌ {A = ℕ} 4 1 = ap state_number h in omega arith
effect_not Nothing r v h = let z : ◌≡◌ {A = ℕ} 2 1 = ap state_number h in omega arith
effect_not Forbid r v h = let z : ◌≡◌ {A = ℕ} 2 1 = ap state_number h in omega arith
effect_not Regional r v h = let z : ◌≡◌ {A = ℕ} 2 1 = ap state_number h in omega arith
effect_not Roaming r v h = let z : ◌≡◌ {A = ℕ} 2 1 = ap state_number h in omega arith

accepting : (x : Answer) (r : Row) (v : Serving) → by_answer x r ≡ Registered v → ((n : ℕ) × (x ≡ Acceptance n)) × (serving_of r ≡ v)
accepting (Acceptance n) r v h = ((n, refl), ap serving h)
accepting (Rejection cause) r v h = absurd (effect_not (effect_of cause) r v h)
accepting Silence r v h = absurd (let z : ◌≡◌ {A = ℕ} 2 1 = ap state_number h in omega arith)

unended_not : (a : Air) (order : List Key) (v : Serving) → unended a order ≡ Registered v → ⊥
unended_not a [] v h = let z : ◌≡◌ {A = ℕ} 3 1 = ap state_number h in omega arith
unended_not a (k ∷ ks) v h = let z : ◌≡◌ {A = ℕ} 2 1 = ap state_number h in omega arith

module _ (sky : List Heard) (trail : List ℕ) (a : Air) (order : List Key) where
  by_end : (end : Option Heard) (v : Serving) → end ≡ end_in sky trail → state_by end (unended a order) ≡ Registered v →
      (p : ℕ) × LastOf p trail × ((n : ℕ) × ((at sky p).answer ≡ Acceptance n)) × (serving_of (at sky p).row ≡ v)
  by_end None v e h = absurd (unended_not a order v h)
  by_end (Some x) v e h =
      let l = last_of sky trail x (sym e) in
      let c = accepting x.answer x.row v h in
      (l.0, l.1, (c.0.0, ap (λ (y : Heard). y.answer) l.2 ∙ c.0.1), ap (λ (y : Heard). serving_of y.row) l.2 ∙ c.1)

  by_last : (p n : ℕ) → LastOf p trail → (at sky p).answer ≡ Acceptance n → state_by (end_in sky trail) (unended a order) ≡ Registered (serving_of (at sky p).row)
  by_last p n l e =
      ap (λ (t : List ℕ). state_by (end_in sky t) (unended a order)) l.1
      ∙ ap (λ (o : Option Heard). state_by o (unended a order)) (end_last sky l.0 p)
      ∙ ap (λ (x : Answer). state_by (cond (ends x) (Some (at sky p)) None) (unended a order)) e
      ∙ ap (λ (x : Answer). by_answer x (at sky p).row) e

module _ (bar : Row → Bool) (sky : List Heard) (a : Air) (order : List Key) where
  pub registered_by : (v : Serving) → state_by (end_of bar sky [] order) (unended a order) ≡ Registered v →
      (p : ℕ) × LastOf p (trail_of bar sky [] order) × ((n : ℕ) × ((at sky p).answer ≡ Acceptance n)) × (serving_of (at sky p).row ≡ v)
  registered_by v h = by_end sky (trail_of bar sky [] order) a order (end_of bar sky [] order) v (ended bar sky [] order) h

  pub registers : (p n : ℕ) → LastOf p (trail_of bar sky [] order) → (at sky p).answer ≡ Acceptance n → state_by (end_of bar sky [] order) (unended a order) ≡ Registered (serving_of (at sky p).row)
  registers p n l e = ap (λ (o : Option Heard). state_by o (unended a order)) (ended bar sky [] order) ∙ by_last sky (trail_of bar sky [] order) a order p n l e
