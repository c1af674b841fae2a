-- The tests of a walk say what the laws say.
use Rattle.std.proofs.Common.{◌≡◌, ℕ, Bool, true, false, cond, List, [], ◌∷◌, ◌++◌, map, sym, refl, ap, ◌∙◌, subst, inl, inr, ⊎_elim, arith}
use Rattle.std.proofs.lemmas.Bool.{both_ways, or_parts, or_cases}
use Rattle.std.proofs.lemmas.Bool.Decides.{nat_tests}
use Rattle.std.proofs.lemmas.List.{map_push}
use Rattle.plmn.specs.declared.row.Row.{Row}
use Rattle.plmn.specs.Equality.{same_code_says}
use Rattle.radio.specs.declared.answer.Answer.{Answer}
use Rattle.radio.specs.declared.answer.Answer.TheVariants.{Acceptance, Rejection, Silence}
use Rattle.causes.specs.Closing.{ends, closed, closes, closes_by}
use Rattle.causes.specs.declared.heard.Heard.{Heard}
use Rattle.ranking.specs.declared.key.Key.{Key}
use Rattle.tries.specs.Turns.{at, shut}
use Rattle.tries.specs.Laws.{In, Shuts, Open, Final, Tries, over, pass, last, next}
use Rattle.tries.specs.Walks.{trail_of}

final_yes : (a : Answer) → ends a ≡ true → Final a
final_yes (Acceptance n) e = inl (n, refl)
final_yes (Rejection n) e = grind (arith, nat_tests)
final_yes Silence e = let z : ◌≡◌ {A = ℕ} 0 1 = cc in absurd (omega arith)

final_no : (a : Answer) → ends a ≡ false → Final a → ⊥
final_no a e f = grind (arith, nat_tests)

-- a rejection that closes another row has cause 11, 13 or 15
shut_yes : (a : Answer) (r s : Row) → closes_by a r s ≡ true → Shuts a r s
shut_yes (Acceptance n) r s e = let z : ◌≡◌ {A = ℕ} 0 1 = cc in absurd (omega arith)
shut_yes (Rejection n) r s e = let c = same_code_says r.code s.code in grind (arith, nat_tests)
shut_yes Silence r s e = let z : ◌≡◌ {A = ℕ} 0 1 = cc in absurd (omega arith)

shut_no : (a : Answer) (r s : Row) → closes_by a r s ≡ false → Shuts a r s → ⊥
shut_no a r s e f = let c = same_code_says r.code s.code in grind (arith, nat_tests)

closed_no : (sky : List Heard) (earlier : List ℕ) (p : ℕ) → closed (map (at sky) earlier) (at sky p).row ≡ false →
    (q : ℕ) → In q earlier → Shuts (at sky q).answer (at sky q).row (at sky p).row → ⊥
closed_no sky [] p e q i s = absurd i
closed_no sky (o ∷ os) p e q i s =
    let c = or_parts (closes (at sky o) (at sky p).row) (closed (map (at sky) os) (at sky p).row) e in
    ⊎_elim (λ (j : q ≡ o). shut_no (at sky o).answer (at sky o).row (at sky p).row c.0 (subst (λ (k : ℕ). Shuts (at sky k).answer (at sky k).row (at sky p).row) j s))
    (λ j. closed_no sky os p c.1 q j s) i

closed_yes : (sky : List Heard) (earlier : List ℕ) (p : ℕ) → closed (map (at sky) earlier) (at sky p).row ≡ true →
    ((q : ℕ) → In q earlier → Shuts (at sky q).answer (at sky q).row (at sky p).row → ⊥) → ⊥
closed_yes sky [] p e free = both_ways false refl e
closed_yes sky (o ∷ os) p e free =
    ⊎_elim
    (λ (c : closes (at sky o) (at sky p).row ≡ true). free o (inl refl) (shut_yes (at sky o).answer (at sky o).row (at sky p).row c))
    (λ (c : closed (map (at sky) os) (at sky p).row ≡ true). closed_yes sky os p c (λ q i. free q (inr i)))
    (or_cases (closes (at sky o) (at sky p).row) (closed (map (at sky) os) (at sky p).row) e)

module _ (bar : Row → Bool) (sky : List Heard) where
  open_yes : (earlier : List ℕ) (p : ℕ) → shut bar (map (at sky) earlier) (at sky p).row ≡ false → Open bar sky earlier p
  open_yes earlier p e =
      let c = or_parts (bar (at sky p).row) (closed (map (at sky) earlier) (at sky p).row) e in
      (c.0, closed_no sky earlier p c.1)

  open_no : (earlier : List ℕ) (p : ℕ) → shut bar (map (at sky) earlier) (at sky p).row ≡ true → Open bar sky earlier p → ⊥
  open_no earlier p e o =
      ⊎_elim (λ (c : bar (at sky p).row ≡ true). both_ways (bar (at sky p).row) o.0 c)
      (λ (c : closed (map (at sky) earlier) (at sky p).row ≡ true). closed_yes sky earlier p c o.1)
      (or_cases (bar (at sky p).row) (closed (map (at sky) earlier) (at sky p).row) e)

  -- what a run tries, it tries by the laws
  tries_at : (done : List Heard) (earlier : List ℕ) (ks : List Key) → done ≡ map (at sky) earlier → Tries bar sky earlier ks (trail_of bar sky done ks)
  tries_at done earlier [] m = over
  tries_at done earlier (k ∷ ks) m =
      let p : ℕ = k.place in
      elim (shut bar done (at sky p).row) as (λ b. shut bar done (at sky p).row ≡ b
      → Tries bar sky earlier (k ∷ ks) (cond b (trail_of bar sky done ks) (p ∷ cond (ends (at sky p).answer) [] (trail_of bar sky (done ++ (at sky p ∷ [])) ks)))) [
        | true ↦ λ e. pass (open_no earlier p (subst (λ (d : List Heard). shut bar d (at sky p).row ≡ true) m e)) (tries_at done earlier ks m)
        | false ↦ λ e.
            elim (ends (at sky p).answer) as (λ b. ends (at sky p).answer ≡ b → Tries bar sky earlier (k ∷ ks) (p ∷ cond b [] (trail_of bar sky (done ++ (at sky p ∷ [])) ks))) [
              | true ↦ λ f. last (open_yes earlier p (subst (λ (d : List Heard). shut bar d (at sky p).row ≡ false) m e)) (final_yes (at sky p).answer f)
              | false ↦ λ f. next (open_yes earlier p (subst (λ (d : List Heard). shut bar d (at sky p).row ≡ false) m e)) (final_no (at sky p).answer f)
                  (tries_at (done ++ (at sky p ∷ [])) (earlier ++ (p ∷ [])) ks (ap (λ (d : List Heard). d ++ (at sky p ∷ [])) m ∙ sym (map_push (at sky) earlier p)))
            ] refl
      ] refl

  pub tries : (ks : List Key) → Tries bar sky [] ks (trail_of bar sky [] ks)
  tries ks = tries_at [] [] ks refl

-- the laws leave one trail only
pub one : (bar : Row → Bool) (sky : List Heard) (earlier : List ℕ) (ks : List Key) (t u : List ℕ) → Tries bar sky earlier ks t → Tries bar sky earlier ks u → t ≡ u
one bar sky earlier [] t u over over = refl
one bar sky earlier (k ∷ ks) t u (pass a r) (pass b s) = one bar sky earlier ks t u r s
one bar sky earlier (k ∷ ks) t u (pass a r) (last b s) = absurd (a b)
one bar sky earlier (k ∷ ks) t u (pass a r) (next b c s) = absurd (a b)
one bar sky earlier (k ∷ ks) t u (last a r) (pass b s) = absurd (b a)
one bar sky earlier (k ∷ ks) t u (last a r) (last b s) = refl
one bar sky earlier (k ∷ ks) t u (last a r) (next b c s) = absurd (c r)
one bar sky earlier (k ∷ ks) t u (next a c r) (pass b s) = absurd (b a)
one bar sky earlier (k ∷ ks) t u (next a c r) (last b s) = absurd (c s)
one bar sky earlier (k ∷ ks) t u (next {t = t'} a c r) (next {t = u'} b d s) = ap (λ (x : List ℕ). k.place ∷ x) (one bar sky (earlier ++ (k.place ∷ [])) ks t' u' r s)
