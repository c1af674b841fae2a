-- The trail among the turns: its places are places of turns, each once, and each was open when it was tried.
use Rattle.std.proofs.Common.{◌≡◌, ℕ, Bool, List, [], ◌∷◌, ◌++◌, sym, refl, ap, ◌∙◌, subst, inl, inr, ⊎_elim, arith}
use Rattle.std.specs.List.{AllByRecursion}
use Rattle.std.proofs.lemmas.List.{append-nil, append_assoc}
use Rattle.plmn.specs.declared.row.Row.{Row}
use Rattle.causes.specs.declared.heard.Heard.{Heard}
use Rattle.ranking.specs.Precedence as keys
use Rattle.ranking.specs.declared.key.Key.{Key}
use Rattle.ranking.proofs.Apart.{Off, Apart}
use Rattle.order.specs.Keys.{places_of}
use Rattle.tries.specs.Laws.{In, Open, Tries, over, pass, last, next}
use Rattle.run_laws.specs.Laws.{Once}

-- a place of a turn is that of some key, and the other way round
pub key_at : (p : ℕ) (ks : List Key) → In p (places_of ks) → (k : Key) × keys.In k ks × (k.place ≡ p)
key_at p [] i = absurd i
key_at p (x ∷ xs) i =
    ⊎_elim (λ (e : p ≡ x.place). let z : keys.In x (x ∷ xs) = inl refl in (x, z, sym e))
    (λ j. let r = key_at p xs j in (r.0, inr r.1, r.2)) i

pub place_in : (k : Key) (ks : List Key) → keys.In k ks → In k.place (places_of ks)
place_in k [] i = absurd i
place_in k (x ∷ xs) i = ⊎_elim (λ (e : k ≡ x). inl (ap (λ (z : Key). z.place) e)) (λ j. inr (place_in k xs j)) i

pub no_places : (ks : List Key) → ((p : ℕ) → In p (places_of ks) → ⊥) → ks ≡ []
no_places [] f = refl
no_places (k ∷ ks) f = absurd (f k.place (inl refl))

off_places : (p : ℕ) (ks : List Key) → AllByRecursion (Off p) ks → In p (places_of ks) → ⊥
off_places p [] a i = i
off_places p (k ∷ ks) a i = ⊎_elim (λ (e : p ≡ k.place). a.0 (sym e)) (λ j. off_places p ks a.1 j) i

module _ (bar : Row → Bool) (sky : List Heard) where
  pub tried_had_turn : (earlier : List ℕ) (ks : List Key) (t : List ℕ) (p : ℕ) → Tries bar sky earlier ks t → In p t → In p (places_of ks)
  tried_had_turn earlier [] t p over i = absurd i
  tried_had_turn earlier (k ∷ ks) t p (pass a r) i = inr (tried_had_turn earlier ks t p r i)
  tried_had_turn earlier (k ∷ ks) t p (last a f) i = ⊎_elim inl (λ j. absurd j) i
  tried_had_turn earlier (k ∷ ks) t p (next {t = u} a f r) i = ⊎_elim inl (λ j. inr (tried_had_turn (earlier ++ (k.place ∷ [])) ks u p r j)) i

  pub tried_once : (earlier : List ℕ) (ks : List Key) (t : List ℕ) → Tries bar sky earlier ks t → Apart ks → Once t
  tried_once earlier [] t over a = tt
  tried_once earlier (k ∷ ks) t (pass o r) a = tried_once earlier ks t r a.1
  tried_once earlier (k ∷ ks) t (last o f) a = (λ i. i, tt)
  tried_once earlier (k ∷ ks) t (next {t = u} o f r) a =
      (λ i. off_places k.place ks a.0 (tried_had_turn (earlier ++ (k.place ∷ [])) ks u k.place r i), tried_once (earlier ++ (k.place ∷ [])) ks u r a.1)

  opens : (earlier : List ℕ) (p q : ℕ) → q ≡ p → Open bar sky earlier q → Open bar sky (earlier ++ []) p
  opens earlier p q e o = subst (λ (l : List ℕ). Open bar sky l p) (sym (append-nil earlier)) (subst (Open bar sky earlier) e o)

  -- a row that was tried was open after the rows tried before it
  pub tried_was_open : (earlier : List ℕ) (ks : List Key) (t before after : List ℕ) (p : ℕ) → Tries bar sky earlier ks t → t ≡ before ++ (p ∷ after) → Open bar sky (earlier ++ before) p
  tried_was_open earlier [] t [] after p over e = absurd (let z : ◌≡◌ {A = ℕ} 0 1 = cc in omega arith)
  tried_was_open earlier [] t (b ∷ bs) after p over e = absurd (let z : ◌≡◌ {A = ℕ} 0 1 = cc in omega arith)
  tried_was_open earlier (k ∷ ks) t before after p (pass o r) e = tried_was_open earlier ks t before after p r e
  tried_was_open earlier (k ∷ ks) t [] after p (last o f) e = opens earlier p k.place (cc) o
  tried_was_open earlier (k ∷ ks) t (b ∷ []) after p (last o f) e = absurd (let z : ◌≡◌ {A = ℕ} 0 1 = cc in omega arith)
  tried_was_open earlier (k ∷ ks) t (b ∷ c ∷ cs) after p (last o f) e = absurd (let z : ◌≡◌ {A = ℕ} 0 1 = cc in omega arith)
  tried_was_open earlier (k ∷ ks) t [] after p (next o f r) e = opens earlier p k.place (cc) o
  tried_was_open earlier (k ∷ ks) t (b ∷ bs) after p (next {t = u} o f r) e =
      let h : k.place ≡ b = cc in
      let s : u ≡ bs ++ (p ∷ after) = cc in
      subst (λ (l : List ℕ). Open bar sky l p) (append_assoc earlier (k.place ∷ []) bs ∙ ap (λ (x : ℕ). earlier ++ (x ∷ bs)) h)
      (tried_was_open (earlier ++ (k.place ∷ [])) ks u bs after p r s)
