-- The laws of storing and removing, over any elements whose equality `like` decides.
use Rattle.std.proofs.Common.{◌≡◌, ℕ, zero, suc, ◌+◌, ◌<◌, Bool, true, false, ◌⊎◌, List, [], ◌∷◌, ◌++◌, length, get_or, set, Some, None, Decides, Option, sym, refl, ap, ◌∙◌, subst, inl, inr, ⊎_elim, add-one, arith}
use Rattle.std.proofs.lemmas.List.{length-set, length-map, length_push, get_or-set_same, get_or-set_other, get_or_default, get_or_push, get_or_append_left, get_or-map}
use Rattle.std.proofs.lemmas.Bool.{cond-true, cond-false, cases_Bool, cases_eq, or_cases, or_left, or_right, both_ways}
use Rattle.std.specs.List.{position_from}
use Rattle.std.proofs.lemmas.Iterator.Adapters.{position_from-zero}
use Rattle.short_list.specs.Places.{held_in, first_of, shifted, placed, stored, emptied, removed}
use Rattle.short_list.specs.Laws.{Held, Full, Storing, Removing}

-- x stands at the place i, and at none before it
abbrev First : {X : Type 0} → X → List X → ℕ → Type 0
First {X} x xs i = (i < length xs) × (get_or xs i x ≡ x) × ((k : ℕ) (d : X) → k < i → get_or xs k d ≡ x → ⊥)

same_some : (i j : ℕ) → Some i ≡ Some j → i ≡ j
same_some i j h = cc

none_some : (i : ℕ) → None ≡ Some i → ⊥
none_some i h = let z : ◌≡◌ {A = ℕ} 0 1 = cc in omega arith

module _ {X : Type 0} (like : X → X → Bool) (dec : (x y : X) → Decides (like x y) (x ≡ y)) where
  differ : (x y : X) → like x y ≡ false → x ≡ y → ⊥
  differ x y f e = both_ways (like x y) f ((dec x y).1 e)

  pub held_from : (x : X) (xs : List X) → held_in like x xs ≡ true → Held x xs
  held_from x [] h = absurd (both_ways false refl h)
  held_from x (y ∷ ys) h =
      ⊎_elim (λ (a : like y x ≡ true). (0, omega arith, (dec y x).0 a))
      (λ (a : held_in like x ys ≡ true). let p = held_from x ys a in (suc p.0, omega (arith, p.1), p.2))
      (or_cases (like y x) (held_in like x ys) h)

  held_at : (x : X) (xs : List X) (k : ℕ) → k < length xs → get_or xs k x ≡ x → held_in like x xs ≡ true
  held_at x [] k l e = absurd (omega arith)
  held_at x (y ∷ ys) zero l e = or_left (like y x) (held_in like x ys) ((dec y x).1 e)
  held_at x (y ∷ ys) (suc k) l e = or_right (like y x) (held_in like x ys) (held_at x ys k (omega arith) e)

  pub not_held : (x : X) (xs : List X) → held_in like x xs ≡ false → Held x xs → ⊥
  not_held x xs f p = both_ways (held_in like x xs) f (held_at x xs p.0 p.1 p.2)

  first_later : (x y : X) (ys : List X) (n : ℕ) → (y ≡ x → ⊥) → ((k : ℕ) (d : X) → k < n → get_or ys k d ≡ x → ⊥) → (k : ℕ) (d : X) → k < suc n → get_or (y ∷ ys) k d ≡ x → ⊥
  first_later x y ys n ne rest zero d l e = ne e
  first_later x y ys n ne rest (suc k) d l e = rest k d (omega arith) e

  first_some : (x : X) (i : ℕ) (xs : List X) (j : ℕ) → position_from (λ y. like y x) i xs ≡ Some j → (n : ℕ) × (i + n ≡ j) × First x xs n
  first_some x i [] j h = absurd (none_some j h)
  first_some x i (y ∷ ys) j h =
      ⊎_elim
      (λ (a : like y x ≡ true).
      (0, (let e = same_some i j (sym (cond-true (like y x) (Some i) (position_from (λ y. like y x) (i + 1) ys) a) ∙ h) in omega arith), (omega arith, (dec y x).0 a, λ k d l. absurd (omega arith))))
      (λ (a : like y x ≡ false).
      let p = first_some x (i + 1) ys j (sym (cond-false (like y x) (Some i) (position_from (λ y. like y x) (i + 1) ys) a) ∙ h) in
      (suc p.0, omega (arith, p.1), (omega (arith, p.2.0), p.2.1, first_later x y ys p.0 (differ y x a) p.2.2)))
      (cases_Bool (like y x))

  first_none : (x : X) (i : ℕ) (xs : List X) → position_from (λ y. like y x) i xs ≡ None → held_in like x xs ≡ false
  first_none x i [] h = refl
  first_none x i (y ∷ ys) h =
      ⊎_elim
      (λ (a : like y x ≡ true). absurd (none_some i (sym h ∙ cond-true (like y x) (Some i) (position_from (λ y. like y x) (i + 1) ys) a)))
      (λ (a : like y x ≡ false). rw a (first_none x (i + 1) ys (sym (cond-false (like y x) (Some i) (position_from (λ y. like y x) (i + 1) ys) a) ∙ h)))
      (cases_Bool (like y x))

  -- where the first empty place is i
  stored_at : (blank x : X) (xs : List X) (i : ℕ) → (Held x xs → ⊥) → First blank xs i → Storing blank x xs (set xs i x)
  stored_at blank x xs i new f =
      let len : length (set xs i x) ≡ length xs = length-set xs i x in
      let was : get_or xs i x ≡ blank = get_or_default xs i x blank f.0 ∙ f.1 in
      record {
        places_stay = len;
        holds_it = λ _. (i, rw len f.0, get_or-set_same xs i x x f.0);
        keeps_if_held = λ h. absurd (new h);
        takes_first_empty = λ _ _. (i, f.0, was, get_or-set_same xs i x blank f.0, f.2, λ k d ne. get_or-set_other xs i k x d ne);
        shifts_if_full = λ _ full. absurd (full (i, f.0, f.1));
        loses_only_first = λ y hy gone. ⊎_elim
            (λ (e : hy.0 ≡ i). inl (sym hy.2 ∙ (ap (λ (k : ℕ). get_or xs k y) e ∙ (get_or_default xs i y blank f.0 ∙ f.1))))
            (λ (ne : hy.0 ≡ i → ⊥). absurd (gone (hy.0, rw len hy.1, get_or-set_other xs i hy.0 x y ne ∙ hy.2)))
            (cases_eq hy.0 i);
      }

  lost_by_shift : (blank x y z : X) (ys : List X) (k : ℕ) → k < length (y ∷ ys) → get_or (y ∷ ys) k z ≡ z → Full blank (y ∷ ys) → (Held z (ys ++ x ∷ []) → ⊥) →
      (z ≡ blank) ⊎ (Full blank (y ∷ ys) × (get_or (y ∷ ys) 0 z ≡ z))
  lost_by_shift blank x y z ys zero l e full gone = inr (full, e)
  lost_by_shift blank x y z ys (suc k) l e full gone =
      absurd (gone (k, omega (arith, length_push ys x), get_or_append_left ys (x ∷ []) z k (omega arith) ∙ e))

  shifted_by_one : (blank x : X) (xs : List X) → (Held x xs → ⊥) → Full blank xs → Storing blank x xs (shifted x xs)
  shifted_by_one blank x [] new full = record {
    places_stay = refl;
    holds_it = λ h. absurd (omega arith);
    keeps_if_held = λ h. absurd (new h);
    takes_first_empty = λ _ h. absurd (full h);
    shifts_if_full = λ _ _. (λ k d h. absurd (omega arith), λ d h. absurd (omega arith));
    loses_only_first = λ y hy gone. absurd (gone hy);
  }
  shifted_by_one blank x (y ∷ ys) new full =
      let len : length (ys ++ x ∷ []) ≡ length (y ∷ ys) = omega (arith, length_push ys x) in
      record {
        places_stay = len;
        holds_it = λ _. (length ys, omega (arith, length_push ys x), get_or_push ys x x (length ys) refl);
        keeps_if_held = λ h. absurd (new h);
        takes_first_empty = λ _ h. absurd (full h);
        shifts_if_full = λ _ _. (
          λ k d h. rw add-one (get_or_append_left ys (x ∷ []) d k (omega arith)),
          λ d _ n e. get_or_push ys x d n (omega arith),
        );
        loses_only_first = λ z hz gone. lost_by_shift blank x y z ys hz.0 hz.1 hz.2 full gone;
      }

  placed_by : (blank x : X) (xs : List X) (o : Option ℕ) → first_of like blank xs ≡ o → (Held x xs → ⊥) → Storing blank x xs (placed x xs o)
  placed_by blank x xs None e new = shifted_by_one blank x xs new (not_held blank xs (first_none blank 0 xs (sym (position_from-zero (λ y. like y blank) xs) ∙ e)))
  placed_by blank x xs (Some i) e new =
      let p = first_some blank 0 xs i (sym (position_from-zero (λ y. like y blank) xs) ∙ e) in
      stored_at blank x xs i new (subst (First blank xs) (let q : p.0 ≡ i = omega (arith, p.1) in q) p.2)

  pub storing : (blank x : X) (xs : List X) → Storing blank x xs (stored like blank x xs)
  storing blank x xs =
      ⊎_elim
      (λ (h : held_in like x xs ≡ true).
      let held = held_from x xs h in
      subst (Storing blank x xs) (sym (cond-true (held_in like x xs) xs (placed x xs (first_of like blank xs)) h))
      (record {
        places_stay = refl;
        holds_it = λ _. held;
        keeps_if_held = λ _. refl;
        takes_first_empty = λ new. absurd (new held);
        shifts_if_full = λ new. absurd (new held);
        loses_only_first = λ y hy gone. absurd (gone hy);
      }))
      (λ (h : held_in like x xs ≡ false).
      subst (Storing blank x xs) (sym (cond-false (held_in like x xs) xs (placed x xs (first_of like blank xs)) h))
      (placed_by blank x xs (first_of like blank xs) refl (not_held x xs h)))
      (cases_Bool (held_in like x xs))

  emptied_same : (blank x y : X) → y ≡ x → emptied like blank x y ≡ blank
  emptied_same blank x y e = cond-true (like y x) blank y ((dec y x).1 e)

  emptied_other : (blank x y : X) → (y ≡ x → ⊥) → emptied like blank x y ≡ y
  emptied_other blank x y ne =
      ⊎_elim (λ (a : like y x ≡ true). absurd (ne ((dec y x).0 a))) (λ (a : like y x ≡ false). cond-false (like y x) blank y a) (cases_Bool (like y x))

  emptied_never : (blank x y : X) → (x ≡ blank → ⊥) → emptied like blank x y ≡ x → ⊥
  emptied_never blank x y ne e =
      ⊎_elim
      (λ (a : like y x ≡ true). ne (sym e ∙ cond-true (like y x) blank y a))
      (λ (a : like y x ≡ false). differ y x a (sym (cond-false (like y x) blank y a) ∙ e))
      (cases_Bool (like y x))

  pub removing : (blank x : X) (xs : List X) → Removing blank x xs (removed like blank x xs)
  removing blank x xs =
      let f : X → X = emptied like blank x in
      record {
        places_stay = length-map xs f;
        empties_its_places = λ k d l e. get_or-map f xs k d d l ∙ emptied_same blank x (get_or xs k d) e;
        keeps_the_rest = λ k d l ne. get_or-map f xs k d d l ∙ emptied_other blank x (get_or xs k d) ne;
        holds_it_no_more = λ ne h.
            let l : h.0 < length xs = omega (arith, h.1, length-map xs f) in
            emptied_never blank x (get_or xs h.0 x) ne (sym (get_or-map f xs h.0 x x l) ∙ h.2);
      }
