-- What the tries of a run keep from turn to turn, and its turns.
use Rattle.std.proofs.Common.{◌≡◌, ℕ, ◌+◌, ◌<◌, ◌≤◌, Bool, true, false, cond, List, [], ◌∷◌, ◌++◌, map, length, get_or, take, drop, set, Some, None, fold, sym, refl, ap, ◌∙◌, subst, arith}
use Rattle.std.proofs.lemmas.List.Sums.{fold_push}
use Rattle.std.proofs.lemmas.List.{at_drop_more, at_drop_all, append_assoc, append-nil, take_more_set, drop-set-lt, drop-drop, length_push, map_push}
use Rattle.plmn.specs.declared.row.Row.{Row}
use Rattle.radio.specs.Airs.{Air, attempted}
use Rattle.causes.specs.Closing.{ends}
use Rattle.causes.specs.declared.heard.Heard.{Heard}
use Rattle.ranking.specs.Draws.{no_key}
use Rattle.ranking.specs.declared.key.Key.{Key}
use Rattle.tries.specs.Turns.{heard_sky, at, shut}
use Rattle.tries.specs.Walks.{trail_of, end_of, Walked}
use Rattle.tries.proofs.Cells.{heard_attempted}

pub record Mid (bar : Row → Bool) (start : Air) (order : List Key) (before : List ℕ) (i n : ℕ) (done : List Heard) (trail : List ℕ) (a : Air) : Type 0 where
  pub few : n ≤ i
  pub size : length done ≡ n
  pub far : take n trail ++ trail_of bar (heard_sky start.here) done (drop i order) ≡ trail_of bar (heard_sky start.here) [] order
  pub ending : end_of bar (heard_sky start.here) done (drop i order) ≡ end_of bar (heard_sky start.here) [] order
  pub told : done ≡ map (at (heard_sky start.here)) (take n trail)
  pub air : a ≡ fold attempted start (take n trail)
  pub rest : drop n trail ≡ drop n before
  pub here : heard_sky a.here ≡ heard_sky start.here

some_open : (b : Bool) (h x : Heard) → Some h ≡ cond b None (Some x) → (b ≡ false) × (h ≡ x)
some_open true h x e = let z : ◌≡◌ {A = ℕ} 0 1 = cc in absurd (omega arith)
some_open false h x e = (refl, cc)

none_closed : (b : Bool) (x : Heard) → None ≡ cond b None (Some x) → b ≡ true
none_closed true x e = refl
none_closed false x e = let z : ◌≡◌ {A = ℕ} 0 1 = cc in absurd (omega arith)

rest_set : (l m : List ℕ) (i r : ℕ) → drop i l ≡ drop i m → drop (i + 1) (set l i r) ≡ drop (i + 1) m
rest_set l m i r e =
    let h : i < i + 1 = omega arith in drop-set-lt (i + 1) l i r h ∙ sym (drop-drop 1 i l) ∙ ap (drop 1) e ∙ drop-drop 1 i m

module _ (bar : Row → Bool) (start : Air) (order : List Key) (before : List ℕ) (i n : ℕ) (done : List Heard) (trail : List ℕ) (a : Air)
    (mid : Mid bar start order before i n done trail a) where
  abbrev sky : List Heard
  sky = heard_sky start.here

  abbrev p : ℕ
  p = (get_or order i no_key).place

  abbrev D : List Heard
  D = done

  -- what is left at this turn, by its first row
  turn_trail : i < length order → (b : Bool) → shut bar D (at sky p).row ≡ b
      → trail_of bar sky D (drop i order) ≡ cond b (trail_of bar sky D (drop (i + 1) order)) (p ∷ cond (ends (at sky p).answer) [] (trail_of bar sky (D ++ (at sky p ∷ [])) (drop (i + 1) order)))
  turn_trail h b e =
      at_drop_more (trail_of bar sky D) order i no_key h
      ∙ ap (λ (t : Bool). cond t (trail_of bar sky D (drop (i + 1) order)) (p ∷ cond (ends (at sky p).answer) [] (trail_of bar sky (D ++ (at sky p ∷ [])) (drop (i + 1) order)))) e

  turn_end : i < length order → (b : Bool) → shut bar D (at sky p).row ≡ b
      → end_of bar sky D (drop i order) ≡ cond b (end_of bar sky D (drop (i + 1) order)) (cond (ends (at sky p).answer) (Some (at sky p)) (end_of bar sky (D ++ (at sky p ∷ [])) (drop (i + 1) order)))
  turn_end h b e =
      at_drop_more (end_of bar sky D) order i no_key h
      ∙ ap (λ (t : Bool). cond t (end_of bar sky D (drop (i + 1) order)) (cond (ends (at sky p).answer) (Some (at sky p)) (end_of bar sky (D ++ (at sky p ∷ [])) (drop (i + 1) order)))) e

  -- the row of the turn is shut
  pub pass : i < length order → (d : List Heard) (b : Air) → d ≡ done → None ≡ cond (shut bar d (at (heard_sky a.here) p).row) None (Some (at (heard_sky a.here) p))
      → b ≡ cond (shut bar d (at (heard_sky a.here) p).row) a (attempted a p)
      → Mid bar start order before (i + 1) n done trail b
  pass h d b z v e =
      let c : shut bar d (at (heard_sky a.here) p).row ≡ true = none_closed (shut bar d (at (heard_sky a.here) p).row) (at (heard_sky a.here) p) v in
      let s : shut bar D (at sky p).row ≡ true = ap (λ (k : List Heard). shut bar k (at sky p).row) (sym z) ∙ ap (λ (k : List Heard). shut bar d (at k p).row) (sym mid.here) ∙ c in
      let same : b ≡ a = e ∙ ap (λ (t : Bool). cond t a (attempted a p)) c in
      record {
        few = let f = mid.few in omega arith;
        size = mid.size;
        far = ap (λ (y : List ℕ). take n trail ++ y) (sym (turn_trail h true s)) ∙ mid.far;
        ending = sym (turn_end h true s) ∙ mid.ending;
        told = mid.told;
        air = same ∙ mid.air;
        rest = mid.rest;
        here = ap (λ (x : Air). heard_sky x.here) same ∙ mid.here;
      }

  -- the row of the turn is open, and is tried: x is what was heard
  module _ (h : i < length order) (few : length order ≤ 20) (long : 20 ≤ length trail) (d : List Heard) (z : d ≡ done) (x : Heard) (b : Air)
      (v : Some x ≡ cond (shut bar d (at (heard_sky a.here) p).row) None (Some (at (heard_sky a.here) p)))
      (e : b ≡ cond (shut bar d (at (heard_sky a.here) p).row) a (attempted a p))
      (done' : List Heard) (w : done' ≡ done ++ x ∷ []) where
    opened : (shut bar d (at (heard_sky a.here) p).row ≡ false) × (x ≡ at (heard_sky a.here) p)
    opened = some_open (shut bar d (at (heard_sky a.here) p).row) x (at (heard_sky a.here) p) v

    open' : shut bar D (at sky p).row ≡ false
    open' = ap (λ (k : List Heard). shut bar k (at sky p).row) (sym z) ∙ ap (λ (k : List Heard). shut bar d (at k p).row) (sym mid.here) ∙ opened.0

    heard : x ≡ at sky p
    heard = opened.1 ∙ ap (λ (k : List Heard). at k p) mid.here

    tried' : b ≡ attempted a p
    tried' = e ∙ ap (λ (t : Bool). cond t a (attempted a p)) opened.0

    short : n < length trail
    short = let f = mid.few in omega arith

    grown : take (n + 1) (set trail n p) ≡ take n trail ++ (p ∷ [])
    grown = take_more_set trail n p short

    more : done' ≡ D ++ (at sky p ∷ [])
    more = w ∙ ap (λ (y : Heard). D ++ (y ∷ [])) heard

    told' : done' ≡ map (at sky) (take (n + 1) (set trail n p))
    told' = more ∙ ap (λ (d : List Heard). d ++ (at sky p ∷ [])) mid.told ∙ sym (map_push (at sky) (take n trail) p) ∙ ap (map (at sky)) (sym grown)

    air' : b ≡ fold attempted start (take (n + 1) (set trail n p))
    air' = tried' ∙ ap (λ (y : Air). attempted y p) mid.air ∙ sym (fold_push attempted start (take n trail) p) ∙ ap (fold attempted start) (sym grown)

    rest' : drop (n + 1) (set trail n p) ≡ drop (n + 1) before
    rest' = rest_set trail before n p mid.rest

    pub next : ends x.answer ≡ false → Mid bar start order before (i + 1) (n + 1) done' (set trail n p) b
    next f =
        let g : ends (at sky p).answer ≡ false = ap (λ (y : Heard). ends y.answer) (sym heard) ∙ f in
        record {
          few = let q = mid.few in omega arith;
          size = ap length w ∙ (length_push done x ∙ ap (λ (k : ℕ). k + 1) mid.size);
          far =
              ap (λ (y : List ℕ). y ++ trail_of bar sky done' (drop (i + 1) order)) grown
              ∙ append_assoc (take n trail) (p ∷ []) (trail_of bar sky done' (drop (i + 1) order))
              ∙ ap (λ (y : List Heard). take n trail ++ (p ∷ trail_of bar sky y (drop (i + 1) order))) more
              ∙ ap (λ (t : Bool). take n trail ++ (p ∷ cond t [] (trail_of bar sky (D ++ (at sky p ∷ [])) (drop (i + 1) order)))) (sym g)
              ∙ ap (λ (y : List ℕ). take n trail ++ y) (sym (turn_trail h false open')) ∙ mid.far;
          ending =
              ap (λ (y : List Heard). end_of bar sky y (drop (i + 1) order)) more
              ∙ ap (λ (t : Bool). cond t (Some (at sky p)) (end_of bar sky (D ++ (at sky p ∷ [])) (drop (i + 1) order))) (sym g)
              ∙ sym (turn_end h false open') ∙ mid.ending;
          told = told';
          air = air';
          rest = rest';
          here = ap (λ (y : Air). heard_sky y.here) tried' ∙ heard_attempted a p ∙ mid.here;
        }

    pub last : ends x.answer ≡ true → Walked bar start order before (n + 1) done' (Some x) (set trail n p) b
    last f =
        let g : ends (at sky p).answer ≡ true = ap (λ (y : Heard). ends y.answer) (sym heard) ∙ f in
        record {
          few = let q = mid.few in omega arith;
          trail =
              grown
              ∙ ap (λ (t : Bool). take n trail ++ (p ∷ cond t [] (trail_of bar sky (D ++ (at sky p ∷ [])) (drop (i + 1) order)))) (sym g)
              ∙ ap (λ (y : List ℕ). take n trail ++ y) (sym (turn_trail h false open')) ∙ mid.far;
          rest = rest';
          heard_of = told';
          ending =
              ap (λ (y : Heard). Some y) heard
              ∙ ap (λ (t : Bool). cond t (Some (at sky p)) (end_of bar sky (D ++ (at sky p ∷ [])) (drop (i + 1) order))) (sym g)
              ∙ sym (turn_end h false open') ∙ mid.ending;
          air = air';
        }

  -- no turn is left
  pub over : length order ≤ i → i ≤ 20 → Walked bar start order before n done None trail a
  over h most =
      record {
        few = let q = mid.few in omega arith;
        trail = sym (append-nil (take n trail)) ∙ ap (λ (y : List ℕ). take n trail ++ y) (sym (at_drop_all (trail_of bar sky D) order i h)) ∙ mid.far;
        rest = mid.rest;
        heard_of = mid.told;
        ending = sym (at_drop_all (end_of bar sky D) order i h) ∙ mid.ending;
        air = mid.air;
      }

pub moved : {bar : Row → Bool} {start : Air} {order : List Key} {before : List ℕ} {i n : ℕ} {done : List Heard} {trail : List ℕ} {a : Air} (n' : ℕ) (done' : List Heard) (trail' : List ℕ)
    → n' ≡ n → done' ≡ done → trail' ≡ trail → Mid bar start order before i n done trail a → Mid bar start order before i n' done' trail' a
moved {bar} {start} {order} {before} {i} {n} {done} {trail} {a} n' done' trail' e f g m =
    subst (λ (k : ℕ). Mid bar start order before i k done' trail' a) (sym e)
    (subst (λ (d : List Heard). Mid bar start order before i n d trail' a) (sym f) (subst (λ (t : List ℕ). Mid bar start order before i n done t a) (sym g) m))
