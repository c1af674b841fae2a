-- Two lists as one: what stands at each place, what one change does, and the same sky by sky.
use Rattle.std.proofs.Common.{◌≡◌, ℕ, zero, suc, ◌+◌, ◌-◌, ◌<◌, ◌≤◌, min, List, [], ◌∷◌, ◌++◌, map, length, take, None, sym, refl, ap, ◌∙◌, suc-add, zero-add, arith}
use Rattle.std.specs.List.{slice_get}
use Rattle.std.proofs.lemmas.List.{length-take, length-append, take-map, map-append}
use Rattle.std.proofs.lemmas.Option.{slice_get_past}
use Rattle.radio.specs.Skies.{Sky, front, later}
use Rattle.radio.specs.Airs.{Air, Offer, row_in, sky_of, changed}
use Rattle.radio.proofs.Changes.{changed_past}
use Rattle.radio.proofs.Places.{nth_take, nth_left, nth_right}
use Rattle.joined_radio.specs.Joins.{joint, joints, joined_sky, joined_air}

-- where each row of two lists as one stands
pub joint_past : {X : Type 0} (a b : List X) (i : ℕ) → 20 ≤ i → slice_get (joint a b) i ≡ None
joint_past a b i h = slice_get_past (joint a b) i (simp length-take (omega arith))

pub joint_left : {X : Type 0} (a b : List X) (i : ℕ) → i < 20 → i < length a → slice_get (joint a b) i ≡ slice_get a i
joint_left a b i h l = nth_take 20 (a ++ b) i h ∙ nth_left a b i l

pub joint_right : {X : Type 0} (a b : List X) (i n : ℕ) → i < 20 → n ≡ length a → n ≤ i → slice_get (joint a b) i ≡ slice_get b (i - n)
joint_right a b i n h e l =
    let s : i ≡ length a + (i - n) = omega arith in
    nth_take 20 (a ++ b) i h ∙ (ap (λ k. slice_get (a ++ b) k) s ∙ nth_right a b (i - n))

pub length_joint : {X : Type 0} (a b : List X) → length (joint a b) ≡ min 20 (length a + length b)
length_joint a b = simp (length-take, length-append)

-- the change of one element
pub changed_take : {X : Type 0} (f : X → X) (n : ℕ) (xs : List X) (i : ℕ) → changed f (take n xs) i ≡ take n (changed f xs i)
changed_take f zero xs i = refl
changed_take f (suc n) [] i = refl
changed_take f (suc n) (x ∷ xs) zero = refl
changed_take f (suc n) (x ∷ xs) (suc i) = ap (λ l. x ∷ l) (changed_take f n xs i)

pub changed_left : {X : Type 0} (f : X → X) (xs ys : List X) (i : ℕ) → i < length xs → changed f (xs ++ ys) i ≡ changed f xs i ++ ys
changed_left f [] ys i h = absurd (omega arith)
changed_left f (x ∷ xs) ys zero h = refl
changed_left f (x ∷ xs) ys (suc i) h = ap (λ l. x ∷ l) (changed_left f xs ys i (omega arith))

pub changed_right : {X : Type 0} (f : X → X) (xs ys : List X) (i : ℕ) → changed f (xs ++ ys) (length xs + i) ≡ xs ++ changed f ys i
changed_right f [] ys i = simp zero-add
changed_right f (x ∷ xs) ys i = rw suc-add (ap (λ l. x ∷ l) (changed_right f xs ys i))

pub changed_joint_past : {X : Type 0} (f : X → X) (a b : List X) (i : ℕ) → 20 ≤ i → changed f (joint a b) i ≡ joint a b
changed_joint_past f a b i h = changed_past f (joint a b) i (simp length-take (omega arith))

pub changed_joint_left : {X : Type 0} (f : X → X) (a b : List X) (i : ℕ) → i < length a → changed f (joint a b) i ≡ joint (changed f a i) b
changed_joint_left f a b i l = changed_take f 20 (a ++ b) i ∙ ap (take 20) (changed_left f a b i l)

pub changed_joint_right : {X : Type 0} (f : X → X) (a b : List X) (i n : ℕ) → n ≡ length a → n ≤ i → changed f (joint a b) i ≡ joint a (changed f b (i - n))
changed_joint_right f a b i n e l =
    let s : i ≡ length a + (i - n) = omega arith in
    changed_take f 20 (a ++ b) i ∙ ap (take 20) (ap (changed f (a ++ b)) s ∙ changed_right f a b (i - n))

-- joints sky by sky
pub map_joint : {X Y : Type 0} (f : X → Y) (a b : List X) → map f (joint a b) ≡ joint (map f a) (map f b)
map_joint f a b = sym (take-map f 20 (a ++ b)) ∙ ap (take 20) (map-append f a b)

pub front_joints : {X : Type 0} (s t : List (List X)) → front (joints s t) ≡ joint (front s) (front t)
front_joints [] [] = refl
front_joints [] (b ∷ t) = refl
front_joints (a ∷ s) t = refl

pub later_joints : {X : Type 0} (s t : List (List X)) → later (joints s t) ≡ joints (later s) (later t)
later_joints [] [] = refl
later_joints [] (b ∷ t) = refl
later_joints (a ∷ s) t = refl

pub map_front_joints : {X Y : Type 0} (f : X → Y) (s t : List (List X)) → map f (front (joints s t)) ≡ joint (map f (front s)) (map f (front t))
map_front_joints f s t = ap (map f) (front_joints s t) ∙ map_joint f (front s) (front t)

map_joints : {X Y : Type 0} (f : X → Y) (s t : List (List X)) → map (map f) (joints s t) ≡ joints (map (map f) s) (map (map f) t)
map_joints f [] [] = refl
map_joints f [] (b ∷ t) = let a = map_joint f [] b in let r = map_joints f [] t in cc
map_joints f (a ∷ s) [] = let b = map_joint f a [] in let r = map_joints f s [] in cc
map_joints f (a ∷ s) (b ∷ t) = let d = map_joint f a b in let r = map_joints f s t in cc

-- the rows with answers and marks are the rows that the finder shows
pub joined_agree : (a b : Air) (p q : Sky) → sky_of a ≡ p → sky_of b ≡ q → sky_of (joined_air a b) ≡ joined_sky p q
joined_agree a b p q h k =
    let d = map_joint row_in a.here b.here in let r = map_joints (λ (o : Offer). o.row) a.coming b.coming in
    let e : sky_of (joined_air a b) ≡ joined_sky (sky_of a) (sky_of b) = cc in
    e ∙ (ap (λ s. joined_sky s (sky_of b)) h ∙ ap (joined_sky p) k)
