-- The laws of joining.
use Rattle.std.proofs.Common.{◌≡◌, ℕ, zero, suc, ◌+◌, ◌-◌, ◌<◌, ◌≤◌, max, List, [], ◌∷◌, ◌++◌, map, length, get_or, refl, ap, ◌∙◌, ⊎_elim, arith}
use Rattle.std.specs.List.{slice_get}
use Rattle.std.proofs.lemmas.List.{length-take, length-map}
use Rattle.std.proofs.lemmas.Bool.{cases_lt}
use Rattle.radio.specs.Skies.{front, later}
use Rattle.radio.specs.Airs.{Air, marked}
use Rattle.radio.proofs.Changes.{changed_other}
use Rattle.radio.proofs.Places.{nth_take, nth_right}
use Rattle.joined_radio.specs.Joins.{joint, joints, first_tried, second_tried}
use Rattle.joined_radio.specs.Laws.{Joining, JoiningSkies, TryingBoth}
use Rattle.joined_radio.proofs.Joints.{joint_past, joint_left}
use Rattle.joined_radio.proofs.Tried.{first_hidden, second_hidden, first_other, second_other, second_shown}

pub joining : {X : Type 0} (a b : List X) → Joining a b (joint a b)
joining a b = record {
  first_rows = joint_left a b;
  then_second = λ k h. nth_take 20 (a ++ b) (length a + k) h ∙ nth_right a b k;
  at_most_twenty = simp length-take (omega arith);
  none_beyond = joint_past a b;
}

-- sky by sky
nth_alone : {X : Type 0} (t : List (List X)) (k : ℕ) → get_or (map (joint []) t) k [] ≡ joint [] (get_or t k [])
nth_alone [] k = refl
nth_alone (b ∷ t) zero = refl
nth_alone (b ∷ t) (suc k) = nth_alone t k

front_at : {X : Type 0} (t : List (List X)) → front t ≡ get_or t 0 []
front_at [] = refl
front_at (b ∷ t) = refl

later_at : {X : Type 0} (t : List (List X)) (k : ℕ) → get_or (later t) k [] ≡ get_or t (suc k) []
later_at [] k = refl
later_at (b ∷ t) k = refl

joints_at : {X : Type 0} (s t : List (List X)) (k : ℕ) → get_or (joints s t) k [] ≡ joint (get_or s k []) (get_or t k [])
joints_at [] t k = nth_alone t k
joints_at (a ∷ s) t zero = ap (joint a) (front_at t)
joints_at (a ∷ s) t (suc k) = joints_at s (later t) k ∙ ap (joint (get_or s k [])) (later_at t k)

later_length : {X : Type 0} (t : List (List X)) → length (later t) ≡ length t - 1
later_length [] = refl
later_length (b ∷ t) = omega arith

length_joints : {X : Type 0} (s t : List (List X)) → length (joints s t) ≡ max (length s) (length t)
length_joints [] t = simp length-map (omega arith)
length_joints (a ∷ s) t = let r = length_joints s (later t) in let l = later_length t in omega arith

pub joining_skies : {X : Type 0} (s t : List (List X)) → JoiningSkies s t (joints s t)
joining_skies s t = record {
  as_many = length_joints s t;
  each_joined = λ k. rw (joints_at s t k) (joining (get_or s k []) (get_or t k []));
}

-- a row past the twentieth
hidden_shown : (a b : Air) (place k : ℕ) → 20 ≤ length a.here + k → place < 20 → slice_get (second_tried a b place).here k ≡ slice_get b.here k
hidden_shown a b place k h l = ⊎_elim
    (λ m. ap (λ (x : Air). slice_get x.here k) (second_other a b place m))
    (λ m. ap (λ (x : Air). slice_get x.here k) (second_shown a b place l m) ∙ changed_other marked b.here (place - length a.here) k (λ e. omega arith))
    (cases_lt place (length a.here))

pub trying_both : (a b : Air) (place : ℕ) → TryingBoth place a b (first_tried a place) (second_tried a b place)
trying_both a b place = record {
  none_beyond = λ h. (first_hidden a place h, second_hidden a b place h);
  second_stays = second_other a b place;
  first_stays = first_other a place;
  hidden_stay = λ k h. ⊎_elim (hidden_shown a b place k h) (λ l. ap (λ (x : Air). slice_get x.here k) (second_hidden a b place l)) (cases_lt place 20);
}
