-- Joined skies have at most twenty rows, and their acceptances at most five codes where those below do. It stands here since the
-- radio's meaning names it.
use Rattle.std.specs.Prelude.{List, [], ◌∷◌, ◌++◌, map}
use Rattle.std.proofs.Common.{arith}
use Rattle.std.specs.List.{AllByRecursion}
use Rattle.std.proofs.lemmas.List.{length-take}
use Rattle.std.proofs.ByRecursion.{All-append, All-take}
use Rattle.radio.specs.Skies.{Sky, Few, SmallSky, front, later}
use Rattle.radio.specs.Airs.{Air, Brief, SmallAir}
use Rattle.joined_radio.specs.Joins.{joint, joints, joined_sky, joined_air}

few_joint : {X : Type 0} (a b : List X) → Few (joint a b)
few_joint a b = simp length-take (omega arith)

few_alone : {X : Type 0} (t : List (List X)) → AllByRecursion Few (map (joint []) t)
few_alone [] = tt
few_alone (b ∷ t) = (few_joint [] b, few_alone t)

few_joints : {X : Type 0} (s t : List (List X)) → AllByRecursion Few (joints s t)
few_joints [] t = few_alone t
few_joints (a ∷ s) t = (few_joint a (front t), few_joints s (later t))

pub joined_small : (a b : Sky) → SmallSky (joined_sky a b)
joined_small a b = record { few = few_joint a.here b.here; few_coming = few_joints a.coming b.coming }

-- what holds of every row of both holds of every row shown
all_joint : {X : Type 0} (P : X → Type 0) (a b : List X) → AllByRecursion P a → AllByRecursion P b → AllByRecursion P (joint a b)
all_joint P a b p q = All-take P 20 (a ++ b) (All-append P a b p q)

all_front : {X : Type 0} (P : X → Type 0) (t : List (List X)) → AllByRecursion (AllByRecursion P) t → AllByRecursion P (front t)
all_front P [] q = tt
all_front P (b ∷ t) q = q.0

all_later : {X : Type 0} (P : X → Type 0) (t : List (List X)) → AllByRecursion (AllByRecursion P) t → AllByRecursion (AllByRecursion P) (later t)
all_later P [] q = tt
all_later P (b ∷ t) q = q.1

all_alone : {X : Type 0} (P : X → Type 0) (t : List (List X)) → AllByRecursion (AllByRecursion P) t → AllByRecursion (AllByRecursion P) (map (joint []) t)
all_alone P [] q = tt
all_alone P (b ∷ t) q = (all_joint P [] b tt q.0, all_alone P t q.1)

all_joints : {X : Type 0} (P : X → Type 0) (s t : List (List X)) → AllByRecursion (AllByRecursion P) s → AllByRecursion (AllByRecursion P) t → AllByRecursion (AllByRecursion P) (joints s t)
all_joints P [] t p q = all_alone P t q
all_joints P (a ∷ s) t p q = (all_joint P a (front t) p.0 (all_front P t q), all_joints P s (later t) p.1 (all_later P t q))

pub joined_brief : (a b : Air) → SmallAir a → SmallAir b → SmallAir (joined_air a b)
joined_brief a b p q = record {
  few = few_joint a.here b.here;
  few_coming = few_joints a.coming b.coming;
  brief = all_joint (λ c. Brief c.offer) a.here b.here p.brief q.brief;
  brief_coming = all_joints Brief a.coming b.coming p.brief_coming q.brief_coming;
}
