-- What a try of a row at a place leaves of the two radios below.
use Rattle.std.proofs.Common.{◌≡◌, ℕ, ◌-◌, ◌<◌, ◌≤◌, ◌&&◌, ltb, leb, length}
use Rattle.std.proofs.lemmas.Bool.{cond-true, cond-false, and_from, and_left, and_right, lt-ltb, le-ltb, le-leb, lt-leb}
use Rattle.radio.specs.Airs.{Air, attempted}
use Rattle.joined_radio.specs.Joins.{first_tried, second_tried}

pub first_hidden : (a : Air) (place : ℕ) → 20 ≤ place → first_tried a place ≡ a
first_hidden a place h = cond-false (ltb place 20 && ltb place (length a.here)) _ _ (and_left (ltb place 20) _ (le-ltb place 20 h))

pub second_hidden : (a b : Air) (place : ℕ) → 20 ≤ place → second_tried a b place ≡ b
second_hidden a b place h = cond-false (ltb place 20 && leb (length a.here) place) _ _ (and_left (ltb place 20) _ (le-ltb place 20 h))

pub first_other : (a : Air) (place : ℕ) → length a.here ≤ place → first_tried a place ≡ a
first_other a place l = cond-false (ltb place 20 && ltb place (length a.here)) _ _ (and_right (ltb place 20) _ (le-ltb place (length a.here) l))

pub second_shown : (a b : Air) (place : ℕ) → place < 20 → length a.here ≤ place → second_tried a b place ≡ attempted b (place - length a.here)
second_shown a b place h l = cond-true (ltb place 20 && leb (length a.here) place) _ _ (and_from (ltb place 20) _ (lt-ltb place 20 h) (le-leb (length a.here) place l))

pub second_other : (a b : Air) (place : ℕ) → place < length a.here → second_tried a b place ≡ b
second_other a b place l = cond-false (ltb place 20 && leb (length a.here) place) _ _ (and_right (ltb place 20) _ (lt-leb (length a.here) place l))
