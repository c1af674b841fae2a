-- A part of a trail that is lent to a run, and the whole trail after it.
use Rattle.std.proofs.Common.{◌≡◌, ℕ, zero, suc, ◌≤◌, List, [], ◌∷◌, ◌++◌, length, take, drop, Some, None, Option, sym, refl, ap, ◌∙◌, arith, length-append, length-drop}
use Rattle.std.proofs.lemmas.List.{take-append-drop, append_assoc, length-take-le, take_at}
use Rattle.refusal.specs.declared.Refusal.{Refusal}
use Rattle.selector.specs.Runs.{trailed, unless, answered}
use Rattle.states.specs.declared.state.RunAnswer.{RunAnswer}
use Rattle.agreement.specs.Rules.{tries_in}

drop_part : (k n : ℕ) (xs : List ℕ) → k ≤ n → drop k (take n xs) ++ drop n xs ≡ drop k xs
drop_part zero n xs h = take-append-drop n xs
drop_part (suc k) zero xs h = absurd (omega arith)
drop_part (suc k) (suc n) [] h = refl
drop_part (suc k) (suc n) (x ∷ xs) h = drop_part k n xs (omega arith)

pub few : (places part : List ℕ) (n : ℕ) → length part ≡ n → length (trailed places part) ≡ n → length places ≤ n
few places part n e f = omega (arith, length-append places (drop (length places) part), length-drop (length places) part)

pub lent_part : (refusal : Option Refusal) (places before after : List ℕ) (n : ℕ) → n ≤ length before →
    after ≡ unless refusal (take n before) (trailed places (take n before)) → length after ≡ n →
    after ++ drop n before ≡ trailed (unless refusal [] places) before
lent_part (Some e) places before after n h is len = ap (λ (z : List ℕ). z ++ drop n before) is ∙ take-append-drop n before
lent_part None places before after n h is len =
    let part : List ℕ = take n before in
    let size : length part ≡ n = length-take-le n before h in
    let fits : length places ≤ n = few places part n size (sym (ap length is) ∙ len) in
    ap (λ (z : List ℕ). z ++ drop n before) is ∙ (append_assoc places (drop (length places) part) (drop n before) ∙ ap (λ (z : List ℕ). places ++ z) (drop_part (length places) n before fits))

-- a run that is refused tries nothing
pub tries_are : (refusal : Option Refusal) (answer : RunAnswer) (places : List ℕ) → answer.tries ≡ length places → tries_in (answered refusal answer) ≡ length (unless refusal [] places)
tries_are (Some e) answer places h = refl
tries_are None answer places h = h

-- the front of the trail has the places
pub front : (places before : List ℕ) (k : ℕ) → k ≡ length places → take k (trailed places before) ≡ places
front places before k e = take_at places (drop (length places) before) k (sym e)
