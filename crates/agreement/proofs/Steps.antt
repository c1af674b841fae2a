-- One call of a sequence: what is left of the calls and of the lengths, and what is seen of them.
use Rattle.std.proofs.Common.{◌≡◌, ℕ, zero, suc, ◌+◌, ◌<◌, min, List, [], ◌∷◌, ◌++◌, map, length, get_or, drop, sym, refl, ap, ◌∙◌, add-one, arith}
use Rattle.std.proofs.lemmas.List.{at_drop_more, append_assoc}
use Rattle.selector.specs.Runs.{trailed}
use Rattle.agreement.specs.Histories.{Seen, seen_after, lengths, next, later, history, finally, overwritten}
use Rattle.agreement.specs.Rules.{places_of, left_by}
use Rattle.agreement.specs.Worlds.{World}
use Rattle.agreement.specs.declared.call.Call.{Call}

next_drop : (f : ℕ → ℕ) → f 0 ≡ 0 → (rooms : List ℕ) (i : ℕ) → next (drop i (map f rooms)) ≡ f (get_or rooms i 0)
next_drop f e [] zero = sym e
next_drop f e [] (suc i) = sym e
next_drop f e (r ∷ rs) zero = refl
next_drop f e (r ∷ rs) (suc i) = next_drop f e rs i

-- the length that the call at i is lent
pub next_length : (rooms trail : List ℕ) (i : ℕ) → next (drop i (lengths rooms trail)) ≡ min (get_or rooms i 0) (length trail)
next_length rooms trail i = next_drop (λ room. min room (length trail)) (omega arith) rooms i

later_drop : (ns : List ℕ) (i : ℕ) → later (drop i ns) ≡ drop (i + 1) ns
later_drop [] zero = refl
later_drop [] (suc i) = rw (add-one (suc i)) refl
later_drop (n ∷ ns) zero = refl
later_drop (n ∷ ns) (suc i) = later_drop ns i ∙ rw (add-one (suc i), add-one i) refl

module _ (calls : List Call) (ns : List ℕ) (i : ℕ) (d : Call) (n : ℕ) (w v : World) (more : i < length calls) (lent : next (drop i ns) ≡ n) (left : v ≡ left_by (get_or calls i d) n w) where
  -- with the call at i made, its entry stands first and the rest follows
  pub step_history : history (drop i calls) (drop i ns) w ≡ seen_after (get_or calls i d) n w ∷ history (drop (i + 1) calls) (drop (i + 1) ns) v
  step_history =
      at_drop_more (λ (cs : List Call). history cs (drop i ns) w) calls i d more
      ∙ (ap (λ (k : ℕ). seen_after (get_or calls i d) k w ∷ history (drop (i + 1) calls) (later (drop i ns)) (left_by (get_or calls i d) k w)) lent
      ∙ (ap (λ (ms : List ℕ). seen_after (get_or calls i d) n w ∷ history (drop (i + 1) calls) ms (left_by (get_or calls i d) n w)) (later_drop ns i)
      ∙ ap (λ (u : World). seen_after (get_or calls i d) n w ∷ history (drop (i + 1) calls) (drop (i + 1) ns) u) (sym left)))

  pub step_finally : finally (drop i calls) (drop i ns) w ≡ finally (drop (i + 1) calls) (drop (i + 1) ns) v
  step_finally =
      at_drop_more (λ (cs : List Call). finally cs (drop i ns) w) calls i d more
      ∙ (ap (λ (k : ℕ). finally (drop (i + 1) calls) (later (drop i ns)) (left_by (get_or calls i d) k w)) lent
      ∙ (ap (λ (ms : List ℕ). finally (drop (i + 1) calls) ms (left_by (get_or calls i d) n w)) (later_drop ns i)
      ∙ ap (λ (u : World). finally (drop (i + 1) calls) (drop (i + 1) ns) u) (sym left)))

  pub step_heard : (m : List Seen) → (m ++ (seen_after (get_or calls i d) n w ∷ [])) ++ history (drop (i + 1) calls) (drop (i + 1) ns) v ≡ m ++ history (drop i calls) (drop i ns) w
  step_heard m =
      append_assoc m (seen_after (get_or calls i d) n w ∷ []) (history (drop (i + 1) calls) (drop (i + 1) ns) v) ∙ ap (λ (z : List Seen). m ++ z) (sym step_history)

  pub step_trail : (before after : List ℕ) → after ≡ trailed (places_of (get_or calls i d) n w) before →
      overwritten (history (drop (i + 1) calls) (drop (i + 1) ns) v) after ≡ overwritten (history (drop i calls) (drop i ns) w) before
  step_trail before after e =
      ap (overwritten (history (drop (i + 1) calls) (drop (i + 1) ns) v)) e ∙ ap (λ (z : List Seen). overwritten z before) (sym step_history)
