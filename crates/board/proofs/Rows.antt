-- The rows of a sky, taken one place after another.
use Rattle.std.proofs.Common.{◌≡◌, ℕ, ◌+◌, ◌<◌, ◌≤◌, List, [], ◌∷◌, ◌++◌, length, get_or, take, Some, None, Option, Ok, Err, Result, ap, ◌∙◌, ⊎_elim}
use Rattle.std.specs.List.{slice_get}
use Rattle.std.specs.Option.{ok_or}
use Rattle.std.proofs.lemmas.List.{take_more}
use Rattle.std.proofs.lemmas.Option.{slice_get_cases}
use Rattle.refusal.specs.declared.Refusal.{Refusal}
use Rattle.refusal.specs.declared.Refusal.TheVariants.{NoRow}
use Rattle.plmn.specs.declared.row.Row.{Row}
use Rattle.radio.specs.Skies.{row_at}

-- one row more
pub row_more : (rows : List Row) (i : ℕ) (r : Row) → Ok r ≡ row_at rows i → take i rows ++ r ∷ [] ≡ take (i + 1) rows
row_more rows i r h =
    ⊎_elim
    (λ (p : (x : Row) × (i < length rows) × (slice_get rows i ≡ Some x) × (get_or rows i x ≡ x)).
    let k : ◌≡◌ {A = Result Row Refusal} (Ok r) (Ok p.0) = h ∙ ap (λ (o : Option Row). ok_or o NoRow) p.2 in
    let more : take (i + 1) rows ≡ take i rows ++ get_or rows i p.0 ∷ [] = take_more rows i p.0 p.1 in
    let same : get_or rows i p.0 ≡ p.0 = p.3 in
    cc)
    (λ (p : (length rows ≤ i) × (slice_get rows i ≡ None)).
    let k : ◌≡◌ {A = Result Row Refusal} (Ok r) (Err NoRow) = h ∙ ap (λ (o : Option Row). ok_or o NoRow) p.1 in
    cc)
    (slice_get_cases rows i).1
