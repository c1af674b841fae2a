-- The rows of the sky now with their marks.
use Rattle.std.proofs.Common.{◌≡◌, ℕ, zero, suc, ◌<◌, Bool, true, false, List, [], ◌∷◌, map, length, get_or, set, refl, ap, arith}
use Rattle.std.specs.Option.{option_map}
use Rattle.std.specs.List.{slice_get}
use Rattle.radio.specs.Airs.{Cell, row_in, marked, changed, sky_of}
use Rattle.table_rows.specs.declared.row.TableRow.{TableRow}
use Rattle.table_rows.specs.Tables.{skies, celled, table_sky, table_air, offer_of}

-- the cell at a place
abbrev pub cell_at : List Bool → ℕ → TableRow → Cell
cell_at bs i e = record { offer = offer_of e; tried = get_or bs i false }

pub nth_celled : (es : List TableRow) (bs : List Bool) (i : ℕ) → slice_get (celled es bs) i ≡ option_map (cell_at bs i) (slice_get es i)
nth_celled [] bs i = refl
nth_celled (e ∷ es) [] zero = refl
nth_celled (e ∷ es) (b ∷ bs) zero = refl
nth_celled (e ∷ es) [] (suc i) = nth_celled es [] i
nth_celled (e ∷ es) (b ∷ bs) (suc i) = nth_celled es bs i

pub celled_set : (es : List TableRow) (bs : List Bool) (i : ℕ) → i < length bs → celled es (set bs i true) ≡ changed marked (celled es bs) i
celled_set es [] i h = absurd (omega arith)
celled_set [] (b ∷ bs) i h = refl
celled_set (e ∷ es) (b ∷ bs) zero h = refl
celled_set (e ∷ es) (b ∷ bs) (suc i) h = ap (λ t. record { offer = offer_of e; tried = b } ∷ t) (celled_set es bs i (omega arith))

-- the rows with answers and marks are the rows that the finder shows
rows_celled : (es : List TableRow) (bs : List Bool) → map row_in (celled es bs) ≡ map (λ e. e.row) es
rows_celled [] bs = refl
rows_celled (e ∷ es) [] = ap (λ l. e.row ∷ l) (rows_celled es [])
rows_celled (e ∷ es) (b ∷ bs) = ap (λ l. e.row ∷ l) (rows_celled es bs)

rows_offered : (es : List TableRow) → map (λ o. o.row) (map offer_of es) ≡ map (λ e. e.row) es
rows_offered [] = refl
rows_offered (e ∷ es) = ap (λ l. e.row ∷ l) (rows_offered es)

skies_offered : (s : List (List TableRow)) → map (map (λ o. o.row)) (map (map offer_of) s) ≡ map (map (λ e. e.row)) s
skies_offered [] = refl
skies_offered (es ∷ s) = let a = rows_offered es in let b = skies_offered s in cc

pub table_agree : (here : List TableRow) (bs : List Bool) (rest : List TableRow) → sky_of (table_air here bs rest) ≡ table_sky here rest
table_agree here bs rest = let a = rows_celled here bs in let b = skies_offered (skies rest) in cc
