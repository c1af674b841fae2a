-- The marks of the sky now, as a table radio holds them.
use Rattle.std.proofs.Common.{◌≡◌, ℕ, zero, suc, ◌+◌, ◌<◌, Bool, true, false, cond, List, [], ◌∷◌, ◌++◌, length, take, set, refl, sym, ap, ◌∙◌}
use Rattle.std.specs.Option.{unwrap_or}
use Rattle.std.specs.List.{slice_get}
use Rattle.std.proofs.lemmas.List.{take_more_set}
use Rattle.radio.specs.Airs.{Cell}
use Rattle.table_rows.specs.declared.row.TableRow.{TableRow}
use Rattle.table_rows.specs.Tables.{celled}
use Rattle.plain.specs.Plays.{tried_at, marked_below}

none_tried : (es : List TableRow) (p : ℕ) → tried_at (celled es []) p ≡ false
none_tried [] p = refl
none_tried (e ∷ es) zero = refl
none_tried (e ∷ es) (suc p) = none_tried es p

-- a table's mark is the one that stands at the place, and there is none past its rows
pub tried_here : (es : List TableRow) (bs : List Bool) (p : ℕ) → unwrap_or (slice_get (take (length es) bs) p) false ≡ tried_at (celled es bs) p
tried_here [] bs p = refl
tried_here (e ∷ es) [] p = sym (none_tried (e ∷ es) p)
tried_here (e ∷ es) (b ∷ bs) zero = refl
tried_here (e ∷ es) (b ∷ bs) (suc p) = tried_here es bs p
