-- The skies of a table, and the replies of its rows' networks.
use Rattle.std.specs.Prelude.{ℕ, zero, suc, min, Bool, false, not, List, [], ◌∷◌, map, length, take, drop}
use Rattle.std.specs.List.{prefix_len}
use Rattle.plmn.specs.declared.code.Code.{Code}
use Rattle.plmn.specs.Codes.{empty_code, same_code}
use Rattle.radio.specs.declared.answer.Answer.{Answer}
use Rattle.radio.specs.declared.answer.Answer.TheVariants.{Acceptance, Rejection, Silence}
use Rattle.radio.specs.Skies.{Sky}
use Rattle.radio.specs.Airs.{Air, Cell, Offer, Reply, accepted, rejected, silent}
use Rattle.table_rows.specs.declared.row.TableRow.{TableRow}

-- its code is not the empty one
abbrev pub named : TableRow → Bool
named e = not (same_code e.row.code empty_code)

-- an acceptance has as many codes as it says, and five at most
abbrev pub reply_of : Answer → List Code → Reply
reply_of (Acceptance n) codes = accepted (take (min n 5) codes)
reply_of (Rejection cause) _ = rejected cause
reply_of Silence _ = silent

abbrev pub offer_of : TableRow → Offer
offer_of e = record { row = e.row; reply = reply_of e.answer e.codes }

-- a block ends before its first empty code
abbrev pub cut : List TableRow → List TableRow
cut es = take (prefix_len named es) es

-- each block of twenty is a sky, and a shorter last block is one too; at most n blocks
abbrev pub blocks : ℕ → List TableRow → List (List TableRow)
blocks zero es = []
blocks (suc n) [] = []
blocks (suc n) (e ∷ es) = cut (take 20 (e ∷ es)) ∷ blocks n (drop 20 (e ∷ es))

-- all blocks: there are no more than rows
abbrev pub skies : List TableRow → List (List TableRow)
skies es = blocks (length es) es

-- the rows of the sky now with their marks; a row without one was not tried
abbrev pub celled : List TableRow → List Bool → List Cell
celled [] _ = []
celled (e ∷ es) [] = record { offer = offer_of e; tried = false } ∷ celled es []
celled (e ∷ es) (b ∷ bs) = record { offer = offer_of e; tried = b } ∷ celled es bs

-- what a table radio means, by the rows of the sky now, their marks and the rows to come
abbrev pub table_sky : List TableRow → List TableRow → Sky
table_sky here rest = record { here = map (λ e. e.row) here; coming = map (map (λ e. e.row)) (skies rest) }

abbrev pub table_air : List TableRow → List Bool → List TableRow → Air
table_air here tried rest = record { here = celled here tried; coming = map (map offer_of) (skies rest) }

-- what it means when it is made: the sky now is empty, and the first 10,000 rows of the table are to come
abbrev pub start_sky : List TableRow → Sky
start_sky table = record { here = []; coming = map (map (λ e. e.row)) (skies (take 10000 table)) }

abbrev pub start_air : List TableRow → Air
start_air table = record { here = []; coming = map (map offer_of) (skies (take 10000 table)) }
