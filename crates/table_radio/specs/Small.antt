-- A table's skies have at most twenty rows, and its acceptances at most five codes. It stands here since the radio's meaning names it.
use Rattle.std.specs.Prelude.{◌≡◌, ℕ, zero, suc, ◌≤◌, Bool, List, [], ◌∷◌, map, length, drop, refl}
use Rattle.std.proofs.Common.{ap, arith}
use Rattle.std.specs.List.{AllByRecursion}
use Rattle.std.proofs.lemmas.List.{length-take, length-map}
use Rattle.plmn.specs.declared.code.Code.{Code}
use Rattle.radio.specs.declared.answer.Answer.{Answer}
use Rattle.radio.specs.declared.answer.Answer.TheVariants.{Acceptance, Rejection, Silence}
use Rattle.radio.specs.Skies.{Few, SmallSky}
use Rattle.radio.specs.Airs.{Brief, SmallAir, codes_in}
use Rattle.table_rows.specs.declared.row.TableRow.{TableRow}
use Rattle.table_rows.specs.Tables.{blocks, skies, celled, reply_of, offer_of, table_sky, table_air}

few_blocks : {Y : Type 0} (f : TableRow → Y) (n : ℕ) (es : List TableRow) → AllByRecursion Few (map (map f) (blocks n es))
few_blocks f zero es = tt
few_blocks f (suc n) [] = tt
few_blocks f (suc n) (e ∷ es) = (simp (length-map, length-take) (omega arith), few_blocks f n (drop 20 (e ∷ es)))

pub table_small : (here rest : List TableRow) → length here ≤ 20 → SmallSky (table_sky here rest)
table_small here rest h = record { few = simp length-map h; few_coming = few_blocks (λ (e : TableRow). e.row) (length rest) rest }

pub length_celled : (es : List TableRow) (bs : List Bool) → length (celled es bs) ≡ length es
length_celled [] bs = refl
length_celled (e ∷ es) [] = ap suc (length_celled es [])
length_celled (e ∷ es) (b ∷ bs) = ap suc (length_celled es bs)

brief_reply : (a : Answer) (codes : List Code) → length (codes_in (reply_of a codes)) ≤ 5
brief_reply (Acceptance n) codes = simp length-take (omega arith)
brief_reply (Rejection cause) codes = omega arith
brief_reply Silence codes = omega arith

brief_offers : (es : List TableRow) → AllByRecursion Brief (map offer_of es)
brief_offers [] = tt
brief_offers (e ∷ es) = (brief_reply e.answer e.codes, brief_offers es)

brief_blocks : (s : List (List TableRow)) → AllByRecursion (AllByRecursion Brief) (map (map offer_of) s)
brief_blocks [] = tt
brief_blocks (es ∷ s) = (brief_offers es, brief_blocks s)

brief_cells : (es : List TableRow) (bs : List Bool) → AllByRecursion (λ c. Brief c.offer) (celled es bs)
brief_cells [] bs = tt
brief_cells (e ∷ es) [] = (brief_reply e.answer e.codes, brief_cells es [])
brief_cells (e ∷ es) (b ∷ bs) = (brief_reply e.answer e.codes, brief_cells es bs)

pub table_brief : (here : List TableRow) (tried : List Bool) (rest : List TableRow) → length here ≤ 20 → SmallAir (table_air here tried rest)
table_brief here tried rest h =
    let l = length_celled here tried in
    record {
      few = omega arith;
      few_coming = few_blocks offer_of (length rest) rest;
      brief = brief_cells here tried;
      brief_coming = brief_blocks (skies rest);
    }
