use Rattle.std.proofs.Common.{◌≡◌, ℕ, zero, suc, ◌+◌, ◌<◌, List, [], ◌∷◌, ◌++◌, map, length, take, sym, refl, ap, ◌∙◌, arith}
use Rattle.std.proofs.lemmas.List.{length-map, length-take-le}
use Rattle.bounded.specs.Held.{held}
use Rattle.plmn.specs.declared.row.Row.{Row}
use Rattle.radio.specs.Airs.{Air, Cell, row_in}
use Rattle.tries.specs.Turns.{heard_sky, at}
use Rattle.found_rows.proofs.taking.take_rows.Goals as goal

-- one row more of a sky
one_more : (cells : List Cell) (i : ℕ) → i < length cells → map row_in (take (suc i) cells) ≡ map row_in (take i cells) ++ (at (heard_sky cells) i).row ∷ []
one_more [] i h = absurd (omega arith)
one_more (c ∷ cs) zero h = refl
one_more (c ∷ cs) (suc i) h = ap (λ (rs : List Row). row_in c ∷ rs) (one_more cs i (omega arith))

pub loop-place-preserved : goal.loop-place-preserved
loop-place-preserved g c =
    let cells : List Cell = (g.R.Registrar.air c.args.radio.now).here in
    let i : ℕ = c.loop-place.place in
    let inside : i < length cells = omega (arith, c.loop-place-test.true, c.rows-count.ensures.value) in
    let start = c.rows-count.ensures.air in
    let now = c.loop-place.invariant.0 in
    let row : c.take_row.result ≡ (at (heard_sky cells) i).row = c.take_row.ensures.value ∙ ap (λ (a : Air). (at (heard_sky a.here) i).row) now in
    let size : length (held c.loop-place.held) ≡ i = ap length c.loop-place.invariant.1 ∙ (length-map (take i cells) row_in ∙ length-take-le i cells (omega arith)) in
    let few : length (held c.loop-place.held) < 20 = omega (arith, size, c.loop-place-test.true, c.rows-count.ensures.small) in
    let n : i + 1 ≡ suc i = omega arith in (
      c.take_row.ensures.air ∙ now,
      c.push.ensures.room few
          ∙ (ap (λ (rs : List Row). rs ++ c.take_row.result ∷ []) c.loop-place.invariant.1
          ∙ (ap (λ (r : Row). map row_in (take i cells) ++ r ∷ []) row
          ∙ (sym (one_more cells i inside) ∙ ap (λ (k : ℕ). map row_in (take k cells)) (sym n)))),
    )
