use Rattle.std.proofs.Common.{[], ◌∷◌, ap, ◌∙◌}
use Rattle.std.proofs.lemmas.Slice.{pushed}
use Rattle.radio.specs.Skies.{Sky, row_at}
use Rattle.board.proofs.Rows.{row_more}
use Rattle.board.proofs.board.rows_now.Goals as goal

pub loop-place-preserved : goal.loop-place-preserved
loop-place-preserved g c = (
  c.row.ensures.same ∙ c.loop-place.invariant.0,
  pushed (c.in-Ok.row ∷ []) c.loop-place.invariant.1 c.in_ok-push-in-Ok.was c.push.ensures.items
      ∙ row_more (g.F.Finder.sky c.args.finder.now).here c.loop-place.place c.in-Ok.row
      (c.in-Ok.ensures.value ∙ ap (λ (s : Sky). row_at s.here c.loop-place.place) c.loop-place.invariant.0),
)
