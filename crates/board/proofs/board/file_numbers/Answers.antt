use Rattle.std.proofs.Common.{◌≤◌, List, [], ◌∷◌, length, ap, ◌∙◌, arith}
use Rattle.std.proofs.lemmas.List.{take_all, length-take}
use Rattle.std.proofs.lemmas.Slice.{pushed}
use Rattle.bounded.specs.Held.{held}
use Rattle.bounded.specs.declared.bounded.Bounded.{Bounded}
use Rattle.packed_card.specs.Packed.{listed}
use Rattle.packed_card.specs.declared.entry.Entry.{Entry}
use Rattle.board.specs.Numbers.{numbers_of}
use Rattle.board.proofs.Numbers.{numbers_more, numbers_end}
use Rattle.board.proofs.board.file_numbers.Goals as goal

few : (b : Bounded Entry 12) → length (held b) ≤ 12
unfolding held
few b = omega (arith, length-take b.count b.places, b.within)

pub returns-in-None : goal.returns-in-None
returns-in-None c = c.loop-place.invariant ∙ numbers_end c.loop-place.place (listed c.args.card.now.good) c.in-None.ensures

pub loop-place-preserved : goal.loop-place-preserved
loop-place-preserved c =
    pushed (c.in-Some.file ∷ []) c.loop-place.invariant c.in_ok-push-in-Some.was c.push.ensures.items
    ∙ numbers_more c.loop-place.place (listed c.args.card.now.good) c.in-Some.file c.in-Some.ensures

pub returns : goal.returns
returns c =
    let es : List Entry = listed c.args.card.now.good in
    let short : length es ≤ 12 = few c.args.card.now.good.entries in
    c.loop-place.invariant ∙ ap numbers_of (take_all c.loop-place.place es (omega arith))
