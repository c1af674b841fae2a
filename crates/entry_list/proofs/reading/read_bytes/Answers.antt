use Rattle.std.proofs.Common.{◌++◌, ◌∷◌, [], List, ℕ, sym, ap, ◌∙◌, subst, arith}
use Rattle.std.specs.Slice.Iter.{chunks_exact_rest, chunks_exact_size}
use Rattle.bounded.specs.Held.{held}
use Rattle.entry_list.proofs.Wholes.{ReadTo, none_read, room, read_more, read_all}
use Rattle.entry_list.specs.declared.listed.Listed.{Listed}
use Rattle.entry_list.proofs.reading.read_bytes.Goals as goal

pub loop-entry-init : goal.loop-entry-init
loop-entry-init g c =
    let rest = ap chunks_exact_rest c.into_iter-entry-iterator.ensures.into_iter_gives ∙ c.chunks_exact-entry-items.ensures.rest in
    let start = none_read g.K.EntryKind.LENGTH g.K.EntryKind.meaning c.args.bytes.now g.met.K.EntryKind.long c.requires in (
      subst (λ (r : List ℕ). ReadTo g.K.EntryKind.LENGTH g.K.EntryKind.meaning c.args.bytes.now (held c.new-held.result) r) (sym rest)
          (subst (λ (ys : List Listed). ReadTo g.K.EntryKind.LENGTH g.K.EntryKind.meaning c.args.bytes.now ys c.args.bytes.now) (sym c.new-held.ensures) start),
      ap chunks_exact_size c.into_iter-entry-iterator.ensures.into_iter_gives ∙ (c.chunks_exact-entry-items.ensures.size ∙ c.LENGTH.ensures),
    )

pub loop-entry-preserved : goal.loop-entry-preserved
loop-entry-preserved g c =
    let long = g.met.K.EntryKind.long in
    let steps = c.in-Some.ensures.steps in
    let size = steps.1.1 ∙ c.loop-entry.invariant.1 in
    let t = subst (ReadTo g.K.EntryKind.LENGTH g.K.EntryKind.meaning c.args.bytes.now (held c.loop-entry.held)) steps.1.0 c.loop-entry.invariant.0 in
    let more = read_more g.K.EntryKind.LENGTH g.K.EntryKind.meaning c.args.bytes.now (held c.loop-entry.held) c.in-Some.entry.now (chunks_exact_rest c.next.new.self) (omega (arith, long)) size t in
    let few = room g.K.EntryKind.LENGTH g.K.EntryKind.meaning c.args.bytes.now (held c.loop-entry.held) c.in-Some.entry.now (chunks_exact_rest c.next.new.self) (omega (arith, long)) size t in (
      subst (λ (ys : List Listed). ReadTo g.K.EntryKind.LENGTH g.K.EntryKind.meaning c.args.bytes.now ys (chunks_exact_rest c.next.new.self)) (sym (c.push.ensures.room few ∙ ap (λ (y : Listed). held c.loop-entry.held ++ y ∷ []) c.read.ensures)) more,
      steps.0 ∙ c.loop-entry.invariant.1,
    )

pub returns : goal.returns
returns g c =
    let steps = c.in-None.ensures.steps in
    read_all g.K.EntryKind.LENGTH g.K.EntryKind.meaning c.args.bytes.now (held c.loop-entry.held) (chunks_exact_rest c.loop-entry.entry-iterator)
    (omega (arith, steps.1.0, c.loop-entry.invariant.1)) c.loop-entry.invariant.0
