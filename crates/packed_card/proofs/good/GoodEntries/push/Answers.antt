use Rattle.std.proofs.Common.{true, sym, subst, ◌≡◌, List}
use Rattle.packed_card.specs.Directories.{sound}
use Rattle.packed_card.specs.Packed.{listed as listedIn}
use Rattle.packed_card.specs.declared.entry.Entry.{Entry}
use Rattle.packed_card.proofs.Apart.{sound_push}
use Rattle.packed_card.proofs.good.GoodEntries.push.Goals as goal

pub invariant_of-self : goal.invariant_of-self
invariant_of-self c = record {
  apart = subst (λ (es : List Entry). sound es ≡ true) (sym (c.push.ensures.room c.requires.room))
      (sound_push c.args.size (listedIn c.args.self.now) c.args.e c.args.self.now.apart c.requires.fits c.requires.apart);
}
