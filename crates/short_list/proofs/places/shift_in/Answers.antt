use Rattle.std.proofs.Common.{rules}
use Rattle.short_list.proofs.Lemmas.{shifted_is}
use Rattle.short_list.proofs.places.shift_in.Goals as goal

pub returns : goal.returns
returns g c = let e = shifted_is c.args.x c.args.places.now c.requires in search rules
