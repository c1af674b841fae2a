use Rattle.std.proofs.Common.{rules}
use Rattle.table_radio.proofs.Skies.{sky_next}
use Rattle.table_radio.proofs.radios.TableRadioFinder.search.Goals as goal

pub returns : goal.returns
returns c = let n = sky_next c.args.self.now.here.now c.args.self.now.rest.now in search rules
