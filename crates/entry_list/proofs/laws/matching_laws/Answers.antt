use Rattle.entry_list.proofs.Matches.{matching}
use Rattle.entry_list.proofs.laws.matching_laws.Goals as goal

pub returns : goal.returns
returns c = matching c.args.supported.bits c.args.code c.args.wanted.bits c.args.entries.now
