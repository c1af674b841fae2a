use Rattle.std.proofs.Common.{rules}
use Rattle.scenario.proofs.Counts.{lines_count}
use Rattle.scenario.proofs.reading.read.Goals as goal

pub loop-line-init : goal.loop-line-init
loop-line-init c = search (rules, lines_count c.args.text.now)
