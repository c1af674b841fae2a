use Rattle.std.proofs.Common.{rules}
use Rattle.joined_radio.proofs.Joints.{length_joint, joined_agree}
use Rattle.joined_radio.proofs.registrar.rows_of.Goals as goal

pub returns : goal.returns
returns g c = search (rules, length_joint, joined_agree)
