use Rattle.std.proofs.Common.{rules}
use Rattle.joined_radio.proofs.Joints.{map_front_joints, later_joints}
use Rattle.joined_radio.proofs.registrar.JoinedRegistrar.seek.Goals as goal

pub returns : goal.returns
returns g c = search (rules, map_front_joints, later_joints)
