use Rattle.std.proofs.Common.{rules}
use Rattle.joined_radio.proofs.Joints.{joint_past, joint_left, joint_right}
use Rattle.joined_radio.proofs.registrar.code_of.Goals as goal

pub returns-in-Ok-First : goal.returns-in-Ok-First
returns-in-Ok-First g c = search (rules, joint_left)

pub returns-in-Ok-Second : goal.returns-in-Ok-Second
returns-in-Ok-Second g c = search (rules, joint_right)

pub returns-in-Err : goal.returns-in-Err
returns-in-Err g c = let h = c.in-Err.ensures.0 in search (rules, joint_past)
