use Rattle.std.proofs.Common.{rules}
use Rattle.std.proofs.lemmas.Result.{err_from_is_err_and}
use Rattle.joined_radio.proofs.Joints.{joint_past, joint_left, joint_right}
use Rattle.joined_radio.proofs.registrar.entry_of.Goals as goal

pub returns-in-First : goal.returns-in-First
returns-in-First g c = search (rules, joint_left)

pub returns-in-Second : goal.returns-in-Second
returns-in-Second g c = search (rules, joint_right)

pub returns-in_err-below : goal.returns-in_err-below
returns-in_err-below g c =
    let p = err_from_is_err_and c.from_residual.result c.from_residual.ensures.1 in
    let h = c.in_err-below.ensures.0 in
    let n = c.in_err-below.ensures.1 in
    rw (p.1, p.2, n) (search (rules, joint_past))
