use Rattle.std.proofs.Common.{rules}
use Rattle.radio.specs.Airs.{marked}
use Rattle.std.proofs.lemmas.Result.{err_from_is_err_and}
use Rattle.joined_radio.proofs.Joints.{joint_past, joint_left, joint_right, changed_joint_past, changed_joint_left, changed_joint_right}
use Rattle.joined_radio.proofs.Tried.{first_hidden, second_hidden}
use Rattle.joined_radio.proofs.registrar.attempt_of.Goals as goal

pub returns-in-First : goal.returns-in-First
returns-in-First g c = search (rules, joint_left, changed_joint_left)

pub returns-in-Second : goal.returns-in-Second
returns-in-Second g c = search (rules, joint_right, changed_joint_right)

pub returns-in_err-below : goal.returns-in_err-below
returns-in_err-below g c =
    let p = err_from_is_err_and c.from_residual.result c.from_residual.ensures.1 in
    let h = c.in_err-below.ensures.0 in
    let n = c.in_err-below.ensures.1 in
    let e = changed_joint_past marked (g.A.Registrar.air c.args.one.now).here (g.B.Registrar.air c.args.other.now).here c.args.place h in
    rw (p.1, p.2, n) (record { value = search (rules, joint_past); small = tt; both = cc; first = search (rules, first_hidden); second = search (rules, second_hidden) })
