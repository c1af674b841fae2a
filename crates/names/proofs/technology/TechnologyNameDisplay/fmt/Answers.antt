use Rattle.std.proofs.Common.{ℕ, List, Option, sym, ap, ◌∙◌, subst}
use Rattle.std.specs.Fmt.{WritesOnOk}
use Rattle.plmn.specs.declared.technology.Technology.{Technology}
use Rattle.names.specs.Names.{name_by}
use Rattle.names.proofs.technology.TechnologyNameDisplay.fmt.Goals as goal

pub returns-in-Err-clause-writes : goal.returns-in-Err-clause-writes
returns-in-Err-clause-writes g c =
    let unknown = ap (λ (o : Option Technology). name_by o c.args.self.now.0) (sym c.in-Err.ensures.0) in
    subst (λ (bs : List ℕ). WritesOnOk g.W.Write.write_str_gives c.args.f.now c.write.result bs c.write.new.self) unknown c.write.ensures.writes
