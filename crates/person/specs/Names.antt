-- The names of technologies, for a person.
use Rattle.std.specs.Prelude.{List, ℕ, Some, None, codes, Option}
use Rattle.names.specs.Names.{known_name}
use Rattle.plmn.specs.declared.technology.Technology.{Technology}

abbrev pub name_of : Option Technology → List ℕ
name_of (Some technology) = known_name technology
name_of None = codes "unknown technology"
