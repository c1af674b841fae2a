-- Codes gathered from lists, as the crate `code_list` states them.
pub use Rattle.code_list.specs.Codes.{codes_in, codes_of, home_codes, valid_codes, or_alone}
pub use Rattle.code_list.specs.declared.codes.CodeList.{CodeList}
