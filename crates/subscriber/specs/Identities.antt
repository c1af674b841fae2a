-- The IMSI code and the registered code, as the crate `imsi` states them.
pub use Rattle.imsi.specs.Identities.{code_of_imsi, registered_in}
