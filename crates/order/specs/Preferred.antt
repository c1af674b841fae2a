-- The facts that a `Preferences` holds, as the crate `row_classes` states them.
pub use Rattle.row_classes.specs.Preferred.{facts_of}
