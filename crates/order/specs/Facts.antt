-- What the choice of rows depends on, as the crate `row_classes` states it.
pub use Rattle.row_classes.specs.Facts.{Facts, allowed, some_allowed}
