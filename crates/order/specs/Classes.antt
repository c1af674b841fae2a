-- The class of an allowed row, as the crate `row_classes` states it.
pub use Rattle.row_classes.specs.Classes.{class_number, class_of, home_served}
