pub mod TriedPlaces
