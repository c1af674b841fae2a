pub mod Printed
