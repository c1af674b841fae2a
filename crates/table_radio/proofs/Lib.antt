mod Cells
mod Skies
mod Stands
