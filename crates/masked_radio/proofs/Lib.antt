mod Among
mod Lawful
mod Mapped
