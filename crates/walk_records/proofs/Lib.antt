mod Sizes
mod Pieces
mod Records
mod Passes
mod Steps
