pub mod TwoMoves
