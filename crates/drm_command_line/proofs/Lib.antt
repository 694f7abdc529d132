pub mod Asked
pub mod Commands
pub mod Entered
pub mod Numbers
pub mod Options
pub mod Taken
