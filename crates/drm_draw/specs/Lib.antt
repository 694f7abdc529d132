pub mod Legend
pub mod Keys
pub mod Heading
pub mod Levels
pub mod Credits
pub mod Page
pub mod Drawing
