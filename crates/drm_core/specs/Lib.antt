-- The theorem: what the laws and the contracts of a core say, whatever code keeps it.
pub mod State
pub mod Context
pub mod Refusals
pub mod Outcomes
pub mod Step
pub mod Names
pub mod Jobs
pub mod Run
pub mod Lawful
pub mod Steady
pub mod Headline
-- what of a core decides what may come
pub mod Bytes
pub mod Outline
-- What helps the bodies: no promise of a core rests on these.
pub mod Cores
pub mod Planning
pub mod Claims
pub mod Laws
