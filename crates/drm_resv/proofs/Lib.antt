pub mod NotedIs
pub mod AddedIs
pub mod ActiveIs
pub mod EndsAre
