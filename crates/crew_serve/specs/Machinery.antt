-- What the code of a client keeps; what the engine over a service keeps while it works, and how a session
-- over it ends.
pub mod Clerks
pub mod Desks
pub mod Layouts
pub mod Played
pub mod Talks
pub mod Threads
