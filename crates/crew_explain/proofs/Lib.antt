pub mod Added
pub mod Asking
pub mod Chained
pub mod Legal
pub mod ReadNumbers
pub mod ReadWindows
pub mod Reading
pub mod Told
