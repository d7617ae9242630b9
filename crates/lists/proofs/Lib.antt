pub mod Tests
pub mod Stores
pub mod First
pub mod Joined
