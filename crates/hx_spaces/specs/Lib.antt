pub mod Courses
pub mod Begins
pub mod Clusters
pub mod Following
pub mod Keeping
pub mod Stepping
pub mod Draining
pub mod Walks
