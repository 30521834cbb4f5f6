pub mod CauseRows
mod Stepped
mod SnapshotRun
mod SnapshotRows
mod OverlapRun
mod OverlapRows
mod KeptRows
