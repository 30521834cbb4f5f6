pub mod BundleReporting
pub mod Driving
pub mod PrintedRows
pub mod Reporting
pub mod Tracing
