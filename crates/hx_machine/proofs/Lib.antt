mod Starting
mod Stepping
mod Taking
