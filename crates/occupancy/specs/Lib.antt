pub mod Occupancy
