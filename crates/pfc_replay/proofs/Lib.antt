pub mod Capacities
pub mod Configs
pub mod Fronts
pub mod Homes
pub mod Outcomes
pub mod Spending
pub mod Lifted
pub mod Schedules
