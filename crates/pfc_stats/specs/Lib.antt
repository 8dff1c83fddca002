pub mod Statistics
