pub mod PathSets
