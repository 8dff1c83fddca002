pub mod Firsts
pub mod Orders
pub mod Places
pub mod Scanned
pub mod Tables
pub mod Totals
pub mod Turning
pub mod Volumes
