-- What the private functions of this crate require, and DEMAND 3. What the public ones promise is in rules/specs/Calls.
pub mod Split
pub mod Fit
pub mod Around
pub mod Taking
pub mod Demand
