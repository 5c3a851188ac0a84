-- How the stages' contracts compose to a whole run, and DEMAND 1.
pub mod Accepting
pub mod Suppressing
pub mod Walking
pub mod Running
pub mod Demand
