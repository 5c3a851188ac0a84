-- What the stages of a run require and leave, and DEMAND 1.
pub mod Lent
pub mod Demand
