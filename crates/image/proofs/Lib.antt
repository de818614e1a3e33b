pub mod Accepting
pub mod Firsts
pub mod Fitting
pub mod GoingRound
pub mod Held
pub mod Naming
pub mod Stages
pub mod Standing
