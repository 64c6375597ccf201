-- Facts about the definitions, in folders by subject.
pub mod Lists
pub mod Numbers
pub mod Acceptance
pub mod Translation
pub mod Runs
pub mod Memory
pub mod Layouts
pub mod Simulation
pub mod Claim
pub mod Cases
