pub mod Arrays
pub mod Couplings
pub mod Literals
pub mod Loading
pub mod Powers
pub mod Sums
