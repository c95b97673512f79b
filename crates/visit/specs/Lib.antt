pub mod Cases
pub mod Visit
pub mod VisitTheorem
