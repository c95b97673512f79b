pub mod Cases
pub mod VisitStep
