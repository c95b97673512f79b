pub mod TallyOf
