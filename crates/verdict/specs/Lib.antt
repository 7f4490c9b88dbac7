pub mod Verdict
pub mod SettledLaws
pub mod Needed
pub mod OnlyLaws
pub mod NeededLaws
pub mod LowestSets
