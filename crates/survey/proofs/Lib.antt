pub mod RiseLaws
pub mod PartLaws
