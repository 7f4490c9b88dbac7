pub mod Among
pub mod FrontLaws
pub mod WritersLaws
pub mod SetsLaws
pub mod RelationLaws
pub mod FoundLaws
pub mod JobLaws
pub mod FitsLaws
