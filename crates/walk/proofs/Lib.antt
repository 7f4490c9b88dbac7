pub mod Keys
pub mod PairsLaws
pub mod ShownLaws
pub mod SidesLaws
pub mod Steps
