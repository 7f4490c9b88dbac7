pub mod ShowLaws
pub mod NextLaws
