pub mod SplitLaws
pub mod RobustLaws
pub mod HitLaws
pub mod LowersLaws
