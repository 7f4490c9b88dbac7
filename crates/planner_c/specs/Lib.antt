pub mod Replies
pub mod PlaceLaws
pub mod ReplyLaws
pub mod Settled
