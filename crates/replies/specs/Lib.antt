pub mod Replies
pub mod ReplyFor
