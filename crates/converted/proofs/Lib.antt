pub mod Marked
pub mod Former
pub mod Unique
pub mod Theorem
pub mod Alike
pub mod AlikeRevoke
pub mod AlikeCalls
pub mod MarksAlone
