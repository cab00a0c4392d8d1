-- What the converter's definition (Converting.antt of crate model) means. The old words tell the new ones; demand 3's list goes on through the converter
-- (`Theorem`); the calls of a delivery without marks are this delivery's but for a close, as marks influence nothing else (`MarksAlone`).
pub mod Marked
pub mod Former
pub mod Theorem
pub mod MarksAlone
