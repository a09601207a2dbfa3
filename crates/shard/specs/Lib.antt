pub mod Shard
pub mod Answer
