pub mod Envelope
pub mod Answer
