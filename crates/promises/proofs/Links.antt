-- From the contract in the source to the definition that a demand cites: of each function that a
-- demand speaks of, what a call of it (specs/Calls.antt) says. A contract that names another
-- definition, or says less, is refused here, and `tests/loosened` tries that. A file for each
-- crate; `tests/promises` sees that no function of a demand lacks its theorem.
pub mod Collection
pub mod Finish
pub mod Status
pub mod Phone
pub mod Frame
pub mod Text
pub mod Typed
pub mod Envelope
pub mod Manifest
pub mod Auth
pub mod Shard
pub mod Secrets
pub mod Page
pub mod PayloadFrame
pub mod Scan
pub mod Notes
pub mod PantryWork
