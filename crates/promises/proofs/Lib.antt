pub mod Writers
pub mod Links
pub mod Answered
pub mod Formats
pub mod Texts
pub mod TypedLines
pub mod Payloads
pub mod Demand2
pub mod Secrets
pub mod Interfaces
pub mod Demand3
mod Ranges
pub mod Showing
pub mod Programs
pub mod Examples
pub mod Printed
pub mod Lasts
mod Manifests
pub mod Offered
pub mod OnceBytes
pub mod OnceItems
pub mod OncePayloads
pub mod OnceSecrets
pub mod OncePages
pub mod OnceCollection
pub mod OncePrograms
