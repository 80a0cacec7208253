pub mod Certificates
pub mod Texts
pub mod Validity
pub mod Verdicts
pub mod Judged
pub mod Examples
