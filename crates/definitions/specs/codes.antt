-- Codes: what each second of each minute may carry at each station.
pub mod Vocabulary
pub mod Dcf77
pub mod Msf
pub mod MarkedCode
pub mod Wwvb
pub mod Jjy
pub mod Allowed
pub mod Listing
pub mod Parity
