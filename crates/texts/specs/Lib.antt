pub mod Reportable
