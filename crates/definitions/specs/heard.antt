-- What was heard: logs, receivers, the phase, DUT1, and what a sequence costs.
pub mod Logs
pub mod Receivers
pub mod Phase
pub mod Dut1
pub mod Costs
pub mod Uncapped
