-- Costs that are the same wherever a window looks.
pub use Rattle.plain_costs.specs.Agreement.{AgreeOn}
