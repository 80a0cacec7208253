-- The grids of the stations of a window.
pub use Rattle.plain_costs.specs.Grids.{AreGrids, HaveCosts, grid_costs, grid_of}
