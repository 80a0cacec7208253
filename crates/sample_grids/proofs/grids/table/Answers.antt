use Rattle.std.proofs.Common.{arith}
use Rattle.slot_columns.proofs.RowLaws.{repeated}
use Rattle.sample_grids.proofs.grids.table.Goals as goal

pub returns : goal.returns
returns c = record {
  low = λ n. omega (arith, repeated 101 c.args.low n, c.requires.low);
  high = λ n. omega (arith, repeated 101 c.args.high n, c.requires.high);
  second = λ most e. cc;
}
