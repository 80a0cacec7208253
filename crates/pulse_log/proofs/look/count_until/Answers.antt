-- Rising times are parted at the millisecond.
use Rattle.std.proofs.Common.{leb, arith, rules}
use Rattle.std.proofs.lemmas.Bool.{leb-true, leb-false}
use Rattle.std.proofs.lemmas.List.Sorted.{IsPartitionedBy-leb, IsPartitionPoint-from_clause}
use Rattle.pulse_log.proofs.PlaceLaws.{IsNonDecreasingBy-rising}
use Rattle.pulse_log.proofs.look.count_until.Goals as goal

pub returns : goal.returns
returns c =
    let log = c.args.records.now in
    let parted = IsPartitionedBy-leb (λ r. r.0) log c.args.ms (IsNonDecreasingBy-rising log c.requires) in
    let point = IsPartitionPoint-from_clause (λ r. leb r.0 c.args.ms) log c.partition_point.result c.partition_point.ensures.partitioned parted (λ a r q k. search rules) in
    record {
      within = c.partition_point.ensures.bound;
      before = λ k d h. leb-true _ _ (point.0 k d (omega arith) h);
      after = λ k d h l. leb-false _ _ (point.1 k d h l);
    }
