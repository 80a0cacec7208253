-- Each log is read behind good ones.
use Rattle.std.proofs.Common.{rules, refl, arith, ◌+◌}
use Rattle.std.proofs.lemmas.Result.{err_from_is_err_and}
use Rattle.bank.proofs.LoadLaws.{same_counts}
use Rattle.bank.proofs.LogListLaws.{next_good, next_not_read}
use Rattle.bank.proofs.loading.read_logs.Goals as goal

pub returns-in_err-log-clause-not_read : goal.returns-in_err-log-clause-not_read
returns-in_err-log-clause-not_read g c =
    let p = err_from_is_err_and c.from_residual.result c.from_residual.ensures.1 in
    let i = c.loop-i.invariant in
    rw (p.1, p.2) (next_not_read (g.F.Files.view c.args.files.now) (g.F.Files.view c.loop-i.files) c.args.receivers.now c.loop-i.i c.index-receivers-i.result
    (omega arith) c.index-receivers-i.is i.only.told i.counts c.loop-i.logs.items i.read (g.F.Files.view c.read_one.new.files) (c.loop-i.i + 1) c.in_err-log.field-0.0 refl c.in_err-log.ensures.not_read)

pub loop-i-preserved : goal.loop-i-preserved
loop-i-preserved g c =
    let i = c.loop-i.invariant in
    let good = next_good (g.F.Files.view c.args.files.now) (g.F.Files.view c.loop-i.files) c.args.receivers.now c.loop-i.i c.index-receivers-i.result
    (omega arith) c.index-receivers-i.is i.only.told i.counts c.loop-i.logs.items i.read c.in_ok-log.log c.in_ok-log.ensures.read in
    record {
      read = rw c.in_ok-push.ensures.items good;
      counts = same_counts (g.F.Files.view c.args.files.now) (g.F.Files.view c.loop-i.files) (g.F.Files.view c.read_one.new.files) i.counts c.in_ok-log.ensures.same_counts;
      only = search rules;
    }
