-- The first window is the one of a decode, and the others follow it.
use Rattle.follow.specs.Tasks.{order_seen}
use Rattle.bank.specs.Hearing.{bank_seen}
use Rattle.follow.proofs.FollowedLaws.{refused_count, reported_windows}
use Rattle.follow.proofs.find.follow_bank.Goals as goal

pub returns-then-starts_too_late-clause-followed : goal.returns-then-starts_too_late-clause-followed
returns-then-starts_too_late-clause-followed g c =
    refused_count (order_seen c.args.task.now) (bank_seen c.args.bank.now) c.window_of-first.result c.window_of-first.ensures.window
    (c.starts_too_late.ensures.late c.if-starts_too_late.true)

pub returns-clause-followed : goal.returns-clause-followed
returns-clause-followed g c =
    reported_windows (order_seen c.args.task.now) (bank_seen c.args.bank.now) c.window_of-first.result c.in_ok-reports.reports c.window_of-first.ensures.window
    (c.starts_too_late.ensures.in_time c.if-starts_too_late.false) c.in_ok-reports.ensures.told
