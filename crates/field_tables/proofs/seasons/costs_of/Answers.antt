use Rattle.std.proofs.Common.{◌≡◌, ◌-◌, ◌<◌, [], length, get_or, ap, ◌∙◌, subst, arith}
use Rattle.std.proofs.lemmas.List.{get_or_read}
use Rattle.slot_columns.specs.Layered.{AreAdded}
use Rattle.slot_columns.proofs.GroupLaws.{groups_more}
use Rattle.field_tables.specs.Seasons.{IsRowOf, IsTimeRow, last_shift}
use Rattle.field_tables.proofs.SeasonLaws.{as_time_rows}
use Rattle.field_tables.proofs.seasons.costs_of.Goals as goal

pub loop-p-preserved : goal.loop-p-preserved
loop-p-preserved c =
    let ws = c.args.stations.now in
    let ss = c.args.shifts.now.items in
    let p = c.loop-p.p in
    let times = c.times_together-times.result in
    let old = c.loop-p.costs.items in
    let new = c.add_rows.new.costs.items in
    let long : c.len.result ≡ length ss = omega (arith, c.len.ensures, c.args.shifts.now.ok.0) in
    let within : c.len.result - 1 < length ss = omega (arith, long, c.requires.shifts, c.requires.some, c.args.shifts.now.ok.0) in
    let last : c.index-last.result.now ≡ last_shift ss = get_or_read ss (c.len.result - 1) _ within c.index-last.ensures 0 ∙ ap (λ n. get_or ss (n - 1) 0) long in
    let rows = subst (λ n. AreAdded [] (IsRowOf times (last_shift ss) n) old new 27) c.later_minutes.ensures.count
    (subst (λ n. AreAdded [] (IsRowOf times n c.later_minutes.result) old new 27) last c.in_ok-add_rows.ensures) in
    record {
      costs = groups_more [] (IsTimeRow ws ss c.args.seconds) 27 old new p c.loop-p.invariant.costs
          (as_time_rows ws ss c.args.seconds p times old new 27 c.times_together-times.ensures rows);
    }
