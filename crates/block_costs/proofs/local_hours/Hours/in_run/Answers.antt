-- An hour that is kept, with the date of its run.
use Rattle.std.proofs.Common.{◌≡◌, ◌+◌, ◌-◌, ◌*◌, ◌/◌, ◌%◌, ◌<◌, ◌≤◌, ℕ, true, List, bit_or, length, get_or, ap, ◌∙◌, subst, arith}
use Rattle.std.proofs.lemmas.List.{get_or_default}
use Rattle.signal_base.specs.declared.station.Station.{Station}
use Rattle.symbol_cost.specs.Grid.{Grid}
use Rattle.minute_parts.specs.declared.runs.Run.{Run}
use Rattle.minute_parts.specs.Parts.{IsPartTable, PartTable, part_where}
use Rattle.minute_parts.specs.Runs.{end_of_run, first_of, run_at}
use Rattle.minute_parts.specs.Overlay.{is_given_up}
use Rattle.minute_parts.specs.Walks.{later_minutes}
use Rattle.block_costs.proofs.HourLaws.{kept_hour}
use Rattle.block_costs.proofs.local_hours.Hours.in_run.Goals as goal

pub returns : goal.returns
returns c =
    let walks = c.args.walks.now in
    let w = walks.station.now in
    let h = c.args.self.now in
    let a = walks.announced in
    let p = walks.second in
    let lo = walks.lo in
    let i = c.run_of-run.result in
    let run = run_at w.parts.runs i in
    let parts_is = c.parts-parts.ensures ∙ c.unions-unions.ensures.unions in
    let run_is : c.run-at.result.now ≡ run = c.run-at.ensures ∙ ap (λ (v : PartTable). run_at v.runs i) parts_is in
    let told_is : c.date_part-told.result.now ≡ part_where a run = c.date_part-told.ensures ∙ ap (part_where a) run_is in
    let shift = ap (λ (r : Run). r.shift) run_is in
    let hour : ℕ = (lo % 1440 + c.run-at.result.now.shift) % 1440 / 60 in
    let minute : 60 * hour + h.begin ≡ (lo + run.shift) % 1440 = omega (arith, shift, c.if-u-self.false) in
    let table = subst IsPartTable parts_is c.end.ensures.table in
    let is = subst (λ (v : PartTable). i < length v.runs) parts_is c.run_of-run.ensures.is_run in
    let begun = subst (λ (v : PartTable). first_of v.runs i ≤ lo) parts_is c.run_of-run.ensures.begun in
    let end : c.run_end.result ≡ end_of_run w.parts.runs w.parts.end i =
    c.run_end.ensures ∙ ap (λ (v : PartTable). end_of_run v.runs v.end i) parts_is in
    let later : c.later_minutes.result ≡ later_minutes (length w.grid.rows) p = c.later_minutes.ensures.count in
    let station = c.station.ensures ∙ ap (λ (g : Grid). g.station) c.columns-columns.ensures.columns in
    let bytes = λ (s : ℕ) (lt : s < 60). subst (λ (d : List ℕ). get_or d s 0 < 256) told_is (c.bytes_of.ensures s lt) in
    let covered = λ (s : ℕ) (given : is_given_up w.grid.station s ≡ true).
    subst (λ (d : List ℕ). bit_or (get_or h.call s 0) (get_or d s 0) ≡ get_or h.call s 0) told_is
    (c.leaves_nothing.ensures c.if-not-leaves_nothing.false s (ap (λ (st : Station). is_given_up st s) station ∙ given)) in
    let within : hour < length h.firsts.items = omega (arith, c.if-hour-len.false, c.len.ensures) in
    let in_day : hour < 24 = omega (arith, minute) in
    let place : p * 24 + hour < length h.costs.items = omega (arith, in_day, walks.in_a_minute, c.requires.hours.priced.count) in
    let priced = c.index.ensures ∙ get_or_default h.costs.items (p * 24 + hour) c.index.result.now 0 place in
    kept_hour w h.begin h.call h.firsts.items h.rests.items h.costs.items c.requires.hours table c.unions-unions.ensures.station a i p lo hour
    (c.index.result.now + c.kept_date_cost-date.result) is walks.in_a_minute within minute begun (omega (arith, end, later, c.requires.hour, c.if-walks-later_minutes.false))
    (λ t from to. walks.regular.short t from (omega (arith, to, c.requires.hour))) bytes covered c.hours_tell_time_and_date.ensures c.columns-columns.ensures.small
    (omega (arith, priced, c.kept_date_cost-date.ensures))

pub overflow_add-result : goal.overflow_add-result
overflow_add-result c = omega (arith, (returns c).bound, c.columns-columns.ensures.fits)
