use Rattle.std.proofs.Common.{◌≡◌, ℕ, ◌*◌, ◌/◌, ◌<◌, length, get_or, sym, ◌∙◌, subst, arith}
use Rattle.std.proofs.lemmas.List.{get_or_default}
use Rattle.definitions.specs.time.Calendar.{minutes_per_day}
use Rattle.field_tables.specs.Quiet.{NoneAnnounced}
use Rattle.field_tables.specs.Scored.{Scored}
use Rattle.field_tables.proofs.QuietLaws.{below_limit}
use Rattle.field_tables.proofs.tables.Tables.behind_quiet_days.Goals as goal

pub returns-clause-quiet : goal.returns-clause-quiet
returns-clause-quiet c = λ q announced ge lt.
    let loud = c.self.inside.loud.items in
    let day : ℕ = c.args.t / 1440 in
    let kept : ℕ = c.index.result.now in
    let inside : day < length loud = omega (arith, c.if-day-len.false, c.len.ensures) in
    let is : get_or loud day 0 ≡ kept = sym (get_or_default loud day kept 0 inside) ∙ sym c.index.ensures in
    let less : q.first < kept = below_limit kept c.args.hi c.args.t q.first ge (omega (arith, lt, c.max.ensures, c.min.ensures)) in
    let known = subst (λ (s : Scored). NoneAnnounced s.window (day * minutes_per_day) (get_or loud day 0)) c.self.view_is (c.self.invariant.1 day) in
    known q announced (omega (arith, ge)) (omega (arith, less, is))
