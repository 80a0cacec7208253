use Rattle.std.proofs.Common.{◌-◌, ◌<◌, ◌≤◌, ◌↔◌, subst, sym}
use Rattle.definitions.specs.time.Calendar.{century_minutes}
use Rattle.definitions.specs.codes.Allowed.{encoded_year}
use Rattle.minute_parts.proofs.EndLaws.{ends}
use Rattle.minute_parts.proofs.parts.end_of.Goals as goal

pub returns-clause-value : goal.returns-clause-value
returns-clause-value c = λ t.
    subst (λ w. t < century_minutes - w ↔ ((t < century_minutes) × (encoded_year c.args.station t ≤ 2099)))
    (sym c.winter_shift.ensures.value) (ends c.args.station t)
