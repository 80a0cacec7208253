-- A minute without a leap second stays in the century, so an entry of it may be made.
use Rattle.std.proofs.Common.{ℕ, ◌+◌, ◌/◌, ◌<◌, false, sym, refl, subst, arith}
use Rattle.definitions.specs.declared.sequence.Sequence.{Sequence}
use Rattle.definitions.specs.time.Calendar.{century_minutes}
use Rattle.definitions.proofs.PlaceLaws.{place_at-plain}
use Rattle.board_entries.specs.Stays.{StaysInCentury}

pub minute_stays : (first : ℕ) → first < 50_000_000 → StaysInCentury (record { first = first; second = 0; announced = false }) 60
minute_stays first small k lt =
    let q : Sequence = record { first = first; second = 0; announced = false } in
    let within : first + (0 + k) / 60 < century_minutes = omega arith in
    subst (λ (p : ℕ × ℕ). p.0 < century_minutes) (sym (place_at-plain q k refl (omega arith))) within
