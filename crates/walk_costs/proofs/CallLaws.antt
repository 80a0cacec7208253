-- The seconds of JJY's call sign.
use Rattle.std.proofs.Common.{◌≡◌, ℕ, ◌+◌, ◌*◌, ◌/◌, ◌%◌, ◌<◌, ◌≤◌, ◌⊎◌, inl, inr, true, false, if◌then◌else◌, List, get_or, refl, ap, ◌∙◌, arith}
use Rattle.std.proofs.lemmas.Bool.{and_left, and_right, cases_eq, cases_lt, lt-leb, or_from}
use Rattle.signal_base.specs.declared.station.Station.{Station}
use Rattle.signal_base.specs.declared.station.Station.TheVariants.{Dcf77, Msf, Wwvb, Jjy}
use Rattle.symbol_cost.specs.Grid.{Grid, cost_at}
use Rattle.slot_columns.proofs.MinuteLaws.{in_minute, inside, outside}
use Rattle.slot_columns.proofs.SetLaws.{none_chosen}
use Rattle.minute_parts.specs.Overlay.{is_given_up}
use Rattle.walk_costs.specs.Dates.{TellsOfCall, given_up, given_up_set}
use Rattle.walk_costs.proofs.SumLaws.{at_second, cost_in}

-- a slot that isn't in these seconds of the minute costs nothing
pub beside_call : (grid : Grid) (p m : ℕ) (part : List ℕ) (k : ℕ) → TellsOfCall part → (p + k < 60 * m + 40) ⊎ (60 * m + 56 ≤ p + k) → in_minute grid p m part k ≡ 0
beside_call grid p m part k alone apart = elim (cases_eq ((p + k) / 60) m) [
  | inr other ↦ outside grid p m part k other
  | inl here ↦ inside grid p m part k ((p + k) % 60) here refl
      ∙ ap (cost_in grid k) (silent here apart) ∙ none_chosen grid.station (cost_at grid.rows k)
]
  where
    silent : (p + k) / 60 ≡ m → (p + k < 60 * m + 40) ⊎ (60 * m + 56 ≤ p + k) → get_or part ((p + k) % 60) 0 ≡ 0
    silent here (inl early) = alone.before ((p + k) % 60) (omega arith)
    silent here (inr late) = alone.after ((p + k) % 60) (omega arith) (omega arith)

pub not_early : (station : Station) (s : ℕ) → s < 40 → is_given_up station s ≡ false
not_early Dcf77 s lt = refl
not_early Msf s lt = refl
not_early Wwvb s lt = refl
not_early Jjy s lt = or_from _ _ (and_left _ _ (lt-leb 40 s lt)) (and_left _ _ (lt-leb 50 s (omega arith)))

pub not_late : (station : Station) (s : ℕ) → 56 ≤ s → is_given_up station s ≡ false
not_late Dcf77 s le = refl
not_late Msf s le = refl
not_late Wwvb s le = refl
not_late Jjy s le = or_from _ _ (and_right _ _ (lt-leb s 48 (omega arith))) (and_right _ _ (lt-leb s 55 (omega arith)))

-- a second that is given up is one of the call sign
pub in_call : (station : Station) (s : ℕ) → is_given_up station s ≡ true → (40 ≤ s) × (s < 56)
in_call station s gives = (
  elim (cases_lt s 40) [ inl lt ↦ (let no = not_early station s lt in absurd cc) | inr le ↦ le ],
  elim (cases_lt s 56) [ inl lt ↦ lt | inr le ↦ (let no = not_late station s le in absurd cc) ],
)

-- what is told of a second that is given up
pub given_at : (station : Station) (part : List ℕ) (s : ℕ) → s < 60 → get_or (given_up station part) s 0 ≡ given_up_set station part s
unfolding given_up
given_at station part s lt = at_second (given_up_set station part) (given_up station part) s refl lt

pub tells_of_call : (station : Station) (part : List ℕ) → TellsOfCall (given_up station part)
tells_of_call station part = record {
  before = λ s lt. given_at station part s (omega arith) ∙ ap (λ b. if b then get_or part s 0 else 0) (not_early station s lt);
  after = λ s le lt. given_at station part s lt ∙ ap (λ b. if b then get_or part s 0 else 0) (not_late station s le);
}
