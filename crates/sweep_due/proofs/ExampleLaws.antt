-- What the examples rest on: what words ask, and costs that are computed.
use Rattle.std.proofs.Common.{◌≡◌, ℕ, ◌+◌, ◌*◌, ◌≤◌, nat_le, nat_lt, [], ◌∷◌, codes, None, Some, refl, arith}
use Rattle.std.specs.Fmt.{digits}
use Rattle.std.proofs.lemmas.Bool.{and_parts, leb-true}
use Rattle.signal_base.specs.Table.{difference_table}
use Rattle.definitions.specs.examples.Sequences.{from_place}
use Rattle.definitions.specs.heard.Costs.{sum_below}
use Rattle.definitions.specs.heard.Logs.{low_count}
use Rattle.definitions.specs.sequences.Walks.{place_at}
use Rattle.definitions.specs.time.Calendar.{day_at}
use Rattle.formats.specs.WordExamples.{asked, asked_usually, words_in}
use Rattle.formats.specs.WordValues.{number_of}
use Rattle.sweep_due.specs.declared.offsets.TheConstants.{OFFSET_REACH, OFFSET_STEP, PHASE_LIMIT}
use Rattle.sweep_due.specs.Examples.{bank_with, costs_at, late_rises, order_of_k, two_seconds}
use Rattle.sweep_due.specs.Phases.{IsSwept}
use Rattle.sweep_due.specs.SweepCertificates.{AsksCertificates}
use Rattle.sweep_due.specs.SweepOrders.{AsksSweep}
use Rattle.sweep_due.specs.Swept.{cost_at, swept_cost}

pub usual_asks : AsksSweep (words_in (codes "sweep k.toml")) (order_of_k asked_usually)
unfolding digits number_of
usual_asks = (4, None, refl)

pub own_asks : AsksSweep (words_in (codes "sweep k.toml --seconds 120 --workers 2")) (order_of_k (asked None 120 0 52_596_000))
unfolding digits number_of
own_asks = (2, None, refl)

pub certificates_ask : AsksSweep (words_in (codes "sweep k.toml --certificate s")) (order_of_k asked_usually)
unfolding digits number_of
certificates_ask = (4, Some (codes "s"), refl)

pub files_ask : AsksCertificates (words_in (codes "sweep k.toml --certificate s")) (record { config = codes "k.toml"; asked = asked_usually; workers = 4; name = codes "s" })
unfolding digits number_of
files_ask = refl

pub each_cost : costs_at (2 ∷ 3 ∷ 4 ∷ 5 ∷ []) ≡ 30 ∷ 40 ∷ 50 ∷ 60 ∷ []
unfolding sum_below low_count difference_table place_at day_at
each_cost = refl

pub least_cost : swept_cost (two_seconds 30) (bank_with late_rises) (from_place 0 0) ≡ 30
unfolding sum_below low_count difference_table place_at day_at
least_cost = refl

pub first_cost : cost_at (two_seconds 30) (bank_with late_rises) (from_place 0 0) 2 ≡ 30
unfolding sum_below low_count difference_table place_at day_at
first_cost = refl

pub silent_least : swept_cost (two_seconds 30) (bank_with []) (from_place 0 0) ≡ 0
unfolding sum_below low_count difference_table place_at day_at
silent_least = refl

pub silent_first : cost_at (two_seconds 30) (bank_with []) (from_place 0 0) 2 ≡ 0
unfolding sum_below low_count difference_table place_at day_at
silent_first = refl

-- the first offset that is swept, where the phase of a decode is 30
pub not_before_two : (j : ℕ) → IsSwept 30 j → 2 ≤ j
not_before_two j is =
    let both = and_parts (nat_le OFFSET_REACH (30 + OFFSET_STEP * j)) (nat_lt (30 + OFFSET_STEP * j) (PHASE_LIMIT + OFFSET_REACH)) is.1 in
    let reached = leb-true OFFSET_REACH (30 + OFFSET_STEP * j) both.0 in
    omega (arith, reached)
