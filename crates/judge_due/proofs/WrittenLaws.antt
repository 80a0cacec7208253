-- Certificates that a sweep owes are valid, one for each offset that is swept.
use Rattle.std.proofs.Common.{Some, ℕ, ◌+◌, ◌*◌, ◌≤◌, inl, inr, nat_le, nat_lt, List, [], ◌∷◌, refl, sym, subst, arith}
use Rattle.std.proofs.lemmas.Bool.{and_parts, leb-true, ltb-true}
use Rattle.signal_base.specs.declared.limits.TheConstants.{GREATEST_COST}
use Rattle.signal_base.specs.declared.window.Window.{Window}
use Rattle.definitions.specs.heard.Costs.{Costs}
use Rattle.definitions.specs.sequences.Windows.{IsWindow}
use Rattle.definitions.specs.time.Calendar.{century_minutes}
use Rattle.block_visits.specs.Facts.{Facts}
use Rattle.certificates.specs.declared.limits.TheConstants.{MOST_PARTS}
use Rattle.certificates.specs.Certificates.{Certificate}
use Rattle.certificates.specs.Judged.{IsGoodCertificate}
use Rattle.certificates.specs.Texts.{certificate_text}
use Rattle.formats.specs.Orders.Order.{Sweep}
use Rattle.formats.specs.OrderRanges.{IsAsked}
use Rattle.formats.specs.Words.{reach_commands}
use Rattle.formats.proofs.OrderRangeLaws as words_of
use Rattle.due.specs.Banks.{Bank, costs_in}
use Rattle.due.proofs.CertificateLaws.{is_good}
use Rattle.sweep_due.specs.declared.offsets.TheConstants.{OFFSET_REACH, OFFSET_STEP, PHASE_LIMIT}
use Rattle.sweep_due.specs.JudgeRules.{AreGood, Files}
use Rattle.sweep_due.specs.Phases.{IsSwept, window_at}
use Rattle.sweep_due.specs.Searches.{IsAmong}
use Rattle.sweep_due.specs.SweepCertificates.{AreCertificates, AsksCertificates, CertificatesOrder}
use Rattle.judge_due.specs.Written.{AreShort, AreWritten}

-- the window at an offset that is swept is in its ranges
pub moved_in_range : (window : Window) (i : ℕ) → IsWindow window → IsSwept window.phase i → IsWindow (window_at window i)
moved_in_range window i fits swept =
    let both = and_parts (nat_le OFFSET_REACH (window.phase + OFFSET_STEP * i)) (nat_lt (window.phase + OFFSET_STEP * i) (PHASE_LIMIT + OFFSET_REACH)) swept.1 in
    let low = leb-true OFFSET_REACH (window.phase + OFFSET_STEP * i) both.0 in
    let high = ltb-true (window.phase + OFFSET_STEP * i) (PHASE_LIMIT + OFFSET_REACH) both.1 in
    record {
      some_station = fits.some_station;
      stations = fits.stations;
      start = fits.start;
      phase = omega (arith, low, high);
      not_short = fits.not_short;
      not_long = fits.not_long;
      not_empty = fits.not_empty;
      century = fits.century;
    }

module _ (facts : (costs : Costs) (window : Window) (ceiling : ℕ) → window.to ≤ century_minutes → Facts costs window ceiling) where
  pub written_are_good : (window : Window) (bank : Bank) (workers : ℕ) (files : Files) → IsWindow window → bank.ceiling ≤ GREATEST_COST → 1 ≤ workers → workers ≤ MOST_PARTS
      → (is : List ℕ) (cs : List Certificate) → ((i : ℕ) → IsAmong is i → IsSwept window.phase i) → AreCertificates window bank workers is cs → AreShort cs
      → AreWritten files is cs → AreGood window bank files is
  written_are_good window bank workers files fits low some few [] cs swept are short written = tt
  written_are_good window bank workers files fits low some few (i ∷ is) [] swept are short written = absurd are
  written_are_good window bank workers files fits low some few (i ∷ is) (c ∷ cs) swept are short written =
      let moved = window_at window i in
      let costs = costs_in moved bank in
      let in_range = moved_in_range window i fits (swept i (inl refl)) in
      let good : IsGoodCertificate costs moved bank.ceiling (certificate_text c) c.head.first c.head.second =
      is_good costs moved bank.ceiling workers (λ n. facts costs moved n in_range.century) in_range low some few c are.0 short.0 in (
        (
          c.head.first,
          c.head.second,
          subst (λ (bytes : List ℕ). IsGoodCertificate costs moved bank.ceiling bytes c.head.first c.head.second) (sym written.0) good,
        ),
        written_are_good window bank workers files fits low some few is cs (λ j is_among. swept j (inr is_among)) are.1 short.1 written.1,
      )

-- what words ask that ask for certificates
pub record IsCertificatesInRange (o : CertificatesOrder) : Type 0 where
  pub asked : IsAsked o.asked
  pub some_worker : 1 ≤ o.workers
  pub few_workers : o.workers ≤ MOST_PARTS

pub order_in_range : (words : List (List ℕ)) (o : CertificatesOrder) → AsksCertificates words o → IsCertificatesInRange o
order_in_range words o asks =
    let ranges = words_of.order_in_range reach_commands words (Sweep o.config o.asked o.workers (Some o.name)) asks in
    record { asked = ranges.1; some_worker = omega (arith, ranges.2.0); few_workers = omega (arith, ranges.2.1) }
