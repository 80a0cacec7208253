-- What is found of certificates for a bank in the order of its stations is found of them for the bank.
use Rattle.std.proofs.Common.{◌≡◌, ℕ, List, [], ◌∷◌, refl, subst}
use Rattle.signal_base.specs.declared.window.Window.{Window}
use Rattle.definitions.specs.heard.Costs.{Costs}
use Rattle.formats.specs.Refusals.{CertificateFault}
use Rattle.bank_files.specs.Seen.{Seen}
use Rattle.certificates.specs.Judged.{IsBadCertificate, IsGoodCertificate}
use Rattle.due.specs.declared.due.Due.TheVariants.{Report}
use Rattle.due.specs.Banks.{Bank, by_station, ordered, window_of}
use Rattle.due.specs.CheckDues.{fault_of}
use Rattle.due.proofs.StationLaws.{same_costs, same_window}
use Rattle.sweep_due.specs.declared.offsets.TheConstants.{OFFSETS}
use Rattle.sweep_due.specs.declared.standing.Standing.{Standing}
use Rattle.sweep_due.specs.JudgeRules.{JudgeOrder}
use Rattle.sweep_due.specs.Phases.{window_at}
use Rattle.sweep_due.specs.SweepOrders.{SweepOrder}
use Rattle.sweep.proofs.SweptLaws.{swept_in_order}
use Rattle.judges.specs.declared.offsets.Judged.TheVariants.{Bad}
use Rattle.judges.specs.declared.owed.JudgeOwed.{JudgeOwed}
use Rattle.judges.specs.declared.owed.JudgeOwed.TheVariants.{Certified, NotCertified, Told}
use Rattle.judges.specs.Judging.{AreNamed, FailsBank, FailsJudging, IsBadIn, IsBankFound, IsJudgedSo, swept_below}

module _ (old : Seen) (name : List ℕ) (window : Window) (bank : Bank) where
  named_in_order : (is : List ℕ) (s : Standing) → AreNamed old name window (ordered bank) is s → AreNamed old name window bank is s
  named_in_order [] s named = named
  named_in_order (i ∷ earlier) s (before, named, first, second, (bytes, finds, good), e) = (
    before,
    named_in_order earlier before named,
    first,
    second,
    (
      bytes,
      finds,
      subst (λ (costs : Costs). IsGoodCertificate costs (window_at window i) bank.ceiling bytes first second) (same_costs (window_at window i) bank) good,
    ),
    e,
  )

  bad_in_order : (i : ℕ) (fault : CertificateFault) → IsBadIn old name window (ordered bank) i fault → IsBadIn old name window bank i fault
  bad_in_order i fault (bytes, finds, bad) = (
    bytes,
    finds,
    subst (λ (costs : Costs). IsBadCertificate costs (window_at window i) bank.ceiling bytes fault) (same_costs (window_at window i) bank) bad,
  )

module _ (old : Seen) (o : JudgeOrder) (bank : Bank) where
  abbrev window : Window
  window = window_of o.asked bank.receivers

  abbrev moved : Window
  moved = window_of o.asked (by_station bank.receivers)

  same : moved ≡ window
  same = same_window o.asked bank.receivers

  in_order : (owed : JudgeOwed) → IsBankFound old o (ordered bank) owed → IsBankFound old o bank owed
  in_order (Told due) found = absurd found
  in_order (Certified told answer duts) ((s, named), report) =
      let here = subst (λ (w : Window). AreNamed old o.name w (ordered bank) (swept_below w.phase OFFSETS) s) same named in
      let swept : SweepOrder = record { config = o.config; asked = o.asked } in
      ((s, named_in_order old o.name window bank (swept_below window.phase OFFSETS) s here), swept_in_order swept bank (ordered bank) (Report told answer duts) refl report)
  in_order (NotCertified i fault) found =
      let here : IsJudgedSo old o.name window (ordered bank) (Bad i fault) = subst (λ (w : Window). IsJudgedSo old o.name w (ordered bank) (Bad i fault)) same found in
      let (swept, before, bad) = here in
      (swept, (before.0, named_in_order old o.name window bank (swept_below window.phase i) before.0 before.1), bad_in_order old o.name window bank i (fault_of fault) bad)

  fails : (new : Seen) → FailsBank old new o (ordered bank) → FailsBank old new o bank
  fails new found =
      let here : FailsJudging old new o.name window (ordered bank) = subst (λ (w : Window). FailsJudging old new o.name w (ordered bank)) same found in
      let (i, at, s, named) = here in
      (i, at, s, named_in_order old o.name window bank (swept_below window.phase i) s named)

  pub found_in_order : (seen : Bank) (owed : JudgeOwed) → seen ≡ ordered bank → IsBankFound old o seen owed → IsBankFound old o bank owed
  found_in_order seen owed e found = in_order owed (subst (λ (b : Bank). IsBankFound old o b owed) e found)

  pub fails_in_order : (new : Seen) (seen : Bank) → seen ≡ ordered bank → FailsBank old new o seen → FailsBank old new o bank
  fails_in_order new seen e found = fails new (subst (λ (b : Bank). FailsBank old new o b) e found)
