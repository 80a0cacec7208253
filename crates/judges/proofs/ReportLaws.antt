-- What is reported of valid certificates is found of them.
use Rattle.std.proofs.Common.{ℕ, List}
use Rattle.signal_base.specs.declared.window.Window.{Window}
use Rattle.bank_files.specs.Seen.{Seen}
use Rattle.due.specs.Banks.{Bank}
use Rattle.sweep_due.specs.declared.offsets.TheConstants.{OFFSETS}
use Rattle.sweep_due.specs.declared.standing.Standing.{Standing}
use Rattle.judges.specs.declared.owed.JudgeOwed.{JudgeOwed}
use Rattle.judges.specs.declared.owed.JudgeOwed.TheVariants.{Certified, NotCertified, Told}
use Rattle.judges.specs.Judging.{AreNamed, IsCertified, IsWindowFound, swept_below}

pub certified_found : (old : Seen) (name : List ℕ) (window : Window) (bank : Bank) (s : Standing) → AreNamed old name window bank (swept_below window.phase OFFSETS) s → (owed : JudgeOwed)
    → IsCertified window bank owed → IsWindowFound old name window bank owed
certified_found old name window bank s named (Told due) is = is
certified_found old name window bank s named (Certified told answer duts) is = ((s, named), is)
certified_found old name window bank s named (NotCertified offset fault) is = absurd is
