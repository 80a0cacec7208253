-- One offset more is come to.
use Rattle.std.proofs.Common.{◌≡◌, ℕ, ◌+◌, ◌<◌, true, false, List, refl, subst}
use Rattle.signal_base.specs.declared.window.Window.{Window}
use Rattle.bank_files.specs.Seen.{Seen}
use Rattle.due.specs.Banks.{Bank}
use Rattle.sweep_due.specs.declared.offsets.TheConstants.{OFFSETS}
use Rattle.sweep_due.specs.declared.standing.Standing.{Standing}
use Rattle.sweep_due.specs.Phases.{is_swept}
use Rattle.sweep_due.specs.Standings.{with_two}
use Rattle.judges.specs.declared.judging.Found.{Found}
use Rattle.judges.specs.declared.judging.Found.TheVariants as found
use Rattle.judges.specs.declared.offsets.Judged.TheVariants.{Good}
use Rattle.judges.specs.Judging.{AreNamed, IsFoundAt, IsJudgedBelow, judged_with, swept_below}
use Rattle.judges.proofs.SweptLaws.{next_left_out, next_swept}

module _ (old : Seen) (name : List ℕ) (window : Window) (bank : Bank) (n : ℕ) (before : Standing) where
  -- it isn't swept
  pub left_out : is_swept window.phase n ≡ false → AreNamed old name window bank (swept_below window.phase n) before → IsJudgedBelow old name window bank (n + 1) (Good before)
  left_out swept named = subst (λ (is : List ℕ). AreNamed old name window bank is before) (next_left_out window.phase n swept) named

  -- it is, and its certificate is valid, or isn't
  pub one_more : n < OFFSETS → is_swept window.phase n ≡ true → AreNamed old name window bank (swept_below window.phase n) before → (f : Found)
      → IsFoundAt old name window bank n f → IsJudgedBelow old name window bank (n + 1) (judged_with before n f)
  one_more lt swept named (found.Good first second) at =
      subst (λ (is : List ℕ). AreNamed old name window bank is (with_two before n first second)) (next_swept window.phase n swept) (before, named, first, second, at, refl)
  one_more lt swept named (found.Bad fault) at = ((lt, swept), (before, named), at)
