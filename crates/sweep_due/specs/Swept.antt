-- The swept answer: the right one where the phase is a part of what is asked. Each sequence costs what it costs at its best phase.
use Rattle.std.specs.Prelude.{ℕ, ◌≡◌, ◌≤◌, map, unwrap_or}
use Rattle.signal_base.specs.declared.window.Window.{Window}
use Rattle.definitions.specs.declared.answer.Answer.{Answer}
use Rattle.definitions.specs.declared.answer.Answer.TheVariants.{Nothing, Decided, Undecided}
use Rattle.definitions.specs.declared.sequence.Sequence.{Sequence}
use Rattle.definitions.specs.answers.Answers.{IsAdmitted, IsAnswer}
use Rattle.definitions.specs.heard.Costs.{least, sequence_cost}
use Rattle.definitions.specs.sequences.Walks.{IsLegal}
use Rattle.due.specs.Banks.{Bank, costs_in}
use Rattle.sweep_due.specs.Phases.{IsSwept, swept_offsets, window_at}

-- what a sequence costs at an offset
abbrev pub cost_at : Window → Bank → Sequence → ℕ → ℕ
cost_at window bank q i = sequence_cost (costs_in (window_at window i) bank) window q

-- what it costs in a sweep: the least of its costs at the offsets that are swept, one of which is that of the decode's own phase
abbrev pub swept_cost : Window → Bank → Sequence → ℕ
swept_cost window bank q = unwrap_or (least (map (cost_at window bank q) (swept_offsets window.phase))) 0

-- its offset: the least of those at which it costs that
pub record IsOffsetOf (window : Window) (bank : Bank) (q : Sequence) (i : ℕ) : Type 0 where
  pub swept : IsSwept window.phase i
  pub cost : cost_at window bank q i ≡ swept_cost window bank q
  pub least : (j : ℕ) → IsSwept window.phase j → cost_at window bank q j ≡ swept_cost window bank q → i ≤ j

-- the answer for all swept phases of a window together
abbrev pub IsSweptAnswer : Window → Bank → Answer → Type 0
IsSweptAnswer window bank answer =
    IsAnswer (IsAdmitted (IsLegal window) (swept_cost window bank) bank.ceiling) (swept_cost window bank) answer

-- the window at the offset of a sequence
abbrev pub IsWindowOf : Window → Bank → Sequence → Window → Type 0
IsWindowOf window bank q told = (i : ℕ) × IsOffsetOf window bank q i × (told ≡ window_at window i)

-- The window that is told with an answer: that of its first sequence; and where nothing is admitted, that of the decode.
abbrev pub IsToldWindow : Window → Bank → Answer → Window → Type 0
IsToldWindow window bank Nothing told = told ≡ window
IsToldWindow window bank (Decided cost q next) told = IsWindowOf window bank q told
IsToldWindow window bank (Undecided cost q r) told = IsWindowOf window bank q told
