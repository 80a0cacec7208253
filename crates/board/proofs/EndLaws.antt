-- A run that ended so has run its plan, for the numbers of entries by which its queries were answered.
use Rattle.std.proofs.Common.{◌≡◌, ℕ, ◌⊎◌, inl, inr, List, [], Result, Ok, Err, refl}
use Rattle.bank_files.specs.Seen.{Seen}
use Rattle.due.specs.declared.status.Status.{Status}
use Rattle.due.specs.Status.{code_of}
use Rattle.board_due.specs.declared.board_due.BoardDue.{BoardDue}
use Rattle.board_due.specs.declared.board_due.BoardDue.TheVariants.{Answers, BadLine, Told, TooLarge}
use Rattle.board_due.specs.BoardDues.{IsBy}
use Rattle.board_due.specs.BoardPlans.{board_plan, board_plan_by}
use Rattle.bank.specs.declared.stop.Stop.{Stop}
use Rattle.bank.specs.declared.stop.Stop.TheVariants.{Failed, NoMemory}
use Rattle.bank.specs.Ending.{Ends, HasRun, IsFound, OnlyWritesAmong, SomeReadFails, SomeWriteFails, status_after}
use Rattle.bank.proofs.EndingLaws.{has_run}
use Rattle.board.proofs.BoardedLaws.{is_no_board_failure}
use Rattle.board.proofs.ExactLaws.{board_exactly}

abbrev counts_in : BoardDue → List ℕ
counts_in (Told due) = []
counts_in TooLarge = []
counts_in (BadLine number) = []
counts_in (Answers entries queries counts) = counts

is_by : (due : BoardDue) → IsBy (counts_in due) due
is_by (Told due) = tt
is_by TooLarge = tt
is_by (BadLine number) = tt
is_by (Answers entries queries counts) = refl

module _ (words : List (List ℕ)) (old new : Seen) where
  found_by : (due : BoardDue) → IsFound (board_plan words) old due → IsFound (board_plan_by (counts_in due) words) old due
  found_by due (contents, agrees, owes) = (contents, agrees, (owes, is_by due))

  -- The failing file is standard output, whatever was due.
  cause_by : (due : BoardDue) → IsFound (board_plan words) old due → SomeWriteFails (board_plan words) old new ⊎ SomeReadFails (board_plan words) old new
      → SomeWriteFails (board_plan_by (counts_in due) words) old new ⊎ SomeReadFails (board_plan_by (counts_in due) words) old new
  cause_by due found (inl (other, is, fails)) = inl (due, found_by due found, fails)
  cause_by due found (inr reads) = inr reads

  failed_by : SomeWriteFails (board_plan words) old new ⊎ SomeReadFails (board_plan words) old new
      → (live : List ℕ) × (SomeWriteFails (board_plan_by live words) old new ⊎ SomeReadFails (board_plan_by live words) old new)
  failed_by (inl (due, found, fails)) = (counts_in due, inl (due, found_by due found, fails))
  failed_by (inr reads) = ([], inr reads)

  ends_by : (r : Result Status Stop) → Ends (board_plan words) old new r → (live : List ℕ) × Ends (board_plan_by live words) old new r
  ends_by (Ok status) ((due, found, delivers), same) = (counts_in due, ((due, found_by due found, delivers), same))
  ends_by (Err Failed) (cause, inl nothing) = let by = failed_by cause in (by.0, (by.1, inl nothing))
  ends_by (Err Failed) (cause, inr (due, found, front, others)) =
      (counts_in due, (cause_by due found cause, inr (due, found_by due found, front, others)))
  ends_by (Err NoMemory) ends = ([], ends)

  pub has_boarded : (r : Result Status Stop) (code : ℕ) → code ≡ code_of (status_after r) → Ends (board_plan words) old new r
      → OnlyWritesAmong (board_plan words).files old new → (live : List ℕ) × HasRun (board_plan_by live words) old new code
  has_boarded r code is ends only =
      let by = ends_by r ends in
      (by.0, has_run (board_plan_by by.0 words) is_no_board_failure (board_exactly by.0 words) old new r code is by.1 only)
