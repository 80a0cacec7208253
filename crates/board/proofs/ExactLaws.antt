-- Where contents are told, `board` delivers what is due for them.
use Rattle.std.proofs.Common.{◌≡◌, ℕ, List, subst}
use Rattle.bank_files.specs.Told.{Finds, Told}
use Rattle.bank_files.specs.Seen.{Seen}
use Rattle.due.specs.Inputs.{Contents, Input}
use Rattle.board_due.specs.declared.board_due.BoardDue.{BoardDue}
use Rattle.board_due.specs.BoardDues.{IsBy}
use Rattle.board_due.specs.BoardOrders.{AsksBoard, BoardOrder}
use Rattle.board_due.specs.BoardPlans.{board_plan, board_plan_by}
use Rattle.board_due.specs.BoardRules.{IsBoardDue, IsBoardRead, Reads_bank, Reads_queries}
use Rattle.board_due.proofs.BoardDueLaws.{one_board_due_by}
use Rattle.board_due.proofs.BoardReadLaws.{same_board_due}
use Rattle.due.specs.Loads.{IsBankRead}
use Rattle.due.proofs.ReadLaws.{loaded_too}
use Rattle.bank.specs.Ending.{Agrees, AreTold, Delivers, DeliversDue}
use Rattle.bank.proofs.EndingLaws.{delivered_exactly}
use Rattle.bank.proofs.ExactLaws.{bank_same}

module _ (old : Seen) (words : List (List ℕ)) (some told : Contents) (agrees : Agrees (board_plan words) old some) (all : AreTold (board_plan words) old told) where
  on_bank : (o : BoardOrder) → AsksBoard words o → (input : Input) (file : List ℕ) → IsBankRead o.follow.config some input file → some input ≡ told input
  on_bank o asks = bank_same old o.follow.config some told (λ n f r. agrees n f (Reads_bank o asks r)) (λ n f r. all n f (Reads_bank o asks r))

  all_same : (input : Input) (file : List ℕ) → IsBoardRead words some input file → some input ≡ told input
  all_same input file (Reads_bank o asks read) = on_bank o asks input file read
  all_same input file (Reads_queries o asks config records loaded early is at) =
      subst (λ (t : Told). Finds t (λ bytes. some input ≡ bytes))
      (all input file (Reads_queries o asks config records (loaded_too o.follow.config some told (on_bank o asks) config records loaded) early is at))
      (agrees input file (Reads_queries o asks config records loaded early is at))

-- where the contents are told, it is what is due for them, by the numbers of entries that it was answered by
pub board_exactly : (live : List ℕ) (words : List (List ℕ)) (old new : Seen) (code : ℕ) → DeliversDue (board_plan_by live words) old new code
    → (contents : Contents) → AreTold (board_plan_by live words) old contents → (due : BoardDue) → IsBoardDue words contents due × IsBy live due
    → Delivers (board_plan_by live words) old new due code
board_exactly live words old new code delivers contents all due also =
    delivered_exactly (board_plan_by live words) (λ told a b h k. one_board_due_by told words live a b h.0 k.0 h.1 k.1)
    (λ some other same d h. ((same_board_due words some other same d).0 h.0, h.1)) old new contents code
    (λ some agrees. all_same old words some contents agrees all) delivers due also
