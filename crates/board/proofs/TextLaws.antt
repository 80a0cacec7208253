-- What is told of a file of queries that was read.
use Rattle.std.proofs.Common.{◌≡◌, ℕ, ◌≤◌, List, length, Result, Ok, Err, IfOk, sym, subst}
use Rattle.bank_files.specs.Told.{Finds}
use Rattle.bank_files.specs.Seen.{Seen}
use Rattle.board_due.specs.Queries.{IsTextOf, IsToldOf}
use Rattle.board_due.specs.Queries.QueriesTold.{Read}
use Rattle.board_due.specs.declared.queries.TheConstants.{QUERIES_LIMIT}
use Rattle.bank.specs.declared.stop.Stop.{Stop}
use Rattle.bank.specs.Loading.{IsReadAs}
use Rattle.board.specs.Asking.{told_seen}
use Rattle.board.specs.declared.text.QueryText.{QueryText}

-- what is told of the bytes that were read is told of the file
pub told_of_file : (old : Seen) (file bytes slice : List ℕ) (r : Result QueryText Stop) → slice ≡ bytes → Finds (old.told file) (λ held. bytes ≡ held)
    → IfOk r (λ text. IsToldOf slice (told_seen text)) → IfOk r (λ text. IsReadAs old file (λ b. IsToldOf b (told_seen text)))
told_of_file old file bytes slice (Ok text) same found is = (bytes, found, subst (λ (b : List ℕ). IsToldOf b (told_seen text)) same is)
told_of_file old file bytes slice (Err stop) same found is = tt

pub queries_told : (text queries list : List ℕ) → length text ≤ QUERIES_LIMIT → IsTextOf queries text → list ≡ queries → IsToldOf text (Read list)
queries_told text queries list fits is same = (fits, subst (λ (qs : List ℕ). IsTextOf qs text) (sym same) is)
