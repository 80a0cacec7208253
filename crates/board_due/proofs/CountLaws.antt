-- Numbers of entries that may be: that of none is.
use Rattle.std.proofs.Common.{ℕ, List, length, replicate, arith}
use Rattle.std.proofs.lemmas.List.{get_or-replicate, length-replicate}
use Rattle.board_entries.specs.Board.{PlainEntry}
use Rattle.board_due.specs.BoardAnswers.{AreCounts}

pub none_of_any : (readers : ℕ) (entries : List PlainEntry) (queries : List ℕ) → AreCounts readers entries queries (replicate (length queries) 0)
none_of_any readers entries queries = record {
  each = length-replicate {A = ℕ} (length queries) 0;
  most = λ n h. omega (arith, get_or-replicate {A = ℕ} (length queries) n 0 0 (omega (arith, h, length-replicate {A = ℕ} (length queries) 0)));
  rise = λ n m le h same.
      omega (arith, get_or-replicate {A = ℕ} (length queries) n 0 0 (omega (arith, h, le, length-replicate {A = ℕ} (length queries) 0)), get_or-replicate {A = ℕ} (length queries) m 0 0 (omega (arith, h, length-replicate {A = ℕ} (length queries) 0)));
}
