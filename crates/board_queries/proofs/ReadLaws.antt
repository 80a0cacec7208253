-- What has been read of a text of queries so far, and which line a fault names.
use Rattle.std.proofs.Common.{◌≡◌, ℕ, ◌<◌, List, [], ◌∷◌, ◌++◌, length, refl, ap, ◌∙◌, arith, append-nil}
use Rattle.std.specs.Prelude.{Err, IfErr, IfOk, MatchResult, Ok, Result, Vec}
use Rattle.std.proofs.lemmas.List.Elements.{All-nil}
use Rattle.board_due.specs.Queries.{AreQueries, IsQuery, IsRefused, IsTextOf, queries_text, query_line}
use Rattle.board_due.specs.declared.queries.TheConstants.{MOST_QUERIES}
use Rattle.board_due.proofs.OutcomeLaws.{good_more, not_both, one_line, one_list}
use Rattle.board_due.proofs.QueryLaws.{read_on}
use Rattle.board_queries.specs.declared.fault.QueryFault.{QueryFault}
use Rattle.board_queries.specs.declared.fault.QueryFault.TheVariants.{NoMemory, Shape}
use Rattle.board_queries.specs.Reading.{IsFaultAt, IsFaultOf, NamesLine}

-- What comes before the rest of the text is written of these queries.
pub record IsReadTo (text queries rest : List ℕ) : Type 0 where
  pub good : AreQueries queries
  pub parts : text ≡ queries_text queries ++ rest

pub read_start : (text : List ℕ) → IsReadTo text [] text
read_start text = record { good = (All-nil IsQuery, omega arith); parts = refl }

pub read_more : (text queries rest : List ℕ) (ms : ℕ) (more : List ℕ) → IsReadTo text queries rest → length queries < MOST_QUERIES → IsQuery ms → rest ≡ query_line ms ++ more
    → IsReadTo text (queries ++ ms ∷ []) more
read_more text queries rest ms more read room is begins = record {
  good = good_more text queries ms read.good room is;
  parts = read_on text queries rest ms more read.parts begins;
}

pub read_end : (text queries rest : List ℕ) → IsReadTo text queries rest → rest ≡ [] → IsTextOf queries text
read_end text queries rest read over = (read.good, read.parts ∙ (ap (λ l. queries_text queries ++ l) over ∙ append-nil (queries_text queries)))

-- the bad line that comes next is the first one of the text
pub fault_here : (text queries rest : List ℕ) (fault : QueryFault) → IsReadTo text queries rest → 0 < length rest → IsFaultAt (length queries) rest fault → IsFaultOf text fault
fault_here text queries rest (Shape line) read more h = record {
  queries = queries;
  rest = rest;
  good = read.good;
  read = read.parts;
  more = more;
  bad = h.1;
  is_next = h.0;
}
fault_here text queries rest NoMemory read more h = tt

fault_names : (text : List ℕ) (found : QueryFault) (number : ℕ) → IsFaultOf text found → IsRefused text number → NamesLine number found
fault_names text (Shape line) number h owed = one_line text line number h owed
fault_names text NoMemory number h owed = tt

no_fault : (text queries : List ℕ) → IsTextOf queries text → (found : QueryFault) → IsFaultOf text found → found ≡ NoMemory
no_fault text queries owed (Shape line) h = absurd (not_both text queries line owed h)
no_fault text queries owed NoMemory h = refl

-- so each text of queries is read, and each other text is refused
module _ {Z : Type 0} (text : List ℕ) where
  pub text_is_read : (result : Result (Vec ℕ Z) QueryFault) → IfOk result (λ read. IsTextOf read.items text) → IfErr result (IsFaultOf text)
      → (queries : List ℕ) → IsTextOf queries text → MatchResult result (λ read. read.items ≡ queries) (λ fault. fault ≡ NoMemory)
  text_is_read (Ok read) good bad queries owed = one_list text read.items queries good owed
  text_is_read (Err fault) good bad queries owed = no_fault text queries owed fault bad

  pub fault_is_read : (result : Result (Vec ℕ Z) QueryFault) → IfOk result (λ read. IsTextOf read.items text) → IfErr result (IsFaultOf text)
      → (number : ℕ) → IsRefused text number → MatchResult result (λ read. ⊥) (NamesLine number)
  fault_is_read (Ok read) good bad number owed = not_both text read.items number good owed
  fault_is_read (Err found) good bad number owed = fault_names text found number bad owed
