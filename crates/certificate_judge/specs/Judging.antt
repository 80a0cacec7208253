-- What was judged of a certificate's lines so far.
use Rattle.std.specs.Prelude.{ℕ, ◌≡◌, ◌+◌, Bool, nat_le, if◌then◌else◌, List, [], ◌∷◌, ◌++◌, length, Option, Some, None}
use Rattle.signal_base.specs.declared.window.Window.{Window}
use Rattle.definitions.specs.declared.block.Block.{Block}
use Rattle.definitions.specs.heard.Costs.{Costs}
use Rattle.definitions.specs.answers.Blocks.{items}
use Rattle.definitions.specs.sequences.Keys.{ceiling_key}
use Rattle.field_tables.specs.Scored.{Scored, costs_of}
use Rattle.race_words.specs.declared.ends.Ends.{Ends}
use Rattle.race_words.specs.Keys.{with_key}
use Rattle.certificates.specs.declared.certificate.Line.{Line}
use Rattle.certificates.specs.declared.verdict.Verdict.{Verdict}
use Rattle.certificates.specs.Validity.{leaf_ends, leaf_key}
use Rattle.certificates.specs.Verdicts.{IsFound, IsOfEnds}
use Rattle.certificate_walks.specs.Waiting.{Waiting, left_of}
use Rattle.certificate_judge.specs.declared.judge.Judge.{Judge}
use Rattle.certificate_judge.specs.Marks.{AreMarked}

-- under which costs, in which window, and under which ceiling and limit lines are judged
pub record Bench : Type 0 where
  pub costs : Costs
  pub window : Window
  pub ceiling : ℕ
  pub limit : ℕ

abbrev pub bench_of : Scored → ℕ → ℕ → Bench
bench_of tables ceiling limit = record { costs = costs_of tables; window = tables.window; ceiling = ceiling; limit = limit }

-- keys that are named, and the true ones
pub record Keys : Type 0 where
  pub first : Option ℕ
  pub second : Option ℕ
  pub true_first : Option ℕ
  pub true_second : Option ℕ

-- what is found of lines from a step on
abbrev pub FoundFrom : Bench → Keys → ℕ → List Block → List Block → List Line → Verdict → Type 0
FoundFrom b keys step due begun ls verdict =
    IsFound b.costs b.window b.limit (IsOfEnds keys.first keys.second keys.true_first keys.true_second) step due begun ls verdict

-- what is kept of lines, none of which is wrong
pub record Kept : Type 0 where
  pub marks : List Bool
  pub due : List Block
  pub step : ℕ
  pub ends : Ends

-- No line was wrong: these blocks are due, the marked items were begun, and what is found of later lines is found of all.
pub record IsGoing (b : Bench) (kept : Kept) (ls : List Line) : Type 0 where
  pub begun : List Block
  pub marked : AreMarked (items b.window) kept.marks begun
  pub goes_on : (keys : Keys) (later : List Line) (v : Verdict) → FoundFrom b keys kept.step kept.due begun later v
      → FoundFrom b keys 1 [] [] (ls ++ later) v
  pub ends : leaf_ends b.ceiling ls ≡ kept.ends
  pub number : kept.step ≡ length ls + 1

-- a line was wrong, so that this is found, whatever follows
abbrev pub HasEnded : Bench → Verdict → List Line → Type 0
HasEnded b v ls = (keys : Keys) (later : List Line) → FoundFrom b keys 1 [] [] (ls ++ later) v

-- the one or the other
abbrev pub IsJudgedBy : Bench → Option Verdict → Kept → List Line → Type 0
IsJudgedBy b None kept ls = IsGoing b kept ls
IsJudgedBy b (Some v) kept ls = HasEnded b v ls

abbrev pub kept_by : Judge → Kept
kept_by j = record { marks = j.due.begun.marks; due = left_of j.due.pending; step = j.step; ends = j.ends }

-- these lines were judged under a limit
abbrev pub IsJudged : ℕ → Judge → List Line → Type 0
IsJudged limit j ls = IsJudgedBy (bench_of j.due.tables.now j.ceiling limit) j.verdict (kept_by j) ls

-- by the same tables, under the same ceiling
abbrev pub AreAlike : Judge → Judge → Type 0
AreAlike old new = (new.due.tables.now ≡ old.due.tables.now) × (new.ceiling ≡ old.ceiling)

-- the two least keys, once a key that isn't above a limit is added
abbrev pub ends_with_keys : ℕ → List ℕ → Ends → Ends
ends_with_keys limit [] ends = ends
ends_with_keys limit (key ∷ keys) ends = if nat_le key limit then with_key key ends else ends

-- the two least keys of leaves, once a line is kept
abbrev pub ends_with : ℕ → Line → Ends → Ends
ends_with ceiling l ends = ends_with_keys (ceiling_key ceiling) (leaf_key l) ends
