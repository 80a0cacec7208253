-- What the laws of the definitions say of a window's blocks and keys, in one record.
use Rattle.std.specs.Prelude.{ℕ, ◌≡◌, ◌≢◌, ◌<◌, ◌≤◌, if◌then◌else◌, Some, None}
use Rattle.std.specs.List.{AllByRecursion}
use Rattle.signal_base.specs.declared.window.Window.{Window}
use Rattle.definitions.specs.declared.sequence.Sequence.{Sequence}
use Rattle.definitions.specs.declared.block.Block.{Block}
use Rattle.definitions.specs.declared.block.Span.TheVariants.{Minute}
use Rattle.definitions.specs.time.Calendar.{century_minutes}
use Rattle.definitions.specs.sequences.Keys.{ceiling_key, key_of, sequence_of}
use Rattle.definitions.specs.sequences.Walks.{IsLegal, IsSequence}
use Rattle.definitions.specs.heard.Costs.{Costs, sequence_cost}
use Rattle.definitions.specs.answers.Blocks.{block_key, children, items, shorter, IsBlock, IsBound, IsIn, IsInOne}

pub record Facts (costs : Costs) (window : Window) (ceiling : ℕ) : Type 0 where
  pub century : window.to ≤ century_minutes
  -- a bound isn't above what it bounds
  pub key : (b : Block) (n : ℕ) (q : Sequence) → IsBlock window b → IsBound costs window b (Some n) → IsIn b q → IsLegal window q
      → block_key n b ≤ key_of (sequence_cost costs window q) q
  pub none : (b : Block) (q : Sequence) → IsBlock window b → IsBound costs window b None → IsIn b q → ¬ (IsLegal window q)
  -- children share the sequences of their block
  pub blocks : (b : Block) → IsBlock window b → AllByRecursion (IsBlock window) (children b)
  pub spans : (b : Block) → IsBlock window b → AllByRecursion (λ c. c.span ≡ shorter b.span) (children b)
  pub within : (b : Block) → IsBlock window b → AllByRecursion (λ c. (q : Sequence) → IsIn c q → IsIn b q) (children b)
  pub one : (b : Block) (q : Sequence) → IsBlock window b → b.span ≢ Minute → IsIn b q → IsInOne (children b) q
  -- items share those of their window
  pub items_are : AllByRecursion (IsBlock window) (items window)
  pub one_item : (q : Sequence) → window.from ≤ q.first → q.first < window.to → q.second < (if q.announced then 61 else 60)
      → IsInOne (items window) q
  -- keys tell sequences apart, and those within the ceiling from those beyond
  pub sequence : (c : ℕ) (q : Sequence) → IsSequence q → sequence_of (key_of c q) ≡ q
  pub keys_within : (c : ℕ) (q : Sequence) → IsSequence q → c ≤ ceiling → key_of c q ≤ ceiling_key ceiling
  pub keys_beyond : (c : ℕ) (q : Sequence) → IsSequence q → ceiling < c → ceiling_key ceiling < key_of c q
