-- The ranges of what words ask for.
use Rattle.std.specs.Prelude.{ℕ, ◌≡◌, ◌<◌, ◌≤◌, Bool, false, true, List, IfSome}
use Rattle.signal_base.specs.declared.limits.TheConstants.{LEAST_SECONDS, MOST_SECONDS, START_LIMIT}
use Rattle.definitions.specs.time.Calendar.{century_minutes}
use Rattle.definitions.specs.codes.Allowed.{encoded_year}
use Rattle.formats.specs.declared.option.OptionName.{OptionName}
use Rattle.formats.specs.declared.option.OptionName.TheVariants as value
use Rattle.formats.specs.declared.words.Asked.{Asked}
use Rattle.formats.specs.declared.words.ValueKind.{ValueKind}
use Rattle.formats.specs.declared.words.ValueKind.TheVariants.{Number, Minute}
use Rattle.formats.specs.Orders.{Order}
use Rattle.formats.specs.Orders.Order.{Decode, Check, Feed, Encode, Trial, Follow, Sweep, Judge, Board, Irig, IrigRead}
use Rattle.formats.specs.Words.{is_value}
use Rattle.formats.specs.WordValues.{kind_of}

-- the number is one that a text of this kind can say
abbrev pub IsOfKind : ValueKind → ℕ → Type 0
IsOfKind (Number least most) n = (least ≤ n) × (n ≤ most)
IsOfKind Minute t = t < century_minutes

-- the number is in the range of this value
abbrev pub IsIn : OptionName → ℕ → Type 0
IsIn name n = IsOfKind (kind_of name) n

-- a window of the logs, and some minutes of the century
pub record IsAsked (asked : Asked) : Type 0 where
  pub start : IfSome asked.start (λ ms. ms < START_LIMIT)
  pub not_short : LEAST_SECONDS ≤ asked.seconds
  pub not_long : asked.seconds ≤ MOST_SECONDS
  pub not_empty : asked.from < asked.to
  pub century : asked.to ≤ century_minutes

-- a name of a file isn't empty and doesn't begin with -
abbrev pub IsFile : List ℕ → Type 0
IsFile name = is_value name ≡ true

-- names are names of files, numbers are in their ranges, and a minute is one that its station can send
abbrev pub IsInRange : Order → Type 0
IsInRange (Decode config asked workers certificate) = IsFile config × IsAsked asked × IsIn value.Workers workers × IfSome certificate IsFile
IsInRange (Check config certificate asked) = IsFile config × IsFile certificate × IsAsked asked
IsInRange (Feed config asked workers) = IsFile config × IsAsked asked × IsIn value.Workers workers
IsInRange (Encode station minute leap) = (minute < century_minutes) × (encoded_year station minute ≤ 2099)
IsInRange (Trial number workers) = IsIn value.Number number × IsIn value.Workers workers
IsInRange (Follow config asked workers step count) = IsFile config × IsAsked asked × IsIn value.Workers workers × IsIn value.Step step × IsIn value.Count count
IsInRange (Sweep config asked workers certificate) = IsFile config × IsAsked asked × IsIn value.Workers workers × IfSome certificate IsFile
IsInRange (Judge config certificate asked) = IsFile config × IsFile certificate × IsAsked asked
IsInRange (Board config queries asked workers step count readers) =
    IsFile config × IsFile queries × IsAsked asked × IsIn value.Workers workers × IsIn value.Step step × IsIn value.Count count
    × IsIn value.Readers readers
IsInRange (Irig config asked workers) = IsFile config × IsAsked asked × IsIn value.Workers workers
IsInRange (IrigRead file) = IsFile file

-- whether an order is one of a run
abbrev pub is_run_order : Order → Bool
is_run_order (Follow config asked workers step count) = false
is_run_order (Sweep config asked workers certificate) = false
is_run_order (Judge config certificate asked) = false
is_run_order (Board config queries asked workers step count readers) = false
is_run_order (Irig config asked workers) = false
is_run_order (IrigRead file) = false
is_run_order other = true
