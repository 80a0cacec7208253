-- What words ask of `sweep`, and what is refused of them.
use Rattle.std.specs.Prelude.{ℕ, ◌≡◌, List, Option, Ok, Err}
use Rattle.formats.specs.declared.words.Asked.{Asked}
use Rattle.formats.specs.declared.words.WordFault.TheVariants.{Usage}
use Rattle.formats.specs.Orders.{Order, Checked, ◌>>=◌, order_of}
use Rattle.formats.specs.Orders.Order.{Sweep}
use Rattle.formats.specs.Words.{reach_commands}

-- Of the orders beyond a run, that of `sweep`; any other is refused.
abbrev pub of_sweep : Order → Checked Order
of_sweep (Sweep config asked workers certificate) = Ok (Sweep config asked workers certificate)
of_sweep other = Err Usage

-- what the words ask for, or why they are refused
abbrev pub sweep_order_in : List (List ℕ) → Checked Order
sweep_order_in words = order_of reach_commands words >>= of_sweep

-- what is asked: the configuration's file, and the window
pub record SweepOrder : Type 0 where
  pub config : List ℕ
  pub asked : Asked

-- The words ask this, perhaps with certificates. How many workers search doesn't matter, and neither do certificates.
abbrev pub AsksSweep : List (List ℕ) → SweepOrder → Type 0
AsksSweep words o = (workers : ℕ) × (certificate : Option (List ℕ)) × (sweep_order_in words ≡ Ok (Sweep o.config o.asked workers certificate))
