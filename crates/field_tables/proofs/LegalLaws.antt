-- Bounds of minutes, where it is known whether their sequences are legal.
use Rattle.std.proofs.Common.{◌≡◌, ℕ, ◌≤◌, ◌↔◌, if◌then◌else◌, Bool, true, false, Option, Some, None, IfSome, ◌∙◌, refl}
use Rattle.signal_base.specs.declared.limits.TheConstants.{GREATEST_COST}
use Rattle.signal_base.specs.declared.window.Window.{Window}
use Rattle.definitions.specs.declared.block.Block.{Block}
use Rattle.definitions.specs.heard.Costs.{Costs, sequence_cost}
use Rattle.definitions.specs.sequences.Walks.{IsLegal}
use Rattle.definitions.specs.answers.Blocks.{IsMinuteBound, first_of}
use Rattle.plain_costs.specs.Agreement.{AgreeOn}
use Rattle.plain_costs.proofs.AgreementLaws.{sequence_same}

-- the bound of a minute that costs so much, if its sequence is legal
module _ (cost : ℕ) where
  pub is_small : (legal : Bool) → cost ≤ GREATEST_COST → IfSome (if legal then Some cost else None) (λ n. n ≤ GREATEST_COST)
  is_small true small = small
  is_small false small = tt

  pub is_bound : (costs : Costs) (window : Window) (minute : Block) (legal : Bool)
      → legal ≡ true ↔ IsLegal window (first_of minute) → (legal ≡ true → cost ≡ sequence_cost costs window (first_of minute))
      → IsMinuteBound costs window minute (if legal then Some cost else None)
  is_bound costs window minute true told costed = (told.0 refl, costed refl)
  is_bound costs window minute false told costed = λ legal. let both : false ≡ true = told.1 legal in absurd cc

-- a bound by costs that agree
pub bound_agrees : (window : Window) (costs others : Costs) (b : Block) (bound : Option ℕ) → AgreeOn window costs others → IsMinuteBound costs window b bound
    → IsMinuteBound others window b bound
bound_agrees window costs others b None agree none = none
bound_agrees window costs others b (Some n) agree is = (is.0, is.1 ∙ sequence_same window costs others (first_of b) agree)
