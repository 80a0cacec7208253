-- What a valid certificate's window and ceiling keep to.
use Rattle.std.proofs.Common.{ℕ, ◌≤◌, subst}
use Rattle.signal_base.specs.declared.limits.TheConstants.{GREATEST_COST}
use Rattle.signal_base.specs.declared.window.Window.{Window}
use Rattle.definitions.specs.time.Calendar.{century_minutes}
use Rattle.definitions.specs.heard.Costs.{Costs}
use Rattle.certificates.specs.Certificates.{Certificate}
use Rattle.certificates.specs.Validity.{IsValid}

module _ (costs : Costs) (window : Window) (ceiling : ℕ) (c : Certificate) (valid : IsValid costs window ceiling c) where
  pub in_century : window.to ≤ century_minutes
  in_century = subst (λ (w : Window). w.to ≤ century_minutes) valid.window_is valid.spelled.window.century

  pub is_low : ceiling ≤ GREATEST_COST
  is_low = subst (λ n. n ≤ GREATEST_COST) valid.ceiling_is valid.spelled.ceiling
