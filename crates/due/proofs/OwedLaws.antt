-- All that a run owes is one thing.
use Rattle.std.proofs.Common.{◌≡◌, ℕ, ◌≤◌, List}
use Rattle.signal_base.specs.declared.window.Window.{Window}
use Rattle.definitions.specs.time.Calendar.{century_minutes}
use Rattle.definitions.specs.heard.Costs.{Costs}
use Rattle.block_visits.specs.Facts.{Facts}
use Rattle.due.specs.Inputs.{Contents}
use Rattle.due.specs.Owed.{IsOwed, Owed}
use Rattle.due.proofs.CertificateDueLaws.{one_owed, some_owed}
use Rattle.due.proofs.DueLaws.{one_due, some_due}

module _ (contents : Contents) where
  pub one_thing : (words : List (List ℕ)) (a b : Owed) → IsOwed words contents a → IsOwed words contents b → a ≡ b
  one_thing words a b h k =
      let due = one_due contents words a.due b.due h.due_is k.due_is in
      let certificate = one_owed contents words a.certificate b.certificate h.certificate_is k.certificate_is in
      λ i. record { due = due i; certificate = certificate i }

  pub some_thing : ((costs : Costs) (window : Window) (ceiling : ℕ) → window.to ≤ century_minutes → Facts costs window ceiling)
      → (words : List (List ℕ)) → (owed : Owed) × IsOwed words contents owed
  some_thing facts words =
      let due = some_due contents words in
      let certificate = some_owed contents facts words in
      (record { due = due.0; certificate = certificate.0 }, record { due_is = due.1; certificate_is = certificate.1 })
