-- What `check` is asked to do, by its words.
use Rattle.std.specs.Prelude.{ℕ, List}
use Rattle.formats.specs.OrderRanges.{IsAsked, IsFile}
use Rattle.due.specs.CertificateRules.{AsksCheck, CheckOrder}
use Rattle.checks.specs.declared.words.CheckTask.{CheckTask}

-- what is asked
abbrev pub order_seen : CheckTask → CheckOrder
order_seen t = record { config = t.config.now; certificate = t.certificate.now; asked = t.asked }

-- the words ask for this
abbrev pub Asks : List (List ℕ) → CheckTask → Type 0
Asks words t = AsksCheck words (order_seen t)

-- files are named, and numbers are in their ranges
pub record IsInRange (t : CheckTask) : Type 0 where
  pub config : IsFile t.config.now
  pub certificate : IsFile t.certificate.now
  pub asked : IsAsked t.asked
