-- What `sweep` is asked to do, by its words.
use Rattle.std.specs.Prelude.{ℕ, ◌≡◌, List, None}
use Rattle.formats.specs.OrderRanges.{IsAsked, IsFile}
use Rattle.bank.specs.Tasks.{AreWorkers}
use Rattle.sweep_due.specs.SweepCertificates.{AsksCertificates, CertificatesOrder, certificates_name}
use Rattle.sweep_due.specs.SweepOrders.{AsksSweep, SweepOrder}
use Rattle.sweep.specs.declared.words.SweepCertify.{SweepCertify}
use Rattle.sweep.specs.declared.words.SweepTask.{SweepTask}
use Rattle.sweep.specs.declared.words.SweepWork.{SweepWork}
use Rattle.sweep.specs.declared.words.SweepWork.TheVariants.{Certify, Tell}

-- what is asked, without how many workers search
abbrev pub order_seen : SweepTask → SweepOrder
order_seen t = record { config = t.config.now; asked = t.asked }

-- the words ask for this, and for no certificate
abbrev pub Asks : List (List ℕ) → SweepTask → Type 0
Asks words t = AsksSweep words (order_seen t) × (certificates_name words ≡ None)

-- a file is named, and numbers are in their ranges
pub record IsInRange (t : SweepTask) : Type 0 where
  pub file : IsFile t.config.now
  pub asked : IsAsked t.asked
  pub workers : AreWorkers t.workers

-- what is asked of certificates
abbrev pub certificates_order : SweepCertify → CertificatesOrder
certificates_order c = record { config = c.task.config.now; asked = c.task.asked; workers = c.task.workers; name = c.name.now }

pub record IsCertifyInRange (c : SweepCertify) : Type 0 where
  pub task : IsInRange c.task
  pub name : IsFile c.name.now

-- the words ask for this, with certificates or without
abbrev pub AsksWork : List (List ℕ) → SweepWork → Type 0
AsksWork words (Tell task) = Asks words task
AsksWork words (Certify certify) = AsksCertificates words (certificates_order certify)

abbrev pub IsWorkInRange : SweepWork → Type 0
IsWorkInRange (Tell task) = IsInRange task
IsWorkInRange (Certify certify) = IsCertifyInRange certify
