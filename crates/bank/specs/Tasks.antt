-- What a run is asked to do, by its words.
use Rattle.std.specs.Prelude.{ℕ, ◌≡◌, ◌<◌, ◌≤◌, List, None, Ok}
use Rattle.definitions.specs.time.Calendar.{century_minutes}
use Rattle.definitions.specs.codes.Allowed.{encoded_year}
use Rattle.formats.specs.Orders.Order.{Encode, Trial}
use Rattle.formats.specs.OrderRanges.{IsAsked, IsFile}
use Rattle.formats.specs.declared.words.TheConstants.{LEAST_WORKERS, MOST_WORKERS}
use Rattle.due.specs.Orders.{Wanted as PlainWanted, order_in}
use Rattle.due.specs.Orders as plain
use Rattle.due.specs.CertificateRules.{AsksCertificate, CertificateOrder}
use Rattle.due.specs.Rules.{AsksBank}
use Rattle.bank.specs.declared.words.Certify.{Certify}
use Rattle.bank.specs.declared.words.Work.{Work}
use Rattle.bank.specs.declared.words.Work.TheVariants as works
use Rattle.bank.specs.declared.words.Wanted.{Wanted}
use Rattle.bank.specs.declared.words.Wanted.TheVariants.{Report, Sentences}
use Rattle.bank.specs.declared.words.Task.{Task}
use Rattle.bank.specs.declared.words.Task.TheVariants.{Decode, List as Lists, Try}

-- what is wanted of a bank, where no certificate is written
abbrev pub wanted_seen : Wanted → PlainWanted
wanted_seen Report = plain.Report None
wanted_seen Sentences = plain.Sentences

-- the words ask for this
abbrev pub Asks : List (List ℕ) → Task → Type 0
Asks words (Decode config asked wanted workers) = AsksBank words (record { config = config.now; asked = asked; wanted = wanted_seen wanted })
Asks words (Lists station minute announced) = order_in words ≡ Ok (Encode station minute announced)
Asks words (Try number workers) = order_in words ≡ Ok (Trial number workers)

-- so many workers may search
abbrev pub AreWorkers : ℕ → Type 0
AreWorkers n = (LEAST_WORKERS ≤ n) × (n ≤ MOST_WORKERS)

-- a file is named, numbers are in their ranges, and a minute is one that its station can send
abbrev pub IsInRange : Task → Type 0
IsInRange (Decode config asked wanted workers) = IsFile config.now × IsAsked asked × AreWorkers workers
IsInRange (Lists station minute announced) = (minute < century_minutes) × (encoded_year station minute ≤ 2099)
IsInRange (Try number workers) = AreWorkers workers

-- what is asked of a certificate
abbrev pub certificate_order : Certify → CertificateOrder
certificate_order c = record { config = c.config.now; asked = c.asked; workers = c.workers; name = c.name.now }

abbrev pub IsCertifyInRange : Certify → Type 0
IsCertifyInRange c = IsFile c.config.now × IsAsked c.asked × AreWorkers c.workers × IsFile c.name.now

-- the words ask for this, with a certificate or without
abbrev pub AsksWork : List (List ℕ) → Work → Type 0
AsksWork words (works.Tell task) = Asks words task
AsksWork words (works.Certify c) = AsksCertificate words (certificate_order c)

abbrev pub IsWorkInRange : Work → Type 0
IsWorkInRange (works.Tell task) = IsInRange task
IsWorkInRange (works.Certify c) = IsCertifyInRange c
