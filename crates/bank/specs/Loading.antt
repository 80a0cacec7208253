-- What is loaded for a run: a configuration and the logs of its receivers, or why not.
use Rattle.std.specs.Prelude.{ℕ, ◌≡◌, ◌+◌, ◌⊎◌, List, [], ◌∷◌}
use Rattle.definitions.specs.heard.Logs.{Records}
use Rattle.formats.specs.declared.refusal.Refusal.{Refusal}
use Rattle.bank_files.specs.Told.{Finds}
use Rattle.bank_files.specs.Seen.{ReadFails, SameCounts, Seen}
use Rattle.bank_config.specs.Configuration.{PlainConfig, PlainReceiver}
use Rattle.due.specs.Inputs.{Contents, Input}
use Rattle.due.specs.Loads.{IsBankLoaded, IsBankRead, IsBankRefused}
use Rattle.due.specs.LogFiles.{IsBad, IsGood, LogFile}
use Rattle.bank.specs.Ending.{MayHold}
use Rattle.bank.specs.Order.{IsInOrder}
use Rattle.bank.specs.declared.loading.Unloaded.{Unloaded}
use Rattle.bank.specs.declared.loading.Unloaded.TheVariants.{Failed, NoMemory, Refused}

-- P holds of some bytes that agree with what is told of the file
abbrev pub IsReadAs : Seen → List ℕ → (List ℕ → Type 0) → Type 0
IsReadAs old file P = (bytes : List ℕ) × Finds (old.told file) (λ held. bytes ≡ held) × P bytes

-- bytes are refused so, or memory ran out
abbrev pub IsHalted : (Refusal → Type 0) → Unloaded → Type 0
IsHalted bad (Refused refusal) = bad refusal
IsHalted bad Failed = ⊥
IsHalted bad NoMemory = Unit {0}

-- the file is refused so, couldn't be read, or memory ran out
abbrev pub IsNotRead : Seen → Seen → List ℕ → (List ℕ → Refusal → Type 0) → Unloaded → Type 0
IsNotRead old new file bad (Refused refusal) = IsReadAs old file (λ bytes. bad bytes refusal) × SameCounts old new
IsNotRead old new file bad Failed = ReadFails file old new
IsNotRead old new file bad NoMemory = SameCounts old new

-- the log of a receiver that has this number
abbrev pub log_file : ℕ → PlainReceiver → LogFile
log_file number r = record { receiver = number; name = r.name; file = r.file }

-- the logs of these receivers are good, of these records
abbrev pub AreRead : Seen → List PlainReceiver → List Records → Type 0
AreRead old [] logs = logs ≡ []
AreRead old (r ∷ rs) [] = ⊥
AreRead old (r ∷ rs) (log ∷ logs) = IsReadAs old r.file (λ bytes. IsGood bytes log) × AreRead old rs logs

-- of the logs of receivers, the first of which has this number, the first bad one is refused so
abbrev pub IsRefusedAmong : Seen → ℕ → List PlainReceiver → Refusal → Type 0
IsRefusedAmong old number [] refusal = ⊥
IsRefusedAmong old number (r ∷ rs) refusal =
    IsReadAs old r.file (λ bytes. IsBad (log_file number r) bytes refusal)
    ⊎ ((log : Records) × IsReadAs old r.file (λ bytes. IsGood bytes log) × IsRefusedAmong old (number + 1) rs refusal)

-- one of the logs couldn't be read, and all before it are good
abbrev pub FailsAmong : Seen → Seen → List PlainReceiver → Type 0
FailsAmong old new [] = ⊥
FailsAmong old new (r ∷ rs) =
    ReadFails r.file old new ⊎ ((log : Records) × IsReadAs old r.file (λ bytes. IsGood bytes log) × FailsAmong old new rs)

-- a log is refused so, couldn't be read, or memory ran out
abbrev pub AreNotRead : Seen → Seen → ℕ → List PlainReceiver → Unloaded → Type 0
AreNotRead old new number rs (Refused refusal) = IsRefusedAmong old number rs refusal × SameCounts old new
AreNotRead old new number rs Failed = FailsAmong old new rs
AreNotRead old new number rs NoMemory = SameCounts old new

-- what is read of a bank agrees with what is told of its files: each that is told is there, and holds it
abbrev pub BankAgrees : Seen → List ℕ → Contents → Type 0
BankAgrees old name contents =
    (input : Input) (file : List ℕ) → IsBankRead name contents input file → Finds (old.told file) (λ bytes. contents input ≡ bytes)

-- it may be so: each file that is told to hold something holds it
abbrev pub BankMayBeRead : Seen → List ℕ → Contents → Type 0
BankMayBeRead old name contents =
    (input : Input) (file : List ℕ) → IsBankRead name contents input file → MayHold (old.told file) (contents input)

-- this is the configuration of this name, and these are its logs, for some contents that agree with what is told
abbrev pub IsLoaded : Seen → List ℕ → PlainConfig → List Records → Type 0
IsLoaded old name config records = (contents : Contents) × BankAgrees old name contents × IsBankLoaded contents config records

-- the same, with the receivers and their logs in the order of stations
abbrev pub IsLoadedInOrder : Seen → List ℕ → PlainConfig → List Records → Type 0
IsLoadedInOrder old name ordered ordered_logs =
    (config : PlainConfig) × (logs : List Records) × IsLoaded old name config logs × IsInOrder config logs ordered ordered_logs

-- for some such contents the configuration or the first bad log is refused so
abbrev pub IsRefusedLoading : Seen → List ℕ → Refusal → Type 0
IsRefusedLoading old name refusal = (contents : Contents) × BankAgrees old name contents × IsBankRefused contents refusal

-- a file couldn't be read that is read for some contents that may be so
abbrev pub FailsLoading : Seen → Seen → List ℕ → Type 0
FailsLoading old new name =
    (contents : Contents) × (input : Input) × (file : List ℕ) × BankMayBeRead old name contents × IsBankRead name contents input file × ReadFails file old new

-- nothing is loaded: the configuration or a log is refused, a file couldn't be read, or memory ran out
abbrev pub IsNotLoaded : Seen → Seen → List ℕ → Unloaded → Type 0
IsNotLoaded old new name (Refused refusal) = IsRefusedLoading old name refusal × SameCounts old new
IsNotLoaded old new name Failed = FailsLoading old new name
IsNotLoaded old new name NoMemory = SameCounts old new
