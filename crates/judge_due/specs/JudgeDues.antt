-- The rules of what `judge` owes for its words and for the bytes that it reads; and which files it reads.
use Rattle.std.specs.Prelude.{ℕ, ◌≡◌, List, Err}
use Rattle.definitions.specs.heard.Logs.{Records}
use Rattle.formats.specs.declared.refusal.Refusal.{Refusal}
use Rattle.formats.specs.declared.words.WordFault.{WordFault}
use Rattle.bank_config.specs.Configuration.{PlainConfig}
use Rattle.due.specs.declared.due.Due.TheVariants.{Refused}
use Rattle.due.specs.Banks.{Bank, bank_of, window_of}
use Rattle.due.specs.Inputs.{CertificateAt, Contents, Input}
use Rattle.due.specs.Loads.{IsBankLoaded, IsBankRead, IsBankRefused}
use Rattle.due.specs.Orders.{word_refusal}
use Rattle.sweep_due.specs.CertificateNames.{file_at}
use Rattle.sweep_due.specs.JudgeRules.{AsksJudge, Files, IsJudged, IsReadAt, JudgeDue, JudgeOrder}
use Rattle.sweep_due.specs.Phases.{swept_offsets}
use Rattle.judge_due.specs.JudgeOrders.{judge_order_in}
use Rattle.judge_due.specs.JudgeTexts.{JudgeOwed}
use Rattle.judge_due.specs.JudgeTexts.JudgeOwed.{Judged, Told}

-- the bytes of the certificates among all that is read
abbrev pub files_in : Contents → Files
files_in contents offset = contents (CertificateAt offset)

-- This is told of certificates' bytes for a bank: what is told of them in the window of a decode of it.
abbrev pub IsBankJudged : JudgeOrder → Bank → Files → JudgeDue → Type 0
IsBankJudged o bank files due = IsJudged (window_of o.asked bank.receivers) bank files due

-- the certificate at this offset is read: it is swept, and all at the swept offsets before it are valid
abbrev pub IsOffsetRead : JudgeOrder → Bank → Files → ℕ → Type 0
IsOffsetRead o bank files offset =
    IsReadAt (window_of o.asked bank.receivers) bank files (swept_offsets (window_of o.asked bank.receivers).phase) offset

-- This is due, by the first rule that fits: refused words; of a bank the refusal of its configuration or of the first bad log; and
-- what is told of the certificates.
pub data IsJudgeDue (words : List (List ℕ)) (contents : Contents) (owed : JudgeOwed) : Type 0 where
  Bad_words : (fault : WordFault) → judge_order_in words ≡ Err fault → owed ≡ Told (Refused (word_refusal fault)) → IsJudgeDue words contents owed
  Bad_bank : (o : JudgeOrder) → AsksJudge words o
      → (refusal : Refusal) → IsBankRefused contents refusal → owed ≡ Told (Refused refusal) → IsJudgeDue words contents owed
  Files_judged : (o : JudgeOrder) → AsksJudge words o
      → (config : PlainConfig) → (records : List Records) → IsBankLoaded contents config records
      → (due : JudgeDue) → IsBankJudged o (bank_of config records) (files_in contents) due → owed ≡ Judged due → IsJudgeDue words contents owed

-- The run reads this file as this input: one of the bank's; or where the configuration and all logs are good, the certificate at an
-- offset, if all before it are valid.
pub data IsJudgeRead (words : List (List ℕ)) (contents : Contents) (input : Input) (file : List ℕ) : Type 0 where
  Reads_bank : (o : JudgeOrder) → AsksJudge words o → IsBankRead o.config contents input file → IsJudgeRead words contents input file
  Reads_certificate : (o : JudgeOrder) → AsksJudge words o
      → (config : PlainConfig) → (records : List Records) → IsBankLoaded contents config records
      → (offset : ℕ) → IsOffsetRead o (bank_of config records) (files_in contents) offset
      → input ≡ CertificateAt offset → file ≡ file_at o.name offset → IsJudgeRead words contents input file
