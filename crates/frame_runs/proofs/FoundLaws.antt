-- What is found due of a command of frames, and what a file that fails is of.
use Rattle.std.proofs.Common.{◌≡◌, ℕ, List, refl, sym, subst}
use Rattle.definitions.specs.heard.Logs.{Records}
use Rattle.formats.specs.declared.refusal.Refusal.{Refusal}
use Rattle.formats.specs.declared.words.Asked.{Asked}
use Rattle.bank_files.specs.Told.{Finds}
use Rattle.bank_files.specs.Seen.{ReadFails, Seen}
use Rattle.bank_config.specs.Configuration.{PlainConfig}
use Rattle.due.specs.declared.due.Due.TheVariants.{Refused}
use Rattle.due.specs.declared.frame_due.FrameDue.{FrameDue}
use Rattle.due.specs.declared.frame_due.FrameDue.TheVariants.{Told}
use Rattle.due.specs.Banks.{bank_of}
use Rattle.due.specs.FrameOrders.{AsksFrames, AsksReading}
use Rattle.due.specs.FrameRules.{Answered, Bad_bank, IsFrameRead, IsFramed, IsToldOf, Of_text, Reads_bank, Reads_frames}
use Rattle.due.specs.Inputs.{Contents, FramesText, Input}
use Rattle.due.specs.Loads.{IsBankRead}
use Rattle.due.specs.Plans.{frame_plan}
use Rattle.due.proofs.FrameFileLaws.{one_asked, one_file, one_question}
use Rattle.bank.specs.Ending.{IsFound, MayHold, SomeReadFails}
use Rattle.bank.specs.Loading.{FailsLoading, IsLoaded, IsReadAs, IsRefusedLoading}
use Rattle.bank.proofs.ContentLaws.{told_bytes, told_may_hold}

module _ (words : List (List ℕ)) (config : List ℕ) (asked : Asked) (asks : AsksFrames words config asked) where
  -- what is read is read of the bank that is asked about
  read_of_bank : (contents : Contents) (input : Input) (file : List ℕ) → IsFrameRead words contents input file → IsBankRead config contents input file
  read_of_bank contents input file (Reads_bank other wanted also read) =
      subst (λ (name : List ℕ). IsBankRead name contents input file) (sym (one_asked words config other asked wanted asks also).0) read
  read_of_bank contents input file (Reads_frames also is) = absurd (one_question words config file asked asks also)

  -- the answer for what was loaded
  pub answer_found : (old : Seen) (plain : PlainConfig) (records : List Records) (due : FrameDue) → IsLoaded old config plain records
      → IsFramed asked (bank_of plain records) due → IsFound (frame_plan words) old due
  answer_found old plain records due (contents, agrees, loaded) framed =
      (contents, (λ input file read. agrees input file (read_of_bank contents input file read)), Answered config asked asks plain records loaded framed)

  -- what is refused of what was loaded
  pub refusal_found : (old : Seen) (refusal : Refusal) → IsRefusedLoading old config refusal → IsFound (frame_plan words) old (Told (Refused refusal))
  refusal_found old refusal (contents, agrees, bad) =
      (contents, (λ input file read. agrees input file (read_of_bank contents input file read)), Bad_bank config asked asks refusal bad refl)

  -- a file failed while a configuration and its logs were loaded
  pub failure_found : (old new : Seen) → FailsLoading old new config → SomeReadFails (frame_plan words) old new
  failure_found old new (contents, input, file, may, read, fails) =
      (contents, input, file, (λ n f r. may n f (read_of_bank contents n f r)), Reads_bank config asked asks read, fails)

module _ (words : List (List ℕ)) (file : List ℕ) (asks : AsksReading words file) where
  -- no other file is read
  file_is : (contents : Contents) (input : Input) (name : List ℕ) → IsFrameRead words contents input name → name ≡ file
  file_is contents input name (Reads_bank config asked also read) = absurd (one_question words config file asked also asks)
  file_is contents input name (Reads_frames also is) = one_file words name file also asks

  -- what is told of the text that was read
  pub text_found : (old : Seen) (due : FrameDue) → IsReadAs old file (λ bytes. IsToldOf bytes due) → IsFound (frame_plan words) old due
  text_found old due (bytes, found, told) = (
    (λ _. bytes),
    (λ input name read. subst (λ (f : List ℕ). Finds (old.told f) (λ held. bytes ≡ held)) (sym (file_is (λ _. bytes) input name read)) found),
    Of_text file asks told,
  )

  -- its file failed, whatever it holds
  pub text_failed : (old new : Seen) → ReadFails file old new → SomeReadFails (frame_plan words) old new
  text_failed old new fails =
      let bytes = told_bytes (old.told file) in (
        (λ _. bytes),
        FramesText,
        file,
        (λ input name read. subst (λ (f : List ℕ). MayHold (old.told f) bytes) (sym (file_is (λ _. bytes) input name read)) (told_may_hold (old.told file))),
        Reads_frames asks refl,
        fails,
      )
