-- A decode that writes a certificate: what is found due for its words, and how it ends.
use Rattle.std.proofs.Common.{◌≡◌, ℕ, List, Option, Some, None, Result, Ok, Err, refl, sym, ◌∙◌, subst}
use Rattle.signal_base.specs.declared.window.Window.{Window}
use Rattle.definitions.specs.heard.Logs.{Records}
use Rattle.formats.specs.declared.refusal.Refusal.{Refusal}
use Rattle.bank_files.specs.Told.{Tells, Told}
use Rattle.bank_files.specs.Seen.{OnlyReads, SameCounts, Seen}
use Rattle.bank_files.proofs.Chaining.{KeepsCounts-then}
use Rattle.bank_config.specs.Configuration.{PlainConfig}
use Rattle.certificates.specs.Certificates.{Certificate}
use Rattle.due.specs.declared.due.Due.{Due}
use Rattle.due.specs.declared.due.Due.TheVariants as dues
use Rattle.due.specs.declared.status.Status.{Status}
use Rattle.due.specs.Banks.{Bank, bank_of, window_of}
use Rattle.due.specs.CertificateRules.{AsksCertificate, CertificateOrder, IsCertificateDue, Not_asked, Not_loaded, Written, certificate_name}
use Rattle.due.specs.Inputs.{Contents}
use Rattle.due.specs.Loads.{IsBankLoaded}
use Rattle.due.specs.Orders.{BankOrder}
use Rattle.due.specs.Owed.{IsOwed, Owed, files_of, owed_outputs, told_alone}
use Rattle.due.specs.Plans.{run_plan}
use Rattle.due.specs.Rules.{AsksBank, IsDue, IsReported, Bad_words, Listed, Tried, Bad_bank, Answered}
use Rattle.due.proofs.CertificateDueLaws.{asks_by_name, same_owed}
use Rattle.due.proofs.DueLaws.{not_both, one_bank}
use Rattle.due.proofs.ReadLaws.{asks_of_bank, bank_of_order}
use Rattle.due.proofs.WordLaws.{bank_order_is_one}
use Rattle.bank.specs.declared.loading.Unloaded.{Unloaded}
use Rattle.bank.specs.declared.loading.Unloaded.TheVariants as unloadeds
use Rattle.bank.specs.declared.stop.Stop.{Stop}
use Rattle.bank.specs.declared.stop.Stop.TheVariants.{Failed, NoMemory}
use Rattle.bank.specs.Certifying.{Certifies, IsOwedIn}
use Rattle.bank.specs.Ending.{Ends, FindsDue, IsFound, OnlyWritesAmong, WritesAll, WritesNothing, over}
use Rattle.bank.specs.Finding.{IsToldUnloaded}
use Rattle.bank.specs.Loading.{IsLoaded, IsNotLoaded, IsRefusedLoading}
use Rattle.bank.proofs.EndingLaws.{due_not_written, due_written, writes_nothing}
use Rattle.bank.proofs.FindingLaws.{failure_found, read_of_bank}

none_some : {A : Type 0} (found : Option A) (x : A) → found ≡ None → found ≡ Some x → ⊥
none_some found x e f = cc

-- reads, and then these files are written
pub only_behind_reads : (files : List (List ℕ)) (old mid new : Seen) → OnlyReads old mid → OnlyWritesAmong files mid new → OnlyWritesAmong files old new
only_behind_reads files old mid new only written = record {
  others = λ other none. subst (λ (told : List ℕ → Told). Tells (told other) (new.told other)) only.told (written.others other none);
  counts = KeepsCounts-then old mid new only.counts written.counts;
}

pub nothing_among : (files : List (List ℕ)) (old new : Seen) → OnlyReads old new → OnlyWritesAmong files old new
nothing_among files old new only = record { others = λ other none. writes_nothing old new only other; counts = only.counts }

module _ (words : List (List ℕ)) (o : CertificateOrder) (asks : AsksCertificate words o) where
  bank_asked : AsksBank words (bank_of_order o)
  bank_asked = asks_of_bank words o asks

  -- what is refused of what was loaded
  refusal_found : (old : Seen) (refusal : Refusal) → IsRefusedLoading old o.config refusal → IsFound (over told_alone (run_plan words)) old (dues.Refused refusal)
  refusal_found old refusal (contents, agrees, bad) = (
    contents,
    λ input file read. agrees input file (read_of_bank words (bank_of_order o) bank_asked contents input file read),
    record { due_is = Bad_bank (bank_of_order o) bank_asked refusal bad refl; certificate_is = Not_loaded o asks refusal bad refl },
  )

  -- where nothing is loaded, its refusal is found
  pub unloaded_found : (old new : Seen) (unloaded : Unloaded) (r : Result Due Stop) → IsToldUnloaded unloaded r → IsNotLoaded old new o.config unloaded → OnlyReads old new
      → FindsDue (over told_alone (run_plan words)) old new r
  unloaded_found old new (unloadeds.Refused refusal) r told (found, same) only =
      subst (λ (s : Result Due Stop). FindsDue (over told_alone (run_plan words)) old new s) (sym told)
      (record { due = refusal_found old refusal found; failed = λ e. absurd cc; same_counts = λ e. same; only = only })
  unloaded_found old new unloadeds.Failed r told fails only =
      subst (λ (s : Result Due Stop). FindsDue (over told_alone (run_plan words)) old new s) (sym told)
      (record { due = tt; failed = λ e. failure_found words (bank_of_order o) bank_asked old new fails; same_counts = λ e. absurd (e refl); only = only })
  unloaded_found old new unloadeds.NoMemory r told same only =
      subst (λ (s : Result Due Stop). FindsDue (over told_alone (run_plan words)) old new s) (sym told)
      (record { due = tt; failed = λ e. absurd cc; same_counts = λ e. same; only = only })

  module _ (config : PlainConfig) (records : List Records) where
    abbrev bank : Bank
    bank = bank_of config records

    abbrev window : Window
    window = window_of o.asked bank.receivers

    -- the report and the certificate of what was loaded
    certified_found : (old : Seen) (owed : Owed) → IsLoaded old o.config config records → IsOwedIn window bank o.workers owed → IsFound (run_plan words) old owed
    certified_found old owed (contents, agrees, loaded) is = (
      contents,
      λ input file read. agrees input file (read_of_bank words (bank_of_order o) bank_asked contents input file read),
      record {
        due_is = Answered (bank_of_order o) bank_asked config records loaded (is.answer, is.answer_is, is.due_is);
        certificate_is = Written o asks config records loaded is.certificate is.certificate_is is.owed_is;
      },
    )

    module _ (contents : Contents) (loaded : IsBankLoaded contents config records) where
      reported_for : (due : Due) → IsDue words contents due → IsReported (bank_of_order o) bank due
      reported_for due (Bad_words fault is e) = absurd cc
      reported_for due (Listed station minute announced is e) = absurd cc
      reported_for due (Tried number workers is a of e) = absurd cc
      reported_for due (Bad_bank p also refusal bad e) = absurd (not_both contents config records refusal loaded bad)
      reported_for due (Answered p also other others too reported) =
          let order = bank_order_is_one words p (bank_of_order o) also bank_asked in
          let same = one_bank contents other config others records too loaded in
          subst (λ (b : Bank). IsReported (bank_of_order o) b due) same (subst (λ (q : BankOrder). IsReported q (bank_of other others) due) order reported)

      -- what is owed for the words is owed for the bank
      owed_for : (owed : Owed) → IsOwed words contents owed → IsOwedIn window bank o.workers owed
      owed_for owed is = by_certificate owed.certificate is.certificate_is refl
        where
          reported : IsReported (bank_of_order o) bank owed.due
          reported = reported_for owed.due is.due_is

          by_certificate : (c : Option Certificate) → IsCertificateDue words contents c → owed.certificate ≡ c → IsOwedIn window bank o.workers owed
          by_certificate c (Not_asked none e) same = absurd (none_some (certificate_name words) o.name none (asks_by_name words o asks))
          by_certificate c (Not_loaded p also refusal bad e) same = absurd (not_both contents config records refusal loaded bad)
          by_certificate c (Written p also other others too d for_bank e) same = record {
            answer = reported.0;
            answer_is = reported.1;
            due_is = reported.2;
            certificate = d;
            certificate_is = same_owed contents words p o other config others records d also asks too loaded for_bank;
            owed_is = same ∙ e;
          }

    -- how the run ends
    module _ (some : (contents : Contents) → (owed : Owed) × IsOwed words contents owed) (old mid new : Seen) (loaded : IsLoaded old o.config config records) (only : OnlyReads old mid)
        (same : SameCounts old mid) where
      of_plan : {E : Type 0} (owed : Owed) (r : Result (Unit {0}) E) → WritesAll (owed_outputs (Some o.name) owed) mid new r → WritesAll ((run_plan words).outputs owed) mid new r
      of_plan owed r writes = subst (λ (name : Option (List ℕ)). WritesAll (owed_outputs name owed) mid new r) (sym (asks_by_name words o asks)) writes

      pub certified_ends : (r : Result Status Stop) → Certifies window bank o.workers o.name mid new r → Ends (run_plan words) old new r
      certified_ends (Ok status) (owed, is, writes, status_is) =
          subst (λ (s : Status). Ends (run_plan words) old new (Ok s)) (sym status_is)
          (due_written (run_plan words) {E = Unit {0}} old mid new owed (certified_found old owed loaded is) only same (of_plan owed (Ok tt) writes))
      certified_ends (Err Failed) front =
          let owed = some loaded.0 in
          let is = owed_for loaded.0 loaded.2 owed.0 owed.1 in
          due_not_written (run_plan words) {E = Unit {0}} old mid new owed.0 (certified_found old owed.0 loaded is) only same tt (of_plan owed.0 (Err tt) (front owed.0 is))
      certified_ends (Err NoMemory) unchanged =
          subst (λ (s : Seen). WritesNothing old s × SameCounts old s) (sym unchanged) (writes_nothing old mid only, same)

  pub only_certified : (old mid new : Seen) → OnlyReads old mid → OnlyWritesAmong (files_of (Some o.name)) mid new → OnlyWritesAmong (run_plan words).files old new
  only_certified old mid new only written =
      only_behind_reads (run_plan words).files old mid new only
      (subst (λ (name : Option (List ℕ)). OnlyWritesAmong (files_of name) mid new) (sym (asks_by_name words o asks)) written)
