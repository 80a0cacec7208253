-- A sweep that writes certificates: what is found due for its words, and how it ends.
use Rattle.std.proofs.Common.{◌≡◌, ℕ, List, Option, Some, None, Result, Ok, Err, refl, sym, ◌∙◌, subst}
use Rattle.signal_base.specs.declared.window.Window.{Window}
use Rattle.definitions.specs.heard.Logs.{Records}
use Rattle.formats.specs.declared.refusal.Refusal.{Refusal}
use Rattle.bank_files.specs.Seen.{OnlyReads, SameCounts, Seen}
use Rattle.bank_config.specs.Configuration.{PlainConfig}
use Rattle.certificates.specs.Certificates.{Certificate}
use Rattle.due.specs.declared.due.Due.{Due}
use Rattle.due.specs.declared.due.Due.TheVariants as dues
use Rattle.due.specs.declared.status.Status.{Status}
use Rattle.due.specs.Banks.{Bank, bank_of, window_of}
use Rattle.due.specs.Inputs.{Contents}
use Rattle.due.specs.Loads.{IsBankLoaded}
use Rattle.due.proofs.DueLaws.{not_both, one_bank}
use Rattle.bank.specs.declared.loading.Unloaded.{Unloaded}
use Rattle.bank.specs.declared.loading.Unloaded.TheVariants as unloadeds
use Rattle.bank.specs.declared.stop.Stop.{Stop}
use Rattle.bank.specs.declared.stop.Stop.TheVariants.{Failed, NoMemory}
use Rattle.bank.specs.Ending.{Ends, FindsDue, IsFound, OnlyWritesAmong, WritesAll, WritesNothing, over}
use Rattle.bank.specs.Finding.{IsToldUnloaded}
use Rattle.bank.specs.Loading.{IsLoaded, IsNotLoaded, IsRefusedLoading}
use Rattle.bank.proofs.CertifyLaws.{only_behind_reads}
use Rattle.bank.proofs.EndingLaws.{due_not_written, due_written, writes_nothing}
use Rattle.sweep_due.specs.SweepCertificates.{AreCertificatesDue, AsksCertificates, CertificatesOrder, Not_asked, Not_loaded, SweptCertificates, Written, certificates_name}
use Rattle.sweep_due.specs.SweepOrders.{AsksSweep, SweepOrder}
use Rattle.sweep_due.specs.SweepOwed.{IsSweepOwed, SweepOwed, files_of, owed_outputs, told_alone}
use Rattle.sweep_due.specs.SweepPlans.{sweep_plan}
use Rattle.sweep_due.specs.SweepRules.{Answered, Bad_bank, Bad_words, IsBankSwept, IsSweepDue}
use Rattle.sweep_due.proofs.CertificatesLaws.{asks_by_name, same_owed}
use Rattle.sweep_due.proofs.OrderLaws.{one_order}
use Rattle.sweep_due.proofs.SweepReadLaws.{asks_of_sweep, sweep_of_order}
use Rattle.sweep.specs.Certifying.{Certifies, IsOwedIn}
use Rattle.sweep.proofs.FoundLaws.{failure_found, read_of_bank}

none_some : {A : Type 0} (found : Option A) (x : A) → found ≡ None → found ≡ Some x → ⊥
none_some found x e f = cc

module _ (words : List (List ℕ)) (o : CertificatesOrder) (asks : AsksCertificates words o) where
  sweep_asked : AsksSweep words (sweep_of_order o)
  sweep_asked = asks_of_sweep words o asks

  -- what is refused of what was loaded
  refusal_found : (old : Seen) (refusal : Refusal) → IsRefusedLoading old o.config refusal → IsFound (over told_alone (sweep_plan words)) old (dues.Refused refusal)
  refusal_found old refusal (contents, agrees, bad) = (
    contents,
    λ input file read. agrees input file (read_of_bank words (sweep_of_order o) sweep_asked contents input file read),
    record { due_is = Bad_bank (sweep_of_order o) sweep_asked refusal bad refl; certificates_are = Not_loaded o asks refusal bad refl },
  )

  -- where nothing is loaded, its refusal is found
  pub unloaded_found : (old new : Seen) (unloaded : Unloaded) (r : Result Due Stop) → IsToldUnloaded unloaded r → IsNotLoaded old new o.config unloaded → OnlyReads old new
      → FindsDue (over told_alone (sweep_plan words)) old new r
  unloaded_found old new (unloadeds.Refused refusal) r told (found, same) only =
      subst (λ (s : Result Due Stop). FindsDue (over told_alone (sweep_plan words)) old new s) (sym told)
      (record { due = refusal_found old refusal found; failed = λ e. absurd cc; same_counts = λ e. same; only = only })
  unloaded_found old new unloadeds.Failed r told fails only =
      subst (λ (s : Result Due Stop). FindsDue (over told_alone (sweep_plan words)) old new s) (sym told)
      (record { due = tt; failed = λ e. failure_found words (sweep_of_order o) sweep_asked old new fails; same_counts = λ e. absurd (e refl); only = only })
  unloaded_found old new unloadeds.NoMemory r told same only =
      subst (λ (s : Result Due Stop). FindsDue (over told_alone (sweep_plan words)) old new s) (sym told)
      (record { due = tt; failed = λ e. absurd cc; same_counts = λ e. same; only = only })

  module _ (config : PlainConfig) (records : List Records) where
    abbrev bank : Bank
    bank = bank_of config records

    abbrev window : Window
    window = window_of o.asked bank.receivers

    -- the report and the certificates of what was loaded
    certified_found : (old : Seen) (owed : SweepOwed) → IsLoaded old o.config config records → IsOwedIn window bank o.workers owed → IsFound (sweep_plan words) old owed
    certified_found old owed (contents, agrees, loaded) is = (
      contents,
      λ input file read. agrees input file (read_of_bank words (sweep_of_order o) sweep_asked contents input file read),
      record {
        due_is = Answered (sweep_of_order o) sweep_asked config records loaded is.due_is;
        certificates_are = Written o asks config records loaded is.certificates is.certificates_are is.owed_are;
      },
    )

    module _ (contents : Contents) (loaded : IsBankLoaded contents config records) where
      swept_for : (due : Due) → IsSweepDue words contents due → IsBankSwept (sweep_of_order o) bank due
      swept_for due (Bad_words fault is e) = let also = sweep_asked.2 in absurd cc
      swept_for due (Bad_bank p also refusal bad e) = absurd (not_both contents config records refusal loaded bad)
      swept_for due (Answered p also other others too told) =
          let order = one_order words p (sweep_of_order o) also sweep_asked in
          let same = one_bank contents other config others records too loaded in
          subst (λ (b : Bank). IsBankSwept (sweep_of_order o) b due) same (subst (λ (q : SweepOrder). IsBankSwept q (bank_of other others) due) order told)

      -- orders and banks of these words have one phase
      same_phase : (p : CertificatesOrder) → AsksCertificates words p → (other : PlainConfig) (others : List Records) → IsBankLoaded contents other others → (cs : List Certificate)
          → ◌≡◌ {A = Option SweptCertificates} (Some (record { phase = (window_of p.asked (bank_of other others).receivers).phase; each = cs })) (Some (record { phase = window.phase; each = cs }))
      same_phase p also other others too cs =
          let order = one_order words (sweep_of_order p) (sweep_of_order o) (asks_of_sweep words p also) sweep_asked in
          let same = one_bank contents other config others records too loaded in
          λ i. Some (record { phase = (window_of (order i).asked (same i).receivers).phase; each = cs })

      -- what is owed for the words is owed for the bank
      owed_for : (owed : SweepOwed) → IsSweepOwed words contents owed → IsOwedIn window bank o.workers owed
      owed_for owed is = by_certificates owed.certificates is.certificates_are refl
        where
          swept : IsBankSwept (sweep_of_order o) bank owed.due
          swept = swept_for owed.due is.due_is

          by_certificates : (c : Option SweptCertificates) → AreCertificatesDue words contents c → owed.certificates ≡ c → IsOwedIn window bank o.workers owed
          by_certificates c (Not_asked none e) same = absurd (none_some (certificates_name words) o.name none (asks_by_name words o asks))
          by_certificates c (Not_loaded p also refusal bad e) same = absurd (not_both contents config records refusal loaded bad)
          by_certificates c (Written p also other others too cs are e) same = record {
            due_is = swept;
            certificates = cs;
            certificates_are = same_owed contents words p o other config others records cs also asks too loaded are;
            owed_are = same ∙ (e ∙ same_phase p also other others too cs);
          }

    -- how the run ends
    module _ (some : (contents : Contents) → (owed : SweepOwed) × IsSweepOwed words contents owed) (old mid new : Seen) (loaded : IsLoaded old o.config config records) (only : OnlyReads old mid)
        (same : SameCounts old mid) where
      of_plan : {E : Type 0} (owed : SweepOwed) (r : Result (Unit {0}) E) → WritesAll (owed_outputs (Some o.name) owed) mid new r → WritesAll ((sweep_plan words).outputs owed) mid new r
      of_plan owed r writes = subst (λ (name : Option (List ℕ)). WritesAll (owed_outputs name owed) mid new r) (sym (asks_by_name words o asks)) writes

      pub certified_ends : (r : Result Status Stop) → Certifies window bank o.workers o.name mid new r → Ends (sweep_plan words) old new r
      certified_ends (Ok status) (owed, is, writes, status_is) =
          subst (λ (s : Status). Ends (sweep_plan words) old new (Ok s)) (sym status_is)
          (due_written (sweep_plan words) {E = Unit {0}} old mid new owed (certified_found old owed loaded is) only same (of_plan owed (Ok tt) writes))
      certified_ends (Err Failed) front =
          let owed = some loaded.0 in
          let is = owed_for loaded.0 loaded.2 owed.0 owed.1 in
          due_not_written (sweep_plan words) {E = Unit {0}} old mid new owed.0 (certified_found old owed.0 loaded is) only same tt (of_plan owed.0 (Err tt) (front owed.0 is))
      certified_ends (Err NoMemory) unchanged =
          subst (λ (s : Seen). WritesNothing old s × SameCounts old s) (sym unchanged) (writes_nothing old mid only, same)

  pub only_certified : (old mid new : Seen) → OnlyReads old mid → OnlyWritesAmong (files_of (Some o.name)) mid new → OnlyWritesAmong (sweep_plan words).files old new
  only_certified old mid new only written =
      only_behind_reads (sweep_plan words).files old mid new only
      (subst (λ (name : Option (List ℕ)). OnlyWritesAmong (files_of name) mid new) (sym (asks_by_name words o asks)) written)
