-- What was kept and written is what is owed for the bank.
use Rattle.std.proofs.Common.{◌≡◌, ℕ, ◌<◌, ◌≤◌, true, List, [], ◌∷◌, All, Option, Some, Result, Ok, Err, refl, sym, ◌∙◌, subst}
use Rattle.std.proofs.lemmas.List.Elements.{All-head, All-tail}
use Rattle.signal_base.specs.declared.window.Window.{Window}
use Rattle.definitions.specs.declared.sequence.Sequence.{Sequence}
use Rattle.definitions.specs.answers.Blocks.{items}
use Rattle.definitions.specs.answers.FirstTwo.{AreLeastTwo, IsWindowKey}
use Rattle.definitions.specs.heard.Costs.{Costs, sequence_cost}
use Rattle.definitions.specs.time.Calendar.{century_minutes}
use Rattle.plain_costs.specs.Agreement.{AgreeOn}
use Rattle.field_tables.specs.Scored.{costs_of}
use Rattle.bank_files.specs.Seen.{Seen}
use Rattle.certificates.specs.declared.certificate.Line.{Line}
use Rattle.certificates.specs.Certificates.{Certificate}
use Rattle.certificates.specs.Texts.{certificate_text}
use Rattle.certificates.specs.Validity.{AreTight, AreWalks, limit_named}
use Rattle.certificates.proofs.FoundLaws.{least_two_once}
use Rattle.certificate_texts.specs.Layout.{in_first_part}
use Rattle.certificate_walks.specs.Written.{AreTightWalks}
use Rattle.due.specs.declared.due.Due.{Due}
use Rattle.due.specs.declared.status.Status.{Status}
use Rattle.due.specs.Banks.{Bank, costs_in, ordered}
use Rattle.due.specs.CertificateRules.{IsBankCertificate, IsCertificateFor, certificate_with}
use Rattle.due.specs.Dues.{status_of}
use Rattle.due.specs.Outputs.{Output}
use Rattle.due.proofs.StationLaws.{same_costs}
use Rattle.bank.specs.declared.stop.Stop.{Stop}
use Rattle.bank.specs.declared.stop.Stop.TheVariants.{Failed, NoMemory}
use Rattle.bank.specs.Ending.{WritesAll}
use Rattle.bank.proofs.CertifiedLaws.{same_certificate, walks_by_others}
use Rattle.bank.proofs.DecodedLaws.{same_least}
use Rattle.sweep_due.specs.declared.offsets.TheConstants.{PHASE_LIMIT}
use Rattle.sweep_due.specs.Phases.{swept_offsets, window_at}
use Rattle.sweep_due.specs.SweepCertificates.{AreCertificates, sweep_outputs}
use Rattle.sweep_due.specs.SweepOwed.{SweepOwed, owed_outputs}
use Rattle.sweep_due.specs.SweepRules.{IsSweepReport}
use Rattle.sweep_due.proofs.CertificatesLaws.{each_weaker}
use Rattle.sweep_due.proofs.SweepDueLaws.{one_report, some_report}
use Rattle.sweep.specs.declared.kept.Kept.{Kept}
use Rattle.sweep.specs.Certifying.{AreWalked, Certifies, DeliversKept, IsOwedIn, kept_outputs}
use Rattle.sweep.specs.Keeping.{AreKept, IsKeptAt, offsets_kept}
use Rattle.sweep.proofs.SweptLaws.{report_in_order}

module _ (window : Window) (bank : Bank) (name : List ℕ) (workers : ℕ)
    (agree : (k : Kept) → IsKeptAt window bank name k → AgreeOn k.head.window (costs_of k.tables) (costs_in k.head.window bank))
    (alike : (k : Kept) → IsKeptAt window bank name k → (q : Sequence) → sequence_cost (costs_of k.tables) k.head.window q ≡ sequence_cost (costs_in k.head.window bank) k.head.window q) where
  abbrev cert_of : Kept → List Line → Certificate
  cert_of k lines = in_first_part k.head workers lines

  -- the certificate of what is kept, and of the bank at its offset
  module _ (k : Kept) (at : IsKeptAt window bank name k) where
    abbrev others : Costs
    others = costs_in k.head.window bank

    abbrev limit : ℕ
    limit = limit_named k.head.ceiling k.head.second

    named_here : AreLeastTwo (IsWindowKey k.head.window others k.head.ceiling) k.head.first k.head.second
    named_here = same_least k.head.window (costs_of k.tables) others k.head.ceiling k.head.first k.head.second (alike k at) at.named

    cert_is : (lines : List Line) → cert_of k lines ≡ certificate_with k.head.window k.head.ceiling workers k.head.first k.head.second lines
    cert_is lines = same_certificate k.head.window k.head.ceiling workers k.head.first k.head.second lines

    there : (c : Certificate) → IsCertificateFor others k.head.window k.head.ceiling workers c → IsBankCertificate (window_at window k.offset) bank workers c
    there c is =
        subst (λ (w : Window). IsCertificateFor (costs_in w bank) w bank.ceiling workers c) at.window_is
        (subst (λ (n : ℕ). IsCertificateFor others k.head.window n workers c) at.ceiling_is is)

    back : (c : Certificate) → IsBankCertificate (window_at window k.offset) bank workers c → IsCertificateFor others k.head.window k.head.ceiling workers c
    back c is =
        subst (λ (n : ℕ). IsCertificateFor others k.head.window n workers c) (sym at.ceiling_is)
        (subst (λ (w : Window). IsCertificateFor (costs_in w bank) w bank.ceiling workers c) (sym at.window_is) is)

    certificate_here : (lines : List Line) → AreTightWalks (costs_of k.tables) k.head lines → IsBankCertificate (window_at window k.offset) bank workers (cert_of k lines)
    certificate_here lines are =
        there (cert_of k lines)
        (record {
          first = k.head.first;
          second = k.head.second;
          lines = lines;
          named = named_here;
          walks = walks_by_others k.head.window (costs_of k.tables) others (agree k at) limit (items k.head.window) lines are.walks;
          tight = are.tight;
          is = cert_is lines;
        })

    lines_here : (c : Certificate) → IsBankCertificate (window_at window k.offset) bank workers c
        → (lines : List Line) × AreTightWalks (costs_of k.tables) k.head lines × (c ≡ cert_of k lines)
    lines_here c is =
        let of = back c is in
        let keys = least_two_once (IsWindowKey k.head.window others k.head.ceiling) of.first of.second k.head.first k.head.second of.named named_here in
        let walks : AreWalks others k.head.window limit (items k.head.window) of.lines =
        subst (λ (s : Option ℕ). AreWalks others k.head.window (limit_named k.head.ceiling s) (items k.head.window) of.lines) keys.1 of.walks in
        let tight : AreTight limit of.lines = subst (λ (s : Option ℕ). AreTight (limit_named k.head.ceiling s) of.lines) keys.1 of.tight in (
          of.lines,
          record {
            walks = walks_by_others k.head.window others (costs_of k.tables) (λ station slot x heard below few. sym (agree k at station slot x heard below few)) limit (items k.head.window) of.lines walks;
            tight = tight;
          },
          of.is ∙ (λ i. certificate_with k.head.window k.head.ceiling workers (keys.0 i) (keys.1 i) of.lines) ∙ sym (cert_is of.lines),
        )

  -- all of them
  abbrev certs_of : List Kept → List (List Line) → List Certificate
  certs_of [] walks = []
  certs_of (k ∷ ks) [] = []
  certs_of (k ∷ ks) (lines ∷ walks) = cert_of k lines ∷ certs_of ks walks

  same_outputs : (ks : List Kept) → All (IsKeptAt window bank name) ks → (walks : List (List Line)) (due : Due)
      → kept_outputs ks workers walks due ≡ sweep_outputs name (offsets_kept ks) (certs_of ks walks) due
  same_outputs [] each walks due = refl
  same_outputs (k ∷ ks) each [] due = refl
  same_outputs (k ∷ ks) each (lines ∷ walks) due =
      let at = All-head (IsKeptAt window bank name) k ks each in
      let rest = same_outputs ks (All-tail (IsKeptAt window bank name) k ks each) walks due in
      λ i. record { file = at.name_is i; anew = true; text = certificate_text (cert_of k lines) } ∷ rest i

  certificates_here : (ks : List Kept) → All (IsKeptAt window bank name) ks → (walks : List (List Line)) → AreWalked ks walks
      → AreCertificates window bank workers (offsets_kept ks) (certs_of ks walks)
  certificates_here [] each walks are = refl
  certificates_here (k ∷ ks) each [] are = absurd are
  certificates_here (k ∷ ks) each (lines ∷ walks) are =
      (certificate_here k (All-head (IsKeptAt window bank name) k ks each) lines are.0, certificates_here ks (All-tail (IsKeptAt window bank name) k ks each) walks are.1)

  walks_here : (ks : List Kept) → All (IsKeptAt window bank name) ks → (cs : List Certificate) → AreCertificates window bank workers (offsets_kept ks) cs
      → (walks : List (List Line)) × AreWalked ks walks × (cs ≡ certs_of ks walks)
  walks_here [] each cs are = ([], refl, are)
  walks_here (k ∷ ks) each [] are = absurd are
  walks_here (k ∷ ks) each (c ∷ cs) are =
      let one = lines_here k (All-head (IsKeptAt window bank name) k ks each) c are.0 in
      let rest = walks_here ks (All-tail (IsKeptAt window bank name) k ks each) cs are.1 in
      (one.0 ∷ rest.0, (one.1, rest.1), λ i. one.2 i ∷ rest.2 i)

  module _ (kept : List Kept) (are_kept : AreKept window bank name kept) (due : Due) (reported : IsSweepReport window bank due) (old new : Seen) where
    abbrev with_walks : List (List Line) → SweepOwed
    with_walks walks = record { due = due; certificates = Some (record { phase = window.phase; each = certs_of kept walks }) }

    in_due_words : (walks : List (List Line)) (r : Result (Unit {0}) (Unit {0})) → WritesAll {E = Unit {0}} (kept_outputs kept workers walks due) old new r
        → WritesAll {E = Unit {0}} (owed_outputs (Some name) (with_walks walks)) old new r
    in_due_words walks r writes =
        subst (λ (is : List ℕ). WritesAll {E = Unit {0}} (sweep_outputs name is (certs_of kept walks) due) old new r) are_kept.offsets
        (subst (λ (os : List Output). WritesAll {E = Unit {0}} os old new r) (same_outputs kept are_kept.each walks due) writes)

    pub delivered : (status : Status) → status ≡ status_of due → DeliversKept {E = Unit {0}} kept workers due old new (Ok tt) → Certifies window bank workers name old new (Ok status)
    delivered status status_is (walks, are, writes) = (
      with_walks walks,
      record {
        due_is = reported;
        certificates = certs_of kept walks;
        certificates_are = subst (λ (is : List ℕ). AreCertificates window bank workers is (certs_of kept walks)) are_kept.offsets (certificates_here kept are_kept.each walks are);
        owed_are = refl;
      },
      in_due_words walks (Ok tt) writes,
      status_is,
    )

    pub not_delivered : window.to ≤ century_minutes → DeliversKept {E = Unit {0}} kept workers due old new (Err tt) → Certifies window bank workers name old new (Err Failed)
    not_delivered century front = λ owed of.
        let here = walks_here kept are_kept.each of.certificates
        (subst (λ (is : List ℕ). AreCertificates window bank workers is of.certificates) (sym are_kept.offsets) of.certificates_are) in
        let due_here : owed.due ≡ due = one_report window bank century owed.due due of.due_is reported in
        let certificates_here : owed.certificates ≡ Some (record { phase = window.phase; each = certs_of kept here.0 }) =
        of.owed_are ∙ (λ i. Some (record { phase = window.phase; each = here.2 i })) in
        let all : owed ≡ with_walks here.0 = λ i. record { due = due_here i; certificates = certificates_here i } in
        subst (λ (o : SweepOwed). WritesAll {E = Unit {0}} (owed_outputs (Some name) o) old new (Err tt)) (sym all)
        (in_due_words here.0 (Err tt) (front here.0 here.1))

-- the same of a bank whose receivers are in the order of their stations
module _ (window : Window) (bank : Bank) (workers : ℕ) (century : window.to ≤ century_minutes) (phase : window.phase < PHASE_LIMIT) where
  reported_by_ordered : (due : Due) → IsSweepReport window bank due → IsSweepReport window (ordered bank) due
  reported_by_ordered due is =
      let some = some_report window (ordered bank) century phase in
      subst (IsSweepReport window (ordered bank)) (one_report window bank century some.0 due (report_in_order window bank some.0 some.1) is) some.1

  owed_of_ordered : (owed : SweepOwed) → IsOwedIn window (ordered bank) workers owed → IsOwedIn window bank workers owed
  owed_of_ordered owed is = record {
    due_is = report_in_order window bank owed.due is.due_is;
    certificates = is.certificates;
    certificates_are = each_weaker (λ i c. IsBankCertificate (window_at window i) (ordered bank) workers c) (λ i c. IsBankCertificate (window_at window i) bank workers c)
        (λ i c of. subst (λ (costs : Costs). IsCertificateFor costs (window_at window i) bank.ceiling workers c) (same_costs (window_at window i) bank) of)
        (swept_offsets window.phase) is.certificates is.certificates_are;
    owed_are = is.owed_are;
  }

  owed_by_ordered : (owed : SweepOwed) → IsOwedIn window bank workers owed → IsOwedIn window (ordered bank) workers owed
  owed_by_ordered owed is = record {
    due_is = reported_by_ordered owed.due is.due_is;
    certificates = is.certificates;
    certificates_are = each_weaker (λ i c. IsBankCertificate (window_at window i) bank workers c) (λ i c. IsBankCertificate (window_at window i) (ordered bank) workers c)
        (λ i c of. subst (λ (costs : Costs). IsCertificateFor costs (window_at window i) bank.ceiling workers c) (sym (same_costs (window_at window i) bank)) of)
        (swept_offsets window.phase) is.certificates is.certificates_are;
    owed_are = is.owed_are;
  }

  pub certifies_ordered : (name : List ℕ) (old new : Seen) (r : Result Status Stop) → Certifies window (ordered bank) workers name old new r → Certifies window bank workers name old new r
  certifies_ordered name old new (Ok status) (owed, is, writes, status_is) = (owed, owed_of_ordered owed is, writes, status_is)
  certifies_ordered name old new (Err Failed) front = λ owed is. front owed (owed_by_ordered owed is)
  certifies_ordered name old new (Err NoMemory) same = same
