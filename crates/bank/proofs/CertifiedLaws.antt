-- A certificate is written in front of what is told; and what is owed of a bank besides its report.
use Rattle.std.proofs.Common.{◌≡◌, ◌≢◌, ◌≤◌, ℕ, zero, suc, true, false, ◌-◌, ◌⊎◌, List, [], ◌∷◌, ◌++◌, Option, Some, replicate, Result, Ok, Err, inl, inr, refl, sym, ap, ◌∙◌, subst}
use Rattle.signal_base.specs.declared.window.Window.{Window}
use Rattle.definitions.specs.declared.answer.Answer.{Answer}
use Rattle.definitions.specs.declared.block.Block.{Block}
use Rattle.definitions.specs.declared.block.Span.{Span}
use Rattle.definitions.specs.declared.block.Span.TheVariants.{Year, Day, Hour, Minute}
use Rattle.definitions.specs.declared.sequence.Sequence.{Sequence}
use Rattle.definitions.specs.heard.Costs.{Costs, sequence_cost}
use Rattle.definitions.specs.answers.Answers.{IsWindowAnswer}
use Rattle.definitions.specs.answers.Blocks.{IsBoundBy, items}
use Rattle.definitions.specs.answers.FirstTwo.{AreLeastTwo, IsWindowKey}
use Rattle.definitions.specs.time.Calendar.{century_minutes}
use Rattle.definitions.proofs.AnswerLaws.{window_answer_is_one}
use Rattle.formats.specs.OrderRanges.{IsFile}
use Rattle.bank_files.specs.Told.{AppendsFront, Tells, appended, emptied, output_name}
use Rattle.bank_files.specs.Seen.{OnlyWrites, SameCounts, Seen, WriteFails, Writes}
use Rattle.bank_files.proofs.Chaining.{HasFault-from, KeepsCounts-then, SameCounts-then}
use Rattle.bank_files.proofs.Telling.{Tells-appended_after, Tells-then}
use Rattle.certificates.specs.declared.certificate.Head.{Head}
use Rattle.certificates.specs.declared.certificate.Line.{Line}
use Rattle.certificates.specs.Certificates.{Certificate}
use Rattle.certificates.specs.Texts.{certificate_text}
use Rattle.certificates.specs.Validity.{AreTight, AreWalks, limit_named, opened_by}
use Rattle.certificate_texts.specs.Layout.{empty_parts, in_first_part}
use Rattle.certificate_walks.specs.Written.{AreTightWalks, IsWritten}
use Rattle.certificate_walks.proofs.CutLaws.{front_after}
use Rattle.certificates.proofs.FoundLaws.{least_two_once}
use Rattle.plain_costs.specs.Agreement.{AgreeOn}
use Rattle.field_tables.proofs.LegalLaws.{bound_agrees}
use Rattle.field_tables.proofs.UnionBoundLaws.{bound_same}
use Rattle.due.specs.declared.due.Due.{Due}
use Rattle.due.specs.declared.due.Due.TheVariants.{Report}
use Rattle.due.specs.declared.status.Status.{Status}
use Rattle.due.specs.Banks.{Bank, IsBankAnswer, costs_in, duts_of, ordered}
use Rattle.due.specs.CertificateRules.{IsBankCertificate, IsCertificateFor, certificate_with}
use Rattle.due.specs.Dues.{status_of, text_of}
use Rattle.due.specs.Owed.{Owed, files_of, owed_outputs}
use Rattle.due.proofs.StationLaws.{same_costs}
use Rattle.bank.specs.declared.stop.Stop.{Stop}
use Rattle.bank.specs.declared.stop.Stop.TheVariants.{Failed, NoMemory}
use Rattle.bank.specs.Certifying.{Certifies, DeliversCertified, IsOwedIn, certified_outputs}
use Rattle.bank.specs.Ending.{OnlyWritesAmong, WritesAll}
use Rattle.bank.proofs.DecodedLaws.{same_least}
use Rattle.bank.proofs.EntryLaws.{same_duts}

module _ {E : Type 0} (name text : List ℕ) (due : Due) (apart : name ≢ output_name) where
  -- the certificate couldn't be written whole
  pub cut_off : (old new : Seen) (e : E) → Tells (old.told name) (new.told name) ⊎ AppendsFront (emptied (old.told name)) text (new.told name)
      → WriteFails name old new → OnlyWrites name old new → WritesAll (certified_outputs name text due) old new (Err e)
  cut_off old new e front cause only = record {
    whole = tt;
    front = inl (front, (only.others output_name (λ same. apart (sym same)), tt));
    cause = inl cause;
    same_counts = tt;
    others = λ file other. only.others file other.0;
    counts = only.counts;
  }

  -- it stands, and then what is told is written, or a front of that
  pub told_behind : (a b c : Seen) (r : Result (Unit {0}) E) → Tells (appended (emptied (a.told name)) text) (b.told name) → SameCounts a b → OnlyWrites name a b
      → Writes output_name b c (text_of due) r → WritesAll (certified_outputs name text due) a c r
  told_behind a b c (Ok u) whole same only written = record {
    whole = (
      Tells-then (appended (emptied (a.told name)) text) (b.told name) (c.told name) whole (written.only.others name apart),
      (Tells-appended_after (a.told output_name) (b.told output_name) (c.told output_name) (text_of due) (only.others output_name (λ e. apart (sym e))) written.whole, tt),
    );
    front = tt;
    cause = tt;
    same_counts = SameCounts-then a b c same written.same_counts;
    others = λ file other. Tells-then (a.told file) (b.told file) (c.told file) (only.others file other.0) (written.only.others file other.1.0);
    counts = KeepsCounts-then a b c only.counts written.only.counts;
  }
  told_behind a b c (Err e) whole same only written = record {
    whole = tt;
    front = inr (
      Tells-then (appended (emptied (a.told name)) text) (b.told name) (c.told name) whole (written.only.others name apart),
      inl (inr (front_after (a.told output_name) (b.told output_name) (c.told output_name) (text_of due) (only.others output_name (λ e. apart (sym e))) written.front), tt),
    );
    cause = inr (inl (HasFault-from (a.write_faults output_name) (b.write_faults output_name) (c.write_faults output_name) (only.counts.of_writes output_name) written.cause));
    same_counts = tt;
    others = λ file other. Tells-then (a.told file) (b.told file) (c.told file) (only.others file other.0) (written.only.others file other.1.0);
    counts = KeepsCounts-then a b c only.counts written.only.counts;
  }

-- a file that can be named isn't standard output
pub apart_from_output : (name : List ℕ) → IsFile name → name ≢ output_name
apart_from_output name is e = absurd (let bad : false ≡ true = subst (λ (n : List ℕ). IsFile n) e is in cc)

-- no other file is written
pub one_file : (name : List ℕ) (old new : Seen) → OnlyWrites name old new → OnlyWritesAmong (files_of (Some name)) old new
one_file name old new only = record { others = λ other none. only.others other none.0; counts = only.counts }

pub two_files : (name : List ℕ) (a b c : Seen) → OnlyWrites name a b → OnlyWrites output_name b c → OnlyWritesAmong (files_of (Some name)) a c
two_files name a b c one two = record {
  others = λ other none. Tells-then (a.told other) (b.told other) (c.told other) (one.others other none.0) (two.others other none.1.0);
  counts = KeepsCounts-then a b c one.counts two.counts;
}

-- parts without a line, in the writer's words and in those of what is due
none_behind : (n : ℕ) → empty_parts n ≡ replicate n []
none_behind zero = refl
none_behind (suc n) = ap (λ parts. [] ∷ parts) (none_behind n)

pub same_certificate : (window : Window) (ceiling workers : ℕ) (first second : Option ℕ) (lines : List Line)
    → in_first_part (record { window = window; ceiling = ceiling; first = first; second = second }) workers lines ≡ certificate_with window ceiling workers first second lines
same_certificate window ceiling workers first second lines =
    ap (λ (parts : List (List Line)). let c : Certificate = record { head = record { window = window; ceiling = ceiling; first = first; second = second }; parts = lines ∷ parts } in c)
    (none_behind (workers - 1))

-- walks by costs that agree
module _ (window : Window) (costs others : Costs) (agree : AgreeOn window costs others) where
  bound_by : (span : Span) (b : Block) (bound : Option ℕ) → IsBoundBy span costs window b bound → IsBoundBy span others window b bound
  bound_by Year b bound is = bound_same window costs others b bound agree is
  bound_by Day b bound is = bound_same window costs others b bound agree is
  bound_by Hour b bound is = bound_same window costs others b bound agree is
  bound_by Minute b bound is = bound_agrees window costs others b bound agree is

  pub walks_by_others : (limit : ℕ) (blocks : List Block) (ls : List Line) → AreWalks costs window limit blocks ls → AreWalks others window limit blocks ls
  walks_by_others limit [] [] walks = walks
  walks_by_others limit [] (l ∷ ls) walks = walks
  walks_by_others limit (b ∷ bs) [] walks = walks
  walks_by_others limit (b ∷ bs) (l ∷ ls) walks = (
    walks.0,
    record { shape = walks.1.shape; bound = bound_by l.block.span l.block l.bound walks.1.bound; above = walks.1.above },
    walks_by_others limit (opened_by l ++ bs) ls walks.2,
  )

-- what was found and written, for a bank that heard what the grids say
module _ (window : Window) (bank : Bank) (costs : Costs) (ceiling workers : ℕ) (first second : Option ℕ) (century : window.to ≤ century_minutes) (is : ceiling ≡ bank.ceiling)
    (agree : AgreeOn window costs (costs_in window bank)) (same : (q : Sequence) → sequence_cost costs window q ≡ sequence_cost (costs_in window bank) window q)
    (named : AreLeastTwo (IsWindowKey window costs ceiling) first second) where
  abbrev others : Costs
  others = costs_in window bank

  abbrev head : Head
  head = record { window = window; ceiling = ceiling; first = first; second = second }

  named_here : AreLeastTwo (IsWindowKey window others bank.ceiling) first second
  named_here =
      subst (λ (n : ℕ). AreLeastTwo (IsWindowKey window others n) first second) is (same_least window costs others ceiling first second same named)

  certificate_here : (lines : List Line) → AreTightWalks costs head lines → IsBankCertificate window bank workers (certificate_with window ceiling workers first second lines)
  certificate_here lines are = record {
    first = first;
    second = second;
    lines = lines;
    named = named_here;
    walks = subst (λ (n : ℕ). AreWalks others window (limit_named n second) (items window) lines) is
        (walks_by_others window costs others agree (limit_named ceiling second) (items window) lines are.walks);
    tight = subst (λ (n : ℕ). AreTight (limit_named n second) lines) is are.tight;
    is = ap (λ (n : ℕ). certificate_with window n workers first second lines) is;
  }

  lines_here : (c : Certificate) (of : IsBankCertificate window bank workers c)
      → AreTightWalks costs head of.lines × (c ≡ certificate_with window ceiling workers first second of.lines)
  lines_here c of =
      let keys = least_two_once (IsWindowKey window others bank.ceiling) of.first of.second first second of.named named_here in
      let walks : AreWalks others window (limit_named ceiling second) (items window) of.lines =
      subst (λ (n : ℕ). AreWalks others window (limit_named n second) (items window) of.lines) (sym is)
      (subst (λ (s : Option ℕ). AreWalks others window (limit_named bank.ceiling s) (items window) of.lines) keys.1 of.walks) in
      let tight : AreTight (limit_named ceiling second) of.lines =
      subst (λ (n : ℕ). AreTight (limit_named n second) of.lines) (sym is)
      (subst (λ (s : Option ℕ). AreTight (limit_named bank.ceiling s) of.lines) keys.1 of.tight) in (
        record {
          walks = walks_by_others window others costs (λ station k x heard below few. sym (agree station k x heard below few)) (limit_named ceiling second) (items window) of.lines walks;
          tight = tight;
        },
        of.is ∙ (λ i. certificate_with window (sym is i) workers (keys.0 i) (keys.1 i) of.lines),
      )

  module _ (name : List ℕ) (due : Due) (answer : Answer) (answer_is : IsBankAnswer window bank answer) (due_is : due ≡ Report window answer (duts_of window bank answer))
      (old new : Seen) where
    abbrev with_lines : List Line → Owed
    with_lines lines = record { due = due; certificate = Some (certificate_with window ceiling workers first second lines) }

    in_due_words : {E : Type 0} (lines : List Line) (r : Result (Unit {0}) E) → WritesAll (certified_outputs name (certificate_text (in_first_part head workers lines)) due) old new r
        → WritesAll (owed_outputs (Some name) (with_lines lines)) old new r
    in_due_words lines r writes =
        subst (λ (c : Certificate). WritesAll (certified_outputs name (certificate_text c) due) old new r) (same_certificate window ceiling workers first second lines) writes

    pub delivered : (status : Status) → status ≡ status_of due → DeliversCertified {E = Unit {0}} costs head workers name due old new (Ok tt) → Certifies window bank workers name old new (Ok status)
    delivered status status_is (lines, are, writes) = (
      with_lines lines,
      record {
        answer = answer;
        answer_is = answer_is;
        due_is = due_is;
        certificate = certificate_with window ceiling workers first second lines;
        certificate_is = certificate_here lines are;
        owed_is = refl;
      },
      in_due_words lines (Ok tt) writes,
      status_is,
    )

    pub not_delivered : DeliversCertified {E = Unit {0}} costs head workers name due old new (Err tt) → Certifies window bank workers name old new (Err Failed)
    not_delivered front = λ owed of.
        let here = lines_here of.certificate of.certificate_is in
        let same_answer = window_answer_is_one window others bank.ceiling of.answer answer century of.answer_is answer_is in
        let due_here : owed.due ≡ due = of.due_is ∙ ap (λ (a : Answer). Report window a (duts_of window bank a)) same_answer ∙ sym due_is in
        let certificate_here : owed.certificate ≡ Some (certificate_with window ceiling workers first second of.certificate_is.lines) = of.owed_is ∙ ap Some here.1 in
        let all : owed ≡ with_lines of.certificate_is.lines = λ i. record { due = due_here i; certificate = certificate_here i } in
        subst (λ (o : Owed). WritesAll {E = Unit {0}} (owed_outputs (Some name) o) old new (Err tt)) (sym all)
        (in_due_words of.certificate_is.lines (Err tt) (front of.certificate_is.lines here.0))

-- what was delivered, whatever type a fault has
pub fault_of_any : {E : Type 0} (costs : Costs) (head : Head) (parts : ℕ) (name : List ℕ) (due : Due) (old new : Seen) (e : E)
    → DeliversCertified {E = E} costs head parts name due old new (Err e) → DeliversCertified {E = Unit {0}} costs head parts name due old new (Err tt)
fault_of_any costs head parts name due old new e delivers = delivers

-- the certificate was written, and then what is told, or a front of it
pub delivers_told : {E : Type 0} (costs : Costs) (head : Head) (parts : ℕ) (name : List ℕ) (due : Due) (a b c : Seen) (steps : ℕ) (r : Result (Unit {0}) E)
    → name ≢ output_name → ((ls ms : List Line) → AreTightWalks costs head ls → AreTightWalks costs head ms → ls ≡ ms)
    → IsWritten costs head parts (a.told name) (b.told name) steps → SameCounts a b → OnlyWrites name a b → Writes output_name b c (text_of due) r
    → DeliversCertified costs head parts name due a c r
delivers_told costs head parts name due a b c steps (Ok u) apart one is same only written = (
  is.lines,
  is.walks,
  told_behind {E = Unit {0}} name (certificate_text (in_first_part head parts is.lines)) due apart a b c (Ok tt) is.text same only
      (record { whole = written.whole; front = tt; cause = tt; same_counts = written.same_counts; only = written.only }),
)
delivers_told costs head parts name due a b c steps (Err e) apart one is same only written = λ lines are.
    subst (λ (ls : List Line). WritesAll {E = Unit {0}} (certified_outputs name (certificate_text (in_first_part head parts ls)) due) a c (Err tt)) (one is.lines lines is.walks are)
    (told_behind {E = Unit {0}} name (certificate_text (in_first_part head parts is.lines)) due apart a b c (Err tt) is.text same only
    (record { whole = tt; front = written.front; cause = written.cause; same_counts = tt; only = written.only }))

-- the same of a bank whose receivers are in the order of their stations
pub owed_of_ordered : (window : Window) (bank : Bank) (workers : ℕ) (owed : Owed) → IsOwedIn window (ordered bank) workers owed → IsOwedIn window bank workers owed
owed_of_ordered window bank workers owed is = record {
  answer = is.answer;
  answer_is = subst (λ (costs : Costs). IsWindowAnswer window costs bank.ceiling is.answer) (same_costs window bank) is.answer_is;
  due_is = is.due_is ∙ ap (λ duts. Report window is.answer duts) (same_duts window bank is.answer);
  certificate = is.certificate;
  certificate_is = subst (λ (costs : Costs). IsCertificateFor costs window bank.ceiling workers is.certificate) (same_costs window bank) is.certificate_is;
  owed_is = is.owed_is;
}

owed_by_ordered : (window : Window) (bank : Bank) (workers : ℕ) (owed : Owed) → IsOwedIn window bank workers owed → IsOwedIn window (ordered bank) workers owed
owed_by_ordered window bank workers owed is = record {
  answer = is.answer;
  answer_is = subst (λ (costs : Costs). IsWindowAnswer window costs bank.ceiling is.answer) (sym (same_costs window bank)) is.answer_is;
  due_is = is.due_is ∙ ap (λ duts. Report window is.answer duts) (sym (same_duts window bank is.answer));
  certificate = is.certificate;
  certificate_is = subst (λ (costs : Costs). IsCertificateFor costs window bank.ceiling workers is.certificate) (sym (same_costs window bank)) is.certificate_is;
  owed_is = is.owed_is;
}

pub certifies_ordered : (window : Window) (bank : Bank) (workers : ℕ) (name : List ℕ) (old new : Seen) (r : Result Status Stop)
    → Certifies window (ordered bank) workers name old new r → Certifies window bank workers name old new r
certifies_ordered window bank workers name old new (Ok status) (owed, is, writes, status_is) = (owed, owed_of_ordered window bank workers owed is, writes, status_is)
certifies_ordered window bank workers name old new (Err Failed) front = λ owed is. front owed (owed_by_ordered window bank workers owed is)
certifies_ordered window bank workers name old new (Err NoMemory) same = same
