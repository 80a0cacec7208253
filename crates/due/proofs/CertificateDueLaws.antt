-- Of certificates one thing is due for all words and contents.
use Rattle.std.proofs.Common.{◌≡◌, ℕ, ◌+◌, ◌≤◌, ◌⊎◌, inl, inr, List, [], ◌∷◌, ◌++◌, length, Option, Some, None, Ok, Err, refl, sym, ap, ◌∙◌, subst, arith}
use Rattle.std.specs.List.{AllByRecursion, Contains}
use Rattle.signal_base.specs.declared.limits.TheConstants.{GREATEST_COST, MOST_RECEIVERS}
use Rattle.signal_base.specs.declared.window.Window.{Window}
use Rattle.signal_base.specs.Limits.{IsPriced, IsTuned}
use Rattle.definitions.specs.declared.answer.Answer.{Answer}
use Rattle.definitions.specs.declared.block.Block.{Block}
use Rattle.definitions.specs.time.Calendar.{century_minutes}
use Rattle.definitions.specs.heard.Costs.{Costs, sequence_cost}
use Rattle.definitions.specs.heard.Logs.{Records}
use Rattle.definitions.specs.sequences.Windows.{IsWindow}
use Rattle.definitions.specs.answers.Answers.{IsAdmitted, IsWindowAnswer}
use Rattle.definitions.specs.answers.Blocks.{IsBound}
use Rattle.definitions.specs.answers.FirstTwo.{AreLeastTwo, IsWindowKey, answer_from}
use Rattle.definitions.specs.sequences.Walks.{IsLegal}
use Rattle.definitions.proofs.AnswerLaws.{walkable_sequence, window_answer_is_one}
use Rattle.definitions.proofs.EndLaws.{answer_is}
use Rattle.race_words.specs.Keys.{two_least}
use Rattle.block_visits.specs.Facts.{Facts}
use Rattle.formats.specs.declared.words.Asked.{Asked}
use Rattle.formats.specs.OrderRanges.{IsAsked}
use Rattle.formats.specs.Orders.{Checked, Order}
use Rattle.formats.specs.Orders.Order.{Decode, Check, Feed, Encode, Trial, Follow, Sweep, Judge, Board, Irig, IrigRead}
use Rattle.bank_config.specs.Configuration.{PlainConfig, PlainReceiver}
use Rattle.bank_config.specs.InRange.{IsPlainInRange}
use Rattle.bank_config.proofs.RangeLaws.{plain_in_range}
use Rattle.certificates.specs.declared.certificate.Kind.TheVariants.{Pruned}
use Rattle.certificates.specs.declared.certificate.Line.{Line}
use Rattle.certificates.specs.declared.limits.TheConstants.{MOST_PARTS, MOST_STEPS}
use Rattle.certificates.specs.Certificates.{Certificate, lines_of}
use Rattle.certificates.specs.Judged.{IsGoodCertificate}
use Rattle.certificates.specs.Texts.{certificate_text}
use Rattle.certificates.specs.Validity.{IsValid, KeepsTo, leaf_keys}
use Rattle.due.specs.Banks.{Bank, IsBankAnswer, bank_of, costs_in, receivers_of, window_of}
use Rattle.due.specs.CertificateRules.{AsksCertificate, CertificateOrder, IsBankCertificate, IsCertificateDue, IsChecked, IsNotCheaper, Not_asked, Not_loaded, Written, certificate_name, certified, name_asked, parts_for}
use Rattle.due.specs.Inputs.{Configuration, Contents}
use Rattle.due.specs.Loads.{IsBankLoaded}
use Rattle.due.specs.Orders.{order_in}
use Rattle.due.proofs.BoundRangeLaws.{AreTuned, bounds_small}
use Rattle.due.proofs.CertificateLaws.{is_good, is_valid, keeps, lines_are, named, not_cheaper, one_certificate, some_certificate}
use Rattle.due.proofs.CheckLaws.{tells_answer}
use Rattle.due.proofs.DueLaws.{IsBankJudged, bank_judged, not_both, one_bank}
use Rattle.due.proofs.WindowLaws as windows
use Rattle.due.proofs.WordLaws.{in_range as order_in_range}

-- a bank that was loaded is in its ranges
tuned : (rs : List PlainReceiver) (logs : List Records) → AllByRecursion (λ (r : PlainReceiver). IsTuned r.tuning) rs → AreTuned (receivers_of rs logs)
tuned [] logs all = tt
tuned (r ∷ rs) [] all = tt
tuned (r ∷ rs) (log ∷ logs) all = (all.0, tuned rs logs all.1)

no_more : (rs : List PlainReceiver) (logs : List Records) → length (receivers_of rs logs) ≤ length rs
no_more [] logs = omega arith
no_more (r ∷ rs) [] = omega arith
no_more (r ∷ rs) (log ∷ logs) = omega (arith, no_more rs logs)

pub record IsBankInRange (bank : Bank) : Type 0 where
  pub tuned : AreTuned bank.receivers
  pub few : length bank.receivers ≤ MOST_RECEIVERS
  pub priced : IsPriced bank.table
  pub ceiling : bank.ceiling ≤ GREATEST_COST

module _ (contents : Contents) (config : PlainConfig) (records : List Records) (loaded : IsBankLoaded contents config records) where
  ranges : IsPlainInRange config
  ranges = plain_in_range (contents Configuration) config loaded.says.says

  pub bank_in_range : IsBankInRange (bank_of config records)
  bank_in_range = record {
    tuned = tuned config.receivers records ranges.tuned;
    few = omega (arith, no_more config.receivers records, ranges.few_receivers);
    priced = ranges.priced;
    ceiling = ranges.ceiling;
  }

  pub window_in_range : (asked : Asked) → IsAsked asked → IsWindow (window_of asked (bank_of config records).receivers)
  window_in_range asked is = windows.in_range contents config records asked is ranges.some_receiver loaded.good

-- no bound in such a bank is greater than a cost can be
pub small_bounds : (window : Window) (bank : Bank) → IsWindow window → IsBankInRange bank → (b : Block) (n : ℕ) → IsBound (costs_in window bank) window b (Some n)
    → n ≤ GREATEST_COST
small_bounds window bank fits ranges =
    bounds_small bank.table ranges.priced bank.receivers ranges.tuned ranges.few (window.start + window.phase) window fits.not_long

-- the least two keys give the answer
keys_answer : (window : Window) (costs : Costs) (ceiling : ℕ) (first second : Option ℕ) → window.to ≤ century_minutes → AreLeastTwo (IsWindowKey window costs ceiling) first second
    → IsWindowAnswer window costs ceiling (answer_from first second)
keys_answer window costs ceiling first second century =
    answer_is (IsAdmitted (IsLegal window) (sequence_cost costs window) ceiling) (sequence_cost costs window) (λ q is. walkable_sequence window q century is.0.0) first second

-- what words ask of a certificate
pub record IsCertificateInRange (o : CertificateOrder) : Type 0 where
  pub asked : IsAsked o.asked
  pub some_worker : 1 ≤ o.workers
  pub few_workers : o.workers ≤ MOST_PARTS

pub in_range : (words : List (List ℕ)) (o : CertificateOrder) → AsksCertificate words o → IsCertificateInRange o
in_range words o asks =
    let ranges = order_in_range words (Decode o.config o.asked o.workers (Some o.name)) asks in
    record { asked = ranges.1; some_worker = omega (arith, ranges.2.0); few_workers = omega (arith, ranges.2.1) }

same_decode : (c : Checked Order) (o p : CertificateOrder) → c ≡ Ok (Decode o.config o.asked o.workers (Some o.name)) → c ≡ Ok (Decode p.config p.asked p.workers (Some p.name))
    → (o.config ≡ p.config) × (o.asked ≡ p.asked) × (o.workers ≡ p.workers) × (o.name ≡ p.name)
same_decode c o p e f = (cc, cc, cc, cc)

pub one_order : (words : List (List ℕ)) (o p : CertificateOrder) → AsksCertificate words o → AsksCertificate words p → o ≡ p
one_order words o p e f =
    let same = same_decode (order_in words) o p e f in
    λ i. record { config = same.0 i; asked = same.1 i; workers = same.2 i; name = same.3 i }

pub asks_by_name : (words : List (List ℕ)) (o : CertificateOrder) → AsksCertificate words o → certificate_name words ≡ Some o.name
asks_by_name words o e = ap name_asked e

none_some : {A : Type 0} (found : Option A) (x : A) → found ≡ None → found ≡ Some x → ⊥
none_some found x e f = cc

-- who names a file asks for it, or no one does
abbrev Asking : List (List ℕ) → Type 0
Asking words = (certificate_name words ≡ None) ⊎ ((o : CertificateOrder) × AsksCertificate words o)

asking : (words : List (List ℕ)) → Asking words
asking words = go (order_in words) refl
  where
    named : (c : Checked Order) → order_in words ≡ c → name_asked c ≡ None → Asking words
    named c e none = inl (ap name_asked e ∙ none)

    go : (c : Checked Order) → order_in words ≡ c → Asking words
    go (Ok (Decode config asked workers (Some name))) e = inr (record { config = config; asked = asked; workers = workers; name = name }, e)
    go (Ok (Decode config asked workers None)) e = named (Ok (Decode config asked workers None)) e refl
    go (Ok (Check config certificate asked)) e = named (Ok (Check config certificate asked)) e refl
    go (Ok (Feed config asked workers)) e = named (Ok (Feed config asked workers)) e refl
    go (Ok (Encode station minute leap)) e = named (Ok (Encode station minute leap)) e refl
    go (Ok (Trial number workers)) e = named (Ok (Trial number workers)) e refl
    go (Ok (Follow config asked workers step count)) e = named (Ok (Follow config asked workers step count)) e refl
    go (Ok (Sweep config asked workers certificate)) e = named (Ok (Sweep config asked workers certificate)) e refl
    go (Ok (Judge config certificate asked)) e = named (Ok (Judge config certificate asked)) e refl
    go (Ok (Board config queries asked workers step count readers)) e = named (Ok (Board config queries asked workers step count readers)) e refl
    go (Ok (Irig config asked workers)) e = named (Ok (Irig config asked workers)) e refl
    go (Ok (IrigRead file)) e = named (Ok (IrigRead file)) e refl
    go (Err fault) e = named (Err fault) e refl

module _ (contents : Contents) where
  -- of one bank one certificate is owed
  abbrev IsOwedBy : CertificateOrder → PlainConfig → List Records → Certificate → Type 0
  IsOwedBy o config records c = IsBankCertificate (window_of o.asked (bank_of config records).receivers) (bank_of config records) o.workers c

  pub same_owed : (words : List (List ℕ)) (o p : CertificateOrder) (config other : PlainConfig) (records others : List Records) (c : Certificate) → AsksCertificate words o
      → AsksCertificate words p → IsBankLoaded contents config records → IsBankLoaded contents other others → IsOwedBy o config records c → IsOwedBy p other others c
  same_owed words o p config other records others c asks also loaded too owed =
      subst (λ (r : CertificateOrder). IsOwedBy r other others c) (one_order words o p asks also)
      (subst (λ (b : Bank). IsBankCertificate (window_of o.asked b.receivers) b o.workers c) (one_bank contents config other records others loaded too) owed)

  one_text : (words : List (List ℕ)) (o p : CertificateOrder) (config other : PlainConfig) (records others : List Records) (c d : Certificate) (a b : Option Certificate)
      → AsksCertificate words o → AsksCertificate words p → IsBankLoaded contents config records → IsBankLoaded contents other others → IsOwedBy o config records c
      → IsOwedBy p other others d → a ≡ Some c → b ≡ Some d → a ≡ b
  one_text words o p config other records others c d a b asks also loaded too owed owed_too e f =
      let bank = bank_of other others in
      let window = window_of p.asked bank.receivers in
      let same = one_certificate (costs_in window bank) window bank.ceiling p.workers c d (same_owed words o p config other records others c asks also loaded too owed) owed_too in
      e ∙ (ap Some same ∙ sym f)

  pub one_owed : (words : List (List ℕ)) (a b : Option Certificate) → IsCertificateDue words contents a → IsCertificateDue words contents b → a ≡ b
  one_owed words a b (Not_asked none e) (Not_asked also f) = e ∙ sym f
  one_owed words a b (Not_asked none e) (Not_loaded o asks refusal bad f) = absurd (none_some (certificate_name words) o.name none (asks_by_name words o asks))
  one_owed words a b (Not_asked none e) (Written o asks config records loaded c owed f) = absurd (none_some (certificate_name words) o.name none (asks_by_name words o asks))
  one_owed words a b (Not_loaded o asks refusal bad e) (Not_asked none f) = absurd (none_some (certificate_name words) o.name none (asks_by_name words o asks))
  one_owed words a b (Not_loaded o asks refusal bad e) (Not_loaded p also other worse f) = e ∙ sym f
  one_owed words a b (Not_loaded o asks refusal bad e) (Written p also config records loaded c owed f) = absurd (not_both contents config records refusal loaded bad)
  one_owed words a b (Written o asks config records loaded c owed e) (Not_asked none f) = absurd (none_some (certificate_name words) o.name none (asks_by_name words o asks))
  one_owed words a b (Written o asks config records loaded c owed e) (Not_loaded p also refusal bad f) = absurd (not_both contents config records refusal loaded bad)
  one_owed words a b (Written o asks config records loaded c owed e) (Written p also other others too d owed_too f) =
      one_text words o p config other records others c d a b asks also loaded too owed owed_too e f

  -- the one that is due of a bank is owed for it
  pub is_owed : (words : List (List ℕ)) (o : CertificateOrder) (config : PlainConfig) (records : List Records) (c : Certificate) → AsksCertificate words o
      → IsBankLoaded contents config records → IsCertificateDue words contents (Some c) → IsOwedBy o config records c
  is_owed words o config records c asks loaded (Not_asked none e) = absurd cc
  is_owed words o config records c asks loaded (Not_loaded p also refusal bad e) = absurd cc
  is_owed words o config records c asks loaded (Written p also other others too d owed e) =
      same_owed words p o other config others records c also asks too loaded (subst (IsOwedBy p other others) (some_same d c (sym e)) owed)
    where
      some_same : (x y : Certificate) → Some x ≡ Some y → x ≡ y
      some_same x y f = cc

  -- something is due
  module _ (facts : (costs : Costs) (window : Window) (ceiling : ℕ) → window.to ≤ century_minutes → Facts costs window ceiling) where
    of_order : (words : List (List ℕ)) (o : CertificateOrder) → AsksCertificate words o → (owed : Option Certificate) × IsCertificateDue words contents owed
    of_order words o asks = go (bank_judged contents)
      where
        go : IsBankJudged contents → (owed : Option Certificate) × IsCertificateDue words contents owed
        go (inr bad) = (None, Not_loaded o asks bad.0 bad.1 refl)
        go (inl good) =
            let bank = bank_of good.0 good.1 in
            let window = window_of o.asked bank.receivers in
            let fits = window_in_range contents good.0 good.1 good.2 o.asked (in_range words o asks).asked in
            let found = some_certificate (costs_in window bank) window bank.ceiling o.workers (facts (costs_in window bank) window 0 fits.century)
            (small_bounds window bank fits (bank_in_range contents good.0 good.1 good.2)) in
            (Some found.0, Written o asks good.0 good.1 good.2 found.0 found.1 refl)

    pub some_owed : (words : List (List ℕ)) → (owed : Option Certificate) × IsCertificateDue words contents owed
    some_owed words = go (asking words)
      where
        go : Asking words → (owed : Option Certificate) × IsCertificateDue words contents owed
        go (inl none) = (None, Not_asked none refl)
        go (inr asks) = of_order words asks.0 asks.1

    -- what holds of a certificate that is due of a bank
    module _ (words : List (List ℕ)) (o : CertificateOrder) (config : PlainConfig) (records : List Records) (c : Certificate) (asks : AsksCertificate words o)
        (loaded : IsBankLoaded contents config records) (due : IsCertificateDue words contents (Some c)) where
      abbrev bank : Bank
      bank = bank_of config records

      abbrev window : Window
      window = window_of o.asked bank.receivers

      abbrev costs : Costs
      costs = costs_in window bank

      owed : IsBankCertificate window bank o.workers c
      owed = is_owed words o config records c asks loaded due

      asked : IsCertificateInRange o
      asked = in_range words o asks

      fits : IsWindow window
      fits = window_in_range contents config records loaded o.asked asked.asked

      low : config.ceiling ≤ GREATEST_COST
      low = (bank_in_range contents config records loaded).ceiling

      all_facts : (n : ℕ) → Facts costs window n
      all_facts n = facts costs window n fits.century

      pub valid_owed : IsValid costs window config.ceiling c
      valid_owed = is_valid costs window config.ceiling o.workers all_facts fits low asked.some_worker asked.few_workers c owed

      pub certified_owed : ((costs : Costs) (window : Window) (ceiling : ℕ) (bytes : List ℕ) (first second : Option ℕ) → IsGoodCertificate costs window ceiling bytes first second
          → IsWindowAnswer window costs ceiling (answer_from first second)) → length (lines_of c) ≤ MOST_STEPS → (answer : Answer) → IsBankAnswer window bank answer
          → IsChecked window bank (certificate_text c) (certified window bank answer)
      certified_owed gives few answer is =
          tells_answer window bank (certificate_text c) (gives costs window config.ceiling (certificate_text c)) fits.century c.head.first c.head.second
          (is_good costs window config.ceiling o.workers all_facts fits low asked.some_worker asked.few_workers c owed few) answer is

      -- the keys that it names give the answer
      named_answer : (answer : Answer) → IsBankAnswer window bank answer → answer_from c.head.first c.head.second ≡ answer
      named_answer answer is =
          window_answer_is_one window costs config.ceiling (answer_from c.head.first c.head.second) answer fits.century
          (keys_answer window costs config.ceiling c.head.first c.head.second fits.century
          (named costs window config.ceiling o.workers all_facts fits low asked.some_worker asked.few_workers c owed)) is

      pub not_cheaper_owed : (answer : Answer) → IsBankAnswer window bank answer → (l : Line) (n : ℕ) → Contains (lines_of c) l → l.kind ≡ Pruned → l.bound ≡ Some n
          → IsNotCheaper config.ceiling n answer
      not_cheaper_owed answer is l n has kind bound =
          subst (IsNotCheaper config.ceiling n) (named_answer answer is)
          (not_cheaper costs window config.ceiling o.workers all_facts fits low asked.some_worker asked.few_workers c owed l n has kind bound)

      pub keeps_owed : (front back : List Line) (l : Line) → lines_of c ≡ front ++ l ∷ back → KeepsTo (two_least (leaf_keys front)).second l.kind l.block l.bound
      keeps_owed = keeps costs window config.ceiling o.workers all_facts fits low asked.some_worker asked.few_workers c owed

  pub parts_are : (words : List (List ℕ)) (o : CertificateOrder) (config : PlainConfig) (records : List Records) (c : Certificate) → AsksCertificate words o
      → IsBankLoaded contents config records → IsCertificateDue words contents (Some c) → c.parts ≡ parts_for o.workers (lines_of c)
  parts_are words o config records c asks loaded due =
      let owed = is_owed words o config records c asks loaded due in
      let lines : lines_of c ≡ owed.lines = ap lines_of owed.is ∙ lines_are o.workers owed.lines in
      ap (λ (d : Certificate). d.parts) owed.is ∙ ap (parts_for o.workers) (sym lines)
