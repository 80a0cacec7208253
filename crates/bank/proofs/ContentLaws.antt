-- Contents are chosen that are what was read.
use Rattle.std.proofs.Common.{◌≡◌, ℕ, ◌+◌, ◌<◌, Bool, true, false, if◌then◌else◌, nat_eq, List, [], ◌∷◌, inl, inr, ⊎_elim, refl, sym, ◌∙◌, subst, arith}
use Rattle.std.proofs.lemmas.Bool.Decides.{nat_tests}
use Rattle.definitions.specs.heard.Logs.{Records}
use Rattle.formats.specs.declared.refusal.Refusal.{Refusal}
use Rattle.bank_files.specs.Told.{Finds, Holds, Missing, Told, Untold}
use Rattle.bank_files.specs.Seen.{ReadFails, Seen}
use Rattle.bank_config.specs.Configuration.{PlainReceiver}
use Rattle.due.specs.Configurations.{logs_from}
use Rattle.due.specs.Inputs.{Certificate, CertificateAt, Configuration, Contents, FramesText, Input, LogOf, QueriesText}
use Rattle.due.specs.LogFiles.{AreGood, IsBad, IsFirstBad, IsGood, IsLogRead, LogFile}
use Rattle.due.proofs.LogFileLaws.{good_not_bad}
use Rattle.bank.specs.Ending.{MayHold}
use Rattle.bank.specs.Loading.{AreRead, FailsAmong, IsRefusedAmong, log_file}

-- the contents with these bytes as the log of receiver n
abbrev pub with_bytes : Contents → ℕ → List ℕ → Contents
with_bytes base n bytes Configuration = base Configuration
with_bytes base n bytes Certificate = base Certificate
with_bytes base n bytes (CertificateAt i) = base (CertificateAt i)
with_bytes base n bytes FramesText = base FramesText
with_bytes base n bytes QueriesText = base QueriesText
with_bytes base n bytes (LogOf k) = if nat_eq k n then bytes else base (LogOf k)

-- the configuration, and the logs of the receivers before n, are the same
abbrev pub IsSameBefore : ℕ → Contents → Contents → Type 0
IsSameBefore n contents base = (contents Configuration ≡ base Configuration) × ((k : ℕ) → k < n → contents (LogOf k) ≡ base (LogOf k))

chosen : {X : Type 0} (b : Bool) (x y : X) → b ≡ true → (if b then x else y) ≡ x
chosen true x y e = refl
chosen false x y e = cc

other : {X : Type 0} (b : Bool) (x y : X) → b ≡ false → (if b then x else y) ≡ y
other true x y e = cc
other false x y e = refl

at_itself : (base : Contents) (n : ℕ) (bytes : List ℕ) → with_bytes base n bytes (LogOf n) ≡ bytes
at_itself base n bytes = chosen (nat_eq n n) bytes (base (LogOf n)) (grind (arith, nat_tests))

elsewhere : (base : Contents) (n : ℕ) (bytes : List ℕ) (k : ℕ) → k < n → with_bytes base n bytes (LogOf k) ≡ base (LogOf k)
elsewhere base n bytes k below = other (nat_eq k n) bytes (base (LogOf k)) (grind (arith, nat_tests))

-- the bytes of a file that is told, else none
abbrev pub told_bytes : Told → List ℕ
told_bytes Untold = []
told_bytes Missing = []
told_bytes (Holds bytes) = bytes

pub told_may_hold : (t : Told) → MayHold t (told_bytes t)
told_may_hold Untold = tt
told_may_hold Missing = tt
told_may_hold (Holds bytes) = refl

pub found_may_hold : (t : Told) (bytes : List ℕ) → Finds t (λ held. bytes ≡ held) → MayHold t bytes
found_may_hold Untold bytes found = tt
found_may_hold Missing bytes found = tt
found_may_hold (Holds held) bytes found = found

pub found_same : (t : Told) (a b : List ℕ) → a ≡ b → Finds t (λ held. b ≡ held) → Finds t (λ held. a ≡ held)
found_same t a b e found = subst (λ (x : List ℕ). Finds t (λ held. x ≡ held)) (sym e) found

-- The logs that are read for some contents agree with what is told of their files, or may be so.
abbrev pub LogsAgree : Seen → Contents → List LogFile → Type 0
LogsAgree old contents logs =
    (input : Input) (file : List ℕ) → IsLogRead contents logs input file → Finds (old.told file) (λ bytes. contents input ≡ bytes)

abbrev pub LogsMayBeRead : Seen → Contents → List LogFile → Type 0
LogsMayBeRead old contents logs =
    (input : Input) (file : List ℕ) → IsLogRead contents logs input file → MayHold (old.told file) (contents input)

module _ (old : Seen) where
  agree_more : (contents : Contents) (n : ℕ) (r : PlainReceiver) (rs : List PlainReceiver) → Finds (old.told r.file) (λ held. contents (LogOf n) ≡ held)
      → LogsAgree old contents (logs_from (n + 1) rs) → LogsAgree old contents (logs_from n (r ∷ rs))
  agree_more contents n r rs found rest input file read =
      ⊎_elim (λ here. subst (λ (k : Input). Finds (old.told file) (λ held. contents k ≡ held)) (sym here.0)
      (subst (λ (f : List ℕ). Finds (old.told f) (λ held. contents (LogOf n) ≡ held)) (sym here.1) found))
      (λ later. rest input file later.2) read

  may_more : (contents : Contents) (n : ℕ) (r : PlainReceiver) (rs : List PlainReceiver) → MayHold (old.told r.file) (contents (LogOf n))
      → LogsMayBeRead old contents (logs_from (n + 1) rs) → LogsMayBeRead old contents (logs_from n (r ∷ rs))
  may_more contents n r rs may rest input file read =
      ⊎_elim (λ here. subst (λ (k : Input). MayHold (old.told file) (contents k)) (sym here.0)
      (subst (λ (f : List ℕ). MayHold (old.told f) (contents (LogOf n))) (sym here.1) may))
      (λ later. rest input file later.2) read

  -- Contents that are as given below the receivers' numbers, and hold what was read behind.
  pub good_contents : (n : ℕ) (rs : List PlainReceiver) (logs : List Records) (base : Contents) → AreRead old rs logs
      → (contents : Contents) × IsSameBefore n contents base × AreGood contents (logs_from n rs) logs × LogsAgree old contents (logs_from n rs)
  good_contents n [] logs base are = (base, (refl, λ k h. refl), are, λ input file none. absurd none)
  good_contents n (r ∷ rs) [] base are = absurd are
  good_contents n (r ∷ rs) (log ∷ logs) base are =
      let bytes = are.0.0 in
      let rest = good_contents (n + 1) rs logs (with_bytes base n bytes) are.1 in
      let here : rest.0 (LogOf n) ≡ bytes = rest.1.1 n (omega arith) ∙ at_itself base n bytes in (
        rest.0,
        (rest.1.0, λ k h. rest.1.1 k (omega arith) ∙ elsewhere base n bytes k h),
        (subst (λ (b : List ℕ). IsGood b log) (sym here) are.0.2, rest.2),
        agree_more rest.0 n r rs (found_same (old.told r.file) (rest.0 (LogOf n)) bytes here are.0.1) rest.3,
      )

  pub refused_contents : (n : ℕ) (rs : List PlainReceiver) (refusal : Refusal) (base : Contents) → IsRefusedAmong old n rs refusal
      → (contents : Contents) × IsSameBefore n contents base × IsFirstBad contents (logs_from n rs) refusal × LogsAgree old contents (logs_from n rs)
  refused_contents n [] refusal base is = absurd is
  refused_contents n (r ∷ rs) refusal base (inl found) =
      let bytes = found.0 in
      let contents = with_bytes base n bytes in
      let here : contents (LogOf n) ≡ bytes = at_itself base n bytes in
      let bad : IsBad (log_file n r) (contents (LogOf n)) refusal = subst (λ (b : List ℕ). IsBad (log_file n r) b refusal) (sym here) found.2 in (
        contents,
        (refl, λ k h. elsewhere base n bytes k h),
        inl bad,
        λ input file read.
            ⊎_elim (λ at. subst (λ (k : Input). Finds (old.told file) (λ held. contents k ≡ held)) (sym at.0)
            (subst (λ (f : List ℕ). Finds (old.told f) (λ held. contents (LogOf n) ≡ held)) (sym at.1) (found_same (old.told r.file) (contents (LogOf n)) bytes here found.1)))
            (λ later. absurd (good_not_bad (log_file n r) (contents (LogOf n)) later.0 refusal later.1 bad)) read,
      )
  refused_contents n (r ∷ rs) refusal base (inr more) =
      let bytes = more.1.0 in
      let rest = refused_contents (n + 1) rs refusal (with_bytes base n bytes) more.2 in
      let here : rest.0 (LogOf n) ≡ bytes = rest.1.1 n (omega arith) ∙ at_itself base n bytes in (
        rest.0,
        (rest.1.0, λ k h. rest.1.1 k (omega arith) ∙ elsewhere base n bytes k h),
        inr (more.0, subst (λ (b : List ℕ). IsGood b more.0) (sym here) more.1.2, rest.2),
        agree_more rest.0 n r rs (found_same (old.told r.file) (rest.0 (LogOf n)) bytes here more.1.1) rest.3,
      )

  pub may_contents : (n : ℕ) (rs : List PlainReceiver) (base : Contents)
      → (contents : Contents) × IsSameBefore n contents base × LogsMayBeRead old contents (logs_from n rs)
  may_contents n [] base = (base, (refl, λ k h. refl), λ input file none. absurd none)
  may_contents n (r ∷ rs) base =
      let bytes = told_bytes (old.told r.file) in
      let rest = may_contents (n + 1) rs (with_bytes base n bytes) in
      let here : rest.0 (LogOf n) ≡ bytes = rest.1.1 n (omega arith) ∙ at_itself base n bytes in (
        rest.0,
        (rest.1.0, λ k h. rest.1.1 k (omega arith) ∙ elsewhere base n bytes k h),
        may_more rest.0 n r rs (subst (λ (b : List ℕ). MayHold (old.told r.file) b) (sym here) (told_may_hold (old.told r.file))) rest.2,
      )

  pub failing_contents : (new : Seen) (n : ℕ) (rs : List PlainReceiver) (base : Contents) → FailsAmong old new rs
      → (contents : Contents) × IsSameBefore n contents base × (input : Input) × (file : List ℕ)
      × IsLogRead contents (logs_from n rs) input file × ReadFails file old new × LogsMayBeRead old contents (logs_from n rs)
  failing_contents new n [] base fails = absurd fails
  failing_contents new n (r ∷ rs) base (inl fails) =
      let all = may_contents n (r ∷ rs) base in
      (all.0, all.1, LogOf n, r.file, inl (refl, refl), fails, all.2)
  failing_contents new n (r ∷ rs) base (inr more) =
      let bytes = more.1.0 in
      let rest = failing_contents new (n + 1) rs (with_bytes base n bytes) more.2 in
      let here : rest.0 (LogOf n) ≡ bytes = rest.1.1 n (omega arith) ∙ at_itself base n bytes in (
        rest.0,
        (rest.1.0, λ k h. rest.1.1 k (omega arith) ∙ elsewhere base n bytes k h),
        rest.2,
        rest.3,
        inr (more.0, subst (λ (b : List ℕ). IsGood b more.0) (sym here) more.1.2, rest.4),
        rest.5,
        may_more rest.0 n r rs (subst (λ (b : List ℕ). MayHold (old.told r.file) b) (sym here) (found_may_hold (old.told r.file) bytes more.1.1)) rest.6,
      )
