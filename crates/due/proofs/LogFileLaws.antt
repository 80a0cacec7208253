-- Logs that are read are all good, or the first bad one is refused; and only one of these, in one way.
use Rattle.std.proofs.Common.{◌≡◌, ℕ, ◌<◌, ◌≤◌, ◌⊎◌, inl, inr, List, [], ◌∷◌, length, refl, sym, ◌∙◌, arith}
use Rattle.std.proofs.lemmas.Bool.{cases_lt}
use Rattle.definitions.specs.heard.Logs.{Records}
use Rattle.formats.specs.declared.limits.TheConstants.{LOG_LIMIT}
use Rattle.formats.specs.declared.fault.LineFault.{LineFault}
use Rattle.formats.specs.declared.refusal.Refusal.{Refusal}
use Rattle.formats.specs.declared.refusal.Refusal.TheVariants.{LogTooLarge, LogLine}
use Rattle.formats.specs.LogLines.{HasOutcome}
use Rattle.formats.proofs.OutcomeLaws.{text_has_outcome, one_log, one_fault, log_not_refused}
use Rattle.due.specs.Inputs.{Contents, LogOf}
use Rattle.due.specs.LogFiles.{LogFile, IsGood, IsBad, Too_large, Bad_line, AreGood, IsFirstBad}

-- one log
good_once : (bytes : List ℕ) (a b : Records) → IsGood bytes a → IsGood bytes b → a ≡ b
good_once bytes a b h k = one_log bytes a b h.is_log k.is_log

same_line : (log : LogFile) (m n : ℕ) (a b : LineFault) (r s : Refusal) → m ≡ n → a ≡ b
    → r ≡ LogLine log.receiver log.name m a → s ≡ LogLine log.receiver log.name n b → r ≡ s
same_line log m n a b r s e f g h = cc

bad_once : (log : LogFile) (bytes : List ℕ) (r s : Refusal) → IsBad log bytes r → IsBad log bytes s → r ≡ s
bad_once log bytes r s (Too_large large e) (Too_large also f) = e ∙ sym f
bad_once log bytes r s (Too_large large e) (Bad_line fits n b is f) = absurd (omega (arith, large, fits))
bad_once log bytes r s (Bad_line fits m a is e) (Too_large large f) = absurd (omega (arith, large, fits))
bad_once log bytes r s (Bad_line fits m a is e) (Bad_line also n b too f) =
    let same = one_fault bytes m n a b is too in same_line log m n a b r s same.0 same.1 e f

pub good_not_bad : (log : LogFile) (bytes : List ℕ) (records : Records) (refusal : Refusal) → IsGood bytes records → IsBad log bytes refusal → ⊥
good_not_bad log bytes records refusal h (Too_large large e) = omega (arith, large, h.fits)
good_not_bad log bytes records refusal h (Bad_line fits n fault is e) = log_not_refused bytes records n fault h.is_log is

abbrev IsJudged : LogFile → List ℕ → Type 0
IsJudged log bytes = ((records : Records) × IsGood bytes records) ⊎ ((refusal : Refusal) × IsBad log bytes refusal)

judged : (log : LogFile) (bytes : List ℕ) → IsJudged log bytes
judged log bytes = by_size (cases_lt LOG_LIMIT (length bytes))
  where
    by_lines : length bytes ≤ LOG_LIMIT → HasOutcome bytes → IsJudged log bytes
    by_lines fits (inl h) = inl (h.0, record { fits = fits; is_log = h.1 })
    by_lines fits (inr h) = inr (LogLine log.receiver log.name h.0 h.1, Bad_line fits h.0 h.1 h.2 refl)

    by_size : (LOG_LIMIT < length bytes) ⊎ (length bytes ≤ LOG_LIMIT) → IsJudged log bytes
    by_size (inl large) = inr (LogTooLarge log.receiver log.name, Too_large large refl)
    by_size (inr fits) = by_lines fits (text_has_outcome bytes)

module _ (contents : Contents) where
  same_cons : (a b : Records) (xs ys : List Records) → a ≡ b → xs ≡ ys → a ∷ xs ≡ b ∷ ys
  same_cons a b xs ys e f = cc

  -- the same of all
  pub all_good_once : (logs : List LogFile) (a b : List Records) → AreGood contents logs a → AreGood contents logs b → a ≡ b
  all_good_once [] a b h k = h ∙ sym k
  all_good_once (log ∷ logs) [] b h k = absurd h
  all_good_once (log ∷ logs) (a ∷ xs) [] h k = absurd k
  all_good_once (log ∷ logs) (a ∷ xs) (b ∷ ys) h k =
      same_cons a b xs ys (good_once (contents (LogOf log.receiver)) a b h.0 k.0) (all_good_once logs xs ys h.1 k.1)

  pub first_bad_once : (logs : List LogFile) (r s : Refusal) → IsFirstBad contents logs r → IsFirstBad contents logs s → r ≡ s
  first_bad_once [] r s h k = absurd h
  first_bad_once (log ∷ logs) r s (inl h) (inl k) = bad_once log (contents (LogOf log.receiver)) r s h k
  first_bad_once (log ∷ logs) r s (inl h) (inr k) = absurd (good_not_bad log (contents (LogOf log.receiver)) k.0 r k.1 h)
  first_bad_once (log ∷ logs) r s (inr h) (inl k) = absurd (good_not_bad log (contents (LogOf log.receiver)) h.0 s h.1 k)
  first_bad_once (log ∷ logs) r s (inr h) (inr k) = first_bad_once logs r s h.2 k.2

  pub all_good_none_bad : (logs : List LogFile) (all : List Records) (r : Refusal) → AreGood contents logs all → IsFirstBad contents logs r → ⊥
  all_good_none_bad [] all r h k = k
  all_good_none_bad (log ∷ logs) [] r h k = h
  all_good_none_bad (log ∷ logs) (a ∷ xs) r h (inl k) = good_not_bad log (contents (LogOf log.receiver)) a r h.0 k
  all_good_none_bad (log ∷ logs) (a ∷ xs) r h (inr k) = all_good_none_bad logs xs r h.1 k.2

  abbrev pub AreJudged : List LogFile → Type 0
  AreJudged logs = ((all : List Records) × AreGood contents logs all) ⊎ ((refusal : Refusal) × IsFirstBad contents logs refusal)

  pub all_judged : (logs : List LogFile) → AreJudged logs
  all_judged [] = inl ([], refl)
  all_judged (log ∷ logs) = more (judged log (contents (LogOf log.receiver))) (all_judged logs)
    where
      more : IsJudged log (contents (LogOf log.receiver)) → AreJudged logs → AreJudged (log ∷ logs)
      more (inl h) (inl rest) = inl (h.0 ∷ rest.0, (h.1, rest.1))
      more (inl h) (inr bad) = inr (bad.0, inr (h.0, h.1, bad.1))
      more (inr bad) rest = inr (bad.0, inl bad.1)
