-- Records that rise, with one more at the end.
use Rattle.std.proofs.Common.{◌≡◌, ℕ, zero, suc, ◌-◌, ◌<◌, ◌≤◌, ◌⊎◌, inl, inr, [], ◌∷◌, ◌++◌, length, get_or, ap, arith}
use Rattle.std.proofs.lemmas.List.{get_or_append_left, get_or_push, length_push}
use Rattle.std.proofs.lemmas.Bool.{cases_lt}
use Rattle.std.proofs.lemmas.List.Elements.{All-push}
use Rattle.definitions.specs.declared.level.Level.{Level}
use Rattle.definitions.specs.heard.Logs.{Records}
use Rattle.formats.specs.declared.limits.TheConstants.{MOST_RECORDS, TIME_LIMIT}
use Rattle.formats.specs.LogLines.{IsLater}
use Rattle.formats.specs.LogOrder.{IsRising, IsOrderly}

-- what is later than all is later than the last
IsLater-at : (records : Records) (time k : ℕ) (d : ℕ × Level) → length records ≡ suc k → IsLater records time → (get_or records k d).0 < time
IsLater-at [] time k d e later = absurd (omega arith)
IsLater-at (r ∷ []) time zero d e later = later
IsLater-at (r ∷ []) time (suc k) d e later = absurd (omega arith)
IsLater-at (r ∷ s ∷ rs) time zero d e later = absurd (omega arith)
IsLater-at (r ∷ s ∷ rs) time (suc k) d e later = IsLater-at (s ∷ rs) time k d (omega arith) later

-- one more record that is later
IsRising-push : (records : Records) (r : ℕ × Level) → IsRising records → IsLater records r.0 → IsRising (records ++ r ∷ [])
IsRising-push records r rising later = λ i j d h l. go i j d h (cases_lt j (length records)) (omega (arith, length_push records r))
  where
    before : (i : ℕ) (d : ℕ × Level) → i < length records → (get_or records i d).0 < r.0
    before i d h =
        let last : (get_or records (length records - 1) d).0 < r.0 = IsLater-at records r.0 (length records - 1) d (omega arith) later in
        past i d h last (cases_lt i (length records - 1))
      where
        past : (i : ℕ) (d : ℕ × Level) → i < length records → (get_or records (length records - 1) d).0 < r.0 → (i < length records - 1) ⊎ (length records - 1 ≤ i) → (get_or records i d).0 < r.0
        past i d h last (inl below) = omega (arith, rising i (length records - 1) d below (omega arith))
        past i d h last (inr above) = let same : i ≡ length records - 1 = omega arith in omega (arith, ap (λ k. (get_or records k d).0) same)

    go : (i j : ℕ) (d : ℕ × Level) → i < j → (j < length records) ⊎ (length records ≤ j) → j ≤ length records → (get_or (records ++ r ∷ []) i d).0 < (get_or (records ++ r ∷ []) j d).0
    go i j d h (inl inside) l = omega (arith, ap (λ (s : ℕ × Level). s.0) (get_or_append_left records (r ∷ []) d i (omega arith)), ap (λ (s : ℕ × Level). s.0) (get_or_append_left records (r ∷ []) d j inside), rising i j d h inside)
    go i j d h (inr end) l = omega (arith, ap (λ (s : ℕ × Level). s.0) (get_or_append_left records (r ∷ []) d i (omega arith)), ap (λ (s : ℕ × Level). s.0) (get_or_push records r d j (omega arith)), before i d (omega arith))

pub IsOrderly-push : (records : Records) (r : ℕ × Level) → IsOrderly records → r.0 < TIME_LIMIT → IsLater records r.0 → length records < MOST_RECORDS → IsOrderly (records ++ r ∷ [])
IsOrderly-push records r h below later room = record {
  rising = IsRising-push records r h.rising later;
  below = All-push (λ (s : ℕ × Level). s.0 < TIME_LIMIT) records r h.below below;
  most = omega (arith, length_push records r);
}

-- nothing is out of order in no records
pub IsOrderly-nil : IsOrderly []
IsOrderly-nil = record { rising = λ i j d h l. absurd (omega arith); below = λ k d h. absurd (omega arith); most = omega arith }
