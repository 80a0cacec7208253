-- The logs of receivers, read one after the other.
use Rattle.std.proofs.Common.{◌≡◌, ℕ, suc, ◌+◌, ◌<◌, List, [], ◌∷◌, ◌++◌, length, take, drop, get_or, map, string_bytes, inl, inr, refl, sym, ap, ◌∙◌, subst, arith}
use Rattle.std.proofs.Math.Seq.{drop-cons}
use Rattle.std.proofs.lemmas.List.{length-take, map-append, take-append-drop, take_more}
use Rattle.definitions.specs.heard.Logs.{Records}
use Rattle.formats.specs.declared.refusal.Refusal.{Refusal}
use Rattle.bank_files.specs.Told.{Finds, Told}
use Rattle.bank_files.specs.Fault.{HasFault}
use Rattle.bank_files.specs.Seen.{ReadFails, SameCounts, Seen}
use Rattle.bank_config.specs.declared.config.Receiver.{Receiver}
use Rattle.bank_config.specs.Configuration.{PlainReceiver, plain_receiver}
use Rattle.due.specs.LogFiles.{IsBad, IsGood}
use Rattle.bank.specs.declared.loading.Unloaded.{Unloaded}
use Rattle.bank.specs.declared.loading.Unloaded.TheVariants.{Failed, NoMemory, Refused}
use Rattle.bank.specs.Loading.{AreNotRead, AreRead, FailsAmong, IsNotRead, IsReadAs, IsRefusedAmong, log_file}
use Rattle.bank.proofs.LoadLaws.{same_counts}

-- one more good log
pub good_more : (old : Seen) (rs : List PlainReceiver) (logs : List Records) (r : PlainReceiver) (log : Records) → AreRead old rs logs
    → IsReadAs old r.file (λ bytes. IsGood bytes log) → AreRead old (rs ++ r ∷ []) (logs ++ log ∷ [])
good_more old [] [] r log are is = (is, refl)
good_more old [] (l ∷ logs) r log are is = absurd (let no : (l ∷ logs) ≡ [] = are in cc)
good_more old (s ∷ rs) [] r log are is = absurd are
good_more old (s ∷ rs) (l ∷ logs) r log are is = (are.0, good_more old rs logs r log are.1 is)

-- a bad log behind good ones is the first bad one
pub bad_behind : (old : Seen) (n : ℕ) (rs more : List PlainReceiver) (logs : List Records) (r : PlainReceiver) (refusal : Refusal) → AreRead old rs logs
    → IsReadAs old r.file (λ bytes. IsBad (log_file (n + length rs) r) bytes refusal) → IsRefusedAmong old n (rs ++ r ∷ more) refusal
bad_behind old n [] more logs r refusal are is = inl (subst (λ (k : ℕ). IsReadAs old r.file (λ bytes. IsBad (log_file k r) bytes refusal)) (let e : n + 0 ≡ n = omega arith in e) is)
bad_behind old n (s ∷ rs) more [] r refusal are is = absurd are
bad_behind old n (s ∷ rs) more (l ∷ logs) r refusal are is =
    inr (
      l,
      are.0,
      bad_behind old (n + 1) rs more logs r refusal are.1
          (subst (λ (k : ℕ). IsReadAs old r.file (λ bytes. IsBad (log_file k r) bytes refusal)) (let e : n + length (s ∷ rs) ≡ n + 1 + length rs = omega arith in e) is),
    )

-- a log that fails behind good ones
pub fails_behind : (old new : Seen) (rs more : List PlainReceiver) (logs : List Records) (r : PlainReceiver) → AreRead old rs logs
    → ReadFails r.file old new → FailsAmong old new (rs ++ r ∷ more)
fails_behind old new [] more logs r are fails = inl fails
fails_behind old new (s ∷ rs) more [] r are fails = absurd are
fails_behind old new (s ∷ rs) more (l ∷ logs) r are fails = inr (l, are.0, fails_behind old new rs more logs r are.1 fails)

-- the i-th of a list, between those before it and those behind it
pub split_at : {X Y : Type 0} (f : X → Y) (xs : List X) (i : ℕ) (x : X) → i < length xs → x ≡ get_or xs i x → map f xs ≡ map f (take i xs) ++ f x ∷ map f (drop (suc i) xs)
split_at f xs i x below at =
    ap (map f) (sym (take-append-drop i xs)) ∙ map-append f (take i xs) (drop i xs)
    ∙ ap (λ ys. map f (take i xs) ++ map f ys) (drop-cons xs i x below ∙ ap (λ y. y ∷ drop (suc i) xs) (sym at))

pub one_more : {X Y : Type 0} (f : X → Y) (xs : List X) (i : ℕ) (x : X) → i < length xs → x ≡ get_or xs i x → map f (take (i + 1) xs) ≡ map f (take i xs) ++ f x ∷ []
one_more f xs i x below at =
    ap (map f) (take_more xs i x below) ∙ map-append f (take i xs) (get_or xs i x ∷ []) ∙ ap (λ y. map f (take i xs) ++ f y ∷ []) (sym at)

pub length_map : {X Y : Type 0} (f : X → Y) (xs : List X) → length (map f xs) ≡ length xs
length_map f [] = refl
length_map f (x ∷ xs) = ap suc (length_map f xs)

module _ (old mid : Seen) (xs : List Receiver) (i : ℕ) (r : Receiver) (below : i < length xs) (at : r ≡ get_or xs i r)
    (same : mid.told ≡ old.told) (counts : SameCounts old mid) (logs : List Records) (are : AreRead old (map plain_receiver (take i xs)) logs) where
  as_before : (P : List ℕ → Type 0) → IsReadAs mid (string_bytes r.file) P → IsReadAs old (string_bytes r.file) P
  as_before P is = (is.0, subst (λ (told : List ℕ → Told). Finds (told (string_bytes r.file)) (λ held. is.0 ≡ held)) same is.1, is.2)

  -- the next log is good
  pub next_good : (log : Records) → IsReadAs mid (string_bytes r.file) (λ bytes. IsGood bytes log) → AreRead old (map plain_receiver (take (i + 1) xs)) (logs ++ log ∷ [])
  next_good log is =
      subst (λ (rs : List PlainReceiver). AreRead old rs (logs ++ log ∷ [])) (sym (one_more plain_receiver xs i r below at))
      (good_more old (map plain_receiver (take i xs)) logs (plain_receiver r) log are (as_before (λ bytes. IsGood bytes log) is))

  -- or it isn't read
  pub next_not_read : (new : Seen) (number : ℕ) (why : Unloaded) → number ≡ i + 1
      → IsNotRead mid new (string_bytes r.file) (IsBad (log_file number (plain_receiver r))) why → AreNotRead old new 1 (map plain_receiver xs) why
  next_not_read new number (Refused refusal) e is =
      let place : number ≡ 1 + length (map plain_receiver (take i xs)) =
      omega (arith, e, length_map plain_receiver (take i xs), length-take i xs) in (
        subst (λ (rs : List PlainReceiver). IsRefusedAmong old 1 rs refusal) (sym (split_at plain_receiver xs i r below at))
            (bad_behind old 1 (map plain_receiver (take i xs)) (map plain_receiver (drop (suc i) xs)) logs (plain_receiver r) refusal are
            (as_before (λ bytes. IsBad (log_file (1 + length (map plain_receiver (take i xs))) (plain_receiver r)) bytes refusal)
            (subst (λ (n : ℕ). IsReadAs mid (string_bytes r.file) (λ bytes. IsBad (log_file n (plain_receiver r)) bytes refusal)) place is.0))),
        same_counts old mid new counts is.1,
      )
  next_not_read new number Failed e is =
      subst (λ (rs : List PlainReceiver). FailsAmong old new rs) (sym (split_at plain_receiver xs i r below at))
      (fails_behind old new (map plain_receiver (take i xs)) (map plain_receiver (drop (suc i) xs)) logs (plain_receiver r) are
      (subst (λ (c : List ℕ → ℕ). HasFault (c (string_bytes r.file)) (new.read_faults (string_bytes r.file))) counts.of_reads is))
  next_not_read new number NoMemory e is = same_counts old mid new counts is
