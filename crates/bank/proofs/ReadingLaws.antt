-- What is read agrees with what is told of the file.
use Rattle.std.proofs.Common.{◌≡◌, ℕ, ◌+◌, ◌<◌, ◌≤◌, List, length, replicate, Result, Ok, Err, IfErr, refl, subst, arith}
use Rattle.std.proofs.lemmas.List.{length-replicate}
use Rattle.formats.specs.declared.refusal.Refusal.{Refusal}
use Rattle.bank_files.specs.Told.{Told, Untold, Missing, Holds, Finds}
use Rattle.bank_files.specs.Seen.{SameCounts, Seen}
use Rattle.bank.specs.declared.loading.Unloaded.{Unloaded}
use Rattle.bank.specs.declared.loading.Unloaded.TheVariants.{Failed, NoMemory, Refused}
use Rattle.bank.specs.Loading.{IsHalted, IsNotRead}

-- what is told of a file is what was read
pub read_is : (t : Told) (bytes : List ℕ) (limit : ℕ) → Finds t (λ file. (bytes ≡ file) × (length file ≤ limit)) → Finds t (λ file. bytes ≡ file)
read_is Untold bytes limit found = tt
read_is Missing bytes limit found = found
read_is (Holds file) bytes limit found = found.0

-- a file that is larger than this may hold some bytes, which are more
pub large_bytes : (limit : ℕ) (t : Told) → Finds t (λ file. limit < length file)
    → (bytes : List ℕ) × Finds t (λ file. bytes ≡ file) × (limit < length bytes)
large_bytes limit Untold found =
    let long = length-replicate {A = ℕ} (limit + 1) 0 in
    (replicate (limit + 1) 0, tt, omega (arith, long))
large_bytes limit Missing found = absurd found
large_bytes limit (Holds file) found = (file, refl, found)

-- what is refused of the bytes that were read is refused of the file
pub refused_for : {T : Type 0} (old new : Seen) (file bytes slice : List ℕ) (bad : List ℕ → Refusal → Type 0) (r : Result T Unloaded) → slice ≡ bytes
    → Finds (old.told file) (λ held. bytes ≡ held) → SameCounts old new → IfErr r (IsHalted (bad slice)) → IfErr r (IsNotRead old new file bad)
refused_for old new file bytes slice bad (Ok x) same found counts is = tt
refused_for old new file bytes slice bad (Err (Refused refusal)) same found counts is = ((bytes, found, subst (λ (b : List ℕ). bad b refusal) same is), counts)
refused_for old new file bytes slice bad (Err Failed) same found counts is = absurd is
refused_for old new file bytes slice bad (Err NoMemory) same found counts is = counts
