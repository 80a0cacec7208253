-- What is counted over a call on files in memory: `a` is before it, `b` after it was counted, and `d` after what it did.
use Rattle.std.proofs.Common.{◌≡◌, ◌≤◌, ◌⊎◌, ◌↔◌, ℕ, Bool, true, false, nat_eq, List, get_or, refl, sym, ◌∙◌, ap, inl, inr, ⊎_elim, arith}
use Rattle.std.proofs.lemmas.Bool.{false≢true, eqb-true, eq-eqb}
use Rattle.std.proofs.lemmas.List.Folds.{list_any_at}
use Rattle.std.proofs.lemmas.Map.Views.{Contains-from_any}
use Rattle.std.specs.List.{Contains, list_any}
use Rattle.bank_files.specs.declared.memory.MemoryFiles.{MemoryFiles}
use Rattle.bank_files.specs.Fault.{greatest, raised}
use Rattle.bank_files.specs.Memory.{failing_calls, calls_made, faults_of, starved_of, next_call, IsListed, IsGivenUp, CountsCall, StarvesOnce, SameTally}

-- the call is refused: it is on the list, or the count of those without memory stands at its greatest
abbrev pub IsRefused : MemoryFiles → Type 0
IsRefused a = IsListed a ⊎ (starved_of a ≡ greatest)

-- a call that isn't refused
allowed : (r : Bool) (a : MemoryFiles) → (r ≡ true ↔ IsRefused a) → r ≡ false → IsRefused a → ⊥
allowed r a refused is h = false≢true (sym is ∙ refused.1 h)

-- a call that is refused is given up
pub refused_is : (r : Bool) (a d : MemoryFiles) → (r ≡ true ↔ IsRefused a) → r ≡ true → starved_of d ≡ starved_of a → (true ≡ true → IsGivenUp a d) × (IsGivenUp a d → true ≡ true)
refused_is r a d refused is same = (λ here. ⊎_elim (λ listed. inl listed) (λ full. inr (inr (same ∙ full))) (refused.0 is), λ given. refl)

-- a call that did what it was asked isn't given up
pub done_is : (r : Bool) (a d : MemoryFiles) → (r ≡ true ↔ IsRefused a) → r ≡ false → starved_of d ≡ starved_of a → (false ≡ true → IsGivenUp a d) × (IsGivenUp a d → false ≡ true)
done_is r a d refused is same = (
  λ never. absurd (false≢true never),
  λ given. absurd (⊎_elim (λ listed. allowed r a refused is (inl listed)) (λ more. ⊎_elim (λ rose. omega arith) (λ full. allowed r a refused is (inr (sym same ∙ full))) more) given),
)

-- a call without memory, which isn't on the list
pub starves_once : (r : Bool) (a d : MemoryFiles) → (r ≡ true ↔ IsRefused a) → r ≡ false → starved_of d ≡ raised (starved_of a) → StarvesOnce a d
starves_once r a d refused is more = inr (more, λ listed. allowed r a refused is (inl listed))

-- what is counted of a call that is refused
pub refused_counts : (a b d : MemoryFiles) → b ≡ record a { calls = next_call a } → d ≡ record b { faults = raised (faults_of b) } → faults_of b ≤ faults_of d → CountsCall a d true
refused_counts a b d call fault le =
    let before : faults_of b ≡ faults_of a = ap faults_of call in
    record {
      failing = ap failing_calls fault ∙ ap failing_calls call;
      calls = ap calls_made fault ∙ ap calls_made call;
      faults = ap faults_of fault ∙ ap raised before;
      no_less = omega (arith, before, le);
    }

-- what is counted of a call that did what it was asked
pub done_counts : (a b d : MemoryFiles) → b ≡ record a { calls = next_call a } → failing_calls d ≡ failing_calls b → SameTally b d → CountsCall a d false
done_counts a b d call failing same =
    let as_before : faults_of d ≡ faults_of a = same.faults ∙ ap faults_of call in
    record {
      failing = failing ∙ ap failing_calls call;
      calls = same.calls ∙ ap calls_made call;
      faults = as_before;
      no_less = omega (arith, as_before);
    }

-- what is counted of a call without memory
pub starved_counts : (a b d e : MemoryFiles) → b ≡ record a { calls = next_call a } → failing_calls d ≡ failing_calls b → SameTally b d
    → e ≡ record d { faults = raised (faults_of d); starved = raised (starved_of d) } → faults_of d ≤ faults_of e → CountsCall a e true
starved_counts a b d e call failing same fault le =
    let as_before : faults_of d ≡ faults_of a = same.faults ∙ ap faults_of call in
    record {
      failing = ap failing_calls fault ∙ failing ∙ ap failing_calls call;
      calls = ap calls_made fault ∙ same.calls ∙ ap calls_made call;
      faults = ap faults_of fault ∙ ap raised as_before;
      no_less = omega (arith, as_before, le);
    }

-- a number that is found is on the list, and one that is on it is found
found_listed : (ks : List ℕ) (q : ℕ) → list_any (λ y. nat_eq y q) ks ≡ true → Contains ks q
found_listed ks q h = Contains-from_any {eq = λ a b. nat_eq b a} (λ x y e. sym (eqb-true y x e)) q ks h

listed_found : (ks : List ℕ) (q : ℕ) → Contains ks q → list_any (λ y. nat_eq y q) ks ≡ true
listed_found ks q h = list_any_at (λ y. nat_eq y q) ks h.0 q h.1 (eq-eqb (get_or ks h.0 q) q h.2)

-- whether a number is on the list, told of the same list and the same number
pub listed_is : (ks xs : List ℕ) (q n : ℕ) (r : Bool) → r ≡ list_any (λ y. nat_eq y q) xs → xs ≡ ks → q ≡ n → (r ≡ true → Contains ks n) × (Contains ks n → r ≡ true)
listed_is ks xs q n r is same call =
    let moved : r ≡ list_any (λ y. nat_eq y n) ks = is ∙ ap (λ (l : List ℕ). list_any (λ y. nat_eq y q) l) same ∙ ap (λ (k : ℕ). list_any (λ y. nat_eq y k) ks) call in
    (λ yes. found_listed ks n (sym moved ∙ yes), λ listed. moved ∙ listed_found ks n listed)
