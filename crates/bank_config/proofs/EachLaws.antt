-- Values that are read one after the other, as a loop reads them.
use Rattle.std.proofs.Common.{ℕ, ◌≡◌, ◌+◌, ◌<◌, List, [], ◌∷◌, ◌++◌, length, map, drop, get_or, Ok, Err, refl, sym, ap, ◌∙◌, append_assoc, append-nil}
use Rattle.std.proofs.lemmas.List.{drop_more}
use Rattle.toml.specs.declared.value.Value.{Value}
use Rattle.toml.specs.Data.{Data}
use Rattle.toml.specs.View.{view}
use Rattle.bank_config.specs.declared.fault.ConfigFault.{ConfigFault}
use Rattle.bank_config.specs.Checked.{Checked, ◌>>=◌}
use Rattle.bank_config.specs.Values.{each}

-- these values, and then the rest, if it is fine
abbrev pub goes_on : {A : Type 0} → List A → Checked (List A) → Checked (List A)
goes_on done rest = rest >>= (λ more. Ok (done ++ more))

pub goes_on-from_start : {A : Type 0} (all : Checked (List A)) → all ≡ goes_on [] all
goes_on-from_start (Ok xs) = refl
goes_on-from_start (Err fault) = refl

goes_on-one_more : {A : Type 0} (done : List A) (x : A) (rest : Checked (List A)) → goes_on done (rest >>= (λ more. Ok (x ∷ more))) ≡ goes_on (done ++ x ∷ []) rest
goes_on-one_more done x (Ok more) = ap Ok (sym (append_assoc done (x ∷ []) more))
goes_on-one_more done x (Err fault) = refl

-- Of some values, numbered from the first on, those before place i are read and the one there is next.
module _ {A : Type 0} (read : ℕ → Data → Checked A) (n : ℕ) (all : Checked (List A)) (done : List A) (values : List Value) where
  -- nothing is left
  pub each-end : (i : ℕ) → drop i values ≡ [] → all ≡ goes_on done (each read n (map view (drop i values))) → all ≡ Ok done
  each-end i none so_far = so_far ∙ rw none (ap Ok (append-nil done))

  module _ (i : ℕ) (v : Value) (within : i < length values) (here : v ≡ get_or values i v)
      (so_far : all ≡ goes_on done (each read n (map view (drop i values)))) where
    next : all ≡ goes_on done (each read n (view v ∷ map view (drop (i + 1) values)))
    next = so_far ∙ rw (drop_more values i v within, ← here) refl

    -- it is fine
    pub each-next : (x : A) → read n (view v) ≡ Ok x → all ≡ goes_on (done ++ x ∷ []) (each read (n + 1) (map view (drop (i + 1) values)))
    each-next x fine = next ∙ rw fine (goes_on-one_more done x (each read (n + 1) (map view (drop (i + 1) values))))

    -- it is refused
    pub each-stop : (fault : ConfigFault) → read n (view v) ≡ Err fault → all ≡ Err fault
    each-stop fault refused = next ∙ rw refused refl
