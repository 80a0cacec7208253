-- From the document that the reader found to the text's configuration.
use Rattle.std.proofs.Common.{ℕ, ◌≡◌, ◌≢◌, List, Some, None, Result, Ok, Err, IfOk, IfErr, String, Global, BTreeMap, IsUtf8, refl, inl, inr}
use Rattle.std.proofs.lemmas.Bool.{cases_Bool}
use Rattle.std.proofs.lemmas.Str.{IsUtf8-from_is_utf8, is_utf8-from_IsUtf8}
use Rattle.std.specs.Str.{is_utf8}
use Rattle.toml.specs.declared.value.Value.{Value, Table}
use Rattle.toml.specs.Parse.{parse_document}
use Rattle.toml.specs.View.{view, table_view}
use Rattle.toml.proofs.Views.{view-Table}
use Rattle.bank_config.specs.declared.fault.ConfigFault.{ConfigFault}
use Rattle.bank_config.specs.declared.fault.ConfigFault.TheVariants.{NotToml, NoMemory}
use Rattle.bank_config.specs.Checked.{Checked, GivesOrNoMemory}
use Rattle.bank_config.specs.Configuration.{configuration_in, configuration_of}

pub configuration_of-document : (bytes : List ℕ) (m : BTreeMap (String Global) Value) → IsUtf8 bytes → parse_document bytes ≡ Some (table_view m) → configuration_of bytes ≡ configuration_in (view (Table m))
configuration_of-document bytes m text parsed = rw (is_utf8-from_IsUtf8 bytes text, parsed, view-Table m) refl

pub configuration_of-none : (bytes : List ℕ) → (IsUtf8 bytes → parse_document bytes ≡ None) → configuration_of bytes ≡ Err NotToml
configuration_of-none bytes none =
    elim (cases_Bool (is_utf8 bytes)) [
      | inl text ↦ rw (text, none (IsUtf8-from_is_utf8 bytes text)) refl
      | inr other ↦ rw other refl
    ]

module _ {A B : Type 0} (seen : A → B) (due : Checked B) where
  pub GivesOrNoMemory-ok : (r : Result A ConfigFault) → GivesOrNoMemory seen r due → IfOk r (λ x. due ≡ Ok (seen x))
  GivesOrNoMemory-ok (Ok x) h = h
  GivesOrNoMemory-ok (Err fault) h = tt

  pub GivesOrNoMemory-err : (r : Result A ConfigFault) → GivesOrNoMemory seen r due → IfErr r (λ fault. fault ≢ NoMemory → due ≡ Err fault)
  GivesOrNoMemory-err (Ok x) h = tt
  GivesOrNoMemory-err (Err fault) h = h
