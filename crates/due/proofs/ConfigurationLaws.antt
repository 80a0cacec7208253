-- A text is a configuration, or it is refused, in one way.
use Rattle.std.proofs.Common.{◌≡◌, ℕ, ◌<◌, ◌≤◌, ◌⊎◌, inl, inr, List, length, Some, Ok, Err, refl, sym, ◌∙◌, arith}
use Rattle.std.proofs.lemmas.Bool.{cases_lt}
use Rattle.formats.specs.declared.refusal.Refusal.{Refusal}
use Rattle.formats.specs.declared.refusal.Refusal.TheVariants.{ConfigTooLarge}
use Rattle.bank_config.specs.declared.limits.TheConstants.{CONFIG_LIMIT}
use Rattle.bank_config.specs.declared.fault.ConfigFault.{ConfigFault}
use Rattle.bank_config.specs.Checked.{Checked}
use Rattle.bank_config.specs.Configuration.{PlainConfig, configuration_of}
use Rattle.bank_config.specs.declared.fault.ConfigFault.TheVariants.{NotToml, Missing, WrongKind, OutOfRange, UnknownKey, NoMemory}
use Rattle.bank_config.proofs.FaultLaws.{IsOfText, fault_of_text}
use Rattle.due.specs.Configurations.{IsConfiguration, IsBadConfiguration, Too_large, Bad_key, fault_refusal}

same_ok : (c : Checked PlainConfig) (a b : PlainConfig) → c ≡ Ok a → c ≡ Ok b → a ≡ b
same_ok c a b e f = cc

same_refusal : (c : Checked PlainConfig) (a b : ConfigFault) (r s : Refusal) → c ≡ Err a → c ≡ Err b → fault_refusal a ≡ Some r → fault_refusal b ≡ Some s → r ≡ s
same_refusal c a b r s e f g h = cc

ok_or_err : (c : Checked PlainConfig) (a : PlainConfig) (fault : ConfigFault) → c ≡ Ok a → c ≡ Err fault → ⊥
ok_or_err c a fault e f = cc

pub one_configuration : (bytes : List ℕ) (a b : PlainConfig) → IsConfiguration bytes a → IsConfiguration bytes b → a ≡ b
one_configuration bytes a b h k = same_ok (configuration_of bytes) a b h.says k.says

pub one_refusal : (bytes : List ℕ) (r s : Refusal) → IsBadConfiguration bytes r → IsBadConfiguration bytes s → r ≡ s
one_refusal bytes r s (Too_large large e) (Too_large also f) = e ∙ sym f
one_refusal bytes r s (Too_large large e) (Bad_key fits fault is f) = absurd (omega (arith, large, fits))
one_refusal bytes r s (Bad_key fits fault is e) (Too_large large f) = absurd (omega (arith, large, fits))
one_refusal bytes r s (Bad_key fits a is e) (Bad_key also b too f) = same_refusal (configuration_of bytes) a b r s is too e f

pub not_both : (bytes : List ℕ) (config : PlainConfig) (refusal : Refusal) → IsConfiguration bytes config → IsBadConfiguration bytes refusal → ⊥
not_both bytes config refusal h (Too_large large e) = omega (arith, large, h.fits)
not_both bytes config refusal h (Bad_key fits fault is e) = ok_or_err (configuration_of bytes) config fault h.says is

abbrev pub HasOutcome : List ℕ → Type 0
HasOutcome bytes = ((config : PlainConfig) × IsConfiguration bytes config) ⊎ ((refusal : Refusal) × IsBadConfiguration bytes refusal)

pub text_has_outcome : (bytes : List ℕ) → HasOutcome bytes
text_has_outcome bytes = by_size (cases_lt CONFIG_LIMIT (length bytes))
  where
    refused : length bytes ≤ CONFIG_LIMIT → (fault : ConfigFault) → configuration_of bytes ≡ Err fault → IsOfText fault → (refusal : Refusal) × IsBadConfiguration bytes refusal
    refused fits NotToml is of_text = (_, Bad_key fits NotToml is refl)
    refused fits (Missing k) is of_text = (_, Bad_key fits (Missing k) is refl)
    refused fits (WrongKind k) is of_text = (_, Bad_key fits (WrongKind k) is refl)
    refused fits (OutOfRange k) is of_text = (_, Bad_key fits (OutOfRange k) is refl)
    refused fits UnknownKey is of_text = (_, Bad_key fits UnknownKey is refl)
    refused fits NoMemory is of_text = absurd of_text

    by_keys : length bytes ≤ CONFIG_LIMIT → (c : Checked PlainConfig) → configuration_of bytes ≡ c → HasOutcome bytes
    by_keys fits (Ok config) is = inl (config, record { fits = fits; says = is })
    by_keys fits (Err fault) is = inr (refused fits fault is (fault_of_text bytes fault is))

    by_size : (CONFIG_LIMIT < length bytes) ⊎ (length bytes ≤ CONFIG_LIMIT) → HasOutcome bytes
    by_size (inl large) = inr (ConfigTooLarge, Too_large large refl)
    by_size (inr fits) = by_keys fits (configuration_of bytes) refl
