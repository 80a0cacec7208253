use Rattle.std.proofs.Common.{◌≡◌, ◌≢◌, Ok, Err, IfOk, IfErr, sym, subst}
use Rattle.std.proofs.lemmas.Bool.{iff_false}
use Rattle.bank_config.specs.declared.fault.ConfigFault.TheVariants.{NoMemory}
use Rattle.bank_config.specs.Checked.{Checked}
use Rattle.bank_config.specs.Configuration.{PlainConfig, plain_config}
use Rattle.bank_config.proofs.OutcomeLaws.{configuration_of-document, configuration_of-none, GivesOrNoMemory-ok, GivesOrNoMemory-err}
use Rattle.bank_config.proofs.read.read_document.Goals as goal
use Rattle.bank_config.proofs.read.read_document.Goals.{then-is_memory, else-is_memory}

pub returns-in-Ok-clause-read : goal.returns-in-Ok-clause-read
returns-in-Ok-clause-read c =
    subst (λ (due : Checked PlainConfig). IfOk c.config_in.result (λ config. due ≡ Ok (plain_config config)))
    (sym (configuration_of-document c.args.bytes.now c.in-Ok.table c.in-Ok.ensures.ok.0 c.in-Ok.ensures.ok.1))
    (GivesOrNoMemory-ok plain_config _ c.config_in.result c.config_in.ensures.config)

pub returns-in-Ok-clause-refused : goal.returns-in-Ok-clause-refused
returns-in-Ok-clause-refused c =
    subst (λ (due : Checked PlainConfig). IfErr c.config_in.result (λ fault. fault ≢ NoMemory → due ≡ Err fault))
    (sym (configuration_of-document c.args.bytes.now c.in-Ok.table c.in-Ok.ensures.ok.0 c.in-Ok.ensures.ok.1))
    (GivesOrNoMemory-err plain_config _ c.config_in.result c.config_in.ensures.config)

pub returns-after-is_memory-clause-refused : goal.returns-after-is_memory-clause-refused
returns-after-is_memory-clause-refused c =
    elim c.if-is_memory.branch [
      | then-is_memory w ↦ λ other. absurd (other w.result-is)
      | else-is_memory w ↦ λ _. rw w.result-is (configuration_of-none c.args.bytes.now (c.in-Err.ensures.refused (iff_false c.is_memory.ensures w.if-is_memory.false)))
    ]
