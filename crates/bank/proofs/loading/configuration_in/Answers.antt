-- A configuration is refused for its first fault.
use Rattle.std.proofs.Common.{sym, ◌∙◌}
use Rattle.due.specs.Configurations.{Bad_key}
use Rattle.bank.proofs.LoadLaws.{is_of_text}
use Rattle.bank.proofs.loading.configuration_in.Goals as goal

pub returns-in-Some-clause-refused : goal.returns-in-Some-clause-refused
returns-in-Some-clause-refused c =
    let line = sym c.fault_refusal.ensures ∙ c.in-Some.is in
    Bad_key c.requires c.in-Err.fault (c.in-Err.ensures.refused (is_of_text c.in-Err.fault c.in-Some.refusal line)) line
