-- The last record alone is compared.
use Rattle.std.proofs.Common.{sym, subst}
use Rattle.std.proofs.lemmas.Bool.{lt-ltb, ltb-true}
use Rattle.definitions.specs.heard.Logs.{Records}
use Rattle.formats.specs.LogLines.{IsLater}
use Rattle.pulse_log.proofs.ReadLaws.{IsLater-push, IsLater-pop}
use Rattle.pulse_log.proofs.read.is_later.Goals as goal

pub returns-in-Some : goal.returns-in-Some
returns-in-Some c =
    let last = c.in-Some.last.now in
    let time = c.args.time in
    let front = c.in-Some.field-0-1.now in
    let parts = c.in-Some.ensures.cases.0 in
    (λ h. subst (λ (rs : Records). IsLater rs time) (sym parts) (IsLater-push front last time (ltb-true last.0 time h)), λ h. lt-ltb last.0 time (IsLater-pop front last time (subst (λ (rs : Records). IsLater rs time) parts h)))
