-- A log is refused for its first bad line.
use Rattle.std.proofs.Common.{ℕ, List, IfSome, sym, ap, ◌∙◌, subst}
use Rattle.formats.specs.declared.refusal.Refusal.TheVariants.{LogLine}
use Rattle.formats.specs.LogLines.{IsRefused}
use Rattle.due.specs.LogFiles.{Bad_line}
use Rattle.bank.proofs.loading.log_in.Goals as goal

pub returns-in-Some-clause-refused : goal.returns-in-Some-clause-refused
returns-in-Some-clause-refused c =
    let refused = subst (λ o. IfSome o (λ bad. IsRefused c.args.bytes.now bad.0 bad.1)) (sym c.bad_line.ensures ∙ c.in-Some.is) c.in-Err.ensures.refused in
    Bad_line c.requires.limit c.in-Some.line c.in-Some.fault refused (ap (λ (n : List ℕ). LogLine c.args.number n c.in-Some.line c.in-Some.fault) c.name_in.ensures)
