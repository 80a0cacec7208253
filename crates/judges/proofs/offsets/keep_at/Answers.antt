-- What was found of the file is kept.
use Rattle.std.proofs.Common.{◌+◌, sym, subst}
use Rattle.bank.specs.Hearing.{bank_seen}
use Rattle.judges.specs.declared.offsets.Judged.{Judged}
use Rattle.judges.specs.Judging.{IsJudgedBelow}
use Rattle.judges.proofs.StepLaws.{one_more}
use Rattle.judges.proofs.offsets.keep_at.Goals as goal

pub returns-clause-judged : goal.returns-clause-judged
returns-clause-judged g c = λ named.
    let old = g.F.Files.view c.args.files.now in
    let bank = bank_seen c.args.bank.now in
    subst (λ (j : Judged). IsJudgedBelow old c.args.name.now c.args.window.now bank (c.args.offset + 1) j) (sym c.judged_with.ensures)
    (one_more old c.args.name.now c.args.window.now bank c.args.offset c.args.before c.requires.offset c.requires.swept named c.in_ok-found.found c.in_ok-found.ensures.found)
