-- Each is a good one, so that all are, and the report is that of the swept answer.
use Rattle.std.proofs.Common.{refl, sym, subst}
use Rattle.formats.specs.declared.words.Asked.{Asked}
use Rattle.due.specs.Banks.{bank_of, window_of}
use Rattle.due.proofs.CertificateDueLaws.{bank_in_range, window_in_range}
use Rattle.sweep_due.specs.JudgeRules.{Good, IsJudged}
use Rattle.sweep_due.specs.JudgeRules.JudgeDue.{Certified}
use Rattle.sweep_due.specs.Phases.{swept_offsets}
use Rattle.judge_due.specs.JudgeDues.{Files_judged, files_in}
use Rattle.judge_due.proofs.FileLaws.{each_swept}
use Rattle.judge_due.proofs.WrittenLaws.{order_in_range, written_are_good}
use Rattle.judge_due.proofs.laws.certificates_of_a_sweep_are_certified.Goals as goal

pub returns : goal.returns
returns c words later contents others o asked config records cs told answer duts asks loaded are report short also same too written =
    let bank = bank_of config records in
    let window = window_of o.asked bank.receivers in
    let ranges = order_in_range words o asks in
    let fits = window_in_range contents config records loaded o.asked ranges.asked in
    let low = (bank_in_range contents config records loaded).ceiling in
    let good = written_are_good c.blocks_share_the_sequences.ensures window bank o.workers (files_in others) fits low ranges.some_worker ranges.few_workers (swept_offsets window.phase) cs
    (each_swept window.phase) are short written in
    Files_judged asked also config records too (Certified told answer duts)
    (subst (λ (a : Asked). IsJudged (window_of a bank.receivers) bank (files_in others) (Certified told answer duts)) (sym same) (Good good told answer duts report refl)) refl
