-- A search more, or none where the offset isn't swept.
use Rattle.std.proofs.Common.{ℕ, List, IfOk, sym, ◌∙◌, subst}
use Rattle.std.proofs.lemmas.Result.{IfOk-weaker}
use Rattle.sweep_due.specs.declared.standing.Standing.{Standing}
use Rattle.sweep_due.specs.Searches.{IsSearched, IsSearchedAt}
use Rattle.bank.specs.Hearing.{bank_seen}
use Rattle.sweep.specs.Turns.{with_offset}
use Rattle.sweep.proofs.TurnLaws.{left_out, one_search_more}
use Rattle.sweep.proofs.phases.come_to.Goals as goal

pub returns-then-is_swept-clause-searched : goal.returns-then-is_swept-clause-searched
returns-then-is_swept-clause-searched g c =
    let window = c.args.window.now in
    let bank = bank_seen c.args.bank.now in
    let i = c.offset_at-offset.result in
    let before = c.args.before in
    subst (λ (o : ℕ). IfOk c.search_at.result (λ (after : Standing). (earlier : List ℕ) → IsSearched window bank earlier before → IsSearched window bank (with_offset window.phase o earlier) after))
    c.offset_at-offset.ensures.offset
    (IfOk-weaker c.search_at.result (IsSearchedAt window bank i before)
    (λ (after : Standing). (earlier : List ℕ) → IsSearched window bank earlier before → IsSearched window bank (with_offset window.phase i earlier) after)
    (λ after found earlier searched. one_search_more window bank i before after (sym c.is_swept.ensures ∙ c.if-is_swept.true) found earlier searched)
    c.search_at.ensures.searched)

pub returns-clause-searched : goal.returns-clause-searched
returns-clause-searched g c = λ earlier searched.
    subst (λ (o : ℕ). IsSearched c.args.window.now (bank_seen c.args.bank.now) (with_offset c.args.window.now.phase o earlier) c.args.before) c.offset_at-offset.ensures.offset
    (left_out c.args.window.now (bank_seen c.args.bank.now) c.offset_at-offset.result c.args.before (sym c.is_swept.ensures ∙ c.if-is_swept.false) earlier searched)
