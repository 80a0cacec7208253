-- The children wait, and come to fewer lines than the block might have.
use Rattle.std.proofs.Common.{◌≡◌, ◌≤◌, ap, arith, subst, sym, length, List}
use Rattle.signal_base.specs.declared.window.Window.{Window}
use Rattle.definitions.specs.declared.block.Block.{Block}
use Rattle.definitions.specs.declared.block.Span.{Span}
use Rattle.definitions.specs.declared.block.Span.TheVariants.{Year, Day, Hour, Minute}
use Rattle.definitions.specs.time.Calendar.{century_minutes}
use Rattle.definitions.specs.answers.Blocks.{IsBlock, children, shorter}
use Rattle.certificate_walks.specs.Spans.{AreOf}
use Rattle.certificate_walks.specs.Waiting.{CanOpen, Waiting, most_lines}
use Rattle.certificate_walks.proofs.WaitLaws.{both, day_lines, few_days, few_hours, few_minutes, hour_lines, year_lines}
use Rattle.certificate_walks.proofs.pending.Pending.open.Goals as goal

pub returns-in-Year-clause-lines : goal.returns-in-Year-clause-lines
returns-in-Year-clause-lines c =
    let b = c.args.block.now in
    let w = c.args.self.now in
    let e : b.span ≡ Year = c.in-Year.is in
    let can : CanOpen Year w = subst (λ (s : Span). CanOpen s w) e c.requires.can_open in
    omega (
      arith,
      year_lines w (children b) (few_days b e) can,
      ap (λ (v : Waiting). length v.minutes) c.self.view_is,
      ap (λ (v : Waiting). length v.hours) c.self.view_is,
      ap (λ (v : Waiting). length v.days) c.self.view_is,
      ap (λ (bs : List Block). length bs) c.children-self-inside.ensures,
      ap most_lines e,
    )

pub returns-in-Day-clause-lines : goal.returns-in-Day-clause-lines
returns-in-Day-clause-lines c =
    let b = c.args.block.now in
    let w = c.args.self.now in
    let e : b.span ≡ Day = c.in-Day.is in
    let can : CanOpen Day w = subst (λ (s : Span). CanOpen s w) e c.requires.can_open in
    omega (
      arith,
      day_lines w (children b) (few_hours b e) can,
      ap (λ (v : Waiting). length v.minutes) c.self.view_is,
      ap (λ (v : Waiting). length v.hours) c.self.view_is,
      ap (λ (v : Waiting). length v.days) c.self.view_is,
      ap (λ (bs : List Block). length bs) c.children-self-inside-in-Day.ensures,
      ap most_lines e,
    )

pub invariant_of-self-in-Day : goal.invariant_of-self-in-Day
invariant_of-self-in-Day c =
    let b = c.args.block.now in
    let window = c.self.inside.tables.now.window in
    let e : b.span ≡ Day = c.in-Day.is in
    let block : IsBlock window b = subst (λ (v : Window). IsBlock v b) (sym (ap (λ (v : Waiting). v.tables.window) c.self.view_is)) c.requires.block in
    let century : window.to ≤ century_minutes = subst (λ (v : Window). v.to ≤ century_minutes) c.window.ensures.value c.window.ensures.ranges.century in
    let new : AreOf window Hour c.children-self-inside-in-Day.result = subst (λ (bs : List Block). AreOf window Hour bs) (sym c.children-self-inside-in-Day.ensures)
    (both window Hour (shorter b.span) (children b) (ap shorter e) (c.children_share_the_sequences.ensures.blocks window b century block)
    (c.children_share_the_sequences.ensures.spans window b century block)) in
    (c.self.invariant.0, new, c.self.invariant.2)

pub returns-in-Hour-clause-lines : goal.returns-in-Hour-clause-lines
returns-in-Hour-clause-lines c =
    let b = c.args.block.now in
    let w = c.args.self.now in
    let e : b.span ≡ Hour = c.in-Hour.is in
    let can : CanOpen Hour w = subst (λ (s : Span). CanOpen s w) e c.requires.can_open in
    omega (
      arith,
      hour_lines w (children b) (few_minutes b e) can,
      ap (λ (v : Waiting). length v.minutes) c.self.view_is,
      ap (λ (v : Waiting). length v.hours) c.self.view_is,
      ap (λ (v : Waiting). length v.days) c.self.view_is,
      ap (λ (bs : List Block). length bs) c.children-self-inside-in-Hour.ensures,
      ap most_lines e,
    )

pub invariant_of-self-in-Hour : goal.invariant_of-self-in-Hour
invariant_of-self-in-Hour c =
    let b = c.args.block.now in
    let window = c.self.inside.tables.now.window in
    let e : b.span ≡ Hour = c.in-Hour.is in
    let block : IsBlock window b = subst (λ (v : Window). IsBlock v b) (sym (ap (λ (v : Waiting). v.tables.window) c.self.view_is)) c.requires.block in
    let century : window.to ≤ century_minutes = subst (λ (v : Window). v.to ≤ century_minutes) c.window.ensures.value c.window.ensures.ranges.century in
    let new : AreOf window Minute c.children-self-inside-in-Hour.result = subst (λ (bs : List Block). AreOf window Minute bs) (sym c.children-self-inside-in-Hour.ensures)
    (both window Minute (shorter b.span) (children b) (ap shorter e) (c.children_share_the_sequences.ensures.blocks window b century block)
    (c.children_share_the_sequences.ensures.spans window b century block)) in
    (new, c.self.invariant.1, c.self.invariant.2)
