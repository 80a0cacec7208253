-- The block is an item, which wasn't begun.
use Rattle.std.proofs.Common.{◌≡◌, ◌≤◌, ◌∷◌, List, IsTrue, sym, subst, rules}
use Rattle.signal_base.specs.declared.window.Window.{Window}
use Rattle.definitions.specs.declared.block.Block.{Block}
use Rattle.definitions.specs.time.Calendar.{century_minutes}
use Rattle.certificates.specs.Validity.{IsOneOf}
use Rattle.certificate_judge.specs.Marks.{AreMarked}
use Rattle.certificate_judge.proofs.DueLaws.{block_listed}
use Rattle.certificate_judge.proofs.due_blocks.DueBlocks.begin.Goals as goal

pub bound-requires : goal.bound-requires
bound-requires c =
    let s = c.args.self.now in
    let w = s.tables.now.window in
    let began : IsTrue c.begin.result = search rules in
    let century : w.to ≤ century_minutes = subst (λ (v : Window). v.to ≤ century_minutes) c.window.ensures.value c.window.ensures.ranges.century in
    block_listed w s.begun.items.now s.items_are c.args.block.now (c.items_share_the_sequences.ensures.blocks w century) (c.begin.ensures.some began)

pub returns-clause-begun : goal.returns-clause-begun
returns-clause-begun c = λ begun are.
    let s = c.args.self.now in
    let began : IsTrue c.begin.result = search rules in
    let listed = subst (λ (bs : List Block). AreMarked bs s.begun.marks begun) (sym s.items_are) are in
    (subst (λ (bs : List Block). IsOneOf bs c.args.block.now) s.items_are (c.begin.ensures.some began), (c.begin.ensures.begun begun listed began).0)

pub returns-clause-marks : goal.returns-clause-marks
returns-clause-marks c = λ begun are.
    let s = c.args.self.now in
    let began : IsTrue c.begin.result = search rules in
    let listed = subst (λ (bs : List Block). AreMarked bs s.begun.marks begun) (sym s.items_are) are in
    subst (λ (bs : List Block). AreMarked bs c.begin.new.self.marks (c.args.block.now ∷ begun)) s.items_are (c.begin.ensures.begun begun listed began).1

pub returns-clause-block : goal.returns-clause-block
returns-clause-block c =
    let s = c.args.self.now in
    let w = s.tables.now.window in
    let began : IsTrue c.begin.result = search rules in
    let century : w.to ≤ century_minutes = subst (λ (v : Window). v.to ≤ century_minutes) c.window.ensures.value c.window.ensures.ranges.century in
    block_listed w s.begun.items.now s.items_are c.args.block.now (c.items_share_the_sequences.ensures.blocks w century) (c.begin.ensures.some began)
