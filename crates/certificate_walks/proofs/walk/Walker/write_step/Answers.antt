-- A line more, or a front of it.
use Rattle.std.proofs.Common.{◌++◌, ◌∙◌, List, ℕ, refl, rules, subst}
use Rattle.definitions.specs.declared.block.Block.{Block}
use Rattle.certificates.specs.declared.certificate.Line.{Line}
use Rattle.certificates.specs.Texts.{steps_text}
use Rattle.certificate_texts.specs.Sending.{IsSent, WritesFront}
use Rattle.certificate_walks.specs.Waiting.{left_of}
use Rattle.certificate_walks.specs.Walking.{IsUnderWay, walk_at}
use Rattle.certificate_walks.proofs.StepLaws.{due_joined, line_cut, line_more}
use Rattle.certificate_walks.proofs.walk.Walker.write_step.Goals as goal

pub returns-in_err-put-clause-failed : goal.returns-in_err-put-clause-failed
returns-in_err-put-clause-failed g c = λ course rest under.
    let s = c.args.self.now in
    let b = c.args.found.now.block in
    let walk = walk_at s.name.now s.tables.now s.limit in
    let l : Line = record { kind = c.kind_of.result; block = b; bound = c.args.found.now.bound } in
    let now = g.F.Files.view c.put.new.files in
    let bytes = c.as_str.ensures.value ∙ c.step_line.ensures in
    let cut = line_cut walk course (g.F.Files.view c.args.files.now) now c.args.held.now.bytes b (left_of c.args.pending.now ++ rest) c.args.steps.now l under refl
    (record { shape = c.kind_of.ensures.shape; bound = c.requires.bound; above = c.kind_of.ensures.above }) c.kind_of.ensures.keeps
    (c.bound_is_one.ensures.bound _ _)
    (subst (λ (x : List ℕ). WritesFront walk.name course.old now ((course.before ++ steps_text under.lines) ++ x)) bytes
    (c.in_err-put.ensures.failed course.old (course.before ++ steps_text under.lines) under.sent)) in
    search rules

pub returns-clause-written : goal.returns-clause-written
returns-clause-written g c = λ course rest under.
    let s = c.args.self.now in
    let b = c.args.found.now.block in
    let walk = walk_at s.name.now s.tables.now s.limit in
    let l : Line = record { kind = c.kind_of.result; block = b; bound = c.args.found.now.bound } in
    let now = g.F.Files.view c.put.new.files in
    let bytes = c.as_str.ensures.value ∙ c.step_line.ensures in
    subst (λ (due : List Block). IsUnderWay walk course now c.put.new.held.bytes due c.saturating_add.result)
    (due_joined l (left_of c.args.pending.now) rest (left_of c.open_by.new.pending) c.open_by.ensures.left)
    (line_more walk course (g.F.Files.view c.args.files.now) now c.args.held.now.bytes b (left_of c.args.pending.now ++ rest) c.args.steps.now l under refl
    (record { shape = c.kind_of.ensures.shape; bound = c.requires.bound; above = c.kind_of.ensures.above }) c.kind_of.ensures.keeps
    c.put.new.held.bytes c.saturating_add.result c.saturating_add.ensures
    (subst (λ (x : List ℕ). IsSent walk.name course.old now c.put.new.held.bytes ((course.before ++ steps_text under.lines) ++ x)) bytes
    (c.in_ok-put.ensures.sent course.old (course.before ++ steps_text under.lines) under.sent)))
