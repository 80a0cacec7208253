-- The head, the lines and the end, or a fault in one of them.
use Rattle.std.proofs.Common.{◌++◌, ◌∙◌, List, ℕ, [], rules, subst, sym}
use Rattle.field_tables.specs.Scored.{costs_of}
use Rattle.certificates.specs.Texts.{steps_text}
use Rattle.certificate_texts.specs.Sending.{IsSent, WritesFront}
use Rattle.certificate_texts.proofs.SentLaws.{nothing_sent}
use Rattle.certificate_walks.specs.Walking.{walk_at}
use Rattle.certificate_walks.proofs.WriteLaws.{all_due, all_there, course, cut_in_head, cut_in_lines, cut_in_tail}
use Rattle.certificate_walks.proofs.write.append_certificate.Goals as goal

pub returns-in_err-put-clause-failed : goal.returns-in_err-put-clause-failed
returns-in_err-put-clause-failed g c =
    let t = c.args.tables.now in
    let name = c.args.name.now in
    let old = g.F.Files.view c.args.files.now in
    let walk = walk_at name t c.limit_named.result in
    let one = c.bound_is_one.ensures.bound (costs_of t) t.window in
    let now = g.F.Files.view c.put.new.files in
    let none = subst (λ (h : List ℕ). IsSent name old old h []) (sym c.new-held.ensures) (nothing_sent name old c.requires.there) in
    let cut = cut_in_head walk c.args.head.now c.args.parts old c.requires.window c.limit_named.ensures one now
    (subst (λ (x : List ℕ). WritesFront name old now x) (c.as_str.ensures.value ∙ c.head_text.ensures) (c.in_err-put.ensures.failed old [] none)) in
    search rules

pub returns-in_err-write_items-clause-failed : goal.returns-in_err-write_items-clause-failed
returns-in_err-write_items-clause-failed g c =
    let t = c.args.tables.now in
    let name = c.args.name.now in
    let old = g.F.Files.view c.args.files.now in
    let walk = walk_at name t c.limit_named.result in
    let one = c.bound_is_one.ensures.bound (costs_of t) t.window in
    let mid = g.F.Files.view c.put.new.files in
    let none = subst (λ (h : List ℕ). IsSent name old old h []) (sym c.new-held.ensures) (nothing_sent name old c.requires.there) in
    let sent = subst (λ (x : List ℕ). IsSent name old mid c.put.new.held.bytes x) (c.as_str.ensures.value ∙ c.head_text.ensures) (c.in_ok-put.ensures.sent old [] none) in
    let under = all_due walk c.args.head.now c.args.parts old c.requires.window c.limit_named.ensures one mid c.put.new.held.bytes c.args.list.now c.requires.items sent in
    let path = course walk c.args.head.now c.args.parts old c.requires.window c.limit_named.ensures one in
    let cut = cut_in_lines walk c.args.head.now c.args.parts old c.requires.window c.limit_named.ensures one (g.F.Files.view c.write_items.new.files)
    (c.in_err-write_items.ensures.failed path under) in
    search rules

pub returns-in_err-put-2-clause-failed : goal.returns-in_err-put-2-clause-failed
returns-in_err-put-2-clause-failed g c =
    let t = c.args.tables.now in
    let name = c.args.name.now in
    let old = g.F.Files.view c.args.files.now in
    let walk = walk_at name t c.limit_named.result in
    let head = c.args.head.now in
    let one = c.bound_is_one.ensures.bound (costs_of t) t.window in
    let mid = g.F.Files.view c.put.new.files in
    let late = g.F.Files.view c.write_items.new.files in
    let now = g.F.Files.view c.put-2.new.files in
    let none = subst (λ (h : List ℕ). IsSent name old old h []) (sym c.new-held.ensures) (nothing_sent name old c.requires.there) in
    let sent = subst (λ (x : List ℕ). IsSent name old mid c.put.new.held.bytes x) (c.as_str.ensures.value ∙ c.head_text.ensures) (c.in_ok-put.ensures.sent old [] none) in
    let under = all_due walk head c.args.parts old c.requires.window c.limit_named.ensures one mid c.put.new.held.bytes c.args.list.now c.requires.items sent in
    let path = course walk head c.args.parts old c.requires.window c.limit_named.ensures one in
    let done = c.in_ok-write_items.ensures.written path under in
    let cut = cut_in_tail walk head c.args.parts old c.requires.window c.limit_named.ensures one late c.write_items.new.held.bytes c.write_items.new.steps done now
    (subst (λ (x : List ℕ). WritesFront name old now ((path.before ++ steps_text done.lines) ++ x)) (c.as_str-2.ensures.value ∙ c.tail_text.ensures)
    (c.in_err-put-2.ensures.failed old (path.before ++ steps_text done.lines) done.sent)) in
    search rules

pub returns-in_err-flush-clause-failed : goal.returns-in_err-flush-clause-failed
returns-in_err-flush-clause-failed g c =
    let t = c.args.tables.now in
    let name = c.args.name.now in
    let old = g.F.Files.view c.args.files.now in
    let walk = walk_at name t c.limit_named.result in
    let head = c.args.head.now in
    let one = c.bound_is_one.ensures.bound (costs_of t) t.window in
    let mid = g.F.Files.view c.put.new.files in
    let late = g.F.Files.view c.write_items.new.files in
    let last = g.F.Files.view c.put-2.new.files in
    let now = g.F.Files.view c.flush.new.files in
    let none = subst (λ (h : List ℕ). IsSent name old old h []) (sym c.new-held.ensures) (nothing_sent name old c.requires.there) in
    let sent = subst (λ (x : List ℕ). IsSent name old mid c.put.new.held.bytes x) (c.as_str.ensures.value ∙ c.head_text.ensures) (c.in_ok-put.ensures.sent old [] none) in
    let under = all_due walk head c.args.parts old c.requires.window c.limit_named.ensures one mid c.put.new.held.bytes c.args.list.now c.requires.items sent in
    let path = course walk head c.args.parts old c.requires.window c.limit_named.ensures one in
    let done = c.in_ok-write_items.ensures.written path under in
    let all = subst (λ (x : List ℕ). IsSent name old last c.put-2.new.held.bytes ((path.before ++ steps_text done.lines) ++ x)) (c.as_str-2.ensures.value ∙ c.tail_text.ensures)
    (c.in_ok-put-2.ensures.sent old (path.before ++ steps_text done.lines) done.sent) in
    let cut = cut_in_tail walk head c.args.parts old c.requires.window c.limit_named.ensures one late c.write_items.new.held.bytes c.write_items.new.steps done now
    (c.in_err-flush.ensures.failed old _ all) in
    search rules

pub returns-clause-written : goal.returns-clause-written
returns-clause-written g c =
    let t = c.args.tables.now in
    let name = c.args.name.now in
    let old = g.F.Files.view c.args.files.now in
    let walk = walk_at name t c.limit_named.result in
    let head = c.args.head.now in
    let one = c.bound_is_one.ensures.bound (costs_of t) t.window in
    let mid = g.F.Files.view c.put.new.files in
    let late = g.F.Files.view c.write_items.new.files in
    let last = g.F.Files.view c.put-2.new.files in
    let now = g.F.Files.view c.flush.new.files in
    let none = subst (λ (h : List ℕ). IsSent name old old h []) (sym c.new-held.ensures) (nothing_sent name old c.requires.there) in
    let sent = subst (λ (x : List ℕ). IsSent name old mid c.put.new.held.bytes x) (c.as_str.ensures.value ∙ c.head_text.ensures) (c.in_ok-put.ensures.sent old [] none) in
    let under = all_due walk head c.args.parts old c.requires.window c.limit_named.ensures one mid c.put.new.held.bytes c.args.list.now c.requires.items sent in
    let path = course walk head c.args.parts old c.requires.window c.limit_named.ensures one in
    let done = c.in_ok-write_items.ensures.written path under in
    let all = subst (λ (x : List ℕ). IsSent name old last c.put-2.new.held.bytes ((path.before ++ steps_text done.lines) ++ x)) (c.as_str-2.ensures.value ∙ c.tail_text.ensures)
    (c.in_ok-put-2.ensures.sent old (path.before ++ steps_text done.lines) done.sent) in
    all_there walk head c.args.parts old c.requires.window c.limit_named.ensures one late c.write_items.new.held.bytes c.write_items.new.steps done now
    (c.in_ok-flush.ensures.whole old _ all)
