-- Each item has a mark, or one has none.
use Rattle.std.proofs.Common.{rules, ℕ, ◌≡◌, ◌<◌, ◌≤◌, false, true, get_or, length, arith, refl}
use Rattle.certificate_judge.proofs.MarkLaws.{all_begun, not_all_begun}
use Rattle.certificate_judge.proofs.begun.Begun.all.Goals as goal

pub returns-then-not-is_marked : goal.returns-then-not-is_marked
returns-then-not-is_marked c = λ begun are.
    let b = c.args.self.now in
    let within : c.loop-i.i < length b.items.now = search rules in
    let unset : get_or b.marks c.loop-i.i false ≡ false = search rules in
    (λ is. absurd cc, λ all. absurd (not_all_begun b.items.now b.marks c.loop-i.i within unset begun are all))

pub returns : goal.returns
returns c = λ begun are.
    let b = c.args.self.now in
    let over : length b.items.now ≤ c.loop-i.i = search rules in
    (λ is. all_begun b.items.now b.marks (λ k within. c.loop-i.invariant.marked k (omega (arith, within, over))) begun are, λ all. refl)
