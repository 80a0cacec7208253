-- What the words ask is what their order asks.
use Rattle.std.proofs.Common.{Ok, None, refl, ap, ◌∙◌}
use Rattle.formats.specs.Orders.{◌>>=◌}
use Rattle.formats.specs.Orders.Order.{Decode, Feed}
use Rattle.bank_words.specs.Seen.{order_seen, texts_of}
use Rattle.bank_words.specs.declared.order.Order.TheVariants as order
use Rattle.due.specs.Orders.{of_run}
use Rattle.bank.proofs.TaskLaws.{asks_bank}
use Rattle.bank.proofs.words.work_of.Goals as goal

pub returns-in-Some-clause-work : goal.returns-in-Some-clause-work
returns-in-Some-clause-work c =
    let d = c.in-Decode in
    ap (λ check. check >>= of_run)
    (c.in_ok-order.ensures.value ∙ ap (λ o. Ok (order_seen o)) d.is ∙ ap (λ name. Ok (order_seen (order.Decode d.config d.asked d.workers name))) c.in-Some.is)

pub returns-in-None-clause-work : goal.returns-in-None-clause-work
returns-in-None-clause-work c =
    let d = c.in-Decode in
    asks_bank (texts_of c.args.words.now) (Decode d.config.now d.asked d.workers None) _
    (c.in_ok-order.ensures.value ∙ ap (λ o. Ok (order_seen o)) d.is ∙ ap (λ name. Ok (order_seen (order.Decode d.config d.asked d.workers name))) c.in-None.is) refl refl

pub returns-in-Feed-clause-work : goal.returns-in-Feed-clause-work
returns-in-Feed-clause-work c =
    let f = c.in-Feed in
    asks_bank (texts_of c.args.words.now) (Feed f.config.now f.asked f.workers) _
    (c.in_ok-order.ensures.value ∙ ap (λ o. Ok (order_seen o)) f.is) refl refl
