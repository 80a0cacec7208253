-- The order of a decode, and no other.
use Rattle.std.proofs.Common.{None, Ok, refl, sym, ap, ◌∙◌}
use Rattle.bank_words.specs.declared.order.Order.TheVariants as order
use Rattle.bank_words.specs.Seen.{order_seen, texts_of}
use Rattle.formats.specs.Orders.Order.{Decode}
use Rattle.heard.proofs.WordLaws.{heard_is, no_decode, no_name, other}
use Rattle.heard.proofs.words.asked_by.Goals as goal

pub returns-in-None-clause-asks : goal.returns-in-None-clause-asks
returns-in-None-clause-asks c =
    let d = c.in-Decode in (
      Decode d.config.now d.asked d.workers None,
      heard_is (texts_of c.args.words.now) (texts_of c.args.all.now) (sym c.names_left_out.ensures ∙ c.if-names_left_out.false) c.requires (Decode d.config.now d.asked d.workers None)
          (c.in_ok-order.ensures.value ∙ ap (λ o. Ok (order_seen o)) d.is ∙ ap (λ name. Ok (order_seen (order.Decode d.config d.asked d.workers name))) c.in-None.is),
      refl,
    )

pub returns-in-Some-clause-asks : goal.returns-in-Some-clause-asks
returns-in-Some-clause-asks c =
    let d = c.in-Decode in
    absurd
    (no_name (texts_of c.args.words.now) (texts_of c.args.all.now) (sym c.names_left_out.ensures ∙ c.if-names_left_out.false) c.requires d.config.now d.asked d.workers _
    (c.in_ok-order.ensures.value ∙ ap (λ o. Ok (order_seen o)) d.is ∙ ap (λ name. Ok (order_seen (order.Decode d.config d.asked d.workers name))) c.in-Some.is))

pub returns-in_default : goal.returns-in_default
returns-in_default c =
    let words = texts_of c.args.words.now in
    let all = texts_of c.args.all.now in
    let none = sym c.names_left_out.ensures ∙ c.if-names_left_out.false in
    record {
      asks = no_decode words all none c.requires c.in_ok-order.order (other words all none c.requires c.in_ok-order.order c.in_default.not-Decode) c.in_ok-order.ensures.value;
      file = tt;
      asked = tt;
      workers = tt;
    }
