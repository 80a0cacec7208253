-- What the examples rest on: what words ask, and the windows of two receivers.
use Rattle.std.proofs.Common.{codes, None, Some, refl}
use Rattle.std.specs.Fmt.{digits}
use Rattle.formats.specs.WordExamples.{asked, asked_usually, words_in}
use Rattle.formats.specs.WordValues.{number_of}
use Rattle.follow_due.specs.Examples.{order_of_k}
use Rattle.follow_due.specs.FollowOrders.{AsksFollow}

pub usual_asks : AsksFollow (words_in (codes "follow k.toml")) (order_of_k asked_usually 60 10)
unfolding digits number_of
usual_asks = (4, refl)

pub own_asks : AsksFollow (words_in (codes "follow k.toml --seconds 120 --step 7 --count 2")) (order_of_k (asked None 120 0 52_596_000) 7 2)
unfolding digits number_of
own_asks = (4, refl)

pub late_asks : AsksFollow (words_in (codes "follow k.toml --seconds 120 --count 2 --start 999999999999")) (order_of_k (asked (Some 999_999_999_999) 120 0 52_596_000) 60 2)
unfolding digits number_of
late_asks = (4, refl)

pub late_too : AsksFollow (words_in (codes "follow k.toml --count 2 --start 999999999999")) (order_of_k (asked (Some 999_999_999_999) 180 0 52_596_000) 60 2)
unfolding digits number_of
late_too = (4, refl)

pub early_asks : AsksFollow (words_in (codes "follow k.toml --seconds 120 --count 2 --start 0")) (order_of_k (asked (Some 0) 120 0 52_596_000) 60 2)
unfolding digits number_of
early_asks = (4, refl)
