use Rattle.std.proofs.Common.{arith, ◌≡◌, true, false}
use Rattle.std.proofs.lemmas.Int.{ints}
use Rattle.jiff_core.proofs.SignedLemmas.{signed_arith}
use Rattle.civil.proofs.Dates.{first_number}
use Rattle.civil.proofs.DateTexts.{same_number, text_of_day, date_of_text, cast, uncast}
use Rattle.civil.proofs.parse.day_number.Goals as goal

pub returns-in_default-clause-none : goal.returns-in_default-clause-none
returns-in_default-clause-none c = λ n early e.
    let a = c.args in
    let r = c.requires in
    let there = date_of_text a.year a.month a.day r.year r.month r.day n (omega arith) e in
    let failed : false ≡ true = c.in_default.ensures.succeeds.1 (cast a.year a.month a.day r.year r.month r.day there.0 there.1) in
    cc

pub returns-then-number-lt0-clause-none : goal.returns-then-number-lt0-clause-none
returns-then-number-lt0-clause-none c = λ n early e.
    let a = c.args in
    let r = c.requires in
    let there = date_of_text a.year a.month a.day r.year r.month r.day n (omega arith) e in
    let is = uncast a.year a.month a.day r.year r.month r.day c.in-Ok.date c.in-Ok.ensures.value in
    let same = same_number a.year a.month a.day c.in-Ok.date there.0 is there.1 in
    omega (arith, signed_arith, c.until-number.ensures.value, first_number, same, there.2)

pub returns-clause-found : goal.returns-clause-found
returns-clause-found c =
    let a = c.args in
    let r = c.requires in
    let is = uncast a.year a.month a.day r.year r.month r.day c.in-Ok.date c.in-Ok.ensures.value in
    let v = c.until-number.ensures.value in
    (omega (arith, ints, first_number), text_of_day a.year a.month a.day c.in-Ok.date _ is (omega (arith, ints)) (omega (arith, ints, signed_arith, first_number)))
