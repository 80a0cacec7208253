-- The symbol of a value of DUT1, or else that of the set.
use Rattle.std.proofs.Common.{◌≡◌, ℕ, Some, ap, arith}
use Rattle.heard.specs.Seen.{hearing_seen}
use Rattle.heard.proofs.SentLaws.{sent_by_set, sent_by_value}
use Rattle.heard.proofs.SymbolLaws.{two_symbols}
use Rattle.heard.proofs.WalkLaws.{second_small}
use Rattle.heard.proofs.hearing.Hearing.sent.Goals as goal

some_same : (a b : ℕ) → Some a ≡ Some b → a ≡ b
some_same a b e = cc

pub told_symbol-requires-clause-second : goal.told_symbol-requires-clause-second
told_symbol-requires-clause-second c =
    let self = c.args.self.now in
    second_small self.window self.sequence self.kept.walkable c.args.slot c.args.place c.requires.place

pub returns-in-Some-clause-sent : goal.returns-in-Some-clause-sent
returns-in-Some-clause-sent c =
    let h = hearing_seen c.args.self.now in
    sent_by_value h c.args.slot c.args.station c.args.place.1 (ap (λ (p : ℕ × ℕ). p.1) c.requires.place) c.in-Some.x c.in-Some.ensures.0 c.in-Some.ensures.1

pub returns-in-Some-clause-known : goal.returns-in-Some-clause-known
returns-in-Some-clause-known c y e =
    let same : c.in-Some.x ≡ y = some_same c.in-Some.x y e in
    omega (arith, two_symbols c.args.station, c.in-Some.ensures.2, same)

pub returns-in-None-clause-sent : goal.returns-in-None-clause-sent
returns-in-None-clause-sent c =
    let h = hearing_seen c.args.self.now in
    sent_by_set h c.args.slot c.args.station c.args.place.1 (ap (λ (p : ℕ × ℕ). p.1) c.requires.place) c.symbol_in_set.result c.in-None.ensures c.symbol_in_set.ensures.symbol
