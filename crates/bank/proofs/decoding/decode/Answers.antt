-- The answer by the grids is the bank's.
use Rattle.std.proofs.Common.{List, refl, sym, subst}
use Rattle.symbol_cost.specs.Grid.{Grid}
use Rattle.field_tables.specs.Grids.{HaveCosts}
use Rattle.due.specs.Banks.{costs_in}
use Rattle.bank.specs.Hearing.{bank_seen}
use Rattle.bank.proofs.DecodedLaws.{decoded_of_bank}
use Rattle.bank.proofs.decoding.decode.Goals as goal

pub returns-clause-decoded : goal.returns-clause-decoded
returns-clause-decoded g c =
    let window = c.window_of-window.result in
    let bank = bank_seen c.args.bank.now in
    let have = subst (λ (gs : List Grid). HaveCosts window gs (costs_in window bank)) (sym c.as_slice.ensures.value) c.in_ok-grids.ensures.costs in
    decoded_of_bank c.args.asked.now bank window c.as_slice.result.now c.args.bank.now.ceiling c.decode_window.result c.window_of-window.ensures.window refl have
    c.decode_window.ensures.window c.decode_window.ensures.answer c.decode_window.ensures.duts
