-- What is decoded by the grids of a bank is the bank's.
use Rattle.due.specs.Banks.{costs_in}
use Rattle.bank.specs.Hearing.{bank_seen}
use Rattle.follow.proofs.windows.report_of.Goals as goal

pub returns-clause-told : goal.returns-clause-told
returns-clause-told g c =
    let bank = bank_seen c.args.bank.now in
    let have = c.requires.grids.costs_are in
    record {
      window_is = c.in_ok-decoded.ensures.window;
      answer_is = c.in_ok-decoded.ensures.answer (costs_in c.args.window bank) have;
      duts_are = c.in_ok-decoded.ensures.duts bank have;
    }
