use Rattle.std.proofs.Common.{sym, subst}
use Rattle.definitions.specs.codes.Allowed.{IsSetOf}
use Rattle.trial_log.proofs.symbol.clean_wave.Goals as goal

pub clean_symbol-requires : goal.clean_symbol-requires
clean_symbol-requires c =
    subst (IsSetOf c.args.station) (sym c.set_in-set.ensures)
    (c.each_second_is_sent.ensures.sent c.args.station c.args.announced c.args.place.0 c.args.place.1 c.requires.second)
