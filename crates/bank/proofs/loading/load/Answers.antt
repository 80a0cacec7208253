-- A configuration and its logs are loaded, or why not.
use Rattle.std.proofs.lemmas.Result.{err_from_is_err_and}
use Rattle.bank_config.specs.Configuration.{plain_config}
use Rattle.bank.proofs.loading.load.Goals as goal

pub returns-in_err-read-clause-not_loaded : goal.returns-in_err-read-clause-not_loaded
returns-in_err-read-clause-not_loaded g c =
    let p = err_from_is_err_and c.from_residual.result c.from_residual.ensures.1 in
    rw (p.1, p.2) c.in_err-read.ensures.not_loaded

pub returns-in_err-in_station_order-clause-not_loaded : goal.returns-in_err-in_station_order-clause-not_loaded
returns-in_err-in_station_order-clause-not_loaded g c =
    let p = err_from_is_err_and c.from_residual-in_err-in_station_order.result c.from_residual-in_err-in_station_order.ensures.1 in
    rw (p.1, p.2) c.in_ok-read.ensures.same_counts

pub returns-clause-loaded : goal.returns-clause-loaded
returns-clause-loaded g c =
    (plain_config c.in_ok-read.read.0, c.in_ok-read.read.1.items, c.in_ok-read.ensures.loaded, c.in_ok-in_station_order.ensures.order)
