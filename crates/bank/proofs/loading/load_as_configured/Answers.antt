-- A configuration and its logs are read, or why not.
use Rattle.std.proofs.Common.{List, length, map, ap, ◌∙◌, subst}
use Rattle.std.proofs.lemmas.Result.{err_from_is_err_and}
use Rattle.bank_config.specs.declared.config.Receiver.{Receiver}
use Rattle.bank_config.specs.Configuration.{plain_config, plain_receiver}
use Rattle.bank.specs.Loading.{AreNotRead, AreRead}
use Rattle.bank.proofs.LoadLaws.{all_read, configuration_not_read, logs_not_read, read_length}
use Rattle.bank.proofs.LogListLaws.{length_map}
use Rattle.bank.proofs.loading.load_as_configured.Goals as goal

pub returns-in_err-config-clause-not_loaded : goal.returns-in_err-config-clause-not_loaded
returns-in_err-config-clause-not_loaded g c =
    let p = err_from_is_err_and c.from_residual.result c.from_residual.ensures.1 in
    rw (p.1, p.2) (configuration_not_read (g.F.Files.view c.args.files.now) (g.F.Files.view c.read_configuration.new.files) c.args.config.now c.in_err-config.field-0.0 c.in_err-config.ensures.not_read)

pub returns-in_err-logs-clause-not_loaded : goal.returns-in_err-logs-clause-not_loaded
returns-in_err-logs-clause-not_loaded g c =
    let p = err_from_is_err_and c.from_residual-in_err-logs.result c.from_residual-in_err-logs.ensures.1 in
    let mid = g.F.Files.view c.read_configuration.new.files in
    let new = g.F.Files.view c.read_logs.new.files in
    rw (p.1, p.2) (logs_not_read (g.F.Files.view c.args.files.now) mid c.args.config.now (plain_config c.in_ok-config.config) c.in_ok-config.ensures.only.told c.in_ok-config.ensures.read new c.in_err-logs.field-0.0
    c.in_ok-config.ensures.same_counts
    (subst (λ (rs : List Receiver). AreNotRead mid new 1 (map plain_receiver rs) c.in_err-logs.field-0.0) c.as_slice.ensures.value c.in_err-logs.ensures.not_read))

pub returns-clause-one_each : goal.returns-clause-one_each
returns-clause-one_each g c =
    read_length (g.F.Files.view c.read_configuration.new.files) (map plain_receiver c.as_slice.result.now) c.in_ok-logs.logs.items c.in_ok-logs.ensures.read
    ∙ length_map plain_receiver c.as_slice.result.now ∙ ap length c.as_slice.ensures.value

pub returns-clause-loaded : goal.returns-clause-loaded
returns-clause-loaded g c =
    let mid = g.F.Files.view c.read_configuration.new.files in
    let config = plain_config c.in_ok-config.config in
    let logs = c.in_ok-logs.logs.items in
    all_read (g.F.Files.view c.args.files.now) mid c.args.config.now config c.in_ok-config.ensures.only.told c.in_ok-config.ensures.read logs
    (subst (λ (rs : List Receiver). AreRead mid (map plain_receiver rs) logs) c.as_slice.ensures.value c.in_ok-logs.ensures.read)
