-- A configuration is found by the bytes that were read, or refused for their number.
use Rattle.std.proofs.Common.{Err, refl, ap}
use Rattle.bank_config.specs.declared.limits.TheConstants.{CONFIG_LIMIT}
use Rattle.due.specs.Configurations.{IsBadConfiguration, Too_large}
use Rattle.bank.proofs.ReadingLaws.{large_bytes, read_is, refused_for}
use Rattle.bank.proofs.loading.read_configuration.Goals as goal

pub returns-in-Ok-clause-not_read : goal.returns-in-Ok-clause-not_read
returns-in-Ok-clause-not_read g c =
    let old = g.F.Files.view c.args.files.now in
    let file = c.args.name.now in
    refused_for old (g.F.Files.view c.read_whole.new.files) file c.in-Ok.bytes.items c.as_slice.result.now IsBadConfiguration c.configuration_in.result c.as_slice.ensures.value
    (read_is (old.told file) c.in-Ok.bytes.items CONFIG_LIMIT c.in-Ok.ensures.whole) (c.in-Ok.ensures.same_counts (λ e. cc)) c.configuration_in.ensures.refused

pub returns-in-Err-TooLarge-clause-not_read : goal.returns-in-Err-TooLarge-clause-not_read
returns-in-Err-TooLarge-clause-not_read g c =
    let old = g.F.Files.view c.args.files.now in
    let large = large_bytes CONFIG_LIMIT (old.told c.args.name.now) (c.in-Err-TooLarge.ensures.too_large (ap Err c.in-Err-TooLarge.field-0-is)) in
    ((large.0, large.1, Too_large large.2 refl), c.in-Err-TooLarge.ensures.same_counts (λ e. cc))
