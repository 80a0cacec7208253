-- A log is found by the bytes that were read, or refused for their number.
use Rattle.std.proofs.Common.{ℕ, List, Err, ap, string_bytes}
use Rattle.formats.specs.declared.limits.TheConstants.{LOG_LIMIT}
use Rattle.formats.specs.declared.refusal.Refusal.TheVariants.{LogTooLarge}
use Rattle.bank_config.specs.Configuration.{plain_receiver}
use Rattle.due.specs.LogFiles.{IsBad, Too_large}
use Rattle.bank.specs.Loading.{log_file}
use Rattle.bank.proofs.ReadingLaws.{large_bytes, read_is, refused_for}
use Rattle.bank.proofs.loading.read_one.Goals as goal

pub returns-in-Ok-clause-not_read : goal.returns-in-Ok-clause-not_read
returns-in-Ok-clause-not_read g c =
    let old = g.F.Files.view c.args.files.now in
    let file = string_bytes c.args.receiver.now.file in
    refused_for old (g.F.Files.view c.read_whole.new.files) file c.in-Ok.bytes.items c.as_slice.result.now (IsBad (log_file c.args.number (plain_receiver c.args.receiver.now))) c.log_in.result c.as_slice.ensures.value
    (read_is (old.told file) c.in-Ok.bytes.items LOG_LIMIT (rw (← c.as_str.ensures.value) c.in-Ok.ensures.whole)) (c.in-Ok.ensures.same_counts (λ e. cc)) c.log_in.ensures.refused

pub returns-in-Err-TooLarge-clause-not_read : goal.returns-in-Err-TooLarge-clause-not_read
returns-in-Err-TooLarge-clause-not_read g c =
    let old = g.F.Files.view c.args.files.now in
    let large = large_bytes LOG_LIMIT (old.told (string_bytes c.args.receiver.now.file)) (rw (← c.as_str.ensures.value) (c.in-Err-TooLarge.ensures.too_large (ap Err c.in-Err-TooLarge.field-0-is))) in
    ((large.0, large.1, Too_large large.2 (ap (λ (n : List ℕ). LogTooLarge c.args.number n) c.name_in.ensures)), c.in-Err-TooLarge.ensures.same_counts (λ e. cc))
