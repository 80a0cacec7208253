-- The slots, and then the sums.
use Rattle.std.proofs.Common.{◌++◌, ap, ◌∙◌}
use Rattle.std.specs.List.{flat_map}
use Rattle.std.proofs.lemmas.Result.{err_from_is_err_and}
use Rattle.bank_files.specs.declared.files.Failed.{Failed}
use Rattle.bank_files.specs.Told.{output_name}
use Rattle.bank_files.proofs.Chaining.{Writes-failed}
use Rattle.formats.specs.Heard.{receiver_sums, slots_lines, sum_line}
use Rattle.formats.specs.Reports.{next_line}
use Rattle.heard.specs.Seen.{hearing_seen}
use Rattle.heard.proofs.TextLaws.{goes_on}
use Rattle.heard.proofs.hearing.Hearing.write.Goals as goal

pub returns-in_err-write_slots : goal.returns-in_err-write_slots
returns-in_err-write_slots g c =
    let h = hearing_seen c.args.self.now in
    let p = err_from_is_err_and c.from_residual.result c.from_residual.ensures.1 in
    rw (p.1, p.2)
    (Writes-failed {E = Failed} output_name (g.F.Files.view c.args.files.now) (g.F.Files.view c.write_slots.new.files) (slots_lines h h.window.seconds)
    (flat_map sum_line (receiver_sums h) ++ next_line h.next) c.in_err-write_slots.field-0.0 c.in_err-write_slots.ensures)

pub returns : goal.returns
returns g c =
    let h = hearing_seen c.args.self.now in
    let sums = c.as_slice.ensures ∙ c.sums.ensures.sums in
    goes_on {E = Failed} (g.F.Files.view c.args.files.now) (g.F.Files.view c.write_slots.new.files) (g.F.Files.view c.write_sums_heard.new.files) _ _ _ c.write_sums_heard.result
    (ap (λ rs. slots_lines h h.window.seconds ++ (flat_map sum_line rs ++ next_line h.next)) sums) c.in_ok-write_slots.ensures c.write_sums_heard.ensures
