use Rattle.std.proofs.Common.{arith, take, drop, length, length-take, length-drop, subst, ◌-◌}
use Rattle.std.proofs.lemmas.List.{take_rest}
use Rattle.std.proofs.lemmas.Result.{err_from_is_err_and}
use Rattle.bank_files.specs.Told.{appended, Tells}
use Rattle.bank_files.proofs.Telling.{Tells-appended_part, AppendsFront-part}
use Rattle.bank_files.proofs.Chaining.{HasFault-from, SameCounts-then, OnlyWrites-then}
use Rattle.bank_files.proofs.whole.write_all.Goals as goal

pub returns-in_err-done-2 : goal.returns-in_err-done-2
returns-in_err-done-2 g c =
    let name = c.args.name.now in
    let before = g.F.Files.view c.args.files.now in
    let mid = g.F.Files.view c.loop-done.files in
    let after = g.F.Files.view c.append-in-loop-done.new.self in
    let so_far = c.loop-done.invariant in
    let failed = c.in_err-done-2.ensures in
    let p = err_from_is_err_and c.from_residual-in_err-done-2.result c.from_residual-in_err-done-2.ensures.1 in
    rw p.1
    (record {
      whole = tt;
      front = AppendsFront-part (before.told name) (mid.told name) (after.told name) c.args.bytes.now c.loop-done.done so_far.so_far failed.unchanged;
      cause = HasFault-from (before.write_faults name) (mid.write_faults name) (after.write_faults name) (so_far.only.counts.of_writes name) failed.cause;
      same_counts = tt;
      only = OnlyWrites-then before mid after name so_far.only failed.only;
    })

pub loop-done-preserved : goal.loop-done-preserved
loop-done-preserved g c =
    let name = c.args.name.now in
    let before = g.F.Files.view c.args.files.now in
    let mid = g.F.Files.view c.loop-done.files in
    let after = g.F.Files.view c.append-in-loop-done.new.self in
    let bytes = c.args.bytes.now in
    let done = c.loop-done.done in
    let more = c.in_ok-done-2.field-0 in
    record {
      within = omega (arith, c.in_ok-done-2.ensures.length, length-take (length bytes - done) (drop done bytes), length-drop done bytes);
      so_far = Tells-appended_part (before.told name) (mid.told name) (after.told name) bytes done more c.loop-done.invariant.so_far
          (subst (λ xs. Tells (appended (mid.told name) (take more xs)) (after.told name)) (take_rest bytes done) c.in_ok-done-2.ensures.appended);
      same_counts = SameCounts-then before mid after c.loop-done.invariant.same_counts c.in_ok-done-2.ensures.same_counts;
      only = OnlyWrites-then before mid after name c.loop-done.invariant.only c.in_ok-done-2.ensures.only;
    }
