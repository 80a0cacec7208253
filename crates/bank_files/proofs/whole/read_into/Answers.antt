use Rattle.std.proofs.Common.{◌≡◌, arith, length, length-take, ◌≤◌, ◌∙◌, ap, refl, Err}
use Rattle.std.proofs.lemmas.Result.{err_from_is_err_and}
use Rattle.bank_files.specs.declared.whole.ReadWhole.TheVariants.{Failed, NoMemory}
use Rattle.bank_files.proofs.Pieces.{file_whole, file_exceeds, file_more}
use Rattle.bank_files.proofs.Chaining.{HasFault-from, SameCounts-then, OnlyReads-then}
use Rattle.bank_files.proofs.whole.read_into.Goals as goal

pub returns-then-n-eq0-clause-whole : goal.returns-then-n-eq0-clause-whole
returns-then-n-eq0-clause-whole g c =
    let name = c.args.name.now in
    let before = g.F.Files.view c.args.files.now in
    let mid = g.F.Files.view c.loop-n.files in
    file_whole (before.told name) (mid.told name) c.loop-n.bytes.items c.read_at.new.into _ _ c.args.limit
    (ap (λ told. told name) c.loop-n.invariant.only.told) (omega arith) (omega arith) (omega arith) (omega arith) c.loop-n.invariant.front c.in_ok-n.ensures.bytes

pub returns-then-n-limit-clause-too_large : goal.returns-then-n-limit-clause-too_large
returns-then-n-limit-clause-too_large g c _ =
    let name = c.args.name.now in
    let before = g.F.Files.view c.args.files.now in
    let mid = g.F.Files.view c.loop-n.files in
    file_exceeds (before.told name) (mid.told name) c.read_at.new.into _ _ c.args.limit
    (ap (λ told. told name) c.loop-n.invariant.only.told) (omega (arith, c.in_ok-n.ensures.length)) (omega arith) (omega arith) c.in_ok-n.ensures.bytes

pub loop-n-preserved : goal.loop-n-preserved
loop-n-preserved g c =
    let name = c.args.name.now in
    let before = g.F.Files.view c.args.files.now in
    let mid = g.F.Files.view c.loop-n.files in
    let after = g.F.Files.view c.read_at.new.self in
    let piece = c.read_at.new.into in
    let fits : c.in_ok-n.n ≤ length piece = omega (arith, c.in_ok-n.ensures.length) in
    record {
      within = omega (arith, c.in_ok-extend_from_slice.ensures.len, length-take c.in_ok-n.n piece);
      front = λ file is. rw c.in_ok-extend_from_slice.ensures.items
          (file_more (before.told name) (mid.told name) c.loop-n.bytes.items piece c.len-have.result c.in_ok-n.n
          (ap (λ told. told name) c.loop-n.invariant.only.told) (omega arith) fits c.loop-n.invariant.front c.in_ok-n.ensures.bytes file is);
      same_counts = SameCounts-then before mid after c.loop-n.invariant.same_counts c.in_ok-n.ensures.same_counts;
      only = OnlyReads-then before mid after c.loop-n.invariant.only c.in_ok-n.ensures.only;
    }

pub returns-in_err-n : goal.returns-in_err-n
returns-in_err-n g c =
    let name = c.args.name.now in
    let before = g.F.Files.view c.args.files.now in
    let mid = g.F.Files.view c.loop-n.files in
    let after = g.F.Files.view c.read_at.new.self in
    let p = err_from_is_err_and c.from_residual.result c.from_residual.ensures.1 in
    let is : c.from_residual.result ≡ Err Failed = p.1 ∙ ap Err p.2 in
    rw is
    (record {
      whole = tt;
      within = tt;
      failed = λ here. HasFault-from (before.read_faults name) (mid.read_faults name) (after.read_faults name) (c.loop-n.invariant.only.counts.of_reads name) c.in_err-n.ensures.cause;
      too_large = λ other. cc;
      same_counts = λ other. absurd (other refl);
      only = OnlyReads-then before mid after c.loop-n.invariant.only c.in_err-n.ensures.only;
    })

pub returns-in_err-extend_from_slice : goal.returns-in_err-extend_from_slice
returns-in_err-extend_from_slice g c =
    let before = g.F.Files.view c.args.files.now in
    let mid = g.F.Files.view c.loop-n.files in
    let after = g.F.Files.view c.read_at.new.self in
    let p = err_from_is_err_and c.from_residual-in_err-extend_from_slice.result c.from_residual-in_err-extend_from_slice.ensures.1 in
    let is : c.from_residual-in_err-extend_from_slice.result ≡ Err NoMemory = p.1 ∙ ap Err p.2 in
    rw is
    (record {
      whole = tt;
      within = tt;
      failed = λ other. cc;
      too_large = λ other. cc;
      same_counts = λ here. SameCounts-then before mid after c.loop-n.invariant.same_counts c.in_ok-n.ensures.same_counts;
      only = OnlyReads-then before mid after c.loop-n.invariant.only c.in_ok-n.ensures.only;
    })

pub returns-then-n-limit-clause-same_counts : goal.returns-then-n-limit-clause-same_counts
returns-then-n-limit-clause-same_counts g c = λ here.
    SameCounts-then (g.F.Files.view c.args.files.now) (g.F.Files.view c.loop-n.files) (g.F.Files.view c.read_at.new.self) c.loop-n.invariant.same_counts c.in_ok-n.ensures.same_counts
