-- One piece more is at the end of those before it; the last read says that they are the file, or that it is too large.
use Rattle.std.proofs.Common.{ℕ, ◌≤◌, ◌++◌, List, [], length, take, refl, ap, ◌∙◌, arith}
use Rattle.bank_files.proofs.Chaining.{OnlyReads-start, OnlyReads-then, SameCounts-start, SameCounts-then}
use Rattle.certificates.specs.declared.limits.TheConstants.{CERTIFICATE_LIMIT}
use Rattle.bank.proofs.ReadingLaws.{large_bytes}
use Rattle.checks.proofs.PieceLaws.{file_exceeds, file_more, file_whole, length_more}
use Rattle.checks.proofs.reading.judge_file.Goals as goal

pub loop-n-init : goal.loop-n-init
loop-n-init g c =
    let old = g.F.Files.view c.args.files.now in
    record {
      within = omega arith;
      bytes = [];
      place = refl;
      stands = c.make-checker.ensures;
      front = λ file is. refl;
      same_counts = SameCounts-start old;
      only = OnlyReads-start old;
    }

pub returns-then-n-eq0-clause-outcome : goal.returns-then-n-eq0-clause-outcome
returns-then-n-eq0-clause-outcome g c =
    let name = c.args.name.now in
    let before = g.F.Files.view c.args.files.now in
    let mid = g.F.Files.view c.loop-n.files in
    let fits : c.in_ok-n.n ≤ length c.read_at.new.into = omega (arith, c.in_ok-n.ensures.length) in
    let inv = c.loop-n.invariant in (
      inv.bytes,
      file_whole (before.told name) (mid.told name) c.read_at.new.into c.loop-n.at c.in_ok-n.n (ap (λ told. told name) inv.only.told) fits c.in_ok-n.ensures.bytes
          inv.bytes inv.place (omega arith) (omega arith) inv.front,
      c.finish.ensures.outcome c.args.tables.now c.args.ceiling inv.bytes inv.stands,
    )

pub returns-then-n-at-clause-outcome : goal.returns-then-n-at-clause-outcome
returns-then-n-at-clause-outcome g c =
    let name = c.args.name.now in
    let before = g.F.Files.view c.args.files.now in
    let mid = g.F.Files.view c.loop-n.files in
    let fits : c.in_ok-n.n ≤ length c.read_at.new.into = omega (arith, c.in_ok-n.ensures.length) in
    let inv = c.loop-n.invariant in
    large_bytes CERTIFICATE_LIMIT (before.told name)
    (file_exceeds (before.told name) (mid.told name) c.read_at.new.into c.loop-n.at c.in_ok-n.n (ap (λ told. told name) inv.only.told) fits c.in_ok-n.ensures.bytes
    CERTIFICATE_LIMIT inv.within (omega arith))

pub loop-n-preserved : goal.loop-n-preserved
loop-n-preserved g c =
    let name = c.args.name.now in
    let before = g.F.Files.view c.args.files.now in
    let mid = g.F.Files.view c.loop-n.files in
    let after = g.F.Files.view c.read_at.new.self in
    let piece = c.read_at.new.into in
    let n = c.in_ok-n.n in
    let inv = c.loop-n.invariant in
    let told = ap (λ told. told name) inv.only.told in
    let fits : n ≤ length piece = omega (arith, c.in_ok-n.ensures.length) in
    record {
      within = omega arith;
      bytes = inv.bytes ++ take n piece;
      place = length_more (before.told name) (mid.told name) piece c.loop-n.at n told fits c.in_ok-n.ensures.bytes inv.bytes inv.place;
      stands = c.push.ensures c.args.tables.now c.args.ceiling inv.bytes inv.stands;
      front = file_more (before.told name) (mid.told name) piece c.loop-n.at n told fits c.in_ok-n.ensures.bytes inv.bytes inv.place inv.front;
      same_counts = SameCounts-then before mid after inv.same_counts c.in_ok-n.ensures.same_counts;
      only = OnlyReads-then before mid after inv.only c.in_ok-n.ensures.only;
    }
