use Rattle.std.proofs.Common.{◌≡◌, ◌∙◌, ap, Err}
use Rattle.std.proofs.lemmas.Result.{err_from_is_err_and}
use Rattle.bank_files.specs.declared.whole.ReadWhole.TheVariants.{NoMemory}
use Rattle.bank_files.proofs.Chaining.{SameCounts-start, OnlyReads-start}
use Rattle.bank_files.proofs.whole.read_whole.Goals as goal

pub returns-in_err-piece : goal.returns-in_err-piece
returns-in_err-piece g c =
    let before = g.F.Files.view c.args.files.now in
    let p = err_from_is_err_and c.from_residual.result c.from_residual.ensures.1 in
    let is : c.from_residual.result ≡ Err NoMemory = p.1 ∙ ap Err p.2 in
    rw is
    (record {
      whole = tt;
      within = tt;
      failed = λ other. cc;
      too_large = λ other. cc;
      same_counts = λ here. SameCounts-start before;
      only = OnlyReads-start before;
    })

pub returns-in_err-read_into : goal.returns-in_err-read_into
returns-in_err-read_into g c =
    let told = c.in_err-read_into.ensures in
    let p = err_from_is_err_and c.from_residual-in_err-read_into.result c.from_residual-in_err-read_into.ensures.1 in
    let is : c.from_residual-in_err-read_into.result ≡ Err c.in_err-read_into.field-0.0 = p.1 ∙ ap Err p.2 in
    rw is
    (record {
      whole = tt;
      within = tt;
      failed = λ here. told.failed cc;
      too_large = λ here. told.too_large cc;
      same_counts = λ other. told.same_counts (λ here. other cc);
      only = told.only;
    })
