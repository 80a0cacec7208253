-- The pieces of the name.
use Rattle.std.proofs.Common.{rules, ◌≡◌, ◌++◌, IfOk, codes, append_assoc, sym, ◌∙◌, string_bytes}
use Rattle.std.specs.Fmt.{decimal}
use Rattle.std.proofs.lemmas.Result.{IfOk-weaker}
use Rattle.sweep_due.specs.CertificateNames.{file_at}
use Rattle.sweep.proofs.kept.file_at.Goals as goal

pub returns : goal.returns
returns c =
    let name = c.args.name.now in
    let written : IfOk c.format.result (λ file. string_bytes file ≡ name ++ (codes "." ++ decimal c.args.offset)) = search rules in
    IfOk-weaker c.format.result (λ file. string_bytes file ≡ name ++ (codes "." ++ decimal c.args.offset)) (λ file. string_bytes file ≡ file_at name c.args.offset)
    (λ file is. is ∙ sym (append_assoc name (codes ".") (decimal c.args.offset))) written
