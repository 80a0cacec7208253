-- What the words ask is in its ranges; and no file of a certificate is standard output.
use Rattle.std.proofs.Common.{◌≡◌, ◌≢◌, ℕ, ◌+◌, List, [], ◌∷◌, ◌++◌, length, length-append, codes, ap, arith}
use Rattle.std.specs.Fmt.{decimal}
use Rattle.bank_files.specs.Told.{output_name}
use Rattle.formats.specs.OrderRanges.{IsInRange as IsOrderInRange}
use Rattle.formats.specs.Orders.Order.{Judge}
use Rattle.sweep_due.specs.CertificateNames.{file_at}
use Rattle.judges.specs.declared.words.JudgeTask.{JudgeTask}
use Rattle.judges.specs.Tasks.{IsInRange}

pub task_in_range : (t : JudgeTask) → IsOrderInRange (Judge t.config.now t.name.now t.asked) → IsInRange t
task_in_range t is = record { config = is.0; name = is.1; asked = is.2 }

first_of : (b c : ℕ) (bs cs : List ℕ) → b ∷ bs ≡ c ∷ cs → b ≡ c
first_of b c bs cs e = cc

pub no_output : (name : List ℕ) (offset : ℕ) → file_at name offset ≢ output_name
no_output [] offset e = absurd (omega (arith, first_of 46 45 (decimal offset) [] e))
no_output (b ∷ bs) offset e =
    absurd (omega (arith, length-append (bs ++ codes ".") (decimal offset), length-append bs (codes "."), ap length e))
