use Rattle.std.proofs.Common.{ℕ, ap, inl, inr, ⊎_elim}
use Rattle.std.proofs.lemmas.Bool.{eq-eqb}
use Rattle.bank_files.specs.Memory.{next_call}
use Rattle.bank_files.proofs.Counting.{listed_is}
use Rattle.bank_files.proofs.memory.MemoryFiles.is_refused.Goals as goal

pub returns-then-self-clause-refused : goal.returns-then-self-clause-refused
returns-then-self-clause-refused c = (λ yes. inr c.if-self.true, λ refused. eq-eqb c.args.self.now.starved 18446744073709551615 c.if-self.true)

pub returns-then-self-clause-counted : goal.returns-then-self-clause-counted
returns-then-self-clause-counted c = ap (λ (n : ℕ). record c.args.self.now { calls = n }) c.saturating_add-self.ensures

pub returns-else-self-clause-refused : goal.returns-else-self-clause-refused
returns-else-self-clause-refused c =
    let told = listed_is c.args.self.now.failing.items c.deref.result.now c.saturating_add-self.result (next_call c.args.self.now) c.contains.result
    c.contains.ensures.value c.deref.ensures.value c.saturating_add-self.ensures in
    (λ yes. inl (told.0 yes), λ refused. ⊎_elim (λ listed. told.1 listed) (λ full. absurd (c.if-self.false full)) refused)

pub returns-else-self-clause-counted : goal.returns-else-self-clause-counted
returns-else-self-clause-counted c = ap (λ (n : ℕ). record c.args.self.now { calls = n }) c.saturating_add-self.ensures
