use Rattle.std.proofs.Common.{◌≡◌, ◌+◌, ◌-◌, ◌*◌, ℕ, true, slice_index, subst, arith}
use Rattle.definitions.specs.sequences.Walks.{set_at}
use Rattle.definitions.specs.time.Calendar.{is_leap_end}
use Rattle.leap_unions.specs.Pieces.{announced_from}
use Rattle.leap_unions.proofs.KeptLaws.{later_walk}
use Rattle.leap_unions.proofs.row_maker.Maker.kept_tape.Goals as goal

pub overflow_add-result : goal.overflow_add-result
overflow_add-result c = omega (arith, c.requires.century)

pub overflow_add-result-2 : goal.overflow_add-result-2
overflow_add-result-2 c = omega (arith, c.requires.century)

pub returns-clause-kept : goal.returns-clause-kept
returns-clause-kept c =
    let w = c.args.self.now in
    let first = c.args.first in
    let tape = c.tape.result in
    record {
      few = omega (arith, c.requires.reach, w.few);
      short = λ t from before. c.requires.short t from (omega (arith, before));
      leap = λ t last. (let here : first + c.args.reach ≡ t = omega (arith, last) in subst (λ u. is_leap_end u ≡ true) here c.requires.leap);
      walk = λ t k from before lt.
          let m : ℕ = t - first in
          let at : first + m ≡ t = omega (arith, from) in
          subst (λ u. slice_index tape (60 * m + k) ≡ set_at w.station (announced_from 0 u) k) at
          (later_walk w.station w.seconds first m c.args.reach tape (omega (arith, before)) c.requires.short c.tape.ensures k lt);
    }
