use Rattle.std.proofs.Common.{◌≡◌, ℕ, ◌+◌, ◌*◌, ◌∙◌, [], get_or, refl, ap, arith}
use Rattle.signal_base.specs.Waveform.{waveform}
use Rattle.signal_base.specs.declared.tuning.CostTable.{CostTable}
use Rattle.definitions.specs.heard.Logs.{Records}
use Rattle.definitions.specs.heard.Costs.{counted, second_cost, table_of, tenths_cost}
use Rattle.symbol_cost.specs.Rows.{Adds, heard}
use Rattle.symbol_cost.proofs.RowLaws.{rows_more}
use Rattle.symbol_cost.proofs.receivers.add_receiver.Goals as goal

pub loop-slot-init : goal.loop-slot-init
loop-slot-init c = record {
  grown = record {
    slots = refl;
    done = λ k x h. absurd (omega arith);
    rest = λ k h. refl;
    bound = λ k x. omega arith;
  };
  at = omega (arith, c.tenths-tenths.ensures.at);
  log = c.tenths-tenths.ensures.log;
}

pub add_second-requires-clause-at : goal.add_second-requires-clause-at
add_second-requires-clause-at c = let at = c.loop-slot.invariant.at in let late = c.requires.tuned.delay in omega arith

pub add_second-requires-clause-room : goal.add_second-requires-clause-room
add_second-requires-clause-room c x =
    let n = c.loop-slot.slot in
    let before : get_or c.loop-slot.rows n [] ≡ get_or c.args.rows.now n [] = c.loop-slot.invariant.grown.rest n (omega arith) in
    rw before (c.requires.room n x)

pub loop-slot-preserved : goal.loop-slot-preserved
loop-slot-preserved c =
    let n = c.loop-slot.slot in
    let tuning = c.args.tuning.now in
    let log = c.args.log.now in
    let station = c.args.station in
    let from = c.args.begin + tuning.delay + 1000 * n in
    let before = c.loop-slot.invariant in
    let more = λ (k x : ℕ). second_cost c.args.table.now (heard tuning log) station (c.args.begin + tuning.delay + 1000 * k) x in
    let cost = λ (table : CostTable) (l : Records) (at x : ℕ). tuning.weight * counted table.second station (λ y. tenths_cost table l at (waveform station y)) x in
    let adds : Adds station (get_or c.loop-slot.rows n []) c.add_second.new.row (more n) =
    λ x h. c.add_second.ensures.adds x h
    ∙ ap (λ (sum : ℕ). get_or (get_or c.loop-slot.rows n []) x 0 + sum)
    (ap (λ t. cost t c.loop-slot.tenths.log c.loop-slot.tenths.at x) c.table_of-own.ensures.table
    ∙ ap (λ l. cost (table_of c.args.table.now tuning) l c.loop-slot.tenths.at x) before.log ∙ ap (λ at. cost (table_of c.args.table.now tuning) log at x) before.at) in
    record {
      grown = rows_more station c.args.rows.now c.loop-slot.rows n c.add_second.new.row more (omega arith) adds c.add_second.ensures.bound before.grown;
      at = omega (arith, c.add_second.ensures.at, before.at);
      log = c.add_second.ensures.log ∙ before.log;
    }

pub returns : goal.returns
returns c =
    let grown = c.loop-slot.invariant.grown in
    record {
      slots = grown.slots;
      each = λ k x h s. grown.done k x (omega arith) s;
      bound = grown.bound;
    }
