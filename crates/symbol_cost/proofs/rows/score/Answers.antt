use Rattle.std.proofs.Common.{◌≡◌, ℕ, ◌+◌, ◌*◌, ◌<◌, ◌++◌, ◌∷◌, [], List, take, length, get_or, None, refl, sym, ap, ◌∙◌, arith}
use Rattle.std.proofs.lemmas.List.{take_more, take_all, length-take-le}
use Rattle.signal_base.specs.declared.tuning.Tuning.{Tuning}
use Rattle.definitions.specs.heard.Logs.{Records}
use Rattle.definitions.specs.heard.Receivers.{receptions}
use Rattle.definitions.specs.heard.Costs.{second_cost, slot_cost}
use Rattle.symbol_cost.specs.Rows.{heard}
use Rattle.symbol_cost.proofs.RowLaws.{slot_cost_more}
use Rattle.symbol_cost.proofs.rows.score.Goals as goal

pub loop-i-init : goal.loop-i-init
loop-i-init c = record {
  slots = refl;
  each = λ k x h s. c.requires.free k x;
  small = λ k x. omega (arith, c.requires.free k x);
}

pub add_receiver-requires-clause-slots : goal.add_receiver-requires-clause-slots
add_receiver-requires-clause-slots c = let slots = c.loop-i.invariant.slots in omega arith

pub add_receiver-requires-clause-room : goal.add_receiver-requires-clause-room
add_receiver-requires-clause-room c k x = let small = c.loop-i.invariant.small k x in omega arith

pub loop-i-preserved : goal.loop-i-preserved
loop-i-preserved c =
    let i = c.loop-i.i in
    let ts = c.args.tunings.now in
    let ls = c.args.logs.now in
    let before = c.loop-i.invariant in
    let d : Tuning = record { delay = 0; weight = 0; table = None } in
    let log = c.index-logs-i.result in
    let in_logs : i < length ls = omega arith in
    let same : length (take i ts) ≡ length (take i ls) = length-take-le i ts (omega arith) ∙ sym (length-take-le i ls (omega arith)) in
    let more_ls : take (i + 1) ls ≡ take i ls ++ log ∷ [] = take_more ls i log in_logs ∙ ap (λ (l : Records). take i ls ++ l ∷ []) (sym c.index-logs-i.is) in
    let cost = λ (us : List Tuning) (ms : List Records) (k x : ℕ). slot_cost c.args.table.now (receptions us ms) c.args.station c.args.begin k x in
    let adds = c.add_receiver.ensures in
    record {
      slots = adds.slots ∙ before.slots;
      each = λ k x h s.
          let grown = slot_cost_more c.args.table.now (take i ts) (take i ls) (get_or ts i d) log c.args.station c.args.begin k x same in
          let whole = ap (λ us. cost us (take (i + 1) ls) k x) (take_more ts i d c.loop-i-test.true) ∙ ap (λ ms. cost (take i ts ++ get_or ts i d ∷ []) ms k x) more_ls in
          let second = second_cost c.args.table.now (heard (get_or ts i d) log) c.args.station (c.args.begin + (get_or ts i d).delay + 1000 * k) x in
          adds.each k x (let slots = before.slots in omega arith) s ∙ ap (λ n. n + second) (before.each k x h s) ∙ sym (whole ∙ grown);
      small = λ k x. omega (arith, adds.bound k x, before.small k x);
    }

pub returns : goal.returns
returns c =
    let ts = c.args.tunings.now in
    let ls = c.args.logs.now in
    let so_far = c.loop-i.invariant in
    let all : c.loop-i.i ≡ length ts = omega arith in
    let all_ts : take c.loop-i.i ts ≡ ts = take_all c.loop-i.i ts (omega arith) in
    let all_ls : take c.loop-i.i ls ≡ ls = take_all c.loop-i.i ls (omega arith) in
    rw (all_ts, all_ls, all) at so_far
