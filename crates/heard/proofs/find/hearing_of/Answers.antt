-- The parts of what is kept fit each other.
use Rattle.std.proofs.Common.{List, sym, subst}
use Rattle.formats.specs.Heard.{costs_of}
use Rattle.symbol_cost.specs.Grid.{Grid}
use Rattle.plain_costs.specs.Grids.{HaveCosts}
use Rattle.heard.specs.Kept.{hearing_in}
use Rattle.heard.proofs.ValueLaws.{all_told}
use Rattle.heard.proofs.find.hearing_of.Goals as goal

pub invariant_of-result : goal.invariant_of-result
invariant_of-result c =
    let window = c.args.window in
    let costs = costs_of (hearing_in c.args.bank c.args.places.items window c.args.sequence c.args.next) in
    let have = subst (λ (gs : List Grid). HaveCosts window gs costs) (sym c.as_slice.ensures.value) c.requires.costs in
    let also = subst (λ (gs : List Grid). HaveCosts window gs costs) (sym c.as_slice-2.ensures.value) c.requires.costs in
    record {
      kept = record {
        bank_is = c.requires.bank;
        few = c.requires.few;
        within = c.requires.within;
        heard = c.requires.heard;
        grids_are = c.requires.grids;
        costs_are = c.requires.costs;
        told_are = all_told (record { msf = c.told_in.result; wwvb = c.told_in-2.result }) window costs c.args.sequence (c.told_in.ensures costs have) (c.told_in-2.ensures costs also);
        window_is = c.requires.window;
        sequence_is = c.requires.sequence;
        walkable = c.requires.walkable;
      };
    }
