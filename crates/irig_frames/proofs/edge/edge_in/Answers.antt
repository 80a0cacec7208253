-- The first line is that of an edge, or the text begins with none.
use Rattle.std.proofs.lemmas.List.{take_rest}
use Rattle.irig_frames.proofs.EdgeLaws.{edge_found, edge_spelled, no_edge}
use Rattle.irig_frames.proofs.edge.edge_in.Goals as goal

pub returns-in_err-end-clause-none : goal.returns-in_err-end-clause-none
returns-in_err-end-clause-none c = rw c.from_residual.ensures (no_edge c.args.letter c.requires c.args.text.now c.in_err-end.ensures)

pub returns-in_err-ms-clause-none : goal.returns-in_err-ms-clause-none
returns-in_err-ms-clause-none c = rw c.from_residual-in_err-ms.ensures (λ ms begins.
    c.in_err-ms.ensures.none ms (edge_spelled c.args.letter c.requires c.args.text.now c.in_ok-end.end c.in_ok-end.ensures ms begins))

pub returns-clause-edge : goal.returns-clause-edge
returns-clause-edge c =
    rw take_rest (edge_found c.args.letter c.requires c.args.text.now c.in_ok-end.end c.in_ok-end.ensures c.in_ok-ms.ms c.in_ok-ms.ensures.time)
