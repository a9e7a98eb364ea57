use Rattle.std.proofs.Common.{sym, subst}
use Rattle.aig_graph.specs.Graphs.{graph_of}
use Rattle.aig_text.specs.TextForm.{IsText}
use Rattle.aig_text.proofs.Wholes.{if_ok, if_refused}
use Rattle.aig_text.proofs.round_trip.round_trip.Goals as goal

pub returns-clause-same : goal.returns-clause-same
returns-clause-same c =
    let g = graph_of c.args.graph.now in
    let is = subst (λ z. IsText z g) (sym c.items.ensures) c.in_ok-text.ensures.related in
    if_ok c.read.result c.read.ensures.only (λ x only. sym (only g is))

pub returns-clause-read : goal.returns-clause-read
returns-clause-read c =
    let g = graph_of c.args.graph.now in
    let is = subst (λ z. IsText z g) (sym c.items.ensures) c.in_ok-text.ensures.related in
    if_refused c.read.result c.read.ensures.never (λ x never. never g is)
