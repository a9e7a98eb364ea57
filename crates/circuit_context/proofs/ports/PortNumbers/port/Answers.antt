use Rattle.std.proofs.Common.{◌∙◌, length, refl, ap}
use Rattle.std.specs.Option.{option_map}
use Rattle.std.proofs.lemmas.Option.{slice_get-map, slice_get_read}
use Rattle.circuit_context.proofs.Numbering.{at_within, at_own}
use Rattle.circuit_context.proofs.ports.PortNumbers.port.Goals as goal

pub returns : goal.returns
returns c = λ p it array ports at access own.
    let rows = c.args.self.now.numbers.items in
    let row = c.index-ports.result.now in
    let there = slice_get_read rows (length rows) c.args.node.0 row refl (at_within (λ r. length r.items) rows c.args.node.0 c.args.number c.requires) c.index-ports.ensures in
    ports.numbers c.args.node.0 c.args.number c.index.result.now row.items it array at access own (slice_get-map (λ r. r.items) rows c.args.node.0 ∙ ap (option_map (λ r. r.items)) there)
    (slice_get_read row.items (length row.items) c.args.number c.index.result.now refl (at_own (λ r. length r.items) rows c.args.node.0 c.args.number row c.requires there) c.index.ensures)
