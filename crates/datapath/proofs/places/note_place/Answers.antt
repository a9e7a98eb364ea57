use Rattle.std.proofs.Common.{◌∙◌, sym}
use Rattle.datapath.proofs.Noting.{registers_kept, registers_more}
use Rattle.datapath.proofs.places.note_place.Goals as goal

pub returns-then-contains_key : goal.returns-then-contains_key
returns-then-contains_key c = λ held h. registers_kept held c.args.row c.args.registers.now.entries h (sym c.contains_key.ensures ∙ c.if-contains_key.true)

pub returns : goal.returns
returns c = λ held h.
    registers_more held c.args.row c.args.registers.now.entries c.insert.new.self.entries h (sym c.contains_key.ensures ∙ c.if-contains_key.false) c.in_ok-insert.ensures.updates.0
