use Rattle.std.proofs.Common.{◌∙◌, Some, ap, sym, arith}
use Rattle.std.proofs.lemmas.Option.{slice_get-get_or}
use Rattle.rtl_logic.proofs.Equalities.{wire_same}
use Rattle.rtl_logic.proofs.logic.Logic.earlier.Goals as goal

pub returns-then-eq : goal.returns-then-eq
returns-then-eq c =
    slice_get-get_or c.args.self.now.builder.design.wires.items c.in_ok-number.field-0.now c.index.result.now (omega (arith, c.if-k-len.true, c.len.ensures))
    ∙ ap (λ w. Some w) (sym c.index.ensures ∙ wire_same c.index.result.now c.args.wire (sym c.eq.ensures ∙ c.if-eq.true))
