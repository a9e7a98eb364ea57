use Rattle.std.proofs.Common.{◌≡◌, false, sym, subst}
use Rattle.verilog_syntax.specs.declared.module.Value.{Value}
use Rattle.verilog_syntax.specs.ModuleViews.{value_view}
use Rattle.verilog_read.specs.Faults.{is_in_range}
use Rattle.verilog_read.proofs.Values.{too_large}
use Rattle.verilog_read.proofs.widths.is_in_range.Goals as goal

pub returns-in-None : goal.returns-in-None
returns-in-None c =
    let P : Value → Type 0 = λ v. false ≡ is_in_range (value_view v) in subst P (sym c.in-Fixed.is) (too_large _ c.in-Fixed.bits c.in-None.ensures)
