use Rattle.std.proofs.Common.{◌↔◌, IsTrue, true, sym, subst, refl}
use Rattle.rtl_core.proofs.Checks.{confirmed}
use Rattle.verilog_syntax.specs.declared.form.Class.TheVariants as class
use Rattle.verilog_syntax.specs.declared.token.Kind.{Kind}
use Rattle.verilog_syntax.specs.Views.{token_of}
use Rattle.verilog_syntax.specs.Forms.{FitsClass}
use Rattle.verilog_syntax.proofs.form.is_number.Goals as goal

pub returns-in-Number : goal.returns-in-Number
returns-in-Number c =
    let P : Kind → Type 0 = λ x. IsTrue true ↔ FitsClass class.Number (token_of x) in subst P (sym c.in-Number.is) (confirmed (c.in-Number.field-0.now, refl))
