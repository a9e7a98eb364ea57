use Rattle.std.proofs.Common.{◌↔◌, IsTrue, true, sym, subst}
use Rattle.verilog_syntax.specs.declared.form.Class.TheVariants as class
use Rattle.verilog_syntax.specs.declared.token.Kind.{Kind}
use Rattle.verilog_syntax.specs.Views.{token_of}
use Rattle.verilog_syntax.specs.Forms.{FitsClass}
use Rattle.verilog_syntax.proofs.Classes.{constant_is_operand, no_operand}
use Rattle.verilog_syntax.proofs.form.is_operand.Goals as goal

pub returns-in-Constant : goal.returns-in-Constant
returns-in-Constant c =
    let P : Kind → Type 0 = λ x. IsTrue true ↔ FitsClass class.Operand (token_of x) in subst P (sym c.in-Constant.is) (constant_is_operand c.in-Constant.bits c.in-Constant.digits)

pub returns-in_default : goal.returns-in_default
returns-in_default c = no_operand c.args.kind c.in_default.not-Name c.in_default.not-Constant
