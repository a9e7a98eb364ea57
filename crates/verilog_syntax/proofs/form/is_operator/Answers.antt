use Rattle.std.proofs.Common.{◌∙◌, ◌↔◌, IsTrue, sym, ap, subst, Bool}
use Rattle.std.specs.Option.{is_some}
use Rattle.verilog_syntax.specs.declared.form.Class.TheVariants as class
use Rattle.verilog_syntax.specs.declared.token.Kind.{Kind}
use Rattle.verilog_syntax.specs.declared.token.Kind.TheVariants as kind
use Rattle.verilog_syntax.specs.Views.{token_of}
use Rattle.verilog_syntax.specs.Forms.{FitsClass}
use Rattle.verilog_syntax.proofs.Classes.{operator_when}
use Rattle.verilog_syntax.proofs.form.is_operator.Goals as goal

pub returns-in-Sign : goal.returns-in-Sign
returns-in-Sign c =
    let P : Kind → Type 0 = λ x. IsTrue c.is_some.result ↔ FitsClass class.Operator (token_of x) in
    let Q : Bool → Type 0 = λ b. IsTrue b ↔ FitsClass class.Operator (token_of (kind.Sign c.in-Sign.sign)) in
    subst P (sym c.in-Sign.is) (subst Q (sym (c.is_some.ensures ∙ ap is_some c.operator_of.ensures)) (operator_when c.in-Sign.sign))
