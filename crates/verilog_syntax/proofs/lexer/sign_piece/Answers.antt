use Rattle.std.proofs.Common.{◌∙◌, sym, arith}
use Rattle.verilog_syntax.proofs.Pieces.{NoDouble, double_first, single_first, nothing_first}
use Rattle.verilog_syntax.proofs.lexer.sign_piece.Goals as goal
use Rattle.verilog_syntax.proofs.lexer.sign_piece.Goals.{then-left-ge2+in_default, else-left-ge2}

pub returns-in-Some : goal.returns-in-Some
returns-in-Some c = double_first c.args.left.now c.in-Some.sign c.if-left-ge2.true (sym c.double_sign.ensures ∙ c.in-Some.is)

pub returns-in-Some-single_sign : goal.returns-in-Some-single_sign
returns-in-Some-single_sign c =
    let none : NoDouble c.args.left.now = λ long. elim c.if-left-ge2.branch [ then-left-ge2+in_default w ↦ sym w.double_sign.ensures ∙ w.in_default.is | else-left-ge2 w ↦ absurd (omega arith) ] in
    single_first c.args.left.now c.in-Some-single_sign.sign c.requires.some none (sym c.single_sign.ensures ∙ c.in-Some-single_sign.is)

pub returns-in-None : goal.returns-in-None
returns-in-None c =
    let none : NoDouble c.args.left.now = λ long. elim c.if-left-ge2.branch [ then-left-ge2+in_default w ↦ sym w.double_sign.ensures ∙ w.in_default.is | else-left-ge2 w ↦ absurd (omega arith) ] in
    nothing_first c.args.left.now c.requires.some c.requires.white c.requires.letter c.requires.digit c.requires.slash none (sym c.single_sign.ensures ∙ c.in-None.is)
