use Rattle.std.proofs.Common.{subst, IsTrue, take, drop}
use Rattle.std.specs.List.{list_all}
use Rattle.aig_text.specs.TextForm.{in_line}
use Rattle.aig_text.specs.Reading.{Follows}
use Rattle.aig_text.proofs.Wholes.{is_empty, not_empty, some_length}
use Rattle.aig_text.proofs.Tails.{symbol_taken, symbol_unended}
use Rattle.aig_text.proofs.tail.symbol_line.Goals as goal

pub returns-then-is_empty : goal.returns-then-is_empty
returns-then-is_empty c =
    let n = c.line_length-n.result in
    let e = is_empty _ _ _ c.left-2.ensures c.is_empty.ensures c.if-is_empty.true in
    (symbol_unended n _ _ (subst (λ z. IsTrue (list_all in_line (take n z))) c.left.ensures c.line_length-n.ensures.line) c.advance.ensures e, e)

pub advance-requires-2 : goal.advance-requires-2
advance-requires-2 c = some_length _ (not_empty _ _ _ c.left-2.ensures c.is_empty.ensures c.if-is_empty.false)

pub returns : goal.returns
returns c =
    let n = c.line_length-n.result in
    symbol_taken n _ _ _ c.requires (subst (λ z. IsTrue (list_all in_line (take n z))) c.left.ensures c.line_length-n.ensures.line)
    (subst (λ z. Follows in_line (drop n z)) c.left.ensures c.line_length-n.ensures.ends) c.advance.ensures (not_empty _ _ _ c.left-2.ensures c.is_empty.ensures c.if-is_empty.false) c.advance-2.ensures
