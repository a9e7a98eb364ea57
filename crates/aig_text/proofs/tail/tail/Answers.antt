use Rattle.std.proofs.Common.{◌∙◌, ap, sym, subst, codes}
use Rattle.aig_text.specs.TextForm.{begins_symbol, IsTail}
use Rattle.aig_text.specs.Reading.{begins_with, word}
use Rattle.aig_text.specs.Views.{ReadsTail}
use Rattle.aig_text.proofs.Reading.{passed, joined}
use Rattle.aig_text.proofs.Wholes.{is_empty, not_empty}
use Rattle.aig_text.proofs.Tails.{lines_none, lines_more, tail_behind, tail_empty, tail_unended, tail_stuck, tail_ended, symbol_shorter}
use Rattle.aig_text.proofs.tail.tail.Goals as goal

pub symbols-init : goal.symbols-init
symbols-init c = lines_none _

pub symbol_line-requires : goal.symbol_line-requires
symbol_line-requires c = ap (begins_with begins_symbol) (sym c.left.ensures) ∙ (sym c.begins_symbol.ensures ∙ c.symbols-test.true)

pub returns-in_err-symbol_line : goal.returns-in_err-symbol_line
returns-in_err-symbol_line c =
    let b = ap (begins_with begins_symbol) (sym c.left.ensures) ∙ (sym c.begins_symbol.ensures ∙ c.symbols-test.true) in
    passed (λ r. ReadsTail r c.args.cursor.now c.symbol_line.new.cursor) _ c.from_residual.ensures.1 (λ y e. e) (λ y h. h) c.in_err-symbol_line.ensures
    (λ k. tail_unended _ _ _ c.symbols.invariant b k.0 k.1)

pub symbols-preserved : goal.symbols-preserved
symbols-preserved c = let r = c.in_ok-symbol_line.ensures in lines_more _ _ _ r.0 c.symbols.invariant r.1 r.2

pub symbols-smaller : goal.symbols-smaller
symbols-smaller c = let r = c.in_ok-symbol_line.ensures in symbol_shorter _ r.0 _ r.1 r.2

pub returns-then-is_empty : goal.returns-then-is_empty
returns-then-is_empty c =
    let e = is_empty _ _ _ c.left-2.ensures c.is_empty.ensures c.if-is_empty.true in
    tail_behind _ _ c.symbols.invariant (subst IsTail (sym e) tail_empty)

pub returns : goal.returns
returns c =
    let b = ap (begins_with begins_symbol) (sym c.left.ensures) ∙ (sym c.begins_symbol.ensures ∙ c.symbols-test.false) in
    let some = not_empty _ _ _ c.left-2.ensures c.is_empty.ensures c.if-is_empty.false in
    joined (word (codes "c\n")) _ (λ r. ReadsTail r c.args.cursor.now c.word.new.self) c.word.ensures
    (λ x k. tail_ended _ _ _ c.symbols.invariant k) (λ y h. h) (λ k. tail_stuck _ _ _ c.symbols.invariant b some k)
