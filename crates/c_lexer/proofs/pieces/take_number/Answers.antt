use Rattle.std.proofs.Common.{◌≡◌, ◌∙◌, ap, subst, take, ℕ}
use Rattle.c_token.specs.declared.ctype.CType.{CType}
use Rattle.c_token.specs.Spelling.{in_number}
use Rattle.c_token.specs.Constants.{IsConstant}
use Rattle.c_lexer.specs.Runs.{IsRun}
use Rattle.c_lexer.proofs.Found.{number_malformed, number_taken}
use Rattle.c_lexer.proofs.pieces.take_number.Goals as goal

pub returns-in-None : goal.returns-in-None
returns-in-None c =
    let n = c.number_length-n.result in
    let run = subst (λ x. IsRun in_number x n) c.left-left.ensures c.number_length-n.ensures in
    let text : c.split_at.result.0.now ≡ take n c.args.cursor.now.left = c.split_at.ensures.front ∙ ap (λ x. take n x) c.left-left.ensures in
    rw c.fault.ensures
    (number_malformed c.args.cursor.now n c.requires.some c.requires.digit run
    (subst (λ x. (value : ℕ) (kind : CType) → ¬ IsConstant x value kind) text c.in-None.ensures))

pub returns : goal.returns
returns c =
    let n = c.number_length-n.result in
    let run = subst (λ x. IsRun in_number x n) c.left-left.ensures c.number_length-n.ensures in
    let text : c.split_at.result.0.now ≡ take n c.args.cursor.now.left = c.split_at.ensures.front ∙ ap (λ x. take n x) c.left-left.ensures in
    number_taken c.args.cursor.now c.take_lexeme.new.cursor n c.args.tokens.now.items c.take_lexeme.new.tokens.items
    c.requires.some c.requires.digit run c.in-Some.value c.in-Some.kind
    (subst (λ x. IsConstant x c.in-Some.value c.in-Some.kind) text c.in-Some.ensures)
    c.in_ok-take_lexeme-in-Some.ensures.cursor c.in_ok-take_lexeme-in-Some.ensures.tokens
