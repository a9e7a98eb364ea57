use Rattle.std.proofs.Common.{◌≡◌, ◌∙◌, sym, ap, subst, take, true, false}
use Rattle.c_token.specs.Spelling.{in_word}
use Rattle.c_token.specs.SourceText.{is_pragma}
use Rattle.c_lexer.specs.Runs.{IsRun}
use Rattle.c_lexer.proofs.Found.{word_too_long, pragma_taken, word_taken}
use Rattle.c_lexer.proofs.pieces.take_word.Goals as goal

pub returns-then-n-gt-WORD_LIMIT : goal.returns-then-n-gt-WORD_LIMIT
returns-then-n-gt-WORD_LIMIT c =
    let run = subst (λ x. IsRun in_word x c.word_length-n.result) c.left-left.ensures c.word_length-n.ensures in
    rw c.fault.ensures
    (word_too_long c.args.cursor.now c.word_length-n.result c.requires.some c.requires.letter run c.if-n-gt-WORD_LIMIT.true)

pub returns-then-is_pragma : goal.returns-then-is_pragma
returns-then-is_pragma c =
    let n = c.word_length-n.result in
    let run = subst (λ x. IsRun in_word x n) c.left-left.ensures c.word_length-n.ensures in
    let text : c.split_at.result.0.now ≡ take n c.args.cursor.now.left = c.split_at.ensures.front ∙ ap (λ x. take n x) c.left-left.ensures in
    let b : is_pragma c.args.cursor.now.line (take n c.args.cursor.now.left) ≡ true =
    ap (λ x. is_pragma c.args.cursor.now.line x) (sym text)
    ∙ (ap (λ x. is_pragma x c.split_at.result.0.now) (sym c.line.ensures) ∙ (sym c.is_pragma.ensures ∙ c.if-is_pragma.true)) in
    pragma_taken c.args.cursor.now c.take_pragma.new.cursor n c.args.tokens.now.items c.take_pragma.new.tokens.items
    c.requires.some c.requires.letter run c.if-n-gt-WORD_LIMIT.false b c.take_pragma.ensures.cursor c.take_pragma.ensures.tokens

pub returns : goal.returns
returns c =
    let n = c.word_length-n.result in
    let run = subst (λ x. IsRun in_word x n) c.left-left.ensures c.word_length-n.ensures in
    let text : c.split_at.result.0.now ≡ take n c.args.cursor.now.left = c.split_at.ensures.front ∙ ap (λ x. take n x) c.left-left.ensures in
    let b : is_pragma c.args.cursor.now.line (take n c.args.cursor.now.left) ≡ false =
    ap (λ x. is_pragma c.args.cursor.now.line x) (sym text)
    ∙ (ap (λ x. is_pragma x c.split_at.result.0.now) (sym c.line.ensures) ∙ (sym c.is_pragma.ensures ∙ c.if-is_pragma.false)) in
    word_taken c.args.cursor.now c.take_lexeme.new.cursor n c.args.tokens.now.items c.take_lexeme.new.tokens.items
    c.requires.some c.requires.letter run c.if-n-gt-WORD_LIMIT.false b c.in_ok-word.word (c.in_ok-word.ensures ∙ text)
    c.in_ok-take_lexeme.ensures.cursor c.in_ok-take_lexeme.ensures.tokens
