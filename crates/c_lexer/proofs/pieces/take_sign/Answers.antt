use Rattle.std.proofs.Common.{◌∙◌, ap, subst, take, length, Some, None}
use Rattle.c_token.specs.declared.token.TokenKind.TheVariants as k
use Rattle.c_token.specs.SourceText.{after, lexeme, token_at}
use Rattle.c_token.proofs.Signs.{spelling-long}
use Rattle.c_lexer.specs.Signs.{IsLongestSign}
use Rattle.c_lexer.proofs.Found.{sign_taken, no_sign}
use Rattle.c_lexer.proofs.pieces.take_sign.Goals as goal

pub returns-in-None : goal.returns-in-None
returns-in-None c =
    let s = c.args.cursor.now in
    let here = subst (λ x. IsLongestSign c.is_first.result x None) c.left.ensures c.in-None.ensures in
    let none = subst (λ b. IsLongestSign b s.left None) c.is_first.ensures here in
    rw c.fault.ensures (no_sign s c.requires.letter c.requires.digit none)

pub returns : goal.returns
returns c =
    let s = c.args.cursor.now in
    let punct = c.in-Some.punct in
    let here = subst (λ x. IsLongestSign c.is_first.result x (Some punct)) c.left.ensures c.in-Some.ensures in
    let longest = subst (λ b. IsLongestSign b s.left (Some punct)) c.is_first.ensures here in
    sign_taken s c.take_lexeme.new.cursor c.args.tokens.now.items c.take_lexeme.new.tokens.items punct c.requires.some longest (spelling-long punct)
    (c.in_ok-take_lexeme-in-Some.ensures.cursor
    ∙ ap (λ x. after s (lexeme (take (length x) s.left) (token_at s (k.Punct punct)))) c.spelling.ensures)
    c.in_ok-take_lexeme-in-Some.ensures.tokens
