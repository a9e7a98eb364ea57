use Rattle.std.proofs.Common.{◌∙◌, ap, subst, refl, Some, None}
use Rattle.c_token.specs.Characters.{at_line_end, at_token}
use Rattle.c_token.specs.Spelling.{in_line_comment}
use Rattle.c_lexer.specs.Runs.{IsRun, IsFirstClose}
use Rattle.c_lexer.specs.Views.{opening_of}
use Rattle.c_lexer.proofs.Openings.{opens}
use Rattle.c_lexer.proofs.Found.{line_end_taken, space_taken, space-fits, line_comment_taken, block_comment_taken, block_comment_open}
use Rattle.c_lexer.proofs.pieces.take_piece.Goals as goal

pub advance-requires : goal.advance-requires
advance-requires c = (opens c.args.cursor.now.left at_line_end (c.requires ∙ ap opening_of c.in-LineEnd.is)).0

pub take_gap-requires : goal.take_gap-requires
take_gap-requires c = space-fits c.args.cursor.now c.in-Space.n (c.requires ∙ ap opening_of c.in-Space.is)

pub returns-in-None : goal.returns-in-None
returns-in-None c =
    let none = subst (λ x. IsFirstClose x None) c.left-in-BlockComment.ensures c.in-None.ensures in
    rw c.fault.ensures (block_comment_open c.args.cursor.now (c.requires ∙ ap opening_of c.in-BlockComment.is) none)

pub take_token-requires : goal.take_token-requires
take_token-requires c = opens c.args.cursor.now.left at_token (c.requires ∙ ap opening_of c.in-Token.is)

pub returns-in-LineEnd : goal.returns-in-LineEnd
returns-in-LineEnd c =
    line_end_taken c.args.cursor.now c.advance.new.self c.args.tokens.now.items c.args.tokens.now.items
    (c.requires ∙ ap opening_of c.in-LineEnd.is) c.advance.ensures refl

pub returns-in-Space : goal.returns-in-Space
returns-in-Space c =
    space_taken c.args.cursor.now c.take_gap.new.cursor c.args.tokens.now.items c.args.tokens.now.items c.in-Space.n
    (c.requires ∙ ap opening_of c.in-Space.is) c.take_gap.ensures refl

pub returns-in-LineComment : goal.returns-in-LineComment
returns-in-LineComment c =
    let run = subst (λ x. IsRun in_line_comment x c.line_comment_length-n.result) c.left.ensures c.line_comment_length-n.ensures in
    line_comment_taken c.args.cursor.now c.take_gap-in-LineComment.new.cursor c.args.tokens.now.items c.args.tokens.now.items c.line_comment_length-n.result
    (c.requires ∙ ap opening_of c.in-LineComment.is) run c.take_gap-in-LineComment.ensures refl

pub returns-in-Some : goal.returns-in-Some
returns-in-Some c =
    let close = subst (λ x. IsFirstClose x (Some c.in-Some.n)) c.left-in-BlockComment.ensures c.in-Some.ensures in
    block_comment_taken c.args.cursor.now c.take_gap-in-Some.new.cursor c.args.tokens.now.items c.args.tokens.now.items c.in-Some.n
    (c.requires ∙ ap opening_of c.in-BlockComment.is) close c.take_gap-in-Some.ensures refl
