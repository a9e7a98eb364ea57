use Rattle.std.proofs.Common.{sym, subst, ◌≤◌, length}
use Rattle.verilog_syntax.specs.Characters.{in_word}
use Rattle.std.proofs.lemmas.List.Sums.{prefix_len-le-length}
use Rattle.verilog_syntax.proofs.Pieces.{keyword_first, name_first}
use Rattle.verilog_syntax.proofs.lexer.word.Goals as goal

pub split_at-requires : goal.split_at-requires
split_at-requires c = subst (λ n. n ≤ length c.args.left.now) (sym c.word_length-n.ensures) (prefix_len-le-length in_word c.args.left.now)

pub returns-in-Some : goal.returns-in-Some
returns-in-Some c =
    keyword_first c.args.left.now c.word_length-n.result c.split_at.result.0.now c.requires.some c.requires.letter c.word_length-n.ensures c.split_at.ensures.front c.in-Some.keyword c.in-Some.ensures

pub returns-in-None : goal.returns-in-None
returns-in-None c =
    name_first c.args.left.now c.word_length-n.result c.split_at.result.0 c.requires.some c.requires.letter c.word_length-n.ensures c.split_at.ensures.front c.in-None.ensures
