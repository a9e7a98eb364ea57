use Rattle.std.proofs.Common.{inl}
use Rattle.c_parser.proofs.FunctionForms.{passed_inline}
use Rattle.c_parser.proofs.function.pass_over.Goals as goal

pub returns-then-eat_word : goal.returns-then-eat_word
returns-then-eat_word c = let x = c.if-eat_word.ensures in (x.0, inl x.1)

pub returns : goal.returns
returns c = let x = c.if-eat_word.ensures in passed_inline _ _ _ _ x.0 x.1 c.eat_word-2.ensures
