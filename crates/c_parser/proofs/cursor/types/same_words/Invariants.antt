use Rattle.std.proofs.Common.{◌≡◌, drop}
use Rattle.c_tree.specs.Kinds.{same_words}
use Rattle.c_parser.proofs.cursor.types.same_words.Given as goal

abbrev pub invariant-loop-word : goal.invariant-loop-word
invariant-loop-word l = same_words (drop l.word-index l.words) l.left.items ≡ same_words l.words l.others
