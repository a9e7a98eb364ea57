-- Words of a few numbers, and operators on them, computed.
use Rattle.std.proofs.Common.{◌≡◌, refl, true, false, pos, negsuc, [], ◌∷◌}
use Rattle.c_value.specs.Values.{integer, bool_type, pattern}
use Rattle.c_value.specs.Operators as c
use Rattle.c_tree.specs.declared.operator.Binary.TheVariants as b
use Rattle.ir_core.specs.declared.body.OpKind.TheVariants as o
use Rattle.ir_core.specs.Value as op
use Rattle.pass_runs.specs.LowerRuns.OperatorWords.Words.{resized_word}

-- -7 / 2 is -3, and what is left is -1
minus_seven_by_two : c.balanced b.Div (integer true 8) (negsuc 6) (pos 2) ≡ c.defined (negsuc 2)
minus_seven_by_two = refl

its_word : op.value o.Div true 8 0 (249 ∷ 2 ∷ []) ≡ pattern (integer true 8) (negsuc 2)
its_word = refl

what_is_left : op.value o.Rem true 8 0 (249 ∷ 2 ∷ []) ≡ pattern (integer true 8) (negsuc 0)
what_is_left = refl

-- -7 >> 1 is -4: the sign stays
shifted_right : c.balanced b.Shr (integer true 8) (negsuc 6) (pos 1) ≡ c.defined (negsuc 3)
shifted_right = refl

its_shifted_word : op.value o.Shr true 8 0 (249 ∷ 1 ∷ []) ≡ pattern (integer true 8) (negsuc 3)
its_shifted_word = refl

-- as an unsigned number the same word is 249, and has no sign
unsigned_word : op.value o.Shr false 8 0 (249 ∷ 1 ∷ []) ≡ pattern (integer false 8) (pos 124)
unsigned_word = refl

-- 200 + 100 as unsigned char is 44, and -1 as an unsigned int of 16 bits is 65535
sum_word : op.value o.Add false 8 0 (200 ∷ 100 ∷ []) ≡ pattern (integer false 8) (pos 300)
sum_word = refl

resized : resized_word (integer true 8) (integer false 16) 255 ≡ 65535
resized = refl

truth_word : resized_word (integer true 8) bool_type 254 ≡ 1
truth_word = refl
