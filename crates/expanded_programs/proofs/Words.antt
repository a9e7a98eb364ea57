-- Words that fit a type are numbers of it.
use Rattle.std.proofs.Common.{◌≡◌, ℕ, zero, suc, ◌^◌, ◌<◌, sym, refl, ap, subst, pos, List, [], ◌∷◌, arith}
use Rattle.std.specs.Prelude.{slice_index}
use Rattle.std.proofs.Math.Nat.{mod-eq_of_lt}
use Rattle.std.proofs.lemmas.Nat.{pow_pos}
use Rattle.c_token.specs.declared.ctype.CType.{CType}
use Rattle.c_token.specs.declared.ctype.CType.TheVariants as t
use Rattle.c_value.specs.Values.{width, number_of, convert}
use Rattle.expand_runs.specs.Laws.{AreWords}
use Rattle.expand_runs.specs.Reading.{IsNumber}
use Rattle.expand_runs.proofs.Typing.{converted_number}

pub word_number : (k : CType) (w : ℕ) → w < 2 ^ width k → IsNumber k (number_of k w)
word_number t.Bool zero lt = refl
word_number t.Bool (suc zero) lt = refl
word_number t.Bool (suc (suc w)) lt = absurd (omega (arith, lt))
word_number (t.Int signed bits) w lt =
    let k = t.Int signed bits in
    let same : number_of k w ≡ convert k (pos w) = ap (number_of k) (sym (mod-eq_of_lt lt)) in
    subst (IsNumber k) (sym same) (converted_number k (pos w))

pub zero_number : (k : CType) → IsNumber k (number_of k 0)
zero_number k = word_number k 0 (pow_pos (width k))

pub row_number : (k : CType) (words : List ℕ) → AreWords k words → (j : ℕ) → IsNumber k (number_of k (slice_index words j))
row_number k [] h j = zero_number k
row_number k (w ∷ words) h zero = word_number k w h.0
row_number k (w ∷ words) h (suc j) = row_number k words h.1 j
