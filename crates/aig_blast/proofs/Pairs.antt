-- Words of operators on two words.
use Rattle.std.proofs.Common.{◌≡◌, ◌+◌, ◌*◌, ◌/◌, ◌%◌, ◌^◌, ◌==◌, ℕ, Bool, true, false, cond, List, [], ◌∷◌, length, take, refl, sym, ap, ◌∙◌, subst}
use Rattle.std.specs.Prelude.{Result, Ok, Err, IfOk}
use Rattle.std.proofs.lemmas.List.Elements.{All-nil, All-cons}
use Rattle.aig_graph.specs.Graphs.{literal}
use Rattle.aig_graph.specs.Making.{Gates, IsLiteral, IsSound, Extends, Always}
use Rattle.aig_graph.specs.Words.{Computes, HasLength, IsEqualSoFar, Multiplies, ShiftsLeft, ShiftsRight, number, bits, worded}
use Rattle.aig_graph.proofs.Numbers.{take_whole}
use Rattle.aig_graph.proofs.Making.{so, word_so}
use Rattle.aig_graph.proofs.Totals.{whole_at}
use Rattle.rtl_core.specs.declared.design.Pair.{Pair}
use Rattle.rtl_core.specs.declared.design.Pair.TheVariants as pair
use Rattle.rtl_core.specs.ClockStep.{bit_of, pair_value}
use Rattle.rtl_core.specs.Valid.{OperandsFit}

-- what an answer gives, where it gives less
pub if_ok : {A E : Type 0} (r : Result A E) (P Q : A → Type 0) → IfOk r P → ((x : A) → P x → Q x) → IfOk r Q
if_ok (Ok x) P Q p h = h x p
if_ok (Err e) P Q p h = tt

one_bit : (b : Bool) (x : Bool) → x ≡ b → (cond x 1 0) + 2 * 0 ≡ bit_of b
one_bit true true e = refl
one_bit false false e = refl
one_bit true false e = absurd (cc)
one_bit false true e = absurd (cc)

-- a single literal as a word
pub bit_word : (d e : Gates) (l : ℕ) (ls : List ℕ) (value : List Bool → Bool) → ls ≡ l ∷ [] → Extends d e → IsSound e → IsLiteral e l → Always e (λ w. literal w l ≡ value w) → Computes d e ls 1 (λ w. bit_of (value w))
bit_word d e l ls value is x sound fits h = subst (λ z. Computes d e z 1 (λ w. bit_of (value w))) (sym is) (record {
  extends = x;
  sound = sound;
  count = refl;
  fits = All-cons (IsLiteral e) l [] fits (All-nil (IsLiteral e));
  value = so e (λ w. literal w l ≡ value w) (λ w. number (bits w (l ∷ [])) ≡ bit_of (value w)) h (λ w k p. one_bit (value w) (literal w l) p);
})

pub equal_word : (d e : Gates) (xs ys : List ℕ) (l : ℕ) (ls : List ℕ) → length xs ≡ length ys → ls ≡ l ∷ [] → IsEqualSoFar d e xs ys (length xs) l → Computes d e ls 1 (λ w. bit_of (worded w xs == worded w ys))
equal_word d e xs ys l ls same is q =
    bit_word d e l ls (λ w. worded w xs == worded w ys) is q.extends q.sound q.shows.fits
    (so e (λ w. literal w l ≡ (number (bits w (take (length xs) xs)) == number (bits w (take (length xs) ys)))) (λ w. literal w l ≡ (worded w xs == worded w ys)) q.shows.value (λ w k p. p ∙ (ap (λ z. number z == number (bits w (take (length xs) ys))) (take_whole w xs) ∙ ap (λ z. worded w xs == number z) (whole_at w ys (length xs) same))))

-- the operands of an operator on words of equal length
abbrev pub Alike : Pair → List ℕ → List ℕ → Type 0
Alike pair.Add xs ys = length xs ≡ length ys
Alike pair.Sub xs ys = length xs ≡ length ys
Alike pair.Mul xs ys = Unit {0}
Alike pair.And xs ys = length xs ≡ length ys
Alike pair.Or xs ys = length xs ≡ length ys
Alike pair.Xor xs ys = length xs ≡ length ys
Alike pair.Equal xs ys = length xs ≡ length ys
Alike pair.Below xs ys = length xs ≡ length ys
Alike pair.Left xs ys = Unit {0}
Alike pair.Right xs ys = Unit {0}

pub alike : (op : Pair) (n : ℕ) (xs ys : List ℕ) → OperandsFit op n (λ m. HasLength m xs) (λ m. HasLength m ys) → Alike op xs ys
alike pair.Add n xs ys h = h.0 ∙ sym h.1
alike pair.Sub n xs ys h = h.0 ∙ sym h.1
alike pair.Mul n xs ys h = tt
alike pair.And n xs ys h = h.0 ∙ sym h.1
alike pair.Or n xs ys h = h.0 ∙ sym h.1
alike pair.Xor n xs ys h = h.0 ∙ sym h.1
alike pair.Equal n xs ys h = h.1.1 ∙ sym h.1.2
alike pair.Below n xs ys h = h.1.1 ∙ sym h.1.2
alike pair.Left n xs ys h = tt
alike pair.Right n xs ys h = tt

-- what a call has to give for each operator
abbrev pub Gives : Gates → Gates → Pair → List ℕ → List ℕ → List ℕ → Type 0
Gives d e pair.Add xs ys ls = Computes d e ls (length xs) (λ w. pair_value pair.Add (length xs) (worded w xs) (worded w ys))
Gives d e pair.Sub xs ys ls = Computes d e ls (length xs) (λ w. pair_value pair.Sub (length xs) (worded w xs) (worded w ys))
Gives d e pair.Mul xs ys ls = Multiplies d e xs ys (length ys) ls
Gives d e pair.And xs ys ls = Computes d e ls (length xs) (λ w. pair_value pair.And (length xs) (worded w xs) (worded w ys))
Gives d e pair.Or xs ys ls = Computes d e ls (length xs) (λ w. pair_value pair.Or (length xs) (worded w xs) (worded w ys))
Gives d e pair.Xor xs ys ls = Computes d e ls (length xs) (λ w. pair_value pair.Xor (length xs) (worded w xs) (worded w ys))
Gives d e pair.Equal xs ys ls = Computes d e ls 1 (λ w. bit_of (worded w xs == worded w ys))
Gives d e pair.Below xs ys ls = Computes d e ls 1 (λ w. pair_value pair.Below 1 (worded w xs) (worded w ys))
Gives d e pair.Left xs ys ls = ShiftsLeft d e xs ys (length ys) ls
Gives d e pair.Right xs ys ls = ShiftsRight d e xs ys (length ys) ls

at_length : (d e : Gates) (op : Pair) (xs ys ls : List ℕ) (n m : ℕ) → m ≡ n → Computes d e ls m (λ w. pair_value op m (worded w xs) (worded w ys)) → Computes d e ls n (λ w. pair_value op n (worded w xs) (worded w ys))
at_length d e op xs ys ls n m same h = subst (λ z. Computes d e ls z (λ w. pair_value op z (worded w xs) (worded w ys))) same h

pub gives : (d e : Gates) (op : Pair) (n : ℕ) (xs ys ls : List ℕ) → OperandsFit op n (λ m. HasLength m xs) (λ m. HasLength m ys) → Gives d e op xs ys ls → Computes d e ls n (λ w. pair_value op n (worded w xs) (worded w ys))
gives d e pair.Add n xs ys ls h g = at_length d e pair.Add xs ys ls n (length xs) h.0 g
gives d e pair.Sub n xs ys ls h g = at_length d e pair.Sub xs ys ls n (length xs) h.0 g
gives d e pair.Mul n xs ys ls h g =
    at_length d e pair.Mul xs ys ls n (length xs) h.0 (word_so d e ls (length xs) _ _ g (λ w k p. p ∙ ap (λ z. worded w xs * number z % 2 ^ length xs) (take_whole w ys)))
gives d e pair.And n xs ys ls h g = at_length d e pair.And xs ys ls n (length xs) h.0 g
gives d e pair.Or n xs ys ls h g = at_length d e pair.Or xs ys ls n (length xs) h.0 g
gives d e pair.Xor n xs ys ls h g = at_length d e pair.Xor xs ys ls n (length xs) h.0 g
gives d e pair.Equal n xs ys ls h g = at_length d e pair.Equal xs ys ls n 1 (sym h.0) g
gives d e pair.Below n xs ys ls h g = at_length d e pair.Below xs ys ls n 1 (sym h.0) g
gives d e pair.Left n xs ys ls h g =
    at_length d e pair.Left xs ys ls n (length xs) h.0 (word_so d e ls (length xs) _ _ g (λ w k p. p ∙ ap (λ z. worded w xs * 2 ^ number z % 2 ^ length xs) (take_whole w ys)))
gives d e pair.Right n xs ys ls h g =
    at_length d e pair.Right xs ys ls n (length xs) h.0 (word_so d e ls (length xs) _ _ g (λ w k p. p ∙ ap (λ z. worded w xs / 2 ^ number z) (take_whole w ys)))

pub alike_is : (op op2 : Pair) → op ≡ op2 → (n : ℕ) (xs ys : List ℕ) → OperandsFit op n (λ m. HasLength m xs) (λ m. HasLength m ys) → Alike op2 xs ys
alike_is op op2 is n xs ys h = alike op2 n xs ys (subst (λ o. OperandsFit o n (λ m. HasLength m xs) (λ m. HasLength m ys)) is h)

pub pair_returned : {A E : Type 0} (items : A → List ℕ) (d e : Gates) (op op2 : Pair) → op ≡ op2 → (n : ℕ) (xs ys : List ℕ) (r : Result A E) → OperandsFit op n (λ m. HasLength m xs) (λ m. HasLength m ys)
    → IfOk r (λ ls. Gives d e op2 xs ys (items ls)) → IfOk r (λ ls. Computes d e (items ls) n (λ w. pair_value op n (worded w xs) (worded w ys)))
pair_returned items d e op op2 is n xs ys r h p =
    if_ok r (λ ls. Gives d e op2 xs ys (items ls)) (λ ls. Computes d e (items ls) n (λ w. pair_value op n (worded w xs) (worded w ys))) p
    (λ x g. subst (λ o. Computes d e (items x) n (λ w. pair_value o n (worded w xs) (worded w ys))) (sym is)
    (gives d e op2 n xs ys (items x) (subst (λ o. OperandsFit o n (λ m. HasLength m xs) (λ m. HasLength m ys)) is h) g))

-- operands of which more is known
pub operands_map : (op : Pair) (n : ℕ) (A B C D : ℕ → Type 0) → ((m : ℕ) → A m → C m) → ((m : ℕ) → B m → D m) → OperandsFit op n A B → OperandsFit op n C D
operands_map pair.Add n A B C D f g h = (f n h.0, g n h.1)
operands_map pair.Sub n A B C D f g h = (f n h.0, g n h.1)
operands_map pair.Mul n A B C D f g h = (f n h.0, g n h.1)
operands_map pair.And n A B C D f g h = (f n h.0, g n h.1)
operands_map pair.Or n A B C D f g h = (f n h.0, g n h.1)
operands_map pair.Xor n A B C D f g h = (f n h.0, g n h.1)
operands_map pair.Equal n A B C D f g h = (h.0, (h.1.0, f h.1.0 h.1.1, g h.1.0 h.1.2))
operands_map pair.Below n A B C D f g h = (h.0, (h.1.0, f h.1.0 h.1.1, g h.1.0 h.1.2))
operands_map pair.Left n A B C D f g h = (f n h.0, (h.1.0, g h.1.0 h.1.1))
operands_map pair.Right n A B C D f g h = (f n h.0, (h.1.0, g h.1.0 h.1.1))
