-- What a reader of one sort of text answers: the value whose text it took, or that at this byte no such text continues.
use Rattle.std.specs.Prelude.{ℕ, ◌<◌, ◌≤◌, ◌≡◌, ◌≢◌, Bool, false, nat_le, ◌&&◌, List, [], ◌∷◌, ◌++◌, length, Result, Ok, Err}
use Rattle.aig_text.specs.declared.cursor.Stop.{Stop}
use Rattle.aig_text.specs.declared.cursor.Stop.TheVariants.{Refused, Memory}
use Rattle.aig_text.specs.GraphText.{numeral, number_text}

-- a sort of texts: which values it writes, and the text of each
pub record Texts (A : Type 0) : Type 1 where
  pub Is : A → Type 0
  pub text : A → List ℕ

-- both begin with the same byte, or both are empty
abbrev pub SameNext : List ℕ → List ℕ → Type 0
SameNext [] [] = Unit {0}
SameNext [] (d ∷ ds) = ⊥
SameNext (c ∷ cs) [] = ⊥
SameNext (c ∷ cs) (d ∷ ds) = c ≡ d

-- The front of the old bytes is this value's text, and the new ones are left.
pub record Found {A : Type 0} (T : Texts A) (x : A) (old new : List ℕ) : Type 0 where
  pub is : T.Is x
  pub text : old ≡ T.text x ++ new

-- The bytes before the new ones begin some text, and with the next byte, or where they end, they begin none.
pub record Stuck {A : Type 0} (T : Texts A) (old new : List ℕ) : Type 0 where
  pub front : List ℕ
  pub cut : old ≡ front ++ new
  pub value : A
  pub is : T.Is value
  pub rest : List ℕ
  pub goes : T.text value ≡ front ++ rest
  pub stops : (y : A) (v w : List ℕ) → T.Is y → T.text y ++ v ≡ front ++ w → SameNext w new → ⊥

-- what holds where a reader stops because no text continues
abbrev pub AtStop : Stop → Type 0 → Type 0
AtStop Refused X = X
AtStop Memory X = Unit {0}

-- what a reader answers, where a clause sees its value so
abbrev pub ReadsAs : {A B : Type 0} → Texts A → (B → A) → Result B Stop → List ℕ → List ℕ → Type 0
ReadsAs T view (Ok x) old new = Found T (view x) old new
ReadsAs T view (Err e) old new = AtStop e (Stuck T old new)

-- what a reader answers whose value shows only some of what it read
abbrev pub ReadsSome : {A B : Type 0} → Texts A → (B → A → Type 0) → Result B Stop → List ℕ → List ℕ → Type 0
ReadsSome {A} T Shows (Ok x) old new = (y : A) × Shows x y × Found T y old new
ReadsSome T Shows (Err e) old new = AtStop e (Stuck T old new)

abbrev pub Reads : {A : Type 0} → Texts A → Result A Stop → List ℕ → List ℕ → Type 0
Reads T (Ok x) old new = Found T x old new
Reads T (Err e) old new = AtStop e (Stuck T old new)

-- ---- words and numbers

abbrev pub word : List ℕ → Texts (Unit {0})
word w = record { Is = λ x. Unit {0}; text = λ x. w }

abbrev pub AtMost : ℕ → ℕ → Type 0
AtMost high n = n ≤ high

abbrev pub AnySize : ℕ → Type 0
AnySize n = Unit {0}

-- a number of which this holds, and the byte behind it
abbrev pub number_so : (ℕ → Type 0) → ℕ → Texts ℕ
number_so P end = record { Is = P; text = number_text end }

abbrev pub number : ℕ → ℕ → Texts ℕ
number high end = number_so (AtMost high) end

abbrev pub any_number : ℕ → Texts ℕ
any_number end = number_so AnySize end

-- n, or the greatest u64 where n is not below it
abbrev pub Saturates : ℕ → ℕ → Type 0
Saturates v n = (v ≤ n) × (v < 18446744073709551615 → v ≡ n)

abbrev pub is_digit : ℕ → Bool
is_digit c = nat_le 48 c && nat_le c 57

-- empty, or begins with no such byte
abbrev pub Follows : (ℕ → Bool) → List ℕ → Type 0
Follows test [] = Unit {0}
Follows test (c ∷ cs) = test c ≡ false

-- whether the next byte is one of these
abbrev pub begins_with : (ℕ → Bool) → List ℕ → Bool
begins_with test [] = false
begins_with test (c ∷ cs) = test c

-- The first digit of such a number is taken; or none begins here, whatever byte stands behind it.
abbrev pub ReadsFirst : (ℕ → Type 0) → Result ℕ Stop → List ℕ → List ℕ → Type 0
ReadsFirst P (Ok d) old new = (d < 10) × P d × (old ≡ numeral d ++ new)
ReadsFirst P (Err e) old new = AtStop e ((end : ℕ) → is_digit end ≡ false → Stuck (number_so P end) old new)

-- The digits of such a number are taken, and no digit follows; or no number goes on, whatever byte stands behind it.
abbrev pub ReadsDigits : {B : Type 0} → (ℕ → Type 0) → (B → ℕ → Type 0) → Result B Stop → List ℕ → List ℕ → Type 0
ReadsDigits P Shows (Ok v) old new = (n : ℕ) × Shows v n × P n × (old ≡ numeral n ++ new) × Follows is_digit new
ReadsDigits P Shows (Err e) old new = AtStop e ((end : ℕ) → is_digit end ≡ false → Stuck (number_so P end) old new)

-- ---- the front that two lists share

-- they do not begin with the same byte
abbrev pub Part : List ℕ → List ℕ → Type 0
Part [] bs = Unit {0}
Part (a ∷ as') [] = Unit {0}
Part (a ∷ as') (b ∷ bs) = a ≢ b

pub record IsShared (xs ys : List ℕ) (n : ℕ) : Type 0 where
  pub front : List ℕ
  pub left : List ℕ
  pub right : List ℕ
  pub here : xs ≡ front ++ left
  pub there : ys ≡ front ++ right
  pub long : length front ≡ n
  pub part : Part left right

-- ---- one text behind another

-- one text behind the other, which depends on the first one's value
unfoldable pub also : {A B : Type 0} → Texts A → (A → Texts B) → Texts (A × B)
also S T = record { Is = λ p. S.Is p.0 × (T p.0).Is p.1; text = λ p. S.text p.0 ++ (T p.0).text p.1 }
