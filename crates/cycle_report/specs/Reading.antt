-- What a reader of one sort of text answers: the value whose text it took, or that at this byte no such text goes on.
use Rattle.std.specs.Prelude.{ℕ, ◌≡◌, ◌≢◌, ◌<◌, ◌≤◌, Bool, false, ◌||◌, ◌==◌, List, [], ◌∷◌, ◌++◌, length, Result, Ok, Err}
use Rattle.std.specs.List.{All}
use Rattle.std.specs.Fmt.{decimal}
use Rattle.cycle_report.specs.declared.cursor.Stop.{Stop}
use Rattle.cycle_report.specs.declared.cursor.Stop.TheVariants.{Refused, Memory}
use Rattle.cycle_report.specs.ReportText.{lines_of}
use Rattle.cycle_report.specs.ReportForm.{is_digit, is_word_byte, IsName}

-- a sort of texts: which values it writes, the text of each, and the bytes that do not stand directly behind it
pub record Texts (A : Type 0) : Type 1 where
  pub Is : A → Type 0
  pub text : A → List ℕ
  pub never : ℕ → Bool

-- both begin with the same byte, or both are empty
abbrev pub SameNext : List ℕ → List ℕ → Type 0
SameNext [] [] = Unit {0}
SameNext [] (d ∷ ds) = ⊥
SameNext (c ∷ cs) [] = ⊥
SameNext (c ∷ cs) (d ∷ ds) = c ≡ d

-- empty, or begins with no such byte
abbrev pub Follows : (ℕ → Bool) → List ℕ → Type 0
Follows never [] = Unit {0}
Follows never (c ∷ cs) = never c ≡ false

-- The front of the old bytes is this value's text, the new ones are left, and whatever goes on with the next byte reads so too.
pub record Found {A : Type 0} (T : Texts A) (x : A) (old new : List ℕ) : Type 0 where
  pub is : T.Is x
  pub text : old ≡ T.text x ++ new
  pub only : (y : A) (v w : List ℕ) → T.Is y → Follows T.never v → T.text y ++ v ≡ T.text x ++ w → SameNext w new → (y ≡ x) × (v ≡ w)

-- The bytes before the new ones begin some text, and with the next byte, or where they end, they begin none.
pub record Stuck {A : Type 0} (T : Texts A) (old new : List ℕ) : Type 0 where
  pub front : List ℕ
  pub cut : old ≡ front ++ new
  pub value : A
  pub is : T.Is value
  pub rest : List ℕ
  pub goes : T.text value ≡ front ++ rest
  pub stops : (y : A) (v w : List ℕ) → T.Is y → Follows T.never v → T.text y ++ v ≡ front ++ w → SameNext w new → ⊥

-- what a reader answers, where a clause sees its value so
abbrev pub ReadsAs : {A B : Type 0} → Texts A → (B → A) → Result B Stop → List ℕ → List ℕ → Type 0
ReadsAs T view (Ok x) old new = Found T (view x) old new
ReadsAs T view (Err Refused) old new = Stuck T old new
ReadsAs T view (Err Memory) old new = Unit {0}

abbrev pub Reads : {A : Type 0} → Texts A → Result A Stop → List ℕ → List ℕ → Type 0
Reads T (Ok x) old new = Found T x old new
Reads T (Err Refused) old new = Stuck T old new
Reads T (Err Memory) old new = Unit {0}

-- whether the next byte is this one
abbrev pub begins : ℕ → List ℕ → Bool
begins c [] = false
begins c (d ∷ ds) = d == c

-- whether the next byte is one of these
abbrev pub begins_with : (ℕ → Bool) → List ℕ → Bool
begins_with test [] = false
begins_with test (c ∷ cs) = test c

-- ---- sorts of texts

-- every byte can stand behind
abbrev pub any_byte : ℕ → Bool
any_byte c = false

abbrev pub word : List ℕ → Texts (Unit {0})
word w = record { Is = λ x. Unit {0}; text = λ x. w; never = any_byte }

-- a number of this range
abbrev pub number : ℕ → ℕ → Texts ℕ
number low high = record { Is = λ n. (low ≤ n) × (n ≤ high); text = decimal; never = is_digit }

-- these words, and a number of this range
abbrev pub count : List ℕ → ℕ → ℕ → Texts ℕ
count words low high = record { Is = λ n. (low ≤ n) × (n ≤ high); text = λ n. words ++ decimal n; never = is_digit }

abbrev pub name : Texts (List ℕ)
name = record { Is = IsName; text = λ n. n; never = is_word_byte }

-- one text behind the other
abbrev pub both : {A B : Type 0} → Texts A → Texts B → Texts (A × B)
both S T = record { Is = λ p. S.Is p.0 × T.Is p.1; text = λ p. S.text p.0 ++ T.text p.1; never = T.never }

-- any number of them, each of which begins with this byte
abbrev pub many : {A : Type 0} → ℕ → Texts A → Texts (List A)
many head T = record { Is = All T.Is; text = lines_of T.text; never = λ c. (c == head) || T.never c }

-- ---- the front that two lists share

-- they do not begin with the same byte
abbrev pub Part : List ℕ → List ℕ → Type 0
Part [] bs = Unit {0}
Part (a ∷ as') [] = Unit {0}
Part (a ∷ as') (b ∷ bs) = a ≢ b

pub record IsShared (xs ys : List ℕ) (n : ℕ) : Type 0 where
  pub front : List ℕ
  pub left : List ℕ
  pub right : List ℕ
  pub here : xs ≡ front ++ left
  pub there : ys ≡ front ++ right
  pub long : length front ≡ n
  pub part : Part left right

-- The first digit of a number of this range is taken, and not a zero before others; or none can begin there.
abbrev pub ReadsDigit : ℕ → ℕ → Result ℕ Stop → List ℕ → List ℕ → Type 0
ReadsDigit low high (Ok n) old new = (low ≤ n) × (n ≤ high) × (n < 10) × (old ≡ decimal n ++ new)
ReadsDigit low high (Err Refused) old new = Stuck (number low high) old new
ReadsDigit low high (Err Memory) old new = Unit {0}
