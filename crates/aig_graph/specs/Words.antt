-- What the operators make of words of literals, bit by bit.
use Rattle.std.specs.Prelude.{◌≡◌, ◌⊎◌, ◌≤◌, ℕ, zero, suc, ◌+◌, ◌-◌, ◌*◌, ◌/◌, ◌%◌, ◌^◌, ◌<◌, ◌==◌, nat_lt, Bool, not, ◌&&◌, ◌||◌, List, [], ◌∷◌, ◌++◌, length, map, take, drop, replicate, slice_index_or, slice_set, if◌then◌else◌, bit_and, bit_or, bit_xor}
use Rattle.std.specs.List.{All}
use Rattle.aig_graph.specs.Graphs.{literal}
use Rattle.aig_graph.specs.Making.{Gates, IsSound, IsLiteral, Extends, Always, Shows, is_xor}
use Rattle.aig_graph.specs.declared.bitwise.BitOperator.{BitOperator}
use Rattle.aig_graph.specs.declared.bitwise.BitOperator.TheVariants as operator
use Rattle.aig_graph.specs.declared.memory.Write.{Write}

-- the number of a word of bits, the lowest first
abbrev pub number : List Bool → ℕ
number [] = 0
number (b ∷ bs) = (if b then 1 else 0) + 2 * number bs

-- the bits of a word of literals, from the values of variables
abbrev pub bits : List Bool → List ℕ → List Bool
bits w ls = map (literal w) ls

-- the number of a word of literals
abbrev pub worded : List Bool → List ℕ → ℕ
worded w ls = number (bits w ls)

-- gates are appended for a word, of whose bits P says what they are
pub record MakesWord (d e : Gates) (ls : List ℕ) (n : ℕ) (P : List Bool → List Bool → Type 0) : Type 0 where
  pub extends : Extends d e
  pub sound : IsSound e
  pub count : length ls ≡ n
  pub fits : All (IsLiteral e) ls
  pub value : Always e (λ w. P w (bits w ls))

-- gates are appended for a word of n literals with this number
abbrev pub Computes : Gates → Gates → List ℕ → ℕ → (List Bool → ℕ) → Type 0
Computes d e ls n value = MakesWord d e ls n (λ w bs. number bs ≡ value w)

abbrev pub worth : Bool → ℕ → ℕ
worth b n = if b then n else 0

-- ---- words that need no gates

-- the literals of the lowest n bits of a number
abbrev pub constant_word : ℕ → ℕ → List ℕ
constant_word zero x = []
constant_word (suc n) x = x % 2 ∷ constant_word n (x / 2)

-- the first i literals, each negated
pub record IsNegation (xs : List ℕ) (i : ℕ) (ls : List ℕ) : Type 0 where
  pub count : length ls ≡ i
  pub fits : (d : Gates) → All (IsLiteral d) xs → All (IsLiteral d) ls
  pub value : (w : List Bool) → bits w ls ≡ map not (bits w (take i xs))

-- ---- sums

pub record AddsBit (d e : Gates) (x y c sum next : ℕ) : Type 0 where
  pub extends : Extends d e
  pub sound : IsSound e
  pub bit : IsLiteral e sum
  pub carry : IsLiteral e next
  pub value : Always e (λ w. worth (literal w sum) 1 + worth (literal w next) 2 ≡ worth (literal w x) 1 + worth (literal w y) 1 + worth (literal w c) 1)

-- the sum of the first i bits of two words, and what is carried on
pub record Sums (d e : Gates) (xs ys : List ℕ) (c next i : ℕ) (ls : List ℕ) : Type 0 where
  pub word : MakesWord d e ls i (λ w bs. number bs + worth (literal w next) (2 ^ i) ≡ number (bits w (take i xs)) + number (bits w (take i ys)) + worth (literal w c) 1)
  pub carry : IsLiteral e next

-- the difference of two words, and whether the first one is not less
pub record Subtracts (d e : Gates) (xs ys : List ℕ) (next : ℕ) (ls : List ℕ) : Type 0 where
  pub word : Computes d e ls (length xs) (λ w. (worded w xs + (2 ^ length xs - worded w ys)) % 2 ^ length xs)
  pub carry : IsLiteral e next
  pub not_less : Always e (λ w. literal w next ≡ not (nat_lt (worded w xs) (worded w ys)))

-- the product of a word with the first i bits of another
abbrev pub Multiplies : Gates → Gates → List ℕ → List ℕ → ℕ → List ℕ → Type 0
Multiplies d e xs ys i ls = Computes d e ls (length xs) (λ w. worded w xs * number (bits w (take i ys)) % 2 ^ length xs)

-- ---- bit by bit

abbrev pub bitwise_bit : BitOperator → Bool → Bool → Bool
bitwise_bit operator.And x y = x && y
bitwise_bit operator.Or x y = x || y
bitwise_bit operator.Xor x y = is_xor x y

abbrev pub bitwise_number : BitOperator → ℕ → ℕ → ℕ
bitwise_number operator.And x y = bit_and x y
bitwise_number operator.Or x y = bit_or x y
bitwise_number operator.Xor x y = bit_xor x y

-- ---- comparison

-- whether the first i bits are equal
pub record IsEqualSoFar (d e : Gates) (xs ys : List ℕ) (i l : ℕ) : Type 0 where
  pub extends : Extends d e
  pub sound : IsSound e
  pub shows : Shows e l (λ w x. x ≡ (number (bits w (take i xs)) == number (bits w (take i ys))))

-- ---- choices

abbrev pub Picks : Gates → Gates → ℕ → List ℕ → List ℕ → ℕ → List ℕ → Type 0
Picks d e test xs ys i ls = MakesWord d e ls i (λ w bs. bs ≡ (if literal w test then bits w (take i xs) else bits w (take i ys)))

-- ---- shifts

-- the literals of a word that is moved up, cut to its length
abbrev pub shifted : ℕ → List ℕ → List ℕ
shifted count xs = take (length xs) (replicate count 0 ++ xs)

-- the literals of a word that is moved down, cut to its length
abbrev pub lowered : ℕ → List ℕ → List ℕ
lowered count xs = take (length xs) (drop count xs ++ replicate (length xs) 0)

-- the number of places for the bit i of a count: none is larger than a word is long
abbrev pub IsStep : ℕ → ℕ → Type 0
IsStep i step = (step ≡ 2 ^ i) ⊎ ((step ≡ 128) × (128 ≤ 2 ^ i))

-- shifted to the left by the first i bits of a count
abbrev pub ShiftsLeft : Gates → Gates → List ℕ → List ℕ → ℕ → List ℕ → Type 0
ShiftsLeft d e xs counts i ls = MakesWord d e ls (length xs) (λ w bs. number bs ≡ number (bits w xs) * 2 ^ number (bits w (take i counts)) % 2 ^ length xs)

-- shifted to the right by the first i bits of a count
abbrev pub ShiftsRight : Gates → Gates → List ℕ → List ℕ → ℕ → List ℕ → Type 0
ShiftsRight d e xs counts i ls = Computes d e ls (length xs) (λ w. worded w xs / 2 ^ number (bits w (take i counts)))

-- ---- one of many

abbrev pub HasLength : ℕ → List ℕ → Type 0
HasLength n ls = length ls ≡ n

-- words of n literals
pub record AreWords (d : Gates) (n : ℕ) (lss : List (List ℕ)) : Type 0 where
  pub wide : All (HasLength n) lss
  pub fits : All (All (IsLiteral d)) lss

abbrev pub word_at : List (List ℕ) → ℕ → List ℕ
word_at lss k = slice_index_or lss k []

-- gates are appended for so many words of n literals, of which P says what they are
pub record MakesWords (d e : Gates) (lss : List (List ℕ)) (m n : ℕ) (P : List Bool → List (List ℕ) → Type 0) : Type 0 where
  pub extends : Extends d e
  pub sound : IsSound e
  pub count : length lss ≡ m
  pub words : AreWords e n lss
  pub value : Always e (λ w. P w lss)

-- the words at even places, or at odd ones
abbrev pub Halves : Gates → Gates → ℕ → List (List ℕ) → ℕ → ℕ → List (List ℕ) → Type 0
Halves d e test column n i lss = MakesWords d e lss i n (λ w lss. (k : ℕ) → k < i → bits w (word_at lss k) ≡ bits w (word_at column (2 * k + worth (literal w test) 1)))

-- what is left of a column when the first i bits of an address are known
abbrev pub Narrows : Gates → Gates → List (List ℕ) → List ℕ → ℕ → ℕ → List (List ℕ) → Type 0
Narrows d e column address n i lss =
    MakesWords d e lss (2 ^ (length address - i)) n
    (λ w lss. (k : ℕ) → k < 2 ^ (length address - i) → bits w (word_at lss k) ≡ bits w (word_at column (k * 2 ^ i + number (bits w (take i address)))))

-- the word of the column at the address
abbrev pub Selects : Gates → Gates → List (List ℕ) → List ℕ → ℕ → List ℕ → Type 0
Selects d e column address n ls = MakesWord d e ls n (λ w bs. bs ≡ bits w (word_at column (worded w address)))

-- ---- memories

abbrev pub numbers : List Bool → List (List ℕ) → List ℕ
numbers w lss = map (worded w) lss

pub record IsWrite (d : Gates) (p : Write) : Type 0 where
  pub enable : IsLiteral d p.enable
  pub address : All (IsLiteral d) p.address.items
  pub value : All (IsLiteral d) p.value.items

-- the words after a write
abbrev pub words_after : List Bool → Write → List ℕ → List ℕ
words_after w p words = if literal w p.enable then slice_set words (worded w p.address.items) (worded w p.value.items) else words

-- the first i words after a write through this port
abbrev pub Writes : Gates → Gates → List (List ℕ) → Write → ℕ → List (List ℕ) → Type 0
Writes d e words p i lss = MakesWords d e lss i (length p.value.items) (λ w lss. numbers w lss ≡ take i (words_after w p (numbers w words)))
