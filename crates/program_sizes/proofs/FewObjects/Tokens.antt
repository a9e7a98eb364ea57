-- A source becomes no more tokens than it may.
use Rattle.std.proofs.Common.{◌≡◌, ◌≤◌, ℕ, ◌+◌, Bool, true, false, ◌||◌, not, ◌&&◌, nat_lt, codes, sym, refl, subst, arith, List, [], ◌∷◌, length, length-append, ltb-false, Result, Ok, Err, if◌then◌else◌}
use Rattle.hls_base.specs.declared.refusal.Refusal.{Refusal}
use Rattle.c_token.specs.declared.token.Token.{Token}
use Rattle.c_token.specs.declared.token.TokenKind.{TokenKind}
use Rattle.c_token.specs.declared.token.TokenKind.TheVariants as k
use Rattle.c_token.specs.Replacement as replacement
use Rattle.c_token.specs.Replacement.{Reading, refuse, is_word, names_stdint, has_parameters, may_be_defined, agrees, defined, define_limit, without, find_word, define, undefine, obey, Part, token_limit, word_limit, count, AndThen, behind, Outcome, beginning, Becomes}

-- a reading with so many tokens, where there is no fault
abbrev HasTokens : ℕ → Result Reading Refusal → Type 0
HasTokens n (Ok s) = s.tokens ≡ n
HasTokens n (Err r) = Unit {0}

if_tokens : (n : ℕ) (b : Bool) (x y : Result Reading Refusal) → HasTokens n x → HasTokens n y → HasTokens n (if b then x else y)
if_tokens n true x y h g = h
if_tokens n false x y h g = g

-- ---- directives make no tokens

define_tokens : (s : Reading) (at : Token) (rest : List Token) → HasTokens s.tokens (define s at rest)
define_tokens s at [] = tt
define_tokens s at (token ∷ body) = by token.kind where
  by : (kind : TokenKind) → HasTokens s.tokens (define s at (record token { kind = kind } ∷ body))
  by (k.Word word) =
      if_tokens s.tokens (not (may_be_defined word && not (has_parameters body) && agrees (find_word word s.table) body)) _ _ tt
      (if_tokens s.tokens (nat_lt s.defines define_limit) (Ok (record s { table = defined (find_word word s.table) word body s.table; defines = s.defines + 1 })) (refuse 38 token) refl tt)
  by (k.Number n kind) = tt
  by (k.Punct punct) = tt
  by (k.TypeWord kind) = tt

undefine_tokens : (s : Reading) (at : Token) (rest : List Token) → HasTokens s.tokens (undefine s at rest)
undefine_tokens s at [] = tt
undefine_tokens s at (token ∷ []) = by token.kind where
  by : (kind : TokenKind) → HasTokens s.tokens (undefine s at (record token { kind = kind } ∷ []))
  by (k.Word word) = refl
  by (k.Number n kind) = tt
  by (k.Punct punct) = tt
  by (k.TypeWord kind) = tt
undefine_tokens s at (token ∷ (other ∷ tokens)) = tt

obey_tokens : (s : Reading) (line : List Token) → HasTokens s.tokens (obey s line)
obey_tokens s [] = refl
obey_tokens s (at ∷ rest) =
    if_tokens s.tokens (is_word (codes "include") at.kind && names_stdint rest) (Ok (record s { included = true })) _ refl
    (if_tokens s.tokens (is_word (codes "define") at.kind) (define s at rest) _ (define_tokens s at rest)
    (if_tokens s.tokens (is_word (codes "undef") at.kind) (undefine s at rest) (refuse 5 at) (undefine_tokens s at rest) tt))

-- ---- the whole list

-- what is read goes on with no more tokens than it may
abbrev IsFew : ℕ → Result (List Token) Refusal → Type 0
IsFew n (Ok row) = n + length row ≤ 16384
IsFew n (Err r) = Unit {0}

-- so many tokens more are counted, and there are not too many
abbrev IsCounted : ℕ → Result Reading Refusal → Type 0
IsCounted n (Ok s) = (s.tokens ≡ n) × (n ≤ 16384)
IsCounted n (Err r) = Unit {0}

count_tokens : (s : Reading) (token : Token) (m n : ℕ) → IsCounted (s.tokens + m) (count s token m n)
count_tokens s token m n = by (nat_lt token_limit (s.tokens + m)) (nat_lt word_limit (s.words + n)) refl where
  by : (many wordy : Bool) → nat_lt token_limit (s.tokens + m) ≡ many → IsCounted (s.tokens + m) (if many || wordy then refuse 31 token else Ok (record s { tokens = s.tokens + m; words = s.words + n }))
  by true wordy e = tt
  by false true e = tt
  by false false e = (refl, ltb-false token_limit (s.tokens + m) e)

obey_then : (n : ℕ) (q : Result Reading Refusal) (Q : Reading → Type 0) (result : Result (List Token) Refusal) → HasTokens n q → AndThen q Q result → ((new : Reading) → new.tokens ≡ n → Q new → IsFew n result) → IsFew n result
obey_then n (Ok s) Q result h o next = next s h o
obey_then n (Err r) Q result h o next = subst (IsFew n) (sym o) tt

count_then : (n m : ℕ) (q : Result Reading Refusal) (Q : Reading → Type 0) (result : Result (List Token) Refusal) → IsCounted m q → AndThen q Q result → ((new : Reading) → new.tokens ≡ m → m ≤ 16384 → Q new → IsFew n result) → IsFew n result
count_then n m (Ok s) Q result h o next = next s h.0 h.1 o
count_then n m (Err r) Q result h o next = subst (IsFew n) (sym o) tt

behind_few : (n : ℕ) (row : List Token) (rest : Result (List Token) Refusal) → IsFew (n + length row) rest → IsFew n (behind row rest)
behind_few n row (Ok more) h = let e = length-append row more in omega (arith, h, e)
behind_few n row (Err r) h = tt

outcome_few : (s : Reading) (parts : List Part) (result : Result (List Token) Refusal) → s.tokens ≤ 16384 → Outcome s parts result → IsFew s.tokens result
outcome_few s [] result le o = subst (IsFew s.tokens) (sym o) (omega (arith, le))
outcome_few s (replacement.directive hash line ∷ parts) result le o =
    obey_then s.tokens (obey s line) (λ new. Outcome new parts result) result (obey_tokens s line) o
    (λ new e more. subst (λ n. IsFew n result) e (outcome_few new parts result (omega (arith, le, e)) more))
outcome_few s (replacement.ordinary token ∷ parts) result le o =
    count_then s.tokens (s.tokens + length o.0) (count s token (length o.0) o.1) (λ new. (rest : Result (List Token) Refusal) × Outcome new parts rest × (result ≡ behind o.0 rest)) result (count_tokens s token (length o.0) o.1) o.3
    (λ new e few more.
    subst (IsFew s.tokens) (sym more.2) (behind_few s.tokens o.0 more.0 (subst (λ n. IsFew n more.0) e (outcome_few new parts more.0 (omega (arith, few, e)) more.1))))

pub becomes_few : (tokens replaced : List Token) → Becomes tokens replaced → length replaced ≤ 16384
becomes_few tokens replaced b = let h : IsFew 0 (Ok replaced) = outcome_few beginning b.0 (Ok replaced) (omega arith) b.2 in omega (arith, h)
