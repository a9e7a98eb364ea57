-- The fault of a token list that is no program, or one beyond the limits.
use Rattle.std.specs.Prelude.{◌≡◌, ℕ, ◌<◌, nat_lt, Bool, true, false, List, [], ◌∷◌, ◌++◌, length, codes, Option, Some, None, is_some, ◌⊎◌, if◌then◌else◌}
use Rattle.hls_base.specs.declared.place.Place.{Place}
use Rattle.hls_base.specs.declared.refusal.Refusal.{Refusal}
use Rattle.c_token.specs.declared.token.TokenKind.{TokenKind}
use Rattle.c_token.specs.declared.token.TokenKind.TheVariants as k
use Rattle.c_token.specs.Replacement.{is_in}
use Rattle.c_tree.specs.Tree.{ItemTree, ProgramTree}
use Rattle.c_tree.specs.Terminals.{Terminal, assignment_of, bump_of}
use Rattle.c_tree.specs.Grammar.{DerivesItems, DerivesProgram}
use Rattle.c_tree.specs.Limits.{Mark, item_list_marks, mark_at, exceeds, nesting_limit}

-- ---- the first token that no program has there

-- some program begins with these tokens
abbrev pub Begins : List Terminal → Type 0
Begins seen = (others : List Terminal) × (items : List ItemTree) × DerivesItems (seen ++ others) items

-- and with the next token goes on to none
abbrev pub Stops : List Terminal → List Terminal → Type 0
Stops seen [] = Unit {0}
Stops seen (t ∷ rest) = ¬ Begins (seen ++ t ∷ [])

-- as far as some program goes
pub record Reaches (tokens seen left : List Terminal) : Type 0 where
  pub split : tokens ≡ seen ++ left
  pub begins : Begins seen
  pub stops : Stops seen left

-- the keywords of C that stand in no program, C11 6.4.1
abbrev pub unsupported : List (List ℕ)
unsupported =
    codes "auto" ∷ codes "double" ∷ codes "enum" ∷ codes "extern" ∷ codes "float" ∷ codes "goto" ∷ codes "register" ∷ codes "restrict"
    ∷ codes "sizeof" ∷ codes "struct" ∷ codes "typedef" ∷ codes "union" ∷ codes "volatile" ∷ codes "_Alignas" ∷ codes "_Alignof"
    ∷ codes "_Atomic" ∷ codes "_Complex" ∷ codes "_Generic" ∷ codes "_Imaginary" ∷ codes "_Noreturn" ∷ codes "_Static_assert"
    ∷ codes "_Thread_local" ∷ []

-- The rule of a token that no program has there: 20 for a keyword of these, 23 for an assignment operator, `++` or `--`, and else 6.
abbrev pub rule_of : TokenKind → ℕ
rule_of (k.Word text) = if is_in text unsupported then 20 else 6
rule_of (k.Punct punct) = if is_some (assignment_of punct) then 23 else (if is_some (bump_of punct) then 23 else 6)
rule_of _ = 6

abbrev pub refusal : ℕ → Place → Refusal
refusal rule at = record { rule = rule; place = at }

-- ---- rule 32: a token that is too deep, or an operator too many

-- token i is one in each program that begins with these tokens
abbrev pub IsBeyond : List Terminal → ℕ → Type 0
IsBeyond seen i = (others : List Terminal) (items : List ItemTree) (d : DerivesItems (seen ++ others) items) → exceeds (mark_at (item_list_marks d) i) ≡ true

-- Too many constructs are open behind these tokens.
abbrev pub IsFull : List Terminal → Type 0
IsFull seen = (others : List Terminal) (items : List ItemTree) (d : DerivesItems (seen ++ others) items) → nesting_limit < (mark_at (item_list_marks d) (length seen)).open_before

-- no token before the i-th is one
abbrev pub NoneBeyond : List Terminal → ℕ → Type 0
NoneBeyond seen n = (i : ℕ) → i < n → ¬ IsBeyond seen i

-- where no program goes on: rule 32 if too many constructs are open there, and else the rule of the token; rule 6 at the end
abbrev pub AtStop : List Terminal → List Terminal → Place → Refusal → Type 0
AtStop seen [] end r = ((items : List ItemTree) → ¬ DerivesItems seen items) × (r ≡ refusal 6 end)
AtStop seen (t ∷ rest) end r = (IsFull seen × (r ≡ refusal 32 t.at)) ⊎ ((¬ IsFull seen) × (r ≡ refusal (rule_of t.kind) t.at))

-- The fault of the tokens of a source with this end: the first token as far as some program goes that is beyond a limit, or where none goes on.
pub data IsFaultOf (tokens : List Terminal) (end : Place) (r : Refusal) : Type 0 where
  beyond_limit : (seen left before behind : List Terminal) (t : Terminal) → Reaches tokens seen left → seen ≡ before ++ t ∷ behind → IsBeyond seen (length before)
      → NoneBeyond seen (length before) → r ≡ refusal 32 t.at → IsFaultOf tokens end r
  at_stop : (seen left : List Terminal) → Reaches tokens seen left → NoneBeyond seen (length seen) → AtStop seen left end r → IsFaultOf tokens end r

-- a program within the limits
abbrev pub IsProgram : List Terminal → Place → ProgramTree → Type 0
IsProgram tokens end program = DerivesProgram tokens end program × NoneBeyond tokens (length tokens)

-- ---- what holds of these relations

-- Tokens have at most one fault, and none where they are a program within the limits.
pub record FaultsOnce (tokens : List Terminal) (end : Place) : Type 0 where
  pub one_fault : (r q : Refusal) → IsFaultOf tokens end r → IsFaultOf tokens end q → q ≡ r
  pub never_both : (program : ProgramTree) (r : Refusal) → IsProgram tokens end program → ¬ IsFaultOf tokens end r
