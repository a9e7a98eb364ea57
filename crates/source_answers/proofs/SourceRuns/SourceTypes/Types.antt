-- The types of constants, and of the names that `stdint.h` defines, are types of C.
use Rattle.std.proofs.Common.{◌≡◌, ℕ, refl, subst, Bool, true, false, find, List, [], ◌∷◌, Some, if◌then◌else◌}
use Rattle.std.proofs.lemmas.Option.{none-some, same_Some}
use Rattle.c_token.specs.declared.ctype.CType.{CType}
use Rattle.c_token.specs.declared.token.Token.{Token}
use Rattle.c_token.specs.Constants as constants
use Rattle.c_token.specs.Constants.{Suffix, types, type_of, holds, IsConstant}
use Rattle.c_token.specs.Replacement.{exact_types}
use Rattle.c_tree.specs.Terminals.{terminals}
use Rattle.pass_runs.specs.LowerRuns.OperatorWords.Words.{IsType}
use Rattle.c_elaborate.specs.Homes.{Each}
use Rattle.typed_pieces.specs.Sources.{TokenHasType, TokensHaveTypes}
use Rattle.source_answers.specs.SourceRuns.SourceTypes.{SourceTokensHaveTypes}
use Rattle.source_answers.proofs.SourceRuns.SourceTypes.Replaced.{OfSources, found_row, replaced_have}

types_typed : (suffix : Suffix) (is_decimal : Bool) → Each IsType (types suffix is_decimal)
unfolding types
types_typed constants.plain true = (refl, (refl, tt))
types_typed constants.plain false = (refl, (refl, (refl, (refl, tt))))
types_typed constants.unsigned is_decimal = (refl, (refl, tt))
types_typed constants.long true = (refl, tt)
types_typed constants.long false = (refl, (refl, tt))
types_typed constants.unsigned_long is_decimal = (refl, tt)

found_typed : (n : ℕ) (kinds : List CType) (kind : CType) → Each IsType kinds → find (holds n) kinds ≡ Some kind → IsType kind
found_typed n [] kind h e = absurd (none-some kind e)
found_typed n (x ∷ kinds) kind h e = by (holds n x) e (found_typed n kinds kind h.1)
  where
    by : (y : Bool) → (if y then Some x else find (holds n) kinds) ≡ Some kind → (find (holds n) kinds ≡ Some kind → IsType kind) → IsType kind
    by true g others = subst IsType (same_Some x kind g) h.0
    by false g others = others g

constant_typed : (spelled : List ℕ) (n : ℕ) (kind : CType) → IsConstant spelled n kind → IsType kind
unfolding type_of
constant_typed spelled n kind c = found_typed n (types c.suffix _) kind (types_typed c.suffix _) c.is_type

exact_typed : Each (λ (row : List ℕ × CType). IsType row.1) exact_types
exact_typed = (refl, (refl, (refl, (refl, (refl, (refl, (refl, (refl, tt))))))))

typed : OfSources TokenHasType
typed = record {
  of_word = λ text. tt;
  of_punct = λ punct. tt;
  of_constant = constant_typed;
  of_type = λ word kind e. found_row IsType word exact_types kind exact_typed e;
}

terminals_typed : (tokens : List Token) → Each (λ (token : Token). TokenHasType token.kind) tokens → TokensHaveTypes (terminals tokens)
terminals_typed [] h = tt
terminals_typed (token ∷ tokens) h = (h.0, terminals_typed tokens h.1)

pub tokens_typed : SourceTokensHaveTypes
tokens_typed source tokens replaced spells becomes = terminals_typed replaced (replaced_have TokenHasType typed source tokens replaced spells becomes)
