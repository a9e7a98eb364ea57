-- What the reader's own types stand for, and what its steps do.
use Rattle.std.specs.Prelude.{◌≡◌, ℕ, ◌+◌, ◌-◌, ◌<◌, ◌≤◌, Bool, true, false, List, [], ◌∷◌, ◌++◌, length, slice_index_or, slice_set, Some, Result, Ok, Err, ◌⊎◌}
use Rattle.hls_base.specs.declared.place.Place.{Place}
use Rattle.hls_base.specs.declared.refusal.Fail.{Fail}
use Rattle.hls_base.specs.declared.refusal.Fail.TheVariants.{Refused, Memory}
use Rattle.hls_base.specs.declared.refusal.Refusal.{Refusal}
use Rattle.c_token.specs.declared.token.Token.{Token}
use Rattle.c_token.specs.declared.token.TokenKind.{TokenKind}
use Rattle.c_token.specs.Replacement.{Table, body_of, hide, StandsFor, numbered, token_limit, word_limit}
use Rattle.c_macro.specs.declared.output.Invocation.{Invocation}
use Rattle.c_macro.specs.Emitted.{Emitted}

-- what is left of the table while some of its words are hidden
abbrev pub visible : List Bool → Table → Table
visible [] table = table
visible (flag ∷ flags) [] = []
visible (true ∷ flags) (row ∷ rows) = visible flags rows
visible (false ∷ flags) (row ∷ rows) = row ∷ visible flags rows

-- the token names a macro that is not hidden
pub record IsVisible (hidden : List Bool) (table : Table) (kind : TokenKind) (index : ℕ) (body : List Token) : Type 0 where
  pub within : index < length hidden
  pub shown : slice_index_or hidden index false ≡ false
  pub stands_for : body_of (visible hidden table) kind ≡ Some body
  pub hides : hide kind (visible hidden table) ≡ visible (slice_set hidden index true) table

abbrev pub IsWithin : Emitted → Type 0
IsWithin e = (length e.tokens ≤ token_limit) × (e.words ≤ word_limit)

-- a row was put out in the place of a word, and so many words were replaced
pub record Emits (at : Invocation) (row : List Token) (replaced : ℕ) (old new : Emitted) : Type 0 where
  pub tokens : new.tokens ≡ old.tokens ++ numbered at.included at.place (length old.tokens - at.before + 1) row
  pub words : new.words ≡ old.words + replaced

-- with this row and these words a limit is passed
abbrev pub Overflows : List Token → ℕ → Emitted → Type 0
Overflows row words old = (token_limit < length old.tokens + length row) ⊎ (word_limit < old.words + words)

abbrev pub overflow : Place → Refusal
overflow place = record { rule = 31; place = place }

-- the tokens were put out as what they stand for, or a limit would be passed by it
abbrev pub Expands : Table → Invocation → List Token → Result (Unit {0}) Fail → Emitted → Emitted → Type 0
Expands table at tokens (Ok _) old new =
    (row : List Token) × (words : ℕ) × StandsFor table tokens row words × Emits at row words old new × IsWithin new
Expands table at tokens (Err (Refused r)) old new =
    (r ≡ overflow at.place) × ((row : List Token) (words : ℕ) → StandsFor table tokens row words → Overflows row words old)
Expands table at tokens (Err Memory) old new = Unit {0}
