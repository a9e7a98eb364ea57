-- The pieces of declarations and actions, as the parser reads them.
use Rattle.std.specs.Prelude.{◌≡◌, ℕ, Bool, true, false, List, ◌∷◌, Option, Some, None}
use Rattle.hls_base.specs.declared.place.Place.{Place}
use Rattle.c_token.specs.declared.punct.Punct.{Punct}
use Rattle.c_token.specs.declared.punct.Punct.TheVariants as p
use Rattle.c_tree.specs.Tree as tree
use Rattle.c_tree.specs.Tree.{Tree, ActionTree, InitTree, init_row, ObjectTree}
use Rattle.c_tree.specs.Terminals.{Terminal, sign}
use Rattle.c_tree.specs.Grammar.{DerivesOptional, DerivesAction, DerivesActions, DerivesInit, DerivesInits, DerivesInitialiser, DerivesLengths, DerivesObject, DerivesDeclaration}
use Rattle.c_parser.specs.Cursor.Tokens.{separates}
use Rattle.c_parser.specs.Cursor.Readings.{Reads, Closed}
use Rattle.c_parser.specs.declared.cursor.types.ValueKind.{ValueKind}

abbrev pub OptionalExpression : ℕ → List Terminal → Option Tree → List Terminal → Type 0
OptionalExpression n = Reads (DerivesOptional n)

-- the signs that may stand in place of an expression
abbrev pub closes_optional : Punct → Bool
closes_optional p.RightBracket = true
closes_optional p.Semicolon = true
closes_optional _ = false

-- ---- objects

abbrev pub Lengths : List Terminal → List (Option Tree) → List Terminal → Type 0
Lengths = Reads DerivesLengths

abbrev pub AnInit : List Terminal → InitTree → List Terminal → Type 0
AnInit = Reads DerivesInit

abbrev pub DerivesInitRow : List Terminal → List InitTree → Type 0
DerivesInitRow ts inits = DerivesInits ts (init_row inits)

-- what stands between the braces of an initialiser, and the closing one
abbrev pub InitItems : List Terminal → List InitTree → List Terminal → Type 0
InitItems = Closed (Reads DerivesInitRow) p.RightBrace

abbrev pub AnInitialiser : List Terminal → Option InitTree → List Terminal → Type 0
AnInitialiser = Reads DerivesInitialiser

abbrev pub DerivesObjectOf : ValueKind → List Terminal → ObjectTree → Type 0
DerivesObjectOf kind = DerivesObject kind.kind kind.constant

abbrev pub AnObject : ValueKind → List Terminal → ObjectTree → List Terminal → Type 0
AnObject kind = Reads (DerivesObjectOf kind)

abbrev pub ADeclaration : List Terminal → List ObjectTree → List Terminal → Type 0
ADeclaration = Reads DerivesDeclaration

-- behind an initialiser in braces: a comma and another one follows, or the list is at its end
pub data Separator : List Terminal → Bool → List Terminal → Type 0 where
  another : (tokens : List Terminal) (at : Place) (rest : List Terminal) → tokens ≡ sign p.Comma at ∷ rest → ((closes : Place) (others : List Terminal) → rest ≡ sign p.RightBrace closes ∷ others → ⊥) → Separator tokens true rest
  closed : (tokens : List Terminal) (closes : Place) (rest : List Terminal) → tokens ≡ sign p.RightBrace closes ∷ rest → Separator tokens false rest
  closed_comma : (tokens : List Terminal) (at closes : Place) (rest : List Terminal) → tokens ≡ sign p.Comma at ∷ sign p.RightBrace closes ∷ rest → Separator tokens false rest

-- ---- actions

-- a comma, a semicolon or a closing parenthesis follows
abbrev pub Separated : {A : Type 0} → A → List Terminal → Type 0
Separated a rest = separates rest ≡ true

-- what an expression is as an action, by its own operator
abbrev pub change_in : Tree → Option ActionTree
change_in (tree.assign t op value at) = Some (tree.assignment t op value at)
change_in (tree.bump t up post at) = Some (tree.bumping t up at)
change_in _ = None

abbrev pub bare_change : Bool → Tree → Option ActionTree
bare_change true e = None
bare_change false e = change_in e

abbrev pub change_or : Option ActionTree → Tree → ActionTree
change_or None e = tree.evaluation e
change_or (Some action) e = action

-- the action that an expression is
abbrev pub action_in : Bool → Tree → ActionTree
action_in grouped e = change_or (bare_change grouped e) e

abbrev pub AnAction : List Terminal → ActionTree → List Terminal → Type 0
AnAction = Reads DerivesAction

-- the signs that end a list of actions
abbrev pub closes_actions : Punct → Bool
closes_actions p.Semicolon = true
closes_actions p.RightParen = true
closes_actions _ = false

abbrev pub ActionsUpTo : Punct → List Terminal → List ActionTree → List Terminal → Type 0
ActionsUpTo = Closed (Reads DerivesActions)
