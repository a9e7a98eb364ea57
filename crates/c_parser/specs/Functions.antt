-- The pieces of functions and programs, as the parser reads them.
use Rattle.std.specs.Prelude.{◌≡◌, ℕ, Bool, true, false, List, [], Option, Some, None, map}
use Rattle.std.specs.Option.{option_map}
use Rattle.std.specs.declared.alloc.Global.{Global}
use Rattle.std.specs.declared.vec.Vec.{Vec}
use Rattle.c_tree.specs.declared.statement.Stmt.{Stmt}
use Rattle.c_tree.specs.View.{stmt_of}
use Rattle.hls_base.specs.declared.place.Place.{Place}
use Rattle.c_token.specs.declared.ctype.CType.{CType}
use Rattle.c_token.specs.declared.punct.Punct.TheVariants as p
use Rattle.c_tree.specs.Tree as tree
use Rattle.c_tree.specs.Tree.{Tree, ObjectTree, StmtTree, stmt_row, ParamTree, FunctionTree, ItemTree, ProgramTree}
use Rattle.c_tree.specs.Terminals.{Terminal}
use Rattle.c_tree.specs.Grammar.{DerivesParam, DerivesParams, DerivesDefinition, DerivesItem}
use Rattle.c_parser.specs.Cursor.Readings.{Reads, Sequence, Closed, Sign, Listed, Repeated, snd}
use Rattle.c_parser.specs.declared.cursor.types.Kind.{Kind}
use Rattle.c_parser.specs.declared.cursor.types.ValueKind.{ValueKind}
use Rattle.c_parser.specs.Cursor.Tokens.{Name}
use Rattle.c_parser.specs.Objects.{Lengths, AnObject}

abbrev pub AParam : List Terminal → ParamTree → List Terminal → Type 0
AParam = Reads DerivesParam

-- what stands between the parentheses of a function, and the closing one
abbrev pub Params : List Terminal → List ParamTree → List Terminal → Type 0
Params = Closed (Reads DerivesParams) p.RightParen

abbrev pub DerivesDefinitionRow : List Terminal → Option (List StmtTree) → Type 0
DerivesDefinitionRow ts body = DerivesDefinition ts (option_map stmt_row body)

abbrev pub ADefinition : List Terminal → Option (List StmtTree) → List Terminal → Type 0
ADefinition = Reads DerivesDefinitionRow

abbrev pub function_with : Option CType → List ℕ × Place → List ParamTree → Option (List StmtTree) → FunctionTree
function_with result name params body = record { name = name.0; at = name.1; result = result; params = params; body = option_map stmt_row body }

-- a function behind its result
abbrev pub AFunction : Option CType → List Terminal → FunctionTree → List Terminal → Type 0
AFunction result = Sequence Name (λ name. Sequence (Sign p.LeftParen) (λ opens. Sequence Params (λ params. ADefinition) (function_with result name)) snd) snd

-- a parameter behind its type, which stands at this place
pub data ParamBehind (start : Place) (kind : ValueKind) (tokens : List Terminal) (param : ParamTree) (rest : List Terminal) : Type 0 where
  named : (text : List ℕ) (at : Place) (behind : List Terminal) (lengths : List (Option Tree)) → Name tokens (text, at) behind → Lengths behind lengths rest
      → param ≡ record { object = record { name = text; at = at; kind = kind.kind; constant = kind.constant; lengths = lengths; init = None }; named = true }
      → ParamBehind start kind tokens param rest
  unnamed : (lengths : List (Option Tree)) → Lengths tokens lengths rest
      → param ≡ record { object = record { name = []; at = start; kind = kind.kind; constant = kind.constant; lengths = lengths; init = None }; named = false }
      → ParamBehind start kind tokens param rest

abbrev pub AnItem : List Terminal → ItemTree → List Terminal → Type 0
AnItem = Reads DerivesItem

-- an item behind its type
pub data ItemBehind (kind : Kind) (tokens : List Terminal) (item : ItemTree) (rest : List Terminal) : Type 0 where
  some_objects : (value : CType) (all : List ObjectTree) → kind.kind ≡ Some value → Listed (AnObject (record { kind = value; constant = kind.constant })) p.Semicolon tokens all rest → item ≡ tree.objects all
      → ItemBehind kind tokens item rest
  a_function : (function : FunctionTree) → AFunction kind.kind tokens function rest → item ≡ tree.function function → ItemBehind kind tokens item rest

abbrev pub AtEnd : List Terminal → List Terminal → Type 0
AtEnd tokens rest = (tokens ≡ []) × (rest ≡ [])

-- all items, up to the end
abbrev pub Items : List Terminal → List ItemTree → List Terminal → Type 0
Items = Repeated AnItem AtEnd

abbrev pub param_with : ValueKind → List ℕ → Place → List (Option Tree) → Bool → ParamTree
param_with kind text at lengths is_named = record { object = record { name = text; at = at; kind = kind.kind; constant = kind.constant; lengths = lengths; init = None }; named = is_named }

-- the statements of a body
abbrev pub body_trees : Vec Stmt Global → List StmtTree
body_trees body = map stmt_of body.items
