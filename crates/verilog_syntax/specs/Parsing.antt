-- What the parser finds.
use Rattle.std.specs.Prelude.{◌≡◌, ◌⊎◌, ℕ, suc, true, false, ◌<◌, ◌≤◌, List, [], ◌∷◌, length, take, map}
use Rattle.std.specs.List.{All, Contains}
use Rattle.rtl_core.specs.Valid.{IsName}
use Rattle.rtl_core.specs.ModuleTokens as spelled
use Rattle.verilog_syntax.specs.declared.token.Token.{Token}
use Rattle.verilog_syntax.specs.declared.form.Class.{Class}
use Rattle.verilog_syntax.specs.declared.form.Form.{Form}
use Rattle.verilog_syntax.specs.declared.parser.Stop.{Stop}
use Rattle.verilog_syntax.specs.declared.parser.Stop.TheVariants as stop
use Rattle.verilog_syntax.specs.Views.{token_of, lexemes_of}
use Rattle.verilog_syntax.specs.Forms.{FitsClass, classes_of, IsModule, BeginsModule}
use Rattle.verilog_syntax.specs.PlacedSyntax.{PlacedModule, PlacedDeclared, PlacedMemory, PlacedWire}
use Rattle.verilog_syntax.specs.Marks.{NetStands, Stand, in_blocks, module_marks}

abbrev pub tokens_in : List Token → List spelled.Token
tokens_in tokens = map (λ (x : Token). token_of x.kind) tokens

-- the first n classes fit the first n tokens, and no more do
abbrev pub Common : List Class → List spelled.Token → ℕ → Type 0
Common [] ts n = n ≡ 0
Common (c ∷ cs) [] n = n ≡ 0
Common (c ∷ cs) (t ∷ ts) n = (FitsClass c t × ((m : ℕ) × (n ≡ suc m) × Common cs ts m)) ⊎ ((FitsClass c t → ⊥) × (n ≡ 0))

-- some tokens fit a form, but not all that it has, and no more than so many
abbrev pub FitsSome : List spelled.Token → ℕ → Form → Type 0
FitsSome tokens most form = (m : ℕ) × Common (classes_of form) tokens m × (m ≡ length (classes_of form) → ⊥) × (m ≤ most)

-- one of the forms has so many tokens in common with them
abbrev pub IsReached : List spelled.Token → ℕ → List Form → Type 0
IsReached tokens n forms = (n ≡ 0) ⊎ ((form : Form) × Contains forms form × Common (classes_of form) tokens n)

-- some module begins with so many tokens, and none goes on with the next, or ends where there is none
pub record FirstWrong (tokens : List spelled.Token) (n : ℕ) : Type 0 where
  pub within : n ≤ length tokens
  pub begins : BeginsModule (take n tokens)
  pub wrong : n < length tokens → ¬ BeginsModule (take (suc n) tokens)
  pub early : n ≡ length tokens → ¬ IsModule tokens

abbrev pub StopsRight : List spelled.Token → Stop → Type 0
StopsRight tokens (stop.Behind n) = FirstWrong tokens n
StopsRight tokens stop.Memory = Unit {0}

-- what is declared has names
pub record IsNamed (m : PlacedModule) : Type 0 where
  pub name : IsName m.name.text
  pub inputs : All (λ (x : PlacedDeclared). IsName x.name.text) m.inputs
  pub outputs : All (λ (x : PlacedDeclared). IsName x.name.text) m.outputs
  pub regs : All (λ (x : PlacedDeclared). IsName x.name.text) m.regs
  pub mems : All (λ (x : PlacedMemory). IsName x.name.text) m.mems
  pub wires : All (λ (x : PlacedWire). IsName x.name.text) m.wires

-- the tokens are those of the module
pub record IsParsed (tokens : List Token) (m : PlacedModule) : Type 0 where
  pub grammar : IsModule (tokens_in tokens)
  pub stand : Stand (lexemes_of tokens) (module_marks m)
  pub blocks : in_blocks false m.drives ≡ true
  pub nets : All (λ (x : PlacedWire). NetStands x.place x.net) m.wires
  pub named : IsNamed m
