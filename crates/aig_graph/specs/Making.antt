-- A graph while it is made: gates are appended, and what is known of a literal holds in each graph that this one becomes.
use Rattle.std.specs.Prelude.{◌≡◌, ℕ, suc, ◌+◌, ◌*◌, ◌<◌, ◌≤◌, Bool, true, false, not, List, [], ◌∷◌, ◌++◌, length, if◌then◌else◌}
use Rattle.aig_graph.specs.declared.aig.Gate.{Gate}
use Rattle.aig_graph.specs.declared.builder.Builder.{Builder}
use Rattle.aig_graph.specs.Graphs.{literal, values, Ordered}

-- gates over so many given variables, which have the numbers from 1 on
pub record Gates : Type 0 where
  pub given : ℕ
  pub ands : List Gate

abbrev pub gates_of : Builder → Gates
gates_of b = record { given = b.given; ands = b.gates.keys }

abbrev pub no_gates : ℕ → Gates
no_gates given = record { given = given; ands = [] }

-- each gate names only variables below its own, and no variable is too large for a literal
pub record IsSound (d : Gates) : Type 0 where
  pub ordered : Ordered (suc d.given) d.ands
  pub few : d.given + length d.ands ≤ 2147483647

-- the literal is one of a variable that there is, or a constant
abbrev pub IsLiteral : Gates → ℕ → Type 0
IsLiteral d l = l < 2 * (suc d.given + length d.ands)

pub record Extends (d e : Gates) : Type 0 where
  pub given : e.given ≡ d.given
  pub more : List Gate
  pub ands : e.ands ≡ d.ands ++ more

-- it holds of the values of all variables in each graph that this one becomes, whatever is given
abbrev pub Always : Gates → (List Bool → Type 0) → Type 0
Always d P = (e : Gates) (bits : List Bool) → Extends d e → length bits ≡ d.given → P (values (false ∷ bits) e.ands)

pub record Shows (d : Gates) (l : ℕ) (P : List Bool → Bool → Type 0) : Type 0 where
  pub fits : IsLiteral d l
  pub value : Always d (λ w. P w (literal w l))

-- gates are appended, and then the literal is as P says
pub record Makes (d e : Gates) (l : ℕ) (P : List Bool → Bool → Type 0) : Type 0 where
  pub extends : Extends d e
  pub sound : IsSound e
  pub shows : Shows e l P

abbrev pub is_xor : Bool → Bool → Bool
is_xor true y = not y
is_xor false y = y

abbrev pub is_picked : Bool → Bool → Bool → Bool
is_picked test x y = if test then x else y
