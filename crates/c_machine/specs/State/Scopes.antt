-- How the environments of all calls that are under way lie in one list of names and one of calls.
use Rattle.std.specs.Prelude.{ℕ, ◌+◌, ◌^◌, ◌≤◌, List, [], ◌∷◌, take, drop, map}
use Rattle.hls_base.specs.declared.place.Place.{Place}
use Rattle.c_meaning.specs.declared.names.Binding.{Binding}
use Rattle.c_machine.specs.declared.state.scopes.Scope.{Scope}
use Rattle.c_meaning.specs.Store.{Environment}

-- the names of file scope, the environment, and those to which control returns, the innermost first
pub record Environments : Type 0 where
  pub file : List Binding
  pub environment : Environment
  pub outer : List Environment

abbrev pub environment_of : List Binding → List Binding → List Place → Scope → Environment
environment_of file names calls s = record { file = file; names = drop s.from (take s.to names); path = take s.depth calls; result = s.kind; next = s.next }

abbrev pub environments_of : List Binding → List Binding → List Place → List Scope → List Environment
environments_of file names calls scopes = map (environment_of file names calls) scopes

-- A scope sees no names or calls but those of its outer scopes and its own.
pub record is_inside (names calls : ℕ) (s : Scope) : Type 0 where
  pub from : s.from ≤ s.to
  pub to : s.to ≤ names
  pub depth : s.depth ≤ calls
  pub next : s.next ≤ 2 ^ 63 + s.to

abbrev pub are_nested : ℕ → ℕ → List Scope → Type 0
are_nested names calls [] = Unit {0}
are_nested names calls (s ∷ scopes) = is_inside names calls s × are_nested s.to s.depth scopes
