-- What variables were set to in a block, in order, and what they hold then.
use Rattle.std.specs.Prelude.{◌≡◌, ℕ, ◌+◌, ◌==◌, Bool, false, List, [], ◌∷◌, ◌++◌, Option, Some, None, if◌then◌else◌}
use Rattle.std.specs.Map.{lookup}
use Rattle.hls_base.specs.declared.number.VarId.{VarId}
use Rattle.hls_base.specs.contracts.number.VarIdPartialEq.TheImpl as var_impl
use Rattle.ir_core.specs.declared.body.Out.{Out}
use Rattle.passes.specs.Lowering.Outs.{without, own_out}
use Rattle.block_draft.specs.declared.outs.Latest.{Latest}

abbrev pub var_eq : VarId → VarId → Bool
var_eq = var_impl.eq-value.it

-- behind these outs
abbrev pub settled_behind : List Out → List Out → List Out
settled_behind outs [] = outs
settled_behind outs (x ∷ xs) = settled_behind (without outs x.variable ++ own_out x.variable x.value) xs

-- what the variables hold, in the order in which they were set last
abbrev pub settled : List Out → List Out
settled xs = settled_behind [] xs

-- where a variable was set last, and to what: at one of these places from this number on, or before
abbrev pub latest_from : ℕ → Option Latest → List Out → VarId → Option Latest
latest_from n found [] variable = found
latest_from n found (x ∷ xs) variable = latest_from (n + 1) (if x.variable.0 == variable.0 then Some (record { place = n; value = x.value }) else found) xs variable

abbrev pub IsLatest : List Out → List (VarId × Latest) → Type 0
IsLatest sets entries = (variable : VarId) → lookup (var_eq variable) entries ≡ latest_from 0 None sets variable

-- the last setting stands at this place
abbrev pub placed : ℕ → Option Latest → Bool
placed place None = false
placed place (Some l) = l.place == place

-- the variable that is set, where it holds something else than at first
abbrev pub own_if : Bool → Out → List Out
own_if is_last x = if is_last then own_out x.variable x.value else []
