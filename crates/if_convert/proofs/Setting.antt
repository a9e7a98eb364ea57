-- Maps of what is set, as outs.
use Rattle.std.proofs.Common.{◌≡◌, Bool, true, false, ◌||◌, List, [], ◌∷◌, map, Option, Some, None, is_some, refl, ap}
use Rattle.std.specs.Prelude.{unwrap_or, if◌then◌else◌, cond}
use Rattle.std.specs.Map.{lookup}
use Rattle.std.specs.Option.{option_copied}
use denote.Ref.{Bor}
use Rattle.hls_base.specs.declared.number.VarId.{VarId}
use Rattle.hls_base.specs.contracts.number.VarIdPartialEq.TheImpl as var_impl
use Rattle.indexmap.specs.IndexMap.{insert_entry}
use Rattle.ir_core.specs.declared.body.Operand.{Operand}
use Rattle.passes.specs.Conversion.Outs.{out, held_or, is_set, with_out}
use Rattle.if_convert.specs.Entries.{out_of}

abbrev pub var_eq : VarId → VarId → Bool
var_eq = var_impl.eq-value.it

abbrev pub Entries : Type 0
Entries = List (VarId × Operand)

pub inserted : (es : Entries) (v : VarId) (x : Operand) → map out_of (insert_entry var_eq es v x) ≡ with_out (map out_of es) v x
inserted [] v x = refl
inserted (e ∷ es) v x = by (var_eq v e.0) (inserted es v x) where
  by : (b : Bool) → map out_of (insert_entry var_eq es v x) ≡ with_out (map out_of es) v x
      → map out_of (if b then (e.0, x) ∷ es else e ∷ insert_entry var_eq es v x) ≡ (if b then out e.0 x ∷ map out_of es else out_of e ∷ with_out (map out_of es) v x)
  by true h = refl
  by false h = ap (λ l. out_of e ∷ l) h

pub looked_up : (es : Entries) (v : VarId) (x : Operand) → held_or (map out_of es) v x ≡ unwrap_or (lookup (var_eq v) es) x
looked_up [] v x = refl
looked_up (e ∷ es) v x = by (var_eq v e.0) (looked_up es v x) where
  by : (b : Bool) → held_or (map out_of es) v x ≡ unwrap_or (lookup (var_eq v) es) x → (if b then e.1 else held_or (map out_of es) v x) ≡ unwrap_or (cond b (Some e.1) (lookup (var_eq v) es)) x
  by true h = refl
  by false h = h

pub is_found : (es : Entries) (v : VarId) → is_set (map out_of es) v ≡ is_some (lookup (var_eq v) es)
is_found [] v = refl
is_found (e ∷ es) v = by (var_eq v e.0) (is_found es v) where
  by : (b : Bool) → is_set (map out_of es) v ≡ is_some (lookup (var_eq v) es) → (b || is_set (map out_of es) v) ≡ is_some (cond b (Some e.1) (lookup (var_eq v) es))
  by true h = refl
  by false h = h

pub copied_there : {X : Type 0} (x : Option (Bor X)) → is_some (option_copied x) ≡ is_some x
copied_there None = refl
copied_there (Some x) = refl
