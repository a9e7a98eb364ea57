-- The pins of a plan are those of the C function.
use Rattle.std.proofs.Common.{◌≡◌, ℕ, ◌+◌, ◌∙◌, ap, ap₂, refl, Bool, true, false, List, [], ◌∷◌, ◌++◌, map, slice_get, slice_index, Option, Some, None, if◌then◌else◌}
use Rattle.std.specs.Prelude.{not, cond, filter, option_map}
use Rattle.std.proofs.lemmas.Option.{get_or_from_slice_get}
use Rattle.hls_base.specs.declared.number.VarId.{VarId}
use Rattle.c_token.specs.declared.ctype.CType.{CType}
use Rattle.c_token.specs.declared.ctype.CType.TheVariants as t
use Rattle.c_tree.specs.Tree.{ParamTree}
use Rattle.c_value.specs.Values.{width}
use Rattle.pieces.specs.Resolved.Core.{CoreObjectTree}
use Rattle.c_elaborate.specs.Objects.{object_elaborated}
use Rattle.c_elaborate.specs.Programs.{objects_of_params}
use Rattle.cosim_levels.specs.Pins.FunctionPins.{scalar_bits, array_shape, array_shapes}
use Rattle.piece_making.specs.declared.frame.Home.TheVariants as home
use Rattle.piece_making.specs.Making.{variable_number, array_number}
use Rattle.piece_making.specs.Objects.{array_like}
use Rattle.pieces.specs.Program.{ArrayTree, ExpandedTree}
use Rattle.c_expand.specs.Expansion as ex
use Rattle.ir_lower.specs.Frames.{result_width}
use Rattle.rtl_core.specs.FramePins.{result_bits}
use Rattle.c_elaborate.specs.Homes.{Each}
use Rattle.c_elaborate.specs.Resolved.{HasLengths}
use Rattle.expanded_programs.specs.Outlines.{hosts_of, tops_from, scalar_kinds}
use Rattle.expanded_programs.proofs.Entries.{HasFrom, from_first, from_rest}
use Rattle.pass_runs.proofs.ConvertRuns.LoweredConversions.Expressions.{mapped}
use Rattle.pass_runs.proofs.LowerRuns.OperatorWords.Resizing.{bits_case}
use Rattle.datapath.specs.Plans.{Array}
use Rattle.source_answers.proofs.SourceDesigns.PlanWords.Frames.{array_in}
use Rattle.source_answers.proofs.SourceDesigns.SourceCircuits.Left.{shape_of, shapes}

-- the objects that parameters become
abbrev pub objects : List ParamTree → List CoreObjectTree
objects ps = map object_elaborated (objects_of_params ps)

-- ---- scalars

module _ (e : ExpandedTree) where
  abbrev bits : VarId → ℕ
  bits v = slice_index (map width e.variables) v.0

  bits_at : (v : ℕ) (k : CType) → slice_get e.variables v ≡ Some k → bits (variable_number v) ≡ width k
  bits_at v k at = get_or_from_slice_get (map width e.variables) v (width k) 0 (mapped width e.variables v k at)

  scalars_step : (b : Bool) (v a : ℕ) (o : CoreObjectTree) (os : List CoreObjectTree) (ps : List ParamTree) → ((v1 a1 : ℕ) → HasFrom e.variables v1 (scalar_kinds os) → map bits (ex.variables_of (tops_from v1 a1 os)) ≡ scalar_bits ps)
      → HasFrom e.variables v (if b then scalar_kinds os else o.kind ∷ scalar_kinds os)
      → map bits (ex.variables_of (if b then home.Array (array_number a) ∷ tops_from v (a + 1) os else home.Variable (variable_number v) ∷ tops_from (v + 1) a os)) ≡ (if b then scalar_bits ps else width o.kind ∷ scalar_bits ps)
  scalars_step true v a o os ps h types = h v (a + 1) types
  scalars_step false v a o os ps h types = ap₂ (λ x xs. x ∷ xs) (bits_at v o.kind (from_first e.variables v o.kind (scalar_kinds os) types)) (h (v + 1) a (from_rest e.variables v o.kind (scalar_kinds os) types))

  pub scalars_are : (ps : List ParamTree) (v a : ℕ) → Each HasLengths (objects_of_params ps) → HasFrom e.variables v (scalar_kinds (objects ps)) → map bits (ex.variables_of (tops_from v a (objects ps))) ≡ scalar_bits ps
  scalars_are [] v a has types = refl
  scalars_are (p ∷ ps) v a has types =
      scalars_step (ex.is_array (object_elaborated p.object)) v a (object_elaborated p.object) (objects ps) ps (λ v1 a1 types1. scalars_are ps v1 a1 has.1 types1) types
      ∙ ap (λ b. if b then scalar_bits ps else width p.object.kind ∷ scalar_bits ps) (ap not has.0)

-- ---- arrays

none_step : (b : Bool) (a : ArrayTree) (xs : List ArrayTree) → b ≡ false
    → map shape_of (cond b (array_in a ∷ filter (λ (x : Array). x.host) (map array_in xs)) (filter (λ (x : Array). x.host) (map array_in xs))) ≡ shapes xs
none_step true a xs is = absurd (cc)
none_step false a xs is = refl

none_shaped : (rest : List ArrayTree) → Each (λ (a : ArrayTree). a.host ≡ false) rest → shapes rest ≡ []
none_shaped [] inner = refl
none_shaped (a ∷ rest) inner = none_step a.host a rest inner.0 ∙ none_shaped rest inner.1

arrays_step : (b : Bool) (p : ParamTree) (ps : List ParamTree) (rest : List ArrayTree) → shapes (hosts_of (objects ps) ++ rest) ≡ array_shapes ps
    → shapes ((if b then array_like (object_elaborated p.object) None None true ∷ hosts_of (objects ps) else hosts_of (objects ps)) ++ rest) ≡ (if b then array_shape p ∷ array_shapes ps else array_shapes ps)
arrays_step true p ps rest h = ap (λ xs. array_shape p ∷ xs) h
arrays_step false p ps rest h = h

pub arrays_shaped : (ps : List ParamTree) (rest : List ArrayTree) → Each HasLengths (objects_of_params ps) → Each (λ (a : ArrayTree). a.host ≡ false) rest → shapes (hosts_of (objects ps) ++ rest) ≡ array_shapes ps
arrays_shaped [] rest has inner = none_shaped rest inner
arrays_shaped (p ∷ ps) rest has inner =
    arrays_step (ex.is_array (object_elaborated p.object)) p ps rest (arrays_shaped ps rest has.1 inner) ∙ ap (λ b. if b then array_shape p ∷ array_shapes ps else array_shapes ps) (ap not has.0)

-- ---- the result

width_shown : (k : CType) → result_bits (width k) ≡ Some (width k)
width_shown t.Bool = refl
width_shown (t.Int signed bits) = bits_case (λ n. result_bits n ≡ Some n) refl refl refl refl bits

pub result_shown : (ret : Option CType) → result_bits (result_width ret) ≡ option_map width ret
result_shown None = refl
result_shown (Some k) = width_shown k
