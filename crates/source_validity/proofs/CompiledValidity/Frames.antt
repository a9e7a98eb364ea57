-- Parameters and arrays of expanded programs are as valid frames have them.
use Rattle.std.proofs.Common.{◌≡◌, ◌≢◌, ◌∙◌, ◌≤◌, ◌^◌, ℕ, zero, suc, ◌+◌, Bool, true, false, refl, ap, sym, subst, List, [], ◌∷◌, arith, slice_get, Some, if◌then◌else◌, nat_lt, ltb-true, ltb-false}
use Rattle.std.proofs.Math.Nat.{pow-le-pow_right}
use Rattle.std.proofs.lemmas.Option.{none-some, same_Some}
use Rattle.hls_base.specs.ArrayAddress.{address_bits}
use Rattle.hls_base.specs.declared.place.Place.{Place}
use Rattle.hls_base.specs.declared.number.VarId.{VarId}
use Rattle.c_tree.specs.Tree.{ProgramTree}
use Rattle.c_tree.specs.Terminals.{Terminal}
use Rattle.c_tree.specs.Grammar.{DerivesProgram}
use Rattle.c_meaning.specs.Checks.Programs.{program_faults}
use Rattle.c_elaborate.specs.Programs.{program_elaborated}
use Rattle.pieces.specs.Resolved.Core.{CoreObjectTree, CoreProgramTree}
use Rattle.c_expand.specs.Expansion as ex
use Rattle.c_expand.specs.Expansion.{is_array, expansion}
use Rattle.pieces.specs.Program.{ArrayTree, ExpandedTree}
use Rattle.piece_making.specs.declared.frame.Home.TheVariants as home
use Rattle.piece_making.specs.Making.{variable_number, array_number}
use Rattle.c_meaning.specs.PieceRuns.Runs.{frame_of}
use Rattle.pass_runs.specs.LowerRuns.Holding.{IsThere}
use Rattle.expanded_programs.specs.Calls.Programs.{IsProgramSound}
use Rattle.expanded_programs.specs.Outlines.{tops_from, scalar_kinds}
use Rattle.expanded_programs.proofs.Entries.{HasFrom, from_first, from_rest}
use Rattle.expanded_programs.proofs.TopStores.{params, kept_count, outlined, made, params_types}
use Rattle.expanded_pieces.proofs.Parts.{EachArray}
use Rattle.expanded_pieces.proofs.Calls.{expanded_each}
use Rattle.expanded_pieces.proofs.Elaborated.{elaborated_jumps}
use Rattle.expanded_pieces.proofs.Grammar.{grammar_begins}
use Rattle.expanded_pieces.specs.AddressedArrays.{ProductFits}
use Rattle.expanded_pieces.proofs.AddressedArrays.Declarations as products
use Rattle.source_validity.specs.ValidFrames.{ParametersAreThere, LengthsFit, ArraysAreDimensioned}
use Rattle.source_validity.proofs.CompiledValidity.Lengths.{elaborated_fit}

-- ---- parameters

module _ (e : ExpandedTree) where
  abbrev AllThere : List VarId → Type 0
  AllThere vs = (i : ℕ) (v : VarId) → slice_get vs i ≡ Some v → IsThere (frame_of e) v

  top_step : (b : Bool) (v a : ℕ) (o : CoreObjectTree) (os : List CoreObjectTree) → ((v1 a1 : ℕ) → HasFrom e.variables v1 (scalar_kinds os) → AllThere (ex.variables_of (tops_from v1 a1 os))) → HasFrom e.variables v (if b then scalar_kinds os else o.kind ∷ scalar_kinds os)
      → AllThere (ex.variables_of (if b then home.Array (array_number a) ∷ tops_from v (a + 1) os else home.Variable (variable_number v) ∷ tops_from (v + 1) a os))
  top_step true v a o os h types i x at = h v (a + 1) types i x at
  top_step false v a o os h types zero x at = subst (IsThere (frame_of e)) (same_Some (variable_number v) x at) (o.kind, from_first e.variables v o.kind (scalar_kinds os) types)
  top_step false v a o os h types (suc i) x at = h (v + 1) a (from_rest e.variables v o.kind (scalar_kinds os) types) i x at

  tops_there : (os : List CoreObjectTree) (v a : ℕ) → HasFrom e.variables v (scalar_kinds os) → AllThere (ex.variables_of (tops_from v a os))
  tops_there [] v a types i x at = absurd (none-some x at)
  tops_there (o ∷ os) v a types i x at = top_step (is_array o) v a o os (λ v1 a1 types1. tops_there os v1 a1 types1) types i x at

pub sound_params : (p : CoreProgramTree) → IsProgramSound p → ParametersAreThere (expansion p)
sound_params p sound =
    let fn = sound.top.0 in
    let is_fn = sound.top.1 in
    let are : (expansion p).params ≡ ex.variables_of (tops_from (kept_count p sound fn is_fn) 0 (params p sound fn is_fn)) = (made p sound fn is_fn).params ∙ ap ex.variables_of (outlined p sound fn is_fn).params in
    subst (AllThere (expansion p)) (sym are) (tops_there (expansion p) (params p sound fn is_fn) (kept_count p sound fn is_fn) 0 (params_types p sound fn is_fn))

-- ---- arrays

few_bits : (n : ℕ) → 2 ^ n ≤ 65536 → n ≤ 16
few_bits n h = either (nat_lt n 17) refl where
  either : (b : Bool) → nat_lt n 17 ≡ b → n ≤ 16
  either true e = let lt = ltb-true n 17 e in omega (arith, lt)
  either false e =
      let more : 2 ^ 17 ≤ 2 ^ n = pow-le-pow_right (omega arith) (ltb-false n 17 e) in
      absurd (omega (arith, h, more))

each_at : (Q : List ℕ → Type 0) (arrays : List ArrayTree) → EachArray Q arrays → (i : ℕ) (a : ArrayTree) → slice_get arrays i ≡ Some a → Q a.lengths
each_at Q [] h i a at = absurd (none-some a at)
each_at Q (x ∷ arrays) h zero a at = subst (λ (z : ArrayTree). Q z.lengths) (same_Some x a at) h.0
each_at Q (x ∷ arrays) h (suc i) a at = each_at Q arrays h.1 i a at

pub dimensioned : (tokens : List Terminal) (end : Place) (p : ProgramTree) (top : ℕ) (name : List ℕ) → DerivesProgram tokens end p → program_faults p name ≡ []
    → ((i : ℕ) (a : ArrayTree) → slice_get (expansion (program_elaborated p top)).arrays i ≡ Some a → a.lengths ≢ []) → ArraysAreDimensioned (expansion (program_elaborated p top))
dimensioned tokens end p top name derives none some i a at =
    let core = program_elaborated p top in
    let jumps = elaborated_jumps p top name none (grammar_begins tokens end p derives) in
    let fit = elaborated_fit p top in
    let low = products.elaborated_fit p top name none in record {
      some = some i a at;
      lengths = each_at LengthsFit (expansion core).arrays (expanded_each LengthsFit core jumps fit.0 fit.1) i a at;
      address = few_bits (address_bits a.lengths) (each_at ProductFits (expansion core).arrays (expanded_each ProductFits core jumps low.0 low.1) i a at);
    }
