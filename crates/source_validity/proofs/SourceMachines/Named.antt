-- What file scope keeps and what is passed to a program has variables of its own.
use Rattle.std.proofs.Common.{ℕ, ◌+◌, Bool, true, false, List, [], ◌∷◌, length, if◌then◌else◌}
use Rattle.std.proofs.lemmas.Option.{slice_get_within}
use Rattle.c_token.specs.declared.ctype.CType.{CType}
use Rattle.pieces.specs.Resolved.Core.{CoreObjectTree, FileObjectTree}
use Rattle.piece_making.specs.declared.frame.Home.TheVariants as home
use Rattle.piece_making.specs.Making.{variable_number, array_number}
use Rattle.piece_making.specs.Objects.{first_value}
use Rattle.c_expand.specs.Expansion.{is_array, is_kept, variables_of}
use Rattle.expanded_programs.specs.Outlines.{keeps_from, kept_kinds, tops_from, scalar_kinds}
use Rattle.expanded_programs.proofs.Entries.{HasFrom, from_first, from_rest}
use Rattle.clock_machine.specs.Starts.{KeptThere, ParametersThere}

module _ (variables : List CType) where
  kept_step : (v : ℕ) (o : FileObjectTree) (os : List FileObjectTree) (b : Bool) → (HasFrom variables (v + 1) (kept_kinds os) → KeptThere (keeps_from (v + 1) os) (length variables)) → (HasFrom variables v (kept_kinds os) → KeptThere (keeps_from v os) (length variables))
      → HasFrom variables v (if b then o.object.kind ∷ kept_kinds os else kept_kinds os)
      → KeptThere (if b then record { variable = variable_number v; value = first_value o.first } ∷ keeps_from (v + 1) os else keeps_from v os) (length variables)
  kept_step v o os true more less h = (slice_get_within variables v o.object.kind (from_first variables v o.object.kind (kept_kinds os) h), more (from_rest variables v o.object.kind (kept_kinds os) h))
  kept_step v o os false more less h = less h

  pub kept_there : (v : ℕ) (os : List FileObjectTree) → HasFrom variables v (kept_kinds os) → KeptThere (keeps_from v os) (length variables)
  kept_there v [] h = tt
  kept_there v (o ∷ os) h = kept_step v o os (is_kept o) (λ g. kept_there (v + 1) os g) (λ g. kept_there v os g) h

  top_step : (v a : ℕ) (o : CoreObjectTree) (os : List CoreObjectTree) (b : Bool) → (HasFrom variables (v + 1) (scalar_kinds os) → ParametersThere (variables_of (tops_from (v + 1) a os)) (length variables)) → (HasFrom variables v (scalar_kinds os) → ParametersThere (variables_of (tops_from v (a + 1) os)) (length variables))
      → HasFrom variables v (if b then scalar_kinds os else o.kind ∷ scalar_kinds os)
      → ParametersThere (variables_of (if b then home.Array (array_number a) ∷ tops_from v (a + 1) os else home.Variable (variable_number v) ∷ tops_from (v + 1) a os)) (length variables)
  top_step v a o os true more less h = less h
  top_step v a o os false more less h = (slice_get_within variables v o.kind (from_first variables v o.kind (scalar_kinds os) h), more (from_rest variables v o.kind (scalar_kinds os) h))

  pub tops_there : (v a : ℕ) (os : List CoreObjectTree) → HasFrom variables v (scalar_kinds os) → ParametersThere (variables_of (tops_from v a os)) (length variables)
  tops_there v a [] h = tt
  tops_there v a (o ∷ os) h = top_step v a o os (is_array o) (λ g. tops_there (v + 1) a os g) (λ g. tops_there v (a + 1) os g) h
