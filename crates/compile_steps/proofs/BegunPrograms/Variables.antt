-- Variables of file scope and parameters are there, and their words fit them.
use Rattle.std.proofs.Common.{◌≡◌, ℕ, zero, suc, ◌+◌, ◌^◌, ◌<◌, sym, refl, ap, subst, Bool, true, false, ◌||◌, List, [], ◌∷◌, map, slice_get, Some, if◌then◌else◌}
use Rattle.std.specs.Prelude.{not}
use Rattle.std.proofs.lemmas.Option.{none-some, same_Some}
use Rattle.std.proofs.lemmas.Nat.{pow_pos}
use Rattle.hls_base.specs.declared.number.Kept.{Kept}
use Rattle.c_token.specs.declared.ctype.CType.{CType}
use Rattle.c_value.specs.Values.{width}
use Rattle.pieces.specs.Resolved.Core.{CoreObjectTree, FileObjectTree}
use Rattle.piece_making.specs.declared.frame.Home.TheVariants as home
use Rattle.piece_making.specs.Making.{variable_number, array_number}
use Rattle.piece_making.specs.Objects.{first_value}
use Rattle.pieces.specs.Program.{ExpandedTree}
use Rattle.c_meaning.specs.PieceRuns.Pieces.{type_of}
use Rattle.c_meaning.specs.PieceRuns.Runs as pr
use Rattle.c_meaning.specs.PieceRuns.Runs.{frame_of, type_in}
use Rattle.c_expand.specs.Expansion as ex
use Rattle.c_expand.specs.Expansion.{is_array, is_kept}
use Rattle.pass_runs.specs.LowerRuns.Holding.{IsThere}
use Rattle.expand_runs.specs.Laws.{AreWords, FillObjects, kept_objects}
use Rattle.expanded_programs.specs.Outlines.{keeps_from, kept_kinds, tops_from, scalar_kinds}
use Rattle.expanded_programs.proofs.Entries.{HasFrom, from_first, from_rest}
use Rattle.expanded_programs.proofs.Started.{Takes}
use Rattle.timed_pieces.specs.StartedWords.FirstWords.{FillVariables}
use Rattle.compile_steps.specs.BegunPrograms.{FilesFill}

-- the first of words that fit a type, or 0
first_fits : (k : CType) (words : List ℕ) → AreWords k words → first_value words < 2 ^ width k
first_fits k [] h = pow_pos (width k)
first_fits k (w ∷ words) h = h.0

module _ (e : ExpandedTree) where
  -- a word that fits a type is one of a variable of that type
  word_fits : (v : ℕ) (k : CType) (word : ℕ) → slice_get e.variables v ≡ Some k → word < 2 ^ width k → word < 2 ^ width (type_in e (variable_number v))
  word_fits v k word at lt = subst (λ z. word < 2 ^ width z) (sym (ap type_of at)) lt

  -- ---- file scope

  kept_step : (b : Bool) (v : ℕ) (o : FileObjectTree) (os : List FileObjectTree) → ((v1 : ℕ) → HasFrom e.variables v1 (kept_kinds os) → FillVariables e (pr.variables_of (keeps_from v1 os)) (map (λ k. k.value) (keeps_from v1 os)))
      → AreWords o.object.kind o.first → HasFrom e.variables v (if b then o.object.kind ∷ kept_kinds os else kept_kinds os)
      → let kept : List Kept = if b then record { variable = variable_number v; value = first_value o.first } ∷ keeps_from (v + 1) os else keeps_from v os in
      FillVariables e (pr.variables_of kept) (map (λ k. k.value) kept)
  kept_step true v o os h fits types = (
    word_fits v o.object.kind (first_value o.first) (from_first e.variables v o.object.kind (kept_kinds os) types) (first_fits o.object.kind o.first fits),
    h (v + 1) (from_rest e.variables v o.object.kind (kept_kinds os) types),
  )
  kept_step false v o os h fits types = h v types

  pub kept_fill : (os : List FileObjectTree) (v : ℕ) → FilesFill os → HasFrom e.variables v (kept_kinds os) → FillVariables e (pr.variables_of (keeps_from v os)) (map (λ k. k.value) (keeps_from v os))
  kept_fill [] v fills types = refl
  kept_fill (o ∷ os) v fills types = kept_step (is_kept o) v o os (λ v1 types1. kept_fill os v1 (λ i q at. fills (suc i) q at) types1) (fills 0 o refl).1 types

  there_step : (b : Bool) (v : ℕ) (o : FileObjectTree) (os : List FileObjectTree) → ((v1 : ℕ) → HasFrom e.variables v1 (kept_kinds os) → (i : ℕ) (k : Kept) → slice_get (keeps_from v1 os) i ≡ Some k → IsThere (frame_of e) k.variable)
      → HasFrom e.variables v (if b then o.object.kind ∷ kept_kinds os else kept_kinds os)
      → (i : ℕ) (k : Kept) → slice_get (if b then record { variable = variable_number v; value = first_value o.first } ∷ keeps_from (v + 1) os else keeps_from v os) i ≡ Some k → IsThere (frame_of e) k.variable
  there_step true v o os h types zero k at =
      subst (λ (z : Kept). IsThere (frame_of e) z.variable) (same_Some (record { variable = variable_number v; value = first_value o.first }) k at) (o.object.kind, from_first e.variables v o.object.kind (kept_kinds os) types)
  there_step true v o os h types (suc i) k at = h (v + 1) (from_rest e.variables v o.object.kind (kept_kinds os) types) i k at
  there_step false v o os h types i k at = h v types i k at

  pub kept_there : (os : List FileObjectTree) (v : ℕ) → HasFrom e.variables v (kept_kinds os) → (i : ℕ) (k : Kept) → slice_get (keeps_from v os) i ≡ Some k → IsThere (frame_of e) k.variable
  kept_there [] v types i k at = absurd (none-some k at)
  kept_there (o ∷ os) v types i k at = there_step (is_kept o) v o os (λ v1 types1. kept_there os v1 types1) types i k at

  given_step : (x y : Bool) (v : ℕ) (o : FileObjectTree) (os : List FileObjectTree) (words : List ℕ) (rows : List (List ℕ)) → is_array o.object ≡ x
      → ((v1 : ℕ) (words1 : List ℕ) (rows1 : List (List ℕ)) → HasFrom e.variables v1 (kept_kinds os) → FillObjects (kept_objects os) words1 rows1 → FillVariables e (pr.variables_of (keeps_from v1 os)) words1)
      → HasFrom e.variables v (if not (x || y) then o.object.kind ∷ kept_kinds os else kept_kinds os) → FillObjects (if y then kept_objects os else o.object ∷ kept_objects os) words rows
      → FillVariables e (pr.variables_of (if not (x || y) then record { variable = variable_number v; value = first_value o.first } ∷ keeps_from (v + 1) os else keeps_from v os)) words
  given_step true true v o os words rows is h types fill = h v words rows types fill
  given_step true false v o os words rows is h types fill = (let z = subst (λ b. Takes b o.object (kept_objects os) words rows) is fill in h v words z.1 types z.4)
  given_step false true v o os words rows is h types fill = h v words rows types fill
  given_step false false v o os words rows is h types fill =
      let z = subst (λ b. Takes b o.object (kept_objects os) words rows) is fill in
      subst (FillVariables e (variable_number v ∷ pr.variables_of (keeps_from (v + 1) os))) (sym z.2) (
        word_fits v o.object.kind z.0 (from_first e.variables v o.object.kind (kept_kinds os) types) z.3.1.0,
        h (v + 1) z.1 rows (from_rest e.variables v o.object.kind (kept_kinds os) types) z.4,
      )

  pub given_fill : (os : List FileObjectTree) (v : ℕ) (words : List ℕ) (rows : List (List ℕ)) → HasFrom e.variables v (kept_kinds os) → FillObjects (kept_objects os) words rows → FillVariables e (pr.variables_of (keeps_from v os)) words
  given_fill [] v words rows types fill = fill.0
  given_fill (o ∷ os) v words rows types fill = given_step (is_array o.object) o.object.constant v o os words rows refl (λ v1 words1 rows1. given_fill os v1 words1 rows1) types fill

  -- ---- parameters

  params_step : (b : Bool) (v a : ℕ) (o : CoreObjectTree) (os : List CoreObjectTree) (scalars : List ℕ) (arrays : List (List ℕ))
      → ((v1 a1 : ℕ) (scalars1 : List ℕ) (arrays1 : List (List ℕ)) → FillObjects os scalars1 arrays1 → HasFrom e.variables v1 (scalar_kinds os) → FillVariables e (ex.variables_of (tops_from v1 a1 os)) scalars1)
      → Takes b o os scalars arrays → HasFrom e.variables v (if b then scalar_kinds os else o.kind ∷ scalar_kinds os)
      → FillVariables e (ex.variables_of (if b then home.Array (array_number a) ∷ tops_from v (a + 1) os else home.Variable (variable_number v) ∷ tops_from (v + 1) a os)) scalars
  params_step true v a o os scalars arrays h takes types = h v (a + 1) scalars takes.1 takes.4 types
  params_step false v a o os scalars arrays h takes types =
      subst (FillVariables e (variable_number v ∷ ex.variables_of (tops_from (v + 1) a os))) (sym takes.2) (
        word_fits v o.kind takes.0 (from_first e.variables v o.kind (scalar_kinds os) types) takes.3.1.0,
        h (v + 1) a takes.1 arrays takes.4 (from_rest e.variables v o.kind (scalar_kinds os) types),
      )

  pub params_fill : (os : List CoreObjectTree) (v a : ℕ) (scalars : List ℕ) (arrays : List (List ℕ)) → FillObjects os scalars arrays → HasFrom e.variables v (scalar_kinds os) → FillVariables e (ex.variables_of (tops_from v a os)) scalars
  params_fill [] v a scalars arrays fill types = fill.0
  params_fill (o ∷ os) v a scalars arrays fill types = params_step (is_array o) v a o os scalars arrays (λ v1 a1 scalars1 arrays1. params_fill os v1 a1 scalars1 arrays1) fill types
