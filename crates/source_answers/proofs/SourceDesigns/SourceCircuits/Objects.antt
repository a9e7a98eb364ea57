-- Inputs that fill the variables and arrays of an expansion fit the objects that these stand for.
use Rattle.std.proofs.Common.{◌≡◌, ℕ, ◌+◌, ◌^◌, ◌<◌, ◌∙◌, sym, refl, ap, subst, Bool, true, false, true≢false, ◌||◌, List, [], ◌∷◌, ◌++◌, drop, slice_get, Some, None, if◌then◌else◌}
use Rattle.std.specs.Prelude.{not}
use Rattle.hls_base.specs.ArrayAddress.{element_count}
use Rattle.c_token.specs.declared.ctype.CType.{CType}
use Rattle.c_value.specs.Values.{width}
use Rattle.pieces.specs.Resolved.Core.{CoreObjectTree, FileObjectTree}
use Rattle.piece_making.specs.declared.frame.Home.TheVariants as home
use Rattle.piece_making.specs.Making.{variable_number, array_number}
use Rattle.piece_making.specs.Objects.{array_like, first_value}
use Rattle.pieces.specs.Program.{ArrayTree, ExpandedTree}
use Rattle.c_meaning.specs.PieceRuns.Pieces.{type_of}
use Rattle.c_meaning.specs.PieceRuns.Runs as pr
use Rattle.c_meaning.specs.PieceRuns.Runs.{type_in}
use Rattle.c_expand.specs.Expansion as ex
use Rattle.c_expand.specs.Expansion.{is_array}
use Rattle.c_elaborate.specs.Homes.{Each}
use Rattle.expand_runs.specs.Laws.{FillsObject, FillObjects, kept_objects}
use Rattle.expanded_programs.specs.Outlines.{keeps_from, kept_kinds, files_of, hosts_of, tops_from, scalar_kinds}
use Rattle.expanded_programs.proofs.Entries.{HasFrom, from_first, from_rest, is_scalar}
use Rattle.expanded_programs.proofs.Plain.{ArePlain}
use Rattle.expanded_programs.proofs.Started.{Takes}
use Rattle.timed_pieces.specs.StartedWords.FirstWords.{FillVariables, FillHosts}
use Rattle.compile_steps.specs.BegunPrograms.{KeptFills, FillKept}

-- no rows are left where the host reaches nothing
pub none_hosts : (rest : List ArrayTree) (rows : List (List ℕ)) → Each (λ (a : ArrayTree). a.host ≡ false) rest → FillHosts rest rows → rows ≡ []
none_hosts [] rows inner h = h
none_hosts (a ∷ rest) [] inner h = refl
none_hosts (a ∷ rest) (row ∷ rows) inner h = absurd (true≢false (sym h.0 ∙ inner.0))

none_kept : (rest : List ArrayTree) (rows : List (List ℕ)) → ArePlain rest → FillKept rest rows → rows ≡ []
none_kept [] rows plain h = h
none_kept (a ∷ rest) rows plain h = none_kept rest rows plain.1 (subst (λ o. KeptFills o a rows (FillKept rest rows) (FillKept rest (drop 1 rows))) plain.0.initial h)

scalar_fills : (o : CoreObjectTree) (word : ℕ) → is_array o ≡ false → word < 2 ^ width o.kind → FillsObject o (word ∷ [])
scalar_fills o word is lt = (sym (ap element_count (is_scalar o is)), (lt, tt))

module _ (e : ExpandedTree) where
  of_kind : (v : ℕ) (k : CType) (word : ℕ) → slice_get e.variables v ≡ Some k → word < 2 ^ width (type_in e (variable_number v)) → word < 2 ^ width k
  of_kind v k word at lt = subst (λ z. word < 2 ^ width z) (ap type_of at) lt

  -- ---- parameters

  params_step : (b : Bool) (v a : ℕ) (o : CoreObjectTree) (os : List CoreObjectTree) (rest : List ArrayTree) (scalars : List ℕ) (rows : List (List ℕ)) → is_array o ≡ b
      → ((v1 a1 : ℕ) (scalars1 : List ℕ) (rows1 : List (List ℕ)) → HasFrom e.variables v1 (scalar_kinds os) → FillVariables e (ex.variables_of (tops_from v1 a1 os)) scalars1 → FillHosts (hosts_of os ++ rest) rows1 → FillObjects os scalars1 rows1)
      → HasFrom e.variables v (if b then scalar_kinds os else o.kind ∷ scalar_kinds os)
      → FillVariables e (ex.variables_of (if b then home.Array (array_number a) ∷ tops_from v (a + 1) os else home.Variable (variable_number v) ∷ tops_from (v + 1) a os)) scalars
      → FillHosts ((if b then array_like o None None true ∷ hosts_of os else hosts_of os) ++ rest) rows → Takes b o os scalars rows
  params_step true v a o os rest scalars [] is h types vars hosts = absurd (true≢false hosts.0)
  params_step true v a o os rest scalars (row ∷ rows) is h types vars hosts = (row, rows, refl, hosts.1, h v (a + 1) scalars rows types vars hosts.2)
  params_step false v a o os rest [] rows is h types vars hosts = absurd vars
  params_step false v a o os rest (word ∷ words) rows is h types vars hosts = (
    word,
    words,
    refl,
    scalar_fills o word is (of_kind v o.kind word (from_first e.variables v o.kind (scalar_kinds os) types) vars.0),
    h (v + 1) a words rows (from_rest e.variables v o.kind (scalar_kinds os) types) vars.1 hosts,
  )

  pub params_objects : (os : List CoreObjectTree) (v a : ℕ) (rest : List ArrayTree) (scalars : List ℕ) (rows : List (List ℕ)) → Each (λ (x : ArrayTree). x.host ≡ false) rest
      → HasFrom e.variables v (scalar_kinds os) → FillVariables e (ex.variables_of (tops_from v a os)) scalars → FillHosts (hosts_of os ++ rest) rows → FillObjects os scalars rows
  params_objects [] v a rest scalars rows inner types vars hosts = (vars, none_hosts rest rows inner hosts)
  params_objects (o ∷ os) v a rest scalars rows inner types vars hosts = params_step (is_array o) v a o os rest scalars rows refl (λ v1 a1 scalars1 rows1. params_objects os v1 a1 rest scalars1 rows1 inner) types vars hosts

  -- ---- file scope

  kept_step : (x y : Bool) (v : ℕ) (o : FileObjectTree) (os : List FileObjectTree) (rest : List ArrayTree) (words : List ℕ) (rows : List (List ℕ)) → is_array o.object ≡ x
      → ((v1 : ℕ) (words1 : List ℕ) (rows1 : List (List ℕ)) → HasFrom e.variables v1 (kept_kinds os) → FillVariables e (pr.variables_of (keeps_from v1 os)) words1 → FillKept (files_of os ++ rest) rows1 → FillObjects (kept_objects os) words1 rows1)
      → HasFrom e.variables v (if not (x || y) then o.object.kind ∷ kept_kinds os else kept_kinds os)
      → FillVariables e (pr.variables_of (if not (x || y) then record { variable = variable_number v; value = first_value o.first } ∷ keeps_from (v + 1) os else keeps_from v os)) words
      → FillKept ((if x then (if y then array_like o.object (Some o.first) None false else array_like o.object None (Some o.first) false) ∷ files_of os else files_of os) ++ rest) rows
      → FillObjects (if y then kept_objects os else o.object ∷ kept_objects os) words rows
  kept_step true true v o os rest words rows is h types vars kept = h v words rows types vars kept
  kept_step true false v o os rest words [] is h types vars kept = absurd kept
  kept_step true false v o os rest words (row ∷ rows) is h types vars kept =
      subst (λ b. Takes b o.object (kept_objects os) words (row ∷ rows)) (sym is) (row, rows, refl, kept.0, h v words rows types vars kept.1)
  kept_step false true v o os rest words rows is h types vars kept = h v words rows types vars kept
  kept_step false false v o os rest [] rows is h types vars kept = absurd vars
  kept_step false false v o os rest (word ∷ words) rows is h types vars kept =
      subst (λ b. Takes b o.object (kept_objects os) (word ∷ words) rows) (sym is) (
        word,
        words,
        refl,
        scalar_fills o.object word is (of_kind v o.object.kind word (from_first e.variables v o.object.kind (kept_kinds os) types) vars.0),
        h (v + 1) words rows (from_rest e.variables v o.object.kind (kept_kinds os) types) vars.1 kept,
      )

  pub kept_objects_fill : (os : List FileObjectTree) (v : ℕ) (rest : List ArrayTree) (words : List ℕ) (rows : List (List ℕ)) → ArePlain rest
      → HasFrom e.variables v (kept_kinds os) → FillVariables e (pr.variables_of (keeps_from v os)) words → FillKept (files_of os ++ rest) rows → FillObjects (kept_objects os) words rows
  kept_objects_fill [] v rest words rows plain types vars kept = (vars, none_kept rest rows plain kept)
  kept_objects_fill (o ∷ os) v rest words rows plain types vars kept =
      kept_step (is_array o.object) o.object.constant v o os rest words rows refl (λ v1 words1 rows1. kept_objects_fill os v1 rest words1 rows1 plain) types vars kept

-- the rows of file scope are those behind the arrays of the host
behind_step : (b : Bool) (o : CoreObjectTree) (os : List CoreObjectTree) (rest : List ArrayTree) (rows : List (List ℕ)) → (FillKept (hosts_of os ++ rest) rows → FillKept rest rows)
    → FillKept ((if b then array_like o None None true ∷ hosts_of os else hosts_of os) ++ rest) rows → FillKept rest rows
behind_step true o os rest rows h kept = h kept
behind_step false o os rest rows h kept = h kept

pub behind_hosts : (os : List CoreObjectTree) (rest : List ArrayTree) (rows : List (List ℕ)) → FillKept (hosts_of os ++ rest) rows → FillKept rest rows
behind_hosts [] rest rows h = h
behind_hosts (o ∷ os) rest rows h = behind_step (is_array o) o os rest rows (behind_hosts os rest rows) h
