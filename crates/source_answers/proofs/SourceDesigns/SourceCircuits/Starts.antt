-- What a start finds that fits the pins of a plan fills the program.
use Rattle.std.proofs.Common.{◌≡◌, ℕ, ◌^◌, ◌<◌, ◌∙◌, sym, refl, ap, subst, Bool, true, false, List, [], ◌∷◌, ◌++◌, map, slice_index, None, if◌then◌else◌}
use Rattle.std.specs.Prelude.{cond, filter}
use Rattle.std.proofs.lemmas.Option.{get_or_from_slice_get}
use Rattle.hls_base.specs.declared.number.VarId.{VarId}
use Rattle.c_value.specs.Values.{width}
use Rattle.pieces.specs.Resolved.Core.{CoreObjectTree}
use Rattle.piece_making.specs.Objects.{array_like}
use Rattle.pieces.specs.Program.{ArrayTree, ExpandedTree}
use Rattle.c_meaning.specs.PieceRuns.Pieces.{type_of}
use Rattle.c_meaning.specs.PieceRuns.Runs.{frame_of, type_in}
use Rattle.c_expand.specs.Expansion as ex
use Rattle.c_elaborate.specs.Homes.{Each}
use Rattle.expanded_programs.specs.Outlines.{hosts_of}
use Rattle.pass_runs.specs.LowerRuns.Holding.{IsThere}
use Rattle.pass_runs.proofs.ConvertRuns.LoweredConversions.Expressions.{mapped}
use Rattle.rtl_core.specs.ClockStep.{Fit, fit_none, fit_one}
use Rattle.timed_pieces.specs.StartedWords.FirstWords.{FillVariables, FillHosts}
use Rattle.compile_steps.proofs.BegunPrograms.Arrays.{none_filled}
use Rattle.datapath.specs.Plans.{Array}
use Rattle.source_answers.proofs.SourceDesigns.PlanWords.Frames.{array_in}
use Rattle.source_answers.specs.SourceDesigns.SourceCircuits.Fitting.{FitArrays}
use Rattle.source_answers.proofs.SourceDesigns.SourceCircuits.Left.{shape_of, shapes, fills_array}

-- ---- arguments

pub arguments_fill : (e : ExpandedTree) (vs : List VarId) (xs : List ℕ) → Each (IsThere (frame_of e)) vs → Fit (map (λ (v : VarId). slice_index (map width e.variables) v.0) vs) xs → FillVariables e vs xs
arguments_fill e [] xs there fit_none = refl
arguments_fill e (v ∷ vs) xs there (fit_one bits x widths rest lt fit) =
    let at = there.0 in
    let is : slice_index (map width e.variables) v.0 ≡ width (type_in e v) =
    get_or_from_slice_get (map width e.variables) v.0 (width at.0) 0 (mapped width e.variables v.0 at.0 at.1) ∙ ap width (sym (ap type_of at.1)) in
    (subst (λ n. x < 2 ^ n) is lt, arguments_fill e vs rest there.1 fit)

-- ---- arrays

abbrev IsInner : ArrayTree → Type 0
IsInner a = a.host ≡ false

inner_step : (b : Bool) (a : ArrayTree) (xs : List ArrayTree) (rows : List (List ℕ)) → b ≡ false
    → FitArrays (map shape_of (cond b (array_in a ∷ filter (λ (x : Array). x.host) (map array_in xs)) (filter (λ (x : Array). x.host) (map array_in xs)))) rows → FitArrays (shapes xs) rows
inner_step true a xs rows is h = absurd (cc)
inner_step false a xs rows is h = h

inner_none : (rest : List ArrayTree) (rows : List (List ℕ)) → Each IsInner rest → FitArrays (shapes rest) rows → rows ≡ []
inner_none [] [] inner h = refl
inner_none [] (row ∷ rows) inner h = absurd h
inner_none (a ∷ rest) rows inner h = inner_none rest rows inner.1 (inner_step a.host a rest rows inner.0 h)

hosts_step : (b : Bool) (o : CoreObjectTree) (os : List CoreObjectTree) (rest : List ArrayTree) (rows : List (List ℕ))
    → ((rows1 : List (List ℕ)) → FitArrays (shapes (hosts_of os ++ rest)) rows1 → FillHosts (hosts_of os ++ rest) rows1)
    → FitArrays (shapes ((if b then array_like o None None true ∷ hosts_of os else hosts_of os) ++ rest)) rows → FillHosts ((if b then array_like o None None true ∷ hosts_of os else hosts_of os) ++ rest) rows
hosts_step true o os rest [] h fit = absurd fit
hosts_step true o os rest (row ∷ rows) h fit = (refl, fills_array (array_like o None None true) row fit.0, h rows fit.1)
hosts_step false o os rest rows h fit = h rows fit

pub hosts_fill : (os : List CoreObjectTree) (rest : List ArrayTree) (rows : List (List ℕ)) → Each IsInner rest → FitArrays (shapes (hosts_of os ++ rest)) rows → FillHosts (hosts_of os ++ rest) rows
hosts_fill [] rest rows inner fit = subst (FillHosts rest) (sym (inner_none rest rows inner fit)) (none_filled rest inner)
hosts_fill (o ∷ os) rest rows inner fit = hosts_step (ex.is_array o) o os rest rows (λ rows1. hosts_fill os rest rows1 inner) fit
