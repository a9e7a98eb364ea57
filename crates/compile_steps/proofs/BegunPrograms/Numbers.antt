-- Variables of file scope and parameters have numbers of their own.
use Rattle.std.proofs.Common.{ℕ, ◌+◌, ◌<◌, ◌≤◌, le_refl, Bool, true, false, List, [], ◌∷◌, length, arith, if◌then◌else◌}
use Rattle.hls_base.specs.declared.number.VarId.{VarId}
use Rattle.pieces.specs.Resolved.Core.{CoreObjectTree, FileObjectTree}
use Rattle.piece_making.specs.declared.frame.Home.TheVariants as home
use Rattle.piece_making.specs.Making.{variable_number, array_number}
use Rattle.piece_making.specs.Objects.{first_value}
use Rattle.c_meaning.specs.PieceRuns.Runs as pr
use Rattle.c_expand.specs.Expansion as ex
use Rattle.c_expand.specs.Expansion.{is_array, is_kept}
use Rattle.expanded_programs.specs.Outlines.{keeps_from, kept_kinds, tops_from, scalar_kinds}
use Rattle.timed_pieces.specs.StartedWords.FirstWords.{IsNotIn, Differ, AreApart}

-- the numbers lie from the first to before the second
abbrev pub AreWithin : ℕ → ℕ → List VarId → Type 0
AreWithin low high [] = Unit {0}
AreWithin low high (v ∷ vs) = (low ≤ v.0) × (v.0 < high) × AreWithin low high vs

within_more : (low high low1 high1 : ℕ) (vs : List VarId) → low1 ≤ low → high ≤ high1 → AreWithin low high vs → AreWithin low1 high1 vs
within_more low high low1 high1 [] a b h = tt
within_more low high low1 high1 (v ∷ vs) a b h = ((let x = h.0 in omega (arith, x, a)), (let x = h.1 in omega (arith, x, b)), within_more low high low1 high1 vs a b h.2)

not_above : (v : VarId) (low high : ℕ) (vs : List VarId) → v.0 < low → AreWithin low high vs → IsNotIn v vs
not_above v low high [] lt h = tt
not_above v low high (w ∷ ws) lt h = ((λ e. (let le = h.0 in omega (arith, lt, le, e))), not_above v low high ws lt h.2)

pub apart_within : (low middle high : ℕ) (vs ws : List VarId) → AreWithin low middle vs → AreWithin middle high ws → AreApart vs ws
apart_within low middle high [] ws h g = tt
apart_within low middle high (v ∷ vs) ws h g = (not_above v middle high ws h.1 g, apart_within low middle high vs ws h.2 g)

-- numbers of their own within these bounds
abbrev pub AreOwn : ℕ → ℕ → List VarId → Type 0
AreOwn low high vs = AreWithin low high vs × Differ vs

own_first : (v high : ℕ) (vs : List VarId) → v < high → AreOwn (v + 1) high vs → AreOwn v high (variable_number v ∷ vs)
own_first v high vs lt h = (
  (le_refl v, lt, within_more (v + 1) high v high vs (omega arith) (le_refl high) h.0),
  (not_above (variable_number v) (v + 1) high vs (omega arith) h.0, h.1),
)

kept_step : (b : Bool) (v high : ℕ) (o : FileObjectTree) (os : List FileObjectTree) → ((v1 : ℕ) → v1 + length (kept_kinds os) ≤ high → AreOwn v1 high (pr.variables_of (keeps_from v1 os)))
    → v + length (if b then o.object.kind ∷ kept_kinds os else kept_kinds os) ≤ high
    → AreOwn v high (pr.variables_of (if b then record { variable = variable_number v; value = first_value o.first } ∷ keeps_from (v + 1) os else keeps_from v os))
kept_step true v high o os h le = own_first v high (pr.variables_of (keeps_from (v + 1) os)) (omega (arith, le)) (h (v + 1) (omega (arith, le)))
kept_step false v high o os h le = h v le

pub kept_own : (os : List FileObjectTree) (v high : ℕ) → v + length (kept_kinds os) ≤ high → AreOwn v high (pr.variables_of (keeps_from v os))
kept_own [] v high le = (tt, tt)
kept_own (o ∷ os) v high le = kept_step (is_kept o) v high o os (λ v1 le1. kept_own os v1 high le1) le

params_step : (b : Bool) (v a high : ℕ) (o : CoreObjectTree) (os : List CoreObjectTree) → ((v1 a1 : ℕ) → v1 + length (scalar_kinds os) ≤ high → AreOwn v1 high (ex.variables_of (tops_from v1 a1 os)))
    → v + length (if b then scalar_kinds os else o.kind ∷ scalar_kinds os) ≤ high
    → AreOwn v high (ex.variables_of (if b then home.Array (array_number a) ∷ tops_from v (a + 1) os else home.Variable (variable_number v) ∷ tops_from (v + 1) a os))
params_step true v a high o os h le = h v (a + 1) le
params_step false v a high o os h le = own_first v high (ex.variables_of (tops_from (v + 1) a os)) (omega (arith, le)) (h (v + 1) a (omega (arith, le)))

pub params_own : (os : List CoreObjectTree) (v a high : ℕ) → v + length (scalar_kinds os) ≤ high → AreOwn v high (ex.variables_of (tops_from v a os))
params_own [] v a high le = (tt, tt)
params_own (o ∷ os) v a high le = params_step (is_array o) v a high o os (λ v1 a1 le1. params_own os v1 a1 high le1) le
