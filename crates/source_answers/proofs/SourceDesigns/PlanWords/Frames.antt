-- The arrays, parameters and scalars of a plan are those of the expanded program whose frame it has.
use Rattle.std.proofs.Common.{◌≡◌, ◌∙◌, ◌+◌, ℕ, zero, suc, refl, ap, sym, List, [], ◌∷◌, map, get_or, take, slice_get, Some, None}
use Rattle.std.specs.Prelude.{cond, count_by, is_some, option_map}
use Rattle.std.proofs.lemmas.List.Sums.{sum_by-cons}
use Rattle.std.proofs.lemmas.Option.{none-some, same_Some, slice_get-map}
use Rattle.pieces.specs.Program.{ArrayTree, ExpandedTree}
use Rattle.ir_core.specs.declared.cfg.Cfg.{Cfg}
use Rattle.ir_core.specs.declared.cfg.Memory.{Memory}
use Rattle.ir_lower.specs.Frames.{MemoryView, FrameView, memory_view, frame_view}
use Rattle.ir_core.specs.declared.timed.Timed.{Timed}
use Rattle.compile_steps.specs.Resets.{array_memory, expanded_frame}
use Rattle.datapath.specs.Plans as plans
use Rattle.datapath.specs.Plans.{Array, no_array}

-- ---- arrays

-- the array of a plan, by its memory
abbrev pub viewed : MemoryView → Array
viewed m = record { bits = m.bits; dims = m.dims; table = m.table; first = m.initial; host = m.host }

abbrev pub array_in : ArrayTree → Array
array_in a = viewed (array_memory a)

views : (ms : List Memory) → map plans.array_of ms ≡ map viewed (map memory_view ms)
views [] = refl
views (m ∷ ms) = ap (λ xs. plans.array_of m ∷ xs) (views ms)

own : (xs : List ArrayTree) → map viewed (map array_memory xs) ≡ map array_in xs
own [] = refl
own (a ∷ xs) = ap (λ ys. array_in a ∷ ys) (own xs)

pub arrays_are : (e : ExpandedTree) (timed : Cfg Timed) → frame_view timed.frame ≡ expanded_frame e → map plans.array_of timed.frame.memories.items ≡ map array_in e.arrays
arrays_are e timed same = views timed.frame.memories.items ∙ ap (λ (v : FrameView). map viewed v.memories) same ∙ own e.arrays

-- the array of this number
pub array_there : (xs : List ArrayTree) (j : ℕ) (a : ArrayTree) → slice_get xs j ≡ Some a → get_or (map array_in xs) j no_array ≡ array_in a
array_there [] j a at = absurd (none-some a at)
array_there (x ∷ xs) zero a at = ap array_in (same_Some x a at)
array_there (x ∷ xs) (suc j) a at = array_there xs j a at

-- where there is none, there are no first elements and no table
pub none_there : (xs : List ArrayTree) (j : ℕ) → slice_get xs j ≡ None → get_or (map array_in xs) j no_array ≡ no_array
none_there [] zero at = refl
none_there [] (suc j) at = refl
none_there (x ∷ xs) zero at = absurd (none-some x (sym at))
none_there (x ∷ xs) (suc j) at = none_there xs j at

pub kept_there : (xs : List ArrayTree) (j : ℕ) (a : ArrayTree) → slice_get xs j ≡ Some a → slice_get (map array_in xs) j ≡ Some (array_in a)
kept_there xs j a at = slice_get-map array_in xs j ∙ ap (option_map array_in) at

pub absent_there : (xs : List ArrayTree) (j : ℕ) → slice_get xs j ≡ None → slice_get (map array_in xs) j ≡ None
absent_there xs j at = slice_get-map array_in xs j ∙ ap (option_map array_in) at

-- ---- numbers

-- how many of the arrays before this one are kept at file scope
abbrev pub kept_before : List ArrayTree → ℕ → ℕ
kept_before xs j = count_by (λ (b : Array). is_some b.first) (take j (map array_in xs))

pub kept_next : (a : ArrayTree) (xs : List ArrayTree) (j : ℕ) → kept_before (a ∷ xs) (suc j) ≡ cond (is_some a.initial) 1 0 + kept_before xs j
kept_next a xs j = sum_by-cons (λ (b : Array). cond (is_some b.first) 1 0) (array_in a) (take j (map array_in xs))
