-- When the variables and memories of a program are valid.
use Rattle.std.specs.Prelude.{ℕ, ◌^◌, ◌==◌, ◌&&◌, ◌||◌, not, nat_lt, nat_le, Bool, true, List, [], ◌∷◌, length, slice_get, Option, Some, None, is_some}
use Rattle.std.specs.List.{list_all, list_any}
use Rattle.hls_base.specs.ArrayAddress.{address_bits, element_count}
use Rattle.hls_base.specs.declared.number.Kept.{Kept}
use Rattle.hls_base.specs.declared.number.VarId.{VarId}
use Rattle.ir_core.specs.declared.cfg.Frame.{Frame}
use Rattle.ir_core.specs.declared.cfg.Memory.{Memory}
use Rattle.program_validity.specs.Widths.{is_width, is_word, is_word_of}

-- ---- variables

abbrev pub is_among : VarId → List VarId → Bool
is_among v vs = list_any (λ w. w.0 == v.0) vs

abbrev pub are_different : List VarId → Bool
are_different [] = true
are_different (v ∷ vs) = not (is_among v vs) && are_different vs

abbrev pub are_variables : List ℕ → List VarId → Bool
are_variables widths vs = list_all (λ (v : VarId). nat_lt v.0 (length widths)) vs

-- a first value has the width of its variable, which is no parameter
abbrev pub is_kept : Frame → Kept → Bool
is_kept f k = is_word_of (slice_get f.variables.items k.variable.0) k.value && not (is_among k.variable f.params.items)

abbrev pub is_kept_among : VarId → List Kept → Bool
is_kept_among v ks = list_any (λ k. k.variable.0 == v.0) ks

abbrev pub keep_different : List Kept → Bool
keep_different [] = true
keep_different (k ∷ ks) = not (is_kept_among k.variable ks) && keep_different ks

abbrev pub are_kept : Frame → Bool
are_kept f = list_all (is_kept f) f.kept.items && keep_different f.kept.items

-- ---- memories

-- The lengths, rounded up to powers of two, have at most 65,536 for their product, which is 2 to the power of the address's bits.
abbrev pub are_dims : List ℕ → Bool
are_dims dims = nat_lt 0 (length dims) && (list_all (λ len. nat_le 1 len && nat_le len 65536) dims && nat_le (address_bits dims) 16)

-- one word for each element
abbrev pub are_elements : List ℕ → ℕ → List ℕ → Bool
are_elements dims bits words = (length words == element_count dims) && list_all (is_word bits) words

abbrev pub are_elements_if : List ℕ → ℕ → Option (List ℕ) → Bool
are_elements_if dims bits None = true
are_elements_if dims bits (Some words) = are_elements dims bits words

-- at most one of them: the host reaches it, it is a table, it has first contents
abbrev pub has_one_origin : Memory → Bool
has_one_origin m = not (m.host && (is_some m.table || is_some m.initial)) && not (is_some m.table && is_some m.initial)

abbrev pub is_memory : Memory → Bool
is_memory m =
    is_width m.bits
    && (are_dims m.dims.items && (has_one_origin m && (are_elements_if m.dims.items m.bits m.table && are_elements_if m.dims.items m.bits m.initial)))

-- ---- frames

-- a program may give no result
abbrev pub is_result_width : ℕ → Bool
is_result_width bits = (bits == 0) || is_width bits

abbrev pub are_params : Frame → Bool
are_params f = are_variables f.variables.items f.params.items && are_different f.params.items

abbrev pub is_frame : Frame → Bool
is_frame f =
    (nat_lt (length f.variables.items) (2 ^ 32) && nat_lt (length f.memories.items) (2 ^ 32))
    && ((list_all is_width f.variables.items && is_result_width f.ret) && ((are_params f && are_kept f) && list_all is_memory f.memories.items))
