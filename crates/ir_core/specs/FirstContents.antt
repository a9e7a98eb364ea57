-- What variables and memories hold as a run begins.
use Rattle.std.specs.Prelude.{ℕ, ◌==◌, Bool, List, [], ◌∷◌, slice_get, get_or, Option, Some, None, if◌then◌else◌}
use Rattle.hls_base.specs.ArrayAddress.{addresses}
use Rattle.hls_base.specs.declared.inputs.Inputs.{Inputs}
use Rattle.hls_base.specs.declared.number.Kept.{Kept}
use Rattle.hls_base.specs.declared.number.VarId.{VarId}
use Rattle.ir_core.specs.declared.cfg.Frame.{Frame}
use Rattle.ir_core.specs.declared.cfg.Memory.{Memory}
use Rattle.ir_core.specs.Bodies.{Words, with_word}

-- ---- memories

-- the element that is given for the place at this address, or else this word
abbrev pub given_at : List ℕ → List ℕ → ℕ → ℕ → ℕ
given_at (place ∷ places) (x ∷ xs) address w = if place == address then x else given_at places xs address w
given_at _ _ address w = w

abbrev pub elements_or_none : Option (List ℕ) → List ℕ
elements_or_none None = []
elements_or_none (Some xs) = xs

-- A table has its words, a memory of file scope its first contents, and one that the host reaches the elements that it gives. All else is 0.
abbrev pub first_word : Memory → List ℕ → ℕ → ℕ
first_word memory given address =
    given_at (addresses memory.dims.items) (if memory.host then given else []) address
    (given_at (addresses memory.dims.items) (elements_or_none memory.initial) address
    (given_at (addresses memory.dims.items) (elements_or_none memory.table) address 0))

abbrev pub first_word_in : Option Memory → List ℕ → ℕ → ℕ
first_word_in None given address = 0
first_word_in (Some memory) given address = first_word memory given address

abbrev pub first_memories : List Memory → List (List ℕ) → ℕ → ℕ → ℕ
first_memories memories arrays k address = first_word_in (slice_get memories k) (get_or arrays k []) address

-- ---- variables

abbrev pub with_kept : List Kept → (ℕ → ℕ) → ℕ → ℕ
with_kept [] f = f
with_kept (x ∷ xs) f = with_kept xs (with_word f x.variable.0 x.value)

abbrev pub with_arguments : List VarId → List ℕ → (ℕ → ℕ) → ℕ → ℕ
with_arguments (p ∷ ps) (x ∷ xs) f = with_arguments ps xs (with_word f p.0 x)
with_arguments _ _ f = f

-- The parameters have the arguments, the scalars that stay their first values. All else is 0.
abbrev pub first_variables : Frame → List ℕ → ℕ → ℕ
first_variables frame scalars = with_arguments frame.params.items scalars (with_kept frame.kept.items (λ i. 0))

abbrev pub first_words : Frame → Inputs → Words
first_words frame inputs = record { variables = first_variables frame inputs.scalars; memories = first_memories frame.memories.items inputs.arrays }
