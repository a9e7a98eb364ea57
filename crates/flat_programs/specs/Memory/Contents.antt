-- What memories hold.
use Rattle.std.specs.Prelude.{ℕ, List, [], map, slice_get, get_or, Option, Some, None}
use Rattle.hls_base.specs.ArrayAddress.{addresses}
use Rattle.hls_base.specs.declared.number.ArrayId.{ArrayId}
use Rattle.flat_programs.specs.declared.memory.bank.Bank.{Bank}
use Rattle.flat_programs.specs.declared.memory.memories.Memories.{Memories}

-- the lengths of each memory's dimensions
abbrev pub dims_in : Memories → List (List ℕ)
dims_in m = map (λ (b : Bank). b.lengths.items) m.banks.items

abbrev pub word_in : Option Bank → ℕ → ℕ
word_in None address = 0
word_in (Some b) address = get_or b.words.items address 0

-- the word of a memory at an address, 0 beyond them
abbrev pub words_in : Memories → ℕ → ℕ → ℕ
words_in m k address = word_in (slice_get m.banks.items k) address

abbrev pub dims_at : List (List ℕ) → ArrayId → List ℕ
dims_at dims array = get_or dims array.0 []

-- the element of this number, counted row by row
abbrev pub element_in : Memories → ArrayId → ℕ → ℕ
element_in m array index = words_in m array.0 (get_or (addresses (dims_at (dims_in m) array)) index 0)
