use Rattle.std.proofs.Common.{◌≡◌, ℕ, [], get_or, map, take}
use Rattle.std.specs.Prelude.{slice_get}
use Rattle.ir_core.specs.declared.cfg.Memory.{Memory}
use Rattle.ir_core.specs.FirstContents.{first_word_in}
use Rattle.flat_programs.specs.declared.memory.bank.Bank.{Bank}
use Rattle.flat_programs.specs.Memory.Contents.{word_in}
use Rattle.flat_programs.proofs.memory.memories.Memories.new.Given as goal

abbrev pub invariant-loop-number : goal.invariant-loop-number
invariant-loop-number l =
    (map (λ (b : Bank). b.lengths.items) l.banks.items ≡ map (λ (m : Memory). m.dims.items) (take l.number l.memories))
    × ((k a : ℕ) → word_in (slice_get l.banks.items k) a ≡ first_word_in (slice_get (take l.number l.memories) k) (get_or l.arrays k []) a)
