-- What is read for an operation, one argument after another.
use Rattle.std.proofs.Common.{◌≡◌, ℕ, zero, suc, ◌+◌, ◌<◌, List, [], ◌∷◌, ◌++◌, length, get_or, set, map, take, sym, ap, ◌∙◌, arith}
use Rattle.std.proofs.lemmas.List.{take_more_set, map_more}
use Rattle.clock_machine.specs.declared.lines.program.Line.{Line}
use Rattle.clock_machine.specs.declared.lines.program.Read.{Read}
use Rattle.clock_machine.specs.declared.lines.registers.Registers.{Registers}
use Rattle.clock_machine.specs.Lines.Registers.{ReadIsWithin}
use Rattle.clock_machine.specs.Acts.{ReadsAreWithin}

pub read_more : {X : Type 0} (f : X → ℕ) (xs : List X) (into : List ℕ) (i w : ℕ) (d : X) → i < length xs → i < length into → w ≡ f (get_or xs i d) → take i into ≡ map f (take i xs) → take (i + 1) (set into i w) ≡ map f (take (i + 1) xs)
read_more f xs into i w d h k is so_far =
    take_more_set into i w k ∙ ap (λ l. l ++ w ∷ []) so_far ∙ ap (λ x. map f (take i xs) ++ x ∷ []) is ∙ map_back f xs i d h
  where
    map_back : {X : Type 0} (f : X → ℕ) (xs : List X) (i : ℕ) (d : X) → i < length xs → map f (take i xs) ++ f (get_or xs i d) ∷ [] ≡ map f (take (i + 1) xs)
    map_back f xs i d h = sym (map_more f xs i d h)

pub reads_at : (r : Registers) (lines : List Line) (reads : List Read) (i : ℕ) (d : Read) → ReadsAreWithin r lines reads → i < length reads → ReadIsWithin r lines (get_or reads i d)
reads_at r lines [] i d h lt = absurd (omega arith)
reads_at r lines (x ∷ xs) zero d h lt = h.0
reads_at r lines (x ∷ xs) (suc i) d h lt = reads_at r lines xs i d h.1 (omega arith)
