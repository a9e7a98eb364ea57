-- Addresses of the arrays of programs without faults.
use Rattle.std.specs.Prelude.{◌≡◌, ℕ, ◌<◌, ◌≤◌, ◌^◌, List, []}
use Rattle.std.specs.List.{All}
use Rattle.hls_base.specs.declared.place.Place.{Place}
use Rattle.hls_base.specs.ArrayAddress.{address_bits}
use Rattle.c_tree.specs.Tree.{ProgramTree}
use Rattle.c_tree.specs.Terminals.{Terminal}
use Rattle.c_tree.specs.Grammar.{DerivesProgram}
use Rattle.c_meaning.specs.Checks.Programs.{program_faults}
use Rattle.c_elaborate.specs.Programs.{program_elaborated}
use Rattle.pieces.specs.Resolved.Core.{CoreProgramTree}
use Rattle.pieces.specs.Program.{ArrayTree}
use Rattle.c_expand.specs.Expansion.{expansion}
use Rattle.expanded_pieces.specs.Lengths.{EachFileObject, EachFunction}

-- The product of the lengths, each rounded up to a power of two, is at most 65,536.
abbrev pub ProductFits : List ℕ → Type 0
ProductFits lengths = 2 ^ address_bits lengths ≤ 65536

-- So it is for all objects of a program.
abbrev pub ProgramProductsFit : CoreProgramTree → Type 0
ProgramProductsFit p = EachFileObject ProductFits p.file × EachFunction ProductFits p.functions

-- each address has fewer than 32 bits
abbrev pub ArraysAreAddressed : List ArrayTree → Type 0
ArraysAreAddressed arrays = All (λ a. address_bits a.lengths < 32) arrays

-- The objects of the core program of a program without faults have memories of at most 65,536 words.
abbrev pub ElaboratedProductsFit : Type 0
ElaboratedProductsFit = (p : ProgramTree) (top : ℕ) (name : List ℕ) → program_faults p name ≡ [] → ProgramProductsFit (program_elaborated p top)

-- The arrays that such a program is expanded to have memories of at most 65,536 words.
abbrev pub CheckedProductsFit : Type 0
CheckedProductsFit = (tokens : List Terminal) (end : Place) (p : ProgramTree) (top : ℕ) (name : List ℕ) → DerivesProgram tokens end p → program_faults p name ≡ []
    → All (λ (a : ArrayTree). ProductFits a.lengths) (expansion (program_elaborated p top)).arrays

-- So their addresses have fewer than 32 bits.
abbrev pub CheckedArraysAreAddressed : Type 0
CheckedArraysAreAddressed = (tokens : List Terminal) (end : Place) (p : ProgramTree) (top : ℕ) (name : List ℕ) → DerivesProgram tokens end p → program_faults p name ≡ []
    → ArraysAreAddressed (expansion (program_elaborated p top)).arrays
