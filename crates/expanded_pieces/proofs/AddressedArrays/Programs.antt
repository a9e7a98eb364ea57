-- Arrays of expanded programs have addresses of fewer than 32 bits.
use Rattle.std.proofs.Common.{◌≡◌, ◌≤◌, ◌<◌, ◌^◌, ℕ, List, [], ◌∷◌, nat_lt, Bool, true, false, refl, ltb-true, ltb-false, arith}
use Rattle.std.specs.Prelude.{slice_index_or}
use Rattle.std.specs.List.{All}
use Rattle.std.proofs.lemmas.List.Elements.{All-nil, All-cons}
use Rattle.std.proofs.Math.Nat.{pow-le-pow_right}
use Rattle.hls_base.specs.ArrayAddress.{address_bits}
use Rattle.pieces.specs.Program.{ArrayTree}
use Rattle.c_elaborate.specs.Programs.{program_elaborated}
use Rattle.c_expand.specs.Expansion.{expansion}
use Rattle.expanded_pieces.proofs.Parts.{EachArray}
use Rattle.expanded_pieces.proofs.Calls.{expanded_each}
use Rattle.expanded_pieces.proofs.Elaborated.{elaborated_jumps}
use Rattle.expanded_pieces.proofs.Grammar.{grammar_begins}
use Rattle.expanded_pieces.specs.AddressedArrays.{ProductFits, CheckedProductsFit, CheckedArraysAreAddressed}
use Rattle.expanded_pieces.proofs.AddressedArrays.Declarations.{elaborated_fit}

few_bits : (n : ℕ) → 2 ^ n ≤ 65536 → n < 32
few_bits n h = either (nat_lt n 32) refl where
  either : (b : Bool) → nat_lt n 32 ≡ b → n < 32
  either true e = ltb-true n 32 e
  either false e =
      let more : 2 ^ 32 ≤ 2 ^ n = pow-le-pow_right (omega arith) (ltb-false n 32 e) in
      absurd (omega (arith, h, more))

abbrev HasLowProduct : ArrayTree → Type 0
HasLowProduct a = ProductFits a.lengths

all_fit : (arrays : List ArrayTree) → EachArray ProductFits arrays → All HasLowProduct arrays
all_fit [] h = All-nil HasLowProduct
all_fit (a ∷ arrays) h = All-cons HasLowProduct a arrays h.0 (all_fit arrays h.1)

pub products_fit : CheckedProductsFit
products_fit tokens end p top name derives none =
    let core = program_elaborated p top in
    let limits = elaborated_fit p top name none in
    all_fit (expansion core).arrays (expanded_each ProductFits core (elaborated_jumps p top name none (grammar_begins tokens end p derives)) limits.0 limits.1)

pub checked_addressed : CheckedArraysAreAddressed
checked_addressed tokens end p top name derives none = λ k d below. few_bits (address_bits (slice_index_or (expansion (program_elaborated p top)).arrays k d).lengths) (products_fit tokens end p top name derives none k d below)
