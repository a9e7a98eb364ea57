-- The next value of one register.
use Rattle.std.proofs.Common.{◌≡◌, ◌<◌, ◌≤◌, ℕ, zero, suc, List, [], ◌∷◌, length, refl, ap, arith}
use Rattle.std.specs.Prelude.{slice_index_or, slice_set}
use Rattle.rtl_core.specs.declared.design.Atom.{Atom}
use Rattle.rtl_core.specs.declared.design.Reg.{Reg}
use Rattle.rtl_logic.specs.Making.{next_set, with_next_at}

pub set_at : (regs : List Reg) (k : ℕ) (enable next : Atom) (other : Reg) → k < length regs → slice_set regs k (next_set enable next (slice_index_or regs k other)) ≡ with_next_at k enable next regs
set_at [] k enable next other h = absurd (omega (arith, h))
set_at (r ∷ rs) zero enable next other h = refl
set_at (r ∷ rs) (suc k) enable next other h = ap (λ l. r ∷ l) (set_at rs k enable next other (omega (arith, h)))

pub none_set : (regs : List Reg) (k : ℕ) (enable next : Atom) → length regs ≤ k → regs ≡ with_next_at k enable next regs
none_set [] k enable next h = refl
none_set (r ∷ rs) zero enable next h = absurd (omega (arith, h))
none_set (r ∷ rs) (suc k) enable next h = ap (λ l. r ∷ l) (none_set rs k enable next (omega (arith, h)))
