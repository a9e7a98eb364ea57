-- Registers at an edge, by their numbers.
use Rattle.std.proofs.Common.{◌≡◌, ℕ, zero, suc, List, [], ◌∷◌, length, Some, slice_index, refl, ap, arith}
use Rattle.std.specs.Prelude.{◌==◌, if◌then◌else◌, slice_get}
use Rattle.rtl_core.specs.declared.design.Atom.{Atom}
use Rattle.rtl_core.specs.declared.design.Reg.{Reg}
use Rattle.rtl_core.specs.ClockStep.{clocked_registers}

pub length-clocked_registers : (value : Atom → ℕ) (rs : List Reg) (xs : List ℕ) → length xs ≡ length rs → length (clocked_registers value rs xs) ≡ length rs
length-clocked_registers value [] xs e = refl
length-clocked_registers value (r ∷ rs) [] e = absurd (omega arith)
length-clocked_registers value (r ∷ rs) (x ∷ xs) e = ap suc (length-clocked_registers value rs xs (omega arith))

-- register k takes its next value where its enable is 1, and else it stays
pub register_after : (value : Atom → ℕ) (rs : List Reg) (xs : List ℕ) (k : ℕ) (r : Reg) → length xs ≡ length rs → slice_get rs k ≡ Some r
    → slice_index (clocked_registers value rs xs) k ≡ (if value r.enable == 1 then value r.next else slice_index xs k)
register_after value [] xs k r e at = absurd (cc)
register_after value (q ∷ rs) [] k r e at = absurd (omega arith)
register_after value (q ∷ rs) (x ∷ xs) zero r e at = let same : q ≡ r = cc in ap (λ (t : Reg). if value t.enable == 1 then value t.next else x) same
register_after value (q ∷ rs) (x ∷ xs) (suc k) r e at = register_after value rs xs k r (omega arith) at
