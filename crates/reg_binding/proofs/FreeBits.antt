-- Words that take more bits have fewer left.
use Rattle.std.proofs.Common.{◌≡◌, ℕ, zero, suc, ◌<◌, ◌^◌, Bool, true, false, List, [], ◌∷◌, length, get_or, set, refl, sym, ap, arith}
use Rattle.std.specs.Prelude.{slice_get, Some}
use Rattle.reg_binding.specs.declared.var_set.VarSet.{VarSet}
use Rattle.reg_binding.specs.Sets.{free_bits}
use Rattle.reg_binding.specs.Liveness.{free_in}

pub set_fewer : (words : List ℕ) (i word : ℕ) → i < length words → get_or words i 0 < word → word < 2 ^ 64 → free_bits (set words i word) < free_bits words
set_fewer [] i word l more small = absurd (omega arith)
set_fewer (w ∷ words) zero word l more small = omega arith
set_fewer (w ∷ words) (suc i) word l more small = let h = set_fewer words i word (omega arith) more small in omega arith

-- There were fewer before, or as many; now there are fewer still.
pub fewer_then : (more : Bool) (first before now : ℕ) → (more ≡ false → before ≡ first) → (more ≡ true → before < first) → now < before → now < first
fewer_then false first before now same fewer l = let e = same refl in omega arith
fewer_then true first before now same fewer l = let m = fewer refl in omega arith

-- ---- sets

pub set_same : {A : Type 0} (xs : List A) (i : ℕ) (x : A) → slice_get xs i ≡ Some x → set xs i x ≡ xs
set_same [] i x at = refl
set_same (y ∷ xs) zero x at = let same : y ≡ x = cc in ap (λ z. z ∷ xs) (sym same)
set_same (y ∷ xs) (suc i) x at = ap (λ ys. y ∷ ys) (set_same xs i x at)

pub sets_fewer : (sets : List VarSet) (i : ℕ) (old new : VarSet) → slice_get sets i ≡ Some old → free_bits new.words.items < free_bits old.words.items → free_in (set sets i new) < free_in sets
sets_fewer [] i old new at l = (cc)
sets_fewer (s ∷ sets) zero old new at l =
    let same : s ≡ old = cc in
    let bits = ap (λ (v : VarSet). free_bits v.words.items) same in
    omega (arith, bits, l)
sets_fewer (s ∷ sets) (suc i) old new at l = let h = sets_fewer sets i old new at l in omega (arith, h)
