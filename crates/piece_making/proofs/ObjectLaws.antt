-- Objects and what stands for them.
use Rattle.std.proofs.Common.{◌≡◌, ℕ, ◌<◌, List, [], ◌∷◌, length, subst, arith, None, false}
use Rattle.hls_base.specs.declared.number.VarId.{VarId}
use Rattle.hls_base.specs.declared.number.ArrayId.{ArrayId}
use Rattle.hls_base.specs.declared.refusal.Refusal.{Refusal}
use Rattle.c_token.specs.declared.ctype.CType.{CType}
use Rattle.pieces.specs.Resolved.Core.{CoreObjectTree, FileObjectTree}
use Rattle.pieces.specs.Program.{ArrayTree}
use Rattle.piece_making.specs.declared.frame.Home.TheVariants as home
use Rattle.piece_making.specs.declared.work.Slot.{Slot}
use Rattle.piece_making.specs.Making.{fresh, new_slot, add_array, declared}
use Rattle.piece_making.specs.Objects.{local_of, local_array, file_array, file_info, array_weight, array_like}
use Rattle.piece_making.specs.Stocks.{Stock, state_of, IsMade, IsTooHeavy}
use Rattle.piece_making.proofs.Parts.{nothing_made, made_behind, heavy_at_once}

pub local_scalar : (lengths : List ℕ) (kind : CType) (old new : Stock) (own : VarId) → length lengths ≡ 0
    → IsMade old new own (fresh kind (state_of old)) → IsMade old new (home.Variable own) (local_of lengths kind (state_of old))
local_scalar [] kind old new own e h = made_behind _ _ _ _ _ _ _ h (nothing_made _ _)
local_scalar (n ∷ ns) kind old new own e h = absurd (omega arith)

pub local_slot : (lengths : List ℕ) (kind : CType) (old new : Stock) (slot : Slot) → 0 < length lengths
    → IsMade old new slot (new_slot (state_of old)) → IsMade old new (home.Local slot) (local_of lengths kind (state_of old))
local_slot [] kind old new slot e h = absurd (omega arith)
local_slot (n ∷ ns) kind old new slot e h = made_behind _ _ _ _ _ _ _ h (nothing_made _ _)

pub local_made : (o : CoreObjectTree) (n : ℕ) (a : ArrayTree) (old mid new : Stock) (v : ArrayId) (u : Unit {0})
    → n ≡ array_weight o.lengths → a ≡ array_like o None None false
    → IsMade old mid u (declared n (state_of old)) → IsMade mid new v (add_array a (state_of mid)) → IsMade old new v (local_array o (state_of old))
local_made o n a old mid new v u e f h k =
    let h1 : IsMade old mid u (declared (array_weight o.lengths) (state_of old)) = subst (λ (x : ℕ). IsMade old mid u (declared x (state_of old))) e h in
    let k1 : IsMade mid new v (add_array (array_like o None None false) (state_of mid)) = subst (λ (x : ArrayTree). IsMade mid new v (add_array x (state_of mid))) f k in
    made_behind _ _ _ _ _ _ _ h1 k1

pub local_heavy : (o : CoreObjectTree) (n : ℕ) (old : Stock) (r : Refusal) → n ≡ array_weight o.lengths
    → IsTooHeavy old r (declared n (state_of old)) → IsTooHeavy old r (local_array o (state_of old))
local_heavy o n old r e h = heavy_at_once _ _ _ _ (subst (λ (x : ℕ). IsTooHeavy old r (declared x (state_of old))) e h)

pub file_made : (o : FileObjectTree) (n : ℕ) (a : ArrayTree) (old mid new : Stock) (v : ArrayId) (u : Unit {0})
    → n ≡ array_weight o.object.lengths → a ≡ file_info o
    → IsMade old mid u (declared n (state_of old)) → IsMade mid new v (add_array a (state_of mid)) → IsMade old new (home.Array v) (file_array o (state_of old))
file_made o n a old mid new v u e f h k =
    let h1 : IsMade old mid u (declared (array_weight o.object.lengths) (state_of old)) = subst (λ (x : ℕ). IsMade old mid u (declared x (state_of old))) e h in
    let k1 : IsMade mid new v (add_array (file_info o) (state_of mid)) = subst (λ (x : ArrayTree). IsMade mid new v (add_array x (state_of mid))) f k in
    made_behind _ _ _ _ _ _ _ h1 (made_behind _ _ _ _ _ _ _ k1 (nothing_made _ _))

pub file_heavy : (o : FileObjectTree) (n : ℕ) (old : Stock) (r : Refusal) → n ≡ array_weight o.object.lengths
    → IsTooHeavy old r (declared n (state_of old)) → IsTooHeavy old r (file_array o (state_of old))
file_heavy o n old r e h = heavy_at_once _ _ _ _ (subst (λ (x : ℕ). IsTooHeavy old r (declared x (state_of old))) e h)
