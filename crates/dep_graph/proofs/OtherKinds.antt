-- Kinds other than stores.
use Rattle.std.proofs.Common.{◌≡◌, false, refl}
use Rattle.ir_core.specs.declared.body.OpKind.{OpKind}
use Rattle.ir_core.specs.declared.body.OpKind.TheVariants as o
use Rattle.dep_graph.specs.Meetings.{is_store}

pub other_is_no_store : (kind : OpKind) → (kind ≡ o.Store → ⊥) → false ≡ is_store kind
other_is_no_store o.Store h = absurd (h refl)
other_is_no_store o.Add h = refl
other_is_no_store o.Sub h = refl
other_is_no_store o.Mul h = refl
other_is_no_store o.Div h = refl
other_is_no_store o.Rem h = refl
other_is_no_store o.And h = refl
other_is_no_store o.Or h = refl
other_is_no_store o.Xor h = refl
other_is_no_store o.Shl h = refl
other_is_no_store o.Shr h = refl
other_is_no_store o.Eq h = refl
other_is_no_store o.Ne h = refl
other_is_no_store o.Lt h = refl
other_is_no_store o.Le h = refl
other_is_no_store o.Not h = refl
other_is_no_store o.Neg h = refl
other_is_no_store o.Select h = refl
other_is_no_store o.Widen h = refl
other_is_no_store o.Narrow h = refl
other_is_no_store o.Truth h = refl
other_is_no_store o.Copy h = refl
other_is_no_store o.Load h = refl
other_is_no_store (o.Fused pairing) h = refl
