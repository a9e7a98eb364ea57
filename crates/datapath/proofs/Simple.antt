-- What simple operations give, in the circuit and in the clocked run.
use Rattle.std.proofs.Common.{◌≡◌, ℕ, Bool, List, refl}
use Rattle.ir_core.specs.declared.body.OpKind.{OpKind}
use Rattle.ir_core.specs.declared.body.OpKind.TheVariants as o
use Rattle.ir_core.specs.Timing as timing
use Rattle.ir_core.specs.Value as v
use Rattle.ir_core.specs.Bodies.{OpTree, Shapes, Words, effect}
use Rattle.datapath.specs.Plans.{Plan, Placed}
use Rattle.datapath.specs.Cycles.{Cycle}
use Rattle.datapath.specs.Values.{arriving_as, computed}
use Rattle.datapath.specs.Blocks.{IsSimple}

pub one_cycle : (kind : OpKind) (bits : ℕ) → IsSimple kind → timing.latency kind bits ≡ 1
one_cycle o.Add bits h = refl
one_cycle o.Sub bits h = refl
one_cycle o.Mul bits h = absurd h
one_cycle o.Div bits h = absurd h
one_cycle o.Rem bits h = absurd h
one_cycle o.And bits h = refl
one_cycle o.Or bits h = refl
one_cycle o.Xor bits h = refl
one_cycle o.Shl bits h = refl
one_cycle o.Shr bits h = refl
one_cycle o.Eq bits h = refl
one_cycle o.Ne bits h = refl
one_cycle o.Lt bits h = refl
one_cycle o.Le bits h = refl
one_cycle o.Not bits h = refl
one_cycle o.Neg bits h = refl
one_cycle o.Select bits h = refl
one_cycle o.Widen bits h = refl
one_cycle o.Narrow bits h = refl
one_cycle o.Truth bits h = refl
one_cycle o.Copy bits h = refl
one_cycle o.Load bits h = absurd h
one_cycle o.Store bits h = absurd h
one_cycle (o.Fused pairing) bits h = refl

pub arrives : (kind : OpKind) (p : Plan) (c : Cycle) (x : Placed) → IsSimple kind → arriving_as kind p c x ≡ computed p c x
arrives o.Add p c x h = refl
arrives o.Sub p c x h = refl
arrives o.Mul p c x h = absurd h
arrives o.Div p c x h = absurd h
arrives o.Rem p c x h = absurd h
arrives o.And p c x h = refl
arrives o.Or p c x h = refl
arrives o.Xor p c x h = refl
arrives o.Shl p c x h = refl
arrives o.Shr p c x h = refl
arrives o.Eq p c x h = refl
arrives o.Ne p c x h = refl
arrives o.Lt p c x h = refl
arrives o.Le p c x h = refl
arrives o.Not p c x h = refl
arrives o.Neg p c x h = refl
arrives o.Select p c x h = refl
arrives o.Widen p c x h = refl
arrives o.Narrow p c x h = refl
arrives o.Truth p c x h = refl
arrives o.Copy p c x h = refl
arrives o.Load p c x h = absurd h
arrives o.Store p c x h = absurd h
arrives (o.Fused pairing) p c x h = refl

pub performs : (kind : OpKind) (shapes : Shapes) (op : OpTree) (allowed : Bool) (from : ℕ) (args : List ℕ) (t : Words) → IsSimple kind
    → (effect shapes op kind allowed from args t).result ≡ v.value kind op.signed op.bits from args
performs o.Add shapes op allowed from args t h = refl
performs o.Sub shapes op allowed from args t h = refl
performs o.Mul shapes op allowed from args t h = absurd h
performs o.Div shapes op allowed from args t h = absurd h
performs o.Rem shapes op allowed from args t h = absurd h
performs o.And shapes op allowed from args t h = refl
performs o.Or shapes op allowed from args t h = refl
performs o.Xor shapes op allowed from args t h = refl
performs o.Shl shapes op allowed from args t h = refl
performs o.Shr shapes op allowed from args t h = refl
performs o.Eq shapes op allowed from args t h = refl
performs o.Ne shapes op allowed from args t h = refl
performs o.Lt shapes op allowed from args t h = refl
performs o.Le shapes op allowed from args t h = refl
performs o.Not shapes op allowed from args t h = refl
performs o.Neg shapes op allowed from args t h = refl
performs o.Select shapes op allowed from args t h = refl
performs o.Widen shapes op allowed from args t h = refl
performs o.Narrow shapes op allowed from args t h = refl
performs o.Truth shapes op allowed from args t h = refl
performs o.Copy shapes op allowed from args t h = refl
performs o.Load shapes op allowed from args t h = absurd h
performs o.Store shapes op allowed from args t h = absurd h
performs (o.Fused pairing) shapes op allowed from args t h = refl
