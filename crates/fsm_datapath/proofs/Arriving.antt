-- What results are, by the kinds of their operations.
use Rattle.std.proofs.Common.{◌≡◌, ◌≢◌, ◌<◌, ◌≤◌, ℕ, ◌-◌, true, false, [], get_or, slice_get, Some, refl, sym, ap, ◌∙◌}
use Rattle.std.specs.Prelude.{if◌then◌else◌}
use Rattle.std.proofs.lemmas.Bool.{lt-ltb, le-ltb}
use Rattle.hls_base.specs.declared.number.ArrayId.{ArrayId}
use Rattle.hls_base.specs.declared.number.OpId.{OpId}
use Rattle.ir_core.specs.declared.body.Op.{Op}
use Rattle.ir_core.specs.declared.body.OpKind.{OpKind}
use Rattle.ir_core.specs.declared.body.OpKind.TheVariants as o
use Rattle.ir_core.specs.declared.body.Operand.{Operand}
use Rattle.ir_core.specs.declared.body.Source.{Source}
use Rattle.ir_core.specs.declared.body.Source.TheVariants as source
use Rattle.ir_core.specs.declared.timed.Timed.{Timed}
use Rattle.clock_ir.specs.Flows.{TimedOp, timed_op, ready}
use Rattle.datapath.specs.Plans.{Plan, Placed, body_at, span}
use Rattle.datapath.specs.Cycles.{Word, Cycle}
use Rattle.datapath.specs.Reading.{operand}
use Rattle.datapath.specs.Units.{product, quotient, remainder}
use Rattle.datapath.specs.Ports.{port_of}
use Rattle.datapath.specs.Values.{word_read, arriving, arriving_as, arriving_of, last_value}
use Rattle.circuit_context.specs.declared.wanted.role.UnitKind.TheVariants as kind
use Rattle.circuit_context.specs.declared.wanted.role.SharedUnit.{SharedUnit}
use Rattle.circuit_units.specs.Units.{answer_of}

abbrev placed : ℕ → ℕ → TimedOp → Placed
placed i k it = record { node = i; number = k; op = it }

pub load_arrives : (p : Plan) (i k : ℕ) (it : TimedOp) (array : ArrayId) (port : ℕ) → slice_get (body_at p i).ops k ≡ Some it → it.op.kind ≡ o.Load → it.op.array ≡ Some array
    → port ≡ port_of p array.0 (placed i k it) → (x : Cycle) → x.regs (Word array.0 port) ≡ arriving p x i k
load_arrives p i k it array port at load named is x =
    ap (λ n. x.regs (Word array.0 n)) is
    ∙ sym (ap (arriving_of p x i k) at ∙ (ap (λ (kind_ : OpKind). arriving_as kind_ p x (placed i k it)) load ∙ ap (word_read p x (placed i k it)) named))

pub product_arrives : (p : Plan) (i k : ℕ) (op : Op Timed) (unit : SharedUnit) → unit ≡ record { kind = kind.Multiplier; bits = op.bits; number = op.stamp.bound }
    → slice_get (body_at p i).ops k ≡ Some (timed_op op) → op.kind ≡ o.Mul → get_or (get_or p.units i []) k 0 ≡ op.stamp.bound → (x : Cycle) → answer_of p unit false x ≡ arriving p x i k
product_arrives p i k op unit is at mul bound x =
    ap (λ (u : SharedUnit). answer_of p u false x) is ∙ (ap (product x op.bits) (sym bound)
    ∙ sym (ap (arriving_of p x i k) at ∙ ap (λ (kind_ : OpKind). arriving_as kind_ p x (placed i k (timed_op op))) mul))

pub quotient_arrives : (p : Plan) (i k : ℕ) (op : Op Timed) (unit : SharedUnit) → unit ≡ record { kind = kind.Divider; bits = op.bits; number = op.stamp.bound }
    → slice_get (body_at p i).ops k ≡ Some (timed_op op) → op.kind ≡ o.Div → get_or (get_or p.units i []) k 0 ≡ op.stamp.bound → (x : Cycle) → answer_of p unit false x ≡ arriving p x i k
quotient_arrives p i k op unit is at div bound x =
    ap (λ (u : SharedUnit). answer_of p u false x) is ∙ (ap (quotient p x op.bits) (sym bound)
    ∙ sym (ap (arriving_of p x i k) at ∙ ap (λ (kind_ : OpKind). arriving_as kind_ p x (placed i k (timed_op op))) div))

pub remainder_arrives : (p : Plan) (i k : ℕ) (op : Op Timed) (unit : SharedUnit) → unit ≡ record { kind = kind.Divider; bits = op.bits; number = op.stamp.bound }
    → slice_get (body_at p i).ops k ≡ Some (timed_op op) → op.kind ≡ o.Rem → get_or (get_or p.units i []) k 0 ≡ op.stamp.bound → (x : Cycle) → answer_of p unit true x ≡ arriving p x i k
remainder_arrives p i k op unit is at rem bound x =
    ap (λ (u : SharedUnit). answer_of p u true x) is ∙ (ap (remainder p x op.bits) (sym bound)
    ∙ sym (ap (arriving_of p x i k) at ∙ ap (λ (kind_ : OpKind). arriving_as kind_ p x (placed i k (timed_op op))) rem))

-- ---- results that are only just there

pub just_there : (p : Plan) (i : ℕ) (v : Operand) (value : Source) (op : OpId) → value ≡ source.Result op → span p i - 1 < ready (body_at p i) op → (x : Cycle) → arriving p x i op.0 ≡ last_value p x i v value
just_there p i v value op is late x =
    sym (ap (last_value p x i v) is ∙ ap (λ b. if b then arriving p x i op.0 else operand p x i (span p i - 1) v) (lt-ltb (span p i - 1) (ready (body_at p i) op) late))

pub there_before : (p : Plan) (i : ℕ) (v : Operand) (value : Source) (op : OpId) → value ≡ source.Result op → ready (body_at p i) op ≤ span p i - 1 → (x : Cycle)
    → operand p x i (span p i - 1) v ≡ last_value p x i v value
there_before p i v value op is early x =
    sym (ap (last_value p x i v) is ∙ ap (λ b. if b then arriving p x i op.0 else operand p x i (span p i - 1) v) (le-ltb (span p i - 1) (ready (body_at p i) op) early))

pub no_result : (p : Plan) (i : ℕ) (v : Operand) (value : Source) → ((op : OpId) → value ≢ source.Result op) → (x : Cycle) → operand p x i (span p i - 1) v ≡ last_value p x i v value
no_result p i v (source.Constant word) other x = refl
no_result p i v (source.Variable variable) other x = refl
no_result p i v (source.Result op) other x = absurd (other op refl)
