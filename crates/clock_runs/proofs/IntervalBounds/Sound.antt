-- Bodies of sound loops go forward.
use Rattle.std.proofs.Common.{◌≡◌, ℕ, zero, suc, ◌≤◌, Bool, true, false, List, [], ◌∷◌, map, length, sym, ap, subst, arith}
use Rattle.std.specs.Prelude.{◌==◌, if◌then◌else◌, slice_get, Option, Some, None, option_to_list}
use Rattle.std.specs.List.{All}
use Rattle.std.proofs.lemmas.List.{length-map}
use Rattle.std.proofs.lemmas.List.Elements.{All-nil, All-cons}
use Rattle.hls_base.specs.declared.number.OpId.{OpId}
use Rattle.ir_core.specs.declared.body.Operand.{Operand}
use Rattle.ir_core.specs.declared.body.Out.{Out}
use Rattle.ir_core.specs.declared.body.Source.{Source}
use Rattle.ir_core.specs.declared.body.Source.TheVariants as s
use Rattle.ir_core.specs.declared.cfg.Loop.{Loop}
use Rattle.ir_core.specs.declared.stamp.Untimed.{Untimed}
use Rattle.ir_core.specs.Bodies.{Shapes, op_of}
use Rattle.ir_core.specs.FlatRuns.{body_of}
use Rattle.ir_core.specs.TreeRuns.{tested}
use Rattle.clock_runs.specs.Premises.{Each, IsOperandAs, IsOperand, IsOperandIf, NamesResult, IsSoundLoop}
use Rattle.modulo_loop.specs.Rules.{result_or, maker, known_first, known_source}
use Rattle.dep_graph.specs.Offsets.{result_of}
use Rattle.dep_graph.specs.Dependences.{test_maker}
use Rattle.clock_runs.proofs.IntervalBounds.Bodies.{IsEarlier, NamesEarlier, IsForwardBody}
use Rattle.clock_runs.proofs.IntervalBounds.Numbers.{some_same, no_some}

get_map : {A B : Type 0} (f : A → B) (xs : List A) (k : ℕ) (x : A) → slice_get xs k ≡ Some x → slice_get (map f xs) k ≡ Some (f x)
get_map f [] k x e = absurd (no_some e)
get_map f (y ∷ xs) zero x e = ap (λ z. Some (f z)) (some_same e)
get_map f (y ∷ xs) (suc k) x e = get_map f xs k x e

-- ---- operands

operand_earlier : (outs : List Out) (k : ℕ) (value : Source) (distance : ℕ) → IsOperandAs outs k value distance → IsEarlier k (result_of value)
operand_earlier outs k (s.Constant c) distance h = tt
operand_earlier outs k (s.Variable v) distance h = tt
operand_earlier outs k (s.Result j) distance h = h.1

all_earlier : (outs : List Out) (k : ℕ) (xs : List Operand) → Each (IsOperand outs k) xs → All (NamesEarlier k) xs
all_earlier outs k [] h = All-nil (NamesEarlier k)
all_earlier outs k (x ∷ xs) h = All-cons (NamesEarlier k) x xs (λ within. operand_earlier outs k x.value x.distance h.0) (all_earlier outs k xs h.1)

guard_earlier : (outs : List Out) (k : ℕ) (guard : Option Operand) → IsOperandIf outs k guard → All (NamesEarlier k) (option_to_list guard)
guard_earlier outs k None h = All-nil (NamesEarlier k)
guard_earlier outs k (Some x) h = All-cons (NamesEarlier k) x [] (λ within. operand_earlier outs k x.value x.distance h) (All-nil (NamesEarlier k))

-- ---- the test

made_earlier : (k : ℕ) (value : Source) → tested (Some (record { value = value; distance = 0 })) ≤ k → IsEarlier k (result_of value)
made_earlier k (s.Constant c) h = tt
made_earlier k (s.Variable v) h = tt
made_earlier k (s.Result j) h = omega arith

test_earlier : (k : ℕ) (test : Option Operand) → tested test ≤ k → IsEarlier k (test_maker test)
test_earlier k None h = tt
test_earlier k (Some x) h = made_earlier k x.value h

either_earlier : (k : ℕ) (p q : Option OpId) → IsEarlier k p → IsEarlier k q → IsEarlier k (result_or p q)
either_earlier k None q h g = g
either_earlier k (Some op) q h g = h

maker_earlier : (k variable : ℕ) (outs : List Out) → Each (NamesResult k) outs → IsEarlier k (maker variable outs)
maker_earlier k variable [] h = tt
maker_earlier k variable (x ∷ outs) h =
    let here = h.0 in
    let own : IsEarlier k (result_of x.value.value) = subst (λ v. IsEarlier k (result_of v)) (sym here.1.0) here.1.2 in
    chosen (x.variable.0 == variable) own (maker_earlier k variable outs h.1)
  where
    chosen : (b : Bool) → IsEarlier k (result_of x.value.value) → IsEarlier k (maker variable outs) → IsEarlier k (if b then result_or (result_of x.value.value) (maker variable outs) else maker variable outs)
    chosen true own rest = either_earlier k (result_of x.value.value) (maker variable outs) own rest
    chosen false own rest = rest

source_earlier : (k : ℕ) (outs : List Out) (value : Source) (distance : ℕ) → Each (NamesResult k) outs → IsOperandAs outs k value distance → IsEarlier k (known_source outs value)
source_earlier k outs (s.Constant c) distance named h = tt
source_earlier k outs (s.Variable v) distance named h = maker_earlier k v.0 outs named
source_earlier k outs (s.Result j) distance named h = h.1

known_earlier : (k : ℕ) (outs : List Out) (test : Option Operand) → Each (NamesResult k) outs → IsOperandIf outs k test → IsEarlier k (known_first outs test)
known_earlier k outs None named h = tt
known_earlier k outs (Some x) named h = source_earlier k outs x.value x.distance named h

-- ---- bodies

pub sound_forward : (shapes : Shapes) (region : Loop Untimed) → IsSoundLoop shapes region → IsForwardBody region.body
sound_forward shapes region sound =
    let outs = region.body.outs.items in
    let same = length-map region.body.ops.items op_of in
    record {
      args = λ k op e. all_earlier outs k op.args.items (sound.ops k (op_of op) (get_map op_of region.body.ops.items k op e)).args;
      guards = λ k op e. guard_earlier outs k op.guard (sound.ops k (op_of op) (get_map op_of region.body.ops.items k op e)).guard;
      stores = λ k op e store. test_earlier k region.body.test (sound.stores k (op_of op) (get_map op_of region.body.ops.items k op e) store);
      known = subst (λ n. IsEarlier n (known_first outs region.body.test)) same (known_earlier (length (body_of region.body).ops) outs region.body.test sound.outs sound.test);
    }
