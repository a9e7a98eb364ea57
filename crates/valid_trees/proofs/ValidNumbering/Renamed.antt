-- An operation on what stands for its operands is valid.
use Rattle.std.specs.Option.{option_map}
use Rattle.std.proofs.Common.{◌≡◌, ◌≤◌, ℕ, suc, true, refl, ap, arith, List, [], ◌∷◌, map, length, Option, Some, None}
use Rattle.hls_base.specs.declared.number.ArrayId.{ArrayId}
use Rattle.ir_core.specs.declared.body.OpKind.{OpKind}
use Rattle.ir_core.specs.declared.body.OpKind.TheVariants as o
use Rattle.ir_core.specs.declared.body.Operand.{Operand}
use Rattle.ir_core.specs.declared.body.Out.{Out}
use Rattle.ir_core.specs.declared.body.Source.{Source}
use Rattle.ir_core.specs.declared.body.Source.TheVariants as source
use Rattle.ir_core.specs.Bodies.{OpTree}
use Rattle.passes.specs.Conversion.Joining.{is_conversion, first_word}
use Rattle.program_validity.specs.Widths.{is_width}
use Rattle.valid_trees.specs.Shapes.{FrameShape}
use Rattle.valid_trees.specs.Operands.{IsOperand, IsOperandIf, AreOperands, AllAreOperands, IsSubscriptAs, IsSubscript, AreSubscripts, AreStored}
use Rattle.valid_trees.specs.Operations.{argument_bits, AreConverted, Accesses, Acts, OpIsValid}

module _ (frame : FrameShape) (carried : List Out) (ops : List OpTree) where
  -- an operand of some width is a subscript
  pub subscript_of : (x : Operand) (n : ℕ) → is_width n ≡ true → IsOperand frame carried ops n x → IsSubscript frame carried ops x
  subscript_of x n w h = by x.value where
    by : (s : Source) → IsSubscriptAs frame carried ops x s
    by (source.Constant c) = tt
    by (source.Variable v) = (n, w, h)
    by (source.Result i) = (n, w, h)

  pub constant_subscript : (x : Operand) (w : ℕ) → x.value ≡ source.Constant w → IsSubscript frame carried ops x
  constant_subscript x w e = by x.value e where
    by : (s : Source) → s ≡ source.Constant w → IsSubscriptAs frame carried ops x s
    by (source.Constant c) q = tt
    by (source.Variable v) q = absurd cc
    by (source.Result i) q = absurd cc

-- operands that stand for those of one list of operations, behind another list
module _ (frame : FrameShape) (carried others : List Out) (done ops : List OpTree) (f : Operand → Operand)
    (has : (x : Operand) (n : ℕ) → IsOperand frame carried done n x → IsOperand frame others ops n (f x)) (fixed : (x : Operand) (w : ℕ) → x.value ≡ source.Constant w → (f x).value ≡ source.Constant w) where
  pub subscript_renamed : (x : Operand) → IsSubscript frame carried done x → IsSubscript frame others ops (f x)
  subscript_renamed x h = by x.value refl h where
    by : (s : Source) → x.value ≡ s → IsSubscriptAs frame carried done x s → IsSubscript frame others ops (f x)
    by (source.Constant c) e k = constant_subscript frame others ops (f x) c (fixed x c e)
    by (source.Variable v) e k = subscript_of frame others ops (f x) k.0 k.1 (has x k.0 k.2)
    by (source.Result i) e k = subscript_of frame others ops (f x) k.0 k.1 (has x k.0 k.2)

  operands_renamed : (ns : List ℕ) (xs : List Operand) → AreOperands frame carried done ns xs → AreOperands frame others ops ns (map f xs)
  operands_renamed [] [] h = tt
  operands_renamed [] (x ∷ xs) h = absurd h
  operands_renamed (n ∷ ns) [] h = absurd h
  operands_renamed (n ∷ ns) (x ∷ xs) h = (has x n h.0, operands_renamed ns xs h.1)

  pub all_renamed : (n : ℕ) (xs : List Operand) → AllAreOperands frame carried done n xs → AllAreOperands frame others ops n (map f xs)
  all_renamed n [] h = tt
  all_renamed n (x ∷ xs) h = (has x n h.0, all_renamed n xs h.1)

  pub guard_renamed : (n : ℕ) (x : Option Operand) → IsOperandIf frame carried done n x → IsOperandIf frame others ops n (option_map f x)
  guard_renamed n None h = tt
  guard_renamed n (Some x) h = has x n h

  subscripts_renamed : (dims : List ℕ) (xs : List Operand) → AreSubscripts frame carried done dims xs → AreSubscripts frame others ops dims (map f xs)
  subscripts_renamed [] [] h = tt
  subscripts_renamed [] (x ∷ xs) h = absurd h
  subscripts_renamed (d ∷ ds) [] h = absurd h
  subscripts_renamed (d ∷ ds) (x ∷ xs) h = (subscript_renamed x h.0, subscripts_renamed ds xs h.1)

  stored_renamed : (bits : ℕ) (dims : List ℕ) (xs : List Operand) → AreStored frame carried done bits dims xs → AreStored frame others ops bits dims (map f xs)
  stored_renamed bits [] [] h = absurd h
  stored_renamed bits [] (x ∷ []) h = has x bits h
  stored_renamed bits [] (x ∷ y ∷ xs) h = absurd h
  stored_renamed bits (d ∷ ds) [] h = absurd h
  stored_renamed bits (d ∷ ds) (x ∷ xs) h = (subscript_renamed x h.0, stored_renamed bits ds xs h.1)

  -- an argument that becomes no constant
  conversion_renamed : (kind : OpKind) (bits : ℕ) (xs : List Operand) → AreConverted frame carried done kind bits xs → first_word (map f xs) ≡ None → AreConverted frame others ops kind bits (map f xs)
  conversion_renamed kind bits [] h e = absurd h
  conversion_renamed kind bits (x ∷ []) h e = record { from = h.from; converts = h.converts; operand = has x h.from h.operand; unknown = e }
  conversion_renamed kind bits (x ∷ y ∷ xs) h e = absurd h

  -- the operation with another guard
  abbrev As : OpTree → Option Operand → OpTree
  As op g = record op { args = map f op.args; guard = g }

  load_renamed : (op : OpTree) (g : Option Operand) (array : Option ArrayId) → Accesses frame carried done op o.Load array → Accesses frame others ops (As op g) o.Load array
  load_renamed op g None h = absurd h
  load_renamed op g (Some array) h = (h.0, h.1, record { bits = h.2.bits; args = subscripts_renamed h.0.dims op.args h.2.args })

  store_renamed : (op : OpTree) (g : Option Operand) (array : Option ArrayId) → Accesses frame carried done op o.Store array → Accesses frame others ops (As op g) o.Store array
  store_renamed op g None h = absurd h
  store_renamed op g (Some array) h = (h.0, h.1, record { bits = h.2.bits; changes = h.2.changes; args = stored_renamed op.bits h.0.dims op.args h.2.args })

  acts_renamed : (op : OpTree) (g : Option Operand) (kind : OpKind) → Acts frame carried done op kind → (is_conversion kind ≡ true → first_word (map f op.args) ≡ None) → Acts frame others ops (As op g) kind
  acts_renamed op g o.Load h e = load_renamed op g op.array h
  acts_renamed op g o.Store h e = store_renamed op g op.array h
  acts_renamed op g o.Widen h e = (h.0, conversion_renamed o.Widen op.bits op.args h.1 (e refl))
  acts_renamed op g o.Narrow h e = (h.0, conversion_renamed o.Narrow op.bits op.args h.1 (e refl))
  acts_renamed op g o.Truth h e = (h.0, conversion_renamed o.Truth op.bits op.args h.1 (e refl))
  acts_renamed op g kind h e = (h.0, operands_renamed (argument_bits kind op.bits) op.args h.1)

  pub valid_as : (op : OpTree) (g : Option Operand) → OpIsValid frame carried done op → IsOperandIf frame others ops 1 g → (is_conversion op.kind ≡ true → first_word (map f op.args) ≡ None) → OpIsValid frame others ops (record op { args = map f op.args; guard = g })
  valid_as op g h k e = record { width = h.width; flag = h.flag; guard = k; acts = acts_renamed op g op.kind h.acts e }

-- a conversion has one argument
module _ (frame : FrameShape) (carried : List Out) (done : List OpTree) where
  one_converted : (kind : OpKind) (bits : ℕ) (xs : List Operand) → AreConverted frame carried done kind bits xs → length xs ≤ 1
  one_converted kind bits [] h = absurd h
  one_converted kind bits (x ∷ []) h = omega arith
  one_converted kind bits (x ∷ y ∷ xs) h = absurd h

  pub conversion_one : (op : OpTree) (kind : OpKind) → Acts frame carried done op kind → is_conversion kind ≡ true → length op.args ≤ 1
  conversion_one op o.Widen h e = one_converted o.Widen op.bits op.args h.1
  conversion_one op o.Narrow h e = one_converted o.Narrow op.bits op.args h.1
  conversion_one op o.Truth h e = one_converted o.Truth op.bits op.args h.1
  conversion_one op kind h e = absurd cc

-- .. that is no constant
module _ (frame : FrameShape) (carried : List Out) (done : List OpTree) where
  open_converted : (kind : OpKind) (bits : ℕ) (xs : List Operand) → AreConverted frame carried done kind bits xs → first_word xs ≡ None
  open_converted kind bits [] h = absurd h
  open_converted kind bits (x ∷ []) h = h.unknown
  open_converted kind bits (x ∷ y ∷ xs) h = absurd h

  pub conversion_open : (op : OpTree) (kind : OpKind) → Acts frame carried done op kind → is_conversion kind ≡ true → first_word op.args ≡ None
  conversion_open op o.Widen h e = open_converted o.Widen op.bits op.args h.1
  conversion_open op o.Narrow h e = open_converted o.Narrow op.bits op.args h.1
  conversion_open op o.Truth h e = open_converted o.Truth op.bits op.args h.1
  conversion_open op kind h e = absurd cc

pub length_map : {A B : Type 0} (f : A → B) (xs : List A) → length (map f xs) ≡ length xs
length_map f [] = refl
length_map f (x ∷ xs) = ap suc (length_map f xs)
