use Rattle.std.proofs.Common.{◌≤◌, Vec, ℕ, Global, sym, subst}
use Rattle.aig_graph.specs.Words.{HasLength}
use Rattle.rtl_core.specs.declared.design.Pair.TheVariants as pair
use Rattle.rtl_core.specs.Valid.{OperandsFit}
use Rattle.aig_blast.proofs.Pairs.{alike_is, pair_returned}
use Rattle.aig_blast.proofs.pair.pair_word.Goals as goal

pub add-requires-clause-same : goal.add-requires-clause-same
add-requires-clause-same c = alike_is c.args.op pair.Add c.in-Add.is c.requires.fits.0 c.args.xs.now c.args.ys.now c.requires.fits.1

pub difference-requires-clause-same : goal.difference-requires-clause-same
difference-requires-clause-same c = alike_is c.args.op pair.Sub c.in-Sub.is c.requires.fits.0 c.args.xs.now c.args.ys.now c.requires.fits.1

pub bitwise-requires-clause-same : goal.bitwise-requires-clause-same
bitwise-requires-clause-same c = alike_is c.args.op pair.And c.in-And.is c.requires.fits.0 c.args.xs.now c.args.ys.now c.requires.fits.1

pub bitwise-requires-in-Or-clause-same : goal.bitwise-requires-in-Or-clause-same
bitwise-requires-in-Or-clause-same c = alike_is c.args.op pair.Or c.in-Or.is c.requires.fits.0 c.args.xs.now c.args.ys.now c.requires.fits.1

pub bitwise-requires-in-Xor-clause-same : goal.bitwise-requires-in-Xor-clause-same
bitwise-requires-in-Xor-clause-same c = alike_is c.args.op pair.Xor c.in-Xor.is c.requires.fits.0 c.args.xs.now c.args.ys.now c.requires.fits.1

pub equality-requires-clause-same : goal.equality-requires-clause-same
equality-requires-clause-same c = alike_is c.args.op pair.Equal c.in-Equal.is c.requires.fits.0 c.args.xs.now c.args.ys.now c.requires.fits.1

pub order-requires-clause-same : goal.order-requires-clause-same
order-requires-clause-same c = alike_is c.args.op pair.Below c.in-Below.is c.requires.fits.0 c.args.xs.now c.args.ys.now c.requires.fits.1

pub shift_left-requires-clause-narrow : goal.shift_left-requires-clause-narrow
shift_left-requires-clause-narrow c =
    let n = c.requires.fits.0 in
    let h = subst (λ o. OperandsFit o n (λ m. HasLength m c.args.xs.now) (λ m. HasLength m c.args.ys.now)) c.in-Left.is c.requires.fits.1 in
    subst (λ z. z ≤ 128) (sym h.0) c.requires.fits.2

pub shift_right-requires-clause-narrow : goal.shift_right-requires-clause-narrow
shift_right-requires-clause-narrow c =
    let n = c.requires.fits.0 in
    let h = subst (λ o. OperandsFit o n (λ m. HasLength m c.args.xs.now) (λ m. HasLength m c.args.ys.now)) c.in-Right.is c.requires.fits.1 in
    subst (λ z. z ≤ 128) (sym h.0) c.requires.fits.2

pub returns-in-Add : goal.returns-in-Add
returns-in-Add c = λ n h. pair_returned (λ (v : Vec ℕ Global). v.items) _ _ c.args.op pair.Add c.in-Add.is n c.args.xs.now c.args.ys.now _ h c.add.ensures

pub returns-in-Sub : goal.returns-in-Sub
returns-in-Sub c = λ n h. pair_returned (λ (v : Vec ℕ Global). v.items) _ _ c.args.op pair.Sub c.in-Sub.is n c.args.xs.now c.args.ys.now _ h c.difference.ensures

pub returns-in-Mul : goal.returns-in-Mul
returns-in-Mul c = λ n h. pair_returned (λ (v : Vec ℕ Global). v.items) _ _ c.args.op pair.Mul c.in-Mul.is n c.args.xs.now c.args.ys.now _ h c.multiply.ensures

pub returns-in-And : goal.returns-in-And
returns-in-And c = λ n h. pair_returned (λ (v : Vec ℕ Global). v.items) _ _ c.args.op pair.And c.in-And.is n c.args.xs.now c.args.ys.now _ h c.bitwise.ensures

pub returns-in-Or : goal.returns-in-Or
returns-in-Or c = λ n h. pair_returned (λ (v : Vec ℕ Global). v.items) _ _ c.args.op pair.Or c.in-Or.is n c.args.xs.now c.args.ys.now _ h c.bitwise-in-Or.ensures

pub returns-in-Xor : goal.returns-in-Xor
returns-in-Xor c = λ n h. pair_returned (λ (v : Vec ℕ Global). v.items) _ _ c.args.op pair.Xor c.in-Xor.is n c.args.xs.now c.args.ys.now _ h c.bitwise-in-Xor.ensures

pub returns-in-Equal : goal.returns-in-Equal
returns-in-Equal c = λ n h. pair_returned (λ (v : Vec ℕ Global). v.items) _ _ c.args.op pair.Equal c.in-Equal.is n c.args.xs.now c.args.ys.now _ h c.equality.ensures

pub returns-in-Below : goal.returns-in-Below
returns-in-Below c = λ n h. pair_returned (λ (v : Vec ℕ Global). v.items) _ _ c.args.op pair.Below c.in-Below.is n c.args.xs.now c.args.ys.now _ h c.order.ensures

pub returns-in-Left : goal.returns-in-Left
returns-in-Left c = λ n h. pair_returned (λ (v : Vec ℕ Global). v.items) _ _ c.args.op pair.Left c.in-Left.is n c.args.xs.now c.args.ys.now _ h c.shift_left.ensures

pub returns-in-Right : goal.returns-in-Right
returns-in-Right c = λ n h. pair_returned (λ (v : Vec ℕ Global). v.items) _ _ c.args.op pair.Right c.in-Right.is n c.args.xs.now c.args.ys.now _ h c.shift_right.ensures
