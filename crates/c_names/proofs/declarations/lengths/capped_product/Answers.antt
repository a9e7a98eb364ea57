use Rattle.std.proofs.Common.{◌≡◌, ◌*◌, ◌^◌, ◌<◌, ◌≤◌, ◌⊎◌, ◌+◌, inl, inr, ◌∙◌, arith}
use Rattle.std.proofs.Math.Nat.{mod-eq_of_lt}
use Rattle.std.proofs.Math.Pow.{pow_mono}
use Rattle.c_names.proofs.DeclarationsLemmas.Lists.{product_more, product_end}
use Rattle.c_names.proofs.declarations.lengths.capped_product.Goals as goal
use Rattle.c_names.proofs.declarations.lengths.capped_product.Goals.{then-bits-gt17, else-bits-gt17}

pub loop-length-preserved : goal.loop-length-preserved
loop-length-preserved c =
    let way : (c.if-bits-gt17.bits ≡ c.loop-length.bits + c.subscript_bits-bits.result) ⊎ ((17 < c.loop-length.bits + c.subscript_bits-bits.result) × (c.if-bits-gt17.bits ≡ 17)) =
    elim c.if-bits-gt17.branch [ then-bits-gt17 w ↦ inr (w.if-bits-gt17.true, w.bits-is) | else-bits-gt17 w ↦ inl w.bits-is ] in
    record {
      bound = elim c.if-bits-gt17.branch [ then-bits-gt17 w ↦ omega arith | else-bits-gt17 w ↦ omega arith ];
      value = product_more c.args.lengths.now c.loop-length.length-index c.in-Some.length c.loop-length.bits c.subscript_bits-bits.result c.if-bits-gt17.bits _ c.loop-length-test.true c.in-Some.is
          c.subscript_bits-bits.ensures.value way c.loop-length.invariant.value;
    }

pub returns : goal.returns
returns c =
    let small : 2 ^ c.loop-length.bits ≤ 2 ^ 17 = pow_mono c.loop-length.invariant.bound in
    let fits : 1 * 2 ^ c.loop-length.bits < 4294967296 = omega arith in
    let one : 1 * 2 ^ c.loop-length.bits ≡ 2 ^ c.loop-length.bits = omega arith in
    mod-eq_of_lt fits ∙ one ∙ product_end c.args.lengths.now c.loop-length.length-index c.loop-length.bits _ c.loop-length-test.false c.loop-length.invariant.bound c.loop-length.invariant.value
