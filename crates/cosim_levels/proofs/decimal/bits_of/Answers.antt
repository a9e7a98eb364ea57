use Rattle.std.proofs.Common.{◌≡◌, Some, true, false, sym, ap, ◌∙◌, arith}
use Rattle.std.specs.Int.{w128}
use Rattle.std.proofs.lemmas.Int.{ints}
use Rattle.c_value.specs.Values.{is_of, pattern}
use mir.Val.{to_z, of_z}
use Rattle.cosim_levels.proofs.Numerals.{word_in, word_out}
use Rattle.cosim_levels.proofs.decimal.bits_of.Goals as goal

pub returns-in-Some : goal.returns-in-Some
returns-in-Some c =
    let n = c.in-Some.n in
    let back : to_z w128 (of_z w128 n) ≡ n = omega (arith, ints) in
    let test : is_of c.args.kind n ≡ true = ap (is_of c.args.kind) (sym back) ∙ sym c.if-is_of.ensures in
    let bits : c.pattern.result ≡ pattern c.args.kind n = c.pattern.ensures.value ∙ ap (pattern c.args.kind) back in
    ap (λ x. Some x) bits ∙ word_in c.args.kind c.args.word.now n c.in-Some.ensures test

pub returns-in_default : goal.returns-in_default
returns-in_default c =
    let n = c.in-Some.n in
    let back : to_z w128 (of_z w128 n) ≡ n = omega (arith, ints) in
    let test : is_of c.args.kind n ≡ false = ap (is_of c.args.kind) (sym back) ∙ sym c.if-is_of.ensures in
    word_out c.args.kind c.args.word.now n c.in-Some.ensures test
