use Rattle.std.proofs.Common.{◌≡◌, length, ap, arith}
use Rattle.c_token.specs.Replacement.{without}
use Rattle.c_macro.proofs.TableLemmas.{fewer_without}
use Rattle.c_macro.proofs.reader.Reader.undefine.Goals as goal

pub invariant_of-self : goal.invariant_of-self
invariant_of-self c =
    let now : length c.undefine.new.self ≡ length (without c.items.result.now c.args.self.now.macros) = ap length c.undefine.ensures in
    let fewer = fewer_without c.items.result.now c.args.self.now.macros in
    let few = c.args.self.now.few_macros in
    record { few_macros = omega arith; few_defines = c.args.self.now.few_defines }
