use Rattle.std.proofs.Common.{refl, arith}
use Rattle.rtl_logic.specs.Making.{circuit}
use Rattle.datapath.specs.Cycles.{Cycle, Initial, holds}
use Rattle.fsm_datapath.proofs.Pushing.{in_bank, holds_tells}
use Rattle.fsm_datapath.proofs.Beginning.{kept_inside, kept_fits}
use Rattle.fsm_datapath.proofs.beginnings.write_first.Goals as goal

pub returns : goal.returns
returns c = λ p names h begun.
    let d = circuit c.args.logic.now in
    let when = holds_tells p names d c.in_ok-when.when Initial begun refl (in_bank p names c.args.of.now c.in_ok-when.when Initial h c.in_ok-when.ensures) in
    c.take.ensures p names (λ (x : Cycle). holds x Initial) (λ (x : Cycle). c.args.kept.value) h begun when (c.number_in_bits-value.ensures p names d)

pub index-bits-requires : goal.index-bits-requires
index-bits-requires c = omega (arith, kept_inside c.args.of.now.cfg.now.frame c.args.kept c.requires)

pub number_in_bits-value-requires-clause-some : goal.number_in_bits-value-requires-clause-some
number_in_bits-value-requires-clause-some c = (kept_fits c.args.of.now.cfg.now c.args.kept c.index-bits.result.now c.args.of.now.buildable.valid c.requires c.index-bits.ensures).0

pub number_in_bits-value-requires-clause-few : goal.number_in_bits-value-requires-clause-few
number_in_bits-value-requires-clause-few c = (kept_fits c.args.of.now.cfg.now c.args.kept c.index-bits.result.now c.args.of.now.buildable.valid c.requires c.index-bits.ensures).1

pub number_in_bits-value-requires-clause-fits : goal.number_in_bits-value-requires-clause-fits
number_in_bits-value-requires-clause-fits c = (kept_fits c.args.of.now.cfg.now c.args.kept c.index-bits.result.now c.args.of.now.buildable.valid c.requires c.index-bits.ensures).2
