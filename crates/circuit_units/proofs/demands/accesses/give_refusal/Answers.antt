use Rattle.std.proofs.Common.{arith}
use Rattle.std.proofs.lemmas.Result.{IfOk-weaker}
use Rattle.rtl_logic.specs.Making.{circuit}
use Rattle.rtl_logic.proofs.Making.{appended, fits_later}
use Rattle.circuit_units.proofs.DemandsLemmas.Pushing.{refusal_logged, is_there}
use Rattle.circuit_units.proofs.DemandsLemmas.Accessing.{node_inside}
use Rattle.circuit_units.proofs.demands.accesses.give_refusal.Goals as goal

pub returns : goal.returns
returns c = λ p names context begun port.
    let e = circuit c.at.new.logic in
    let starts = c.in_ok-starts.ensures p names context begun in
    let allowed = c.in_ok-allowed.ensures p names context starts.begun in
    let against = c.in_ok-against.ensures 1 starts.begun.sound (omega arith, omega arith) allowed.fits in
    let before = fits_later e (circuit c.not.new.self) (appended e (circuit c.not.new.self) against.appends) 1 c.in_ok-starts.starts starts.carries.fits in
    let refused = c.in_ok-refused.ensures against.sound before against.shows.fits in
    IfOk-weaker c.push.result _ _
    (λ u is.
    refusal_logged p names (circuit c.args.logic.now) e (circuit c.not.new.self) (circuit c.and.new.self) c.args.log.now.pushes.items c.push.new.self.pushes.items c.args.it.now c.args.port
    c.in_ok-starts.starts c.in_ok-allowed.allowed c.in_ok-against.against c.in_ok-refused.refused c.constant.result port (is_there c.args.it.now.op.now.guard c.is_none.result c.is_none.ensures c.if-is_none.false)
    starts allowed against refused c.constant.ensures is)
    c.push.ensures

pub at-requires : goal.at-requires
at-requires c = node_inside c.args.of.now c.args.it.now c.requires

pub is_true-requires : goal.is_true-requires
is_true-requires c = node_inside c.args.of.now c.args.it.now c.requires
