use Rattle.std.proofs.lemmas.Result.{IfOk-weaker}
use Rattle.rtl_logic.specs.Making.{circuit}
use Rattle.circuit_units.proofs.DemandsLemmas.Pushing.{word_logged}
use Rattle.circuit_units.proofs.DemandsLemmas.Accessing.{node_inside, some_stored, array_stands}
use Rattle.circuit_units.proofs.demands.accesses.give_word.Goals as goal

pub returns : goal.returns
returns c = λ p names context begun there port.
    let may = c.in_ok-may.ensures p names c.args.it.now.number context begun in
    let allowed = c.in_ok-allowed.ensures p names context may.begun in
    let both = c.in_ok-when.ensures may.begun.sound may.carries.fits allowed.fits in
    IfOk-weaker c.push.result _ _
    (λ u is.
    word_logged p names (circuit c.args.logic.now) (circuit c.may_store.new.logic) (circuit c.and.new.self) c.args.log.now.pushes.items c.push.new.self.pushes.items c.args.it.now c.args.port
    c.word_bits-bits.result c.stored.result c.in_ok-word.word c.in_ok-may.may c.in_ok-allowed.allowed c.in_ok-when.when begun there port (c.word_bits-bits.ensures p names context) (λ f. c.stored.ensures f)
    (c.in_ok-word.ensures p names context begun) may allowed both is)
    c.push.ensures

pub operand-requires : goal.operand-requires
operand-requires c = node_inside c.args.of.now c.args.it.now c.requires.program

pub may_store-requires : goal.may_store-requires
may_store-requires c = node_inside c.args.of.now c.args.it.now c.requires.program

pub is_true-requires : goal.is_true-requires
is_true-requires c = node_inside c.args.of.now c.args.it.now c.requires.program

pub stored-requires : goal.stored-requires
stored-requires c = some_stored c.args.of.now c.args.it.now c.requires.program c.requires.kind

pub word_bits-bits-requires : goal.word_bits-bits-requires
word_bits-bits-requires c = array_stands c.args.of.now c.args.it.now c.args.port.array c.requires.program c.requires.kind c.requires.access.array_
