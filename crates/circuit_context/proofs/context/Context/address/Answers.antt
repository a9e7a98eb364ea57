use Rattle.std.proofs.Common.{◌≡◌, ◌<◌, ◌∙◌, length, ap, sym, subst}
use Rattle.std.specs.Prelude.{is_some}
use Rattle.std.proofs.lemmas.Bool.{false≢true}
use Rattle.rtl_logic.specs.Making.{circuit}
use Rattle.program_validity.proofs.Memories.{memory_valid}
use Rattle.program_validity.proofs.EachOperation.{some_dims}
use Rattle.datapath.specs.Plans.{Array, array_at}
use Rattle.datapath.proofs.Programs.{memory_array}
use Rattle.circuit_context.proofs.Standing.{program_of}
use Rattle.circuit_context.proofs.Addresses.{not_found, array_there, array_missing, array_address}
use Rattle.circuit_context.proofs.context.Context.address.Goals as goal

pub unreachable-requires : goal.unreachable-requires
unreachable-requires c = array_missing c.args.self.now.cfg.now.frame c.args.array.0 (length c.args.subscripts.now) c.requires.array (not_found c.memory_at.result _ _ c.memory_at.ensures c.in_default.not-Some)

pub side_by_side-requires-clause-count : goal.side_by_side-requires-clause-count
side_by_side-requires-clause-count c =
    ap length c.deref.ensures.value ∙ array_there c.args.self.now.cfg.now.frame c.args.array.0 (length c.args.subscripts.now) c.in-Some.memory.now c.requires.array c.in-Some.ensures

pub unreachable-requires-in-None : goal.unreachable-requires-in-None
unreachable-requires-in-None c =
    let cfg = c.args.self.now.cfg.now in
    let dims = some_dims c.in-Some.memory.now (memory_valid cfg c.args.array.0 c.in-Some.memory.now c.args.self.now.buildable.valid c.in-Some.ensures) in
    let some = c.in_ok-address.ensures.some (subst (λ l. 0 < length l) (sym c.deref.ensures.value) dims) in
    false≢true (sym (ap is_some c.in-None.is) ∙ some)

pub returns : goal.returns
returns c = λ p names h begun.
    let k = c.args.array.0 in
    let m = c.in-Some.memory.now in
    let xs = c.args.subscripts.now in
    let dims = c.deref.result.now in
    let array = memory_array p c.args.self.now.cfg.now.frame.memories.items k m (program_of p names c.args.self.now h).arrays c.in-Some.ensures in
    let same : dims ≡ (array_at p k).dims = c.deref.ensures.value ∙ sym (ap (λ (x : Array). x.dims) array) in
    array_address p names (circuit c.args.logic.now) (circuit c.side_by_side.new.logic) c.args.at.node.0 c.args.at.time k dims xs c.in_ok-address.field-0 c.in-Some-2.address
    (c.in_ok-address.ensures.made p names h begun) same c.in-Some-2.is
