use Rattle.std.proofs.Common.{◌≡◌, ◌∙◌, Some, None, true, false, ap, sym}
use Rattle.rtl_logic.specs.Making.{circuit}
use Rattle.rtl_logic.proofs.Making.{appends_none}
use Rattle.datapath.specs.Plans.{Array, array_at, array_of}
use Rattle.program_validity.proofs.Memories.{first_fits}
use Rattle.circuit_units.proofs.MemoriesLemmas.Outer.{array_there, none_outside}
use Rattle.circuit_units.proofs.memories.outside.outside_access.Goals as goal

pub first_access-requires : goal.first_access-requires
first_access-requires c = first_fits c.args.memory.now c.items.result.now c.requires (c.in-Some.is ∙ ap Some (sym c.items.ensures))

pub returns-then-memory : goal.returns-then-memory
returns-then-memory c = λ p names context begun place at.
    let there = array_there p c.args.place.array.0 (array_of c.args.memory.now) at in
    let host : (array_at p c.args.place.array.0).host ≡ true = ap (λ (x : Array). x.host) there ∙ c.if-memory.true in
    let made = c.in_ok-host_access.ensures p names context begun place host in
    record { appends = made.appends; begun = made.begun; is = made.is }

pub returns-in_ok-access-in-Some : goal.returns-in_ok-access-in-Some
returns-in_ok-access-in-Some c = λ p names context begun place at.
    let there = array_there p c.args.place.array.0 (array_of c.args.memory.now) at in
    let host : (array_at p c.args.place.array.0).host ≡ false = ap (λ (x : Array). x.host) there ∙ c.if-memory.false in
    let first : (array_at p c.args.place.array.0).first ≡ Some c.items.result.now = ap (λ (x : Array). x.first) there ∙ (c.in-Some.is ∙ ap Some (sym c.items.ensures)) in
    let made = c.in_ok-access-in-Some.ensures p names context begun place at host first in
    record { appends = made.appends; begun = made.begun; is = made.is }

pub returns-in-None : goal.returns-in-None
returns-in-None c = λ p names context begun place at.
    let d = circuit c.args.logic.now in
    let there = array_there p c.args.place.array.0 (array_of c.args.memory.now) at in
    let host : (array_at p c.args.place.array.0).host ≡ false = ap (λ (x : Array). x.host) there ∙ c.if-memory.false in
    let first : (array_at p c.args.place.array.0).first ≡ None = ap (λ (x : Array). x.first) there ∙ c.in-None.is in
    record { appends = appends_none d; begun = begun; is = none_outside p c.args.place.array.0 host first }
