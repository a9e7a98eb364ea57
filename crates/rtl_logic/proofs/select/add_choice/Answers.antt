use Rattle.std.proofs.Common.{◌∙◌, refl, sym, ap, arith}
use Rattle.rtl_logic.specs.declared.select.Wanted.{Wanted}
use Rattle.rtl_logic.proofs.Equalities.{atom_same}
use Rattle.rtl_logic.proofs.Groups.{extended, added, at_one_place}
use Rattle.rtl_logic.proofs.select.add_choice.Goals as goal

pub returns-then-eq-clause-same : goal.returns-then-eq-clause-same
returns-then-eq-clause-same c =
    let old : Wanted = c.index_mut.result.now in
    let new : Wanted = record { when = c.push.new.self; value = old.value } in
    let same = at_one_place c.args.groups.now.items c.args.place c.index.result.now old (omega arith) c.index.ensures c.index_mut.ensures.value in
    let value = atom_same c.index.result.now.value c.args.choice.value (sym c.eq.ensures ∙ c.if-eq.true) in
    extended c.args.groups.now.items c.args.place old new c.args.choice (omega arith) c.index_mut.ensures.value c.in_ok-push.ensures.items refl (ap (λ (w : Wanted). w.value) same ∙ value)

pub returns-clause-same : goal.returns-clause-same
returns-clause-same c = added c.args.groups.now.items c.push-2.new.self.items _ c.args.choice c.in_ok-push-2.ensures.items c.in_ok-when.ensures.items refl
