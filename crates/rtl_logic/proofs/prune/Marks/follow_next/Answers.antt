use Rattle.std.proofs.Common.{◌∙◌, ◌++◌, refl, ap}
use Rattle.std.specs.Option.{option_to_list}
use Rattle.std.proofs.lemmas.Result.{IfOk-weaker}
use Rattle.rtl_core.specs.Netlist.{netlist_of}
use Rattle.rtl_logic.specs.Marking.{marked_of, search_of}
use Rattle.rtl_logic.proofs.Spreading.{round, both_ok, taken_in, closed_reads}
use Rattle.rtl_logic.proofs.prune.Marks.follow_next.Goals as goal

pub returns-in-Some-clause-rounds : goal.returns-in-Some-clause-rounds
returns-in-Some-clause-rounds c =
    both_ok c.follow_read.result _ _ _ (λ s r.
    round (netlist_of c.args.design.now) (search_of c.args.self.now) _ (search_of c.follow_read.new.self) c.in-Some.atom refl
    (c.pop.ensures.items ∙ ap (λ o. c.pop.new.self.items ++ option_to_list o) c.in-Some.is) s r) c.follow_read.ensures.spreads c.follow_read.ensures.marked

pub returns-in-Some-clause-least : goal.returns-in-Some-clause-least
returns-in-Some-clause-least c =
    let d = netlist_of c.args.design.now in
    IfOk-weaker c.follow_read.result _ _ (λ u s n closed i.
    let taken = taken_in n (search_of c.args.self.now) (record { marked = marked_of c.args.self.now; waiting = c.pop.new.self.items }) c.in-Some.atom refl
    (c.pop.ensures.items ∙ ap (λ o. c.pop.new.self.items ++ option_to_list o) c.in-Some.is) i in
    s n (closed_reads d n closed c.in-Some.atom taken.1) taken.0) c.follow_read.ensures.least
