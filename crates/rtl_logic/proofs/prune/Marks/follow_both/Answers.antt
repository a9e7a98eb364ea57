use Rattle.std.proofs.lemmas.Result.{IfOk-weaker}
use Rattle.rtl_logic.specs.Marking.{search_of}
use Rattle.rtl_logic.proofs.Spreading.{spreads_both}
use Rattle.rtl_logic.proofs.prune.Marks.follow_both.Goals as goal

pub returns-clause-spreads : goal.returns-clause-spreads
returns-clause-spreads c =
    IfOk-weaker c.follow-2.result _ _ (λ u s. spreads_both (search_of c.args.self.now) (search_of c.follow.new.self) (search_of c.follow-2.new.self) c.in_ok-follow.ensures.spreads s) c.follow-2.ensures.spreads

pub returns-clause-least : goal.returns-clause-least
returns-clause-least c = IfOk-weaker c.follow-2.result _ _ (λ u s n one other i. s n other (c.in_ok-follow.ensures.least n one i)) c.follow-2.ensures.least
