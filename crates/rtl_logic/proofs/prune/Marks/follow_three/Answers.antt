use Rattle.std.proofs.lemmas.Result.{IfOk-weaker}
use Rattle.rtl_logic.specs.Marking.{search_of}
use Rattle.rtl_logic.proofs.Spreading.{spreads_both}
use Rattle.rtl_logic.proofs.prune.Marks.follow_three.Goals as goal

pub returns-clause-spreads : goal.returns-clause-spreads
returns-clause-spreads c =
    IfOk-weaker c.follow_both.result _ _ (λ u s. spreads_both (search_of c.args.self.now) (search_of c.follow.new.self) (search_of c.follow_both.new.self) c.in_ok-follow.ensures.spreads s) c.follow_both.ensures.spreads

pub returns-clause-least : goal.returns-clause-least
returns-clause-least c = IfOk-weaker c.follow_both.result _ _ (λ u s n one other third i. s n other third (c.in_ok-follow.ensures.least n one i)) c.follow_both.ensures.least
