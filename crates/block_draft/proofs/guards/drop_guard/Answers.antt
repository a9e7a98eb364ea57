use Rattle.block_draft.proofs.Forms.{dropped, none_left}
use Rattle.block_draft.proofs.guards.drop_guard.Goals as goal

pub returns : goal.returns
returns c =
    dropped c.args.guards.now.items c.pop-guard.new.self.items c.pop-guard.result c.pop-guard.ensures.items
    (λ e. let cases = rw e at c.pop-guard.ensures.cases in none_left c.pop-guard.new.self cases.1)
