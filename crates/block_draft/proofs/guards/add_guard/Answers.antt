use Rattle.std.proofs.Common.{◌∙◌, ap, None}
use Rattle.block_draft.specs.Views.{guards_of}
use Rattle.block_draft.proofs.Forms.{guards_more}
use Rattle.block_draft.proofs.guards.add_guard.Goals as goal

pub returns : goal.returns
returns c = ap guards_of c.in_ok-push.ensures.items ∙ guards_more c.args.guards.now.items (record { test = c.args.test; holds = c.args.holds; made = None })
