use Rattle.std.proofs.Common.{◌≡◌, slice_get, Some, None, sym, ap, ◌∙◌}
use Rattle.reg_binding.specs.Sets.{has, has_in}
use Rattle.reg_binding.specs.Liveness.{entered_at}
use Rattle.reg_binding.proofs.LiveVariables.Elements.{got_of, past}
use Rattle.reg_binding.proofs.LiveVariables.Members.{Gains-none, Gains-same}
use Rattle.reg_binding.proofs.live.Live.add_node.Goals as goal

pub returns-in-Some : goal.returns-in-Some
returns-in-Some c = λ sized e.
    let i = c.args.node.0 in
    let entered = c.in-Some.entered.now in
    let found = c.in-Some.ensures.lookup in
    let at : slice_get c.args.self.now.entered.items i ≡ Some entered =
    sym (ap (λ xs. slice_get xs i) c.deref.ensures.value) ∙ got_of c.deref.result.now i entered found.3.0 found.1 in
    Gains-same c.args.set.now c.add_all.new.self (has entered) (entered_at c.args.self.now i) (c.add_all.ensures.gains (e ∙ sym (sized.1 i entered at)))
    (λ n. sym (ap (λ o. has_in o n) at))

pub returns-in_default : goal.returns-in_default
returns-in_default c = λ sized e.
    let i = c.args.node.0 in
    let at : slice_get c.args.self.now.entered.items i ≡ None =
    sym (ap (λ xs. slice_get xs i) c.deref.ensures.value) ∙ past c.deref.result.now i c.in_default.ensures.lookup.3 in
    Gains-none c.args.set.now (entered_at c.args.self.now i) (λ n. ap (λ o. has_in o n) at)
