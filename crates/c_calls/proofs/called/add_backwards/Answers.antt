use Rattle.std.proofs.Common.{◌≡◌, ◌++◌, ◌∙◌, sym, ap, append_assoc, arith}
use Rattle.c_calls.specs.Called.{backwards}
use Rattle.c_calls.proofs.Calling.{backwards_more}
use Rattle.c_calls.proofs.called.add_backwards.Goals as goal

pub loop-last-preserved : goal.loop-last-preserved
loop-last-preserved c =
    let before = c.loop-last.calls.items in
    let left = c.pop.new.self.items in
    let last = c.in-Some.last in
    let grown : c.append.new.self.items ≡ before ++ last.items = grind arith in
    ap (λ xs. xs ++ backwards left) grown ∙ append_assoc before last.items (backwards left)
    ∙ ap (λ xs. before ++ xs) (sym (backwards_more left last) ∙ ap backwards (sym c.in-Some.ensures.items)) ∙ c.loop-last.invariant
