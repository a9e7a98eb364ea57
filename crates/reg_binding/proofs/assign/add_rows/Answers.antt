use Rattle.std.proofs.Common.{◌+◌, ◌++◌, ◌∷◌, [], List, map, drop, slice_index, sym, ap, ◌∙◌, append_assoc}
use Rattle.std.specs.List.{zip}
use Rattle.reg_binding.specs.declared.registers.Held.{Held}
use Rattle.reg_binding.specs.Sharing.{life_at}
use Rattle.reg_binding.specs.Assigned.{row}
use Rattle.reg_binding.proofs.Rows.{rows_more}
use Rattle.reg_binding.proofs.assign.add_rows.Goals as goal

pub loop-number-preserved : goal.loop-number-preserved
loop-number-preserved c =
    let i = c.args.node.0 in
    let lives = c.args.lives.now in
    let choices = c.args.choices.now in
    let n = c.loop-number.number in
    let held = c.loop-number.held.items in
    let rest : List Held = map (row i) (zip (drop (n + 1) lives) (drop (n + 1) choices)) in
    let more : Held = row i (life_at lives n, slice_index choices n) in
    ap (λ (xs : List Held). xs ++ rest) c.in_ok-push.ensures.items
    ∙ append_assoc held (more ∷ []) rest
    ∙ ap (λ (xs : List Held). held ++ xs) (sym (rows_more i lives choices n c.loop-number-test.true c.requires))
    ∙ c.loop-number.invariant
