use Rattle.reg_binding.specs.Sets.{has}
use Rattle.reg_binding.specs.Lives.{node_lives, node_period}
use Rattle.reg_binding.proofs.Rows.{adds_rows}
use Rattle.reg_binding.proofs.assign.assign_node.Goals as goal

pub returns : goal.returns
returns c =
    let lives = c.in_ok-lives.lives.items in
    let choices = c.in_ok-choices.choices.items in
    let chosen = c.in_ok-choices.ensures in
    adds_rows c.args.id.0 (node_lives (has c.args.behind.now) c.args.node.now) (node_period c.args.node.now) lives choices c.args.registers.now _
    c.in_ok-lives.ensures
    (rw (c.deref.ensures.value, c.period_of.ensures.value) at chosen.shared)
    chosen.grown
    (rw c.deref.ensures.value at chosen.used)
    (rw (c.deref-2.ensures.value, c.deref-3.ensures.value) at c.in_ok-add_rows.ensures)
