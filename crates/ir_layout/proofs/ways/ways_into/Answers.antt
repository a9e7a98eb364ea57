use Rattle.std.proofs.Common.{◌≡◌, ◌∙◌, ◌+◌, ℕ, ap, sym, map, get_or, rules, arith}
use Rattle.ir_core.specs.Trees.{sequence_of, part_of, shape_of, arm_row, part_row, switch}
use Rattle.ir_layout.specs.Sizes.{parts_size}
use Rattle.ir_layout.specs.Views.{number, arm_starts_from, other_in}
use Rattle.ir_layout.specs.Layout.{by_case, arm_start, other_start, ahead_of, behind_shape}
use Rattle.ir_layout.proofs.Starting.{cases_lead}
use Rattle.ir_layout.proofs.Parts.{switch_out}
use Rattle.ir_layout.proofs.ways.ways_into.Goals as goal

pub returns-in_ok-cases-in-Choose : goal.returns-in_ok-cases-in-Choose
returns-in_ok-cases-in-Choose c =
    let dead = part_row (map part_of c.in-Choose.dead.items) in
    let arms = arm_row (map sequence_of c.in-Choose.arms.items) in
    let same : shape_of c.args.shape.now ≡ switch dead c.in-Choose.targets.items c.in-Choose.other arms = ap shape_of c.in-Choose.is ∙ switch_out c.in-Choose.dead c.in-Choose.targets c.in-Choose.other c.in-Choose.arms in
    let place = c.args.base + parts_size dead in
    let behind : c.args.after ≡ behind_shape c.args.base (switch dead c.in-Choose.targets.items c.in-Choose.other arms) = c.requires.after ∙ ap (behind_shape c.args.base) same in
    let counted : c.in_ok-first-in-Choose.first ≡ c.args.base + parts_size dead = search rules in
    let begun : map number c.in_ok-starts-in-Choose.starts.items ≡ arm_starts_from c.in_ok-first-in-Choose.first arms = search rules in
    let cases : map number c.in_ok-cases-in-Choose.cases.items ≡ map (λ (i : ℕ). get_or (map number c.in_ok-starts-in-Choose.starts.items) i c.args.after) c.in-Choose.targets.items = search rules in
    let other : number c.other_node-other.result ≡ other_in (map number c.in_ok-starts-in-Choose.starts.items) c.args.after c.in-Choose.other = search rules in
    cases_lead place c.args.after c.in_ok-first-in-Choose.first (number c.other_node-other.result) arms c.in-Choose.targets.items (map number c.in_ok-cases-in-Choose.cases.items) (map number c.in_ok-starts-in-Choose.starts.items) c.in-Choose.other
    (omega (arith, behind)) counted begun cases other
    ∙ ap (λ i. by_case (map (arm_start place arms) c.in-Choose.targets.items) (other_start place i arms c.in-Choose.other)) behind
    ∙ ap (ahead_of c.args.base) (sym same)
