use Rattle.std.proofs.Common.{◌≡◌, ◌∙◌, ap, rules, arith}
use Rattle.std.proofs.lemmas.Grind.{common_steps}
use Rattle.std.specs.Option.{option_map}
use Rattle.c_tree.specs.View.{stmts_of}
use Rattle.c_value.specs.Values.{promoted, convert}
use Rattle.c_meaning.specs.Statement.{target_label}
use Rattle.c_machine.specs.Moves.{landing}
use Rattle.c_machine.specs.Waiting.Labels.{landing_of}
use Rattle.c_moves.specs.Machines.{configuration_of}
use Rattle.c_moves.proofs.Jumping.{on_ok, jumped-is}
use Rattle.c_moves.proofs.machine.Machine.jump.Goals as goal

pub returns-else-is_err-clause-ok : goal.returns-else-is_err-clause-ok
returns-else-is_err-clause-ok c =
    let b = stmts_of c.args.body.now in
    let there : option_map landing_of c.find_landing-landing.result ≡ landing (target_label (promoted c.args.x.kind) (convert (promoted c.args.x.kind) c.args.x.number) b) b
    = c.find_landing-landing.ensures ∙ ap (λ w. landing w b) c.label_of.ensures in
    let is = jumped-is c.args.x b (configuration_of c.args.self.now) (configuration_of c.enter_block.new.self) (option_map landing_of c.find_landing-landing.result) (stmts_of c.rest_behind-rest.result.now)
    c.len-count.result c.in_ok-made.made.items there c.rest_behind-rest.ensures (first_of (search rules, omega arith, grind (arith, common_steps))) c.in_ok-made.ensures c.in_ok-enter_block.ensures.ok in
    on_ok c.land-landed.result _ _ (λ h. h ∙ is) c.land-landed.ensures.ok
