use Rattle.std.proofs.Common.{ap, map}
use Rattle.c_tree.specs.View.{action_of}
use Rattle.c_parser.proofs.CursorLemmas.Readings.{tail_found, tail_absent}
use Rattle.c_parser.proofs.Actions.{no_actions_found, actions_step}
use Rattle.c_parser.proofs.action.actions.Goals as goal

pub returns-then-eat-clause-found : goal.returns-then-eat-clause-found
returns-then-eat-clause-found c = let x = c.if-eat.ensures in no_actions_found _ _ _ x.0 _ c.requires (ap (map action_of) c.new.ensures.items) x.1

pub returns-clause-found : goal.returns-clause-found
returns-clause-found c = let x = c.if-eat.ensures in tail_found (λ all. map action_of all.items) _ _ _ _ (actions_step _ _ _ x.0 x.1) c.action_list.ensures.found

pub returns-clause-absent : goal.returns-clause-absent
returns-clause-absent c = let x = c.if-eat.ensures in tail_absent _ _ _ (actions_step _ _ _ x.0 x.1) c.action_list.ensures.absent
