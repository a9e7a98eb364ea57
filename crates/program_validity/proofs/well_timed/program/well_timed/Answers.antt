use Rattle.std.proofs.Common.{sym, ap₂, ◌∙◌}
use Rattle.std.specs.List.{list_all}
use Rattle.program_validity.specs.Nodes.{node_in_time}
use Rattle.program_validity.proofs.WellTimed.Programs.{program_from, program_to}
use Rattle.program_validity.proofs.well_timed.program.well_timed.Goals as goal

pub returns : goal.returns
returns c =
    let cfg = c.args.cfg.now in
    let same = c.nodes_are_well_timed.ensures ∙ ap₂ (λ memories nodes. list_all (node_in_time memories) nodes) c.deref.ensures.value c.deref-2.ensures.value in
    (λ h. program_from cfg (sym same ∙ h), λ w. same ∙ program_to cfg w)
