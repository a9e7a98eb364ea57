use Rattle.std.proofs.Common.{◌∙◌, ap, map, Some}
use Rattle.passes.specs.Conversion.Merging as m
use Rattle.if_convert.specs.Views.{guards_of}
use Rattle.if_convert.specs.Blocks.{open_of, branches_of, branched_of, choice_of}
use Rattle.if_convert.proofs.merging.Open.merge.Goals as goal

pub returns : goal.returns
returns c =
    let widths = c.args.scope.variables.now in
    let b = open_of c.args.self in
    let f = branches_of c.args.branches in
    let yes_ = branched_of c.in_ok-yes.yes in
    let no_ = branched_of c.in_ok-no.no in
    let first = c.in_ok-yes.ensures ∙ ap (λ g. m.branched widths b.ops b.outs (Some f.test) g f.yes_) c.in_ok-is_taken.ensures in
    let second = c.in_ok-no.ensures ∙ ap (λ l. m.branched widths yes_.ops b.outs (Some f.test) (guards_of l) f.no_) c.new.ensures.items in
    c.in_ok-select_all.ensures ∙ ap (m.with_selections widths f.test (record b { ops = no_.ops })) (ap (map choice_of) c.as_slice.ensures.value ∙ c.in_ok-choices.ensures)
    ∙ ap (m.merged_no widths b f yes_) second ∙ ap (m.merged_yes widths b f) first
