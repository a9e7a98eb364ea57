use Rattle.stage_runs.proofs.WholeStages.{whole_stages}
use Rattle.stage_runs.proofs.laws.sources_have_whole_stages.Goals as goal

pub returns : goal.returns
returns c =
    whole_stages c.layout_is_whole.ensures c.lowered_is_there.ensures c.numbered_is_there.ensures c.converted_is_there.ensures c.sources_have_fine_pieces.ensures
    c.source_frames_are_named.ensures
