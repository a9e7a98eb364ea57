use Rattle.source_validity.proofs.ValidFrames.Whole.{frame_valid}
use Rattle.source_validity.proofs.valid_frames.expanded_frames_are_valid.Goals as goal

pub returns : goal.returns
returns c = frame_valid
