use Rattle.source_validity.proofs.AddressedFrames.Frames.{frames_addressed}
use Rattle.source_validity.proofs.addressed_frames.checked_frames_are_addressed.Goals as goal

pub returns : goal.returns
returns c = frames_addressed
