use Rattle.source_validity.proofs.AddressedFrames.Frames.{expanded_addressable}
use Rattle.source_validity.proofs.addressed_frames.expanded_frames_are_addressable.Goals as goal

pub returns : goal.returns
returns c = expanded_addressable
