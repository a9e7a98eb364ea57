use Rattle.std.proofs.Common.{◌≡◌, ◌++◌, drop}
use Rattle.block_draft.proofs.Listing.{lasts}
use Rattle.block_draft.proofs.outs.listed.Given as goal

abbrev pub invariant-loop-place : goal.invariant-loop-place
invariant-loop-place l = l.outs.items ++ lasts (drop l.place l.sets) ≡ lasts l.sets
