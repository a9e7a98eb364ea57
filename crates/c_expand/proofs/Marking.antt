-- Marks of points.
use Rattle.std.proofs.Common.{◌≡◌, ap}
use Rattle.hls_base.specs.declared.point.Point.{Point}
use Rattle.hls_base.specs.declared.refusal.Refusal.{Refusal}
use Rattle.pieces.specs.Trees as tree
use Rattle.piece_making.specs.Making.{emit}
use Rattle.piece_making.specs.Stocks.{Stock, state_of, IsMade, IsTooHeavy}
use Rattle.c_expand.proofs.Leading.{piece_made, piece_heavy}

pub mark_made : (old new : Stock) (u : Unit {0}) (p q : Point) → p ≡ q → IsMade old new u (emit (tree.mark p) (state_of old)) → IsMade old new u (emit (tree.mark q) (state_of old))
mark_made old new u p q e h = piece_made old new u _ _ (ap (λ (x : Point). tree.mark x) e) h

pub mark_heavy : (old : Stock) (r : Refusal) (p q : Point) → p ≡ q → IsTooHeavy old r (emit (tree.mark p) (state_of old)) → IsTooHeavy old r (emit (tree.mark q) (state_of old))
mark_heavy old r p q e h = piece_heavy old r _ _ (ap (λ (x : Point). tree.mark x) e) h
