use Rattle.std.proofs.Common.{rules, ◌≡◌, false}
use Rattle.pieces.specs.Resolved.CoreView.{core_object_of}
use Rattle.piece_making.proofs.Parts.{made_behind, nothing_made}
use Rattle.c_expand.specs.Expansion.{is_array}
use Rattle.c_expand.proofs.Leading.{second_made}
use Rattle.c_expand.proofs.expand.parameter.Goals as goal

pub returns-in_ok-fresh : goal.returns-in_ok-fresh
returns-in_ok-fresh c =
    let e : is_array (core_object_of c.args.object.now) ≡ false = search rules in
    second_made _ _ _ _ _ _ e (made_behind _ _ _ _ _ _ _ c.in_ok-fresh.ensures (nothing_made _ _))
