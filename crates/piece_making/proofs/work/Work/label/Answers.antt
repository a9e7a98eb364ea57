use Rattle.std.proofs.Common.{refl, arith, ap, ◌∙◌, ◌≡◌, ℕ, [], ◌∷◌, ◌++◌, length, map}
use Rattle.piece_making.proofs.Making.{labelled, too_heavy_label, as_many}
use Rattle.piece_making.proofs.Exits.{refused_as}
use Rattle.pieces.specs.declared.piece.Label.{Label}
use Rattle.pieces.specs.View.{piece_of}
use Rattle.piece_making.proofs.work.Work.label.Goals as goal

pub returns-in_default-clause-refused : goal.returns-in_default-clause-refused
returns-in_default-clause-refused c = refused_as (Unit {0}) _ _ _ c.too_heavy.ensures (too_heavy_label _ _ (omega arith))

pub returns-clause-made : goal.returns-clause-made
returns-clause-made c = let n : c.in_ok-target.target ≡ length (map piece_of c.args.self.now.out.items) = omega (arith, as_many piece_of c.args.self.now.out.items) in labelled _ _ _ refl (c.in_ok-push.ensures.items ∙ ap (λ (m : ℕ). let one : Label = record { value = c.args.value; target = m } in c.args.self.now.labels.items ++ one ∷ []) n) (omega arith) (record { at = refl; variables = refl; arrays = refl; slots = refl; calls = refl; loops = refl })
