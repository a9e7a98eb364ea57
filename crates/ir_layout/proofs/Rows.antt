-- A row of blocks with one more shape and the block behind it.
use Rattle.std.proofs.Common.{◌≡◌, ◌∙◌, ◌++◌, List, [], ◌∷◌, map, ap, sym}
use Rattle.std.proofs.lemmas.List.{append_assoc}
use Rattle.hls_base.specs.declared.point.Point.{Point}
use Rattle.ir_core.specs.declared.tree.Part.{Part}
use Rattle.ir_core.specs.declared.tree.Shape.TheFolds.{fold_out-Part}
use Rattle.ir_core.specs.Points.{Points, joined, part_points, shape_points, shape_step, part_step, sequence_step}
use Rattle.ir_core.proofs.Joining.{joined_map_more}

part_parts : (p : Part) → part_points p ≡ shape_points p.shape ++ p.after.point ∷ []
part_parts p = fold_out-Part Points Points Points shape_step part_step sequence_step p

joined_part : (parts : List Part) (p : Part) → joined (map part_points (parts ++ p ∷ [])) ≡ joined (map part_points parts) ++ (shape_points p.shape ++ p.after.point ∷ [])
joined_part parts p = joined_map_more part_points parts p ∙ ap (λ points. joined (map part_points parts) ++ points) (part_parts p)

longer : (n n1 n2 b i f j s : Points) (p : Point) → n ++ b ≡ i ++ (f ++ j) → n1 ≡ n ++ b → n2 ≡ n1 ++ s
    → n2 ++ p ∷ [] ≡ i ++ (f ++ (j ++ (s ++ p ∷ [])))
longer n n1 n2 b i f j s p before e1 e2 =
    ap (λ x. x ++ p ∷ []) e2
    ∙ append_assoc n1 s (p ∷ [])
    ∙ ap (λ x. x ++ (s ++ p ∷ [])) (e1 ∙ before)
    ∙ append_assoc i (f ++ j) (s ++ p ∷ [])
    ∙ ap (λ x. i ++ x) (append_assoc f j (s ++ p ∷ []))

-- the nodes so far, with the block that is not yet among them, are those of the parts that were gone through
pub one_more : (n n1 n2 b i f : Points) (parts : List Part) (p : Part) → n ++ b ≡ i ++ (f ++ joined (map part_points parts)) → n1 ≡ n ++ b → n2 ≡ n1 ++ shape_points p.shape
    → n2 ++ p.after.point ∷ [] ≡ i ++ (f ++ joined (map part_points (parts ++ p ∷ [])))
one_more n n1 n2 b i f parts p before e1 e2 =
    longer n n1 n2 b i f (joined (map part_points parts)) (shape_points p.shape) p.after.point before e1 e2
    ∙ ap (λ x. i ++ (f ++ x)) (sym (joined_part parts p))
