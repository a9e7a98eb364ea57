-- Shapes whose parts are settled are settled.
use Rattle.std.proofs.Common.{◌≡◌, ◌∙◌, ℕ, Bool, true, Option, Some, None, Box, Vec, Global, map, ap, sym}
use Rattle.std.specs.Option.{option_map}
use Rattle.hls_base.specs.declared.point.Point.{Point}
use Rattle.ir_core.specs.declared.body.Body.{Body}
use Rattle.ir_core.specs.declared.stamp.Untimed.{Untimed}
use Rattle.ir_core.specs.declared.tree.BasicBlock.{BasicBlock}
use Rattle.ir_core.specs.declared.tree.LandId.{LandId}
use Rattle.ir_core.specs.declared.tree.Part.{Part}
use Rattle.ir_core.specs.declared.tree.Sequence.{Sequence, roll-Sequence}
use Rattle.ir_core.specs.declared.tree.Shape.TheVariants as v
use Rattle.ir_core.specs.declared.tree.Shape.TheOpen.{Shape-F}
use Rattle.ir_core.specs.declared.tree.Shape.TheFolds.{fold-roll-Shape, fold-roll-Sequence, fold_out-Part}
use Rattle.value_number.specs.declared.boxes.SplitShape.TheVariants as split
use Rattle.value_number.specs.Boxes.{shape_from}
use Rattle.value_number.specs.Settled.{all_true, where_there, is_block_settled, is_sequence_settled, is_part_settled, is_shape_settled, shape_step, part_step, sequence_step}
use Rattle.value_number.proofs.Adding.{both_hold}

pub fork_settled : (left right : Option (Box Sequence Global)) (convertible : Bool)
    → where_there (option_map (λ part. is_sequence_settled part.value) left) ≡ true → where_there (option_map (λ part. is_sequence_settled part.value) right) ≡ true
    → is_shape_settled (shape_from (split.Fork left right convertible)) ≡ true
fork_settled None None convertible e h = ap is_shape_settled (sym (v.rolls-Fork None None convertible)) ∙ fold-roll-Shape Bool Bool Bool shape_step part_step sequence_step (Shape-F.Fork None None convertible) ∙ both_hold _ _ e h
fork_settled None (Some r) convertible e h = ap is_shape_settled (sym (v.rolls-Fork None (Some r.value) convertible)) ∙ fold-roll-Shape Bool Bool Bool shape_step part_step sequence_step (Shape-F.Fork None (Some r.value) convertible) ∙ both_hold _ _ e h
fork_settled (Some l) None convertible e h = ap is_shape_settled (sym (v.rolls-Fork (Some l.value) None convertible)) ∙ fold-roll-Shape Bool Bool Bool shape_step part_step sequence_step (Shape-F.Fork (Some l.value) None convertible) ∙ both_hold _ _ e h
fork_settled (Some l) (Some r) convertible e h = ap is_shape_settled (sym (v.rolls-Fork (Some l.value) (Some r.value) convertible)) ∙ fold-roll-Shape Bool Bool Bool shape_step part_step sequence_step (Shape-F.Fork (Some l.value) (Some r.value) convertible) ∙ both_hold _ _ e h

pub loop_settled : (post : Bool) (test body : Box Sequence Global) (step : Option (Box Sequence Global)) (eligible : Bool)
    → is_sequence_settled test.value ≡ true → is_sequence_settled body.value ≡ true → where_there (option_map (λ part. is_sequence_settled part.value) step) ≡ true
    → is_shape_settled (shape_from (split.Loop post test body step eligible)) ≡ true
loop_settled post test body None eligible e h k =
    ap is_shape_settled (sym (v.rolls-Loop post test body None eligible)) ∙ fold-roll-Shape Bool Bool Bool shape_step part_step sequence_step (Shape-F.Loop post test body None eligible) ∙ both_hold _ _ e (both_hold _ _ h k)
loop_settled post test body (Some step) eligible e h k =
    ap is_shape_settled (sym (v.rolls-Loop post test body (Some step) eligible)) ∙ fold-roll-Shape Bool Bool Bool shape_step part_step sequence_step (Shape-F.Loop post test body (Some step) eligible) ∙ both_hold _ _ e (both_hold _ _ h k)

pub switch_settled : (dead : Vec Part Global) (targets : Vec ℕ Global) (other : Option ℕ) (arms : Vec Sequence Global)
    → all_true (map is_part_settled dead.items) ≡ true → all_true (map is_sequence_settled arms.items) ≡ true → is_shape_settled (shape_from (split.Choose dead targets other arms)) ≡ true
switch_settled dead targets other arms e h = ap is_shape_settled (sym (v.rolls-Choose dead targets other arms)) ∙ fold-roll-Shape Bool Bool Bool shape_step part_step sequence_step (Shape-F.Choose dead targets other arms) ∙ both_hold _ _ e h

pub land_settled : (number : LandId) → is_shape_settled (shape_from (split.Land number)) ≡ true
land_settled number = ap is_shape_settled (sym (v.rolls-Land number)) ∙ fold-roll-Shape Bool Bool Bool shape_step part_step sequence_step (Shape-F.Land number)

pub overlapped_settled : (point : Box Point Global) (body : Box (Body Untimed) Global) → is_shape_settled (shape_from (split.Overlapped point body)) ≡ true
overlapped_settled point body = ap is_shape_settled (sym (v.rolls-Overlapped point.value body.value)) ∙ fold-roll-Shape Bool Bool Bool shape_step part_step sequence_step (Shape-F.Overlapped point.value body.value)

pub sequence_settled : (first : BasicBlock) (rest : Vec Part Global) → is_block_settled first ≡ true → all_true (map is_part_settled rest.items) ≡ true → is_sequence_settled (roll-Sequence (record { first = first; rest = rest })) ≡ true
sequence_settled first rest e h = fold-roll-Sequence Bool Bool Bool shape_step part_step sequence_step (record { first = first; rest = rest }) ∙ both_hold _ _ e h

pub part_settled : (p : Part) → is_shape_settled p.shape ≡ true → is_block_settled p.after ≡ true → is_part_settled p ≡ true
part_settled p e h = fold_out-Part Bool Bool Bool shape_step part_step sequence_step p ∙ both_hold _ _ e h
