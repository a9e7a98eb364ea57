-- Loops that are overlapped have results of their own for what they set.
use Rattle.std.proofs.Common.{◌≡◌, ℕ, Bool, true, false, not, refl, ap, sym, List, [], ◌∷◌}
use Rattle.std.specs.Prelude.{◌≢◌, ◌==◌}
use Rattle.std.specs.List.{list_all}
use Rattle.std.proofs.lemmas.Bool.{and_from, eqb-true, or_from}
use Rattle.ir_core.specs.declared.body.Out.{Out}
use Rattle.ir_core.specs.declared.body.Source.{Source}
use Rattle.ir_core.specs.declared.body.Source.TheVariants as source
use Rattle.ir_core.specs.Bodies.{Shapes}
use Rattle.ir_core.specs.Trees.{BlockTree, BodyTree, SequenceTree, sequence, PartTrees, no_part, more_parts, ShapeTree, fork, loop, switch, land, overlapped, SideTree, no_side, side, ArmTrees, no_arm, more_arms}
use Rattle.clock_runs.specs.Premises.{Each, NamesResult, AreApart}
use Rattle.sound_trees.specs.Trees as sound
use Rattle.sound_trees.specs.Loops.{BodyIsSound}
use Rattle.program_validity.specs.Bodies.{names_result, is_result, is_result_out, is_named_again, name_different}
use Rattle.valid_trees.specs.Bodies.{BodyOverlaps}
use Rattle.valid_trees.specs.Trees as valid

-- ---- bodies

results_named : (n : ℕ) (outs : List Out) → Each (NamesResult n) outs → list_all is_result_out outs ≡ true
results_named n [] h = refl
results_named n (x ∷ xs) h = and_from _ _ (ap is_result h.0.1.0) (results_named n xs h.1)

named_apart : (s t : Source) → (s ≢ t) → names_result s t ≡ false
named_apart (source.Result j) (source.Result k) differ = by (j.0 == k.0) refl where
  by : (c : Bool) → (j.0 == k.0) ≡ c → c ≡ false
  by false e = refl
  by true e = absurd (differ (ap (λ n. source.Result (record { 0 = n })) (eqb-true j.0 k.0 e)))
named_apart (source.Result j) (source.Constant c) differ = refl
named_apart (source.Result j) (source.Variable v) differ = refl
named_apart (source.Constant c) t differ = refl
named_apart (source.Variable v) t differ = refl

not_again : (x : Out) (xs : List Out) → Each (λ (y : Out). (y.variable.0 ≢ x.variable.0) × (y.value.value ≢ x.value.value)) xs → is_named_again x xs ≡ false
not_again x [] h = refl
not_again x (y ∷ ys) h = or_from _ _ (named_apart x.value.value y.value.value (λ e. h.0.1 (sym e))) (not_again x ys h.1)

all_differ : (outs : List Out) → AreApart outs → name_different outs ≡ true
all_differ [] h = refl
all_differ (x ∷ xs) h = and_from _ _ (ap not (not_again x xs h.0)) (all_differ xs h.1)

pub sound_overlaps : (shapes : Shapes) (b : BodyTree) → BodyIsSound shapes b → BodyOverlaps b
sound_overlaps shapes b h = record { results = results_named _ b.outs h.outs; different = all_differ b.outs h.apart; stores = h.stores }

-- ---- trees

module _ (B : BlockTree → Type 0) (O : BodyTree → Type 0) where
  abbrev Whatever : BlockTree → Type 0
  Whatever b = Unit {0}

  abbrev Tests : SequenceTree → SequenceTree → Type 0
  Tests t b = Unit {0}

  mutual
    pub sequence_overlaps : (s : SequenceTree) → sound.SequenceHas B Tests O s → valid.SequenceHas Whatever O s
    sequence_overlaps (sequence first rest) h = (tt, parts_overlap rest h.1)

    parts_overlap : (p : PartTrees) → sound.PartsHave B Tests O p → valid.PartsHave Whatever O p
    parts_overlap no_part h = tt
    parts_overlap (more_parts shape after rest) h = (shape_overlaps shape h.0, tt, parts_overlap rest h.2)

    shape_overlaps : (shape : ShapeTree) → sound.ShapeHas B Tests O shape → valid.ShapeHas Whatever O shape
    shape_overlaps (fork yes_ no_ convertible) h = (side_overlaps yes_ h.0, side_overlaps no_ h.1)
    shape_overlaps (loop post test body step eligible) h = (sequence_overlaps test h.0, sequence_overlaps body h.1, side_overlaps step h.2)
    shape_overlaps (switch dead targets other arms) h = (parts_overlap dead h.0, arms_overlap arms h.1)
    shape_overlaps (land number) h = tt
    shape_overlaps (overlapped point body) h = h

    side_overlaps : (s : SideTree) → sound.SideHas B Tests O s → valid.SideHas Whatever O s
    side_overlaps no_side h = tt
    side_overlaps (side blocks) h = sequence_overlaps blocks h

    arms_overlap : (p : ArmTrees) → sound.ArmsHave B Tests O p → valid.ArmsHave Whatever O p
    arms_overlap no_arm h = tt
    arms_overlap (more_arms first rest) h = (sequence_overlaps first h.0, arms_overlap rest h.1)
