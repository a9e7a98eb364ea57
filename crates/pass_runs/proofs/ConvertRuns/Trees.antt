-- What holds of blocks that are merged, holds of the tree.
use Rattle.std.proofs.Common.{◌≡◌, ◌∙◌, ℕ, zero, suc, ◌+◌, Bool, true, false, ◌&&◌, not, refl, ap, sym, subst, arith, List, [], ◌∷◌, ◌++◌, Option, Some, None}
use Rattle.std.specs.Prelude.{◌==◌, if◌then◌else◌, is_some, take}
use Rattle.hls_base.specs.declared.point.Point.{Point}
use Rattle.ir_core.specs.declared.body.Operand.{Operand}
use Rattle.hls_base.specs.Steps.{Outcome, went, undefined, waiting, Ran, ran, goes, after, then_, pass, reached}
use Rattle.hls_base.specs.Valued.{Valued, is, faulty, valued}
use Rattle.ir_core.specs.Bodies.{Shapes, Words, Ranged, operations}
use Rattle.ir_core.specs.Trees.{ExitTree, next, branch, BlockTree, SequenceTree, sequence, PartTrees, no_part, more_parts, ShapeTree, fork, loop, switch, land, overlapped, SideTree, no_side, side, ArmTrees, no_arm, more_arms}
use Rattle.ir_core.specs.TreeRuns.{Way, on, taken, cased, broke, continued, left, Turn, again, over, out, turn_of, turned, if_again, repeat, way_behind, is_taken, test_first, test_last, iteration, iterated, tested, goes_round, overlapped_run, arm_target, behind_switch, cases_of, block_run, block_then, behind_shape, next_arm, from_target, sequence_run, parts_run, shape_run, side_run, from_arm}
use Rattle.passes.specs.Conversion.Merging as m
use Rattle.passes.specs.Conversion.Merging.{Branches, branches_of, opened, merged, joined, is_only, is_only_side, first_block, first_of}
use Rattle.passes.specs.Conversion.Overlapping as v
use Rattle.passes.specs.Conversion.Overlapping.{is_test, overlapped_test, overlapping, loop_by}
use Rattle.passes.specs.Conversion.{Scope, going_on, part_before, behind, converted_sequence, converted_behind, converted_shape, converted_side, converted_arms}
use Rattle.pass_runs.specs.ConvertRuns.Kept.{Matches, IsKept, IsKeptOf}
use Rattle.pass_runs.specs.ConvertRuns.Typed.{EndsPlain, BlockIsTyped, SequenceIsTyped, PartsAreTyped, ShapeIsTyped, SideIsTyped, ArmsAreTyped, Fits}
use Rattle.pass_runs.specs.ConvertRuns.Points.{loop_test, Keeps, BehindKeeps, ShapeKeeps, SideKeeps, ArmsKeep}
use Rattle.pass_runs.proofs.ConvertRuns.Sims.{Sim, With, then_sim, goes_sim, kept_sim, dropped_sim, same_sim, weaker_sim, then_assoc}
use Rattle.pass_runs.proofs.ConvertRuns.Looping.{Passes, Steps, passes_more, reached_passes, passes_steps, repeat_sim}
use Rattle.pass_runs.specs.ConvertRuns.Blocks.{IsOpen, BranchIsTyped, naked, part_or_on, branch_part, turn_of_blocks}
use Rattle.pass_runs.proofs.ConvertRuns.Naked.{naked_on, naked_run, run_reached, alone_same, Leaves, Plain, Ends, leaves_plain, ends_renamed, leaves_renamed}
use Rattle.pass_runs.proofs.ConvertRuns.Finding.{fork_found, no_fork_found, loop_is_no_fork, IsNoLand, loop_is_no_land, passes_by, only_alone, IsOverlapped, overlapped_found}

-- ---- more on parts that do the same

module _ (kept : Point → Bool) (P : Words → Type 0) where
  -- of the values that the second part has
  known_by : {A : Type 0} (K L : A → Type 0) (f g : Words → ℕ → Ran Words A) → ((s : Words) (n : ℕ) (tr : List Point) (v : A) (t : Words) (k : ℕ) → g s n ≡ ran tr (went v t k) → L v) → Sim kept P K f g → Sim kept P L f g
  known_by {A} K L f g h m = record {
    forth = λ s e n. by (f s n).trace (f s n).outcome s (m.forth s e n);
    back = λ s e n. by_back s n (g s n).trace (g s n).outcome refl (m.back s e n);
  } where
    by : (tr : List Point) (o : Outcome Words A) (s : Words) → Matches (IsKept kept) (With kept P K) tr o (g s) → Matches (IsKept kept) (With kept P L) tr o (g s)
    by tr (went v t k) s q = ((h s _ q.1 v t 0 (q.3 0), q.0.1), q.1, q.2, q.3)
    by tr (undefined rule at) s q = q
    by tr waiting s q = q

    by_back : (s : Words) (n : ℕ) (tr : List Point) (o : Outcome Words A) → g s n ≡ ran tr o → Matches (IsKeptOf kept) (With kept P K) tr o (f s) → Matches (IsKeptOf kept) (With kept P L) tr o (f s)
    by_back s n tr (went v t k) e q = ((h s n tr v t k e, q.0.1), q.1, q.2, q.3)
    by_back s n tr (undefined rule at) e q = q
    by_back s n tr waiting e q = q

  -- what goes on behind a part counts for its values alone
  then_known : {A B : Type 0} (K : A → Type 0) (f g : Words → ℕ → Ran Words A) (p q : A → Words → ℕ → Ran Words B) → Sim kept P K f g → ((v : A) → K v → (t : Words) → P t → (n : ℕ) → p v t n ≡ q v t n)
      → (s : Words) → P s → (n : ℕ) → then_ (f s n) p ≡ then_ (f s n) q
  then_known {A} K f g p q m h s e n = by (f s n).trace (f s n).outcome (m.forth s e n) where
    by : (tr : List Point) (o : Outcome Words A) → Matches (IsKept kept) (With kept P K) tr o (g s) → then_ (ran tr o) p ≡ then_ (ran tr o) q
    by tr (went v t k) z = ap (λ (x : Ran Words _). ran (tr ++ x.trace) x.outcome) (h v z.0.0 t z.0.1 k)
    by tr (undefined rule at) z = refl
    by tr waiting z = refl

  -- the same from fit stores
  fit_sim : {A : Type 0} (K : A → Type 0) (f g p q : Words → ℕ → Ran Words A) → ((s : Words) → P s → (n : ℕ) → f s n ≡ p s n) → ((s : Words) → P s → (n : ℕ) → g s n ≡ q s n) → Sim kept P K f g → Sim kept P K p q
  fit_sim {A} K f g p q e h m = record {
    forth = λ s z n. subst (λ (x : Ran Words A). Matches (IsKept kept) (With kept P K) x.trace x.outcome (q s)) (e s z n) (subst (λ (r : ℕ → Ran Words A). Matches (IsKept kept) (With kept P K) (f s n).trace (f s n).outcome r) (λ i j. h s z j i) (m.forth s z n));
    back = λ s z n. subst (λ (x : Ran Words A). Matches (IsKeptOf kept) (With kept P K) x.trace x.outcome (p s)) (h s z n) (subst (λ (r : ℕ → Ran Words A). Matches (IsKeptOf kept) (With kept P K) (g s n).trace (g s n).outcome r) (λ i j. e s z j i) (m.back s z n));
  }

-- ---- cases

by_option : {A : Type 0} (Q : Option A → Type 0) (x : Option A) → (x ≡ None → Q None) → ((g : A) → x ≡ Some g → Q (Some g)) → Q x
by_option Q None n s = n refl
by_option Q (Some g) n s = s g refl

by_bool : (Q : Bool → Type 0) (x : Bool) → (x ≡ true → Q true) → (x ≡ false → Q false) → Q x
by_bool Q true t f = t refl
by_bool Q false t f = f refl

-- ---- blocks that are merged

-- what is known of single blocks
pub record Blocks (shapes : Shapes) (words : List ℕ) (kept : Point → Bool) : Type 0 where
  pub opened_typed : (b : BlockTree) → BlockIsTyped shapes.widths words b → IsOpen shapes.widths words (opened b)
  pub merged_typed : (b after : BlockTree) (f : Branches) → IsOpen shapes.widths words b → b.exit ≡ branch f.test → BranchIsTyped shapes.widths words f.yes_ → BranchIsTyped shapes.widths words f.no_
      → BlockIsTyped shapes.widths words after → IsOpen shapes.widths words (joined shapes.widths (merged shapes.widths b f) after)
  pub fits : (b : BlockTree) → BlockIsTyped shapes.widths words b → Sim kept (Fits shapes.widths words) (Leaves b.exit) (naked shapes b) (naked shapes b)
  pub opened_same : (b : BlockTree) → BlockIsTyped shapes.widths words b → (t : Words) (n : ℕ) → naked shapes b t n ≡ naked shapes (opened b) t n
  pub merged_same : (b after : BlockTree) (f : Branches) → IsOpen shapes.widths words b → b.exit ≡ branch f.test → BranchIsTyped shapes.widths words f.yes_ → BranchIsTyped shapes.widths words f.no_
      → BlockIsTyped shapes.widths words after → (t : Words) → Fits shapes.widths words t → (n : ℕ)
      → then_ (naked shapes b t n) (λ w t1 n1. then_ (branch_part shapes f w t1 n1) (λ w2 t2 n2. naked shapes after t2 n2)) ≡ naked shapes (joined shapes.widths (merged shapes.widths b f) after) t n
  pub round_same : (head body : BlockTree) (test : Operand) → BlockIsTyped shapes.widths words head → BlockIsTyped shapes.widths words body → head.exit ≡ branch test → is_test head test ≡ true → body.exit ≡ next → (point : Point)
      → (t : Words) → Fits shapes.widths words t → (n : ℕ)
      → turn_of_blocks shapes head body point t n
      ≡ iteration shapes point (v.iteration test (joined shapes.widths (opened head) body)) t n

module _ (shapes : Shapes) (words : List ℕ) (kept : Point → Bool) (loops : Bool) (blocks : Blocks shapes words kept) where
  abbrev P : Words → Type 0
  P = Fits shapes.widths words

  abbrev Typed : BlockTree → Type 0
  Typed = BlockIsTyped shapes.widths words

  abbrev Open_ : BlockTree → Type 0
  Open_ = IsOpen shapes.widths words

  abbrev scope : Scope
  scope = record { widths = shapes.widths; loops = loops }

  abbrev Part : Type 0
  Part = Words → ℕ → Ran Words Way

  abbrev S : (Way → Type 0) → Part → Part → Type 0
  S K f g = Sim kept P K f g

  -- ---- the first block of what is converted

  selections_point : (test : Operand) (b : BlockTree) (cs : List _) → (m.with_selections shapes.widths test b cs).point ≡ b.point
  selections_point test b [] = refl
  selections_point test b (c ∷ cs) = selections_point test (m.with_selection shapes.widths test b c) cs

  going_point : (b after : BlockTree) (f : Branches) → (joined shapes.widths (merged shapes.widths b f) after).point ≡ b.point
  going_point b after f =
      let y = m.branched shapes.widths b.ops b.outs (Some f.test) (m.is_taken f.test) f.yes_ in
      let n = m.branched shapes.widths y.ops b.outs (Some f.test) [] f.no_ in
      selections_point f.test (record b { ops = n.ops }) (m.choices b.outs y.outs n.outs)

  by_found : (b after : BlockTree) (s : ShapeTree) (x : Option Branches) (rest : PartTrees)
      → ((c : BlockTree) → (first_of (converted_behind scope c rest)).point ≡ c.point)
      → (first_of (behind b s x (converted_behind scope (going_on shapes.widths b x after) rest))).point ≡ b.point
  by_found b after s None rest h = refl
  by_found b after s (Some f) rest h = h (joined shapes.widths (merged shapes.widths b f) after) ∙ going_point b after f

  first_point : (rest : PartTrees) (b : BlockTree) → (first_of (converted_behind scope b rest)).point ≡ b.point
  first_point no_part b = refl
  first_point (more_parts shape after rest) b = by_found b after (converted_shape scope shape) (branches_of b.exit (converted_shape scope shape)) rest (first_point rest)

  -- ---- what is converted is typed

  mutual
    first_typed : (s : SequenceTree) → SequenceIsTyped shapes.widths words s → Open_ (first_of (converted_sequence scope s))
    first_typed (sequence first rest) h = behind_typed rest (opened first) (blocks.opened_typed first h.0) h.1

    behind_typed : (rest : PartTrees) (b : BlockTree) → Open_ b → PartsAreTyped shapes.widths words rest → Open_ (first_of (converted_behind scope b rest))
    behind_typed no_part b h k = h
    behind_typed (more_parts shape after rest) b h k =
        by_option (λ x. Open_ (first_of (behind b (converted_shape scope shape) x (converted_behind scope (going_on shapes.widths b x after) rest)))) (branches_of b.exit (converted_shape scope shape)) (λ e. h)
        (λ f e. behind_typed rest (joined shapes.widths (merged shapes.widths b f) after) (going_typed shape b after f h k.0 k.1 e) k.2)

    going_typed : (shape : ShapeTree) (b after : BlockTree) (f : Branches) → Open_ b → ShapeIsTyped shapes.widths words shape → Typed after → branches_of b.exit (converted_shape scope shape) ≡ Some f
        → Open_ (joined shapes.widths (merged shapes.widths b f) after)
    going_typed (fork yes_ no_ c) b after f h k a e =
        let i = fork_found b.exit (converted_side scope yes_) (converted_side scope no_) c f e in
        blocks.merged_typed b after f h i.exit_ (subst (BranchIsTyped shapes.widths words) (sym i.yes_same) (side_typed yes_ k.0 i.only_yes)) (subst (BranchIsTyped shapes.widths words) (sym i.no_same) (side_typed no_ k.1 i.only_no)) a
    going_typed (loop post test body step eligible) b after f h k a e =
        absurd (no_fork_found b.exit _ f (loop_is_no_fork shapes.widths (loop_test scope post test body step eligible) post (converted_sequence scope test) (converted_sequence scope body) (converted_side scope step)) e)
    going_typed (switch dead targets other arms) b after f h k a e = absurd (no_fork_found b.exit _ f tt e)
    going_typed (land number) b after f h k a e = absurd (no_fork_found b.exit _ f tt e)
    going_typed (overlapped point body) b after f h k a e = absurd k

    side_typed : (s : SideTree) → SideIsTyped shapes.widths words s → is_only_side (converted_side scope s) ≡ true → BranchIsTyped shapes.widths words (first_block (converted_side scope s))
    side_typed no_side h e = tt
    side_typed (side blocks_) h e = ((first_typed blocks_ h.0).typed, (only_alone (converted_sequence scope blocks_) e).1)

  -- ---- sequences and rows

  abbrev rest_of : SequenceTree → PartTrees
  rest_of (sequence first rest) = rest

  seq_sim : (E : Way → Type 0) (s q : SequenceTree) → (first_of q).point ≡ (first_of s).point → kept (first_of s).point ≡ true → S E (naked_run shapes s) (naked_run shapes q) → S E (sequence_run shapes s) (sequence_run shapes q)
  seq_sim E s q e k h =
      same_sim kept P (λ t n. sym (run_reached shapes s t n)) (λ t n. ap (λ p. reached p (naked_run shapes q) t n) (sym e) ∙ sym (run_reached shapes q t n)) (kept_sim kept P (first_of s).point k h)

  abbrev SameLand : ShapeTree → ShapeTree → Type 0
  SameLand (land number) q = q ≡ land number
  SameLand shape q = IsNoLand q

  stops : (rest : PartTrees) (t : Words) (n : ℕ) → (parts_run shapes rest broke t n ≡ goes broke t n) × (parts_run shapes rest continued t n ≡ goes continued t n)
  stops no_part t n = (refl, refl)
  stops (more_parts shape after rest) t n = (refl, refl)

  module _ (shape shape' : ShapeTree) (after : BlockTree) (rest : PartTrees) (first : BlockTree) (rest' : PartTrees) (same : SameLand shape shape') (E : Way → Type 0) (plain : (w : Way) → Plain w → E w)
      (inside : (w : Way) → S Plain (shape_run shapes shape w) (shape_run shapes shape' w)) (next_ : S E (sequence_run shapes (sequence after rest)) (sequence_run shapes (sequence first rest')))
      (skip : (number : _) → S E (parts_run shapes rest (left number)) (parts_run shapes rest' (left number))) where
    behind_row : (w : Way) → Plain w → S E (behind_shape shapes after (λ w1 t1 n1. parts_run shapes rest w1 t1 n1) w) (behind_shape shapes first (λ w1 t1 n1. parts_run shapes rest' w1 t1 n1) w)
    behind_row on h = next_
    behind_row (taken t) h = absurd h
    behind_row (cased c) h = absurd h
    behind_row broke h = same_sim kept P (λ t n. sym (stops rest t n).0) (λ t n. sym (stops rest' t n).0) (goes_sim kept P broke (plain broke tt))
    behind_row continued h = same_sim kept P (λ t n. sym (stops rest t n).1) (λ t n. sym (stops rest' t n).1) (goes_sim kept P continued (plain continued tt))
    behind_row (left number) h = skip number

    by_place : (b : Bool) (number : _)
        → S E (λ t n. if b then block_then shapes after (λ w1 t1 n1. parts_run shapes rest w1 t1 n1) t n else parts_run shapes rest (left number) t n)
        (λ t n. if b then block_then shapes first (λ w1 t1 n1. parts_run shapes rest' w1 t1 n1) t n else parts_run shapes rest' (left number) t n)
    by_place true number = next_
    by_place false number = skip number

    passing : IsNoLand shape → IsNoLand shape' → (number : _) → S E (parts_run shapes (more_parts shape after rest) (left number)) (parts_run shapes (more_parts shape' first rest') (left number))
    passing k h number = same_sim kept P (λ t n. sym (passes_by shapes shape k after rest number t n)) (λ t n. sym (passes_by shapes shape' h first rest' number t n)) (skip number)

  row_left : (shape shape' : ShapeTree) (after : BlockTree) (rest : PartTrees) (first : BlockTree) (rest' : PartTrees) (same : SameLand shape shape') (E : Way → Type 0) (plain : (w : Way) → Plain w → E w)
      → ((w : Way) → S Plain (shape_run shapes shape w) (shape_run shapes shape' w)) → S E (sequence_run shapes (sequence after rest)) (sequence_run shapes (sequence first rest'))
      → ((number : _) → S E (parts_run shapes rest (left number)) (parts_run shapes rest' (left number)))
      → (number : _) → S E (parts_run shapes (more_parts shape after rest) (left number)) (parts_run shapes (more_parts shape' first rest') (left number))
  row_left (land other) shape' after rest first rest' same E plain i n s number =
      subst (λ x. S E (parts_run shapes (more_parts (land other) after rest) (left number)) (parts_run shapes (more_parts x first rest') (left number))) (sym same)
      (by_place (land other) (land other) after rest first rest' refl E plain (λ w. goes_sim kept P on tt) n s (number.0 == other.0) number)
  row_left (fork yes_ no_ c) shape' after rest first rest' same E plain i n s number = passing (fork yes_ no_ c) shape' after rest first rest' same E plain i n s tt same number
  row_left (loop post t b st e) shape' after rest first rest' same E plain i n s number = passing (loop post t b st e) shape' after rest first rest' same E plain i n s tt same number
  row_left (switch dead targets o arms) shape' after rest first rest' same E plain i n s number = passing (switch dead targets o arms) shape' after rest first rest' same E plain i n s tt same number
  row_left (overlapped point body) shape' after rest first rest' same E plain i n s number = passing (overlapped point body) shape' after rest first rest' same E plain i n s tt same number

  row_sim : (shape shape' : ShapeTree) (after : BlockTree) (rest : PartTrees) (q : SequenceTree) (same : SameLand shape shape') (E : Way → Type 0) (plain : (w : Way) → Plain w → E w)
      → ((w : Way) → S Plain (shape_run shapes shape w) (shape_run shapes shape' w)) → S E (sequence_run shapes (sequence after rest)) (sequence_run shapes q)
      → ((number : _) → S E (parts_run shapes rest (left number)) (parts_run shapes (rest_of q) (left number)))
      → (w : Way) → S E (parts_run shapes (more_parts shape after rest) w) (parts_run shapes (part_before shape' q) w)
  row_sim shape shape' after rest (sequence first rest') same E plain i n s on = then_sim kept P (i on) (behind_row shape shape' after rest first rest' same E plain i n s)
  row_sim shape shape' after rest (sequence first rest') same E plain i n s (taken t) = then_sim kept P (i (taken t)) (behind_row shape shape' after rest first rest' same E plain i n s)
  row_sim shape shape' after rest (sequence first rest') same E plain i n s (cased c) = then_sim kept P (i (cased c)) (behind_row shape shape' after rest first rest' same E plain i n s)
  row_sim shape shape' after rest (sequence first rest') same E plain i n s broke = goes_sim kept P broke (plain broke tt)
  row_sim shape shape' after rest (sequence first rest') same E plain i n s continued = goes_sim kept P continued (plain continued tt)
  row_sim shape shape' after rest (sequence first rest') same E plain i n s (left number) = row_left shape shape' after rest first rest' same E plain i n s number

  same_land : (shape : ShapeTree) → SameLand shape (converted_shape scope shape)
  same_land (fork yes_ no_ c) = tt
  same_land (loop post test body step e) = loop_is_no_land shapes.widths (loop_test scope post test body step e) post (converted_sequence scope test) (converted_sequence scope body) (converted_side scope step)
  same_land (switch dead targets other arms) = tt
  same_land (land number) = refl
  same_land (overlapped point body) = tt

  found_no_land : (shape : ShapeTree) (exit : ExitTree) (f : Branches) → branches_of exit (converted_shape scope shape) ≡ Some f → IsNoLand shape
  found_no_land (fork yes_ no_ c) exit f e = tt
  found_no_land (loop post test body step el) exit f e = tt
  found_no_land (switch dead targets other arms) exit f e = tt
  found_no_land (land number) exit f e = no_fork_found exit (land number) f tt e
  found_no_land (overlapped point body) exit f e = tt

  -- ---- forks that are merged

  side_alone : (o : Option BlockTree) (blocks_ : SequenceTree) (q : SequenceTree) → (E : Way → Type 0) → S E (naked_run shapes blocks_) (naked_run shapes q) → kept (first_of blocks_).point ≡ false → is_only q ≡ true → o ≡ Some (first_of q)
      → S (λ w. w ≡ on) (sequence_run shapes blocks_) (part_or_on shapes o)
  side_alone o blocks_ q E m k h e =
      let a = only_alone q h in
      subst (λ (x : Option BlockTree). S (λ w. w ≡ on) (sequence_run shapes blocks_) (part_or_on shapes x)) (sym e)
      (known_by kept P E (λ w. w ≡ on) (sequence_run shapes blocks_) (naked shapes (first_of q)) (naked_on shapes (first_of q) a.1)
      (same_sim kept P (λ t n. sym (run_reached shapes blocks_ t n)) (λ t n. ap (λ x. naked_run shapes x t n) a.0 ∙ alone_same shapes (first_of q) t n) (dropped_sim kept P (first_of blocks_).point k m)))

  module _ (yes_ no_ : SideTree) (c : Bool) (b after : BlockTree) (rest : PartTrees) (found : Branches) (f : Part) (e : b.exit ≡ branch found.test) (m : S (Leaves b.exit) f (naked shapes b))
      (yes_sim : S (λ w. w ≡ on) (side_run shapes yes_) (part_or_on shapes found.yes_)) (no_sim : S (λ w. w ≡ on) (side_run shapes no_) (part_or_on shapes found.no_)) where
    by_way : (x : Bool) → S (λ w. w ≡ on) (λ t n. if x then side_run shapes yes_ t n else side_run shapes no_ t n) (λ t n. if x then part_or_on shapes found.yes_ t n else part_or_on shapes found.no_ t n)
    by_way true = yes_sim
    by_way false = no_sim

    fork_sim : (w : Way) → S (λ w1. w1 ≡ on) (shape_run shapes (fork yes_ no_ c) w) (branch_part shapes found w)
    fork_sim w = by_way (is_taken w)

    -- the block before, the fork, and the block behind it
    abbrev whole : Part
    whole t n = then_ (f t n) (λ w t1 n1. then_ (shape_run shapes (fork yes_ no_ c) w t1 n1) (λ w1 t2 n2. block_run shapes after t2 n2))

    whole_sim : Open_ b → BranchIsTyped shapes.widths words found.yes_ → BranchIsTyped shapes.widths words found.no_ → Typed after → kept after.point ≡ false
        → S (Leaves after.exit) whole (naked shapes (joined shapes.widths (merged shapes.widths b found) after))
    whole_sim h y z a k =
        fit_sim kept P (Leaves after.exit) whole _ whole (naked shapes (joined shapes.widths (merged shapes.widths b found) after)) (λ s p n. refl) (blocks.merged_same b after found h e y z a)
        (then_sim kept P m (λ w l. then_sim kept P (fork_sim w) (λ w1 l1. dropped_sim kept P after.point k (blocks.fits after a))))

    abbrev behind_ : Way → Words → ℕ → Ran Words Way
    behind_ w t n = parts_run shapes rest w t n

    way_goes : (w : Way) → Leaves b.exit w → (t : Words) → P t → (n : ℕ)
        → then_ (then_ (shape_run shapes (fork yes_ no_ c) w t n) (λ w1 t2 n2. block_run shapes after t2 n2)) behind_ ≡ parts_run shapes (more_parts (fork yes_ no_ c) after rest) w t n
    way_goes w l t p n = by w (subst (λ x. Leaves x w) e l) where
      by : (w : Way) → Leaves (branch found.test) w → then_ (then_ (shape_run shapes (fork yes_ no_ c) w t n) (λ w1 t2 n2. block_run shapes after t2 n2)) behind_ ≡ parts_run shapes (more_parts (fork yes_ no_ c) after rest) w t n
      by on l = absurd l
      by (taken x) l =
          then_assoc (shape_run shapes (fork yes_ no_ c) (taken x) t n) (λ w1 t2 n2. block_run shapes after t2 n2) behind_
          ∙ then_known kept P (λ w1. w1 ≡ on) (shape_run shapes (fork yes_ no_ c) (taken x)) (branch_part shapes found (taken x)) (λ w1 t2 n2. then_ (block_run shapes after t2 n2) behind_)
          (λ w1 t2 n2. behind_shape shapes after behind_ w1 t2 n2) (fork_sim (taken x)) (λ w1 o t2 p2 n2. ap (λ w2. behind_shape shapes after behind_ w2 t2 n2) (sym o)) t p n
      by (cased x) l = absurd l
      by broke l = absurd l
      by continued l = absurd l
      by (left x) l = absurd l

    whole_then : (t : Words) → P t → (n : ℕ) → then_ (whole t n) behind_ ≡ then_ (f t n) (λ w t1 n1. parts_run shapes (more_parts (fork yes_ no_ c) after rest) w t1 n1)
    whole_then t p n =
        then_assoc (f t n) (λ w t1 n1. then_ (shape_run shapes (fork yes_ no_ c) w t1 n1) (λ w1 t2 n2. block_run shapes after t2 n2)) behind_
        ∙ then_known kept P (Leaves b.exit) f (naked shapes b) (λ w t1 n1. then_ (then_ (shape_run shapes (fork yes_ no_ c) w t1 n1) (λ w1 t2 n2. block_run shapes after t2 n2)) behind_)
        (λ w t1 n1. parts_run shapes (more_parts (fork yes_ no_ c) after rest) w t1 n1) m way_goes t p n

  -- ---- loops

  abbrev Turns : Turn → Type 0
  Turns (out w) = Plain w
  Turns u = Unit {0}

  turn_plain : (w : Way) → Plain w → Turns (turn_of w)
  turn_plain on h = tt
  turn_plain (taken t) h = absurd h
  turn_plain (cased c) h = absurd h
  turn_plain broke h = tt
  turn_plain continued h = tt
  turn_plain (left number) h = tt

  way_plain : (u : Turn) → Turns u → Plain (way_behind u)
  way_plain again h = tt
  way_plain over h = tt
  way_plain (out w) h = h

  turned_sim : (f g : Part) → S Plain f g → Sim kept P Turns (turned f) (turned g)
  turned_sim f g m = then_sim kept P m (λ w h. goes_sim kept P (turn_of w) (turn_plain w h))

  if_again_sim : (u : Turn) → Turns u → (f g : Words → ℕ → Ran Words Turn) → Sim kept P Turns f g → Sim kept P Turns (if_again u f) (if_again u g)
  if_again_sim again h f g m = m
  if_again_sim over h f g m = goes_sim kept P over tt
  if_again_sim (out w) h f g m = goes_sim kept P (out w) h

  module _ (test test' body body' step step' : Part) (tests : S (λ w. Unit {0}) test test') (bodies : S Plain body body') (steps : S Plain step step') where
    taken_sim : (x : Bool) → Sim kept P Turns (λ t n. if x then then_ (turned body t n) (λ u t2 n2. if_again u (turned step) t2 n2) else goes over t n) (λ t n. if x then then_ (turned body' t n) (λ u t2 n2. if_again u (turned step') t2 n2) else goes over t n)
    taken_sim true = then_sim kept P (turned_sim body body' bodies) (λ u h. if_again_sim u h (turned step) (turned step') (turned_sim step step' steps))
    taken_sim false = goes_sim kept P over tt

    over_sim : (x : Bool) → Sim kept P Turns (goes (if x then again else over)) (goes (if x then again else over))
    over_sim true = goes_sim kept P again tt
    over_sim false = goes_sim kept P over tt

    first_sim : Sim kept P Turns (test_first test body step) (test_first test' body' step')
    first_sim = then_sim kept P tests (λ w h. taken_sim (is_taken w))

    last_sim : Sim kept P Turns (test_last test body) (test_last test' body')
    last_sim = then_sim kept P (turned_sim body body' bodies) (λ u h. if_again_sim u h _ _ (then_sim kept P tests (λ w k. over_sim (is_taken w))))

  run_passes : (s : SequenceTree) (t : Words) (n : ℕ) → Passes (sequence_run shapes s t n).trace (sequence_run shapes s t n).outcome
  run_passes s t n = subst (λ (x : Ran Words Way). Passes x.trace x.outcome) (sym (run_reached shapes s t n)) (reached_passes (first_of s).point (naked_run shapes s) t n)

  first_steps : (c : ℕ) (s : SequenceTree) (body step : Part) (t : Words) (n : ℕ) → Steps c (test_first (sequence_run shapes s) body step t n).trace (test_first (sequence_run shapes s) body step t n).outcome
  first_steps c s body step t n =
      passes_steps c _ _ (passes_more (sequence_run shapes s t n).trace (sequence_run shapes s t n).outcome (λ w t1 n1. if is_taken w then then_ (turned body t1 n1) (λ u t2 n2. if_again u (turned step) t2 n2) else goes over t1 n1) (run_passes s t n))

  last_steps : (c : ℕ) (test : Part) (s : SequenceTree) (t : Words) (n : ℕ) → Steps c (test_last test (sequence_run shapes s) t n).trace (test_last test (sequence_run shapes s) t n).outcome
  last_steps c test s t n =
      passes_steps c _ _ (passes_more (turned (sequence_run shapes s) t n).trace (turned (sequence_run shapes s) t n).outcome (λ u t1 n1. if_again u (λ t2 n2. then_ (test t2 n2) (λ w t3 n3. goes (if is_taken w then again else over) t3 n3)) t1 n1)
      (passes_more (sequence_run shapes s t n).trace (sequence_run shapes s t n).outcome (λ w t1 n1. goes (turn_of w) t1 n1) (run_passes s t n)))

  -- as many rounds as points that may be passed
  loop_sim : (round round' : Words → ℕ → Ran Words Turn) → Sim kept P Turns round round' → ((t : Words) (n : ℕ) → Steps 0 (round t n).trace (round t n).outcome) → ((t : Words) (n : ℕ) → Steps 0 (round' t n).trace (round' t n).outcome)
      → S Plain (λ t n. then_ (repeat n round t n) (λ u t1 n1. goes (way_behind u) t1 n1)) (λ t n. then_ (repeat n round' t n) (λ u t1 n1. goes (way_behind u) t1 n1))
  loop_sim round round' m h k =
      then_sim kept P (same_sim kept P (λ t n. let q : 0 + (0 + n) ≡ n = omega arith in ap (λ x. repeat x round t n) q) (λ t n. let q : 0 + (0 + n) ≡ n = omega arith in ap (λ x. repeat x round' t n) q) (repeat_sim kept P Turns 0 0 round round' m h k))
      (λ u l. goes_sim kept P (way_behind u) (way_plain u l))

  -- ---- loops that are overlapped

  reached_on : (p : Point) (b : BlockTree) → b.exit ≡ next → (t : Words) (n : ℕ) (tr : List Point) (w : Way) (u : Words) (k : ℕ) → reached p (naked shapes b) t n ≡ ran tr (went w u k) → w ≡ on
  reached_on p b e t zero tr w u k h = absurd (waits_not (ap (λ (x : Ran Words Way). x.outcome) h)) where
    waits_not : waiting ≡ went w u k → ⊥
    waits_not q = cc
  reached_on p b e t (suc n) tr w u k h = naked_on shapes b e t n (naked shapes b t n).trace w u k (ap (λ o. ran (naked shapes b t n).trace o) (ap (λ (x : Ran Words Way). x.outcome) h))

  iteration_steps : (point : Point) (body : _) (t : Words) (n : ℕ) → Steps 1 (iteration shapes point body t n).trace (iteration shapes point body t n).outcome
  iteration_steps point body t n = by (operations shapes body.ops (take (tested body.test) body.ops) [] t) where
    by_test : (r : Ranged) (x : Bool) → let q : Ran Words Turn = if x then reached point (iterated shapes body r) r.words n else goes over r.words n in Steps 1 q.trace q.outcome
    by_test r true = passes_steps 1 _ _ (reached_passes point (iterated shapes body r) r.words n)
    by_test r false = omega arith

    by : (x : Valued Ranged) → let q : Ran Words Turn = valued x (λ r t1 n1. if goes_round body.test r.words r.results then reached point (iterated shapes body r) r.words n1 else goes over r.words n1) t n in Steps 1 q.trace q.outcome
    by (is r) = by_test r (goes_round body.test r.words r.results)
    by (faulty rule at) = omega arith

  module _ (test body q r : SequenceTree) (known : Operand) (E F : Way → Type 0) (tests : S E (naked_run shapes test) (naked_run shapes q)) (bodies : S F (naked_run shapes body) (naked_run shapes r))
      (alone : q ≡ sequence (first_of q) no_part) (exit_ : (first_of q).exit ≡ branch known) (is_ : is_test (first_of q) known ≡ true) (only_body : is_only r ≡ true) (head_typed : Typed (first_of q)) (body_typed : Typed (first_of r))
      (point_same : (first_of r).point ≡ (first_of body).point) (dropped : kept (first_of test).point ≡ false) (stays : kept (first_of body).point ≡ true) where
    head_sim : S (λ w. Unit {0}) (sequence_run shapes test) (naked shapes (first_of q))
    head_sim =
        weaker_sim kept P (λ w e. tt)
        (same_sim kept P (λ t n. sym (run_reached shapes test t n)) (λ t n. ap (λ x. naked_run shapes x t n) alone ∙ alone_same shapes (first_of q) t n) (dropped_sim kept P (first_of test).point dropped tests))

    abbrev b : BlockTree
    b = first_of r

    leads : b.exit ≡ next
    leads = (only_alone r only_body).1

    body_sim : S (λ w. w ≡ on) (sequence_run shapes body) (reached b.point (naked shapes b))
    body_sim =
        known_by kept P F (λ w. w ≡ on) (sequence_run shapes body) (reached b.point (naked shapes b)) (reached_on b.point b leads)
        (same_sim kept P (λ t n. refl) (λ t n. run_reached shapes r t n ∙ (λ i. reached b.point (λ t1 n1. (ap (λ x. naked_run shapes x t1 n1) (only_alone r only_body).0 ∙ alone_same shapes b t1 n1) i) t n))
        (seq_sim F body r point_same stays bodies))

    abbrev goes_again : Words → ℕ → Ran Words Turn
    goes_again = reached b.point (λ t2 n2. then_ (naked shapes b t2 n2) (λ w3 t3 n3. goes again t3 n3))

    abbrev behind_turn : Turn → Words → ℕ → Ran Words Turn
    behind_turn u t n = if_again u (turned (side_run shapes no_side)) t n

    taken_round : Sim kept P Turns (λ t n. then_ (turned (sequence_run shapes body) t n) behind_turn) goes_again
    taken_round =
        same_sim kept P (λ t n. sym (then_assoc (sequence_run shapes body t n) (λ w t1 n1. goes (turn_of w) t1 n1) behind_turn))
        (λ t n. then_assoc (pass b.point t n) (λ u s1 n1. naked shapes b s1 n1) (λ w3 t3 n3. goes again t3 n3))
        (then_sim kept P body_sim (λ w o. subst (λ x. Sim kept P Turns (λ t1 n1. then_ (goes (turn_of x) t1 n1) behind_turn) (goes again)) (sym o) (goes_sim kept P again tt)))

    by_taken : (x : Bool) → Sim kept P Turns (λ t n. if x then then_ (turned (sequence_run shapes body) t n) behind_turn else goes over t n) (λ t n. if x then goes_again t n else goes over t n)
    by_taken true = taken_round
    by_taken false = goes_sim kept P over tt

    abbrev round : Words → ℕ → Ran Words Turn
    round = test_first (sequence_run shapes test) (sequence_run shapes body) (side_run shapes no_side)

    abbrev round' : Words → ℕ → Ran Words Turn
    round' = iteration shapes b.point (v.iteration known (joined shapes.widths (opened (first_of q)) b))

    round_sim : Sim kept P Turns round round'
    round_sim =
        fit_sim kept P Turns round _ round round' (λ s p n. refl) (blocks.round_same (first_of q) b known head_typed body_typed exit_ is_ leads b.point)
        (then_sim kept P head_sim (λ w h. by_taken (is_taken w)))

    overlap_sim : S Plain (λ t n. then_ (repeat n round t n) (λ u t1 n1. goes (way_behind u) t1 n1)) (overlapped_run shapes b.point (v.iteration known (joined shapes.widths (opened (first_of q)) b)))
    overlap_sim =
        then_sim kept P
        (same_sim kept P (λ t n. let q : 0 + (0 + n) ≡ n = omega arith in ap (λ x. repeat x round t n) q) (λ t n. let q : 1 + (0 + n) ≡ suc n = omega arith in ap (λ x. repeat x round' t n) q)
        (repeat_sim kept P Turns 1 0 round round' round_sim (first_steps 0 test (sequence_run shapes body) (side_run shapes no_side)) (iteration_steps b.point (v.iteration known (joined shapes.widths (opened (first_of q)) b)))))
        (λ u l. goes_sim kept P (way_behind u) (way_plain u l))

  -- ---- the whole tree

  abbrev EndsOf : SequenceTree → Way → Type 0
  EndsOf (sequence first rest) = Ends first.exit rest

  ends_plain_of : (s : SequenceTree) (w : Way) → EndsPlain s → EndsOf s w → Plain w
  ends_plain_of (sequence first rest) w h e = e h

  side_none : (s : SideTree) → converted_side scope s ≡ no_side → s ≡ no_side
  side_none no_side e = refl
  side_none (side blocks_) e = absurd cc

  no_step_none : (x : Option Operand) (post : Bool) (test body : SequenceTree) (step : SideTree) (eligible : Bool) → loop_test scope post test body step eligible ≡ x → (known : Operand) → x ≡ Some known
      → IsOverlapped post (converted_sequence scope test) (converted_sequence scope body) (converted_side scope step) known
  no_step_none x post test body step eligible e known h = by (eligible && loops) (e ∙ h) where
    by : (c : Bool) → (if c then overlapped_test post (converted_sequence scope test) (converted_sequence scope body) (converted_side scope step) else None) ≡ Some known
        → IsOverlapped post (converted_sequence scope test) (converted_sequence scope body) (converted_side scope step) known
    by true k = overlapped_found post (converted_sequence scope test) (converted_sequence scope body) (converted_side scope step) known k
    by false k = absurd cc

  switch_plain : (w : Way) → Plain w → Plain (behind_switch w)
  switch_plain on h = tt
  switch_plain (taken t) h = h
  switch_plain (cased c) h = h
  switch_plain broke h = tt
  switch_plain continued h = tt
  switch_plain (left number) h = tt

  next_sim : (w : Way) → Plain w → (f g : Part) → S Plain f g → S Plain (next_arm f w) (next_arm g w)
  next_sim on h f g m = m
  next_sim (taken t) h f g m = absurd h
  next_sim (cased c) h f g m = absurd h
  next_sim broke h f g m = goes_sim kept P broke tt
  next_sim continued h f g m = goes_sim kept P continued tt
  next_sim (left number) h f g m = goes_sim kept P (left number) tt

  keeps_by : (b : BlockTree) (shape : ShapeTree) (after : BlockTree) (rest : PartTrees) (x : Option Branches) → branches_of b.exit (converted_shape scope shape) ≡ x → BehindKeeps kept scope b (more_parts shape after rest)
      → ShapeKeeps kept scope (not (is_some x)) shape × (kept after.point ≡ not (is_some x)) × BehindKeeps kept scope (going_on shapes.widths b x after) rest
  keeps_by b shape after rest x e k = subst (λ y. ShapeKeeps kept scope (not (is_some y)) shape × (kept after.point ≡ not (is_some y)) × BehindKeeps kept scope (going_on shapes.widths b y after) rest) e k

  -- a loop that stays
  stays_sim : (post : Bool) (test body : SequenceTree) (step : SideTree) (el : Bool) (w : Way) → S (λ v. Unit {0}) (sequence_run shapes test) (sequence_run shapes (converted_sequence scope test))
      → S Plain (sequence_run shapes body) (sequence_run shapes (converted_sequence scope body)) → S Plain (side_run shapes step) (side_run shapes (converted_side scope step))
      → S Plain (shape_run shapes (loop post test body step el) w) (shape_run shapes (loop post (converted_sequence scope test) (converted_sequence scope body) (converted_side scope step) false) w)
  stays_sim true test body step el w t b s =
      loop_sim (test_last (sequence_run shapes test) (sequence_run shapes body)) (test_last (sequence_run shapes (converted_sequence scope test)) (sequence_run shapes (converted_sequence scope body)))
      (last_sim (sequence_run shapes test) (sequence_run shapes (converted_sequence scope test)) (sequence_run shapes body) (sequence_run shapes (converted_sequence scope body)) (side_run shapes step) (side_run shapes (converted_side scope step)) t b s)
      (last_steps 0 (sequence_run shapes test) body) (last_steps 0 (sequence_run shapes (converted_sequence scope test)) (converted_sequence scope body))
  stays_sim false test body step el w t b s =
      loop_sim (test_first (sequence_run shapes test) (sequence_run shapes body) (side_run shapes step))
      (test_first (sequence_run shapes (converted_sequence scope test)) (sequence_run shapes (converted_sequence scope body)) (side_run shapes (converted_side scope step)))
      (first_sim (sequence_run shapes test) (sequence_run shapes (converted_sequence scope test)) (sequence_run shapes body) (sequence_run shapes (converted_sequence scope body)) (side_run shapes step) (side_run shapes (converted_side scope step)) t b s)
      (first_steps 0 test (sequence_run shapes body) (side_run shapes step)) (first_steps 0 (converted_sequence scope test) (sequence_run shapes (converted_sequence scope body)) (side_run shapes (converted_side scope step)))

  opened_fits : (b : BlockTree) → Typed b → S (Leaves b.exit) (naked shapes b) (naked shapes (opened b))
  opened_fits b h = same_sim kept P (λ t n. refl) (blocks.opened_same b h) (blocks.fits b h)

  run_of : (rest : PartTrees) (first : BlockTree) → kept first.point ≡ true → S (Ends first.exit rest) (naked_run shapes (sequence first rest)) (naked_run shapes (converted_sequence scope (sequence first rest)))
      → S (Ends first.exit rest) (sequence_run shapes (sequence first rest)) (sequence_run shapes (converted_sequence scope (sequence first rest)))
  run_of rest first l m = seq_sim (Ends first.exit rest) (sequence first rest) (converted_sequence scope (sequence first rest)) (first_point rest (opened first)) l m

  part_of : (shape : ShapeTree) (after : BlockTree) (rest : PartTrees) → ((w : Way) → S Plain (shape_run shapes shape w) (shape_run shapes (converted_shape scope shape) w)) → kept after.point ≡ true
      → S (Ends after.exit rest) (naked_run shapes (sequence after rest)) (naked_run shapes (converted_sequence scope (sequence after rest)))
      → ((number : _) → S (Ends after.exit rest) (parts_run shapes rest (left number)) (parts_run shapes (rest_of (converted_behind scope (opened after) rest)) (left number)))
      → (w : Way) → S (Ends after.exit rest) (parts_run shapes (more_parts shape after rest) w) (parts_run shapes (part_before (converted_shape scope shape) (converted_behind scope (opened after) rest)) w)
  part_of shape after rest i l m s w =
      row_sim shape (converted_shape scope shape) after rest (converted_behind scope (opened after) rest) (same_land shape) (Ends after.exit rest) (λ v h e. h) i (run_of rest after l m) s w

  mutual
    behind_sim : (rest : PartTrees) (b : BlockTree) (f : Part) → Open_ b → PartsAreTyped shapes.widths words rest → BehindKeeps kept scope b rest → S (Leaves b.exit) f (naked shapes b)
        → S (Ends b.exit rest) (λ t n. then_ (f t n) (λ w t1 n1. parts_run shapes rest w t1 n1)) (naked_run shapes (converted_behind scope b rest))
    behind_sim no_part b f h p k m = then_sim kept P m (λ w l. goes_sim kept P w (leaves_plain b.exit w l))
    behind_sim (more_parts shape after rest) b f h p k m =
        by_option
        (λ x. S (Ends after.exit rest) (λ t n. then_ (f t n) (λ w t1 n1. parts_run shapes (more_parts shape after rest) w t1 n1))
        (naked_run shapes (behind b (converted_shape scope shape) x (converted_behind scope (going_on shapes.widths b x after) rest))))
        (branches_of b.exit (converted_shape scope shape))
        (λ e. let z = keeps_by b shape after rest None e k in then_sim kept P m (λ w l. part_of shape after rest (shape_sim shape p.0 z.0) z.1 (behind_sim rest (opened after) (naked shapes after) (blocks.opened_typed after p.1) p.2 z.2 (opened_fits after p.1)) (skip_sim rest (opened after) after.exit p.2 z.2) w))
        (λ g e. let z = keeps_by b shape after rest (Some g) e k in merging shape after rest b f g h p.0 p.1 z.0 z.1 z.2 m e (λ d f1 ty q m1. behind_sim rest d f1 ty p.2 q m1))

    merging : (shape : ShapeTree) (after : BlockTree) (rest : PartTrees) (b : BlockTree) (f : Part) (g : Branches) → Open_ b → ShapeIsTyped shapes.widths words shape → Typed after
        → ShapeKeeps kept scope false shape → kept after.point ≡ false → BehindKeeps kept scope (joined shapes.widths (merged shapes.widths b g) after) rest → S (Leaves b.exit) f (naked shapes b)
        → branches_of b.exit (converted_shape scope shape) ≡ Some g
        → ((d : BlockTree) (f1 : Part) → Open_ d → BehindKeeps kept scope d rest → S (Leaves d.exit) f1 (naked shapes d) → S (Ends d.exit rest) (λ t n. then_ (f1 t n) (λ w t1 n1. parts_run shapes rest w t1 n1)) (naked_run shapes (converted_behind scope d rest)))
        → S (Ends after.exit rest) (λ t n. then_ (f t n) (λ w t1 n1. parts_run shapes (more_parts shape after rest) w t1 n1)) (naked_run shapes (converted_behind scope (joined shapes.widths (merged shapes.widths b g) after) rest))
    merging (fork yes_ no_ c) after rest b f g h s a k l q m e further =
        let i = fork_found b.exit (converted_side scope yes_) (converted_side scope no_) c g e in
        let ty = subst (BranchIsTyped shapes.widths words) (sym i.yes_same) (side_typed yes_ s.0 i.only_yes) in
        let tn = subst (BranchIsTyped shapes.widths words) (sym i.no_same) (side_typed no_ s.1 i.only_no) in
        let y = side_merged yes_ g.yes_ s.0 k.0 i.only_yes i.yes_same in
        let z = side_merged no_ g.no_ s.1 k.1 i.only_no i.no_same in
        let d = joined shapes.widths (merged shapes.widths b g) after in
        let w = whole_sim yes_ no_ c b after rest g f i.exit_ m y z h ty tn a l in
        fit_sim kept P (Ends after.exit rest) _ _ _ _ (whole_then yes_ no_ c b after rest g f i.exit_ m y z) (λ t u n. refl)
        (weaker_sim kept P (λ v o r. o (ends_renamed _ _ after.exit rest ∙ r))
        (further d (whole yes_ no_ c b after rest g f i.exit_ m y z) (blocks.merged_typed b after g h i.exit_ ty tn a) q (subst (λ (x : Way → Type 0). S x (whole yes_ no_ c b after rest g f i.exit_ m y z) (naked shapes d)) (leaves_renamed _ _ after.exit) w)))
    merging (loop post test body step el) after rest b f g h s a k l q m e further =
        absurd (no_fork_found b.exit _ g (loop_is_no_fork shapes.widths (loop_test scope post test body step el) post (converted_sequence scope test) (converted_sequence scope body) (converted_side scope step)) e)
    merging (switch dead targets other arms) after rest b f g h s a k l q m e further = absurd (no_fork_found b.exit _ g tt e)
    merging (land number) after rest b f g h s a k l q m e further = absurd (no_fork_found b.exit _ g tt e)
    merging (overlapped point body) after rest b f g h s a k l q m e further = absurd s

    side_merged : (s : SideTree) (o : Option BlockTree) → SideIsTyped shapes.widths words s → SideKeeps kept scope false s → is_only_side (converted_side scope s) ≡ true → o ≡ first_block (converted_side scope s)
        → S (λ w. w ≡ on) (side_run shapes s) (part_or_on shapes o)
    side_merged no_side o h k e q = subst (λ (x : Option BlockTree). S (λ w. w ≡ on) (side_run shapes no_side) (part_or_on shapes x)) (sym q) (goes_sim kept P on refl)
    side_merged (side (sequence first rest)) o h k e q =
        side_alone o (sequence first rest) (converted_sequence scope (sequence first rest)) (Ends first.exit rest) (behind_sim rest (opened first) (naked shapes first) (blocks.opened_typed first h.0.0) h.0.1 k.1 (opened_fits first h.0.0)) k.0 e q

    skip_sim : (rest : PartTrees) (b : BlockTree) (exit : ExitTree) → PartsAreTyped shapes.widths words rest → BehindKeeps kept scope b rest → (number : _)
        → S (Ends exit rest) (parts_run shapes rest (left number)) (parts_run shapes (rest_of (converted_behind scope b rest)) (left number))
    skip_sim no_part b exit p k number = goes_sim kept P (left number) (λ h. tt)
    skip_sim (more_parts shape after rest) b exit p k number =
        by_option
        (λ x. S (Ends after.exit rest) (parts_run shapes (more_parts shape after rest) (left number))
        (parts_run shapes (rest_of (behind b (converted_shape scope shape) x (converted_behind scope (going_on shapes.widths b x after) rest))) (left number)))
        (branches_of b.exit (converted_shape scope shape))
        (λ e. let z = keeps_by b shape after rest None e k in part_of shape after rest (shape_sim shape p.0 z.0) z.1 (behind_sim rest (opened after) (naked shapes after) (blocks.opened_typed after p.1) p.2 z.2 (opened_fits after p.1)) (skip_sim rest (opened after) after.exit p.2 z.2) (left number))
        (λ g e. let z = keeps_by b shape after rest (Some g) e k in
        same_sim kept P (λ t n. sym (passes_by shapes shape (found_no_land shape b.exit g e) after rest number t n)) (λ t n. refl)
        (skip_sim rest (joined shapes.widths (merged shapes.widths b g) after) after.exit p.2 z.2 number))

    shape_sim : (shape : ShapeTree) → ShapeIsTyped shapes.widths words shape → ShapeKeeps kept scope true shape → (w : Way) → S Plain (shape_run shapes shape w) (shape_run shapes (converted_shape scope shape) w)
    shape_sim (fork yes_ no_ c) h k w =
        by_bool (λ x. S Plain (λ t n. if x then side_run shapes yes_ t n else side_run shapes no_ t n) (λ t n. if x then side_run shapes (converted_side scope yes_) t n else side_run shapes (converted_side scope no_) t n))
        (is_taken w) (λ e. side_sim yes_ h.0 k.0) (λ e. side_sim no_ h.1 k.1)
    shape_sim (loop post (sequence t ts) (sequence b bs) step el) h k w =
        by_option (λ x. S Plain (shape_run shapes (loop post (sequence t ts) (sequence b bs) step el) w)
        (shape_run shapes (loop_by shapes.widths x post (converted_sequence scope (sequence t ts)) (converted_sequence scope (sequence b bs)) (converted_side scope step)) w))
        (loop_test scope post (sequence t ts) (sequence b bs) step el)
        (λ e. let l : kept t.point ≡ true = k.0.0 ∙ ap (λ y. not (is_some y)) e in
        stays_sim post (sequence t ts) (sequence b bs) step el w (weaker_sim kept P (λ v o. tt) (run_of ts t l (behind_sim ts (opened t) (naked shapes t) (blocks.opened_typed t h.0.0) h.0.1 k.0.1 (opened_fits t h.0.0)))) (weaker_sim kept P (λ v o. o h.2) (run_of bs b k.1.0 (behind_sim bs (opened b) (naked shapes b) (blocks.opened_typed b h.1.0) h.1.1 k.1.1 (opened_fits b h.1.0)))) (side_sim step h.3 k.2))
        (λ known e.
        let i = no_step_none (Some known) post (sequence t ts) (sequence b bs) step el e known refl in
        let q = converted_sequence scope (sequence t ts) in
        let r = converted_sequence scope (sequence b bs) in
        subst (λ (x : Bool). S Plain (shape_run shapes (loop x (sequence t ts) (sequence b bs) step el) w) (shape_run shapes (overlapping shapes.widths known (first_of q) (first_of r)) w)) (sym i.first_)
        (subst (λ (x : SideTree). S Plain (shape_run shapes (loop false (sequence t ts) (sequence b bs) x el) w) (shape_run shapes (overlapping shapes.widths known (first_of q) (first_of r)) w)) (sym (side_none step i.no_step))
        (overlap_sim (sequence t ts) (sequence b bs) q r known (Ends t.exit ts) (Ends b.exit bs) (behind_sim ts (opened t) (naked shapes t) (blocks.opened_typed t h.0.0) h.0.1 k.0.1 (opened_fits t h.0.0)) (behind_sim bs (opened b) (naked shapes b) (blocks.opened_typed b h.1.0) h.1.1 k.1.1 (opened_fits b h.1.0))
        i.alone i.exit_ i.tests i.only_body (first_typed (sequence t ts) h.0).typed (first_typed (sequence b bs) h.1).typed (first_point bs (opened b)) (k.0.0 ∙ ap (λ y. not (is_some y)) e) k.1.0)))
    shape_sim (switch dead targets other arms) h k w =
        then_sim kept P
        (by_option (λ x. S Plain (from_target x (λ i t1 n1. from_arm shapes arms i t1 n1)) (from_target x (λ i t1 n1. from_arm shapes (converted_arms scope arms) i t1 n1))) (arm_target targets other (cases_of w))
        (λ e. goes_sim kept P on tt) (λ i e. arm_sim arms h k i))
        (λ v l. goes_sim kept P (behind_switch v) (switch_plain v l))
    shape_sim (land number) h k w = goes_sim kept P on tt
    shape_sim (overlapped point body) h k w = absurd h

    side_sim : (s : SideTree) → SideIsTyped shapes.widths words s → SideKeeps kept scope true s → S Plain (side_run shapes s) (side_run shapes (converted_side scope s))
    side_sim no_side h k = goes_sim kept P on tt
    side_sim (side (sequence first rest)) h k = weaker_sim kept P (λ v o. o h.1) (run_of rest first k.0 (behind_sim rest (opened first) (naked shapes first) (blocks.opened_typed first h.0.0) h.0.1 k.1 (opened_fits first h.0.0)))

    arm_sim : (arms : ArmTrees) → ArmsAreTyped shapes.widths words arms → ArmsKeep kept scope arms → (i : ℕ) → S Plain (from_arm shapes arms i) (from_arm shapes (converted_arms scope arms) i)
    arm_sim no_arm h k i = goes_sim kept P on tt
    arm_sim (more_arms (sequence first rest) arms) h k zero =
        then_sim kept P (weaker_sim kept P (λ v o. o h.1) (run_of rest first k.0.0 (behind_sim rest (opened first) (naked shapes first) (blocks.opened_typed first h.0.0) h.0.1 k.0.1 (opened_fits first h.0.0)))) (λ v l. next_sim v l (from_arm shapes arms zero) (from_arm shapes (converted_arms scope arms) zero) (arm_sim arms h.2 k.1 zero))
    arm_sim (more_arms (sequence first rest) arms) h k (suc i) = arm_sim arms h.2 k.1 i

  pub tree_sim : (first : BlockTree) (rest : PartTrees) → SequenceIsTyped shapes.widths words (sequence first rest) → Keeps kept scope true (sequence first rest)
      → S (Ends first.exit rest) (sequence_run shapes (sequence first rest)) (sequence_run shapes (converted_sequence scope (sequence first rest)))
  tree_sim first rest h k = run_of rest first k.0 (behind_sim rest (opened first) (naked shapes first) (blocks.opened_typed first h.0) h.1 k.1 (opened_fits first h.0))
