-- The nodes of a numbered tree begin and lead where those of the tree do.
use Rattle.std.proofs.Common.{◌≡◌, ◌∙◌, ◌+◌, ℕ, refl, sym, ap, ap₂, List, [], ◌∷◌, ◌++◌, map, None}
use Rattle.std.proofs.lemmas.List.{map-append}
use Rattle.ir_core.specs.Trees.{BlockTree, SequenceTree, sequence, PartTrees, no_part, more_parts, ShapeTree, fork, loop, switch, land, overlapped, SideTree, no_side, side, ArmTrees, no_arm, more_arms}
use Rattle.passes.specs.Numbering as n
use Rattle.passes.specs.Numbering.{numbered_block, numbered_sequence, numbered_parts, numbered_shape, numbered_side, numbered_arms}
use Rattle.ir_layout.specs.Nodes.{NodeTree}
use Rattle.ir_layout.specs.Sizes.{sequence_size, parts_size, side_size, arms_size}
use Rattle.ir_layout.specs.Layout.{Ahead, finish, onto, tested, Around, laid_block, side_start, step_start, ahead_of_parts, before_parts, in_loop, in_switch, behind_shape, laid, laid_parts, laid_shape, laid_side, laid_arms}
use Rattle.program_sizes.specs.KeptNodes.Seen.{SeenNode, seen}
use Rattle.program_sizes.specs.KeptNodes.{NumberedNodesStay}
use Rattle.program_sizes.proofs.KeptNodes.Sizes.{sequence_same, parts_same, shape_same, side_same, arms_same}
use Rattle.program_sizes.proofs.KeptNodes.Places.{block_seen, side_begins, ahead_of_parts_same, around_same}

-- the same is seen of both lists of nodes
abbrev LookSame : List NodeTree → List NodeTree → Type 0
LookSame xs ys = map seen xs ≡ map seen ys

both_same : (xs ys us vs : List NodeTree) → LookSame xs us → LookSame ys vs → LookSame (xs ++ ys) (us ++ vs)
both_same xs ys us vs h k = map-append seen xs ys ∙ (ap₂ (λ (u v : List SeenNode). u ++ v) h k ∙ sym (map-append seen us vs))

block_same : (x y : Around) (a b : Ahead) (scope : n.Scope) (block : BlockTree) → x ≡ y → a ≡ b → seen (laid_block x a (numbered_block scope block)) ≡ seen (laid_block y b block)
block_same x y a b scope block e f = ap₂ (λ (u : Around) (v : Ahead). seen (laid_block u v (numbered_block scope block))) e f ∙ block_seen y b scope block

-- ---- parts whose sizes are numbers of their own

abbrev laid_from : Around → Ahead → ℕ → ℕ → ShapeTree → BlockTree → PartTrees → List NodeTree
laid_from around ahead place further shape after rest =
    laid_shape (before_parts further rest around) place shape ++ laid_block (before_parts further rest around) (ahead_of_parts further rest ahead) after ∷ laid_parts around ahead further rest

abbrev laid_fork : Around → ℕ → ℕ → ℕ → SideTree → SideTree → List NodeTree
laid_fork around place yes_size no_size yes_ no_ = laid_side around (place + (yes_size + no_size)) place yes_ ++ laid_side around (place + (yes_size + no_size)) (place + yes_size) no_

-- the places of a loop
pub record Laps : Type 0 where
  pub place : ℕ
  pub body : ℕ
  pub step : ℕ
  pub again : ℕ
  pub after : ℕ

abbrev laps : ℕ → ℕ → ℕ → ℕ → ℕ → Laps
laps place test_size body_size step_size again =
    record { place = place; body = place + test_size; step = place + test_size + body_size; again = again; after = place + (test_size + (body_size + step_size)) }

abbrev around_loop : Around → Laps → Around
around_loop around l = in_loop l.after l.again around

abbrev laid_loop : Around → Laps → SequenceTree → SequenceTree → SideTree → List NodeTree
laid_loop around l test body step =
    laid (around_loop around l) (tested l.body l.after) l.place test ++ (laid (around_loop around l) (onto l.again) l.body body ++ laid_side (around_loop around l) l.place l.step step)

abbrev laid_switch : Around → ℕ → ℕ → ℕ → PartTrees → ArmTrees → List NodeTree
laid_switch around place dead_size all_size dead arms =
    laid_parts (in_switch (place + (dead_size + all_size)) around) (onto (place + dead_size)) place dead ++ laid_arms (in_switch (place + (dead_size + all_size)) around) (place + dead_size) arms

abbrev laid_arm : Around → ℕ → ℕ → SequenceTree → ArmTrees → List NodeTree
laid_arm around place first_size first rest = laid around (onto (place + first_size)) place first ++ laid_arms around (place + first_size) rest

-- the places of a numbered loop
laps_same : (scope : n.Scope) (place : ℕ) (test body : SequenceTree) (step : SideTree)
    → laps place (sequence_size (numbered_sequence scope test)) (sequence_size (numbered_sequence scope body)) (side_size (numbered_side scope step)) (step_start place (numbered_sequence scope test) (numbered_sequence scope body) (numbered_side scope step))
    ≡ laps place (sequence_size test) (sequence_size body) (side_size step) (step_start place test body step)
laps_same scope place test body step =
    let made = numbered_side scope step in
    ap₂ (λ (t b : ℕ). laps place t b (side_size made) (side_start (place + t + b) place made)) (sequence_same scope test) (sequence_same scope body)
    ∙ ap₂ (λ (s again : ℕ). laps place (sequence_size test) (sequence_size body) s again) (side_same scope step) (side_begins scope (place + sequence_size test + sequence_size body) place step)

-- ---- trees

mutual
  sequence_seen : (scope : n.Scope) (around : Around) (ahead : Ahead) (place : ℕ) (s : SequenceTree) → LookSame (laid around ahead place (numbered_sequence scope s)) (laid around ahead place s)
  sequence_seen scope around ahead place (sequence first rest) =
      ap₂ (λ (x : SeenNode) (l : List SeenNode). x ∷ l)
      (block_same _ _ _ _ scope first (around_same scope (place + 1) rest around) (ahead_of_parts_same scope (place + 1) rest ahead))
      (parts_seen scope around ahead (place + 1) rest)

  parts_seen : (scope : n.Scope) (around : Around) (ahead : Ahead) (place : ℕ) (p : PartTrees) → LookSame (laid_parts around ahead place (numbered_parts scope p)) (laid_parts around ahead place p)
  parts_seen scope around ahead place no_part = refl
  parts_seen scope around ahead place (more_parts shape after rest) =
      let further = behind_shape place shape + 1 in
      let made = numbered_shape scope shape in
      let later = numbered_parts scope rest in
      let inner = around_same scope further rest around in
      ap (λ m. map seen (laid_from around ahead place (place + m + 1) made (numbered_block scope after) later)) (shape_same scope shape)
      ∙ both_same (laid_shape (before_parts further later around) place made) _ (laid_shape (before_parts further rest around) place shape) _
      (ap (λ a. map seen (laid_shape a place made)) inner ∙ shape_seen scope (before_parts further rest around) place shape)
      (ap₂ (λ (x : SeenNode) (l : List SeenNode). x ∷ l) (block_same _ _ _ _ scope after inner (ahead_of_parts_same scope further rest ahead)) (parts_seen scope around ahead further rest))

  shape_seen : (scope : n.Scope) (around : Around) (place : ℕ) (shape : ShapeTree) → LookSame (laid_shape around place (numbered_shape scope shape)) (laid_shape around place shape)
  shape_seen scope around place (fork yes_ no_ convertible) =
      let after = place + (side_size yes_ + side_size no_) in
      ap₂ (λ (k m : ℕ). map seen (laid_fork around place k m (numbered_side scope yes_) (numbered_side scope no_))) (side_same scope yes_) (side_same scope no_)
      ∙ both_same _ _ (laid_side around after place yes_) (laid_side around after (place + side_size yes_) no_) (side_seen scope around after place yes_) (side_seen scope around after (place + side_size yes_) no_)
  shape_seen scope around place (loop post test body step eligible) =
      let inside = n.in_loop scope eligible in
      let l = laps place (sequence_size test) (sequence_size body) (side_size step) (step_start place test body step) in
      let inner = around_loop around l in
      ap (λ x. map seen (laid_loop around x (numbered_sequence inside test) (numbered_sequence inside body) (numbered_side inside step))) (laps_same inside place test body step)
      ∙ both_same _ _ (laid inner (tested l.body l.after) place test) (laid inner (onto l.again) l.body body ++ laid_side inner place l.step step) (sequence_seen inside inner (tested l.body l.after) place test)
      (both_same _ _ (laid inner (onto l.again) l.body body) (laid_side inner place l.step step) (sequence_seen inside inner (onto l.again) l.body body) (side_seen inside inner place l.step step))
  shape_seen scope around place (switch dead targets other arms) =
      let inner = in_switch (place + (parts_size dead + arms_size arms)) around in
      let start = place + parts_size dead in
      ap₂ (λ (k m : ℕ). map seen (laid_switch around place k m (numbered_parts scope dead) (numbered_arms scope arms))) (parts_same scope dead) (arms_same scope arms)
      ∙ both_same _ _ (laid_parts inner (onto start) place dead) (laid_arms inner start arms) (parts_seen scope inner (onto start) place dead) (arms_seen scope inner start arms)
  shape_seen scope around place (land number) = refl
  shape_seen scope around place (overlapped point body) = refl

  side_seen : (scope : n.Scope) (around : Around) (after place : ℕ) (s : SideTree) → LookSame (laid_side around after place (numbered_side scope s)) (laid_side around after place s)
  side_seen scope around after place no_side = refl
  side_seen scope around after place (side blocks) = sequence_seen scope around (onto after) place blocks

  arms_seen : (scope : n.Scope) (around : Around) (place : ℕ) (p : ArmTrees) → LookSame (laid_arms around place (numbered_arms scope p)) (laid_arms around place p)
  arms_seen scope around place no_arm = refl
  arms_seen scope around place (more_arms first rest) =
      let further = place + sequence_size first in
      ap (λ m. map seen (laid_arm around place m (numbered_sequence scope first) (numbered_arms scope rest))) (sequence_same scope first)
      ∙ both_same _ _ (laid around (onto further) place first) (laid_arms around further rest) (sequence_seen scope around (onto further) place first) (arms_seen scope around further rest)

pub nodes_stay : NumberedNodesStay
nodes_stay scope blocks returned = sequence_seen scope (record { leave = None; again = None; lands = []; returned = returned }) finish 0 blocks
