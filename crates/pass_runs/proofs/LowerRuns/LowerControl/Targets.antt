-- Where control goes from pieces, and where the blocks go then.
use Rattle.std.proofs.Common.{◌≡◌, ◌∙◌, ℕ, zero, suc, Bool, true, refl, ap, sym, subst}
use Rattle.hls_base.specs.declared.point.Point.{Point}
use Rattle.hls_base.specs.Steps.{Ran, goes, then_}
use Rattle.pieces.specs.Trees as tree
use Rattle.pieces.specs.Trees.{PieceTree, PieceTrees}
use Rattle.c_meaning.specs.PieceRuns.Values.{Store}
use Rattle.c_meaning.specs.PieceRuns.Pieces as p
use Rattle.c_meaning.specs.PieceRuns.Pieces.{Frame, piece_run, pieces_run}
use Rattle.ir_core.specs.Bodies.{Shapes, Words, Ranged, with_outs}
use Rattle.ir_core.specs.Trees.{BlockTree, SequenceTree, sequence, PartTrees, no_part, more_parts, ShapeTree}
use Rattle.ir_core.specs.TreeRuns as trees
use Rattle.ir_core.specs.TreeRuns.{parts_run, sequence_run, way_of, behind_shape}
use Rattle.passes.specs.Lowering.Blocks.{begun}
use Rattle.passes.specs.Lowering.{Rest, last, followed, land_of}
use Rattle.pass_runs.specs.LowerRuns.Suits.{shapes_of}
use Rattle.ir_layout.specs.WellFormed.{Inside, has_number}
use Rattle.pass_runs.specs.LowerRuns.Holding.{Holds}
use Rattle.pass_runs.proofs.LowerRuns.LowerControl.Following.{Passes, Follow, follows_goes, follows_waits, follows_same, follows_kept, follows_behind_kept}
use Rattle.pass_runs.proofs.LowerRuns.LowerControl.Entering.{within_block, within, within_is, sequence_passes, start, Opens, begun_opens, closed_holds, Below, holds_weaker}
use Rattle.pass_runs.proofs.LowerRuns.LowerControl.Rests.{first_of, rest_of}
use Rattle.pass_runs.proofs.LowerRuns.LowerControl.Rests.{IsRest}

-- the same way out of blocks
abbrev pub tree_way : p.Way → trees.Way
tree_way p.on = trees.on
tree_way p.broke = trees.broke
tree_way p.continued = trees.continued
tree_way (p.left call) = trees.left (land_of call)

-- a jump leads somewhere
abbrev pub Leads : Inside → p.Way → Type 0
Leads inside p.on = Unit {0}
Leads inside p.broke = inside.leave ≡ true
Leads inside p.continued = inside.again ≡ true
Leads inside (p.left call) = has_number inside.lands call.0 ≡ true

abbrev pub Run : Type 0
Run = ℕ → Ran Words trees.Way

-- nothing behind a block stops a break or a continue
pub broke_parts : (shapes : Shapes) (parts : PartTrees) (t : Words) (n : ℕ) → parts_run shapes parts trees.broke t n ≡ goes trees.broke t n
broke_parts shapes no_part t n = refl
broke_parts shapes (more_parts shape after rest) t n = refl

pub continued_parts : (shapes : Shapes) (parts : PartTrees) (t : Words) (n : ℕ) → parts_run shapes parts trees.continued t n ≡ goes trees.continued t n
continued_parts shapes no_part t n = refl
continued_parts shapes (more_parts shape after rest) t n = refl

module _ (f : Frame) where
  abbrev pub shapes : Shapes
  shapes = shapes_of f

  -- The run ends in the same way, with words that show the store.
  abbrev pub Ends : Inside → (ℕ → Bool) → p.Way → Store → Run → Type 0
  Ends inside hidden way s q = Leads inside way × ((t : Words) × Holds f hidden s t × ((k : ℕ) → q k ≡ goes (tree_way way) t k))

  -- it is on its way out of these blocks, with words that show the store
  abbrev pub IsOut : Inside → Rest → (ℕ → Bool) → p.Way → Store → Run → Type 0
  IsOut inside rest outside way s q = Leads inside way × ((t : Words) × Holds f outside s t × ((b : BlockTree) (k : ℕ) → q k ≡ parts_run shapes (rest_of (rest b)) (tree_way way) t k))

  -- It is in a block that is open, which shows the store; or on its way out.
  abbrev pub Arrives : Inside → Rest → (ℕ → Bool) → (ℕ → Bool) → p.Way → Store → Run → Type 0
  Arrives inside rest outside hidden p.on s q = (t : Words) × (b : BlockTree) × (r : Ranged) × Opens f hidden t b r s × ((k : ℕ) → q k ≡ within shapes (rest b) t k)
  Arrives inside rest outside hidden p.broke s q = IsOut inside rest outside p.broke s q
  Arrives inside rest outside hidden p.continued s q = IsOut inside rest outside p.continued s q
  Arrives inside rest outside hidden (p.left call) s q = IsOut inside rest outside (p.left call) s q

  -- the block that is open ends, and control comes to what stands behind it
  pub closes : (hidden : ℕ → Bool) (t : Words) (b : BlockTree) (r : Ranged) (s : Store) (parts : PartTrees) → Opens f hidden t b r s → (k : ℕ) → within_block shapes b parts t k ≡ parts_run shapes parts trees.on (with_outs b.outs r) k
  closes hidden t b r s parts h k = within_is shapes b parts t r h.at.stands k ∙ ap (λ e. parts_run shapes parts (way_of e r.words r.results) (with_outs b.outs r) k) h.live

  opens_hold : (hidden : ℕ → Bool) (t : Words) (b : BlockTree) (r : Ranged) (s : Store) → Opens f hidden t b r s → Holds f hidden s (with_outs b.outs r)
  opens_hold hidden t b r s h = closed_holds f hidden t b r s h.at h.single

  -- ---- behind the last block

  -- any block stands for those of which the way out says the same
  pub last_ends : (inside : Inside) (outside hidden more : ℕ → Bool) (way : p.Way) (s : Store) (q : Run) (any : BlockTree) → Below f outside more → Below f hidden more → Arrives inside last outside hidden way s q → Ends inside more way s q
  last_ends inside outside hidden more p.on s q any le le2 a =
      (tt, (with_outs a.1.outs a.2, holds_weaker f hidden more s (with_outs a.1.outs a.2) le2 (opens_hold hidden a.0 a.1 a.2 s a.3), λ k. a.4 k ∙ closes hidden a.0 a.1 a.2 s no_part a.3 k))
  last_ends inside outside hidden more p.broke s q any le le2 a = (a.0, (a.1.0, holds_weaker f outside more s a.1.0 le a.1.1, λ k. a.1.2 any k))
  last_ends inside outside hidden more p.continued s q any le le2 a = (a.0, (a.1.0, holds_weaker f outside more s a.1.0 le a.1.1, λ k. a.1.2 any k))
  last_ends inside outside hidden more (p.left call) s q any le le2 a = (a.0, (a.1.0, holds_weaker f outside more s a.1.0 le a.1.1, λ k. a.1.2 any k))

  -- ---- behind a shape

  -- the block behind it, and what follows that
  abbrev pub behind : SequenceTree → trees.Way → Words → ℕ → Ran Words trees.Way
  behind q w t n = behind_shape shapes (first_of q) (λ w2 t2 n2. parts_run shapes (rest_of q) w2 t2 n2) w t n

  pub behind_on : (q : SequenceTree) (t : Words) (n : ℕ) → behind q trees.on t n ≡ sequence_run shapes q t n
  behind_on (sequence first rest) t n = refl

  module _ (kept : Point → Bool) (inside : Inside) (rest : Rest) (is_rest : IsRest shapes rest) (outside hidden : ℕ → Bool) (end : Point) (keeps : kept end ≡ true) where
    -- control comes to the point behind it
    pub follows_end : (s : Store) (t : Words) (n : ℕ) (q : Run) → Holds f hidden s t → ((k : ℕ) → q k ≡ sequence_run shapes (rest (begun end)) t k) → Follow kept (Arrives inside rest outside hidden) (p.behind end s n) q
    follows_end s t n q h e =
        follows_same kept (Arrives inside rest outside hidden) (p.behind end s n) q (λ k. sequence_run shapes (rest (begun end)) t k) e
        (follows_kept kept (Arrives inside rest outside hidden) end (λ s1 n1. goes p.on s1 n1) s n (λ k. sequence_run shapes (rest (begun end)) t k) (within shapes (rest (begun end)) t) keeps
        (subst (λ x. Passes x (λ k. sequence_run shapes (rest (begun end)) t k) (within shapes (rest (begun end)) t)) (is_rest.point (begun end)) (sequence_passes shapes (rest (begun end)) t))
        (λ m. follows_goes kept (Arrives inside rest outside hidden) p.on s m (within shapes (rest (begun end)) t) (t, begun end, start t, begun_opens f hidden t s end h, λ k. refl)))

    -- it goes on out of these blocks; a way out that skips what stands behind the shape
    pub follows_left : (call : _) (s : Store) (t : Words) (n : ℕ) (q : Run) → Leads inside (p.left call) → Holds f outside s t → ((k : ℕ) → q k ≡ parts_run shapes (rest_of (rest (begun end))) (trees.left (land_of call)) t k)
        → Follow kept (Arrives inside rest outside hidden) (goes (p.left call) s n) q
    follows_left call s t n q leads h e =
        follows_goes kept (Arrives inside rest outside hidden) (p.left call) s n q (leads, (t, h, λ b k. e k ∙ is_rest.away (begun end) b (land_of call) t k))

    pub follows_broke : (s : Store) (t : Words) (n : ℕ) (q : Run) → inside.leave ≡ true → Holds f outside s t → ((k : ℕ) → q k ≡ goes trees.broke t k) → Follow kept (Arrives inside rest outside hidden) (goes p.broke s n) q
    follows_broke s t n q leads h e = follows_goes kept (Arrives inside rest outside hidden) p.broke s n q (leads, (t, h, λ b k. e k ∙ sym (broke_parts shapes (rest_of (rest b)) t k)))

    pub follows_continued : (s : Store) (t : Words) (n : ℕ) (q : Run) → inside.again ≡ true → Holds f outside s t → ((k : ℕ) → q k ≡ goes trees.continued t k) → Follow kept (Arrives inside rest outside hidden) (goes p.continued s n) q
    follows_continued s t n q leads h e = follows_goes kept (Arrives inside rest outside hidden) p.continued s n q (leads, (t, h, λ b k. e k ∙ sym (continued_parts shapes (rest_of (rest b)) t k)))

    -- where the shape's blocks are at their end
    pub follows_fork : Below f hidden outside → (way : p.Way) (s : Store) (n : ℕ) (q : Run) → Ends inside hidden way s q → Follow kept (Arrives inside rest outside hidden) (p.behind_fork way end s n) (λ k. then_ (q k) (behind (rest (begun end))))
    follows_fork le p.on s n q a = follows_end s a.1.0 n (λ k. then_ (q k) (behind (rest (begun end)))) a.1.1 (λ k. ap (λ x. then_ x (behind (rest (begun end)))) (a.1.2 k) ∙ behind_on (rest (begun end)) a.1.0 k)
    follows_fork le p.broke s n q a = follows_broke s a.1.0 n (λ k. then_ (q k) (behind (rest (begun end)))) a.0 (holds_weaker f hidden outside s a.1.0 le a.1.1)
        (λ k. ap (λ x. then_ x (behind (rest (begun end)))) (a.1.2 k) ∙ broke_parts shapes (rest_of (rest (begun end))) a.1.0 k)
    follows_fork le p.continued s n q a = follows_continued s a.1.0 n (λ k. then_ (q k) (behind (rest (begun end)))) a.0 (holds_weaker f hidden outside s a.1.0 le a.1.1)
        (λ k. ap (λ x. then_ x (behind (rest (begun end)))) (a.1.2 k) ∙ continued_parts shapes (rest_of (rest (begun end))) a.1.0 k)
    follows_fork le (p.left call) s n q a = follows_left call s a.1.0 n (λ k. then_ (q k) (behind (rest (begun end)))) a.0 (holds_weaker f hidden outside s a.1.0 le a.1.1)
        (λ k. ap (λ x. then_ x (behind (rest (begun end)))) (a.1.2 k))

  pub within_followed : (b : BlockTree) (shape : ShapeTree) (q : SequenceTree) (t : Words) (k : ℕ) → within shapes (followed b shape q) t k ≡ within_block shapes b (more_parts shape (first_of q) (rest_of q)) t k
  within_followed b shape (sequence first rest) t k = refl

  -- ---- pieces that begin a block at a point

  module _ (kept : Point → Bool) (known : p.Way → Store → Run → Type 0) (point : Point) (keeps : kept point ≡ true) (rest : PieceTrees) where
    pub follows_begun : (s : Store) (n : ℕ) (g q : Run) → Passes point g q → ((m : ℕ) → Follow kept known (pieces_run f rest s m) q) → Follow kept known (pieces_run f (tree.then_ (tree.mark point) rest) s n) g
    follows_begun s zero g q h follow = follows_waits kept known g
    follows_begun s (suc m) g q h follow = follows_behind_kept kept known point (pieces_run f rest s m).trace (pieces_run f rest s m).outcome g q keeps h (follow m)

    -- the same behind the end of a call
    pub follows_landed : (s : Store) (n : ℕ) (g q : Run) → Passes point g q → ((m : ℕ) → Follow kept known (pieces_run f rest s m) q) → Follow kept known (then_ (p.behind point s n) (λ w t1 n1. pieces_run f rest t1 n1)) g
    follows_landed s zero g q h follow = follows_waits kept known g
    follows_landed s (suc m) g q h follow = follows_behind_kept kept known point (pieces_run f rest s m).trace (pieces_run f rest s m).outcome g q keeps h (follow m)
