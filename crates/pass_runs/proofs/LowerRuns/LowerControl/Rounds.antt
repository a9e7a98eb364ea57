-- Iterations of a loop, one after another.
use Rattle.std.proofs.Common.{◌≡◌, ◌∙◌, ℕ, zero, suc, ◌+◌, ◌-◌, ◌≤◌, arith, refl, ap, sym, subst, List, [], ◌∷◌, append-nil, length, Bool, true, filter}
use Rattle.hls_base.specs.declared.point.Point.{Point}
use Rattle.hls_base.specs.Steps.{Outcome, went, undefined, waiting, Ran, ran, goes, after, then_}
use Rattle.c_meaning.specs.PieceRuns.Values.{Store}
use Rattle.c_meaning.specs.PieceRuns.Pieces as p
use Rattle.c_meaning.specs.PieceRuns.Pieces.{Frame}
use Rattle.ir_core.specs.Bodies.{Words}
use Rattle.ir_core.specs.TreeRuns as trees
use Rattle.passes.specs.Lowering.{land_of}
use Rattle.ir_layout.specs.WellFormed.{Inside, has_number}
use Rattle.pass_runs.specs.LowerRuns.Following.{Comes, Follows}
use Rattle.pass_runs.specs.LowerRuns.Holding.{Holds}
use Rattle.pass_runs.proofs.LowerRuns.LowerControl.Measuring.{Advances}
use Rattle.pass_runs.proofs.LowerRuns.LowerControl.Following.{filter_more, beyond_then, comes_here, comes_then, Follow, follows_goes, follows_waits, follows_same}

abbrev pub Turning : Type 0
Turning = ℕ → Ran Words trees.Turn

-- ---- a loop of blocks whose first iteration comes along some points

module _ (round : Words → ℕ → Ran Words trees.Turn) where
  short_at : (w : Words) (k x : ℕ) → (round w k).outcome ≡ waiting → (trees.repeat x round w k).outcome ≡ waiting
  short_at w k zero e = refl
  short_at w k (suc x) e = ap (λ o. (after o (λ u w1 k1. trees.if_again u (trees.repeat x round) w1 k1)).outcome) e

  -- the bound on the number of iterations is large enough: it is at least the number of points that are left
  comes_round : (w : Words) (trace : List Point) (q : Turning) (d : ℕ) → Comes (round w) trace q → 1 ≤ length trace
      → Comes (λ k. trees.repeat (k + d) round w k) trace (λ k. then_ (q k) (λ u w1 k1. trees.if_again u (trees.repeat (k + (length trace + d - 1)) round) w1 k1))
  comes_round w trace q d h some = record {
    along = λ k.
        (let e : length trace + k + d ≡ suc (k + (length trace + d - 1)) = omega (arith, some) in
        let next = λ (u : trees.Turn) (w1 : Words) (k1 : ℕ). trees.if_again u (trees.repeat (k + (length trace + d - 1)) round) w1 k1 in
        ap (λ x. trees.repeat x round w (length trace + k)) e ∙ ap (λ x. then_ x next) (h.along k) ∙ beyond_then trace (q k) next);
    short = λ k lt. short_at w k (k + d) (h.short k lt);
  }

  pub some_comes : (w : Words) (trace : List Point) (q : Turning) (d : ℕ) → Comes (round w) trace q → (rest : Turning) × Comes (λ k. trees.repeat (k + d) round w k) trace rest
  some_comes w [] q d h = ((λ k. trees.repeat (k + d) round w k), comes_here (λ k. trees.repeat (k + d) round w k))
  some_comes w (x ∷ xs) q d h = (
    (λ k. then_ (q k) (λ u w1 k1. trees.if_again u (trees.repeat (k + (length (x ∷ xs) + d - 1)) round) w1 k1)),
    comes_round w (x ∷ xs) q d h (let e : 1 ≤ length (x ∷ xs) = omega arith in e),
  )

-- ---- what is known behind an iteration

module _ (f : Frame) (inside : Inside) (hidden : ℕ → Bool) where
  abbrev pub IsAtTurn : trees.Turn → Store → Turning → Type 0
  IsAtTurn u s q = (w : Words) × Holds f hidden s w × ((k : ℕ) → q k ≡ goes u w k)

  -- the blocks are at the same turn
  abbrev pub Turned : p.Turn → Store → Turning → Type 0
  Turned p.again s q = IsAtTurn trees.again s q
  Turned p.over s q = IsAtTurn trees.over s q
  Turned (p.out (p.left call)) s q = (has_number inside.lands call.0 ≡ true) × IsAtTurn (trees.out (trees.left (land_of call))) s q
  Turned (p.out way) s q = ⊥

  module _ (kept : Point → Bool) (round : Store → ℕ → Ran Store p.Turn) (blocks : Words → ℕ → Ran Words trees.Turn)
      (one : (s : Store) (w : Words) (n : ℕ) → Holds f hidden s w → Follow kept Turned (round s n) (blocks w))
      (far : (s : Store) (n : ℕ) → Advances kept (round s n).trace (round s n).outcome) where
    abbrev Rounds : ℕ → Type 0
    Rounds j = (d : ℕ) (s : Store) (w : Words) (n : ℕ) → Holds f hidden s w → Follow kept Turned (p.repeat j round s n) (λ k. trees.repeat (k + d) blocks w k)

    -- the next one, or the end of the loop
    turned_on : (j e : ℕ) → Rounds j → (u : p.Turn) (s : Store) (n : ℕ) (q : Turning) → Turned u s q
        → Follow kept Turned (p.if_again u (p.repeat j round) s n) (λ k. then_ (q k) (λ u1 w1 k1. trees.if_again u1 (trees.repeat (k + e) blocks) w1 k1))
    turned_on j e ih p.again s n q h =
        follows_same kept Turned (p.repeat j round s n) (λ k. then_ (q k) (λ u1 w1 k1. trees.if_again u1 (trees.repeat (k + e) blocks) w1 k1)) (λ k. trees.repeat (k + e) blocks h.0 k)
        (λ k. ap (λ x. then_ x (λ u1 w1 k1. trees.if_again u1 (trees.repeat (k + e) blocks) w1 k1)) (h.2 k)) (ih e s h.0 n h.1)
    turned_on j e ih p.over s n q h =
        follows_goes kept Turned p.over s n (λ k. then_ (q k) (λ u1 w1 k1. trees.if_again u1 (trees.repeat (k + e) blocks) w1 k1))
        (h.0, h.1, λ k. ap (λ x. then_ x (λ u1 w1 k1. trees.if_again u1 (trees.repeat (k + e) blocks) w1 k1)) (h.2 k))
    turned_on j e ih (p.out p.on) s n q h = elim h [ ]
    turned_on j e ih (p.out p.broke) s n q h = elim h [ ]
    turned_on j e ih (p.out p.continued) s n q h = elim h [ ]
    turned_on j e ih (p.out (p.left call)) s n q h =
        follows_goes kept Turned (p.out (p.left call)) s n (λ k. then_ (q k) (λ u1 w1 k1. trees.if_again u1 (trees.repeat (k + e) blocks) w1 k1))
        (h.0, (h.1.0, h.1.1, λ k. ap (λ x. then_ x (λ u1 w1 k1. trees.if_again u1 (trees.repeat (k + e) blocks) w1 k1)) (h.1.2 k)))

    rounds_then : (j d : ℕ) → Rounds j → (w : Words) (trace : List Point) (o : Outcome Store p.Turn) → Follows kept Turned trace o (blocks w) → Advances kept trace o
        → Follow kept Turned (then_ (ran trace o) (λ u s1 n1. p.if_again u (p.repeat j round) s1 n1)) (λ k. trees.repeat (k + d) blocks w k)
    rounds_then j d ih w trace (went u s n) h some =
        let e = length (filter kept trace) + d - 1 in
        let first = comes_round blocks w (filter kept trace) h.0 d h.1 some in
        let more = p.if_again u (p.repeat j round) s n in
        let x = turned_on j e ih u s n h.0 h.2 in
        let g = λ (k : ℕ). trees.repeat (k + d) blocks w k in (
          x.0,
          subst (λ l. Comes g l x.0) (sym (filter_more kept trace more.trace)) (comes_then g (λ k. then_ (h.0 k) (λ u1 w1 k1. trees.if_again u1 (trees.repeat (k + e) blocks) w1 k1)) x.0 (filter kept trace) (filter kept more.trace) first x.1),
          x.2,
        )
    rounds_then j d ih w trace (undefined rule at) h some =
        let x = some_comes blocks w (filter kept trace) h.0 d h.1 in (x.0, subst (λ l. Comes (λ k. trees.repeat (k + d) blocks w k) (filter kept l) x.0) (sym (append-nil trace)) x.1, tt)
    rounds_then j d ih w trace waiting h some =
        let x = some_comes blocks w (filter kept trace) h.0 d h.1 in (x.0, subst (λ l. Comes (λ k. trees.repeat (k + d) blocks w k) (filter kept l) x.0) (sym (append-nil trace)) x.1, tt)

    pub rounds_follow : (j : ℕ) → Rounds j
    rounds_follow zero d s w n h = follows_waits kept Turned (λ k. trees.repeat (k + d) blocks w k)
    rounds_follow (suc j) d s w n h = rounds_then j d (rounds_follow j) w (round s n).trace (round s n).outcome (one s w n h) (far s n)
