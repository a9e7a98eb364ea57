-- A block that is open, and what control does from within it.
use Rattle.std.proofs.Common.{◌≡◌, ◌∙◌, ℕ, zero, suc, Bool, false, refl, ap, sym, subst, List, [], ◌∷◌, map, Some}
use Rattle.std.specs.Prelude.{slice_get, get_or}
use Rattle.std.proofs.lemmas.List.{append-nil}
use Rattle.hls_base.specs.declared.point.Point.{Point}
use Rattle.c_token.specs.declared.ctype.CType.{CType}
use Rattle.c_value.specs.Values.{width}
use Rattle.hls_base.specs.Steps.{Ran, ran, then_}
use Rattle.hls_base.specs.Valued.{Valued, is, faulty, valued}
use Rattle.c_meaning.specs.PieceRuns.Values.{Store}
use Rattle.c_meaning.specs.PieceRuns.Pieces.{Frame}
use Rattle.ir_core.specs.Bodies.{OpTree, Shapes, Words, Ranged, operations, with_outs}
use Rattle.ir_core.specs.Trees.{next, BlockTree, SequenceTree, sequence, PartTrees}
use Rattle.ir_core.specs.TreeRuns.{Way, way_of, block_left, sequence_run, parts_run}
use Rattle.passes.specs.Lowering.Blocks.{begun}
use Rattle.pass_runs.specs.LowerRuns.OperatorWords.Words.{IsWord}
use Rattle.pass_runs.specs.LowerRuns.Standing.{Stands}
use Rattle.pass_runs.specs.LowerRuns.Showing.{IsAt}
use Rattle.pass_runs.specs.LowerRuns.Following.{beyond}
use Rattle.pass_runs.specs.LowerRuns.Holding.{Holds}
use Rattle.pass_runs.proofs.LowerRuns.LowerControl.Following.{Passes}
use Rattle.pass_runs.proofs.LowerRuns.LowerControl.Outs.{AreSingle, outs_held}
use Rattle.pass_runs.proofs.LowerRuns.LowerControl.Rests.{first_of, rest_of}

ranged : Ranged → Valued Ranged → Ranged
ranged d (is r) = r
ranged d (faulty rule at) = d

one_outcome : (r r' : Ranged) → is r ≡ is r' → r ≡ r'
unfolding ranged
one_outcome r r' e = ap (ranged r) e

-- ---- sequences

module _ (shapes : Shapes) where
  -- the run from within the first block on
  abbrev pub within_block : BlockTree → PartTrees → Words → ℕ → Ran Words Way
  within_block b parts t n = valued (operations shapes b.ops b.ops [] t) (λ r t1 n1. parts_run shapes parts (way_of b.exit r.words r.results) (with_outs b.outs r) n1) t n

  abbrev pub within : SequenceTree → Words → ℕ → Ran Words Way
  within q t n = within_block (first_of q) (rest_of q) t n

  pub sequence_passes : (q : SequenceTree) (t : Words) → Passes (first_of q).point (λ k. sequence_run shapes q t k) (λ k. within q t k)
  sequence_passes (sequence b parts) t = record { none = refl; one = λ k. by k (operations shapes b.ops b.ops [] t) } where
    by : (k : ℕ) (v : Valued Ranged) → then_ (ran (b.point ∷ (valued v (block_left b) t k).trace) (valued v (block_left b) t k).outcome) (λ w t1 n1. parts_run shapes parts w t1 n1)
        ≡ beyond (b.point ∷ []) (valued v (λ r t1 n1. parts_run shapes parts (way_of b.exit r.words r.results) (with_outs b.outs r) n1) t k)
    by k (is r) = refl
    by k (faulty rule at) = refl

  pub performed : (t : Words) (ops : List OpTree) (r : Ranged) → Stands shapes t ops r → operations shapes ops ops [] t ≡ is r
  performed t ops r h = ap (λ l. operations shapes l ops [] t) (sym (append-nil ops)) ∙ h.run []

  -- where its operations are performed
  pub within_is : (b : BlockTree) (parts : PartTrees) (t : Words) (r : Ranged) → Stands shapes t b.ops r → (k : ℕ) → within_block b parts t k ≡ parts_run shapes parts (way_of b.exit r.words r.results) (with_outs b.outs r) k
  within_is b parts t r h k = ap (λ v. valued v (λ r1 t1 n1. parts_run shapes parts (way_of b.exit r1.words r1.results) (with_outs b.outs r1) n1) t k) (performed t b.ops r h)

  -- operations have one outcome
  pub stands_same : (t : Words) (ops : List OpTree) (r r' : Ranged) → Stands shapes t ops r → Stands shapes t ops r' → r ≡ r'
  stands_same t ops r r' h g = one_outcome r r' (sym (performed t ops r h) ∙ performed t ops r' g)

-- ---- blocks that are open

abbrev pub start : Words → Ranged
start t = record { results = []; words = t }

widths_get : (ks : List CType) (i : ℕ) (k : CType) (d : ℕ) → slice_get ks i ≡ Some k → get_or (map width ks) i d ≡ width k
widths_get [] i k d e = absurd cc
widths_get (x ∷ xs) zero k d e = ap width (some_same x k e) where
  some_same : (k l : CType) → Some k ≡ Some l → k ≡ l
  some_same k l e = cc
widths_get (x ∷ xs) (suc i) k d e = widths_get xs i k d e

module _ (f : Frame) where
  -- The operations so far were performed, what variables hold shows the store, each is set at most once, and control comes to the end of the block.
  pub record Opens (hidden : ℕ → Bool) (t : Words) (b : BlockTree) (r : Ranged) (s : Store) : Type 0 where
    pub at : IsAt f hidden t b r s
    pub single : AreSingle b.outs
    pub live : b.exit ≡ next

  pub begun_opens : (hidden : ℕ → Bool) (t : Words) (s : Store) (p : Point) → Holds f hidden s t → Opens hidden t (begun p) (start t) s
  begun_opens hidden t s p h = record {
    at = record {
      stands = record { run = λ later. refl; count = refl };
      shows = record {
        fits = λ i k e. record { early = tt; wide = λ later d. widths_get f.variables i.0 k d e };
        variables = λ i k e apart. h.variables i k e apart;
        arrays = h.arrays;
      };
    };
    single = tt;
    live = refl;
  }

  pub closed_holds : (hidden : ℕ → Bool) (t : Words) (b : BlockTree) (r : Ranged) (s : Store) → IsAt f hidden t b r s → AreSingle b.outs → Holds f hidden s (with_outs b.outs r)
  closed_holds hidden t b r s at single = record {
    variables = λ i k e apart. subst (λ w. IsWord k (s.variables i.0) w) (sym (outs_held b.outs r.words r.results r.words.variables i single refl)) (at.shows.variables i k e apart);
    arrays = at.shows.arrays;
  }

  -- ---- more variables are hidden

  abbrev pub Below : (ℕ → Bool) → (ℕ → Bool) → Type 0
  Below hidden more = (i : ℕ) → more i ≡ false → hidden i ≡ false

  pub holds_weaker : (hidden more : ℕ → Bool) (s : Store) (t : Words) → Below hidden more → Holds f hidden s t → Holds f more s t
  holds_weaker hidden more s t le h = record { variables = λ i k e apart. h.variables i k e (le i.0 apart); arrays = h.arrays }

  pub opens_weaker : (hidden more : ℕ → Bool) (t : Words) (b : BlockTree) (r : Ranged) (s : Store) → Below hidden more → Opens hidden t b r s → Opens more t b r s
  opens_weaker hidden more t b r s le h = record {
    at = record {
      stands = h.at.stands;
      shows = record { fits = h.at.shows.fits; variables = λ i k e apart. h.at.shows.variables i k e (le i.0 apart); arrays = h.at.shows.arrays };
    };
    single = h.single;
    live = h.live;
  }
