-- Several operands, one after another.
use Rattle.std.proofs.Common.{◌≡◌, ℕ, ◌≤◌, ◌∙◌, ◌⊎◌, inl, inr, sym, refl, ap, ℤ, true, false, List, [], ◌∷◌, ◌++◌, append-nil, append_assoc, length, le_refl, le_trans}
use Rattle.c_token.specs.declared.ctype.CType.{CType}
use Rattle.pieces.specs.Resolved.Core as core
use Rattle.pieces.specs.Resolved.Core.{CoreTree, CoreTrees}
use Rattle.pieces.specs.Trees.{PureTree, piece_row, row}
use Rattle.piece_making.specs.declared.frame.Home.{Home}
use Rattle.piece_making.specs.declared.effects.Effects.{Effects}
use Rattle.piece_making.specs.Acting.{either}
use Rattle.piece_making.specs.Making.{Part}
use Rattle.piece_making.specs.Saving.{save}
use Rattle.piece_making.specs.Calls.{Call}
use Rattle.hls_base.specs.Steps.{Ran, goes, then_}
use Rattle.hls_base.specs.Valued.{is, and_then}
use Rattle.hls_base.specs.Same.{Same}
use Rattle.c_meaning.specs.CoreRuns.Kinds.{kind_of}
use Rattle.c_meaning.specs.CoreRuns.Cells.{Spot, Cells, Here}
use Rattle.c_meaning.specs.PieceRuns.Values.{Store, value, values}
use Rattle.c_meaning.specs.PieceRuns.Pieces.{Frame, Way, on}
use Rattle.expand_runs.specs.Reading.{IsTyped, UnaryFits, BinaryFits}
use Rattle.expand_runs.specs.Growing.{IsWithin}
use Rattle.expand_runs.specs.Showing.{Known, IsShown}
use Rattle.expand_runs.specs.Sound.{Objects, Reads, AnyReads}
use Rattle.expand_runs.specs.Evaluating.{ComesOf}
use Rattle.expand_runs.specs.Worlds.{IsWorld}
use Rattle.expand_runs.proofs.Sames.{goes_same, ended_same, same_more}
use Rattle.expand_runs.proofs.Rows.{run_of}
use Rattle.expand_runs.proofs.Holding.{pieces_hold}
use Rattle.expand_runs.proofs.Reading.{reads_more}
use Rattle.expand_runs.proofs.Fine.{AreAllowed}
use Rattle.expand_runs.proofs.Evaluating.{on_same, goes_first}
use Rattle.expand_runs.proofs.Operands.{Saved, safe_more, save_well, value_more, comes_more, OperandsDone}
use Rattle.expand_runs.proofs.ExpressionParts.{Result}

module _ (unary_fits : UnaryFits) (binary_fits : BinaryFits) (f : Frame) (k : ℕ) (here : Here) (c : Call) (o : Objects) (Homes : Spot → Home → Type 0) (Lives : Spot → Type 0) (kinds : Known) (base : ℕ)
    (world : IsWorld f here c o Homes Lives kinds base) where
  abbrev Done : CoreTrees → Effects → ℕ → ℕ → List PureTree → List PureTree → List ℤ → List ℤ → Cells → Way → Store → Type 0
  Done = OperandsDone f here c o Homes Lives kinds base world

  pub none_done : (later : Effects) (low high : ℕ) (before : List PureTree) (bs : List ℤ) (s : Cells) (t : Store) (n : ℕ) → n ≤ k → IsShown f Homes Lives kinds s t → IsTyped f t
      → Same false k (Done core.none later low high before before bs) (goes bs s n) (run_of f [] t n)
  none_done later low high before bs s t n le shown typed =
      goes_same k (Done core.none later low high before before bs) bs s on t n le (record {
        done = record { on_ = refl; shown = shown; typed = typed };
        ys = [];
        vs = [];
        is_given = sym (append-nil before);
        is_values = sym (append-nil bs);
        values = record { same = refl; types = tt; reads = tt };
        safe = tt;
      })

  -- An operand, which is saved where those behind it have effects, and keeps its value while they are evaluated.
  pub more_done : (first : CoreTree) (rest : CoreTrees) (behind later : Effects) (low : ℕ) (before : List PureTree) (bs : List ℤ) (x : Part PureTree) (part : Part (List PureTree)) (q : Ran Cells ℤ) (r : ℤ → Cells → ℕ → Ran Cells (List ℤ)) (t : Store) (n : ℕ)
      → base ≤ low → low ≤ length x.state.variables → length x.state.variables ≤ length (save c.file_variables x.value (either behind later) x.state).state.variables
      → length (save c.file_variables x.value (either behind later) x.state).state.variables ≤ length part.state.variables
      → IsWithin (save c.file_variables x.value (either behind later) x.state).state f
      → Same false k (Result unary_fits binary_fits f k here c o Homes Lives kinds base world true first low (length x.state.variables) x.value) q (run_of f x.pieces t n)
      → ((v : ℤ) (s1 : Cells) (t1 : Store) (n1 : ℕ) → n1 ≤ k → IsShown f Homes Lives kinds s1 t1 → IsTyped f t1
      → Same false k (Done rest later (length (save c.file_variables x.value (either behind later) x.state).state.variables) (length part.state.variables) (before ++ (save c.file_variables x.value (either behind later) x.state).value ∷ []) part.value (bs ++ v ∷ [])) (r v s1 n1) (run_of f part.pieces t1 n1))
      → ((v : ℤ) (s1 : Cells) (t1 : Store) → Saved f here c o Homes Lives kinds base world (λ y. Reads y first) low (kind_of first) v (either behind later) s1 t1 (save c.file_variables x.value (either behind later) x.state)
      → AreAllowed f (λ t2. value f.arrays (save c.file_variables x.value (either behind later) x.state).value t2 ≡ is v) part.pieces)
      → Same false k (Done (core.more first rest) later low (length part.state.variables) before part.value bs) (then_ q (λ v s1 n1. r v s1 n1))
      (run_of f (x.pieces ++ ((save c.file_variables x.value (either behind later) x.state).pieces ++ part.pieces)) t n)
  more_done first rest behind later low before bs x part q r t n low_base low_x save_more part_more within h next keeps =
      let sv = save c.file_variables x.value (either behind later) x.state in
      let high = length part.state.variables in
      let R = Result unary_fits binary_fits f k here c o Homes Lives kinds base world true first low (length x.state.variables) x.value in
      let Q = Done (core.more first rest) later low high before part.value bs in
      on_same f k R Q x.pieces (sv.pieces ++ part.pieces) q (λ v s1 n1. r v s1 n1) t n h (λ v s w t1 a. a.done.on_)
      (λ v s w t1 n1 le a.
      let d = save_well f here c o Homes Lives kinds base world unary_fits binary_fits (λ y. Reads y first) low x.value (kind_of first) v (either behind later) x.state s t1 low_base low_x a.done.shown a.done.typed (a.value tt) within in
      let J = λ (t2 : Store). value f.arrays sv.value t2 ≡ is v in
      let rest_done = Done rest later (length sv.state.variables) high (before ++ sv.value ∷ []) part.value (bs ++ v ∷ []) in
      goes_first f k Q sv.pieces part.pieces (r v s n1) t1 d.after n1 d.goes
      (same_more k k (λ js s2 w2 t3. rest_done js s2 w2 t3 × J t3) Q (r v s n1) (run_of f part.pieces d.after n1) (le_refl k)
      (λ js s2 w2 t3 z. record {
        done = z.0.done;
        ys = sv.value ∷ z.0.ys;
        vs = v ∷ z.0.vs;
        is_given = z.0.is_given ∙ append_assoc before (sv.value ∷ []) z.0.ys;
        is_values = z.0.is_values ∙ append_assoc bs (v ∷ []) z.0.vs;
        values = record {
          same =
              ap (λ p. and_then p (λ y. and_then (values f.arrays (row z.0.ys) t3) (λ ws. is (y ∷ ws)))) z.1
              ∙ ap (λ p. and_then p (λ ws. is (v ∷ ws))) z.0.values.same;
          types = (d.value.types, z.0.values.types);
          reads = (
            (value_more f here c o Homes Lives kinds base world (λ y. Reads y first) (λ y. Reads y first ⊎ AnyReads y rest) low low (length sv.state.variables) high sv.value (kind_of first) v d.after (λ y g. inl g) (le_refl low) part_more d.value).reads,
            reads_more (ComesOf c (λ y. AnyReads y rest) (length sv.state.variables) high) (ComesOf c (λ y. Reads y first ⊎ AnyReads y rest) low high)
                (λ i g. comes_more f here c o Homes Lives kinds base world (λ y. AnyReads y rest) (λ y. Reads y first ⊎ AnyReads y rest) (length sv.state.variables) low high high i (λ y e. inr e) (le_trans low_x save_more) (le_refl high) g) (row z.0.ys) z.0.values.reads,
          );
        };
        safe = (safe_more f here c o Homes Lives kinds base world behind later sv.value d.safe, z.0.safe);
      })
      (ended_same k rest_done J (r v s n1) (run_of f part.pieces d.after n1) (pieces_hold J f (piece_row part.pieces) (keeps v s t1 d) d.after n1 d.value.same) (next v s d.after n1 le d.shown d.typed))))
