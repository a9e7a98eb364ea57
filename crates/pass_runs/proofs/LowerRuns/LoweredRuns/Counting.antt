-- How many points pieces pass, and how few of them are dropped.
use Rattle.std.proofs.Common.{◌≡◌, ℕ, zero, suc, ◌+◌, ◌*◌, ◌≤◌, arith, Bool, true, false, refl, sym, subst, ℤ, List, [], ◌∷◌, length, append-nil, Option, Some, None, filter, if◌then◌else◌}
use Rattle.std.specs.Prelude.{◌==◌, slice_get}
use Rattle.hls_base.specs.declared.place.Place.{Place}
use Rattle.hls_base.specs.declared.point.Point.{Point}
use Rattle.c_value.specs.Operators.{is_true}
use Rattle.hls_base.specs.Steps.{Outcome, went, undefined, waiting, Ran, ran, goes, then_, pass}
use Rattle.hls_base.specs.Valued.{Valued, is, faulty, valued}
use Rattle.pieces.specs.declared.piece.CallId.{CallId}
use Rattle.pieces.specs.declared.piece.Label.{Label}
use Rattle.pieces.specs.Kind.{kind}
use Rattle.pieces.specs.Trees as tree
use Rattle.pieces.specs.Trees.{PureTree, PieceTree, PieceTrees}
use Rattle.hls_base.specs.declared.refusal.UbRule.TheVariants as ub
use Rattle.c_value.specs.Values.{convert, number_of}
use Rattle.c_meaning.specs.PieceRuns.Values.{Store, with_variable, with_element, element_number, value, values}
use Rattle.c_meaning.specs.PieceRuns.Pieces as p
use Rattle.c_meaning.specs.PieceRuns.Pieces.{Frame, piece_run, pieces_run, landed, from_piece}
use Rattle.passes.specs.Lowering.Shapes.{any_continues, first_point}
use Rattle.passes.specs.Lowering.{is_named}
use Rattle.pass_runs.specs.LowerRuns.LoweredTrees.Fitting.{ends_in, ends_before_arm}
use Rattle.pass_runs.specs.LowerRuns.Following.{IsMeasured}
use Rattle.pass_runs.specs.LowerRuns.Suiting.{with_hidden, hidden_behind, PieceSuits, BeginSuits, PiecesSuit, ArmsSuit}
use Rattle.pass_runs.proofs.LowerRuns.LowerControl.Suits.{SidesSuit, AloneSuits, StepSuits, ArmSuits}
use Rattle.pass_runs.proofs.LowerRuns.LowerControl.Measuring.{Measured, measured_goes, measured_fails, measured_then, measured_more, beyond_measured, measured_kept, measured_dropped}

mutual
  pub piece_marks : PieceTree → ℕ
  piece_marks (tree.set name value1) = 0
  piece_marks (tree.put array subscripts value1 at) = 0
  piece_marks (tree.fork test yes_ no_ end) = pieces_marks yes_ + pieces_marks no_
  piece_marks (tree.repeat_ id post before test body step end) = pieces_marks before + pieces_marks body + pieces_marks step
  piece_marks (tree.pick test labels body end) = pieces_marks body
  piece_marks tree.break_ = 0
  piece_marks tree.next_ = 0
  piece_marks (tree.leave call1) = 0
  piece_marks (tree.land other end) = 0
  piece_marks (tree.mark point) = 1

  pub pieces_marks : PieceTrees → ℕ
  pieces_marks tree.no_pieces = 0
  pieces_marks (tree.then_ piece rest) = piece_marks piece + pieces_marks rest

module _ (f : Frame) (kept : Point → Bool) (most : ℕ) where
  abbrev M : {A : Type 0} → ℕ → ℕ → ℕ → Ran Store A → Type 0
  M n a b r = Measured kept most n a b r

  -- a value that may have a fault
  valued_measured : {A B : Type 0} (v : Valued B) (next : B → Store → ℕ → Ran Store A) (s : Store) (n a b : ℕ) → ((x : B) → M n a b (next x s n)) → M n a b (valued v next s n)
  valued_measured (is x) next s n a b h = h x
  valued_measured {A} (faulty rule at) next s n a b h = measured_fails kept most Store A rule at n a b

  then_measured : {A B : Type 0} (n a b c : ℕ) (r : Ran Store A) (next : A → Store → ℕ → Ran Store B) → M n a b r → ((v : A) (s : Store) (m : ℕ) → M m b c (next v s m)) → M n a c (then_ r next)
  then_measured n a b c r next h g = measured_then kept most n a b c r.trace r.outcome next h g

  more : {A : Type 0} (n a b a' b' : ℕ) (r : Ran Store A) → a + b' ≤ a' + b → a ≤ a' → M n a b r → M n a' b' r
  more n a b a' b' r l1 l2 h = measured_more kept most n a b a' b' r.trace r.outcome l1 l2 h

  if_measured : {A : Type 0} (c : Bool) (n a b : ℕ) (r q : Ran Store A) → M n a b r → M n a b q → M n a b (if c then r else q)
  if_measured true n a b r q h g = h
  if_measured false n a b r q h g = g

  goes_m : {A : Type 0} (v : A) (s : Store) (n a b : ℕ) → b ≤ a → M n a b (goes v s n)
  goes_m v s n a b le = measured_goes kept most v s n a b le

  behind_kept : (end : Point) (s : Store) (n a b : ℕ) → kept end ≡ true → suc b ≤ most → M n a b (p.behind end s n)
  behind_kept end s n a b e le = then_measured n a b b (pass end s n) (λ u t1 n1. goes p.on t1 n1) (measured_kept kept most end s n a b e (omega (arith, le))) (λ v s1 m. goes_m p.on s1 m b b (omega arith))

  -- a mark, whether it is kept or not
  mark_measured : (point : Point) (s : Store) (n : ℕ) → 1 ≤ most → M n 1 0 (p.behind point s n)
  mark_measured point s n le = by (kept point) refl where
    by : (c : Bool) → kept point ≡ c → M n 1 0 (p.behind point s n)
    by true e = behind_kept point s n 1 0 e le
    by false e = then_measured n 1 0 0 (pass point s n) (λ u t1 n1. goes p.on t1 n1) (measured_dropped kept most point s n 1 0 e (omega arith)) (λ v s1 m. goes_m p.on s1 m 0 0 (omega arith))

  fork_behind : (w : p.Way) (end : Point) (s : Store) (n : ℕ) → kept end ≡ true → 1 ≤ most → M n 0 0 (p.behind_fork w end s n)
  fork_behind p.on end s n e le = behind_kept end s n 0 0 e le
  fork_behind p.broke end s n e le = goes_m p.broke s n 0 0 (omega arith)
  fork_behind p.continued end s n e le = goes_m p.continued s n 0 0 (omega arith)
  fork_behind (p.left call) end s n e le = goes_m (p.left call) s n 0 0 (omega arith)

  switch_behind : (w : p.Way) (end : Point) (s : Store) (n : ℕ) → kept end ≡ true → 1 ≤ most → M n 0 0 (p.behind_switch w end s n)
  switch_behind p.on end s n e le = behind_kept end s n 0 0 e le
  switch_behind p.broke end s n e le = behind_kept end s n 0 0 e le
  switch_behind p.continued end s n e le = goes_m p.continued s n 0 0 (omega arith)
  switch_behind (p.left call) end s n e le = goes_m (p.left call) s n 0 0 (omega arith)

  loop_behind : (u : p.Turn) (end : Point) (s : Store) (n : ℕ) → kept end ≡ true → 1 ≤ most → M n 0 0 (p.behind_loop u end s n)
  loop_behind p.again end s n e le = behind_kept end s n 0 0 e le
  loop_behind p.over end s n e le = behind_kept end s n 0 0 e le
  loop_behind (p.out w) end s n e le = goes_m w s n 0 0 (omega arith)

  -- ---- loops

  again_measured : (u : p.Turn) (part : Store → ℕ → Ran Store p.Turn) (s : Store) (n a b : ℕ) → b ≤ a → M n a b (part s n) → M n a b (p.if_again u part s n)
  again_measured p.again part s n a b le h = h
  again_measured p.over part s n a b le h = goes_m p.over s n a b le
  again_measured (p.out w) part s n a b le h = goes_m (p.out w) s n a b le

  turned_measured : (part : Store → ℕ → Ran Store p.Way) (s : Store) (n a b : ℕ) → M n a b (part s n) → M n a b (p.turned part s n)
  turned_measured part s n a b h = then_measured n a b b (part s n) (λ w t1 n1. goes (p.turn_of w) t1 n1) h (λ v s1 m. goes_m (p.turn_of v) s1 m b b (omega arith))

  tested_measured : (before : Store → ℕ → Ran Store p.Way) (test : PureTree) (s : Store) (n a b : ℕ) → M n a b (before s n) → M n a b (p.tested f before test s n)
  tested_measured before test s n a b h =
      then_measured n a b b (before s n) (λ w t1 n1. valued (value f.arrays test t1) (λ x t2 n2. goes (is_true x) t2 n2) t1 n1) h
      (λ v s1 m. valued_measured (value f.arrays test s1) (λ x t2 n2. goes (is_true x) t2 n2) s1 m b b (λ x. goes_m (is_true x) s1 m b b (omega arith)))

  advanced : (trace : List Point) → length trace + 1 ≤ 0 + most * length (filter kept trace) → 1 ≤ length trace
  advanced [] h = let z : most * length (filter kept []) ≡ 0 = omega arith in absurd (omega (arith, z, h))
  advanced (x ∷ xs) h = let e : 1 ≤ length (x ∷ xs) = omega arith in e

  module _ (round : Store → ℕ → Ran Store p.Turn) (one : (s : Store) (n : ℕ) → M n 0 1 (round s n)) where
    abbrev Rest : ℕ → p.Turn → Store → ℕ → Ran Store p.Turn
    Rest j w t1 n1 = p.if_again w (p.repeat j round) t1 n1

    next_measured : (j n m : ℕ) → ((s : Store) (k : ℕ) → k ≤ j → M k 0 0 (p.repeat j round s k)) → m ≤ j → (u : p.Turn) (s : Store) → M m 0 0 (Rest j u s m)
    next_measured j n m ih le u s = again_measured u (p.repeat j round) s m 0 0 (omega arith) (ih s m le)

    round_then : (j n : ℕ) → n ≤ suc j → ((s : Store) (k : ℕ) → k ≤ j → M k 0 0 (p.repeat j round s k)) → (trace : List Point) (o : Outcome Store p.Turn) → IsMeasured kept most n 0 1 trace o → M n 0 0 (then_ (ran trace o) (Rest j))
    round_then j n le ih trace (went u s1 m) h =
        let le1 : m ≤ j = (let a = advanced trace h.1 in omega (arith, a, h.0, le)) in
        beyond_measured kept most n m trace (Rest j u s1 m) h.0 (omega (arith, h.1)) (next_measured j n m ih le1 u s1)
    round_then j n le ih trace (undefined rule at) h = subst (λ l. IsMeasured {S = Store} {A = p.Turn} kept most n 0 0 l (undefined rule at)) (sym (append-nil trace)) h
    round_then j n le ih trace waiting h = subst (λ l. IsMeasured {S = Store} {A = p.Turn} kept most n 0 0 l waiting) (sym (append-nil trace)) h

    pub repeat_measured : (j n : ℕ) → n ≤ j → (s : Store) → M n 0 0 (p.repeat j round s n)
    repeat_measured zero n le s = (omega (arith, le), omega arith)
    repeat_measured (suc j) n le s = round_then j n le (λ s1 k le1. repeat_measured j k le1 s1) (round s n).trace (round s n).outcome (one s n)

  first_measured : (before body step : Store → ℕ → Ran Store p.Way) (test : PureTree) (c : ℕ) → ((s : Store) (n : ℕ) → M n 0 1 (before s n)) → ((s : Store) (n : ℕ) → M n 0 (c + 1) (body s n)) → ((s : Store) (n : ℕ) → M n c 0 (step s n))
      → (s : Store) (n : ℕ) → M n 0 1 (p.test_first f before test body step s n)
  first_measured before body step test c h1 h2 h3 s n =
      then_measured n 0 1 1 (p.tested f before test s n) (λ holds t1 n1. if holds then then_ (p.turned body t1 n1) (λ w t2 n2. p.if_again w (p.turned step) t2 n2) else goes p.over t1 n1) (tested_measured before test s n 0 1 (h1 s n))
      (λ holds s1 m. if_measured holds m 1 1 (then_ (p.turned body s1 m) (λ w t2 n2. p.if_again w (p.turned step) t2 n2)) (goes p.over s1 m)
      (then_measured m 1 (c + 1) 1 (p.turned body s1 m) (λ w t2 n2. p.if_again w (p.turned step) t2 n2)
      (more m 0 (c + 1) 1 (c + 1) (p.turned body s1 m) (omega arith) (omega arith) (turned_measured body s1 m 0 (c + 1) (h2 s1 m)))
      (λ u s2 k. again_measured u (p.turned step) s2 k (c + 1) 1 (omega arith) (more k c 0 (c + 1) 1 (p.turned step s2 k) (omega arith) (omega arith) (turned_measured step s2 k c 0 (h3 s2 k)))))
      (goes_m p.over s1 m 1 1 (omega arith)))

  last_measured : (before body : Store → ℕ → Ran Store p.Way) (test : PureTree) → ((s : Store) (n : ℕ) → M n 0 1 (before s n)) → ((s : Store) (n : ℕ) → M n 0 1 (body s n)) → (s : Store) (n : ℕ) → M n 0 1 (p.test_last f before test body s n)
  last_measured before body test h1 h2 s n =
      let retested = λ (t2 : Store) (n2 : ℕ). then_ (p.tested f before test t2 n2) (λ holds t3 n3. goes (if holds then p.again else p.over) t3 n3) in
      then_measured n 0 1 1 (p.turned body s n) (λ w t1 n1. p.if_again w retested t1 n1) (turned_measured body s n 0 1 (h2 s n))
      (λ u s1 m. again_measured u retested s1 m 1 1 (omega arith)
      (then_measured m 1 1 1 (p.tested f before test s1 m) (λ holds t3 n3. goes (if holds then p.again else p.over) t3 n3)
      (more m 0 1 1 1 (p.tested f before test s1 m) (omega arith) (omega arith) (tested_measured before test s1 m 0 1 (h1 s1 m)))
      (λ holds s2 k. goes_m (if holds then p.again else p.over) s2 k 1 1 (omega arith))))

  -- ---- pieces one after another

  abbrev ListMeasured : PieceTrees → Type 0
  ListMeasured pieces = (s : Store) (n : ℕ) → M n (pieces_marks pieces) 0 (pieces_run f pieces s n)

  list_next : (pieces : PieceTrees) → ListMeasured pieces → ((call : CallId) (s : Store) (n : ℕ) → M n (pieces_marks pieces) 0 (landed f pieces call s n)) → (way : p.Way) (s : Store) (n : ℕ)
      → M n (pieces_marks pieces) 0 (p.behind_piece (λ t2 n2. pieces_run f pieces t2 n2) (λ call t2 n2. landed f pieces call t2 n2) way s n)
  list_next pieces h g p.on s n = h s n
  list_next pieces h g p.broke s n = goes_m p.broke s n (pieces_marks pieces) 0 (omega arith)
  list_next pieces h g p.continued s n = goes_m p.continued s n (pieces_marks pieces) 0 (omega arith)
  list_next pieces h g (p.left call) s n = g call s n

  list_measured : (piece : PieceTree) (pieces : PieceTrees) → ((s : Store) (n : ℕ) → M n (piece_marks piece) 0 (piece_run f piece s n)) → ListMeasured pieces → ((call : CallId) (s : Store) (n : ℕ) → M n (pieces_marks pieces) 0 (landed f pieces call s n))
      → ListMeasured (tree.then_ piece pieces)
  unfolding piece_marks pieces_marks
  list_measured piece pieces h1 h2 h3 s n =
      let a = piece_marks piece in
      let b = pieces_marks pieces in
      then_measured n (a + b) b 0 (piece_run f piece s n) (λ w t1 n1. p.behind_piece (λ t2 n2. pieces_run f pieces t2 n2) (λ call t2 n2. landed f pieces call t2 n2) w t1 n1)
      (more n a 0 (a + b) b (piece_run f piece s n) (omega arith) (omega arith) (h1 s n)) (list_next pieces h2 h3)

  skip_measured : (piece : PieceTree) (pieces : PieceTrees) (r : Ran Store p.Way) (n : ℕ) → M n (pieces_marks pieces) 0 r → M n (piece_marks piece + pieces_marks pieces) 0 r
  skip_measured piece pieces r n h = more n (pieces_marks pieces) 0 (piece_marks piece + pieces_marks pieces) 0 r (omega arith) (omega arith) h

  landing_measured : (call other : CallId) (end : Point) (pieces : PieceTrees) → kept end ≡ true → suc (suc (pieces_marks pieces)) ≤ most → ListMeasured pieces → (s : Store) (n : ℕ) → M n (pieces_marks pieces) 0 (landed f pieces call s n)
      → M n (0 + pieces_marks pieces) 0 (if call.0 == other.0 then then_ (p.behind end s n) (λ w t1 n1. pieces_run f pieces t1 n1) else landed f pieces call s n)
  landing_measured call other end pieces e le h s n g =
      more n (pieces_marks pieces) 0 (0 + pieces_marks pieces) 0 _ (omega arith) (omega arith)
      (if_measured (call.0 == other.0) n (pieces_marks pieces) 0 (then_ (p.behind end s n) (λ w t1 n1. pieces_run f pieces t1 n1)) (landed f pieces call s n)
      (then_measured n (pieces_marks pieces) (pieces_marks pieces) 0 (p.behind end s n) (λ w t1 n1. pieces_run f pieces t1 n1) (behind_kept end s n (pieces_marks pieces) (pieces_marks pieces) e (omega (arith, le))) (λ w s1 m. h s1 m)) g)

  -- ---- branches without points, and arms

  abbrev IsBegun : PieceTrees → Type 0
  IsBegun pieces = (c : ℕ) (lands : List ℕ) (hidden : ℕ → Bool) → suc (c + pieces_marks pieces) ≤ most → BeginSuits f kept lands hidden pieces → (s : Store) (n : ℕ) → M n 0 c (pieces_run f pieces s n)

  from_begun : (pieces : PieceTrees) → IsBegun pieces → (lands : List ℕ) (hidden : ℕ → Bool) → suc (suc (pieces_marks pieces)) ≤ most → BeginSuits f kept lands hidden pieces → ListMeasured pieces
  from_begun pieces ih lands hidden le suits s n = more n 0 0 (pieces_marks pieces) 0 (pieces_run f pieces s n) (omega arith) (omega arith) (ih 0 lands hidden (omega (arith, le)) suits s n)

  alone_measured : (own other : PieceTrees) (lands : List ℕ) (hidden : ℕ → Bool) → suc (suc (pieces_marks own + pieces_marks other)) ≤ most → IsBegun own → AloneSuits f kept lands hidden own other → ListMeasured own × ListMeasured other
  unfolding piece_marks pieces_marks
  alone_measured own tree.no_pieces lands hidden le ih suits = (from_begun own ih lands hidden (omega (arith, le)) suits, λ s n. goes_m p.on s n 0 0 (omega arith))
  alone_measured own (tree.then_ (tree.set name (tree.number word k)) tree.no_pieces) lands hidden le ih suits =
      (from_begun own ih [] (with_hidden hidden name.0) (omega (arith, le)) suits.2, λ s n. goes_m p.on (with_variable name.0 (convert (p.type_of (slice_get f.variables name.0)) (number_of k word)) s) n 0 0 (omega arith))
  alone_measured own (tree.then_ (tree.set name (tree.number word k)) (tree.then_ first rest)) lands hidden le ih suits = elim suits [ ]
  alone_measured own (tree.then_ (tree.set name (tree.variable v k)) rest) lands hidden le ih suits = elim suits [ ]
  alone_measured own (tree.then_ (tree.set name (tree.element array subscripts k at)) rest) lands hidden le ih suits = elim suits [ ]
  alone_measured own (tree.then_ (tree.set name (tree.unary op arg k at)) rest) lands hidden le ih suits = elim suits [ ]
  alone_measured own (tree.then_ (tree.set name (tree.binary op left right k at)) rest) lands hidden le ih suits = elim suits [ ]
  alone_measured own (tree.then_ (tree.set name (tree.choice test left right k)) rest) lands hidden le ih suits = elim suits [ ]
  alone_measured own (tree.then_ (tree.set name (tree.cast to arg)) rest) lands hidden le ih suits = elim suits [ ]
  alone_measured own (tree.then_ (tree.put array subscripts value1 at) rest) lands hidden le ih suits = elim suits [ ]
  alone_measured own (tree.then_ (tree.fork test yes_ no_ end) rest) lands hidden le ih suits = elim suits [ ]
  alone_measured own (tree.then_ (tree.repeat_ id post before test body step end) rest) lands hidden le ih suits = elim suits [ ]
  alone_measured own (tree.then_ (tree.pick test labels body end) rest) lands hidden le ih suits = elim suits [ ]
  alone_measured own (tree.then_ tree.break_ rest) lands hidden le ih suits = elim suits [ ]
  alone_measured own (tree.then_ tree.next_ rest) lands hidden le ih suits = elim suits [ ]
  alone_measured own (tree.then_ (tree.leave call1) rest) lands hidden le ih suits = elim suits [ ]
  alone_measured own (tree.then_ (tree.land other end) rest) lands hidden le ih suits = elim suits [ ]
  alone_measured own (tree.then_ (tree.mark point) rest) lands hidden le ih suits = elim suits [ ]

  sides_measured : (yes_ no_ : PieceTrees) (lands : List ℕ) (hidden : ℕ → Bool) → suc (suc (pieces_marks yes_ + pieces_marks no_)) ≤ most → IsBegun yes_ → IsBegun no_ → (o1 o2 : Option Point) → SidesSuit f kept lands hidden o1 o2 yes_ no_ → ListMeasured yes_ × ListMeasured no_
  sides_measured yes_ no_ lands hidden le ih1 ih2 (Some p1) (Some p2) suits = (from_begun yes_ ih1 lands hidden (omega (arith, le)) suits.0, from_begun no_ ih2 lands hidden (omega (arith, le)) suits.1)
  sides_measured yes_ no_ lands hidden le ih1 ih2 (Some p1) None suits = alone_measured yes_ no_ lands hidden le ih1 suits
  sides_measured yes_ no_ lands hidden le ih1 ih2 None (Some p2) suits =
      let h = alone_measured no_ yes_ lands hidden (omega (arith, le)) ih2 suits in (h.1, h.0)
  sides_measured yes_ no_ lands hidden le ih1 ih2 None None suits = elim suits [ ]

  fork_measured : (test : PureTree) (yes_ no_ : PieceTrees) (end : Point) → kept end ≡ true → 1 ≤ most → ListMeasured yes_ × ListMeasured no_ → (s : Store) (n : ℕ) → M n (pieces_marks yes_ + pieces_marks no_) 0 (piece_run f (tree.fork test yes_ no_ end) s n)
  fork_measured test yes_ no_ end e le h s n =
      let a = pieces_marks yes_ + pieces_marks no_ in
      valued_measured (value f.arrays test s) (λ x t1 n1. then_ (if is_true x then pieces_run f yes_ t1 n1 else pieces_run f no_ t1 n1) (λ w t2 n2. p.behind_fork w end t2 n2)) s n a 0
      (λ x. then_measured n a 0 0 (if is_true x then pieces_run f yes_ s n else pieces_run f no_ s n) (λ w t2 n2. p.behind_fork w end t2 n2)
      (if_measured (is_true x) n a 0 (pieces_run f yes_ s n) (pieces_run f no_ s n)
      (more n (pieces_marks yes_) 0 a 0 (pieces_run f yes_ s n) (omega arith) (omega arith) (h.0 s n))
      (more n (pieces_marks no_) 0 a 0 (pieces_run f no_ s n) (omega arith) (omega arith) (h.1 s n)))
      (λ w s1 m. fork_behind w end s1 m e le))

  step_measured : (c : Bool) (step : PieceTrees) (lands : List ℕ) (hidden : ℕ → Bool) → suc (suc (pieces_marks step)) ≤ most → IsBegun step → ((s : Store) (n : ℕ) → PiecesSuit f kept lands hidden hidden step → M n (pieces_marks step) 0 (pieces_run f step s n)) → StepSuits f kept lands hidden c step → ListMeasured step
  unfolding piece_marks pieces_marks
  step_measured true tree.no_pieces lands hidden le ih1 ih2 suits = λ s n. goes_m p.on s n 0 0 (omega arith)
  step_measured true (tree.then_ first rest) lands hidden le ih1 ih2 suits = from_begun (tree.then_ first rest) ih1 lands hidden le suits
  step_measured false step lands hidden le ih1 ih2 suits = λ s n. ih2 s n suits.0

  round_measured : (post : Bool) (before : PieceTrees) (test : PureTree) (body step : PieceTrees) → ((s : Store) (n : ℕ) → M n 0 1 (pieces_run f before s n)) → ((s : Store) (n : ℕ) → M n 0 (pieces_marks step + 1) (pieces_run f body s n)) → ListMeasured step
      → (s : Store) (n : ℕ) → M n 0 1 ((if post then p.test_last f (pieces_run f before) test (pieces_run f body) else p.test_first f (pieces_run f before) test (pieces_run f body) (pieces_run f step)) s n)
  round_measured true before test body step h1 h2 h3 s n = last_measured (pieces_run f before) (pieces_run f body) test h1 (λ s1 m. more m 0 (pieces_marks step + 1) 0 1 (pieces_run f body s1 m) (omega arith) (omega arith) (h2 s1 m)) s n
  round_measured false before test body step h1 h2 h3 s n = first_measured (pieces_run f before) (pieces_run f body) (pieces_run f step) test (pieces_marks step) h1 h2 h3 s n

  loop_measured : (post : Bool) (before : PieceTrees) (test : PureTree) (body step : PieceTrees) (end : Point) → kept end ≡ true → 1 ≤ most
      → ((s : Store) (n : ℕ) → M n 0 1 ((if post then p.test_last f (pieces_run f before) test (pieces_run f body) else p.test_first f (pieces_run f before) test (pieces_run f body) (pieces_run f step)) s n))
      → (s : Store) (n a : ℕ) → M n a 0 (then_ (p.repeat n (if post then p.test_last f (pieces_run f before) test (pieces_run f body) else p.test_first f (pieces_run f before) test (pieces_run f body) (pieces_run f step)) s n) (λ u t1 n1. p.behind_loop u end t1 n1))
  loop_measured post before test body step end e le one s n a =
      let round = if post then p.test_last f (pieces_run f before) test (pieces_run f body) else p.test_first f (pieces_run f before) test (pieces_run f body) (pieces_run f step) in
      let all = then_ (p.repeat n round s n) (λ u t1 n1. p.behind_loop u end t1 n1) in
      more n 0 0 a 0 all (omega arith) (omega arith) (then_measured n 0 0 0 (p.repeat n round s n) (λ u t1 n1. p.behind_loop u end t1 n1) (repeat_measured round one n n (omega arith) s) (λ u s1 m. loop_behind u end s1 m e le))

  -- an arm's piece: one with a label is a mark
  arm_piece : (c : Bool) (piece : PieceTree) (lands : List ℕ) (hidden : ℕ → Bool) → 1 ≤ most → ArmSuits f kept c lands hidden piece → (PieceSuits f kept lands hidden piece → (s : Store) (n : ℕ) → M n (piece_marks piece) 0 (piece_run f piece s n)) → (s : Store) (n : ℕ) → M n (piece_marks piece) 0 (piece_run f piece s n)
  unfolding piece_marks pieces_marks
  arm_piece true (tree.set name value1) lands hidden le suits h s n = elim suits [ ]
  arm_piece true (tree.put array subscripts value1 at) lands hidden le suits h s n = elim suits [ ]
  arm_piece true (tree.fork test yes_ no_ end) lands hidden le suits h s n = elim suits [ ]
  arm_piece true (tree.repeat_ id post before test body step end) lands hidden le suits h s n = elim suits [ ]
  arm_piece true (tree.pick test labels body end) lands hidden le suits h s n = elim suits [ ]
  arm_piece true tree.break_ lands hidden le suits h s n = elim suits [ ]
  arm_piece true tree.next_ lands hidden le suits h s n = elim suits [ ]
  arm_piece true (tree.leave call1) lands hidden le suits h s n = elim suits [ ]
  arm_piece true (tree.land other end) lands hidden le suits h s n = elim suits [ ]
  arm_piece true (tree.mark point) lands hidden le suits h s n = mark_measured point s n le
  arm_piece false piece lands hidden le suits h s n = h suits s n

  land_kept : (c : Bool) (call : CallId) (end : Point) (lands : List ℕ) (hidden : ℕ → Bool) → ArmSuits f kept c lands hidden (tree.land call end) → kept end ≡ true
  land_kept true call end lands hidden suits = elim suits [ ]
  land_kept false call end lands hidden suits = suits

  put_measured : (array : ℕ) (o : Option ℕ) (x : ℤ) (at : Place) (s : Store) (n : ℕ) → M n 0 0 (p.put_at f array o x at s n)
  put_measured array None x at s n = measured_fails kept most Store p.Way ub.Index at n 0 0
  put_measured array (Some i) x at s n = goes_m p.on (with_element array i (convert (p.kind_at f.arrays array) x) s) n 0 0 (omega arith)

  target_measured : (pieces : PieceTrees) → ((k : ℕ) (s : Store) (n : ℕ) → M n (pieces_marks pieces) 0 (from_piece f pieces k s n)) → (o : Option ℕ) (s : Store) (n : ℕ) → M n (pieces_marks pieces) 0 (p.from_target o (λ k t1 n1. from_piece f pieces k t1 n1) s n)
  target_measured pieces h None s n = goes_m p.on s n (pieces_marks pieces) 0 (omega arith)
  target_measured pieces h (Some k) s n = h k s n

  mutual
    unfolding piece_marks pieces_marks

    piece_measured : (piece : PieceTree) (lands : List ℕ) (hidden : ℕ → Bool) → suc (suc (piece_marks piece)) ≤ most → PieceSuits f kept lands hidden piece → (s : Store) (n : ℕ) → M n (piece_marks piece) 0 (piece_run f piece s n)
    piece_measured (tree.set name x) lands hidden le suits s n = valued_measured (value f.arrays x s) (p.set f name.0) s n 0 0 (λ y. goes_m p.on (with_variable name.0 (convert (p.type_of (slice_get f.variables name.0)) y) s) n 0 0 (omega arith))
    piece_measured (tree.put array subscripts x at) lands hidden le suits s n =
        valued_measured (values f.arrays subscripts s) (λ is_ t1. valued (value f.arrays x t1) (λ y t2. p.put_at f array.0 (element_number f.arrays array.0 is_) y at t2) t1) s n 0 0
        (λ is_. valued_measured (value f.arrays x s) (λ y t2. p.put_at f array.0 (element_number f.arrays array.0 is_) y at t2) s n 0 0 (λ y. put_measured array.0 (element_number f.arrays array.0 is_) y at s n))
    piece_measured (tree.fork test yes_ no_ end) lands hidden le suits s n =
        fork_measured test yes_ no_ end suits.1 (omega (arith, le)) (sides_measured yes_ no_ lands hidden le (begin_measured yes_) (begin_measured no_) (first_point yes_) (first_point no_) suits.2) s n
    piece_measured (tree.repeat_ id post before test body step end) lands hidden le suits s n =
        loop_measured post before test body step end suits.1 (omega (arith, le))
        (round_measured post before test body step (begin_measured before 1 [] hidden (omega (arith, le)) suits.2) (begin_measured body (pieces_marks step + 1) lands hidden (omega (arith, le)) suits.3)
        (step_measured (any_continues body) step lands hidden (omega (arith, le)) (begin_measured step) (λ s1 m suit. pieces_measured step lands hidden hidden (omega (arith, le)) suit s1 m) suits.4)) s n _
    piece_measured (tree.pick test labels body end) lands hidden le suits s n =
        let a = pieces_marks body in
        valued_measured (value f.arrays test s) (λ x t1 n1. then_ (p.from_target (p.target (p.switch_word (kind test) x) labels) (λ k t2 n2. from_piece f body k t2 n2) t1 n1) (λ w t2 n2. p.behind_switch w end t2 n2)) s n a 0
        (λ x. then_measured n a 0 0 (p.from_target (p.target (p.switch_word (kind test) x) labels) (λ k t2 n2. from_piece f body k t2 n2) s n) (λ w t2 n2. p.behind_switch w end t2 n2)
        (target_measured body (λ k s1 m. from_measured body labels 0 lands hidden le suits.3 k s1 m) (p.target (p.switch_word (kind test) x) labels) s n) (λ w s1 m. switch_behind w end s1 m suits.1 (omega (arith, le))))
    piece_measured tree.break_ lands hidden le suits s n = goes_m p.broke s n 0 0 (omega arith)
    piece_measured tree.next_ lands hidden le suits s n = goes_m p.continued s n 0 0 (omega arith)
    piece_measured (tree.leave call) lands hidden le suits s n = goes_m (p.left call) s n 0 0 (omega arith)
    piece_measured (tree.land call end) lands hidden le suits s n = behind_kept end s n 0 0 suits (omega (arith, le))
    piece_measured (tree.mark point) lands hidden le suits s n = mark_measured point s n (omega (arith, le))

    pub pieces_measured : (pieces : PieceTrees) (lands : List ℕ) (outside hidden : ℕ → Bool) → suc (suc (pieces_marks pieces)) ≤ most → PiecesSuit f kept lands outside hidden pieces → ListMeasured pieces
    pieces_measured tree.no_pieces lands outside hidden le suits s n = goes_m p.on s n 0 0 (omega arith)
    pieces_measured (tree.then_ piece pieces) lands outside hidden le suits s n =
        list_measured piece pieces (piece_measured piece (ends_in pieces lands) hidden (omega (arith, le)) suits.0) (pieces_measured pieces lands outside (hidden_behind outside hidden piece) (omega (arith, le)) suits.1)
        (landed_measured pieces lands outside (hidden_behind outside hidden piece) (omega (arith, le)) suits.1) s n

    landed_measured : (pieces : PieceTrees) (lands : List ℕ) (outside hidden : ℕ → Bool) → suc (suc (pieces_marks pieces)) ≤ most → PiecesSuit f kept lands outside hidden pieces → (call : CallId) (s : Store) (n : ℕ) → M n (pieces_marks pieces) 0 (landed f pieces call s n)
    landed_measured tree.no_pieces lands outside hidden le suits call s n = goes_m (p.left call) s n 0 0 (omega arith)
    landed_measured (tree.then_ (tree.land other end) pieces) lands outside hidden le suits call s n =
        landing_measured call other end pieces suits.0 (omega (arith, le)) (pieces_measured pieces lands outside outside (omega (arith, le)) suits.1) s n (landed_measured pieces lands outside outside (omega (arith, le)) suits.1 call s n)
    landed_measured (tree.then_ (tree.set name value1) pieces) lands outside hidden le suits call s n = skip_measured (tree.set name value1) pieces (landed f pieces call s n) n (landed_measured pieces lands outside (hidden_behind outside hidden (tree.set name value1)) (omega (arith, le)) suits.1 call s n)
    landed_measured (tree.then_ (tree.put array subscripts value1 at) pieces) lands outside hidden le suits call s n = skip_measured (tree.put array subscripts value1 at) pieces (landed f pieces call s n) n (landed_measured pieces lands outside (hidden_behind outside hidden (tree.put array subscripts value1 at)) (omega (arith, le)) suits.1 call s n)
    landed_measured (tree.then_ (tree.fork test yes_ no_ end) pieces) lands outside hidden le suits call s n = skip_measured (tree.fork test yes_ no_ end) pieces (landed f pieces call s n) n (landed_measured pieces lands outside (hidden_behind outside hidden (tree.fork test yes_ no_ end)) (omega (arith, le)) suits.1 call s n)
    landed_measured (tree.then_ (tree.repeat_ id post before test body step end) pieces) lands outside hidden le suits call s n = skip_measured (tree.repeat_ id post before test body step end) pieces (landed f pieces call s n) n (landed_measured pieces lands outside (hidden_behind outside hidden (tree.repeat_ id post before test body step end)) (omega (arith, le)) suits.1 call s n)
    landed_measured (tree.then_ (tree.pick test labels body end) pieces) lands outside hidden le suits call s n = skip_measured (tree.pick test labels body end) pieces (landed f pieces call s n) n (landed_measured pieces lands outside (hidden_behind outside hidden (tree.pick test labels body end)) (omega (arith, le)) suits.1 call s n)
    landed_measured (tree.then_ tree.break_ pieces) lands outside hidden le suits call s n = skip_measured tree.break_ pieces (landed f pieces call s n) n (landed_measured pieces lands outside (hidden_behind outside hidden tree.break_) (omega (arith, le)) suits.1 call s n)
    landed_measured (tree.then_ tree.next_ pieces) lands outside hidden le suits call s n = skip_measured tree.next_ pieces (landed f pieces call s n) n (landed_measured pieces lands outside (hidden_behind outside hidden tree.next_) (omega (arith, le)) suits.1 call s n)
    landed_measured (tree.then_ (tree.leave call1) pieces) lands outside hidden le suits call s n = skip_measured (tree.leave call1) pieces (landed f pieces call s n) n (landed_measured pieces lands outside (hidden_behind outside hidden (tree.leave call1)) (omega (arith, le)) suits.1 call s n)
    landed_measured (tree.then_ (tree.mark point) pieces) lands outside hidden le suits call s n = skip_measured (tree.mark point) pieces (landed f pieces call s n) n (landed_measured pieces lands outside (hidden_behind outside hidden (tree.mark point)) (omega (arith, le)) suits.1 call s n)

    pub begin_measured : (pieces : PieceTrees) → IsBegun pieces
    begin_measured tree.no_pieces c lands hidden le suits s n = elim suits [ ]
    begin_measured (tree.then_ (tree.mark point) pieces) c lands hidden le suits s n =
        let a = pieces_marks pieces in
        then_measured n 0 (c + a) c (p.behind point s n) (λ w t1 n1. p.behind_piece (λ t2 n2. pieces_run f pieces t2 n2) (λ call t2 n2. landed f pieces call t2 n2) w t1 n1)
        (behind_kept point s n 0 (c + a) suits.0 (omega (arith, le)))
        (λ w s1 m. more m a 0 (c + a) c _ (omega arith) (omega arith) (list_next pieces (pieces_measured pieces lands hidden hidden (omega (arith, le)) suits.1) (landed_measured pieces lands hidden hidden (omega (arith, le)) suits.1) w s1 m))
    begin_measured (tree.then_ (tree.set name value1) pieces) c lands hidden le suits s n = elim suits [ ]
    begin_measured (tree.then_ (tree.put array subscripts value1 at) pieces) c lands hidden le suits s n = elim suits [ ]
    begin_measured (tree.then_ (tree.fork test yes_ no_ end) pieces) c lands hidden le suits s n = elim suits [ ]
    begin_measured (tree.then_ (tree.repeat_ id post before test body step end) pieces) c lands hidden le suits s n = elim suits [ ]
    begin_measured (tree.then_ (tree.pick test labels body end) pieces) c lands hidden le suits s n = elim suits [ ]
    begin_measured (tree.then_ tree.break_ pieces) c lands hidden le suits s n = elim suits [ ]
    begin_measured (tree.then_ tree.next_ pieces) c lands hidden le suits s n = elim suits [ ]
    begin_measured (tree.then_ (tree.leave call1) pieces) c lands hidden le suits s n = elim suits [ ]
    begin_measured (tree.then_ (tree.land other end) pieces) c lands hidden le suits s n = elim suits [ ]

    -- ---- from a piece of a switch on

    from_measured : (pieces : PieceTrees) (labels : List Label) (i : ℕ) (lands : List ℕ) (hidden : ℕ → Bool) → suc (suc (pieces_marks pieces)) ≤ most → ArmsSuit f kept labels i lands hidden pieces → (k : ℕ) (s : Store) (n : ℕ) → M n (pieces_marks pieces) 0 (from_piece f pieces k s n)
    from_measured tree.no_pieces labels i lands hidden le suits k s n = goes_m p.on s n 0 0 (omega arith)
    from_measured (tree.then_ piece pieces) labels i lands hidden le suits zero s n =
        list_measured piece pieces (arm_piece (is_named labels i) piece (ends_before_arm labels (i + 1) pieces lands) hidden (omega (arith, le)) suits.0 (piece_measured piece (ends_before_arm labels (i + 1) pieces lands) hidden (omega (arith, le))))
        (arms_measured pieces labels (i + 1) lands hidden (omega (arith, le)) suits.2) (arms_landed pieces labels (i + 1) lands hidden (omega (arith, le)) suits.2) s n
    from_measured (tree.then_ piece pieces) labels i lands hidden le suits (suc k) s n =
        skip_measured piece pieces (from_piece f pieces k s n) n (from_measured pieces labels (i + 1) lands hidden (omega (arith, le)) suits.2 k s n)

    arms_measured : (pieces : PieceTrees) (labels : List Label) (i : ℕ) (lands : List ℕ) (hidden : ℕ → Bool) → suc (suc (pieces_marks pieces)) ≤ most → ArmsSuit f kept labels i lands hidden pieces → ListMeasured pieces
    arms_measured tree.no_pieces labels i lands hidden le suits s n = goes_m p.on s n 0 0 (omega arith)
    arms_measured (tree.then_ piece pieces) labels i lands hidden le suits s n =
        list_measured piece pieces (arm_piece (is_named labels i) piece (ends_before_arm labels (i + 1) pieces lands) hidden (omega (arith, le)) suits.0 (piece_measured piece (ends_before_arm labels (i + 1) pieces lands) hidden (omega (arith, le))))
        (arms_measured pieces labels (i + 1) lands hidden (omega (arith, le)) suits.2) (arms_landed pieces labels (i + 1) lands hidden (omega (arith, le)) suits.2) s n

    arms_landed : (pieces : PieceTrees) (labels : List Label) (i : ℕ) (lands : List ℕ) (hidden : ℕ → Bool) → suc (suc (pieces_marks pieces)) ≤ most → ArmsSuit f kept labels i lands hidden pieces → (call : CallId) (s : Store) (n : ℕ) → M n (pieces_marks pieces) 0 (landed f pieces call s n)
    arms_landed tree.no_pieces labels i lands hidden le suits call s n = goes_m (p.left call) s n 0 0 (omega arith)
    arms_landed (tree.then_ (tree.land other end) pieces) labels i lands hidden le suits call s n =
        landing_measured call other end pieces (land_kept (is_named labels i) other end (ends_before_arm labels (i + 1) pieces lands) hidden suits.0) (omega (arith, le)) (arms_measured pieces labels (i + 1) lands hidden (omega (arith, le)) suits.2) s n
        (arms_landed pieces labels (i + 1) lands hidden (omega (arith, le)) suits.2 call s n)
    arms_landed (tree.then_ (tree.set name value1) pieces) labels i lands hidden le suits call s n = skip_measured (tree.set name value1) pieces (landed f pieces call s n) n (arms_landed pieces labels (i + 1) lands hidden (omega (arith, le)) suits.2 call s n)
    arms_landed (tree.then_ (tree.put array subscripts value1 at) pieces) labels i lands hidden le suits call s n = skip_measured (tree.put array subscripts value1 at) pieces (landed f pieces call s n) n (arms_landed pieces labels (i + 1) lands hidden (omega (arith, le)) suits.2 call s n)
    arms_landed (tree.then_ (tree.fork test yes_ no_ end) pieces) labels i lands hidden le suits call s n = skip_measured (tree.fork test yes_ no_ end) pieces (landed f pieces call s n) n (arms_landed pieces labels (i + 1) lands hidden (omega (arith, le)) suits.2 call s n)
    arms_landed (tree.then_ (tree.repeat_ id post before test body step end) pieces) labels i lands hidden le suits call s n = skip_measured (tree.repeat_ id post before test body step end) pieces (landed f pieces call s n) n (arms_landed pieces labels (i + 1) lands hidden (omega (arith, le)) suits.2 call s n)
    arms_landed (tree.then_ (tree.pick test others body end) pieces) labels i lands hidden le suits call s n = skip_measured (tree.pick test others body end) pieces (landed f pieces call s n) n (arms_landed pieces labels (i + 1) lands hidden (omega (arith, le)) suits.2 call s n)
    arms_landed (tree.then_ tree.break_ pieces) labels i lands hidden le suits call s n = skip_measured tree.break_ pieces (landed f pieces call s n) n (arms_landed pieces labels (i + 1) lands hidden (omega (arith, le)) suits.2 call s n)
    arms_landed (tree.then_ tree.next_ pieces) labels i lands hidden le suits call s n = skip_measured tree.next_ pieces (landed f pieces call s n) n (arms_landed pieces labels (i + 1) lands hidden (omega (arith, le)) suits.2 call s n)
    arms_landed (tree.then_ (tree.leave call1) pieces) labels i lands hidden le suits call s n = skip_measured (tree.leave call1) pieces (landed f pieces call s n) n (arms_landed pieces labels (i + 1) lands hidden (omega (arith, le)) suits.2 call s n)
    arms_landed (tree.then_ (tree.mark point) pieces) labels i lands hidden le suits call s n = skip_measured (tree.mark point) pieces (landed f pieces call s n) n (arms_landed pieces labels (i + 1) lands hidden (omega (arith, le)) suits.2 call s n)
