-- A run of pieces passes only points of those that may be passed.
use Rattle.std.proofs.Common.{◌≡◌, ◌∙◌, ◌⊎◌, inl, inr, ℕ, zero, suc, ◌+◌, Bool, true, false, refl, sym, ap, subst, arith, List, [], ◌∷◌, ◌++◌, Option, Some, None, if◌then◌else◌}
use Rattle.std.specs.Prelude.{◌==◌, ◌||◌}
use Rattle.hls_base.specs.declared.place.Place.{Place}
use Rattle.hls_base.specs.declared.point.Point.{Point}
use Rattle.c_value.specs.Operators.{is_true}
use Rattle.pieces.specs.declared.piece.CallId.{CallId}
use Rattle.pieces.specs.declared.piece.Label.{Label}
use Rattle.pieces.specs.Trees as tree
use Rattle.pieces.specs.Trees.{PureTree, PieceTree, PieceTrees}
use Rattle.pieces.specs.Kind.{kind}
use Rattle.hls_base.specs.Steps.{Outcome, went, undefined, waiting, Ran, goes, after, then_, pass}
use Rattle.hls_base.specs.Valued.{Valued, is, faulty, valued}
use Rattle.c_meaning.specs.PieceRuns.Values.{Store, value, values, element_number}
use Rattle.c_meaning.specs.PieceRuns.Pieces.{Way, on, broke, continued, left, Turn, again, over, out, Frame, set, put_at, behind, behind_fork, behind_switch, behind_loop, turn_of, if_again, repeat, tested, turned, test_first, test_last, is_word, case_target, if_none, default_target, or_else, target, switch_word, behind_piece, from_target, piece_run, pieces_run, landed, from_piece}
use Rattle.passes.specs.Lowering.{is_named}
use Rattle.pass_runs.proofs.LowerRuns.LowerControl.Cases.{or_true, self_same}
use Rattle.expanded_pieces.proofs.ApartPoints.Apart.{IsIn, Covers, in_left, in_right, in_either}
use Rattle.source_answers.proofs.NodePoints.Listed.{pieces_points, piece_points, points_until, points_from}

-- ---- parts of runs

module _ (ps : List Point) where
  then_within : {S A B : Type 0} (r : Ran S A) (next : A → S → ℕ → Ran S B) → Covers ps r.trace → ((v : A) (s : S) (n : ℕ) → Covers ps (next v s n).trace) → Covers ps (then_ r next).trace
  then_within {S} {A} {B} r next h g q i = by (in_either q r.trace (after r.outcome next).trace i) where
    later : (o : Outcome S A) → IsIn q (after o next).trace → IsIn q ps
    later (went v s n) j = g v s n q j
    later (undefined rule at) j = absurd j
    later waiting j = absurd j

    by : IsIn q r.trace ⊎ IsIn q (after r.outcome next).trace → IsIn q ps
    by (inl j) = h q j
    by (inr j) = later r.outcome j

  if_within : {S A : Type 0} (b : Bool) (x y : Ran S A) → Covers ps x.trace → Covers ps y.trace → Covers ps (if b then x else y).trace
  if_within true x y h g = h
  if_within false x y h g = g

  valued_within : {S A B : Type 0} (v : Valued A) (next : A → S → ℕ → Ran S B) (s : S) (n : ℕ) → ((x : A) (s1 : S) (n1 : ℕ) → Covers ps (next x s1 n1).trace) → Covers ps (valued v next s n).trace
  valued_within (is x) next s n h = h x s n
  valued_within (faulty rule at) next s n h = λ q i. absurd i

  pass_within : {S : Type 0} (p : Point) (s : S) (n : ℕ) → IsIn p ps → Covers ps (pass p s n).trace
  pass_within p s zero h q i = absurd i
  pass_within p s (suc n) h q (inl e) = subst (λ x. IsIn x ps) (sym e) h
  pass_within p s (suc n) h q (inr i) = absurd i

  behind_within : (end : Point) → IsIn end ps → (t : Store) (n : ℕ) → Covers ps (behind end t n).trace
  behind_within end h t n = then_within (pass end t n) (λ u t1 n1. goes on t1 n1) (pass_within end t n h) (λ u t1 n1 q i. absurd i)

  fork_within : (end : Point) → IsIn end ps → (w : Way) (t : Store) (n : ℕ) → Covers ps (behind_fork w end t n).trace
  fork_within end h on t n = behind_within end h t n
  fork_within end h broke t n = λ q i. absurd i
  fork_within end h continued t n = λ q i. absurd i
  fork_within end h (left call) t n = λ q i. absurd i

  switch_within : (end : Point) → IsIn end ps → (w : Way) (t : Store) (n : ℕ) → Covers ps (behind_switch w end t n).trace
  switch_within end h on t n = behind_within end h t n
  switch_within end h broke t n = behind_within end h t n
  switch_within end h continued t n = λ q i. absurd i
  switch_within end h (left call) t n = λ q i. absurd i

  loop_within : (end : Point) → IsIn end ps → (w : Turn) (t : Store) (n : ℕ) → Covers ps (behind_loop w end t n).trace
  loop_within end h again t n = behind_within end h t n
  loop_within end h over t n = behind_within end h t n
  loop_within end h (out w) t n = λ q i. absurd i

  -- wherever the part begins
  abbrev Stays : {A : Type 0} → (Store → ℕ → Ran Store A) → Type 0
  Stays part = (t : Store) (n : ℕ) → Covers ps (part t n).trace

  again_within : (w : Turn) (rest : Store → ℕ → Ran Store Turn) → Stays rest → (t : Store) (n : ℕ) → Covers ps (if_again w rest t n).trace
  again_within again rest h t n = h t n
  again_within over rest h t n = λ q i. absurd i
  again_within (out w) rest h t n = λ q i. absurd i

  repeat_within : (round : Store → ℕ → Ran Store Turn) → Stays round → (k : ℕ) → Stays (repeat k round)
  repeat_within round h zero t n = λ q i. absurd i
  repeat_within round h (suc k) t n = then_within (round t n) (λ w t1 n1. if_again w (repeat k round) t1 n1) (h t n) (λ w t1 n1. again_within w (repeat k round) (repeat_within round h k) t1 n1)

  turned_within : (part : Store → ℕ → Ran Store Way) → Stays part → Stays (turned part)
  turned_within part h t n = then_within (part t n) (λ w t1 n1. goes (turn_of w) t1 n1) (h t n) (λ w t1 n1 q i. absurd i)

  piece_by : (rest : Store → ℕ → Ran Store Way) (landing : CallId → Store → ℕ → Ran Store Way) → Stays rest → ((call : CallId) → Stays (landing call)) → (w : Way) (t : Store) (n : ℕ) → Covers ps (behind_piece rest landing w t n).trace
  piece_by rest landing h g on t n = h t n
  piece_by rest landing h g broke t n = λ q i. absurd i
  piece_by rest landing h g continued t n = λ q i. absurd i
  piece_by rest landing h g (left call) t n = g call t n

  target_by : (o : Option ℕ) (part : ℕ → Store → ℕ → Ran Store Way) → ((k : ℕ) → o ≡ Some k → Stays (part k)) → (t : Store) (n : ℕ) → Covers ps (from_target o part t n).trace
  target_by None part h t n = λ q i. absurd i
  target_by (Some k) part h t n = h k refl t n

  module _ (f : Frame) where
    put_within : (array : ℕ) (o : Option ℕ) (v : _) (at : Place) (t : Store) (n : ℕ) → Covers ps (put_at f array o v at t n).trace
    put_within array None v at t n = λ q i. absurd i
    put_within array (Some k) v at t n = λ q i. absurd i

    tested_within : (before : Store → ℕ → Ran Store Way) (test : PureTree) → Stays before → Stays (tested f before test)
    tested_within before test h t n =
        then_within (before t n) (λ w t1 n1. valued (value f.arrays test t1) (λ x t2 n2. goes (is_true x) t2 n2) t1 n1) (h t n)
        (λ w t1 n1. valued_within (value f.arrays test t1) (λ x t2 n2. goes (is_true x) t2 n2) t1 n1 (λ x t2 n2 q i. absurd i))

    first_within : (before : Store → ℕ → Ran Store Way) (test : PureTree) (body step : Store → ℕ → Ran Store Way) → Stays before → Stays body → Stays step → Stays (test_first f before test body step)
    first_within before test body step h g k t n =
        then_within (tested f before test t n) (λ holds t1 n1. if holds then then_ (turned body t1 n1) (λ w t2 n2. if_again w (turned step) t2 n2) else goes over t1 n1) (tested_within before test h t n)
        (λ holds t1 n1. if_within holds (then_ (turned body t1 n1) (λ w t2 n2. if_again w (turned step) t2 n2)) (goes over t1 n1)
        (then_within (turned body t1 n1) (λ w t2 n2. if_again w (turned step) t2 n2) (turned_within body g t1 n1) (λ w t2 n2. again_within w (turned step) (turned_within step k) t2 n2)) (λ q i. absurd i))

    last_within : (before : Store → ℕ → Ran Store Way) (test : PureTree) (body : Store → ℕ → Ran Store Way) → Stays before → Stays body → Stays (test_last f before test body)
    last_within before test body h g t n =
        then_within (turned body t n) (λ w t1 n1. if_again w (λ t2 n2. then_ (tested f before test t2 n2) (λ holds t3 n3. goes (if holds then again else over) t3 n3)) t1 n1) (turned_within body g t n)
        (λ w t1 n1. again_within w (λ t2 n2. then_ (tested f before test t2 n2) (λ holds t3 n3. goes (if holds then again else over) t3 n3))
        (λ t2 n2. then_within (tested f before test t2 n2) (λ holds t3 n3. goes (if holds then again else over) t3 n3) (tested_within before test h t2 n2) (λ holds t3 n3 q i. absurd i)) t1 n1)

    round_within : (post : Bool) (before : Store → ℕ → Ran Store Way) (test : PureTree) (body step : Store → ℕ → Ran Store Way) → Stays before → Stays body → Stays step
        → Stays (if post then test_last f before test body else test_first f before test body step)
    round_within true before test body step h g k = last_within before test body h g
    round_within false before test body step h g k = first_within before test body step h g k

-- ---- labels name pieces

first_named : (l : Label) (ls : List Label) (k : ℕ) → Some l.target ≡ Some k → is_named (l ∷ ls) k ≡ true
first_named l ls k e =
    let same : l.target ≡ k = some_same l.target k e in
    ap (λ b. b || is_named ls k) (ap (λ n. l.target == n) (sym same) ∙ self_same l.target)
  where
    some_same : (m n : ℕ) → Some m ≡ Some n → m ≡ n
    some_same m n e = cc

case_named : (word : ℕ) (ls : List Label) (k : ℕ) → case_target word ls ≡ Some k → is_named ls k ≡ true
case_named word [] k e = absurd cc
case_named word (l ∷ ls) k e = by (is_word word l.value) e (case_named word ls k) where
  by : (c : Bool) → (if c then Some l.target else case_target word ls) ≡ Some k → (case_target word ls ≡ Some k → is_named ls k ≡ true) → is_named (l ∷ ls) k ≡ true
  by true h g = first_named l ls k h
  by false h g = or_true (l.target == k) (is_named ls k) (g h)

default_named : (ls : List Label) (k : ℕ) → default_target ls ≡ Some k → is_named ls k ≡ true
default_named [] k e = absurd cc
default_named (l ∷ ls) k e = by l.value e (default_named ls k) where
  by : (u : Option ℕ) → if_none u l.target (default_target ls) ≡ Some k → (default_target ls ≡ Some k → is_named ls k ≡ true) → is_named (l ∷ ls) k ≡ true
  by None h g = first_named l ls k h
  by (Some v) h g = or_true (l.target == k) (is_named ls k) (g h)

target_named : (word : ℕ) (ls : List Label) (k : ℕ) → target word ls ≡ Some k → is_named ls k ≡ true
target_named word ls k e = by (case_target word ls) refl e where
  by : (u : Option ℕ) → case_target word ls ≡ u → or_else u (default_target ls) ≡ Some k → is_named ls k ≡ true
  by None h g = default_named ls k g
  by (Some v) h g = case_named word ls k (h ∙ g)

-- ---- pieces

module _ (f : Frame) where
  abbrev Passed : PieceTrees → List Point
  Passed xs = pieces_points true false xs

  abbrev PassedBy : PieceTree → List Point
  PassedBy x = piece_points true false x

  to_left : (xs ys ts : List Point) → Covers xs ts → Covers (xs ++ ys) ts
  to_left xs ys ts h q i = in_left q xs ys (h q i)

  to_right : (xs ys ts : List Point) → Covers ys ts → Covers (xs ++ ys) ts
  to_right xs ys ts h q i = in_right q xs ys (h q i)

  last_in : (xs : List Point) (end : Point) → IsIn end (xs ++ end ∷ [])
  last_in xs end = in_right end xs (end ∷ []) (inl refl)

  one_within : (x : PieceTree) (rest : PieceTrees) → ((t : Store) (n : ℕ) → Covers (PassedBy x) (piece_run f x t n).trace) → ((t : Store) (n : ℕ) → Covers (Passed rest) (pieces_run f rest t n).trace)
      → ((call : CallId) (t : Store) (n : ℕ) → Covers (Passed rest) (landed f rest call t n).trace) → (t : Store) (n : ℕ) → Covers (PassedBy x ++ Passed rest) (pieces_run f (tree.then_ x rest) t n).trace
  one_within x rest h g k t n =
      let all = PassedBy x ++ Passed rest in
      then_within all (piece_run f x t n) (λ w t1 n1. behind_piece (λ t2 n2. pieces_run f rest t2 n2) (λ call t2 n2. landed f rest call t2 n2) w t1 n1) (to_left (PassedBy x) (Passed rest) (piece_run f x t n).trace (h t n))
      (λ w t1 n1. piece_by all (λ t2 n2. pieces_run f rest t2 n2) (λ call t2 n2. landed f rest call t2 n2) (λ t2 n2. to_right (PassedBy x) (Passed rest) (pieces_run f rest t2 n2).trace (g t2 n2))
      (λ call t2 n2. to_right (PassedBy x) (Passed rest) (landed f rest call t2 n2).trace (k call t2 n2)) w t1 n1)

  -- an arm that begins here, or later
  arm_here : (c : Bool) (all others ts : List Point) → c ≡ true → Covers all ts → Covers (if c then all else others) ts
  arm_here true all others ts e h = h
  arm_here false all others ts e h = absurd cc

  arm_later : (c : Bool) (all others ts : List Point) → Covers all ts → Covers others ts → Covers (if c then all else others) ts
  arm_later true all others ts h g = h
  arm_later false all others ts h g = g

  mutual
    piece_within : (x : PieceTree) (t : Store) (n : ℕ) → Covers (PassedBy x) (piece_run f x t n).trace
    piece_within (tree.set name v) t n = valued_within [] (value f.arrays v t) (set f name.0) t n (λ x t1 n1 q i. absurd i)
    piece_within (tree.put array subscripts v at) t n =
        valued_within [] (values f.arrays subscripts t) (λ is_ t1. valued (value f.arrays v t1) (λ x t2. put_at f array.0 (element_number f.arrays array.0 is_) x at t2) t1) t n
        (λ is_ t1 n1. valued_within [] (value f.arrays v t1) (λ x t2. put_at f array.0 (element_number f.arrays array.0 is_) x at t2) t1 n1 (λ x t2 n2. put_within [] f array.0 (element_number f.arrays array.0 is_) x at t2 n2))
    piece_within (tree.fork test yes_ no_ end) t n =
        let ys = Passed yes_ in
        let ns = Passed no_ in
        let all = (ys ++ ns) ++ end ∷ [] in
        valued_within all (value f.arrays test t) (λ x t1 n1. then_ (if is_true x then pieces_run f yes_ t1 n1 else pieces_run f no_ t1 n1) (λ w t2 n2. behind_fork w end t2 n2)) t n
        (λ x t1 n1. then_within all (if is_true x then pieces_run f yes_ t1 n1 else pieces_run f no_ t1 n1) (λ w t2 n2. behind_fork w end t2 n2)
        (if_within all (is_true x) (pieces_run f yes_ t1 n1) (pieces_run f no_ t1 n1)
        (to_left (ys ++ ns) (end ∷ []) (pieces_run f yes_ t1 n1).trace (to_left ys ns (pieces_run f yes_ t1 n1).trace (pieces_within yes_ t1 n1)))
        (to_left (ys ++ ns) (end ∷ []) (pieces_run f no_ t1 n1).trace (to_right ys ns (pieces_run f no_ t1 n1).trace (pieces_within no_ t1 n1))))
        (λ w t2 n2. fork_within all end (last_in (ys ++ ns) end) w t2 n2))
    piece_within (tree.repeat_ id post before test body step end) t n =
        let xs = Passed before in
        let ys = Passed body in
        let zs = Passed step in
        let all = (xs ++ (ys ++ zs)) ++ end ∷ [] in
        let round = if post then test_last f (pieces_run f before) test (pieces_run f body) else test_first f (pieces_run f before) test (pieces_run f body) (pieces_run f step) in
        then_within all (repeat n round t n) (λ w t1 n1. behind_loop w end t1 n1)
        (repeat_within all round
        (round_within all f post (pieces_run f before) test (pieces_run f body) (pieces_run f step)
        (λ t1 n1. to_left (xs ++ (ys ++ zs)) (end ∷ []) (pieces_run f before t1 n1).trace (to_left xs (ys ++ zs) (pieces_run f before t1 n1).trace (pieces_within before t1 n1)))
        (λ t1 n1. to_left (xs ++ (ys ++ zs)) (end ∷ []) (pieces_run f body t1 n1).trace (to_right xs (ys ++ zs) (pieces_run f body t1 n1).trace (to_left ys zs (pieces_run f body t1 n1).trace (pieces_within body t1 n1))))
        (λ t1 n1. to_left (xs ++ (ys ++ zs)) (end ∷ []) (pieces_run f step t1 n1).trace (to_right xs (ys ++ zs) (pieces_run f step t1 n1).trace (to_right ys zs (pieces_run f step t1 n1).trace (pieces_within step t1 n1))))) n t n)
        (λ w t1 n1. loop_within all end (last_in (xs ++ (ys ++ zs)) end) w t1 n1)
    piece_within (tree.pick test labels body end) t n =
        let xs = points_until false false labels 0 body in
        let ys = points_from true false labels 0 body in
        let all = (xs ++ ys) ++ end ∷ [] in
        valued_within all (value f.arrays test t) (λ x t1 n1. then_ (from_target (target (switch_word (kind test) x) labels) (λ k t2 n2. from_piece f body k t2 n2) t1 n1) (λ w t2 n2. behind_switch w end t2 n2)) t n
        (λ x t1 n1. then_within all (from_target (target (switch_word (kind test) x) labels) (λ k t2 n2. from_piece f body k t2 n2) t1 n1) (λ w t2 n2. behind_switch w end t2 n2)
        (target_by all (target (switch_word (kind test) x) labels) (λ k t2 n2. from_piece f body k t2 n2)
        (λ k e t2 n2. to_left (xs ++ ys) (end ∷ []) (from_piece f body k t2 n2).trace (to_right xs ys (from_piece f body k t2 n2).trace
        (from_within labels 0 body k (ap (λ z. is_named labels z) (let z : 0 + k ≡ k = omega arith in z) ∙ target_named (switch_word (kind test) x) labels k e) t2 n2))) t1 n1)
        (λ w t2 n2. switch_within all end (last_in (xs ++ ys) end) w t2 n2))
    piece_within tree.break_ t n = λ q i. absurd i
    piece_within tree.next_ t n = λ q i. absurd i
    piece_within (tree.leave call) t n = λ q i. absurd i
    piece_within (tree.land call end) t n = behind_within (end ∷ []) end (inl refl) t n
    piece_within (tree.mark point) t n = behind_within (point ∷ []) point (inl refl) t n

    pub pieces_within : (xs : PieceTrees) (t : Store) (n : ℕ) → Covers (Passed xs) (pieces_run f xs t n).trace
    pieces_within tree.no_pieces t n = λ q i. absurd i
    pieces_within (tree.then_ x rest) t n = one_within x rest (piece_within x) (pieces_within rest) (landed_within rest) t n

    landed_within : (xs : PieceTrees) (call : CallId) (t : Store) (n : ℕ) → Covers (Passed xs) (landed f xs call t n).trace
    landed_within tree.no_pieces call t n = λ q i. absurd i
    landed_within (tree.then_ (tree.land other end) rest) call t n =
        let all = end ∷ Passed rest in
        if_within all (call.0 == other.0) (then_ (behind end t n) (λ w t1 n1. pieces_run f rest t1 n1)) (landed f rest call t n)
        (then_within all (behind end t n) (λ w t1 n1. pieces_run f rest t1 n1) (behind_within all end (inl refl) t n) (λ w t1 n1. to_right (end ∷ []) (Passed rest) (pieces_run f rest t1 n1).trace (pieces_within rest t1 n1)))
        (to_right (end ∷ []) (Passed rest) (landed f rest call t n).trace (landed_within rest call t n))
    landed_within (tree.then_ (tree.set name v) rest) call t n = landed_within rest call t n
    landed_within (tree.then_ (tree.put array subscripts v at) rest) call t n = landed_within rest call t n
    landed_within (tree.then_ (tree.fork test yes_ no_ end) rest) call t n = to_right (PassedBy (tree.fork test yes_ no_ end)) (Passed rest) (landed f rest call t n).trace (landed_within rest call t n)
    landed_within (tree.then_ (tree.repeat_ id post before test body step end) rest) call t n = to_right (PassedBy (tree.repeat_ id post before test body step end)) (Passed rest) (landed f rest call t n).trace (landed_within rest call t n)
    landed_within (tree.then_ (tree.pick test labels body end) rest) call t n = to_right (PassedBy (tree.pick test labels body end)) (Passed rest) (landed f rest call t n).trace (landed_within rest call t n)
    landed_within (tree.then_ tree.break_ rest) call t n = landed_within rest call t n
    landed_within (tree.then_ tree.next_ rest) call t n = landed_within rest call t n
    landed_within (tree.then_ (tree.leave other) rest) call t n = landed_within rest call t n
    landed_within (tree.then_ (tree.mark point) rest) call t n = to_right (point ∷ []) (Passed rest) (landed f rest call t n).trace (landed_within rest call t n)

    any_within : (xs : PieceTrees) (k : ℕ) (t : Store) (n : ℕ) → Covers (Passed xs) (from_piece f xs k t n).trace
    any_within tree.no_pieces k t n = λ q i. absurd i
    any_within (tree.then_ x rest) zero t n = one_within x rest (piece_within x) (pieces_within rest) (landed_within rest) t n
    any_within (tree.then_ x rest) (suc k) t n = to_right (PassedBy x) (Passed rest) (from_piece f rest k t n).trace (any_within rest k t n)

    from_within : (labels : List Label) (i : ℕ) (xs : PieceTrees) (k : ℕ) → is_named labels (i + k) ≡ true → (t : Store) (n : ℕ) → Covers (points_from true false labels i xs) (from_piece f xs k t n).trace
    from_within labels i tree.no_pieces k e t n = λ q i. absurd i
    from_within labels i (tree.then_ x rest) zero e t n =
        arm_here (is_named labels i) (PassedBy x ++ Passed rest) (points_from true false labels (i + 1) rest) (pieces_run f (tree.then_ x rest) t n).trace (ap (λ z. is_named labels z) (let z : i ≡ i + 0 = omega arith in z) ∙ e)
        (one_within x rest (piece_within x) (pieces_within rest) (landed_within rest) t n)
    from_within labels i (tree.then_ x rest) (suc k) e t n =
        arm_later (is_named labels i) (PassedBy x ++ Passed rest) (points_from true false labels (i + 1) rest) (from_piece f rest k t n).trace (to_right (PassedBy x) (Passed rest) (from_piece f rest k t n).trace (any_within rest k t n))
        (from_within labels (i + 1) rest k (ap (λ z. is_named labels z) (let z : i + 1 + k ≡ i + suc k = omega arith in z) ∙ e) t n)
