-- What pieces keep, however they end: what each setting of a variable and each write of an element keeps.
use Rattle.std.proofs.Common.{ℕ, zero, suc, ℤ, Bool, true, false, Option, Some, None, if◌then◌else◌}
use Rattle.std.specs.Prelude.{◌==◌}
use Rattle.hls_base.specs.declared.place.Place.{Place}
use Rattle.hls_base.specs.declared.point.Point.{Point}
use Rattle.c_value.specs.Operators.{is_true}
use Rattle.pieces.specs.declared.piece.CallId.{CallId}
use Rattle.pieces.specs.Trees as tree
use Rattle.pieces.specs.Trees.{PureTree, PieceTree, PieceTrees, piece_row}
use Rattle.pieces.specs.Kind.{kind}
use Rattle.hls_base.specs.Steps.{Ran, goes, then_, pass}
use Rattle.hls_base.specs.Valued.{Valued, is, faulty, valued}
use Rattle.c_meaning.specs.PieceRuns.Values.{Store, value, values, element_number}
use Rattle.c_meaning.specs.PieceRuns.Pieces.{Frame, Way, on, broke, continued, left, Turn, again, over, out, set, put_at, behind, behind_fork, behind_switch, behind_loop, turn_of, if_again, repeat, tested, turned, test_first, test_last, target, switch_word, from_target, behind_piece, piece_run, pieces_run, landed, from_piece}
use Rattle.expand_runs.specs.Keeping.{Allows, AllAllow}
use Rattle.expand_runs.proofs.Sames.{Holds, then_holds}

valued_holds : {A B : Type 0} (I : Store → Type 0) (x : Valued A) (next : A → Store → ℕ → Ran Store B) (t : Store) (n : ℕ) → ((v : A) → Holds I (next v t n).outcome) → Holds I (valued x next t n).outcome
valued_holds I (is v) next t n h = h v
valued_holds I (faulty rule at) next t n h = tt

pass_holds : (I : Store → Type 0) (p : Point) (t : Store) (n : ℕ) → I t → Holds I (pass p t n).outcome
pass_holds I p t zero j = tt
pass_holds I p t (suc n) j = j

pub behind_holds : (I : Store → Type 0) (end : Point) (t : Store) (n : ℕ) → I t → Holds I (behind end t n).outcome
behind_holds I end t n j = then_holds I (pass end t n) (λ u t1 n1. goes on t1 n1) (pass_holds I end t n j) (λ u t1 n1 j1. j1)

fork_holds : (I : Store → Type 0) (w : Way) (end : Point) (t : Store) (n : ℕ) → I t → Holds I (behind_fork w end t n).outcome
fork_holds I on end t n j = behind_holds I end t n j
fork_holds I broke end t n j = j
fork_holds I continued end t n j = j
fork_holds I (left call) end t n j = j

switch_holds : (I : Store → Type 0) (w : Way) (end : Point) (t : Store) (n : ℕ) → I t → Holds I (behind_switch w end t n).outcome
switch_holds I on end t n j = behind_holds I end t n j
switch_holds I broke end t n j = behind_holds I end t n j
switch_holds I continued end t n j = j
switch_holds I (left call) end t n j = j

loop_holds : (I : Store → Type 0) (w : Turn) (end : Point) (t : Store) (n : ℕ) → I t → Holds I (behind_loop w end t n).outcome
loop_holds I again end t n j = behind_holds I end t n j
loop_holds I over end t n j = behind_holds I end t n j
loop_holds I (out w) end t n j = j

if_holds : {A : Type 0} (I : Store → Type 0) (b : Bool) (q r : Ran Store A) → Holds I q.outcome → Holds I r.outcome → Holds I (if b then q else r).outcome
if_holds I true q r h g = h
if_holds I false q r h g = g

abbrev Keeps : {A : Type 0} → (Store → Type 0) → (Store → ℕ → Ran Store A) → Type 0
Keeps I part = (t : Store) (n : ℕ) → I t → Holds I (part t n).outcome

again_holds : (I : Store → Type 0) (w : Turn) (rest : Store → ℕ → Ran Store Turn) (t : Store) (n : ℕ) → Keeps I rest → I t → Holds I (if_again w rest t n).outcome
again_holds I again rest t n h j = h t n j
again_holds I over rest t n h j = j
again_holds I (out w) rest t n h j = j

repeat_holds : (I : Store → Type 0) (round : Store → ℕ → Ran Store Turn) → Keeps I round → (k : ℕ) → Keeps I (repeat k round)
repeat_holds I round h zero t n j = tt
repeat_holds I round h (suc k) t n j =
    then_holds I (round t n) (λ w t1 n1. if_again w (repeat k round) t1 n1) (h t n j) (λ w t1 n1 j1. again_holds I w (repeat k round) t1 n1 (repeat_holds I round h k) j1)

turned_holds : (I : Store → Type 0) (part : Store → ℕ → Ran Store Way) → Keeps I part → Keeps I (turned part)
turned_holds I part h t n j = then_holds I (part t n) (λ w t1 n1. goes (turn_of w) t1 n1) (h t n j) (λ w t1 n1 j1. j1)

tested_holds : (I : Store → Type 0) (f : Frame) (before : Store → ℕ → Ran Store Way) (test : PureTree) → Keeps I before → Keeps I (tested f before test)
tested_holds I f before test h t n j =
    then_holds I (before t n) (λ w t1 n1. valued (value f.arrays test t1) (λ x t2 n2. goes (is_true x) t2 n2) t1 n1) (h t n j)
    (λ w t1 n1 j1. valued_holds I (value f.arrays test t1) (λ x t2 n2. goes (is_true x) t2 n2) t1 n1 (λ x. j1))

first_holds : (I : Store → Type 0) (f : Frame) (before : Store → ℕ → Ran Store Way) (test : PureTree) (body step : Store → ℕ → Ran Store Way) → Keeps I before → Keeps I body → Keeps I step → Keeps I (test_first f before test body step)
first_holds I f before test body step hb hm hs t n j =
    then_holds I (tested f before test t n) (λ holds t1 n1. if holds then then_ (turned body t1 n1) (λ w t2 n2. if_again w (turned step) t2 n2) else goes over t1 n1) (tested_holds I f before test hb t n j)
    (λ holds t1 n1 j1. if_holds I holds (then_ (turned body t1 n1) (λ w t2 n2. if_again w (turned step) t2 n2)) (goes over t1 n1)
    (then_holds I (turned body t1 n1) (λ w t2 n2. if_again w (turned step) t2 n2) (turned_holds I body hm t1 n1 j1) (λ w t2 n2 j2. again_holds I w (turned step) t2 n2 (turned_holds I step hs) j2)) j1)

last_holds : (I : Store → Type 0) (f : Frame) (before : Store → ℕ → Ran Store Way) (test : PureTree) (body : Store → ℕ → Ran Store Way) → Keeps I before → Keeps I body → Keeps I (test_last f before test body)
last_holds I f before test body hb hm t n j =
    then_holds I (turned body t n) (λ w t1 n1. if_again w (λ t2 n2. then_ (tested f before test t2 n2) (λ holds t3 n3. goes (if holds then again else over) t3 n3)) t1 n1) (turned_holds I body hm t n j)
    (λ w t1 n1 j1. again_holds I w (λ t2 n2. then_ (tested f before test t2 n2) (λ holds t3 n3. goes (if holds then again else over) t3 n3)) t1 n1
    (λ t2 n2 j2. then_holds I (tested f before test t2 n2) (λ holds t3 n3. goes (if holds then again else over) t3 n3) (tested_holds I f before test hb t2 n2 j2) (λ holds t3 n3 j3. j3)) j1)

post_holds : (I : Store → Type 0) (post : Bool) (first last : Store → ℕ → Ran Store Turn) → Keeps I first → Keeps I last → Keeps I (if post then last else first)
post_holds I true first last h g = g
post_holds I false first last h g = h

put_holds : (I : Store → Type 0) (f : Frame) (array : ℕ) (i : Option ℕ) (v : ℤ) (at : Place) (t : Store) (n : ℕ) → ((i : ℕ) → Holds I (put_at f array (Some i) v at t n).outcome) → Holds I (put_at f array i v at t n).outcome
put_holds I f array None v at t n h = tt
put_holds I f array (Some i) v at t n h = h i

target_holds : (I : Store → Type 0) (k : Option ℕ) (part : ℕ → Store → ℕ → Ran Store Way) (t : Store) (n : ℕ) → ((k : ℕ) → Holds I (part k t n).outcome) → I t → Holds I (from_target k part t n).outcome
target_holds I None part t n h j = j
target_holds I (Some k) part t n h j = h k

way_holds : (I : Store → Type 0) (f : Frame) (rest : PieceTrees) → Keeps I (pieces_run f rest) → ((call : CallId) → Keeps I (landed f rest call)) → (w : Way) (t : Store) (n : ℕ) → I t
    → Holds I (behind_piece (λ t2 n2. pieces_run f rest t2 n2) (λ call t2 n2. landed f rest call t2 n2) w t n).outcome
way_holds I f rest h g on t n j = h t n j
way_holds I f rest h g broke t n j = j
way_holds I f rest h g continued t n j = j
way_holds I f rest h g (left call) t n j = g call t n j

mutual
  piece_holds : (I : Store → Type 0) (f : Frame) (p : PieceTree) → Allows f I p → (t : Store) (n : ℕ) → I t → Holds I (piece_run f p t n).outcome
  piece_holds I f (tree.set name v) a t n j = valued_holds I (value f.arrays v t) (set f name.0) t n (λ x. a t x j)
  piece_holds I f (tree.put array subscripts v at) a t n j =
      valued_holds I (values f.arrays subscripts t) (λ is_ t1. valued (value f.arrays v t1) (λ x t2. put_at f array.0 (element_number f.arrays array.0 is_) x at t2) t1) t n
      (λ is_. valued_holds I (value f.arrays v t) (λ x t2. put_at f array.0 (element_number f.arrays array.0 is_) x at t2) t n
      (λ x. put_holds I f array.0 (element_number f.arrays array.0 is_) x at t n (λ i. a t i x j)))
  piece_holds I f (tree.fork test first second end) a t n j =
      valued_holds I (value f.arrays test t) (λ x t1 n1. then_ (if is_true x then pieces_run f first t1 n1 else pieces_run f second t1 n1) (λ w t2 n2. behind_fork w end t2 n2)) t n
      (λ x. then_holds I (if is_true x then pieces_run f first t n else pieces_run f second t n) (λ w t2 n2. behind_fork w end t2 n2)
      (if_holds I (is_true x) (pieces_run f first t n) (pieces_run f second t n) (pieces_hold I f first a.0 t n j) (pieces_hold I f second a.1 t n j))
      (λ w t2 n2 j2. fork_holds I w end t2 n2 j2))
  piece_holds I f (tree.repeat_ id post before test body step end) a t n j =
      let first = test_first f (pieces_run f before) test (pieces_run f body) (pieces_run f step) in
      let last = test_last f (pieces_run f before) test (pieces_run f body) in
      let hb : Keeps I (pieces_run f before) = λ t1 n1 j1. pieces_hold I f before a.0 t1 n1 j1 in
      let hm : Keeps I (pieces_run f body) = λ t1 n1 j1. pieces_hold I f body a.1 t1 n1 j1 in
      let hs : Keeps I (pieces_run f step) = λ t1 n1 j1. pieces_hold I f step a.2 t1 n1 j1 in
      then_holds I (repeat n (if post then last else first) t n) (λ w t1 n1. behind_loop w end t1 n1)
      (repeat_holds I (if post then last else first)
      (post_holds I post first last (first_holds I f (pieces_run f before) test (pieces_run f body) (pieces_run f step) hb hm hs) (last_holds I f (pieces_run f before) test (pieces_run f body) hb hm)) n t n j)
      (λ w t1 n1 j1. loop_holds I w end t1 n1 j1)
  piece_holds I f (tree.pick test labels body end) a t n j =
      valued_holds I (value f.arrays test t) (λ x t1 n1. then_ (from_target (target (switch_word (kind test) x) labels) (λ k t2 n2. from_piece f body k t2 n2) t1 n1) (λ w t2 n2. behind_switch w end t2 n2)) t n
      (λ x. then_holds I (from_target (target (switch_word (kind test) x) labels) (λ k t2 n2. from_piece f body k t2 n2) t n) (λ w t2 n2. behind_switch w end t2 n2)
      (target_holds I (target (switch_word (kind test) x) labels) (λ k t2 n2. from_piece f body k t2 n2) t n (λ k. from_holds I f body a k t n j) j)
      (λ w t2 n2 j2. switch_holds I w end t2 n2 j2))
  piece_holds I f tree.break_ a t n j = j
  piece_holds I f tree.next_ a t n j = j
  piece_holds I f (tree.leave call) a t n j = j
  piece_holds I f (tree.land call end) a t n j = behind_holds I end t n j
  piece_holds I f (tree.mark point) a t n j = behind_holds I point t n j

  pub pieces_hold : (I : Store → Type 0) (f : Frame) (ps : PieceTrees) → AllAllow f I ps → (t : Store) (n : ℕ) → I t → Holds I (pieces_run f ps t n).outcome
  pieces_hold I f tree.no_pieces a t n j = j
  pieces_hold I f (tree.then_ first rest) a t n j =
      then_holds I (piece_run f first t n) (λ w t1 n1. behind_piece (λ t2 n2. pieces_run f rest t2 n2) (λ call t2 n2. landed f rest call t2 n2) w t1 n1) (piece_holds I f first a.0 t n j)
      (λ w t1 n1 j1. way_holds I f rest (λ t2 n2 j2. pieces_hold I f rest a.1 t2 n2 j2) (λ call t2 n2 j2. landed_holds I f rest a.1 call t2 n2 j2) w t1 n1 j1)

  landed_holds : (I : Store → Type 0) (f : Frame) (ps : PieceTrees) → AllAllow f I ps → (call : CallId) (t : Store) (n : ℕ) → I t → Holds I (landed f ps call t n).outcome
  landed_holds I f tree.no_pieces a call t n j = j
  landed_holds I f (tree.then_ (tree.land other end) rest) a call t n j =
      if_holds I (call.0 == other.0) (then_ (behind end t n) (λ w t1 n1. pieces_run f rest t1 n1)) (landed f rest call t n)
      (then_holds I (behind end t n) (λ w t1 n1. pieces_run f rest t1 n1) (behind_holds I end t n j) (λ w t1 n1 j1. pieces_hold I f rest a.1 t1 n1 j1))
      (landed_holds I f rest a.1 call t n j)
  landed_holds I f (tree.then_ (tree.set name v) rest) a call t n j = landed_holds I f rest a.1 call t n j
  landed_holds I f (tree.then_ (tree.put array subscripts v at) rest) a call t n j = landed_holds I f rest a.1 call t n j
  landed_holds I f (tree.then_ (tree.fork test first second end) rest) a call t n j = landed_holds I f rest a.1 call t n j
  landed_holds I f (tree.then_ (tree.repeat_ id post before test body step end) rest) a call t n j = landed_holds I f rest a.1 call t n j
  landed_holds I f (tree.then_ (tree.pick test labels body end) rest) a call t n j = landed_holds I f rest a.1 call t n j
  landed_holds I f (tree.then_ tree.break_ rest) a call t n j = landed_holds I f rest a.1 call t n j
  landed_holds I f (tree.then_ tree.next_ rest) a call t n j = landed_holds I f rest a.1 call t n j
  landed_holds I f (tree.then_ (tree.leave other) rest) a call t n j = landed_holds I f rest a.1 call t n j
  landed_holds I f (tree.then_ (tree.mark point) rest) a call t n j = landed_holds I f rest a.1 call t n j

  from_holds : (I : Store → Type 0) (f : Frame) (ps : PieceTrees) → AllAllow f I ps → (k : ℕ) (t : Store) (n : ℕ) → I t → Holds I (from_piece f ps k t n).outcome
  from_holds I f tree.no_pieces a k t n j = j
  from_holds I f (tree.then_ first rest) a zero t n j =
      then_holds I (piece_run f first t n) (λ w t1 n1. behind_piece (λ t2 n2. pieces_run f rest t2 n2) (λ call t2 n2. landed f rest call t2 n2) w t1 n1) (piece_holds I f first a.0 t n j)
      (λ w t1 n1 j1. way_holds I f rest (λ t2 n2 j2. pieces_hold I f rest a.1 t2 n2 j2) (λ call t2 n2 j2. landed_holds I f rest a.1 call t2 n2 j2) w t1 n1 j1)
  from_holds I f (tree.then_ first rest) a (suc k) t n j = from_holds I f rest a.1 k t n j
