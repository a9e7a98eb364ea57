-- Forks that are merged, and shapes that are not.
use Rattle.std.proofs.Common.{◌≡◌, ◌∙◌, ℕ, Bool, true, false, ◌&&◌, refl, ap, sym, List, Option, Some, None}
use Rattle.std.specs.Prelude.{if◌then◌else◌}
use Rattle.ir_core.specs.declared.body.Operand.{Operand}
use Rattle.ir_core.specs.Bodies.{Shapes, Words}
use Rattle.ir_core.specs.Trees.{ExitTree, next, branch, choose, break_, continue_, leave, BlockTree, SequenceTree, sequence, PartTrees, no_part, more_parts, ShapeTree, fork, loop, switch, land, overlapped, SideTree, no_side, side}
use Rattle.ir_core.specs.TreeRuns.{left, parts_run}
use Rattle.passes.specs.Conversion.Merging.{Branches, test_of, is_only, is_only_side, leads_on, first_block, first_of, branches_of}
use Rattle.passes.specs.Conversion.Overlapping.{is_test, test_if, test_alone, overlapped_test, loop_by}

some_same : {A : Type 0} {x y : A} → Some x ≡ Some y → x ≡ y
some_same e = cc

pub record IsFork (exit : ExitTree) (yes_ no_ : SideTree) (f : Branches) : Type 0 where
  pub exit_ : exit ≡ branch f.test
  pub only_yes : is_only_side yes_ ≡ true
  pub only_no : is_only_side no_ ≡ true
  pub yes_same : f.yes_ ≡ first_block yes_
  pub no_same : f.no_ ≡ first_block no_

forked_fork : (test : Operand) (yes_ no_ : SideTree) (c y n : Bool) (f : Branches) → is_only_side yes_ ≡ y → is_only_side no_ ≡ n
    → (if c && (y && n) then Some (record { test = test; yes_ = first_block yes_; no_ = first_block no_ }) else None) ≡ Some f → IsFork (branch test) yes_ no_ f
forked_fork test yes_ no_ false y n f ey en h = absurd cc
forked_fork test yes_ no_ true false n f ey en h = absurd cc
forked_fork test yes_ no_ true true false f ey en h = absurd cc
forked_fork test yes_ no_ true true true f ey en h =
    let e = some_same h in
    record { exit_ = ap (λ (x : Branches). branch x.test) e; only_yes = ey; only_no = en; yes_same = sym (ap (λ (x : Branches). x.yes_) e); no_same = sym (ap (λ (x : Branches). x.no_) e) }

pub fork_found : (exit : ExitTree) (yes_ no_ : SideTree) (c : Bool) (f : Branches) → branches_of exit (fork yes_ no_ c) ≡ Some f → IsFork exit yes_ no_ f
fork_found (branch test) yes_ no_ c f h = forked_fork test yes_ no_ c (is_only_side yes_) (is_only_side no_) f refl refl h
fork_found next yes_ no_ c f h = absurd cc
fork_found (choose cases) yes_ no_ c f h = absurd cc
fork_found break_ yes_ no_ c f h = absurd cc
fork_found continue_ yes_ no_ c f h = absurd cc
fork_found (leave number) yes_ no_ c f h = absurd cc

abbrev pub IsNoFork : ShapeTree → Type 0
IsNoFork (fork yes_ no_ c) = ⊥
IsNoFork shape = Unit {0}

pub no_fork_found : (exit : ExitTree) (shape : ShapeTree) (f : Branches) → IsNoFork shape → branches_of exit shape ≡ Some f → ⊥
no_fork_found (branch test) (fork yes_ no_ c) f k h = k
no_fork_found (branch test) (loop post t b s e) f k h = cc
no_fork_found (branch test) (switch dead targets other arms) f k h = cc
no_fork_found (branch test) (land number) f k h = cc
no_fork_found (branch test) (overlapped point body) f k h = cc
no_fork_found next shape f k h = cc
no_fork_found (choose cases) shape f k h = cc
no_fork_found break_ shape f k h = cc
no_fork_found continue_ shape f k h = cc
no_fork_found (leave number) shape f k h = cc

pub loop_is_no_fork : (widths : List ℕ) (x : Option Operand) (post : Bool) (t b : SequenceTree) (s : SideTree) → IsNoFork (loop_by widths x post t b s)
loop_is_no_fork widths None post t b s = tt
loop_is_no_fork widths (Some test) post t b s = tt

-- ---- shapes that are no places to which blocks leave

abbrev pub IsNoLand : ShapeTree → Type 0
IsNoLand (land number) = ⊥
IsNoLand shape = Unit {0}

pub loop_is_no_land : (widths : List ℕ) (x : Option Operand) (post : Bool) (t b : SequenceTree) (s : SideTree) → IsNoLand (loop_by widths x post t b s)
loop_is_no_land widths None post t b s = tt
loop_is_no_land widths (Some test) post t b s = tt

pub passes_by : (shapes : Shapes) (shape : ShapeTree) → IsNoLand shape → (after : BlockTree) (rest : PartTrees) (number : _) (t : Words) (n : ℕ)
    → parts_run shapes (more_parts shape after rest) (left number) t n ≡ parts_run shapes rest (left number) t n
passes_by shapes (fork yes_ no_ c) k after rest number t n = refl
passes_by shapes (loop post test body s e) k after rest number t n = refl
passes_by shapes (switch dead targets other arms) k after rest number t n = refl
passes_by shapes (land other) k after rest number t n = absurd k
passes_by shapes (overlapped point body) k after rest number t n = refl

-- ---- a sequence of one block alone

pub only_exit : (e : ExitTree) → leads_on e ≡ true → e ≡ next
only_exit next h = refl
only_exit (branch test) h = absurd cc
only_exit (choose cases) h = absurd cc
only_exit break_ h = absurd cc
only_exit continue_ h = absurd cc
only_exit (leave number) h = absurd cc

pub only_alone : (s : SequenceTree) → is_only s ≡ true → (s ≡ sequence (first_of s) no_part) × ((first_of s).exit ≡ next)
only_alone (sequence b no_part) h = (refl, only_exit b.exit h)
only_alone (sequence b (more_parts shape after rest)) h = absurd cc

-- ---- loops that are overlapped

pub record IsOverlapped (post : Bool) (test body : SequenceTree) (step : SideTree) (known : Operand) : Type 0 where
  pub first_ : post ≡ false
  pub no_step : step ≡ no_side
  pub only_body : is_only body ≡ true
  pub alone : test ≡ sequence (first_of test) no_part
  pub exit_ : (first_of test).exit ≡ branch known
  pub tests : is_test (first_of test) known ≡ true

record IsTestOf (test : SequenceTree) (known : Operand) : Type 0 where
  alone : test ≡ sequence (first_of test) no_part
  exit_ : (first_of test).exit ≡ branch known
  tests : is_test (first_of test) known ≡ true

test_found_if : (b : BlockTree) (x : Operand) (known : Operand) (t : Bool) → is_test b x ≡ t → (if t then Some x else None) ≡ Some known → (x ≡ known) × (is_test b known ≡ true)
test_found_if b x known true e h = let p : x ≡ known = some_same h in (p, ap (is_test b) (sym p) ∙ e)
test_found_if b x known false e h = absurd cc

test_found_by : (b : BlockTree) (exit : ExitTree) (known : Operand) → test_if b (test_of exit) ≡ Some known → (exit ≡ branch known) × (is_test b known ≡ true)
test_found_by b (branch x) known h = let r = test_found_if b x known (is_test b x) refl h in (ap branch r.0, r.1)
test_found_by b next known h = absurd cc
test_found_by b (choose cases) known h = absurd cc
test_found_by b break_ known h = absurd cc
test_found_by b continue_ known h = absurd cc
test_found_by b (leave number) known h = absurd cc

test_found : (test : SequenceTree) (known : Operand) → test_alone test ≡ Some known → IsTestOf test known
test_found (sequence b no_part) known h = let r = test_found_by b b.exit known h in record { alone = refl; exit_ = r.0; tests = r.1 }
test_found (sequence b (more_parts shape after rest)) known h = absurd cc

overlapped_if : (test body : SequenceTree) (known : Operand) (x : Bool) → is_only body ≡ x → (if x then test_alone test else None) ≡ Some known → IsOverlapped false test body no_side known
overlapped_if test body known true e h = let r = test_found test known h in record { first_ = refl; no_step = refl; only_body = e; alone = r.alone; exit_ = r.exit_; tests = r.tests }
overlapped_if test body known false e h = absurd cc

pub overlapped_found : (post : Bool) (test body : SequenceTree) (step : SideTree) (known : Operand) → overlapped_test post test body step ≡ Some known → IsOverlapped post test body step known
overlapped_found true test body step known h = absurd cc
overlapped_found false test body (side blocks) known h = absurd cc
overlapped_found false test body no_side known h = overlapped_if test body known (is_only body) refl h
