-- Moves of declarations and initialisers leave of a run what was left before.
use Rattle.std.proofs.Common.{◌≡◌, ℕ, zero, suc, ◌+◌, ◌*◌, sym, refl, ap, List, [], ◌∷◌, pos, Option, Some, None, true}
use Rattle.hls_base.specs.ArrayAddress.{element_count}
use Rattle.c_tree.specs.Tree as tree
use Rattle.c_tree.specs.Tree.{Tree, InitTree, InitTrees, ObjectTree}
use Rattle.c_value.specs.Values.{convert}
use Rattle.c_meaning.specs.declared.value.Completion.TheVariants as end
use Rattle.c_meaning.specs.Store.{State, declared, all_declared, kind_of_object, lengths_in, write_element}
use Rattle.c_meaning.specs.Steps.{then_, goes}
use Rattle.c_meaning.specs.Expression.{expression_meaning}
use Rattle.c_meaning.specs.Statement.{zeros, initialise, initialise_rows, declare_object, declare_all}
use Rattle.c_machine.specs.Frames as f
use Rattle.c_machine.specs.Frames.{Configuration, in_environment}
use Rattle.c_machine.specs.Rest.{rest_of, rest_from, setting, state_with, calls_at, with_end}
use Rattle.c_machine.specs.Moves.{here, holding, pushed, initialised, next_row, object_declared, next_object, still}
use Rattle.c_machine.proofs.ThenLaws.{then_assoc}
use Rattle.c_machine.proofs.Quiet.{with_left}

pub initialised-rest : (left object : ℕ) (lengths : List ℕ) (init : InitTree) (element : ℕ) (m : Configuration)
    → rest_of left (initialised object lengths init element m) ≡ rest_from left (f.initialise object lengths init element) m
initialised-rest left object lengths (tree.single v) element m =
    sym (then_assoc (expression_meaning (calls_at (setting left m) m.stack) true v (here m) (state_with left m))
    (λ x s1. goes tt (write_element s1 object element (convert (kind_of_object s1 object) x.number))) (λ u s1. with_end (setting left m) m.stack m.held end.Normal s1))
initialised-rest left object [] (tree.braced items at) element m = refl
initialised-rest left object (len ∷ lengths) (tree.braced items at) element m = refl

zeros-left : (left n object element : ℕ) (s : State) → zeros n object element (with_left left s) ≡ with_left left (zeros n object element s)
zeros-left left zero object element s = refl
zeros-left left (suc n) object element s = zeros-left left n object (element + 1) (write_element s object element (pos 0))

pub next_row-rest : (left object count : ℕ) (lengths : List ℕ) (items : InitTrees) (element : ℕ) (m : Configuration)
    → rest_of left (next_row object count lengths items element m)
    ≡ then_ (initialise_rows (calls_at (setting left m) m.stack) object count lengths items element (here m) (state_with left m)) (λ u s1. with_end (setting left m) m.stack m.held end.Normal s1)
next_row-rest left object count lengths tree.no_init element m =
    ap (λ s. with_end (setting left m) m.stack m.held end.Normal s) (sym (zeros-left left (count * element_count lengths) object element (still m)))
next_row-rest left object zero lengths (tree.more_inits first others) element m = refl
next_row-rest left object (suc count) lengths (tree.more_inits first others) element m =
    let c = calls_at (setting left m) m.stack in
    sym (then_assoc (initialise c object lengths first element (here m) (state_with left m))
    (λ u s1. initialise_rows c object count lengths others (element + element_count lengths) (here m) s1) (λ u s1. with_end (setting left m) m.stack m.held end.Normal s1))

-- Behind a name, its object is initialised, and then come the other declarations.
object_declared-rest : (left : ℕ) (init : Option InitTree) (lengths : List ℕ) (object : ℕ) (os : List ObjectTree) (m : Configuration)
    → rest_of left (object_declared init lengths object (pushed (f.on_end (f.declaring os)) m))
    ≡ then_ (then_ (declare_object (calls_at (setting left m) m.stack) object lengths init (here m) (state_with left m))
    (λ u s1. declare_all (calls_at (setting left m) m.stack) os (here m) s1))
    (λ u s1. with_end (setting left m) m.stack (in_environment (all_declared (here m) os) m.held) end.Normal s1)
object_declared-rest left None lengths object os m = refl
object_declared-rest left (Some init) lengths object os m =
    let c = calls_at (setting left m) m.stack in
    sym (then_assoc (initialise c object lengths init 0 (here m) (state_with left m)) (λ u s1. declare_all c os (here m) s1)
    (λ u s1. with_end (setting left m) m.stack (in_environment (all_declared (here m) os) m.held) end.Normal s1))

pub next_object-rest : (left : ℕ) (os : List ObjectTree) (m : Configuration)
    → rest_of left (next_object os m)
    ≡ then_ (declare_all (calls_at (setting left m) m.stack) os (here m) (state_with left m))
    (λ u s1. with_end (setting left m) m.stack (in_environment (all_declared (here m) os) m.held) end.Normal s1)
next_object-rest left [] m = refl
next_object-rest left (o ∷ os) m = object_declared-rest left o.init (lengths_in o) (here m).next os (holding (in_environment (declared (here m) o.name) m.held) m)
