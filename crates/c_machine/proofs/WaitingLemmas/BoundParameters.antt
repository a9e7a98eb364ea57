-- The beginning of a call, where its parameters are bound.
use Rattle.std.proofs.Common.{◌≡◌, ap, List, [], ◌∷◌, length, true}
use Rattle.hls_base.specs.declared.place.Place.{Place}
use Rattle.hls_base.specs.declared.point.PointKind.TheVariants as point
use Rattle.c_tree.specs.Tree.{FunctionTree, ItemTree}
use Rattle.c_meaning.specs.declared.value.Argument.{Argument}
use Rattle.c_meaning.specs.declared.names.Binding.{Binding}
use Rattle.c_meaning.specs.Store.{Object, State, Environment}
use Rattle.c_meaning.specs.Names.{begun}
use Rattle.c_meaning.specs.Run.{parameters, body_of}
use Rattle.c_machine.specs.State.Objects.{state}
use Rattle.c_machine.specs.Frames as f
use Rattle.c_machine.specs.Frames.{Configuration, scope_opened, in_environment}
use Rattle.c_machine.specs.Moves.{holding, function_entered, top_begun}

pub entered-bound : (fn : FunctionTree) (given : List Argument) (path : List Place) (m : Configuration) (env : Environment) (all : List Object)
    → parameters fn.params given (begun m.held.file path fn.result) (state m.objects 0) ≡ (env, state all 0)
    → function_entered fn given path m ≡ record (holding (in_environment env (scope_opened m.held)) m) { objects = all }
entered-bound fn given path m env all e =
    ap (λ (b : Environment × State). record (holding (in_environment b.0 (scope_opened m.held)) m) { objects = b.1.objects }) e

pub top-bound : (items : List ItemTree) (names : List Binding) (fn : FunctionTree) (given : List Argument) (objects : List Object) (env : Environment) (all : List Object)
    → parameters fn.params given (begun names [] fn.result) (state objects 0) ≡ (env, state all 0)
    → top_begun items names fn given objects ≡ record {
      items = items;
      stack = f.on_end (f.top fn (length objects)) ∷ [];
      held = record { file = names; environment = env; outer = []; numbers = []; given = [] };
      objects = all;
      meter = record { left = 0; passed = 0; counts = [] };
      control = f.before point.Begin fn.at (f.block true (body_of fn.body));
    }
top-bound items names fn given objects env all e =
    ap (λ (b : Environment × State). record {
      items = items;
      stack = f.on_end (f.top fn (length objects)) ∷ [];
      held = record { file = names; environment = b.0; outer = []; numbers = []; given = [] };
      objects = b.1.objects;
      meter = record { left = 0; passed = 0; counts = [] };
      control = f.before point.Begin fn.at (f.block true (body_of fn.body));
    }) e

pub ruleset binding = (entered-bound, top-bound)
