use Rattle.std.proofs.Common.{◌≡◌, ◌++◌, map, take, drop}
use Rattle.c_tree.specs.View.{param_of}
use Rattle.pieces.specs.Resolved.CoreView.{core_object_of}
use Rattle.c_elaborate.specs.Objects.{object_elaborated}
use Rattle.c_elaborate.specs.Scenes.{all_declared}
use Rattle.c_elaborate.specs.Programs.{objects_of_params}
use Rattle.c_elaborate.proofs.functions.enter_params.Given as goal

abbrev pub invariant-loop-param : goal.invariant-loop-param
invariant-loop-param l = record {
  scene : all_declared l.scene (objects_of_params (map param_of (drop l.param-index l.params))) ≡ all_declared l.initial.scene (objects_of_params (map param_of l.params));
  objects : map core_object_of l.objects.items ++ map object_elaborated (objects_of_params (map param_of (drop l.param-index l.params))) ≡ map core_object_of l.initial.objects.items ++ map object_elaborated (objects_of_params (map param_of l.params));
}
