-- What a machine of the code shows.
use Rattle.std.specs.Prelude.{map}
use Rattle.c_tree.specs.View.{item_of}
use Rattle.c_machine.specs.Frames.{Configuration}
use Rattle.c_machine.specs.Waiting.Shown.{control_of}
use Rattle.c_machine.specs.Waiting.Stacks.{stack_of}
use Rattle.c_moves.specs.declared.machine.Machine.{Machine}

abbrev pub configuration_of : Machine → Configuration
configuration_of m = record {
  items = map item_of m.items.now;
  stack = stack_of m.stack;
  held = record { file = m.scopes.file; environment = m.scopes.environment; outer = m.scopes.outer; numbers = m.numbers; given = m.given };
  objects = m.objects.items;
  meter = m.meter;
  control = control_of m.control;
}
