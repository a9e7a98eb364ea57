-- The stack of what waits, the uppermost frame first.
use Rattle.std.specs.Prelude.{List, map, reverse}
use Rattle.c_machine.specs.Frames as f
use Rattle.c_machine.specs.Waiting.Shown.{frame_of}
use Rattle.c_machine.specs.declared.waiting.stack.Stack.{Stack}

abbrev pub stack_of : Stack → List f.Frame
stack_of s = reverse (map frame_of s.frames.items)
