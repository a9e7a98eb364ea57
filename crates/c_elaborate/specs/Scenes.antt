-- The names that are visible at a place of a function, and the objects that they stand for.
use Rattle.std.specs.Prelude.{ℕ, ◌+◌, ◌-◌, List, [], ◌∷◌, length, drop}
use Rattle.c_token.specs.declared.ctype.CType.{CType}
use Rattle.c_tree.specs.Tree.{ObjectTree}
use Rattle.c_value.specs.Values.{int_type}
use Rattle.pieces.specs.declared.resolved.expression.Scope.TheVariants as scope
use Rattle.c_elaborate.specs.declared.blocks.Scene.{Scene}
use Rattle.c_elaborate.specs.declared.blocks.Mark.{Mark}
use Rattle.c_elaborate.specs.declared.names.Binding.{Binding}
use Rattle.c_elaborate.specs.Names.{binding_of, cell_of}

-- file scope, with these names
abbrev pub file_scene : List Binding → Scene
file_scene names = record { names = names; next = 0; labels = int_type }

-- a block whose objects are numbered from here on
abbrev pub opened : Scene → ℕ → Scene
opened scene free = record scene { next = free }

-- the labels of a switch have this type
abbrev pub labelled_by : CType → Scene → Scene
labelled_by kind scene = record scene { labels = kind }

-- The name of a declaration stands for the next object, from behind its declarator on (C11 6.2.1 paragraph 7).
abbrev pub declared : Scene → ObjectTree → Scene
declared scene o = record scene { names = binding_of o (cell_of scope.Call scene.next) ∷ scene.names; next = scene.next + 1 }

abbrev pub all_declared : Scene → List ObjectTree → Scene
all_declared scene [] = scene
all_declared scene (o ∷ os) = all_declared (declared scene o) os

-- behind a part that began here
abbrev pub returned : Mark → Scene → Scene
returned mark scene = record { names = drop (length scene.names - mark.names) scene.names; next = mark.next; labels = mark.labels }
