use Rattle.std.proofs.Common.{◌≡◌, ◌≤◌, map, drop}
use Rattle.module_commands.proofs.ReadFiles.{ReadUpTo}
use Rattle.module_commands.proofs.work.read_all.Given as goal

abbrev pub invariant-loop-name : goal.invariant-loop-name
invariant-loop-name g l =
    ReadUpTo (g.F.Shelf.files l.fn.shelf) (map (λ n. n.now) l.names) (map (λ n. n.now) (drop l.name-index l.names)) (map (λ t. t.items) l.texts.items)
    × (g.F.Shelf.files l.shelf ≡ g.F.Shelf.files l.fn.shelf) × (g.F.Shelf.faults l.fn.shelf ≤ g.F.Shelf.faults l.shelf)
