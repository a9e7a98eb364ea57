use Rattle.std.proofs.Common.{Some, sym, ap}
use Rattle.hls_base.proofs.FileLists.{place_from_position, named_at_place, none_from_position}
use Rattle.hls_base.proofs.memory.find_file.Goals as goal

pub returns-in-Some : goal.returns-in-Some
returns-in-Some c =
    let place = place_from_position c.args.files.now c.args.name.now c.in-Some.i (sym c.in-Some.ensures) in
    let there = named_at_place c.args.files.now c.args.name.now c.in-Some.i c.index-files-i.result place in
    rw (there, ← c.index-files-i.is) (ap Some c.items.ensures)

pub returns-in-None : goal.returns-in-None
returns-in-None c =
    sym (none_from_position c.args.files.now c.args.name.now (sym c.in-None.ensures))
