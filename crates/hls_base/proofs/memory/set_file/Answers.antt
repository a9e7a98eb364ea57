use Rattle.std.proofs.Common.{sym}
use Rattle.hls_base.proofs.FileLists.{place_from_position, set_is_with_file, none_from_position, push_is_with_file}
use Rattle.hls_base.proofs.memory.set_file.Goals as goal

pub returns-in-Some-clause-ok : goal.returns-in-Some-clause-ok
returns-in-Some-clause-ok c =
    let place = place_from_position c.as_slice.result.now c.args.name.now c.in-Some.i (sym c.in-Some.ensures) in
    let done = set_is_with_file c.as_slice.result.now c.args.name.now c.args.bytes.now c.in-Some.i place in
    rw (c.in_ok-from_slice.ensures, c.in_ok-from_slice-2.ensures, ← c.as_slice.ensures.value) done

pub returns-in_ok-push-in-None-clause-ok : goal.returns-in_ok-push-in-None-clause-ok
returns-in_ok-push-in-None-clause-ok c =
    let absent = none_from_position c.as_slice.result.now c.args.name.now (sym c.in-None.ensures) in
    let pushed = push_is_with_file c.as_slice.result.now c.args.name.now c.args.bytes.now absent in
    rw (c.in_ok-push-in-None.ensures.items, c.in_ok-from_slice.ensures, c.in_ok-from_slice-2.ensures, ← c.as_slice.ensures.value) pushed
