use Rattle.std.proofs.Common.{◌≡◌, ◌<◌, [], Some, true, map, length, slice_get, sym, ap, ◌∙◌, arith}
use Rattle.c_tree.specs.View.{item_of, program_of}
use Rattle.c_token.specs.Replacement.{is_in}
use Rattle.c_meaning.specs.Checks.Programs.{program_faults, body_names, body_name_of, top_name}
use Rattle.c_types.proofs.Accepted.{least_is_least, no_fault, top_is_defined, index_below, well_formed}
use Rattle.c_types.proofs.program.check.Goals as goal

pub returns-in-Some-clause-refused : goal.returns-in-Some-clause-refused
returns-in-Some-clause-refused c = least_is_least (program_faults (program_of c.args.program) c.args.top.now) c.in-Some.fault (sym c.in_ok-fault.ensures ∙ c.in-Some.is)

pub overflow_cast-result : goal.overflow_cast-result
overflow_cast-result c =
    let items = c.deref.result.now in
    let clean : program_faults (program_of c.args.program) c.args.top.now ≡ [] = no_fault _ (sym c.in_ok-fault.ensures ∙ c.in_default.is) in
    let defined : is_in c.args.top.now (body_names (map item_of items)) ≡ true = ap (λ xs. is_in c.args.top.now (body_names (map item_of xs))) c.deref.ensures.value ∙ top_is_defined (program_of c.args.program) c.args.top.now clean in
    let below : c.body_index-top.result < length items = index_below c.body_index-top.result (length items) _ defined c.body_index-top.ensures.absent in
    let long : length items ≡ length c.args.program.items.items = ap length c.deref.ensures.value in
    omega arith

pub invariant_of-result : goal.invariant_of-result
invariant_of-result c =
    let items = c.deref.result.now in
    let clean : program_faults (program_of c.args.program) c.args.top.now ≡ [] = no_fault _ (sym c.in_ok-fault.ensures ∙ c.in_default.is) in
    let defined : is_in c.args.top.now (body_names (map item_of items)) ≡ true = ap (λ xs. is_in c.args.top.now (body_names (map item_of xs))) c.deref.ensures.value ∙ top_is_defined (program_of c.args.program) c.args.top.now clean in
    let below : c.body_index-top.result < length items = index_below c.body_index-top.result (length items) _ defined c.body_index-top.ensures.absent in
    let named : top_name (program_of c.args.program) c.body_index-top.result ≡ Some c.args.top.now = ap (λ xs. body_name_of (slice_get (map item_of xs) c.body_index-top.result)) (sym c.deref.ensures.value) ∙ c.body_index-top.ensures.found below in
    record { well_formed = well_formed (program_of c.args.program) c.args.top.now c.body_index-top.result named clean }

pub returns-clause-top : goal.returns-clause-top
returns-clause-top c =
    let items = c.deref.result.now in
    let clean : program_faults (program_of c.args.program) c.args.top.now ≡ [] = no_fault _ (sym c.in_ok-fault.ensures ∙ c.in_default.is) in
    let defined : is_in c.args.top.now (body_names (map item_of items)) ≡ true = ap (λ xs. is_in c.args.top.now (body_names (map item_of xs))) c.deref.ensures.value ∙ top_is_defined (program_of c.args.program) c.args.top.now clean in
    let below : c.body_index-top.result < length items = index_below c.body_index-top.result (length items) _ defined c.body_index-top.ensures.absent in
    ap (λ xs. body_name_of (slice_get (map item_of xs) c.body_index-top.result)) (sym c.deref.ensures.value) ∙ c.body_index-top.ensures.found below

pub returns-clause-accepted : goal.returns-clause-accepted
returns-clause-accepted c = no_fault _ (sym c.in_ok-fault.ensures ∙ c.in_default.is)
