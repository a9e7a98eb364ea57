use Rattle.std.proofs.Common.{◌∙◌, ℕ, List, [], map, ap}
use Rattle.hls_base.specs.declared.number.Kept.{Kept}
use Rattle.hls_base.specs.declared.number.VarId.{VarId}
use Rattle.pieces.specs.declared.resolved.program.FileObject.{FileObject}
use Rattle.pieces.specs.Resolved.CoreView.{file_object_of, core_function_of}
use Rattle.piece_making.specs.Stocks.{stock, state_of}
use Rattle.piece_making.proofs.Exits.{through}
use Rattle.piece_making.proofs.Parts.{made_behind, heavy_at_once, heavy_behind}
use Rattle.c_expand.specs.Expansion.{Outline, kept_scalars, file_homes, top_call, variables_of}
use Rattle.c_expand.proofs.Leading.{given, made_as, heavy_as}
use Rattle.c_expand.proofs.expand.run.Goals as goal

pub returns-in_err-kept-clause-refused : goal.returns-in_err-kept-clause-refused
returns-in_err-kept-clause-refused c =
    through _ c.in_err-kept.field-0.0 _ _ c.from_residual.ensures.1 (λ y e. e) c.in_err-kept.ensures.refused
    (λ r h. heavy_at_once _ _ _ _ (heavy_as _ _ _ _ (ap (λ (os : List FileObject). kept_scalars (map file_object_of os) [] (state_of (stock c.args.work.now))) c.deref.ensures.value) h))

pub returns-in_err-file-clause-refused : goal.returns-in_err-file-clause-refused
returns-in_err-file-clause-refused c =
    let at = state_of (stock c.parameters.new.work) in
    let kept = made_as _ _ _ _ _ (ap (λ (os : List FileObject). kept_scalars (map file_object_of os) [] (state_of (stock c.args.work.now))) c.deref.ensures.value) c.in_ok-kept.ensures.made in
    through _ c.in_err-file.field-0.0 _ _ c.from_residual-in_err-file.ensures.1 (λ y e. e) c.in_err-file.ensures.refused
    (λ r h. heavy_behind _ _ _ _ _ _ kept (heavy_behind _ _ _ _ _ _ c.in_ok-params.ensures (heavy_at_once _ _ _ _ (heavy_as _ _ _ _
    (ap (λ (os : List FileObject). file_homes (map file_object_of os) c.deref-4.result.now [] at) c.deref-3.ensures.value
    ∙ ap (λ (ks : List Kept). file_homes (map file_object_of c.args.program.now.file.items) ks [] at) c.deref-4.ensures.value) h))))

pub returns-in_err-result-clause-refused : goal.returns-in_err-result-clause-refused
returns-in_err-result-clause-refused c =
    let at = state_of (stock c.parameters.new.work) in
    let functions = map core_function_of c.args.program.now.functions.items in
    let kept = made_as _ _ _ _ _ (ap (λ (os : List FileObject). kept_scalars (map file_object_of os) [] (state_of (stock c.args.work.now))) c.deref.ensures.value) c.in_ok-kept.ensures.made in
    let file = made_as _ _ _ _ _
    (ap (λ (os : List FileObject). file_homes (map file_object_of os) c.deref-4.result.now [] at) c.deref-3.ensures.value
    ∙ ap (λ (ks : List Kept). file_homes (map file_object_of c.args.program.now.file.items) ks [] at) c.deref-4.ensures.value) c.in_ok-file.ensures.made in
    through _ c.in_err-result.field-0.0 _ _ c.from_residual-in_err-result.ensures.1 (λ y e. e) c.in_err-result.ensures.refused
    (λ r h. heavy_behind _ _ _ _ _ _ kept (heavy_behind _ _ _ _ _ _ c.in_ok-params.ensures (heavy_behind _ _ _ _ _ _ file (heavy_behind _ _ _ _ _ _ c.in_ok-add_locals.ensures
    (heavy_at_once _ _ _ _ (heavy_as _ _ _ _
    (ap (λ (n : ℕ). top_call functions (core_function_of c.args.top.now) c.in_ok-file.file.items n c.add_locals.new.homes.items (state_of (stock c.add_locals.new.work))) c.in_ok-file_variables.ensures) h))))))

pub returns-clause-made : goal.returns-clause-made
returns-clause-made c =
    let at = state_of (stock c.parameters.new.work) in
    let functions = map core_function_of c.args.program.now.functions.items in
    let kept = made_as _ _ _ _ _ (ap (λ (os : List FileObject). kept_scalars (map file_object_of os) [] (state_of (stock c.args.work.now))) c.deref.ensures.value) c.in_ok-kept.ensures.made in
    let file = made_as _ _ _ _ _
    (ap (λ (os : List FileObject). file_homes (map file_object_of os) c.deref-4.result.now [] at) c.deref-3.ensures.value
    ∙ ap (λ (ks : List Kept). file_homes (map file_object_of c.args.program.now.file.items) ks [] at) c.deref-4.ensures.value) c.in_ok-file.ensures.made in
    let result = made_as _ _ _ _ _
    (ap (λ (n : ℕ). top_call functions (core_function_of c.args.top.now) c.in_ok-file.file.items n c.add_locals.new.homes.items (state_of (stock c.add_locals.new.work))) c.in_ok-file_variables.ensures) c.in_ok-result.ensures.made in
    made_behind _ _ _ _ _ _ _ kept (made_behind _ _ _ _ _ _ _ c.in_ok-params.ensures (made_behind _ _ _ _ _ _ _ file (made_behind _ _ _ _ _ _ _ c.in_ok-add_locals.ensures (made_behind _ _ _ _ _ _ _ result
    (given _ _ _ (ap (λ (vs : List VarId). let o : Outline = record { kept = c.in_ok-kept.kept.items; params = vs; result = c.in_ok-result.result } in o) (c.in_ok-variables.ensures ∙ ap variables_of c.deref-2.ensures.value)))))))
