-- The pieces of a whole program set no table.
use Rattle.std.proofs.Common.{◌≡◌, ℕ, refl, sym, subst, arith, List, [], length, take, slice_get, Some}
use Rattle.std.proofs.lemmas.Option.{none-some}
use Rattle.pieces.specs.Resolved.Core.{CoreFunctionTree, CoreProgramTree}
use Rattle.piece_making.specs.declared.frame.Home.{Home}
use Rattle.piece_making.specs.Making.{State}
use Rattle.c_expand.specs.Expansion.{calls, outermost, top_call, top_run, top_made, named, nothing}
use Rattle.expanded_programs.specs.Calls.Programs.{IsProgramSound}
use Rattle.compiled_plans.specs.Operations.{PutNoTables}
use Rattle.source_validity.specs.KeptTables.Programs.{ProgramKeepsConstants}
use Rattle.source_validity.specs.KeptTables.Worlds.{World, Makes, Whatever}
use Rattle.source_validity.specs.KeptTables.{ExpandedTablesKept}
use Rattle.source_validity.proofs.KeptTables.Parts.{later_both, then_makes, gives_makes, fresh_result_makes, call_makes}
use Rattle.source_validity.proofs.KeptTables.Names.{own_later, file_later}
use Rattle.source_validity.proofs.KeptTables.Homes.{AllStand, FileHomes, file_home_at, file_homes_later, kept_make, top_parameters_make, top_locals_make, file_homes_make}
use Rattle.source_validity.proofs.KeptTables.Calls.{FileStands, body_makes, calls_make}

module _ (p : CoreProgramTree) (sound : IsProgramSound p) (fits : ProgramKeepsConstants p) (fn : CoreFunctionTree) (is_fn : slice_get p.functions p.top ≡ Some fn) where
  top_call_makes : (file : List Home) (file_variables : ℕ) (homes : List Home) (s : State) → World s → FileHomes s p.file file → AllStand fn s homes → Makes Whatever s (top_call p.functions fn file file_variables homes s)
  top_call_makes file file_variables homes s w files own =
      then_makes (call_makes s w)
      (λ call s1 w1 l1 u. then_makes (fresh_result_makes fn.result s1 w1)
      (λ result s2 w2 l2 is.
      (let l = later_both l1 l2 in
      let c = outermost fn file file_variables homes call result in
      let n = length p.functions in
      let stands : FileStands p c s2 = λ i o e. (let h = file_home_at s p.file file files i o e in (h.0, h.1, file_later l h.0 o h.2)) in
      let all : AllStand fn s2 homes = λ i o e. (let h = own i o e in (h.0, h.1, own_later l fn.params i h.0 o h.2)) in
      then_makes (body_makes p sound fits p.top fn is_fn (calls p.functions n) (λ Callable f d low. calls_make p sound fits n Callable f d (λ j h. (let lt = low j h in let top = sound.ranked p.top fn is_fn in omega (arith, lt, top)))) c refl s2 w2 stands all)
      (λ v s3 w3 l3 a. gives_makes w3 tt))))

  top_makes : (s : State) → World s → Makes Whatever s (top_run p fn s)
  top_makes s w =
      then_makes (kept_make p.file [] s w)
      (λ kept s1 w1 l1 k. then_makes (top_parameters_make fn.params 0 (take fn.params fn.objects) [] s1 w1)
      (λ params s2 w2 l2 ps. then_makes (file_homes_make p.file kept [] s2 w2)
      (λ file s3 w3 l3 fs. then_makes (top_locals_make fn (sound.functions p.top fn is_fn).params s2 params ps s3 w3 l3)
      (λ homes s4 w4 l4 own. then_makes (top_call_makes file (length s1.variables) homes s4 w4 (file_homes_later l4 p.file file (subst (λ x. FileHomes s3 p.file x) (sym fs.1) fs.2)) own) (λ own s5 w5 l5 a. gives_makes w5 tt)))))

nothing_made : World nothing
nothing_made = record { noted = λ i a e. absurd (none-some (Some a) e) }

pub expanded_kept : ExpandedTablesKept
expanded_kept p sound fits =
    let fn = sound.top.0 in
    let is_fn = sound.top.1 in
    subst (λ top. PutNoTables (named top (top_made p top)).arrays (named top (top_made p top)).pieces) (sym is_fn) ((top_makes p sound fits fn is_fn nothing nothing_made).pieces _ (λ i x e. e))
