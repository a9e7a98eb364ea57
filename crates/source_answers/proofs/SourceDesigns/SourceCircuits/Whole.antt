-- Circuits that agree with the clocked run of a source agree with the source.
use Rattle.std.proofs.Common.{◌≡◌, ◌⊎◌, ◌+◌, ◌∙◌, ℕ, suc, sym, refl, ap, subst, Bool, true, false, List, [], ◌∷◌, ◌++◌, map, slice_get, slice_index, Option, Some, if◌then◌else◌}
use Rattle.std.specs.Prelude.{filter, is_some}
use Rattle.hls_base.specs.FileScope.{FileScope}
use Rattle.hls_base.specs.declared.point.Point.{Point}
use Rattle.hls_base.specs.declared.number.Kept.{Kept}
use Rattle.hls_base.specs.declared.number.VarId.{VarId}
use Rattle.c_tree.specs.Terminals.{terminals}
use Rattle.c_tree.specs.Tree.{ProgramTree}
use Rattle.c_value.specs.Values.{number_of, width}
use Rattle.c_meaning.specs.Run as c
use Rattle.c_meaning.specs.Run.{c_run}
use Rattle.cosim_levels.specs.CAnswers as answers
use Rattle.cosim_levels.specs.CAnswers.{IsCAnswer, c_answers}
use Rattle.pieces.specs.Resolved.Core.{CoreObjectTree}
use Rattle.c_elaborate.specs.Programs.{program_elaborated}
use Rattle.c_expand.specs.Expansion as ex
use Rattle.pieces.specs.Program.{ArrayTree, ExpandedTree}
use Rattle.piece_making.specs.declared.frame.Home.TheVariants as home
use Rattle.piece_making.specs.Making.{variable_number, array_number}
use Rattle.hls_base.specs.Steps.{Ran}
use Rattle.c_meaning.specs.PieceRuns.Values.{Store}
use Rattle.c_meaning.specs.PieceRuns.Pieces.{Way, kind_at, pieces_run}
use Rattle.c_meaning.specs.PieceRuns.Runs.{frame_of, variables_of, started, host_arrays}
use Rattle.c_elaborate.specs.Homes.{Each}
use Rattle.c_elaborate.proofs.ElaborateRuns.Lists.{each-append}
use Rattle.expand_runs.specs.Reading.{IsTyped, variable_type}
use Rattle.expanded_programs.specs.Calls.Programs.{IsProgramSound}
use Rattle.expanded_programs.specs.Outlines.{files_of, tops_from, scalar_kinds}
use Rattle.expanded_programs.proofs.Entries.{HasFrom, from_first, from_rest}
use Rattle.expanded_programs.proofs.Words.{zero_number}
use Rattle.expanded_programs.proofs.TopStores.{params, kept_count, outlined, made, params_types, all_arrays}
use Rattle.expanded_programs.specs.ElaboratedPrograms.Inputs.{ProgramInputsFit}
use Rattle.expanded_programs.proofs.ElaboratedPrograms.Tokens.{numbers_fit}
use Rattle.expanded_programs.proofs.ElaboratedPrograms.Whole.{elaborated_sound}
use Rattle.ir_core.specs.declared.cfg.Cfg.{Cfg}
use Rattle.ir_lower.specs.Frames.{frame_view}
use Rattle.ir_core.specs.declared.timed.Timed.{Timed}
use Rattle.reg_binding.specs.declared.registers.Registers.{Registers}
use Rattle.rtl_core.specs.ClockStep.{Fit}
use Rattle.rtl_core.specs.Box.{Answer, Ended, Undefined}
use Rattle.cycle_report.specs.PlainReport.{PlainReport}
use Rattle.compile_steps.specs.Resets.{expanded_frame}
use Rattle.ir_core.specs.FirstContents.{elements_or_none}
use Rattle.pass_runs.specs.LowerRuns.Holding.{IsThere}
use Rattle.timed_pieces.specs.StartedWords.FirstWords.{FillVariables, FillHosts, HasContents}
use Rattle.compile_steps.specs.BegunPrograms.{HasEnds, FillKept, InputsFill}
use Rattle.compile_steps.proofs.BegunPrograms.Arrays.{files_inner, plain_inner}
use Rattle.compile_steps.proofs.BegunPrograms.Programs.{checked_begins}
use Rattle.datapath.specs.Plans.{Plan, Array, Savings, plan_of, interface, initial_cycles}
use Rattle.datapath.specs.Answers.{first_file_scope}
use Rattle.circuit_agreement.specs.Answers.{machine_answers}
use Rattle.source_answers.proofs.SourceDesigns.PlanWords.Whole.{arrays_same, params_same, kept_same, widths_same}
use Rattle.source_answers.proofs.SourceDesigns.PlanAnswers.Whole.{plans_answer}
use Rattle.source_answers.specs.SourceRuns.{IsFaultless, expanded}
use Rattle.source_answers.proofs.SourceRuns.Whole.{ends_as, ended_defined, same_answer}
use Rattle.source_answers.specs.SourceDesigns.SourceCircuits.Fitting.{FitArrays}
use Rattle.source_answers.specs.SourceDesigns.SourceCircuits.Replacing.{StartFits, Replaces}
use Rattle.source_answers.specs.SourceDesigns.SourceCircuits.{SourceCircuitsAgree}
use Rattle.source_answers.proofs.SourceDesigns.SourceCircuits.Replaced.{agrees_replaced}
use Rattle.source_answers.proofs.SourceDesigns.SourceCircuits.Inputs.{inputs_are}
use Rattle.source_answers.proofs.SourceDesigns.SourceCircuits.Left.{shape_of, shapes, hosts_left, rows_left, scalars_left, first_fill}
use Rattle.source_answers.proofs.SourceDesigns.SourceCircuits.Starts.{arguments_fill, hosts_fill}

-- ---- lists

each_of : {A : Type 0} (P : A → Type 0) (xs : List A) → ((i : ℕ) (x : A) → slice_get xs i ≡ Some x → P x) → Each P xs
each_of P [] h = tt
each_of P (x ∷ xs) h = (h 0 x refl, each_of P xs (λ i y at. h (suc i) y at))

there_step : (e : ExpandedTree) (b : Bool) (v a : ℕ) (o : CoreObjectTree) (os : List CoreObjectTree) → ((v1 a1 : ℕ) → HasFrom e.variables v1 (scalar_kinds os) → Each (IsThere (frame_of e)) (ex.variables_of (tops_from v1 a1 os)))
    → HasFrom e.variables v (if b then scalar_kinds os else o.kind ∷ scalar_kinds os)
    → Each (IsThere (frame_of e)) (ex.variables_of (if b then home.Array (array_number a) ∷ tops_from v (a + 1) os else home.Variable (variable_number v) ∷ tops_from (v + 1) a os))
there_step e true v a o os h types = h v (a + 1) types
there_step e false v a o os h types = ((o.kind, from_first e.variables v o.kind (scalar_kinds os) types), h (v + 1) a (from_rest e.variables v o.kind (scalar_kinds os) types))

params_there : (e : ExpandedTree) (os : List CoreObjectTree) (v a : ℕ) → HasFrom e.variables v (scalar_kinds os) → Each (IsThere (frame_of e)) (ex.variables_of (tops_from v a os))
params_there e [] v a types = tt
params_there e (o ∷ os) v a types = there_step e (ex.is_array o) v a o os (λ v1 a1 types1. params_there e os v1 a1 types1) types

-- ---- a source and a plan

module _ (source : List ℕ) (p : ProgramTree) (top : ℕ) (name : List ℕ) (s : IsFaultless source p top name) (timed : Cfg Timed) (registers : Registers) (savings : Savings) (same : frame_view timed.frame ≡ expanded_frame (expanded p top)) where
  abbrev e : ExpandedTree
  e = expanded p top

  abbrev plan : Plan
  plan = plan_of timed registers savings

  -- the contents fill what file scope keeps
  abbrev KeptFits : FileScope → Type 0
  KeptFits f = FillVariables e (variables_of e.kept) f.scalars × FillKept e.arrays f.arrays

  sound : IsProgramSound (program_elaborated p top)
  sound = elaborated_sound (terminals s.replaced) s.end p top name (numbers_fit source s.tokens s.replaced s.spelled s.becomes) s.derives s.named s.faultless

  there : Each (IsThere (frame_of e)) e.params
  there =
      let core = program_elaborated p top in
      let fn = sound.top.0 in
      let is_fn = sound.top.1 in
      subst (Each (IsThere (frame_of e))) (sym ((made core sound fn is_fn).params ∙ ap ex.variables_of (outlined core sound fn is_fn).params))
      (params_there e (params core sound fn is_fn) (kept_count core sound fn is_fn) 0 (params_types core sound fn is_fn))

  hosts_filled : (rows : List (List ℕ)) → FitArrays (shapes e.arrays) rows → FillHosts e.arrays rows
  hosts_filled rows fit =
      let core = program_elaborated p top in
      let fn = sound.top.0 in
      let is_fn = sound.top.1 in
      let more = (outlined core sound fn is_fn).more in
      let inner = each-append (λ (a : ArrayTree). a.host ≡ false) (files_of core.file) more (files_inner core.file) (plain_inner more (outlined core sound fn is_fn).plain) in
      subst (λ xs. FillHosts xs rows) (sym (all_arrays core sound fn is_fn)) (hosts_fill (params core sound fn is_fn) (files_of core.file ++ more) rows inner (subst (λ xs. FitArrays (shapes xs) rows) (all_arrays core sound fn is_fn) fit))

  start_fills : (f : FileScope) (scalars : List ℕ) (rows : List (List ℕ)) → StartFits (interface plan) KeptFits f scalars rows → InputsFill e f scalars rows
  start_fills f scalars rows start =
      let fit : Fit (map (λ (v : VarId). slice_index (map width e.variables) v.0) e.params) scalars =
      subst (λ vs. Fit (map (λ (v : VarId). slice_index (map width e.variables) v.0) vs) scalars) (params_same e timed registers savings same)
      (subst (λ widths. Fit (map (λ (v : VarId). slice_index widths v.0) plan.parameters) scalars) (widths_same e timed registers savings same) start.arguments) in
      record {
        params = arguments_fill e e.params scalars there fit;
        hosts = hosts_filled rows (subst (λ (xs : List Array). FitArrays (map shape_of (filter (λ (b : Array). b.host) xs)) rows) (arrays_same e timed registers savings same) start.arrays);
        kept_scalars = start.kept.0;
        kept_arrays = start.kept.1;
      }

  -- ---- what a run leaves

  abbrev nothing : Store
  nothing = record { variables = λ i. number_of (variable_type (frame_of e) i) 0; elements = λ a j. number_of (kind_at e.arrays a) 0 }

  nothing_typed : IsTyped (frame_of e) nothing
  nothing_typed = record { variables = λ i. zero_number (variable_type (frame_of e) i); elements = λ a j. zero_number (kind_at e.arrays a) }

  left_fits : (f : FileScope) (scalars : List ℕ) (rows : List (List ℕ)) → ProgramInputsFit p top f scalars rows
      → (n : ℕ) (result : Option ℕ) (last : List (List ℕ)) (left : FileScope) (trace : List Point) → c_run p top f scalars rows n ≡ c.ended result last left trace → KeptFits left × FitArrays (interface plan).arrays last
  left_fits f scalars rows fit n result last left trace h =
      let run : Ran Store Way = pieces_run (frame_of e) e.pieces (started e nothing f scalars rows) n in
      let is = same_answer source p top name s nothing f scalars rows n nothing_typed fit (ended_defined (c_run p top f scalars rows n) result last left trace h) in
      let x = ends_as e run.trace run.outcome result last left trace (is ∙ h) in (
        subst KeptFits x.kept_is (scalars_left e e.kept x.store, rows_left e.arrays 0 x.store),
        subst (FitArrays (interface plan).arrays) x.arrays_are
            (subst (λ (xs : List Array). FitArrays (map shape_of (filter (λ (b : Array). b.host) xs)) (host_arrays e.arrays 0 x.store)) (sym (arrays_same e timed registers savings same)) (hosts_left e.arrays 0 x.store)),
      )

  ended_left : (cycles count : ℕ) (result other : Option ℕ) (last rows : List (List ℕ)) (left kept : FileScope) → Ended cycles result last left ≡ Ended count other rows kept → (rows ≡ last) × (kept ≡ left)
  ended_left cycles count result other last rows left kept h = (cc, cc)

  leaves : (report : PlainReport) (f left : FileScope) (scalars : List ℕ) (rows last : List (List ℕ)) (cycles : ℕ) (result : Option ℕ) → ProgramInputsFit p top f scalars rows → IsCAnswer p top report f scalars rows (Ended cycles result last left)
      → KeptFits left × FitArrays (interface plan).arrays last
  leaves report f left scalars rows last cycles result fit (answers.ends points other elements kept trace run is) =
      let q = left_fits f scalars rows fit points other elements kept trace run in
      let at = ended_left cycles _ result other last elements left kept is in
      (subst KeptFits at.1 q.0, subst (FitArrays (interface plan).arrays) at.0 q.1)
  leaves report f left scalars rows last cycles result fit (answers.is_undefined points rule at run is) = absurd (cc)
  leaves report f left scalars rows last cycles result fit (answers.is_endless waits is) = absurd (cc)

  -- ---- first contents

  first_fits : HasEnds e → KeptFits (first_file_scope plan)
  first_fits has = (
    subst (λ (ks : List Kept). FillVariables e (variables_of e.kept) (map (λ (k : Kept). k.value) ks)) (sym (kept_same e timed registers savings same)) has.contents.values,
    subst (λ (xs : List Array). FillKept e.arrays (map (λ (b : Array). elements_or_none b.first) (filter (λ (b : Array). is_some b.first) xs))) (sym (arrays_same e timed registers savings same))
        (first_fill e.arrays (each_of HasContents e.arrays has.contents.arrays)),
  )

  replaces : (report : PlainReport) → ((f : FileScope) (scalars : List ℕ) (rows : List (List ℕ)) → ProgramInputsFit p top f scalars rows → (answer : Answer) → c_answers p top report f scalars rows answer → (answer ≡ Undefined) ⊎ machine_answers plan f scalars rows answer)
      → Replaces (interface plan) KeptFits (machine_answers plan) (c_answers p top report)
  replaces report covers = record {
    covered = λ f scalars rows answer start is. covers f scalars rows (inputs_are source p top name s f scalars rows (start_fills f scalars rows start)) answer is;
    leaves = λ f left scalars rows last cycles result start is. leaves report f left scalars rows last cycles result (inputs_are source p top name s f scalars rows (start_fills f scalars rows start)) is;
  }

pub circuits_agree : SourceCircuitsAgree
circuits_agree source p top name s start first choice cfg laid frame units timed loops times report base rows counted registers savings d agrees =
    let has = checked_begins (terminals s.replaced) s.end p top name (numbers_fit source s.tokens s.replaced s.spelled s.becomes) s.derives s.named s.faultless in
    let plan : Plan = plan_of timed registers savings in
    let same = times.frame ∙ frame in
    agrees_replaced (interface plan) (KeptFits source p top name s timed registers savings same) (machine_answers plan) (c_answers p top report)
    (replaces source p top name s timed registers savings same report (λ f scalars lines fit answer is. plans_answer source p top name s start first choice cfg laid frame units timed loops times report base rows registers savings f scalars lines fit (counted f scalars lines fit) answer is))
    d (initial_cycles plan) (first_file_scope plan) (first_fits source p top name s timed registers savings same has.0) agrees
