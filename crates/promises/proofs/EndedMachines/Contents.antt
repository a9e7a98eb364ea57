-- What the initialisers of file scope give fits the program, and is what the expanded program keeps at first.
use Rattle.std.proofs.Common.{◌≡◌, ◌∙◌, ℕ, suc, ◌^◌, Bool, true, false, ◌&&◌, ◌==◌, List, [], ◌∷◌, ◌++◌, length, map, Option, Some, None, if◌then◌else◌, refl, sym, ap, ap₂, arith}
use Rattle.std.specs.Prelude.{cond, filter, is_some}
use Rattle.std.proofs.lemmas.Bool.{eq-eqb, lt-ltb}
use Rattle.hls_base.specs.ArrayAddress.{element_count}
use Rattle.hls_base.specs.FileScope.{FileScope}
use Rattle.c_token.specs.declared.ctype.CType.{CType}
use Rattle.hls_base.specs.declared.number.Kept.{Kept}
use Rattle.c_tree.specs.Tree.{ObjectTree, ParamTree, ProgramTree}
use Rattle.c_value.specs.Values.{width}
use Rattle.c_meaning.specs.Checks.Limits.{file_objects}
use Rattle.c_meaning.specs.Store.{lengths_in}
use Rattle.c_meaning.specs.FittingInputs.{word_fits, words_fit, array_fits, first_fits, scalars_fit, arrays_fit, inputs_fit}
use Rattle.c_meaning.specs.Run.{first_object, patterns, with_contents, contents_of, first_contents}
use Rattle.c_elaborate.specs.Programs.{file_object, program_elaborated}
use Rattle.c_expand.specs.Expansion.{expansion}
use Rattle.pieces.specs.Program.{ArrayTree}
use Rattle.c_meaning.specs.PieceRuns.Runs.{if_kept}
use Rattle.c_elaborate.specs.Homes.{Each}
use Rattle.c_elaborate.specs.Resolved.{HasLengths}
use Rattle.expand_runs.specs.Laws.{AreWords, FillsObject}
use Rattle.expanded_programs.specs.ElaboratedPrograms.Inputs.{given_objects}
use Rattle.expanded_programs.proofs.ElaboratedPrograms.Naming.{no_lengths}
use Rattle.expanded_programs.proofs.ElaboratedPrograms.StoredNumbers.Starting.{GivenFit, FitsFirst, is_scalar, first_fits_back}
use Rattle.expanded_programs.specs.Calls.Programs.{IsProgramSound}
use Rattle.expanded_programs.specs.Outlines.{files_of, hosts_of}
use Rattle.expanded_programs.proofs.TopStores.{params, outlined, made, all_arrays}
use Rattle.ir_core.specs.FirstContents.{elements_or_none}
use Rattle.timed_pieces.specs.StartedWords.FirstWords.{initial_rows, first_file}
use Rattle.compile_steps.specs.BegunPrograms.{FilesFill}
use Rattle.datapath.specs.Plans.{Array}
use Rattle.source_answers.proofs.SourceDesigns.PlanWords.Frames.{array_in}
use Rattle.source_answers.proofs.SourceDesigns.SourceCircuits.Left.{first_rows}
use Rattle.source_answers.proofs.SourceDesigns.Contents.{values_are, rows_are}

both : (a b : Bool) → a ≡ true → b ≡ true → (a && b) ≡ true
both a b x y = ap (λ z. z && b) x ∙ y

words_are : (k : CType) (words : List ℕ) → AreWords k words → words_fit k words ≡ true
words_are k [] h = refl
words_are k (word ∷ words) h = both (word_fits k word) (words_fit k words) (lt-ltb word (2 ^ width k) h.0) (words_are k words h.1)

-- the contents of these objects at first
abbrev pub first_of : List ObjectTree → FileScope
first_of ds = contents_of ds (map first_object ds)

-- ---- they fit

-- one word in front of others
one_fits : (k : CType) (words others : List ℕ) (rest : List ℕ → Bool) → length words ≡ 1 → AreWords k words → rest others ≡ true → first_fits (words ++ others) (word_fits k) rest ≡ true
one_fits k [] others rest one fill h = absurd (omega (arith, one))
one_fits k (w ∷ []) others rest one fill h = both (word_fits k w) (rest others) (lt-ltb w (2 ^ width k) fill.0) h
one_fits k (w ∷ (x ∷ words)) others rest one fill h = absurd (omega (arith, one))

row_fits : (d : ObjectTree) (row : List ℕ) → length row ≡ element_count (lengths_in d) → AreWords d.kind row → array_fits d row ≡ true
row_fits d row long fill = both (length row == element_count (lengths_in d)) (words_fit d.kind row) (eq-eqb (length row) (element_count (lengths_in d)) long) (words_are d.kind row fill)

object_fits : (scalar : Bool) (d : ObjectTree) (ps : List ParamTree) (kept : FileScope) → (scalar ≡ true → length (patterns (first_object d)) ≡ 1) → length (patterns (first_object d)) ≡ element_count (lengths_in d) → AreWords d.kind (patterns (first_object d))
    → GivenFit ps kept → FitsFirst scalar d ps (with_contents scalar (first_object d) kept)
object_fits true d ps kept one long fill fit = (one_fits d.kind (patterns (first_object d)) kept.scalars (scalars_fit ps) (one refl) fill fit.0, fit.1)
object_fits false d ps kept one long fill fit = (fit.0, both (array_fits d (patterns (first_object d))) (arrays_fit ps kept.arrays) (row_fits d (patterns (first_object d)) long fill) fit.1)

given_step : (constant : Bool) (d : ObjectTree) (ds : List ObjectTree) → HasLengths d → FillsObject (file_object d).object (file_object d).first → GivenFit (given_objects ds) (first_of ds)
    → GivenFit (if constant then given_objects ds else record { object = d; named = true } ∷ given_objects ds) (if constant then first_of ds else with_contents (is_scalar d) (first_object d) (first_of ds))
given_step true d ds has fill fit = fit
given_step false d ds has fill fit =
    first_fits_back d (given_objects ds) (with_contents (is_scalar d) (first_object d) (first_of ds)) has
    (object_fits (is_scalar d) d (given_objects ds) (first_of ds) (λ none. fill.0 ∙ ap element_count (no_lengths (lengths_in d) none)) fill.0 fill.1 fit)

first_given : (ds : List ObjectTree) → Each HasLengths ds → FilesFill (map file_object ds) → GivenFit (given_objects ds) (first_of ds)
first_given [] has fills = (refl, refl)
first_given (d ∷ ds) has fills = given_step d.constant d ds has.0 (fills 0 (file_object d) refl) (first_given ds has.1 (λ i o at. fills (suc i) o at))

pub first_fit : (ds : List ObjectTree) → Each HasLengths ds → FilesFill (map file_object ds) → inputs_fit (given_objects ds) (first_of ds).scalars (first_of ds).arrays ≡ true
first_fit ds has fills = (let fit = first_given ds has fills in both (scalars_fit (given_objects ds) (first_of ds).scalars) (arrays_fit (given_objects ds) (first_of ds).arrays) fit.0 fit.1)

-- ---- they are what the expanded program keeps

row_step : (o : Option (List ℕ)) (a : ArrayTree) (xs : List ArrayTree) → a.initial ≡ o → initial_rows xs ≡ first_rows xs
    → if_kept o (elements_or_none o) (initial_rows xs)
    ≡ map (λ (b : Array). elements_or_none b.first) (cond (is_some o) (array_in a ∷ filter (λ (b : Array). is_some b.first) (map array_in xs)) (filter (λ (b : Array). is_some b.first) (map array_in xs)))
row_step None a xs is same = same
row_step (Some row) a xs is same = ap₂ (λ r rs. r ∷ rs) (sym (ap elements_or_none is)) same

rows_same : (xs : List ArrayTree) → initial_rows xs ≡ first_rows xs
rows_same [] = refl
rows_same (a ∷ xs) = row_step a.initial a xs refl (rows_same xs)

pub first_is : (p : ProgramTree) (top : ℕ) → IsProgramSound (program_elaborated p top) → FilesFill (program_elaborated p top).file → first_file (expansion (program_elaborated p top)) ≡ first_contents p
first_is p top sound fills =
    let core = program_elaborated p top in
    let fn = sound.top.0 in
    let is_fn = sound.top.1 in
    let parts = outlined core sound fn is_fn in
    let objects = params core sound fn is_fn in
    let Scope : List ℕ → List (List ℕ) → FileScope = λ scalars arrays. record { scalars = scalars; arrays = arrays } in
    ap₂ Scope (ap (λ (ks : List Kept). map (λ (k : Kept). k.value) ks) ((made core sound fn is_fn).kept ∙ parts.kept) ∙ values_are (file_objects p.items) 0 fills)
    (ap initial_rows (all_arrays core sound fn is_fn) ∙ (rows_same (hosts_of objects ++ (files_of core.file ++ parts.more)) ∙ rows_are objects (file_objects p.items) parts.more parts.plain))
