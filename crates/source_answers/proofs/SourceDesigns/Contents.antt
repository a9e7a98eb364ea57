-- What file scope keeps at first is what the initialisers of C give, and a reset takes as many cycles as the frame says.
use Rattle.std.proofs.Common.{◌≡◌, ℕ, suc, ◌+◌, ◌==◌, ◌∙◌, ap, sym, refl, arith, Bool, true, false, ◌||◌, List, [], ◌∷◌, ◌++◌, map, max, length, fold, Option, Some, None, le_trans, le_antisymm, if◌then◌else◌}
use Rattle.std.proofs.Math.Nat.{max-zero, le-max_left, le-max_right, max-le}
use Rattle.std.specs.Prelude.{not, cond, filter, is_some}
use Rattle.hls_base.specs.ArrayAddress.{element_count}
use Rattle.hls_base.specs.declared.number.Kept.{Kept}
use Rattle.c_tree.specs.Tree.{ObjectTree}
use Rattle.c_meaning.specs.Store.{lengths_in}
use Rattle.c_meaning.specs.Run.{first_object, patterns, with_contents, contents_of}
use Rattle.hls_base.specs.FileScope.{FileScope}
use Rattle.pieces.specs.Resolved.Core.{CoreObjectTree}
use Rattle.c_elaborate.specs.Objects.{object_elaborated}
use Rattle.c_elaborate.specs.Programs.{file_object}
use Rattle.c_expand.specs.Expansion.{is_array}
use Rattle.pieces.specs.Program.{ArrayTree}
use Rattle.piece_making.specs.Making.{variable_number}
use Rattle.piece_making.specs.Objects.{array_like, first_value}
use Rattle.ir_core.specs.declared.cfg.Memory.{Memory}
use Rattle.report_rows.specs.Initial.{greatest, filling}
use Rattle.expanded_programs.specs.Outlines.{keeps_from, files_of, hosts_of}
use Rattle.expanded_programs.proofs.Plain.{ArePlain}
use Rattle.expanded_programs.proofs.ElaboratedPrograms.Naming.{no_lengths}
use Rattle.ir_core.specs.FirstContents.{elements_or_none}
use Rattle.compile_steps.specs.BegunPrograms.{FilesFill}
use Rattle.datapath.specs.Plans as plans
use Rattle.datapath.specs.Plans.{Array, cycles_for}
use Rattle.source_answers.proofs.SourceDesigns.PlanWords.Frames.{array_in}
use Rattle.source_answers.proofs.SourceDesigns.SourceCircuits.Left.{first_rows}

-- ---- scalars

one_word : (xs rest : List ℕ) → length xs ≡ 1 → first_value xs ∷ rest ≡ xs ++ rest
one_word [] rest e = absurd (omega (arith, e))
one_word (x ∷ []) rest e = refl
one_word (x ∷ (y ∷ xs)) rest e = absurd (omega (arith, e))

-- the contents of these objects at first
abbrev first_of : List ObjectTree → FileScope
first_of ds = contents_of ds (map first_object ds)

values_step : (z y : Bool) (v : ℕ) (d : ObjectTree) (ds : List ObjectTree) → ((v1 : ℕ) → map (λ (k : Kept). k.value) (keeps_from v1 (map file_object ds)) ≡ (first_of ds).scalars)
    → (z ≡ true → length (patterns (first_object d)) ≡ 1)
    → map (λ (k : Kept). k.value) (if not (not z || y) then record { variable = variable_number v; value = first_value (patterns (first_object d)) } ∷ keeps_from (v + 1) (map file_object ds) else keeps_from v (map file_object ds))
    ≡ (if y then first_of ds else with_contents z (first_object d) (first_of ds)).scalars
values_step true true v d ds h one = h v
values_step true false v d ds h one = ap (λ xs. first_value (patterns (first_object d)) ∷ xs) (h (v + 1)) ∙ one_word (patterns (first_object d)) (first_of ds).scalars (one refl)
values_step false true v d ds h one = h v
values_step false false v d ds h one = h v

pub values_are : (ds : List ObjectTree) (v : ℕ) → FilesFill (map file_object ds) → map (λ (k : Kept). k.value) (keeps_from v (map file_object ds)) ≡ (first_of ds).scalars
values_are [] v fills = refl
values_are (d ∷ ds) v fills =
    values_step (length (lengths_in d) == 0) d.constant v d ds (λ v1. values_are ds v1 (λ i q at. fills (suc i) q at)) (λ none. (fills 0 (file_object d) refl).0 ∙ ap element_count (no_lengths (lengths_in d) none))

-- ---- arrays

rows_step : (z y : Bool) (d : ObjectTree) (ds : List ObjectTree) (rest : List ArrayTree) → first_rows (files_of (map file_object ds) ++ rest) ≡ (first_of ds).arrays
    → first_rows ((if not z then (if y then array_like (object_elaborated d) (Some (patterns (first_object d))) None false else array_like (object_elaborated d) None (Some (patterns (first_object d))) false) ∷ files_of (map file_object ds) else files_of (map file_object ds)) ++ rest)
    ≡ (if y then first_of ds else with_contents z (first_object d) (first_of ds)).arrays
rows_step true true d ds rest h = h
rows_step true false d ds rest h = h
rows_step false true d ds rest h = h
rows_step false false d ds rest h = ap (λ xs. patterns (first_object d) ∷ xs) h

files_are : (ds : List ObjectTree) (rest : List ArrayTree) → first_rows rest ≡ [] → first_rows (files_of (map file_object ds) ++ rest) ≡ (first_of ds).arrays
files_are [] rest none = none
files_are (d ∷ ds) rest none = rows_step (length (lengths_in d) == 0) d.constant d ds rest (files_are ds rest none)

none_step : (o : Option (List ℕ)) (a : ArrayTree) (xs : List ArrayTree) → o ≡ None
    → map (λ (b : Array). elements_or_none b.first) (cond (is_some o) (array_in a ∷ filter (λ (b : Array). is_some b.first) (map array_in xs)) (filter (λ (b : Array). is_some b.first) (map array_in xs))) ≡ first_rows xs
none_step None a xs is = refl
none_step (Some row) a xs is = absurd (cc)

plain_none : (xs : List ArrayTree) → ArePlain xs → first_rows xs ≡ []
plain_none [] h = refl
plain_none (a ∷ xs) h = none_step a.initial a xs h.0.initial ∙ plain_none xs h.1

behind_step : (b : Bool) (o : CoreObjectTree) (os : List CoreObjectTree) (rest : List ArrayTree) → first_rows (hosts_of os ++ rest) ≡ first_rows rest
    → first_rows ((if b then array_like o None None true ∷ hosts_of os else hosts_of os) ++ rest) ≡ first_rows rest
behind_step true o os rest h = h
behind_step false o os rest h = h

behind_hosts : (os : List CoreObjectTree) (rest : List ArrayTree) → first_rows (hosts_of os ++ rest) ≡ first_rows rest
behind_hosts [] rest = refl
behind_hosts (o ∷ os) rest = behind_step (is_array o) o os rest (behind_hosts os rest)

pub rows_are : (os : List CoreObjectTree) (ds : List ObjectTree) (more : List ArrayTree) → ArePlain more → first_rows (hosts_of os ++ (files_of (map file_object ds) ++ more)) ≡ (first_of ds).arrays
rows_are os ds more plain = behind_hosts os (files_of (map file_object ds) ++ more) ∙ files_are ds more (plain_none more plain)

-- ---- cycles of a reset

max_three : (a b c : ℕ) → max (max a b) c ≡ max a (max b c)
max_three a b c =
    le_antisymm
    (max-le (max-le (le-max_left a (max b c)) (le_trans (le-max_left b c) (le-max_right a (max b c)))) (le_trans (le-max_right b c) (le-max_right a (max b c))))
    (max-le (le_trans (le-max_left a b) (le-max_left (max a b) c)) (max-le (le_trans (le-max_right a b) (le-max_left (max a b) c)) (le-max_right (max a b) c)))

pub cycles_are : (ms : List Memory) (n : ℕ) → fold (λ m a. max m (cycles_for a)) n (map plans.array_of ms) ≡ max n (greatest (map filling ms))
cycles_are [] n = sym (max-zero n)
cycles_are (m ∷ ms) n = cycles_are ms (max n (filling m)) ∙ max_three n (filling m) (greatest (map filling ms))
