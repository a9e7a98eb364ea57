-- Rows that are taken one after another.
use Rattle.std.proofs.Common.{◌≡◌, ℕ, suc, ◌+◌, ◌<◌, ◌≤◌, ◌==◌, not, Bool, true, false, List, [], ◌∷◌, ◌++◌, map, length, get_or, drop, drop-cons, replicate, slice_index_or, slice_set, Option, Some, None, is_some, bytes_eq, refl, sym, ap, ◌∙◌, subst, arith, inl, inr, append_assoc, length-append, add-one}
use Rattle.std.specs.Str.Lines.{lines}
use Rattle.std.proofs.lemmas.Bool.{cases_Bool, cases_eq, eq-eqb, ne_eqb, not-false, le-ltb, lt-ltb}
use Rattle.std.proofs.lemmas.List.{get_or-set_same, get_or-set_other, get_or-replicate, length-replicate, length-set, append-nil}
use Rattle.hls_base.specs.ArrayAddress.{element_count}
use Rattle.c_tree.specs.Tree.{ObjectTree, ParamTree}
use Rattle.c_tree.specs.declared.function.Param.{Param}
use Rattle.c_tree.specs.View.{param_of}
use Rattle.c_meaning.specs.Run.{is_array_parameter}
use Rattle.c_meaning.specs.Store.{lengths_in}
use Rattle.cosim_levels.specs.declared.row.Row.{Row}
use Rattle.cosim_levels.specs.declared.row.Row.TheVariants as row
use Rattle.cosim_levels.specs.Numerals.{bits_of_words}
use Rattle.cosim_levels.specs.Rows.{is_blank, words_of, gives_or_refused, given_to, given_by_name, row_of_words, row_of, IsInside}
use Rattle.cosim_levels.specs.RunFile.{given_in, is_refused, first_refused, Reading, inputs, refused, with_first, with_parameter, inputs_from, rows_reading, rows_of, reading_of, is_taken, given_row, behind_row, AreGiven, AreTaken, with_front}

-- ---- a row gives to a parameter that there is

inside_given : (n k : ℕ) (o : Option (List ℕ)) → k < n → IsInside n (gives_or_refused k o)
inside_given n k None h = tt
inside_given n k (Some words) h = h

inside_to : (n k : ℕ) (o : ObjectTree) (values : List (List ℕ)) → k < n → IsInside n (given_to k o values)
inside_to n k o values h =
    elim (cases_Bool (length values == element_count (lengths_in o))) [
      | inl e ↦ rw e (inside_given n k (bits_of_words o.kind values) h)
      | inr e ↦ rw e tt
    ]

inside_by_name : (n k : ℕ) (ps : List ParamTree) (name : List ℕ) (values : List (List ℕ)) → k + length ps ≡ n → IsInside n (given_by_name k ps name values)
inside_by_name n k [] name values h = tt
inside_by_name n k (p ∷ ps) name values h =
    elim (cases_Bool (bytes_eq p.object.name name)) [
      | inl e ↦ rw e (inside_to n k p.object values (omega arith))
      | inr e ↦ rw e (inside_by_name n (suc k) ps name values (omega arith))
    ]

inside_words : (ps : List ParamTree) (o : Option (List (List ℕ))) → IsInside (length ps) (row_of_words ps o)
inside_words ps None = tt
inside_words ps (Some []) = tt
inside_words ps (Some (name ∷ [])) = tt
inside_words ps (Some (name ∷ sign ∷ values)) =
    elim (cases_Bool (bytes_eq sign (61 ∷ []))) [
      | inl e ↦ rw e (inside_by_name (length ps) 0 ps name values (omega arith))
      | inr e ↦ rw e tt
    ]

pub row-inside : (ps : List ParamTree) (line : List ℕ) → IsInside (length ps) (row_of ps line)
row-inside ps line =
    elim (cases_Bool (is_blank line)) [
      | inl e ↦ rw e tt
      | inr e ↦ rw e (inside_words ps (words_of line))
    ]

pub row_is_inside : (ps : List ParamTree) (line : List ℕ) (r : Row) (n : ℕ) → r ≡ row_of ps line → n ≡ length ps → IsInside n r
row_is_inside ps line r n e h = rw (e, h) (row-inside ps line)

-- ---- what rows give

first_some : Option (List ℕ) → Option (List ℕ) → Option (List ℕ)
first_some None other = other
first_some (Some x) other = Some x

given_in-append : (rows : List Row) (r : Row) (k : ℕ) → given_in (rows ++ r ∷ []) k ≡ first_some (given_in rows k) (given_in (r ∷ []) k)
unfolding first_some
given_in-append [] r k = refl
given_in-append (row.Nothing ∷ rows) r k = given_in-append rows r k
given_in-append (row.Refused ∷ rows) r k = given_in-append rows r k
given_in-append (row.Gives j words ∷ rows) r k =
    elim (cases_Bool (j == k)) [
      | inl e ↦ rw e refl
      | inr e ↦ rw e (given_in-append rows r k)
    ]

first_some-none : (o : Option (List ℕ)) → first_some o None ≡ o
unfolding first_some
first_some-none None = refl
first_some-none (Some x) = refl

silent : (rows : List Row) (r : Row) (k : ℕ) → given_in (r ∷ []) k ≡ None → given_in (rows ++ r ∷ []) k ≡ given_in rows k
silent rows r k e = given_in-append rows r k ∙ ap (first_some (given_in rows k)) e ∙ first_some-none (given_in rows k)

nothing_there : (o : Option (List ℕ)) → not (is_some o) ≡ true → o ≡ None
nothing_there None h = refl
nothing_there (Some x) h = cc

something_there : (o : Option (List ℕ)) → not (is_some o) ≡ false → is_some o ≡ true
something_there o h = not-false (is_some o) h

module _ (n : ℕ) (before : List Row) (given : List (Option (List ℕ))) (are : AreGiven n before given) where
  gives-each : (j : ℕ) (words : List ℕ) → j < n → not (is_some (slice_index_or given j None)) ≡ true → (k : ℕ) → k < n
      → slice_index_or (slice_set given j (Some words)) k None ≡ given_in (before ++ row.Gives j words ∷ []) k
  unfolding first_some
  gives-each j words inside free k h =
      elim (cases_eq k j) [
        | inl e ↦ (
            let none : given_in before j ≡ None = sym (are.each j inside) ∙ nothing_there _ free in
            let here : given_in (row.Gives j words ∷ []) j ≡ Some words = rw (eq-eqb j j refl) refl in
            let both : given_in (before ++ row.Gives j words ∷ []) j ≡ Some words = given_in-append before (row.Gives j words) j ∙ rw (none, here) refl in
            rw e (get_or-set_same given j (Some words) None (omega (arith, are.count)) ∙ sym both))
        | inr other ↦ (
            let away : given_in (row.Gives j words ∷ []) k ≡ None = rw (ne_eqb j k (λ e. other (sym e))) refl in
            get_or-set_other given j k (Some words) None other ∙ are.each k h ∙ sym (silent before (row.Gives j words) k away))
      ]

  -- a row that is taken
  more-given : (r : Row) → IsInside n r → is_taken given r ≡ true → AreGiven n (before ++ r ∷ []) (given_row true given r)
  more-given row.Nothing inside h = record { count = are.count; each = λ k l. are.each k l ∙ sym (silent before row.Nothing k refl) }
  more-given (row.Gives j words) inside h = record { count = length-set given j (Some words) ∙ are.count; each = gives-each j words inside h }
  more-given row.Refused inside h = absurd (let e : false ≡ true = h in cc)

  -- a row is refused where it is not taken
  refused-is : (r : Row) → IsInside n r → is_refused before r ≡ not (is_taken given r)
  refused-is row.Nothing inside = refl
  refused-is (row.Gives j words) inside = rw (are.each j inside) (sym (not_not (is_some (given_in before j))))
    where
      not_not : (b : Bool) → not (not b) ≡ b
      not_not true = refl
      not_not false = refl
  refused-is row.Refused inside = refl

-- ---- lines

-- where reading stands: these rows were taken, and the lines of the rest are left
pub record AreBehind (ps : List ParamTree) (bytes rest : List ℕ) (given : List (Option (List ℕ))) (count : ℕ) : Type 0 where
  pub before : List Row
  pub rows_are : before ++ rows_of ps rest ≡ rows_of ps bytes
  pub same : first_refused before (rows_of ps rest) ≡ first_refused [] (rows_of ps bytes)
  pub counted : count ≡ length before
  pub within : count + length rest ≤ length bytes
  pub given_are : AreGiven (length ps) before given

pub begun : (ps : List ParamTree) (bytes : List ℕ) (n : ℕ) (given : List (Option (List ℕ))) → n ≡ length ps → given ≡ replicate n None → AreBehind ps bytes bytes given 0
begun ps bytes n given e is = record {
  before = [];
  rows_are = refl;
  same = refl;
  counted = refl;
  within = omega arith;
  given_are = record {
    count = ap length is ∙ length-replicate n None ∙ e;
    each = λ k h. rw is (get_or-replicate n k None None (omega arith));
  };
}

module _ (ps : List ParamTree) (bytes rest line behind : List ℕ) (given : List (Option (List ℕ))) (count : ℕ) (r : Row) (at : AreBehind ps bytes rest given count)
    (first : lines rest ≡ line ∷ lines behind) (is : r ≡ row_of ps line) where
  rows-first : rows_of ps rest ≡ r ∷ rows_of ps behind
  rows-first = ap (map (row_of ps)) first ∙ ap (λ x. x ∷ rows_of ps behind) (sym is)

  inside : IsInside (length ps) r
  inside = row_is_inside ps line r (length ps) is refl

  step : first_refused at.before (r ∷ rows_of ps behind) ≡ first_refused [] (rows_of ps bytes)
  step = ap (first_refused at.before) (sym rows-first) ∙ at.same

  pub further : is_taken given r ≡ true → length behind < length rest → AreBehind ps bytes behind (behind_row given r) (count + 1)
  further taken shorter =
      let passed : is_refused at.before r ≡ false = refused-is (length ps) at.before given at.given_are r inside ∙ ap not taken in
      record {
        before = at.before ++ r ∷ [];
        rows_are = append_assoc at.before (r ∷ []) (rows_of ps behind) ∙ ap (λ rows. at.before ++ rows) (sym rows-first) ∙ at.rows_are;
        same = rw passed at step;
        counted = omega (arith, at.counted, length-append at.before (r ∷ []));
        within = omega (arith, at.within);
        given_are = rw taken (more-given (length ps) at.before given at.given_are r inside taken);
      }

  pub stopped : is_taken given r ≡ false → rows_reading ps (rows_of ps bytes) ≡ refused (count + 1)
  stopped left =
      let met : is_refused at.before r ≡ true = refused-is (length ps) at.before given at.given_are r inside ∙ ap not left in
      let found : Some (length at.before + 1) ≡ first_refused [] (rows_of ps bytes) = rw met at step in
      rw (← found) (ap (λ n. refused (n + 1)) (sym at.counted))

pub all_taken : (ps : List ParamTree) (bytes rest : List ℕ) (given : List (Option (List ℕ))) (count : ℕ) → AreBehind ps bytes rest given count → lines rest ≡ [] → length bytes ≤ 16777216
    → AreTaken (length ps) (rows_of ps bytes) given count
all_taken ps bytes rest given count at over small =
    let none : rows_of ps rest ≡ [] = ap (map (row_of ps)) over in
    let rows : at.before ≡ rows_of ps bytes = sym (append-nil at.before) ∙ ap (λ more. at.before ++ more) (sym none) ∙ at.rows_are in
    record {
      taken = sym (ap (first_refused at.before) (sym none) ∙ at.same);
      counted = at.counted ∙ ap length rows;
      small = omega (arith, at.within);
      given_are = subst (λ all. AreGiven (length ps) all given) rows at.given_are;
    }

-- ---- what was given to all parameters

same-inputs : (line : ℕ) (f g : ℕ → Option (List ℕ)) (k : ℕ) (ps : List ParamTree) → ((j : ℕ) → j < k + length ps → f j ≡ g j) → inputs_from line f k ps ≡ inputs_from line g k ps
same-inputs line f g k [] same = refl
same-inputs line f g k (p ∷ ps) same =
    rw (same k (omega arith)) (ap (with_parameter line p (g k)) (same-inputs line f g (suc k) ps (λ j h. same j (omega arith))))

pub reading_taken : (ps : List ParamTree) (rows : List Row) (given : List (Option (List ℕ))) (count : ℕ) → AreTaken (length ps) rows given count
    → inputs_from (count + 1) (λ k. slice_index_or given k None) 0 ps ≡ rows_reading ps rows
reading_taken ps rows given count h =
    let same = same-inputs (count + 1) (λ k. slice_index_or given k None) (given_in rows) 0 ps (λ j l. h.given_are.each j (omega arith)) in
    same ∙ rw (h.taken, h.counted) refl

pub front-scalar : (scalars words : List ℕ) (arrays : List (List ℕ)) (r : Reading) → with_front scalars arrays (with_first false words r) ≡ with_front (scalars ++ words) arrays r
front-scalar scalars words arrays (inputs more others) = ap (λ s. inputs s (arrays ++ others)) (sym (append_assoc scalars words more))
front-scalar scalars words arrays (refused line) = refl

pub front-array : (scalars words : List ℕ) (arrays : List (List ℕ)) (r : Reading) → with_front scalars arrays (with_first true words r) ≡ with_front scalars (arrays ++ words ∷ []) r
front-array scalars words arrays (inputs more others) = ap (λ a. inputs (scalars ++ more) a) (sym (append_assoc arrays (words ∷ []) others))
front-array scalars words arrays (refused line) = refl

pub ruleset fronts = (front-scalar, front-array)

missing_there : (line : ℕ) (given : ℕ → Option (List ℕ)) (k : ℕ) (p : ParamTree) (ps : List ParamTree) (scalars : List ℕ) (arrays : List (List ℕ)) → given k ≡ None
    → with_front scalars arrays (inputs_from line given k (p ∷ ps)) ≡ refused line
missing_there line given k p ps scalars arrays e = rw e refl

given_there : (line : ℕ) (given : ℕ → Option (List ℕ)) (k : ℕ) (p : ParamTree) (ps : List ParamTree) (scalars more : List ℕ) (arrays others : List (List ℕ)) (words : List ℕ)
    → given k ≡ Some words → ((r : Reading) → with_front scalars arrays (with_first (is_array_parameter p) words r) ≡ with_front more others r)
    → with_front scalars arrays (inputs_from line given k (p ∷ ps)) ≡ with_front more others (inputs_from line given (suc k) ps)
given_there line given k p ps scalars more arrays others words e added = rw e (added (inputs_from line given (suc k) ps))

module _ (line : ℕ) (given : ℕ → Option (List ℕ)) (k : ℕ) (params : List Param) (p : Param) (there : k < length params) (is : p ≡ get_or params k p) where
  next : map param_of (drop k params) ≡ param_of p ∷ map param_of (drop (k + 1) params)
  next = ap (map param_of) (drop-cons params k p there) ∙ ap (λ q. param_of q ∷ map param_of (drop (suc k) params)) (sym is)
      ∙ ap (λ n. param_of p ∷ map param_of (drop n params)) (sym (add-one k))

  pub input_missing : (scalars : List ℕ) (arrays : List (List ℕ)) → given k ≡ None → with_front scalars arrays (inputs_from line given k (map param_of (drop k params))) ≡ refused line
  input_missing scalars arrays e =
      ap (λ ps. with_front scalars arrays (inputs_from line given k ps)) next ∙ missing_there line given k (param_of p) (map param_of (drop (k + 1) params)) scalars arrays e

  pub input_given : (scalars more : List ℕ) (arrays others : List (List ℕ)) (words : List ℕ) → given k ≡ Some words
      → ((r : Reading) → with_front scalars arrays (with_first (is_array_parameter (param_of p)) words r) ≡ with_front more others r)
      → with_front more others (inputs_from line given (k + 1) (map param_of (drop (k + 1) params))) ≡ with_front scalars arrays (inputs_from line given k (map param_of (drop k params)))
  input_given scalars more arrays others words e added =
      let ps = map param_of (drop (k + 1) params) in
      ap (λ n. with_front more others (inputs_from line given n ps)) (add-one k)
      ∙ sym (given_there line given k (param_of p) ps scalars more arrays others words e added)
      ∙ sym (ap (λ qs. with_front scalars arrays (inputs_from line given k qs)) next)

pub reading_small : (ps : List ParamTree) (bytes : List ℕ) (given : List (Option (List ℕ))) (count : ℕ) → length bytes ≤ 16777216 → AreTaken (length ps) (rows_of ps bytes) given count
    → inputs_from (count + 1) (λ k. slice_index_or given k None) 0 ps ≡ reading_of ps bytes
reading_small ps bytes given count small h = rw (le-ltb 16777216 (length bytes) small) (reading_taken ps (rows_of ps bytes) given count h)

pub rows-small : (ps : List ParamTree) (bytes : List ℕ) → length bytes ≤ 16777216 → rows_reading ps (rows_of ps bytes) ≡ reading_of ps bytes
rows-small ps bytes small = rw (le-ltb 16777216 (length bytes) small) refl

pub reading_large : (ps : List ParamTree) (bytes : List ℕ) → 16777216 < length bytes → reading_of ps bytes ≡ refused 1
reading_large ps bytes large = rw (lt-ltb 16777216 (length bytes) large) refl
