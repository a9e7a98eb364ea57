-- What the choices of a body say: an operation takes in an earlier one that is a fusable pair with it, and that took in none.
use Rattle.std.proofs.Common.{◌≡◌, ◌∙◌, ◌+◌, ◌<◌, ◌⊎◌, inl, inr, ℕ, zero, suc, refl, sym, ap, subst, Bool, true, false, List, [], ◌∷◌, ◌++◌, length, arith, length-append}
use Rattle.std.specs.Prelude.{slice_get, Option, Some, None, if◌then◌else◌}
use Rattle.std.proofs.lemmas.Option.{slice_get_within}
use Rattle.ir_core.specs.declared.body.Operand.{Operand}
use Rattle.ir_core.specs.declared.body.Simple.{Simple}
use Rattle.ir_core.specs.declared.body.Source.{Source}
use Rattle.ir_core.specs.declared.body.Source.TheVariants as source
use Rattle.ir_core.specs.Bodies.{OpTree}
use Rattle.op_chain.specs.declared.choices.Taking.{Taking}
use Rattle.op_chain.specs.Pairs.{Scope, simple_of, is_pair}
use Rattle.op_chain.specs.Fusing.{paired, taking, taking_by, taking_through, or_else, choice, chosen}

-- ---- lists

front_get : {A : Type 0} (xs ys : List A) (k : ℕ) → k < length xs → slice_get (xs ++ ys) k ≡ slice_get xs k
front_get [] ys k h = absurd (omega arith)
front_get (x ∷ xs) ys zero h = refl
front_get (x ∷ xs) ys (suc k) h = front_get xs ys k (omega (arith, h))

pub front_some : {A : Type 0} (xs ys : List A) (k : ℕ) (x : A) → slice_get xs k ≡ Some x → slice_get (xs ++ ys) k ≡ Some x
front_some xs ys k x e = front_get xs ys k (slice_get_within xs k x e) ∙ e

pub last_get : {A : Type 0} (xs : List A) (y : A) → slice_get (xs ++ y ∷ []) (length xs) ≡ Some y
last_get [] y = refl
last_get (x ∷ xs) y = last_get xs y

-- what a list with one more element has at a place
pub either_get : {A : Type 0} (xs : List A) (y : A) (k : ℕ) (x : A) → slice_get (xs ++ y ∷ []) k ≡ Some x → (slice_get xs k ≡ Some x) ⊎ ((k ≡ length xs) × (y ≡ x))
either_get [] y zero x e = inr (refl, cc)
either_get [] y (suc k) x e = absurd cc
either_get (z ∷ xs) y zero x e = inl e
either_get (z ∷ xs) y (suc k) x e =
    elim (either_get xs y k x e) [
      | inl at ↦ inl at
      | inr last ↦ inr (ap suc last.0, last.1)
    ]

-- ---- a choice

-- operation v, which is this one, takes in another one of these
pub record Takes (scope : Scope) (ops : List OpTree) (choices : List (Option Taking)) (v : ℕ) (two : OpTree) (t : Taking) : Type 0 where
  pub one : OpTree
  pub found : slice_get ops t.op ≡ Some one
  pub before : t.op < v
  pub free : slice_get choices t.op ≡ Some None
  pub pair : is_pair scope t.op one v two ≡ true
  pub first : simple_of one.kind ≡ Some t.pairing.first
  pub second : simple_of two.kind ≡ Some t.pairing.second
  pub argument : Operand
  pub place : slice_get two.args (if t.pairing.left then 0 else 1) ≡ Some argument
  pub names : argument.value ≡ source.Result (record { 0 = t.op })

module _ (scope : Scope) (ops : List OpTree) (choices : List (Option Taking)) (two : OpTree) where
  abbrev IsTaking : Taking → Type 0
  IsTaking t = Takes scope ops choices (length choices) two t

  paired_takes : (left : Bool) (u : ℕ) (one : OpTree) (x : Operand) (a b : Option Simple) (t : Taking) → simple_of one.kind ≡ a → simple_of two.kind ≡ b → slice_get ops u ≡ Some one → slice_get choices u ≡ Some None
      → is_pair scope u one (length choices) two ≡ true → slice_get two.args (if left then 0 else 1) ≡ Some x → x.value ≡ source.Result (record { 0 = u }) → paired u left a b ≡ Some t → IsTaking t
  paired_takes left u one x (Some first) (Some second) t a b found free pair place names e =
      let same : record { op = u; pairing = record { first = first; second = second; left = left } } ≡ t = cc in
      subst IsTaking same (record {
        one = one;
        found = found;
        before = slice_get_within choices u None free;
        free = free;
        pair = pair;
        first = a;
        second = b;
        argument = x;
        place = place;
        names = names;
      })
  paired_takes left u one x (Some first) None t a b found free pair place names e = absurd cc
  paired_takes left u one x None b_ t a b found free pair place names e = absurd cc

  taking_takes : (left : Bool) (u : ℕ) (x : Operand) (one : Option OpTree) (c : Option (Option Taking)) (t : Taking) → slice_get ops u ≡ one → slice_get choices u ≡ c → slice_get two.args (if left then 0 else 1) ≡ Some x
      → x.value ≡ source.Result (record { 0 = u }) → taking scope left u one c (length choices) two ≡ Some t → IsTaking t
  taking_takes left u x (Some one) (Some None) t found free place names e = by (is_pair scope u one (length choices) two) refl e where
    by : (p : Bool) → is_pair scope u one (length choices) two ≡ p → (if p then paired u left (simple_of one.kind) (simple_of two.kind) else None) ≡ Some t → IsTaking t
    by true pair k = paired_takes left u one x (simple_of one.kind) (simple_of two.kind) t refl refl found free pair place names k
    by false pair k = absurd cc
  taking_takes left u x (Some one) (Some (Some other)) t found free place names e = absurd cc
  taking_takes left u x (Some one) None t found free place names e = absurd cc
  taking_takes left u x None c t found free place names e = absurd cc

  by_takes : (left : Bool) (x : Operand) (s : Source) (t : Taking) → x.value ≡ s → slice_get two.args (if left then 0 else 1) ≡ Some x → taking_by scope ops choices two left s ≡ Some t → IsTaking t
  by_takes left x (source.Result op) t names place e = taking_takes left op.0 x (slice_get ops op.0) (slice_get choices op.0) t refl refl place names e
  by_takes left x (source.Constant c) t names place e = absurd cc
  by_takes left x (source.Variable v) t names place e = absurd cc

  through_takes : (left : Bool) (x : Option Operand) (t : Taking) → slice_get two.args (if left then 0 else 1) ≡ x → taking_through scope ops choices two left x ≡ Some t → IsTaking t
  through_takes left None t place e = absurd cc
  through_takes left (Some x) t place e = by_takes left x x.value t refl place e

  choice_takes : (t : Taking) → choice scope ops choices two ≡ Some t → IsTaking t
  choice_takes t e = by (taking_through scope ops choices two true (slice_get two.args 0)) refl e where
    by : (first : Option Taking) → taking_through scope ops choices two true (slice_get two.args 0) ≡ first → or_else first (taking_through scope ops choices two false (slice_get two.args 1)) ≡ Some t → IsTaking t
    by None is k = through_takes false (slice_get two.args 1) t refl k
    by (Some first) is k = through_takes true (slice_get two.args 0) t refl (is ∙ k)

-- ---- all choices

module _ (scope : Scope) (ops : List OpTree) where
  chosen_front : (choices : List (Option Taking)) (rest : List OpTree) (k : ℕ) (c : Option Taking) → slice_get choices k ≡ Some c → slice_get (chosen scope ops choices rest) k ≡ Some c
  chosen_front choices [] k c e = e
  chosen_front choices (op ∷ rest) k c e = chosen_front (choices ++ choice scope ops choices op ∷ []) rest k c (front_some choices (choice scope ops choices op ∷ []) k c e)

  one_more : {A : Type 0} (xs : List A) (y : A) (n : ℕ) → length (xs ++ y ∷ []) + n ≡ length xs + suc n
  one_more xs y n = (let more = length-append xs (y ∷ []) in omega (arith, more))

  pub chosen_many : (choices : List (Option Taking)) (rest : List OpTree) → length (chosen scope ops choices rest) ≡ length choices + length rest
  chosen_many choices [] = omega arith
  chosen_many choices (op ∷ rest) = chosen_many (choices ++ choice scope ops choices op ∷ []) rest ∙ one_more choices (choice scope ops choices op) (length rest)

  later_takes : (choices : List (Option Taking)) (rest : List OpTree) (v : ℕ) (two : OpTree) (t : Taking) → Takes scope ops choices v two t → Takes scope ops (chosen scope ops choices rest) v two t
  later_takes choices rest v two t h = record {
    one = h.one;
    found = h.found;
    before = h.before;
    free = chosen_front choices rest t.op None h.free;
    pair = h.pair;
    first = h.first;
    second = h.second;
    argument = h.argument;
    place = h.place;
    names = h.names;
  }

  takes_at : (choices : List (Option Taking)) (rest : List OpTree) (k : ℕ) (two : OpTree) (t : Taking) → slice_get rest k ≡ Some two → slice_get (chosen scope ops choices rest) (length choices + k) ≡ Some (Some t)
      → Takes scope ops (chosen scope ops choices rest) (length choices + k) two t
  takes_at choices [] k two t at e = absurd cc
  takes_at choices (op ∷ rest) zero two t at e =
      let made = choice scope ops choices op in
      let here : length choices + 0 ≡ length choices = omega arith in
      let is : op ≡ two = cc in
      let known : slice_get (chosen scope ops choices (op ∷ rest)) (length choices) ≡ Some made = chosen_front (choices ++ made ∷ []) rest (length choices) made (last_get choices made) in
      let both : Some made ≡ Some (Some t) = sym known ∙ subst (λ n. slice_get (chosen scope ops choices (op ∷ rest)) n ≡ Some (Some t)) here e in
      let takes : made ≡ Some t = cc in
      subst (λ n. Takes scope ops (chosen scope ops choices (op ∷ rest)) n two t) (sym here)
      (subst (λ (o : OpTree). Takes scope ops (chosen scope ops choices (op ∷ rest)) (length choices) o t) is (later_takes choices (op ∷ rest) (length choices) op t (choice_takes scope ops choices op t takes)))
  takes_at choices (op ∷ rest) (suc k) two t at e =
      let made = choice scope ops choices op in
      let more = one_more choices made k in
      subst (λ n. Takes scope ops (chosen scope ops choices (op ∷ rest)) n two t) more
      (takes_at (choices ++ made ∷ []) rest k two t at (subst (λ n. slice_get (chosen scope ops choices (op ∷ rest)) n ≡ Some (Some t)) (sym more) e))

  pub takes : (v : ℕ) (two : OpTree) (t : Taking) → slice_get ops v ≡ Some two → slice_get (chosen scope ops [] ops) v ≡ Some (Some t) → Takes scope ops (chosen scope ops [] ops) v two t
  takes v two t at e =
      let here : 0 + v ≡ v = omega arith in
      subst (λ n. Takes scope ops (chosen scope ops [] ops) n two t) here (takes_at [] ops v two t at (subst (λ n. slice_get (chosen scope ops [] ops) n ≡ Some (Some t)) (sym here) e))
