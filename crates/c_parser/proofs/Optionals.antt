-- An expression that may be left out, and the lengths of arrays.
use Rattle.std.proofs.Common.{◌≡◌, ◌∙◌, ℕ, ◌<◌, sym, refl, ap, subst, true, false, List, [], ◌∷◌, ◌++◌, Option, Some, None, append_assoc, arith}
use Rattle.hls_base.specs.declared.place.Place.{Place}
use Rattle.c_token.specs.declared.punct.Punct.{Punct}
use Rattle.c_token.specs.declared.punct.Punct.TheVariants as p
use Rattle.c_tree.specs.Tree.{Tree}
use Rattle.c_tree.specs.Terminals.{Terminal, sign}
use Rattle.c_tree.specs.Grammar.{Derives, DerivesOptional, DerivesLengths}
use Rattle.c_tree.specs.Grammar as g
use Rattle.c_parser.specs.Cursor.Readings.{Reads, Found, Never, Anywhere, Ends, Sequence, Closed, Sign, Lacks, Repeated, joins, snd}
use Rattle.c_parser.specs.Cursor.Readings as r
use Rattle.c_parser.specs.Expressions.{Expression}
use Rattle.c_parser.specs.Objects.{OptionalExpression, closes_optional, Lengths}
use Rattle.c_parser.proofs.CursorLemmas.Readings.{signs, Step, repeated_last}
use Rattle.c_parser.proofs.ExpressionForms.{unshut}
use Rattle.c_parser.proofs.Beginnings.{expression_sign, starts_expression, expression_starts}
use Rattle.c_parser.proofs.Subscripts.{NoBracket}

optional_sign : (punct : Punct) → closes_optional punct ≡ true → expression_sign punct ≡ false
optional_sign p.RightBracket e = refl
optional_sign p.Semicolon e = refl
optional_sign _ e = absurd cc

-- nothing, or an expression
data Maybe (n : ℕ) (tokens : List Terminal) (e : Option Tree) (rest : List Terminal) : Type 0 where
  left_out : rest ≡ tokens → e ≡ None → Maybe n tokens e rest
  given : (inner : Tree) → Expression n tokens inner rest → e ≡ Some inner → Maybe n tokens e rest

maybe_form : (n : ℕ) (tokens rest : List Terminal) (e : Option Tree) → OptionalExpression n tokens e rest → Maybe n tokens e rest
maybe_form n tokens rest e r = go r.split r.derives
  where
    go : {m : ℕ} {ts : List Terminal} {o : Option Tree} → tokens ≡ ts ++ rest → DerivesOptional m ts o → Maybe m tokens o rest
    go f (g.absent m) = left_out (sym f) refl
    go f (g.present m ts inner d) = given inner (record { taken = ts; split = f; derives = d }) refl

pub optional_left_out : (n : ℕ) (tokens : List Terminal) → OptionalExpression n tokens None tokens
optional_left_out n tokens = record { taken = []; split = refl; derives = g.absent n }

pub optional_given : (n : ℕ) (tokens rest : List Terminal) (e : Tree) → Expression n tokens e rest → OptionalExpression n tokens (Some e) rest
optional_given n tokens rest e r = record { taken = r.taken; split = r.split; derives = g.present n r.taken e r.derives }

pub optional_none : (n : ℕ) (closer : Punct) (tokens new : List Terminal) (at : Place) → closes_optional closer ≡ true → tokens ≡ sign closer at ∷ new → Found (Closed (OptionalExpression n) closer) Anywhere tokens None new
optional_none n closer tokens new at h f = record {
  reads = record { first = None; second = at; middle = tokens; begins = optional_left_out n tokens; goes_on = f; whole = refl };
  only = λ others e end same c ends.
      let c' = subst (λ y. Closed (OptionalExpression n) closer y e end) same c in
      go e end c'.first c'.second c'.middle c'.goes_on c'.whole (maybe_form n tokens c'.middle c'.first c'.begins);
}
  where
    go : (e : Option Tree) (end : List Terminal) (first : Option Tree) (at' : Place) (middle : List Terminal) → middle ≡ sign closer at' ∷ end → e ≡ first → Maybe n tokens first middle → (end ≡ new) × (e ≡ None)
    go e end first at' middle m w (left_out i j) = ((signs closer closer at' at end new (sym m ∙ i ∙ f)).2, w ∙ j)
    go e end first at' middle m w (given inner d j) =
        absurd (let both : false ≡ true = sym (optional_sign closer h) ∙ ap starts_expression (sym f) ∙ expression_starts n tokens inner middle d in cc)

pub optional_step : (n : ℕ) (closer : Punct) (tokens here : List Terminal) → here ≡ tokens → Lacks closer tokens → Step (Closed (OptionalExpression n) closer) Anywhere tokens (Closed (Expression n) closer) Anywhere here Some
optional_step n closer tokens here is lacks = record {
  into = λ others e end same c ends.
      let c' = subst (λ y. Closed (OptionalExpression n) closer y e end) same c in
      go e end c'.first c'.second c'.middle c'.goes_on c'.whole (maybe_form n tokens c'.middle c'.first c'.begins);
  back = λ e end c.
      let c' = subst (λ y. Closed (Expression n) closer y e end) is c in
      record { first = Some c'.first; second = c'.second; middle = c'.middle; begins = optional_given n tokens c'.middle c'.first c'.begins; goes_on = c'.goes_on; whole = ap Some c'.whole };
}
  where
    go : (e : Option Tree) (end : List Terminal) (first : Option Tree) (at : Place) (middle : List Terminal) → middle ≡ sign closer at ∷ end → e ≡ first → Maybe n tokens first middle → (inner : Tree) × (e ≡ Some inner) × Closed (Expression n) closer here inner end × Unit {0}
    go e end first at middle m w (left_out i j) = absurd (lacks at end (sym i ∙ m))
    go e end first at middle m w (given inner d j) =
        (inner, w ∙ j, record { first = inner; second = at; middle = middle; begins = subst (λ y. Expression n y inner middle) (sym is) d; goes_on = m; whole = refl }, tt)

-- ---- lengths

abbrev pub Length : List Terminal → Option Tree → List Terminal → Type 0
Length = Sequence (Sign p.LeftBracket) (λ at. Closed (OptionalExpression 13) p.RightBracket) snd

-- all lengths that come next
abbrev pub LengthSigns : List Terminal → List (Option Tree) → List Terminal → Type 0
LengthSigns = Repeated Length NoBracket

bracket_ends : (end : List Terminal) → 0 < joins end → Lacks p.LeftBracket end
bracket_ends end e at rest f = omega (arith, ap joins f)

signs_of : {ts : List Terminal} {es : List (Option Tree)} (end : List Terminal) → 0 < joins end → DerivesLengths ts es → LengthSigns (ts ++ end) es end
signs_of end e g.no_length = r.stop end end (refl, bracket_ends end e)
signs_of end e (g.a_length opens closes ts us length lengths d ds) =
    r.more _ length (us ++ end) lengths end
    (record {
      first = opens;
      second = length;
      middle = (ts ++ sign p.RightBracket closes ∷ us) ++ end;
      begins = refl;
      goes_on = record {
        first = length;
        second = closes;
        middle = sign p.RightBracket closes ∷ (us ++ end);
        begins = record { taken = ts; split = append_assoc ts (sign p.RightBracket closes ∷ us) end; derives = d };
        goes_on = refl;
        whole = refl;
      };
      whole = refl;
    })
    (signs_of end e ds)

pub of_signs : {tokens : List Terminal} {es : List (Option Tree)} {end : List Terminal} → LengthSigns tokens es end → Lengths tokens es end
of_signs (r.stop tokens rest s) = record { taken = []; split = sym s.0; derives = g.no_length }
of_signs (r.more tokens a middle others rest s l) =
    let o = unshut p.RightBracket s.middle middle s.second s.goes_on in
    let m = of_signs l in
    let ts = sign p.LeftBracket s.first ∷ (o.ts ++ sign p.RightBracket o.at ∷ m.taken) in
    record {
      taken = ts;
      split = s.begins ∙ ap (λ y. sign p.LeftBracket s.first ∷ y)
          (o.split ∙ ap (λ y. (o.ts ++ sign p.RightBracket o.at ∷ []) ++ y) m.split ∙ append_assoc o.ts (sign p.RightBracket o.at ∷ []) (m.taken ++ rest)
          ∙ sym (append_assoc o.ts (sign p.RightBracket o.at ∷ m.taken) rest));
      derives = subst (λ y. DerivesLengths ts (y ∷ others)) (sym s.whole) (g.a_length s.first o.at o.ts m.taken s.second others o.derives m.derives);
    }

pub lengths_step : (tokens : List Terminal) → Step Lengths (Ends 0) tokens LengthSigns Anywhere tokens (λ es. es)
lengths_step tokens = record {
  into = λ others es end same s ends. (es, refl, subst (λ y. LengthSigns y es end) (sym s.split ∙ same) (signs_of end ends s.derives), tt);
  back = λ es end l. of_signs l;
}

pub no_more_lengths : (tokens inside : List Terminal) (at : Place) → tokens ≡ sign p.LeftBracket at ∷ inside → (end : List Terminal) → NoBracket tokens end → ⊥
no_more_lengths tokens inside at e end s = s.1 at inside e

pub lengths_end : (tokens rest : List Terminal) → rest ≡ tokens → Lacks p.LeftBracket tokens → Found LengthSigns Anywhere tokens [] rest
lengths_end tokens rest e lacks = repeated_last tokens rest (e, lacks) (λ end s. s.0 ∙ sym e) (λ a middle s. lacks s.first s.middle s.begins)

pub lengths_apart : (a : Option Tree) (here : List Terminal) (all : List (Option Tree)) (end : List Terminal) → LengthSigns here all end → Anywhere a here
lengths_apart a here all end l = tt
