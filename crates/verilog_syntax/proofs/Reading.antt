-- Reading forms one after another, and where that stops.
use Rattle.std.proofs.Common.{◌≡◌, ◌↔◌, inl, inr, ℕ, zero, suc, ◌+◌, ◌-◌, ◌<◌, ◌≤◌, List, [], ◌∷◌, ◌++◌, length, map, take, drop, get_or, codes, append_assoc, append-nil, refl, sym, ap, ◌∙◌, subst, arith, drop-cons}
use Rattle.std.specs.List.{All, Contains}
use Rattle.std.proofs.Math.Seq.{take-add}
use Rattle.std.proofs.lemmas.List.{take_more, take_all, drop_all, length-drop, take-map, get_or-drop}
use Rattle.std.proofs.lemmas.List.Elements.{All-contains}
use Rattle.rtl_core.specs.declared.design.Pair.TheVariants as pair
use Rattle.rtl_core.specs.ModuleTokens as spelled
use Rattle.rtl_core.proofs.Tokens.{name_true}
use Rattle.verilog_syntax.specs.declared.token.Token.{Token}
use Rattle.verilog_syntax.specs.declared.form.Class.{Class}
use Rattle.verilog_syntax.specs.declared.form.Class.TheVariants as c
use Rattle.verilog_syntax.specs.declared.form.Form.{Form}
use Rattle.verilog_syntax.specs.declared.form.Form.TheVariants as f
use Rattle.verilog_syntax.specs.Signs.{keyword_text, sign_text}
use Rattle.verilog_syntax.specs.Views.{token_of}
use Rattle.verilog_syntax.specs.Forms.{FitsClass, FitsAll, classes_of, followers_of, Goes, ended, goes, IsModule}
use Rattle.verilog_syntax.specs.PlacedSyntax.{PlacedModule}
use Rattle.verilog_syntax.specs.ModuleViews.{added, no_module}
use Rattle.verilog_syntax.specs.Parsing.{tokens_in, Common, FitsSome, IsReached, FirstWrong, IsParsed}
use Rattle.verilog_syntax.proofs.Runs.{Agree, stops, common_within, opened, no_follower, step_back}
use Rattle.verilog_syntax.proofs.Forms.{tokens_long}
use Rattle.verilog_syntax.proofs.Phases.{Seen}
use Rattle.verilog_syntax.proofs.Seen.{seen_nothing, seen_whole, step_on, no_start}

-- ---- every form can be completed

abbrev example : Class → spelled.Token
example (c.Word k) = spelled.Word (keyword_text k)
example (c.Mark s) = spelled.Sign (sign_text s)
example c.Name = spelled.Word (codes "a")
example c.Number = spelled.Number (codes "0")
example c.Zero = spelled.Number (codes "0")
example c.Operand = spelled.Word (codes "a")
example c.Operator = spelled.Sign (codes "+")

example_fits : (x : Class) → FitsClass x (example x)
example_fits (c.Word k) = refl
example_fits (c.Mark s) = refl
example_fits c.Name = (codes "a", refl, name_true (codes "a") refl)
example_fits c.Number = (codes "0", refl)
example_fits c.Zero = refl
example_fits c.Operand = inl (codes "a", refl, name_true (codes "a") refl)
example_fits c.Operator = (pair.Add, refl)

examples_fit : (cs : List Class) → FitsAll cs (map example cs)
examples_fit [] = tt
examples_fit (x ∷ xs) = (example_fits x, examples_fit xs)

completed : (cs : List Class) (ts : List spelled.Token) (n : ℕ) → Common cs ts n → FitsAll cs (take n ts ++ map example (drop n cs))
completed [] ts n e = subst (λ k. FitsAll [] (take k ts ++ map example (drop k []))) (sym e) tt
completed (x ∷ xs) [] n e = subst (λ k. FitsAll (x ∷ xs) (take k [] ++ map example (drop k (x ∷ xs)))) (sym e) (examples_fit (x ∷ xs))
completed (x ∷ xs) (t ∷ ts) n (inl (fit, r)) = subst (λ k. FitsAll (x ∷ xs) (take k (t ∷ ts) ++ map example (drop k (x ∷ xs)))) (sym r.1) (fit, completed xs ts r.0 r.2)
completed (x ∷ xs) (t ∷ ts) n (inr (none, e)) = subst (λ k. FitsAll (x ∷ xs) (take k (t ∷ ts) ++ map example (drop k (x ∷ xs)))) (sym e) (examples_fit (x ∷ xs))

-- some tokens go on behind a form
abbrev pub Finish : Form → Type 0
Finish form = (more : List spelled.Token) × Goes form more

finish_by : (form next : Form) → Contains (followers_of form) next → Finish next → Finish form
finish_by form next may (more, on) = (map example (classes_of next) ++ more, goes form next (map example (classes_of next)) more may (examples_fit (classes_of next)) on)

finish_end : Finish f.ModuleEnd
finish_end = ([], ended)

finish_close : Finish f.BlockEnd
finish_close = finish_by f.BlockEnd f.ModuleEnd (2, omega arith, refl) finish_end

finish_clock : Finish f.Clock
finish_clock = finish_by f.Clock f.ModuleEnd (14, omega arith, refl) finish_end

finish_head : Finish f.Head
finish_head = finish_by f.Head f.Clock (1, omega arith, refl) finish_clock

pub finish : (form : Form) → Finish form
finish f.Start = finish_by f.Start f.Head (0, omega arith, refl) finish_head
finish f.Head = finish_head
finish f.HeaderName = finish_by f.HeaderName f.Clock (1, omega arith, refl) finish_clock
finish f.MemoryBlock = finish_by f.MemoryBlock f.BlockEnd (1, omega arith, refl) finish_close
finish f.Port = finish_by f.Port f.BlockEnd (1, omega arith, refl) finish_close
finish f.ModuleEnd = finish_end
finish f.Clock = finish_by f.Clock f.ModuleEnd (14, omega arith, refl) finish_end
finish f.Input = finish_by f.Input f.ModuleEnd (14, omega arith, refl) finish_end
finish f.Output = finish_by f.Output f.ModuleEnd (13, omega arith, refl) finish_end
finish f.Register = finish_by f.Register f.ModuleEnd (12, omega arith, refl) finish_end
finish f.Memory = finish_by f.Memory f.ModuleEnd (11, omega arith, refl) finish_end
finish f.CopyWire = finish_by f.CopyWire f.ModuleEnd (10, omega arith, refl) finish_end
finish f.NotWire = finish_by f.NotWire f.ModuleEnd (10, omega arith, refl) finish_end
finish f.PairWire = finish_by f.PairWire f.ModuleEnd (10, omega arith, refl) finish_end
finish f.PickWire = finish_by f.PickWire f.ModuleEnd (10, omega arith, refl) finish_end
finish f.JoinWire = finish_by f.JoinWire f.ModuleEnd (10, omega arith, refl) finish_end
finish f.PartWire = finish_by f.PartWire f.ModuleEnd (10, omega arith, refl) finish_end
finish f.WordWire = finish_by f.WordWire f.ModuleEnd (10, omega arith, refl) finish_end
finish f.Assign = finish_by f.Assign f.ModuleEnd (3, omega arith, refl) finish_end
finish f.RegisterBlock = finish_by f.RegisterBlock f.ModuleEnd (2, omega arith, refl) finish_end
finish f.BlockEnd = finish_by f.BlockEnd f.ModuleEnd (2, omega arith, refl) finish_end

-- ---- the forms so far

take_on : {A : Type 0} (n k : ℕ) (xs : List A) → take (n + k) xs ≡ take n xs ++ take k (drop n xs)
take_on n k xs = take-add n k xs

take_tokens : (n : ℕ) (tokens : List Token) → tokens_in (take n tokens) ≡ take n (tokens_in tokens)
take_tokens n tokens = sym (take-map (λ (x : Token). token_of x.kind) n tokens)

drop_tokens : (n : ℕ) (tokens : List Token) → tokens_in (drop n tokens) ≡ drop n (tokens_in tokens)
drop_tokens zero tokens = refl
drop_tokens (suc n) [] = refl
drop_tokens (suc n) (x ∷ xs) = drop_tokens n xs

pub record Reading (tokens : List Token) (last : Form) (n : ℕ) (m : PlacedModule) : Type 0 where
  pub within : n ≤ length tokens
  pub seen : Seen last (take n tokens) m
  pub same : (after : List spelled.Token) → IsModule (take n (tokens_in tokens) ++ after) ↔ Goes last after

pub begun : (tokens : List Token) (m : PlacedModule) → m ≡ no_module → Reading tokens f.Start 0 m
begun tokens m e = record { within = omega arith; seen = subst (Seen f.Start []) (sym e) seen_nothing; same = λ after. (λ h. h, λ h. h) }

pub read_on : (tokens left taken : List Token) (last next : Form) (n k : ℕ) (m new : PlacedModule) → left ≡ drop n tokens → taken ≡ take k left → k ≡ length (classes_of next) → Contains (followers_of last) next
    → length (classes_of next) ≤ length left → FitsAll (classes_of next) (take (length (classes_of next)) (tokens_in left)) → new ≡ added next taken m → Reading tokens last n m → Reading tokens next (n + k) new
read_on tokens left taken last next n k m new e g size may long fits same r =
    let taken_fit : FitsAll (classes_of next) (tokens_in taken) =
    subst (λ x. FitsAll (classes_of next) (tokens_in x)) (sym (g ∙ ap (λ x. take x left) size)) (subst (FitsAll (classes_of next)) (sym (take_tokens (length (classes_of next)) left)) fits) in
    let whole : take n tokens ++ taken ≡ take (n + k) tokens = ap (λ x. take n tokens ++ x) (g ∙ ap (take k) e) ∙ sym (take_on n k tokens) in
    let ts = tokens_in tokens in
    let tt2 : tokens_in taken ≡ take k (drop n ts) = ap tokens_in g ∙ (take_tokens k left ∙ ap (take k) (ap tokens_in e ∙ drop_tokens n tokens)) in
    let split : (after : List spelled.Token) → take n ts ++ (tokens_in taken ++ after) ≡ take (n + k) ts ++ after =
    (λ after. sym (append_assoc (take n ts) (tokens_in taken) after) ∙ ap (λ x. x ++ after) (ap (λ x. take n ts ++ x) tt2 ∙ sym (take_on n k ts))) in
    record {
      within = omega (arith, long, size, r.within, ap length e, length-drop n tokens);
      seen = subst (λ x. Seen next x new) whole (subst (Seen next (take n tokens ++ taken)) (sym same) (step_on last next (take n tokens) taken m may taken_fit r.seen));
      same = λ after. (
        λ h. step_back last next (tokens_in taken) after may taken_fit ((r.same (tokens_in taken ++ after)).0 (subst IsModule (sym (split after)) h)),
        λ h. subst IsModule (split after) ((r.same (tokens_in taken ++ after)).1 (goes last next (tokens_in taken) after may taken_fit h)),
      );
    }

-- ---- where it stops

some_follower : (form : Form) → (form ≡ f.ModuleEnd → ⊥) → (x : Form) × Contains (followers_of form) x
some_follower f.Start other = (f.Head, (0, omega arith, refl))
some_follower f.Head other = (f.HeaderName, (0, omega arith, refl))
some_follower f.HeaderName other = (f.HeaderName, (0, omega arith, refl))
some_follower f.Clock other = (f.Input, (0, omega arith, refl))
some_follower f.Input other = (f.Input, (0, omega arith, refl))
some_follower f.Output other = (f.Output, (0, omega arith, refl))
some_follower f.Register other = (f.Register, (0, omega arith, refl))
some_follower f.Memory other = (f.Memory, (0, omega arith, refl))
some_follower f.CopyWire other = (f.CopyWire, (0, omega arith, refl))
some_follower f.NotWire other = (f.CopyWire, (0, omega arith, refl))
some_follower f.PairWire other = (f.CopyWire, (0, omega arith, refl))
some_follower f.PickWire other = (f.CopyWire, (0, omega arith, refl))
some_follower f.JoinWire other = (f.CopyWire, (0, omega arith, refl))
some_follower f.PartWire other = (f.CopyWire, (0, omega arith, refl))
some_follower f.WordWire other = (f.CopyWire, (0, omega arith, refl))
some_follower f.Assign other = (f.Assign, (0, omega arith, refl))
some_follower f.RegisterBlock other = (f.RegisterBlock, (0, omega arith, refl))
some_follower f.MemoryBlock other = (f.Port, (0, omega arith, refl))
some_follower f.Port other = (f.Port, (0, omega arith, refl))
some_follower f.BlockEnd other = (f.RegisterBlock, (0, omega arith, refl))
some_follower f.ModuleEnd other = absurd (other refl)

reached_form : (last : Form) (ts : List spelled.Token) (n : ℕ) → (last ≡ f.ModuleEnd → ⊥) → All (FitsSome ts n) (followers_of last) → IsReached ts n (followers_of last)
    → (form : Form) × Contains (followers_of last) form × Common (classes_of form) ts n
reached_form last ts n other all (inr h) = h
reached_form last ts n other all (inl z) =
    let s = some_follower last other in
    let w = All-contains (FitsSome ts n) (followers_of last) s.0 all s.1 in
    let e : w.0 ≡ n = omega (arith, z, w.3) in
    (s.0, s.1, subst (Common (classes_of s.0) ts) e w.1)

-- tokens that go on where none of the forms does
goes_nowhere : (last : Form) (left : List spelled.Token) (n : ℕ) (after : List spelled.Token) → (last ≡ f.ModuleEnd → ⊥) → n ≤ length left → All (FitsSome left n) (followers_of last)
    → Agree (drop n left) after → Goes last (take n left ++ after) → ⊥
goes_nowhere last left n after other within all agree on =
    elim (opened last (take n left ++ after) on) [
      | inl e ↦ other e.0
      | inr s ↦
          let w = All-contains (FitsSome left n) (followers_of last) s.next all s.may in
          stops (classes_of s.next) left w.0 n s.taken s.rest after w.1 w.3 within w.2 s.fits (sym s.whole) agree
    ]

agree_next : (n : ℕ) (left : List spelled.Token) (d : spelled.Token) (more : List spelled.Token) → n < length left → Agree (drop n left) (get_or left n d ∷ more)
agree_next n left d more h = subst (λ x. Agree x (get_or left n d ∷ more)) (sym (drop-cons left n d h)) refl

pub stopped : (tokens left : List Token) (last : Form) (n k : ℕ) (m : PlacedModule) → left ≡ drop n tokens → (last ≡ f.ModuleEnd → ⊥) → All (FitsSome (tokens_in left) k) (followers_of last)
    → IsReached (tokens_in left) k (followers_of last) → Reading tokens last n m → FirstWrong (tokens_in tokens) (n + k)
stopped tokens left last n k m e other all reached r =
    let ts = tokens_in tokens in
    let ls : tokens_in left ≡ drop n ts = ap tokens_in e ∙ drop_tokens n tokens in
    let form = reached_form last (tokens_in left) k other all reached in
    let low = common_within (classes_of form.0) (tokens_in left) k form.2 in
    let long : n ≤ length ts = omega (arith, r.within, tokens_long tokens) in
    let size : length (tokens_in left) ≡ length ts - n = ap length ls ∙ length-drop n ts in
    let front : take (n + k) ts ≡ take n ts ++ take k (tokens_in left) = take_on n k ts ∙ ap (λ x. take n ts ++ take k x) (sym ls) in
    let more = map example (drop k (classes_of form.0)) ++ (finish form.0).0 in
    let on : Goes last (take k (tokens_in left) ++ more) =
    subst (Goes last) (append_assoc (take k (tokens_in left)) (map example (drop k (classes_of form.0))) (finish form.0).0)
    (goes last form.0 (take k (tokens_in left) ++ map example (drop k (classes_of form.0))) (finish form.0).0 form.1 (completed (classes_of form.0) (tokens_in left) k form.2) (finish form.0).1) in
    let nowhere : (after : List spelled.Token) → Agree (drop k (tokens_in left)) after → IsModule (take (n + k) ts ++ after) → ⊥ =
    (λ after agree h. goes_nowhere last (tokens_in left) k after other low.1 all agree
    ((r.same (take k (tokens_in left) ++ after)).0 (subst IsModule (ap (λ x. x ++ after) front ∙ append_assoc (take n ts) (take k (tokens_in left)) after) h))) in
    let d : spelled.Token = spelled.Word [] in
    record {
      within = omega (arith, low.1, long, size);
      begins = (more, subst IsModule (sym (ap (λ x. x ++ more) front ∙ append_assoc (take n ts) (take k (tokens_in left)) more)) ((r.same (take k (tokens_in left) ++ more)).1 on));
      wrong = λ below b.
          let one : suc (n + k) ≡ n + k + 1 = omega arith in
          let next : take (suc (n + k)) ts ≡ take (n + k) ts ++ get_or ts (n + k) d ∷ [] = ap (λ x. take x ts) one ∙ take_more ts (n + k) d below in
          let here : get_or (tokens_in left) k d ≡ get_or ts (n + k) d = ap (λ x. get_or x k d) ls ∙ get_or-drop n ts k d in
          nowhere (get_or ts (n + k) d ∷ b.0) (subst (λ x. Agree (drop k (tokens_in left)) (x ∷ b.0)) here (agree_next k (tokens_in left) d b.0 (omega (arith, below, size, long))))
          (subst IsModule (ap (λ x. x ++ b.0) next ∙ append_assoc (take (n + k) ts) (get_or ts (n + k) d ∷ []) b.0) b.1);
      early = λ end h.
          nowhere [] (subst (λ x. Agree x []) (sym (drop_all k (tokens_in left) (omega (arith, end, size, long)))) tt)
          (subst IsModule (sym (append-nil (take (n + k) ts) ∙ take_all (n + k) ts (omega (arith, end)))) h);
    }

pub too_long : (tokens : List Token) (last : Form) (n : ℕ) (m : PlacedModule) → last ≡ f.ModuleEnd → n < length tokens → Reading tokens last n m → FirstWrong (tokens_in tokens) n
too_long tokens last n m e below r =
    let ts = tokens_in tokens in
    let d : spelled.Token = spelled.Word [] in
    let here : n < length ts = omega (arith, below, tokens_long tokens) in
    record {
      within = omega (arith, here);
      begins = ([], (r.same []).1 (subst (λ x. Goes x []) (sym e) ended));
      wrong = λ below2 b.
          let one : suc n ≡ n + 1 = omega arith in
          let next : take (suc n) ts ≡ take n ts ++ get_or ts n d ∷ [] = ap (λ x. take x ts) one ∙ take_more ts n d here in
          let on : Goes last (get_or ts n d ∷ b.0) = (r.same (get_or ts n d ∷ b.0)).0 (subst IsModule (ap (λ x. x ++ b.0) next ∙ append_assoc (take n ts) (get_or ts n d ∷ []) b.0) b.1) in
          elim (opened last (get_or ts n d ∷ b.0) on) [ inl end ↦ absurd (cons_nil (get_or ts n d) b.0 end.1) | inr s ↦ no_follower s.next (subst (λ x. Contains (followers_of x) s.next) e s.may) ];
      early = λ end h. omega (arith, end, here);
    }
  where
    cons_nil : (x : spelled.Token) (xs : List spelled.Token) → x ∷ xs ≡ [] → ⊥
    cons_nil x xs q = cc

pub read_whole : (tokens : List Token) (last : Form) (n : ℕ) (m : PlacedModule) → last ≡ f.ModuleEnd → length tokens ≤ n → Reading tokens last n m → IsParsed tokens m
read_whole tokens last n m e end r =
    let is : IsModule (take n (tokens_in tokens) ++ []) = (r.same []).1 (subst (λ x. Goes x []) (sym e) ended) in
    let whole : take n (tokens_in tokens) ++ [] ≡ tokens_in tokens = append-nil (take n (tokens_in tokens)) ∙ take_all n (tokens_in tokens) (omega (arith, end, tokens_long tokens)) in
    seen_whole tokens m (subst IsModule whole is) (subst (λ x. Seen x tokens m) e (subst (λ x. Seen last x m) (take_all n tokens end) r.seen))

classes_some : (form : Form) → (form ≡ f.Start → ⊥) → 0 < length (classes_of form)
classes_some f.Start other = absurd (other refl)
classes_some f.Head other = omega arith
classes_some f.HeaderName other = omega arith
classes_some f.Clock other = omega arith
classes_some f.Input other = omega arith
classes_some f.Output other = omega arith
classes_some f.Register other = omega arith
classes_some f.Memory other = omega arith
classes_some f.CopyWire other = omega arith
classes_some f.NotWire other = omega arith
classes_some f.PairWire other = omega arith
classes_some f.PickWire other = omega arith
classes_some f.JoinWire other = omega arith
classes_some f.PartWire other = omega arith
classes_some f.WordWire other = omega arith
classes_some f.Assign other = omega arith
classes_some f.RegisterBlock other = omega arith
classes_some f.MemoryBlock other = omega arith
classes_some f.Port other = omega arith
classes_some f.BlockEnd other = omega arith
classes_some f.ModuleEnd other = omega arith

pub taken_some : (last next : Form) → Contains (followers_of last) next → 0 < length (classes_of next)
taken_some last next may = classes_some next (λ e. no_start last (subst (Contains (followers_of last)) e may))
