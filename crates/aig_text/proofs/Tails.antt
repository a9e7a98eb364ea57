-- What may stand behind a graph: symbol lines and a comment.
use Rattle.std.proofs.Common.{◌≡◌, ℕ, zero, suc, ◌<◌, Bool, true, false, not, ◌==◌, IsTrue, List, [], ◌∷◌, ◌++◌, length, take, drop, codes, sym, ap, ◌∙◌, subst, refl, append_assoc, arith, ◌⊎◌, inl, inr, length-append}
use Rattle.std.specs.List.{All, list_all, concat}
use Rattle.std.proofs.lemmas.Bool.Decides.{eqb_tells}
use Rattle.std.proofs.lemmas.List.{take-append-drop}
use Rattle.std.proofs.lemmas.List.Elements.{All-head, All-tail, All-nil, All-cons, All-push}
use Rattle.aig_text.specs.TextForm.{in_line, begins_symbol, IsSymbolLine, IsComment, IsTail}
use Rattle.aig_text.specs.Reading.{Found, Stuck, SameNext, Follows, word, begins_with}
use Rattle.aig_text.specs.Views.{StopsTail}
use Rattle.aig_text.proofs.Numerals.{not_true, true_false, and_left, and_right}
use Rattle.aig_text.proofs.Reading.{append_none, next_behind, next_ends}

-- ---- lines

-- where two lines with one text end
same_line : (x y s t : List ℕ) → IsTrue (list_all in_line x) → IsTrue (list_all in_line y) → x ++ (10 ∷ s) ≡ y ++ (10 ∷ t) → (x ≡ y) × (s ≡ t)
same_line [] [] s t a b e = let f : s ≡ t = cc in (refl, f)
same_line [] (d ∷ y) s t a b e = let f : 10 ≡ d = cc in not_true (subst (λ c. IsTrue (in_line c)) (sym f) (and_left (in_line d) (list_all in_line y) b))
same_line (c ∷ x) [] s t a b e = let f : c ≡ 10 = cc in not_true (subst (λ c. IsTrue (in_line c)) f (and_left (in_line c) (list_all in_line x) a))
same_line (c ∷ x) (d ∷ y) s t a b e =
    let h : c ≡ d = cc in
    let f : x ++ (10 ∷ s) ≡ y ++ (10 ∷ t) = cc in
    let r = same_line x y s t (and_right (in_line c) (list_all in_line x) a) (and_right (in_line d) (list_all in_line y) b) f in
    (ap (λ z. z ∷ x) h ∙ ap (λ z. d ∷ z) r.0, r.1)

-- no LF is among them
no_newline : (x s : List ℕ) → IsTrue (list_all in_line (x ++ (10 ∷ s))) → ⊥
no_newline [] s a = not_true (and_left (in_line 10) (list_all in_line s) a)
no_newline (c ∷ x) s a = no_newline x s (and_right (in_line c) (list_all in_line (x ++ (10 ∷ s))) a)

-- a byte that begins a symbol line is within a line
symbol_in_line : (c : ℕ) → IsTrue (begins_symbol c) → IsTrue (in_line c)
symbol_in_line c h =
    elim (eqb_tells c 10) [
      | inl s ↦ not_true (subst (λ x. IsTrue (begins_symbol x)) s.1 h)
      | inr n ↦ subst (λ b. IsTrue (not b)) (sym n.0) refl
    ]

line_text : (h : ℕ) (name t : List ℕ) → (h ∷ (name ++ (10 ∷ []))) ++ t ≡ h ∷ (name ++ (10 ∷ t))
line_text h name t = ap (λ z. h ∷ z) (append_assoc name (10 ∷ []) t)

-- ---- what may stand behind a graph begins with a symbol line, is a comment, or is empty

pub tail_empty : IsTail []
tail_empty = record { lines = []; comment = []; symbols = All-nil IsSymbolLine; ends = inl refl; whole = refl }

pub tail_comment : (rest : List ℕ) → IsTail (codes "c\n" ++ rest)
tail_comment rest = record { lines = []; comment = codes "c\n" ++ rest; symbols = All-nil IsSymbolLine; ends = inr (rest, refl); whole = refl }

pub symbol_before : (s t : List ℕ) → IsSymbolLine s → IsTail t → IsTail (s ++ t)
symbol_before s t i j = record {
  lines = s ∷ j.lines;
  comment = j.comment;
  symbols = All-cons IsSymbolLine s j.lines i j.symbols;
  ends = j.ends;
  whole = ap (λ z. s ++ z) j.whole ∙ sym (append_assoc s (concat j.lines) j.comment);
}

pub symbols_before : (ss : List (List ℕ)) (t : List ℕ) → All IsSymbolLine ss → IsTail t → IsTail (concat ss ++ t)
symbols_before [] t i j = j
symbols_before (s ∷ ss) t i j =
    subst IsTail (sym (append_assoc s (concat ss) t)) (symbol_before s (concat ss ++ t) (All-head IsSymbolLine s ss i) (symbols_before ss t (All-tail IsSymbolLine s ss i) j))

-- a line of a symbol, and what may stand behind it
pub record Lined (t : List ℕ) : Type 0 where
  pub head : ℕ
  pub name : List ℕ
  pub rest : List ℕ
  pub begins : IsTrue (begins_symbol head)
  pub one_line : IsTrue (list_all in_line name)
  pub whole : t ≡ head ∷ (name ++ (10 ∷ rest))
  pub behind : IsTail rest

tail_cases : (t : List ℕ) → IsTail t → (IsComment t) ⊎ (Lined t)
tail_cases t i =
    elim i.lines as (λ ls. All IsSymbolLine ls → t ≡ concat ls ++ i.comment → (IsComment t) ⊎ (Lined t)) [
      | [] ↦ λ a e. inl (subst IsComment (sym e) i.ends)
      | s ∷ ss ↦ λ a e.
          let h = All-head IsSymbolLine s ss a in
          let f : t ≡ s ++ (concat ss ++ i.comment) = e ∙ append_assoc s (concat ss) i.comment in
          inr (record {
            head = h.head;
            name = h.name;
            rest = concat ss ++ i.comment;
            begins = h.begins;
            one_line = h.one_line;
            whole = f ∙ (ap (λ z. z ++ (concat ss ++ i.comment)) h.whole ∙ line_text h.head h.name (concat ss ++ i.comment));
            behind = record { lines = ss; comment = i.comment; symbols = All-tail IsSymbolLine s ss a; ends = i.ends; whole = refl };
          })
    ] i.symbols i.whole

-- no comment begins with a byte of a symbol
comment_not : (c : ℕ) (t : List ℕ) → IsTrue (begins_symbol c) → IsComment (c ∷ t) → ⊥
comment_not c t h (inl e) = cc
comment_not c t h (inr r) =
    let f : c ∷ t ≡ codes "c\n" ++ r.0 = r.1 in
    let g : c ≡ 99 = cc in
    not_true (subst (λ x. IsTrue (begins_symbol x)) g h)

symbol_behind : (s t : List ℕ) → IsSymbolLine s → IsTail (s ++ t) → IsTail t
symbol_behind s t i j =
    let f : s ++ t ≡ i.head ∷ (i.name ++ (10 ∷ t)) = ap (λ z. z ++ t) i.whole ∙ line_text i.head i.name t in
    elim (tail_cases (s ++ t) j) [
      | inl c ↦ absurd (comment_not i.head (i.name ++ (10 ∷ t)) i.begins (subst IsComment f c))
      | inr l ↦
          let e : i.head ∷ (i.name ++ (10 ∷ t)) ≡ l.head ∷ (l.name ++ (10 ∷ l.rest)) = sym f ∙ l.whole in
          let g : i.name ++ (10 ∷ t) ≡ l.name ++ (10 ∷ l.rest) = cc in
          let r = same_line i.name l.name t l.rest i.one_line l.one_line g in
          subst IsTail (sym r.1) l.behind
    ]

pub symbols_behind : (ss : List (List ℕ)) (t : List ℕ) → All IsSymbolLine ss → IsTail (concat ss ++ t) → IsTail t
symbols_behind [] t i j = j
symbols_behind (s ∷ ss) t i j =
    symbols_behind ss t (All-tail IsSymbolLine s ss i) (symbol_behind s (concat ss ++ t) (All-head IsSymbolLine s ss i) (subst IsTail (append_assoc s (concat ss) t) j))

-- ---- one line

head_of : (old : List ℕ) → begins_with begins_symbol old ≡ true → (c : ℕ) × (cs : List ℕ) × (old ≡ c ∷ cs) × IsTrue (begins_symbol c)
head_of [] h = let e : false ≡ true = h in absurd (cc)
head_of (c ∷ cs) h = (c, cs, refl, h)

-- the bytes before the first LF, which begin as a symbol line does
line_front : (n : ℕ) (c : ℕ) (cs : List ℕ) → IsTrue (begins_symbol c) → Follows in_line (drop n (c ∷ cs)) → (m : ℕ) × (n ≡ suc m)
line_front zero c cs h f = true_false (in_line c) (symbol_in_line c h) f
line_front (suc n) c cs h f = (n, refl)

pub symbol_taken : (n : ℕ) (old mid new : List ℕ) → begins_with begins_symbol old ≡ true → IsTrue (list_all in_line (take n old)) → Follows in_line (drop n old) →
    mid ≡ drop n old → (mid ≡ [] → ⊥) → new ≡ drop 1 mid → (s : List ℕ) × IsSymbolLine s × (old ≡ s ++ new)
symbol_taken n old mid new b a f m some e =
    let h = head_of old b in
    taken n h.0 h.1 (subst (λ z. IsTrue (list_all in_line (take n z))) h.2 a) (subst (λ z. Follows in_line (drop n z)) h.2 f) h.3 h.2 (m ∙ ap (drop n) h.2)
  where
    newline : (mid : List ℕ) → Follows in_line mid → (mid ≡ [] → ⊥) → (r : List ℕ) × (mid ≡ 10 ∷ r)
    newline [] f some = absurd (some refl)
    newline (c ∷ r) f some =
        elim (eqb_tells c 10) [
          | inl s ↦ (r, ap (λ z. z ∷ r) s.1)
          | inr n ↦ true_false (not (c == 10)) (ap not n.0) f
        ]

    taken : (n c : ℕ) (cs : List ℕ) → IsTrue (list_all in_line (take n (c ∷ cs))) → Follows in_line (drop n (c ∷ cs)) → IsTrue (begins_symbol c) → old ≡ c ∷ cs → mid ≡ drop n (c ∷ cs) →
        (s : List ℕ) × IsSymbolLine s × (old ≡ s ++ new)
    taken zero c cs a f h o m = true_false (in_line c) (symbol_in_line c h) f
    taken (suc n) c cs a f h o m =
        let l = newline mid (subst (Follows in_line) (sym m) f) some in
        let s = c ∷ (take n cs ++ (10 ∷ [])) in
        let g : new ≡ l.0 = e ∙ ap (drop 1) l.1 in
        let w : cs ≡ take n cs ++ (10 ∷ new) = sym (take-append-drop n cs) ∙ ap (λ z. take n cs ++ z) (sym m ∙ (l.1 ∙ ap (λ z. 10 ∷ z) (sym g))) in (
          s,
          record { head = c; name = take n cs; begins = h; one_line = and_right (in_line c) (list_all in_line (take n cs)) a; whole = refl },
          o ∙ (ap (λ z. c ∷ z) w ∙ sym (line_text c (take n cs) new)),
        )

pub symbol_unended : (n : ℕ) (old mid : List ℕ) → IsTrue (list_all in_line (take n old)) → mid ≡ drop n old → mid ≡ [] → IsTrue (list_all in_line old)
symbol_unended n old mid a m e =
    let w : old ≡ take n old = sym (take-append-drop n old) ∙ (ap (λ z. take n old ++ z) (sym m ∙ e) ∙ append_none (take n old)) in
    subst (λ z. IsTrue (list_all in_line z)) (sym w) a

-- ---- all lines

-- the symbol lines that are taken
pub record Lines (old left : List ℕ) : Type 0 where
  pub lines : List (List ℕ)
  pub symbols : All IsSymbolLine lines
  pub text : old ≡ concat lines ++ left

pub lines_none : (old : List ℕ) → Lines old old
lines_none old = record { lines = []; symbols = All-nil IsSymbolLine; text = refl }

concat_push : (ss : List (List ℕ)) (s t : List ℕ) → concat ss ++ (s ++ t) ≡ concat (ss ++ (s ∷ [])) ++ t
concat_push [] s t = ap (λ z. z ++ t) (sym (append_none s))
concat_push (x ∷ ss) s t = append_assoc x (concat ss) (s ++ t) ∙ (ap (λ z. x ++ z) (concat_push ss s t) ∙ sym (append_assoc x (concat (ss ++ (s ∷ []))) t))

pub lines_more : (old left new s : List ℕ) → Lines old left → IsSymbolLine s → left ≡ s ++ new → Lines old new
lines_more old left new s l i e = record {
  lines = l.lines ++ (s ∷ []);
  symbols = All-push IsSymbolLine l.lines s l.symbols i;
  text = l.text ∙ (ap (λ z. concat l.lines ++ z) e ∙ concat_push l.lines s new);
}

pub tail_behind : (old left : List ℕ) → Lines old left → IsTail left → IsTail old
tail_behind old left l i = subst IsTail (sym l.text) (symbols_before l.lines left l.symbols i)

-- the bytes end within a symbol line
pub tail_unended : (old left new : List ℕ) → Lines old left → begins_with begins_symbol left ≡ true → IsTrue (list_all in_line left) → new ≡ [] → StopsTail old new
tail_unended old left new l b a e =
    let h = head_of left b in
    let before = concat l.lines in
    let name = subst (λ z. IsTrue (list_all in_line z)) h.2 a in
    let s : IsSymbolLine (left ++ (10 ∷ [])) = record {
      head = h.0;
      name = h.1;
      begins = h.3;
      one_line = and_right (in_line h.0) (list_all in_line h.1) name;
      whole = ap (λ z. z ++ (10 ∷ [])) h.2;
    } in
    record {
      front = old;
      cut = sym (append_none old) ∙ ap (λ z. old ++ z) (sym e);
      rest = 10 ∷ [];
      goes = subst IsTail (sym (ap (λ z. z ++ (10 ∷ [])) l.text ∙ append_assoc before left (10 ∷ [])))
          (symbols_before l.lines (left ++ (10 ∷ [])) l.symbols (subst IsTail (append_none (left ++ (10 ∷ []))) (symbol_before (left ++ (10 ∷ [])) [] s tail_empty)));
      stops = λ w i n.
          let none = next_ends w (subst (SameNext w) e n) in
          let all : IsTail old = subst IsTail (ap (λ z. old ++ z) none ∙ append_none old) i in
          let t : IsTail left = symbols_behind l.lines left l.symbols (subst IsTail l.text all) in
          elim (tail_cases left t) [
            | inl c ↦ comment_not h.0 h.1 h.3 (subst IsComment h.2 c)
            | inr x ↦ no_newline (x.head ∷ x.name) x.rest (subst (λ z. IsTrue (list_all in_line z)) x.whole a)
          ];
    }

-- no symbol line begins here, nor does a comment
pub tail_stuck : (old left new : List ℕ) → Lines old left → begins_with begins_symbol left ≡ false → (left ≡ [] → ⊥) → Stuck (word (codes "c\n")) left new → StopsTail old new
tail_stuck old left new l b some g =
    let before = concat l.lines in
    record {
      front = before ++ g.front;
      cut = l.text ∙ (ap (λ z. before ++ z) g.cut ∙ sym (append_assoc before g.front new));
      rest = g.rest;
      goes = subst IsTail (sym (append_assoc before g.front g.rest)) (symbols_before l.lines (g.front ++ g.rest) l.symbols (subst IsTail (g.goes) (tail_comment [])));
      stops = λ w i n.
          let t : IsTail (g.front ++ w) = symbols_behind l.lines (g.front ++ w) l.symbols (subst IsTail (append_assoc before g.front w) i) in
          let next : SameNext (g.front ++ w) left = subst (SameNext (g.front ++ w)) (sym g.cut) (next_behind g.front w new n) in
          elim (tail_cases (g.front ++ w) t) [
            | inl c ↦ elim c [
              | inl e ↦ some (ended left (subst (λ z. SameNext z left) e next))
              | inr r ↦ g.stops tt r.0 w tt (sym r.1) n
            ]
            | inr x ↦ true_false (begins_with begins_symbol left) (same_begins begins_symbol x.head (x.name ++ (10 ∷ x.rest)) left (subst (λ z. SameNext z left) x.whole next) x.begins) b
          ];
    }
  where
    ended : (z : List ℕ) → SameNext [] z → z ≡ []
    ended [] h = refl
    ended (c ∷ cs) h = absurd h

    same_begins : (f : ℕ → Bool) (c : ℕ) (x z : List ℕ) → SameNext (c ∷ x) z → IsTrue (f c) → begins_with f z ≡ true
    same_begins f c x [] h k = absurd h
    same_begins f c x (d ∷ ds) h k = subst (λ y. f y ≡ true) h k

pub tail_ended : (old left new : List ℕ) → Lines old left → Found (word (codes "c\n")) tt left new → IsTail old
tail_ended old left new l f = tail_behind old left l (subst IsTail (sym f.text) (tail_comment new))

pub symbol_shorter : (old s new : List ℕ) → IsSymbolLine s → old ≡ s ++ new → length new < length old
symbol_shorter old s new i e =
    let l = ap length (e ∙ ap (λ z. z ++ new) i.whole) in
    let m = length-append (i.name ++ (10 ∷ [])) new in
    omega (arith, l, m)
