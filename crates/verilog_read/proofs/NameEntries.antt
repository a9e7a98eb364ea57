-- A name table with one entry more.
use Rattle.std.proofs.Common.{◌≡◌, inl, inr, Bor, ℕ, Bool, false, cond, List, [], ◌∷◌, Option, Some, None, refl, sym, ap, ◌∙◌}
use Rattle.std.specs.Prelude.{bytes_eq}
use Rattle.std.specs.Option.{is_some}
use Rattle.std.specs.Map.{lookup}
use Rattle.std.proofs.lemmas.Bool.{cases_Bool, false≢true}
use Rattle.std.proofs.lemmas.Option.{none-some}
use Rattle.indexmap.specs.IndexMap.{insert_entry}
use Rattle.verilog_read.specs.declared.names.Entry.{Entry}

abbrev pub at : List ℕ → List (Bor (List ℕ) × Entry) → Option Entry
at name es = lookup (λ (key : Bor (List ℕ)). bytes_eq name key.now) es

abbrev same : Bor (List ℕ) → Bor (List ℕ) → Bool
same x y = bytes_eq x.now y.now

pub insert_new : (es : List (Bor (List ℕ) × Entry)) (k : Bor (List ℕ)) (v : Entry) (q : List ℕ) → at k.now es ≡ None
    → at q (insert_entry same es k v) ≡ cond (is_some (at q es)) (at q es) (cond (bytes_eq q k.now) (Some v) None)
insert_new [] k v q none = refl
insert_new (e ∷ es) k v q none =
    elim (cases_Bool (bytes_eq k.now e.0.now)) [
      | inl t ↦ absurd (none-some e.1 (sym none ∙ ap (λ b. cond b (Some e.1) (at k.now es)) t))
      | inr f ↦
          let rest : at k.now es ≡ None = sym (ap (λ b. cond b (Some e.1) (at k.now es)) f) ∙ none in
          let new : insert_entry same (e ∷ es) k v ≡ e ∷ insert_entry same es k v = ap (λ b. cond b ((e.0, v) ∷ es) (e ∷ insert_entry same es k v)) f in
          elim (cases_Bool (bytes_eq q e.0.now)) [
            | inl t ↦
                ap (at q) new ∙ (ap (λ b. cond b (Some e.1) (at q (insert_entry same es k v))) t
                ∙ sym (ap (λ b. let o = cond b (Some e.1) (at q es) in cond (is_some o) o (cond (bytes_eq q k.now) (Some v) None)) t))
            | inr g ↦
                ap (at q) new ∙ (ap (λ b. cond b (Some e.1) (at q (insert_entry same es k v))) g ∙ (insert_new es k v q rest
                ∙ sym (ap (λ b. let o = cond b (Some e.1) (at q es) in cond (is_some o) o (cond (bytes_eq q k.now) (Some v) None)) g)))
          ]
    ]

pub none_of : (o : Option Entry) (b : Bool) → b ≡ is_some o → b ≡ false → o ≡ None
none_of None b e f = refl
none_of (Some x) b e f = absurd (false≢true (sym f ∙ e))
