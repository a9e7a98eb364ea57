-- Points that stand at places of a call or in the calls there.
use Rattle.std.proofs.Common.{◌≡◌, ◌∙◌, ◌⊎◌, inl, inr, refl, sym, ap, subst, append_assoc, append-nil, drop, List, [], ◌∷◌, ◌++◌}
use Rattle.hls_base.specs.declared.place.Place.{Place}
use Rattle.hls_base.specs.declared.point.Point.{Point}
use Rattle.hls_base.specs.declared.point.PointKind.{PointKind}
use Rattle.expanded_pieces.specs.ApartPoints.Apart.{IsAway, AreApart}
use Rattle.expanded_pieces.proofs.ApartPoints.Apart.{IsIn, Covers, away_at, away_from, in_left, in_right, in_either, split, joined}

-- the point stands at this place of the call with this path, or in a call there
pub record Leads (path : List Place) (at : Place) (q : Point) : Type 0 where
  pub rest : List Place
  pub whole : q.path ++ q.at ∷ [] ≡ path ++ at ∷ rest

abbrev pub Among : List Place → List Place → Point → Type 0
Among path places q = (at : Place) × IsIn at places × Leads path at q

abbrev pub point_at : List Place → Place → PointKind → Point
point_at path at kind = record { path = path; at = at; kind = kind }

-- points that differ, at these places
pub record Stand (path places : List Place) (qs : List Point) : Type 0 where
  pub apart : AreApart qs
  pub among : (q : Point) → IsIn q qs → Among path places q

-- points that differ, at these places, and others of these kinds right at this place of the call
pub record Around (path : List Place) (at : Place) (kinds : List PointKind) (places : List Place) (qs : List Point) : Type 0 where
  pub apart : AreApart qs
  pub among : (q : Point) → IsIn q qs → ((kind : PointKind) × IsIn kind kinds × (q ≡ point_at path at kind)) ⊎ Among path places q

-- ---- one place

abbrev first_of : Place → List Place → Place
first_of d [] = d
first_of d (a ∷ rest) = a

same_first : (path : List Place) (a b : Place) (x y : List Place) → path ++ a ∷ x ≡ path ++ b ∷ y → a ≡ b
same_first [] a b x y e = ap (first_of a) e
same_first (p ∷ path) a b x y e = same_first path a b x y (ap (drop 1) e)

one_place : (path : List Place) (a b : Place) (q : Point) → Leads path a q → Leads path b q → a ≡ b
one_place path a b q h g = same_first path a b h.rest g.rest (sym h.whole ∙ g.whole)

-- ---- points at places

pub stand_none : (path : List Place) → Stand path [] []
stand_none path = record { apart = tt; among = λ q i. absurd i }

pub stand_empty : (path places : List Place) → Stand path places []
stand_empty path places = record { apart = tt; among = λ q i. absurd i }

pub stand_more : (path xs ys : List Place) (qs : List Point) → Covers ys xs → Stand path xs qs → Stand path ys qs
stand_more path xs ys qs h s = record { apart = s.apart; among = λ q i. let a = s.among q i in (a.0, h a.0 a.1, a.2) }

pub stand_append : (path xs ys : List Place) (qs rs : List Point) → AreApart (xs ++ ys) → Stand path xs qs → Stand path ys rs → Stand path (xs ++ ys) (qs ++ rs)
stand_append path xs ys qs rs h s t = record {
  apart = joined qs rs (record {
    left = s.apart;
    right = t.apart;
    disjoint = λ q i j. let a = s.among q i in let b = t.among q j in (split xs ys h).disjoint a.0 a.1 (subst (λ z. IsIn z ys) (sym (one_place path a.0 b.0 q a.2 b.2)) b.1);
  });
  among = λ q i. either q (in_either q qs rs i);
}
  where
    either : (q : Point) → IsIn q qs ⊎ IsIn q rs → Among path (xs ++ ys) q
    either q (inl i) = let a = s.among q i in (a.0, in_left a.0 xs ys a.1, a.2)
    either q (inr i) = let a = t.among q i in (a.0, in_right a.0 xs ys a.1, a.2)

-- those of a call at this place
pub stand_within : (path : List Place) (at : Place) (places : List Place) (qs : List Point) → Stand (path ++ at ∷ []) places qs → Stand path (at ∷ []) qs
stand_within path at places qs s = record {
  apart = s.apart;
  among = λ q i. let a = s.among q i in (at, inl refl, record { rest = a.0 ∷ a.2.rest; whole = a.2.whole ∙ append_assoc path (at ∷ []) (a.0 ∷ a.2.rest) });
}

-- ---- points right at a place

module _ (path : List Place) (at : Place) where
  leads_here : (kind : PointKind) → Leads path at (point_at path at kind)
  leads_here kind = record { rest = []; whole = refl }

  pub around_stand : (kinds : List PointKind) (places : List Place) (qs : List Point) → Around path at kinds places qs → Stand path (at ∷ places) qs
  around_stand kinds places qs s = record { apart = s.apart; among = λ q i. either q (s.among q i) } where
    either : (q : Point) → ((kind : PointKind) × IsIn kind kinds × (q ≡ point_at path at kind)) ⊎ Among path places q → Among path (at ∷ places) q
    either q (inl a) = (at, inl refl, subst (λ z. Leads path at z) (sym a.2) (leads_here a.0))
    either q (inr a) = (a.0, inr a.1, a.2)

  pub around_last : (kind : PointKind) → Around path at (kind ∷ []) [] (point_at path at kind ∷ [])
  around_last kind = record { apart = (tt, tt); among = λ q i. inl (kind, inl refl, either q i) } where
    either : (q : Point) → IsIn q (point_at path at kind ∷ []) → q ≡ point_at path at kind
    either q (inl e) = e
    either q (inr i) = absurd i

  pub around_only : (ys : List Place) (rs : List Point) → Stand path ys rs → Around path at [] ys rs
  around_only ys rs s = record { apart = s.apart; among = λ q i. inr (s.among q i) }

  pub around_inner : (kinds : List PointKind) (xs ys : List Place) (qs rs : List Point) → AreApart (at ∷ (xs ++ ys)) → Stand path xs qs → Around path at kinds ys rs → Around path at kinds (xs ++ ys) (qs ++ rs)
  around_inner kinds xs ys qs rs h s t = record {
    apart = joined qs rs (record { left = s.apart; right = t.apart; disjoint = λ q i j. clash q (s.among q i) (t.among q j) });
    among = λ q i. either q (in_either q qs rs i);
  }
    where
      clash : (q : Point) → Among path xs q → ((kind : PointKind) × IsIn kind kinds × (q ≡ point_at path at kind)) ⊎ Among path ys q → ⊥
      clash q a (inl b) =
          let here = subst (λ z. Leads path at z) (sym b.2) (leads_here b.0) in
          away_at at (xs ++ ys) h.0 (in_left at xs ys (subst (λ z. IsIn z xs) (one_place path a.0 at q a.2 here) a.1))
      clash q a (inr b) = (split xs ys h.1).disjoint a.0 a.1 (subst (λ z. IsIn z ys) (sym (one_place path a.0 b.0 q a.2 b.2)) b.1)

      either : (q : Point) → IsIn q qs ⊎ IsIn q rs → ((kind : PointKind) × IsIn kind kinds × (q ≡ point_at path at kind)) ⊎ Among path (xs ++ ys) q
      either q (inl i) = let a = s.among q i in inr (a.0, in_left a.0 xs ys a.1, a.2)
      either q (inr i) = right (t.among q i)
        where
          right : ((kind : PointKind) × IsIn kind kinds × (q ≡ point_at path at kind)) ⊎ Among path ys q → ((kind : PointKind) × IsIn kind kinds × (q ≡ point_at path at kind)) ⊎ Among path (xs ++ ys) q
          right (inl a) = inl a
          right (inr a) = inr (a.0, in_right a.0 xs ys a.1, a.2)

  -- the last one
  pub around_end : (kind : PointKind) (ys : List Place) (rs : List Point) → AreApart (at ∷ ys) → Stand path ys rs → Around path at (kind ∷ []) ys (rs ++ point_at path at kind ∷ [])
  around_end kind ys rs h s =
      subst (λ l. Around path at (kind ∷ []) l (rs ++ point_at path at kind ∷ [])) (append-nil ys)
      (around_inner (kind ∷ []) ys [] rs (point_at path at kind ∷ []) (subst (λ l. AreApart (at ∷ l)) (sym (append-nil ys)) h) s (around_last kind))

  pub around_more : (js ks : List PointKind) (ys : List Place) (rs : List Point) → Covers ks js → Around path at js ys rs → Around path at ks ys rs
  around_more js ks ys rs h s = record { apart = s.apart; among = λ q i. either q (s.among q i) } where
    either : (q : Point) → ((kind : PointKind) × IsIn kind js × (q ≡ point_at path at kind)) ⊎ Among path ys q → ((kind : PointKind) × IsIn kind ks × (q ≡ point_at path at kind)) ⊎ Among path ys q
    either q (inl a) = inl (a.0, h a.0 a.1, a.2)
    either q (inr a) = inr a

  pub around_own : (kind : PointKind) (kinds : List PointKind) (ys : List Place) (rs : List Point) → IsAway kind kinds → IsAway at ys → Around path at kinds ys rs → Around path at (kind ∷ kinds) ys (point_at path at kind ∷ rs)
  around_own kind kinds ys rs k h t = record {
    apart = (away_from (point_at path at kind) rs (λ i. clash (t.among (point_at path at kind) i)), t.apart);
    among = λ q i. either q i;
  }
    where
      clash : ((other : PointKind) × IsIn other kinds × (point_at path at kind ≡ point_at path at other)) ⊎ Among path ys (point_at path at kind) → ⊥
      clash (inl a) = away_at kind kinds k (subst (λ z. IsIn z kinds) (sym (ap (λ (p : Point). p.kind) a.2)) a.1)
      clash (inr a) = away_at at ys h (subst (λ z. IsIn z ys) (one_place path a.0 at (point_at path at kind) a.2 (leads_here kind)) a.1)

      either : (q : Point) → IsIn q (point_at path at kind ∷ rs) → ((other : PointKind) × IsIn other (kind ∷ kinds) × (q ≡ point_at path at other)) ⊎ Among path ys q
      either q (inl e) = inl (kind, inl refl, e)
      either q (inr i) = more (t.among q i)
        where
          more : ((other : PointKind) × IsIn other kinds × (q ≡ point_at path at other)) ⊎ Among path ys q → ((other : PointKind) × IsIn other (kind ∷ kinds) × (q ≡ point_at path at other)) ⊎ Among path ys q
          more (inl a) = inl (a.0, inr a.1, a.2)
          more (inr a) = inr a
