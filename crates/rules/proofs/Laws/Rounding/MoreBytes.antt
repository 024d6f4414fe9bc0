-- More bytes of the same record: each coefficient is rounded at the same plane or at a lower one. Where both cuts are in one part, more of its bits
-- are there; where they aren't, the part that was cut first is whole in what is longer.
use Rattle.std.specs.Prelude.{◌≡◌, refl, List, [], ◌∷◌, ◌++◌, Bool, true, false, cond, ℕ, ◌-◌, ◌^◌, ◌≤◌, ◌<◌, leb, length, get_or, ℤ, pos}
use Rattle.std.proofs.Math.Path.{ap, sym}
use Rattle.std.proofs.Common.{◌∙◌, subst, subst₂, append_assoc, leb-true, leb-false, le-leb}
use Rattle.std.proofs.lemmas.List.{map-append}
use native.Mathlib.Omega.{arith}
use Rattle.std.proofs.Math.Decide.{dec_lt}
use Rattle.std.proofs.Math.ListN.{get_or-eq_default}
use Rattle.std.proofs.Math.IntN.{nat_abs}
use Rattle.rules.specs.declared.Size.{Size}
use Rattle.rules.specs.Document.Pyramid.{legal_size, area, levels, level_of, magnitude, negative, most_planes, below0}
use Rattle.rules.specs.Document.Passes.{PartName, signed}
use Rattle.rules.specs.Document.Layout.{CodedPart, parts_with, part_bytes, usable, reached}
use Rattle.rules.specs.Document.Calls.{Picture, accepted, decoding}
use Rattle.rules.proofs.Laws.Counting.Booleans.{clash}
use Rattle.rules.specs.Promises.Vocabulary.{present, header_of, Stated, names, kept, head_bytes, whole_in, tail_in, cut_in, arrived, toward_zero, NoWorse}
use Rattle.rules.proofs.Laws.Calls.Results.{accepted_same}
use Rattle.rules.proofs.Laws.Reading.Parts.{present_append}
use Rattle.rules.proofs.Laws.Reading.Usable.{reached_more}
use Rattle.rules.specs.Laws.Bytes.RecordBack.{before_all}
use Rattle.rules.proofs.Laws.Rounding.TowardZero.{signed_magnitude, signed_sign, toward_falls}
use Rattle.rules.proofs.Laws.Rounding.Arrival.{arrived_selection, legal_order}
use Rattle.rules.proofs.Laws.Rounding.Run.{kept_legal, run_of, onward_accepts}
use Rattle.rules.specs.Laws.Rounding.CutRun.{bits_held_in}
use Rattle.rules.proofs.Laws.Rounding.CutRun.{drawn_by, drawn_by_length, CutUsed, Prints, as_whole, with_cut, cut_between, comes}
use Rattle.rules.proofs.Laws.Rounding.CutRun.{first_plane, second_plane, first_either, second_lower, first_value, second_value}

-- Two cuts of the same parts: both in one part, or the part that was cut first is whole in what is longer.
data Further (n₁ n₂ : ℕ) (ps : List CodedPart) : Type 0 where
  within : whole_in n₁ ps ≡ whole_in n₂ ps → tail_in n₁ ps ≤ tail_in n₂ ps → ((q : CodedPart) → cut_in n₁ ps ≡ q ∷ [] → cut_in n₂ ps ≡ q ∷ [])
      → Further n₁ n₂ ps
  beyond : (q : CodedPart) (more : List CodedPart) → whole_in n₂ ps ≡ whole_in n₁ ps ++ q ∷ more → ((p : CodedPart) → cut_in n₁ ps ≡ p ∷ [] → p ≡ q)
      → Further n₁ n₂ ps

further : (ps : List CodedPart) (n₁ n₂ : ℕ) → n₁ ≤ n₂ → Further n₁ n₂ ps
unfolding whole_in tail_in cut_in
further [] n₁ n₂ l = within refl (omega arith) (λ q e. e)
further (p ∷ ps) n₁ n₂ l = by (leb len n₁) refl (leb len n₂) refl (further ps (n₁ - len) (n₂ - len) (omega arith))
  where
    len : ℕ
    len = length (part_bytes p)

    head : ℕ
    head = length (head_bytes p)

    by : (a : Bool) → leb len n₁ ≡ a → (b : Bool) → leb len n₂ ≡ b → Further (n₁ - len) (n₂ - len) ps → Further n₁ n₂ (p ∷ ps)
    by true e false f r = absurd (omega (arith, leb-true len n₁ e, leb-false len n₂ f))
    by true e true f (within w t c) = within (rw (e, f) (ap (λ x. p ∷ x) w)) (rw (e, f) t) (rw (e, f) c)
    by true e true f (beyond q more w c) = beyond q more (rw (e, f) (ap (λ x. p ∷ x) w)) (rw e c)
    by false e false f r = within (rw (e, f)) (rw (e, f) l) (rw (e, f) (head_stays (leb head n₁) refl))
      where
        head_stays : (a : Bool) → leb head n₁ ≡ a → (q : CodedPart) → cond a (p ∷ []) [] ≡ q ∷ [] → cond (leb head n₂) (p ∷ []) [] ≡ q ∷ []
        head_stays false i q g = absurd (clash (cc))
        head_stays true i q g = rw (le-leb head n₂ (omega (arith, leb-true head n₁ i))) g
    by false e true f r = beyond p (whole_in (n₂ - len) ps) (rw (e, f)) (rw e (one (leb head n₁)))
      where
        one : (a : Bool) (q : CodedPart) → cond a (p ∷ []) [] ≡ q ∷ [] → q ≡ p
        one false q g = absurd (clash (cc))
        one true q g = cc

-- What is there stays there where more parts come behind.
names_more : (ps more : List CodedPart) (q : CodedPart) (p : PartName) → present (names ps ++ (q.name ∷ [])) p ≡ true
    → present (names (ps ++ q ∷ more)) p ≡ true
names_more ps more q p h =
    ap (λ l. present l p) (map-append (λ x. x.name) ps (q ∷ more) ∙ sym (append_assoc (names ps) (q.name ∷ []) (names more)))
    ∙ present_append (names ps ++ (q.name ∷ [])) (names more) p ∙ rw h

module _ (z : Size) (ok : legal_size z ≡ true) (planes : ℕ) (few : planes ≤ most_planes) (pyramid : List ℤ)
    (small : (q : ℕ) → magnitude pyramid q < 2 ^ planes) where
  abbrev reaches : List PartName → ℕ → ℕ
  reaches there q = reached (levels z) planes there (level_of z q)

  abbrev value : ℕ → ℕ → ℤ
  value q m = signed (negative pyramid q) (toward_zero m (magnitude pyramid q))

  reaches_more : (there : List PartName) (x : PartName) (q : ℕ) → reaches (there ++ (x ∷ [])) q ≤ reaches there q
  reaches_more there x q = reached_more (levels z) planes there (there ++ (x ∷ [])) (λ p h. present_append there (x ∷ []) p ∙ rw h) (level_of z q)

  -- Where a coefficient is rounded in a pyramid that is printed: at the plane that its level reached or lower, and not lower than with x, if x is
  -- the part that is cut.
  record PlaneAt (ps : List CodedPart) (n : ℕ) (w : List ℤ) (q : ℕ) : Type 0 where
    plane : ℕ
    valued : get_or w q (pos 0) ≡ value q plane
    under : plane ≤ reaches (names (whole_in n ps)) q
    over : (x : CodedPart) → ((p : CodedPart) → cut_in n ps ≡ p ∷ [] → p ≡ x) → reaches (names (whole_in n ps) ++ (x.name ∷ [])) q ≤ plane

  plane_at : (ps : List CodedPart) (n : ℕ) (w : List ℤ) → Prints z ok planes few pyramid small ps n w → (q : ℕ) → q < area z → PlaneAt ps n w q
  plane_at ps n w (as_whole u) q l =
      let there : List PartName = names (whole_in n ps) in
      record {
        plane = reaches there q;
        valued = (run_of z ok planes few pyramid small there).value q l;
        under = omega arith;
        over = λ x e. reaches_more there x.name q;
      }
  plane_at ps n w (with_cut y e k) q l =
      let there : List PartName = names (whole_in n ps) in
      let B = cut_between z ok planes few pyramid small there y k (tail_in n ps) (tail_in n ps) q (omega arith) in
      let r : ℕ = reaches there q in
      let r' : ℕ = reaches (there ++ (y.name ∷ [])) q in
      let lower : r' ≤ r = reaches_more there y.name q in
      record {
        plane = first_plane B r r';
        valued = first_value (value q) r r' ((run_of z ok planes few pyramid small there).value q l)
            ((run_of z ok planes few pyramid small (there ++ (y.name ∷ []))).value q l) B;
        under = first_either (λ m. m ≤ r) r r' (omega arith) lower B;
        over = λ x i.
            subst (λ (p : CodedPart). reaches (there ++ (p.name ∷ [])) q ≤ first_plane B r r') (i y e)
            (first_either (λ m. r' ≤ m) r r' lower (omega arith) B);
      }

  -- A coefficient in two pyramids, rounded in the second at no higher plane.
  record Grown (w₁ w₂ : List ℤ) (q : ℕ) : Type 0 where
    first : ℕ
    second : ℕ
    valued₁ : get_or w₁ q (pos 0) ≡ value q first
    valued₂ : get_or w₂ q (pos 0) ≡ value q second
    falls : second ≤ first

  bits_more : (x : CodedPart) (t u : ℕ) → t ≤ u → bits_held_in t x ≤ bits_held_in u x
  unfolding bits_held_in
  bits_more x t u l = omega arith

  cut_grown : (there : List PartName) (x : CodedPart) → CutUsed z ok planes few pyramid small there x → (t u : ℕ) → t ≤ u → (q : ℕ) → q < area z
      → Grown (drawn_by z ok planes few pyramid small there x t) (drawn_by z ok planes few pyramid small there x u) q
  cut_grown there x k t u i q l =
      let B = cut_between z ok planes few pyramid small there x k t u q (bits_more x t u i) in
      let r : ℕ = reaches there q in
      let r' : ℕ = reaches (there ++ (x.name ∷ [])) q in
      let old = (run_of z ok planes few pyramid small there).value q l in
      let new = (run_of z ok planes few pyramid small (there ++ (x.name ∷ []))).value q l in
      record {
        first = first_plane B r r';
        second = second_plane B r r';
        valued₁ = first_value (value q) r r' old new B;
        valued₂ = second_value (value q) r r' old new B;
        falls = second_lower B r r' (reaches_more there x.name q);
      }

  module _ (ps : List CodedPart) (n₁ n₂ : ℕ) (q : ℕ) (l : q < area z) where
    -- both cuts in one part
    within_grown : (w₁ w₂ : List ℤ) → Prints z ok planes few pyramid small ps n₁ w₁ → Prints z ok planes few pyramid small ps n₂ w₂
        → whole_in n₁ ps ≡ whole_in n₂ ps → tail_in n₁ ps ≤ tail_in n₂ ps → ((x : CodedPart) → cut_in n₁ ps ≡ x ∷ [] → cut_in n₂ ps ≡ x ∷ [])
        → Grown w₁ w₂ q
    within_grown w₁ w₂ (as_whole u) p₂ e t c =
        let a : PlaneAt ps n₂ w₂ q = plane_at ps n₂ w₂ p₂ q l in
        record {
          first = reaches (names (whole_in n₁ ps)) q;
          second = a.plane;
          valued₁ = (run_of z ok planes few pyramid small (names (whole_in n₁ ps))).value q l;
          valued₂ = a.valued;
          falls = omega (arith, a.under, ap (λ x. reaches (names x) q) e);
        }
    within_grown w₁ w₂ (with_cut x f k) (as_whole u) e t c =
        absurd (u x (c x f) (subst (λ y. usable (levels z) planes (names y ++ (x.name ∷ [])) x.name ≡ true) e k.usable_with))
    within_grown w₁ w₂ (with_cut x f k) (with_cut y g m) e t c =
        let both : x ∷ [] ≡ y ∷ [] = sym (c x f) ∙ g in
        let same : x ≡ y = cc in
        subst (λ (p : CodedPart). Grown (drawn_by z ok planes few pyramid small (names (whole_in n₁ ps)) x (tail_in n₁ ps))
        (drawn_by z ok planes few pyramid small (names (whole_in n₂ ps)) p (tail_in n₂ ps)) q) same
        (subst (λ (there : List CodedPart). Grown (drawn_by z ok planes few pyramid small (names (whole_in n₁ ps)) x (tail_in n₁ ps))
        (drawn_by z ok planes few pyramid small (names there) x (tail_in n₂ ps)) q) e
        (cut_grown (names (whole_in n₁ ps)) x k (tail_in n₁ ps) (tail_in n₂ ps) t q l))

    prints_grown : (w₁ w₂ : List ℤ) → Prints z ok planes few pyramid small ps n₁ w₁ → Prints z ok planes few pyramid small ps n₂ w₂ → Further n₁ n₂ ps
        → Grown w₁ w₂ q
    prints_grown w₁ w₂ p₁ p₂ (within e t c) = within_grown w₁ w₂ p₁ p₂ e t c
    prints_grown w₁ w₂ p₁ p₂ (beyond x more e c) =
        let a : PlaneAt ps n₁ w₁ q = plane_at ps n₁ w₁ p₁ q l in
        let b : PlaneAt ps n₂ w₂ q = plane_at ps n₂ w₂ p₂ q l in
        let later : reaches (names (whole_in n₁ ps ++ x ∷ more)) q ≤ reaches (names (whole_in n₁ ps) ++ (x.name ∷ [])) q
        = reached_more (levels z) planes _ _ (names_more (whole_in n₁ ps) more x) (level_of z q) in
        record {
          first = a.plane;
          second = b.plane;
          valued₁ = a.valued;
          valued₂ = b.valued;
          falls = omega (arith, a.over x c, b.under, later, ap (λ y. reaches (names y) q) e);
        }

  -- So no magnitude falls and no sign turns.
  module _ (w₁ w₂ : List ℤ) (q : ℕ) (g : Grown w₁ w₂ q) where
    magnitude₁ : magnitude w₁ q ≡ toward_zero g.first (magnitude pyramid q)
    unfolding magnitude
    magnitude₁ = ap nat_abs g.valued₁ ∙ signed_magnitude (negative pyramid q) (toward_zero g.first (magnitude pyramid q))

    magnitude₂ : magnitude w₂ q ≡ toward_zero g.second (magnitude pyramid q)
    unfolding magnitude
    magnitude₂ = ap nat_abs g.valued₂ ∙ signed_magnitude (negative pyramid q) (toward_zero g.second (magnitude pyramid q))

    none_falls : magnitude w₁ q ≤ magnitude w₂ q
    none_falls = omega (arith, magnitude₁, magnitude₂, toward_falls g.second g.first (magnitude pyramid q) g.falls)

    none_turns : 1 ≤ magnitude w₁ q → negative w₁ q ≡ negative w₂ q
    unfolding negative
    none_turns some =
        let s₁ : below0 (get_or w₁ q (pos 0)) ≡ negative pyramid q
        = ap below0 g.valued₁ ∙ signed_sign (negative pyramid q) _ (omega (arith, magnitude₁)) in
        let s₂ : below0 (get_or w₂ q (pos 0)) ≡ negative pyramid q
        = ap below0 g.valued₂ ∙ signed_sign (negative pyramid q) _ (omega (arith, none_falls, magnitude₂)) in
        s₁ ∙ sym s₂

  prints_length : (ps : List CodedPart) (n : ℕ) (w : List ℤ) → Prints z ok planes few pyramid small ps n w → length w ≡ area z
  prints_length ps n w (as_whole u) = (run_of z ok planes few pyramid small (names (whole_in n ps))).sized
  prints_length ps n w (with_cut x e k) = drawn_by_length z ok planes few pyramid small (names (whole_in n ps)) x (tail_in n ps)

  prints_no_worse : (ps : List CodedPart) (n₁ n₂ : ℕ) → n₁ ≤ n₂ → (w₁ w₂ : List ℤ) → Prints z ok planes few pyramid small ps n₁ w₁
      → Prints z ok planes few pyramid small ps n₂ w₂ → NoWorse w₁ w₂
  prints_no_worse ps n₁ n₂ l w₁ w₂ p₁ p₂ =
      record {
        magnitudes = λ q. (by q (dec_lt q (area z))).0;
        signs = λ q. (by q (dec_lt q (area z))).1;
      }
    where
      past : (q : ℕ) → (q < area z → ⊥) → magnitude w₁ q ≡ 0
      past q d = unfold magnitude in ap nat_abs (get_or-eq_default w₁ (pos 0) {n = q} (omega (arith, prints_length ps n₁ w₁ p₁)))

      by : (q : ℕ) → Dec (q < area z) → (magnitude w₁ q ≤ magnitude w₂ q) × (1 ≤ magnitude w₁ q → negative w₁ q ≡ negative w₂ q)
      by q (yes i) =
          let g : Grown w₁ w₂ q = prints_grown ps n₁ n₂ q i w₁ w₂ p₁ p₂ (further ps n₁ n₂ l) in
          (none_falls w₁ w₂ q g, none_turns w₁ w₂ q g)
      by q (no d) = (omega (arith, past q d), λ some. absurd (omega (arith, past q d)))

  -- Decoding gives these pyramids.
  module _ (keep : PartName → Bool) (room work : ℕ) (sizes : Stated z room work) where
    printed_is : (n : ℕ) (x : Picture) → decoding (arrived z planes (kept keep (parts_with z planes pyramid)) n) room work ≡ accepted x
        → (comes z ok planes few pyramid small keep n).onward.printed ≡ x.pyramid
    printed_is n x e =
        let ps : List CodedPart = kept keep (parts_with z planes pyramid) in
        let some : (left : PartName → Bool) × (kept left (parts_with z planes pyramid) ≡ whole_in n ps)
        = arrived_selection keep n (before_all planes) (parts_with z planes pyramid)
        (legal_order (header_of z planes) (before_all planes) ps (kept_legal z ok planes pyramid keep)) in
        let same = onward_accepts z ok planes few pyramid small some.0 (whole_in n ps) some.1 (comes z ok planes few pyramid small keep n).onward
        room work sizes in
        ap (λ (y : Picture). y.pyramid) (accepted_same (sym same ∙ e))

    pub arrived_no_worse : (n₁ n₂ : ℕ) → n₁ ≤ n₂ → (x₁ x₂ : Picture)
        → decoding (arrived z planes (kept keep (parts_with z planes pyramid)) n₁) room work ≡ accepted x₁
        → decoding (arrived z planes (kept keep (parts_with z planes pyramid)) n₂) room work ≡ accepted x₂ → NoWorse x₁.pyramid x₂.pyramid
    arrived_no_worse n₁ n₂ l x₁ x₂ e₁ e₂ =
        let c₁ = comes z ok planes few pyramid small keep n₁ in
        let c₂ = comes z ok planes few pyramid small keep n₂ in
        subst₂ NoWorse (printed_is n₁ x₁ e₁) (printed_is n₂ x₂ e₂)
        (prints_no_worse (kept keep (parts_with z planes pyramid)) n₁ n₂ l c₁.onward.printed c₂.onward.printed c₁.prints c₂.prints)
