-- What the theory needs of a family, in one record. Levels are part levels and not depths: where coarser levels are merged into one, offspring
-- are of their parent's own level, so no field says that a level falls. A mask takes nothing out of a family: inside or not is a weight.
use Rattle.std.specs.Prelude.{◌≡◌, true, false, ◌≢◌, length, eqb}
use Rattle.std.proofs.Math.Path.{refl, ap}
use Rattle.std.proofs.Common.{sym, ◌∙◌, arith}
use mathlib.Core.List.{List, [], ◌∷◌}
use Prim.Native.Nat.{ℕ, suc, ◌+◌, ◌≤◌}
use borrow.Author.Tests.{eqb-true, eqb-false, eq-eqb}
use Rattle.rules.specs.Document.Notation.{flat}
use Rattle.rules.specs.Document.Pyramid.{Family}
use Rattle.rules.specs.Document.Passes.{Entry, typeA, typeB, members, in_level, opened, added}
use Rattle.rules.specs.Laws.Counting.Sums.{sum, is, ◌∈◌, Every}
use Rattle.rules.proofs.Laws.Counting.Sums.{sum_append, in_flat, flat_in, sum_flat, sum-map, sum_if_any, in_some, some_in}
use Rattle.rules.proofs.Laws.Counting.Sums.{any_true, any_false, any_at}
use Rattle.rules.specs.Laws.Family.Lawful.{Lawful, UpTo}

module _ (F : Family) where
  pub level_test : (k q : ℕ) (e : Entry) → q ∈ members F e → F.level q ≡ k → in_level F k e ≡ true
  unfolding in_level
  level_test k q e i h = any_at _ (members F e) q i (eq-eqb (F.level q) k h)

  pub level_some : (k : ℕ) (e : Entry) → in_level F k e ≡ true → (q : ℕ) × (q ∈ members F e) × (F.level q ≡ k)
  unfolding in_level
  level_some k e h =
      let w : (q : ℕ) × (q ∈ members F e) × (eqb (F.level q) k ≡ true) = any_true _ (members F e) h in
      (w.0, w.1, eqb-true _ _ w.2)

  pub level_none : (k : ℕ) (e : Entry) → in_level F k e ≡ false → Every (λ q. F.level q ≢ k) (members F e)
  unfolding in_level
  level_none k e h q i = eqb-false _ _ (any_false _ (members F e) h q i)

module _ (F : Family) (L : Lawful F) where
  pub offspring_descend : (p r : ℕ) → r ∈ F.offspring p → r ∈ F.descendants p
  offspring_descend p r i = rw (L.unfolds p) (omega (arith, sum_append (is r) (F.offspring p) (flat F.descendants (F.offspring p))))

  pub further_descend : (p r q : ℕ) → r ∈ F.offspring p → q ∈ F.descendants r → q ∈ F.descendants p
  further_descend p r q i j =
      let l : List ℕ = flat F.descendants (F.offspring p) in
      rw (L.unfolds p) (omega (arith, sum_append (is q) (F.offspring p) l, in_flat F.descendants (F.offspring p) r q i j))

  -- Who has descendants has offspring.
  pub offspring_some : (p q : ℕ) → q ∈ F.descendants p → (r : ℕ) × (r ∈ F.offspring p)
  unfolding flat
  offspring_some p q i = go (F.offspring p) refl
    where
      go : (rs : List ℕ) → F.offspring p ≡ rs → (r : ℕ) × (r ∈ F.offspring p)
      go [] e = let n : F.descendants p ≡ [] = L.unfolds p ∙ rw e in absurd (omega (arith, in_some q [] (rw n at i)))
      go (r ∷ rs) e = some_in (F.offspring p) (rw e (omega arith))

  -- A member of L descends from an offspring, and so does an offspring of that one.
  pub grandchild : (p q : ℕ) → q ∈ members F (typeB p) → (r : ℕ) × (r ∈ F.offspring p) × (q ∈ F.descendants r) × ((t : ℕ) × (t ∈ F.offspring r))
  unfolding members
  grandchild p q i =
      let w : (r : ℕ) × (r ∈ F.offspring p) × (q ∈ F.descendants r) = flat_in F.descendants (F.offspring p) q i in
      (w.0, w.1, w.2, offspring_some w.0 q w.2)

  pub grandchild_in : (p r t : ℕ) → r ∈ F.offspring p → t ∈ F.offspring r → t ∈ members F (typeB p)
  unfolding members
  grandchild_in p r t i j = in_flat F.descendants (F.offspring p) r t i (offspring_descend r t j)

  -- The members of a set are the coefficients it opens into and the members of the sets that are added for it.
  pub set_splits : (w : ℕ → ℕ) (e : Entry) → sum w (members F e) ≡ sum w (opened F e) + sum (λ d. sum w (members F d)) (added F e)
  unfolding sum members opened added
  set_splits w (typeA p) =
      let l : List ℕ = flat F.descendants (F.offspring p) in
      ap (sum w) (L.unfolds p) ∙ sum_append w (F.offspring p) l
      ∙ ap (λ (x : ℕ). sum w (F.offspring p) + x) (sym (sum_if_any (λ d. sum w (members F d)) l (typeB p) (λ e. rw e)))
  set_splits w (typeB p) = omega (arith, sum_flat w F.descendants (F.offspring p), sum-map (λ d. sum w (members F d)) typeA (F.offspring p))

  -- A set of type A that is opened in level k has its offspring there.
  pub opened_level : (k p : ℕ) → UpTo F k (typeA p) → in_level F k (typeA p) ≡ true → Every (λ r. F.level r ≡ k) (F.offspring p)
  unfolding members
  opened_level k p u h r i =
      let w : (q : ℕ) × (q ∈ F.descendants p) × (F.level q ≡ k) = level_some F k (typeA p) h in
      omega (arith, L.highest p r w.0 i w.1, w.2, u r (offspring_descend p r i))

  -- A set of type B that is opened in level k leaves sets of type A that all have members there.
  pub added_level : (k p : ℕ) → UpTo F k (typeB p) → in_level F k (typeB p) ≡ true → Every (λ s. in_level F k (typeA s) ≡ true) (F.offspring p)
  unfolding members
  added_level k p u h s i =
      let w : (q : ℕ) × (q ∈ members F (typeB p)) × (F.level q ≡ k) = level_some F k (typeB p) h in
      let g : _ = grandchild p w.0 w.1 in
      let a : (t : ℕ) × (t ∈ F.offspring s) × (F.level g.3.0 ≤ F.level t) = L.alike p g.0 s g.3.0 g.1 i g.3.1 in
      level_test F k a.0 (typeA s) (offspring_descend s a.0 a.1)
      (omega (arith, L.highest g.0 g.3.0 w.0 g.3.1 g.2, w.2, a.2, u a.0 (grandchild_in p s a.0 i a.1)))

  -- A set that leaves level j + 1 has members in level j: one of type B that was made there, and one of type A that began there.
  pub leaves_b : (j p : ℕ) → UpTo F (suc j) (typeA p) → in_level F (suc j) (typeA p) ≡ true
      → 1 ≤ length (members F (typeB p)) → in_level F (suc j) (typeB p) ≡ false
      → in_level F j (typeB p) ≡ true
  unfolding members
  leaves_b j p u h l n =
      let w : (q : ℕ) × (q ∈ members F (typeB p)) = some_in (members F (typeB p)) l in
      let g : _ = grandchild p w.0 w.1 in
      let t : ℕ = g.3.0 in
      let i : t ∈ members F (typeB p) = grandchild_in p g.0 t g.1 g.3.1 in
      let a : t ∈ F.descendants p = further_descend p g.0 t g.1 (offspring_descend g.0 t g.3.1) in
      let d : F.level t ≢ suc j = level_none F (suc j) (typeB p) n t i in
      level_test F j t (typeB p) i
      (omega (arith, opened_level (suc j) p u h g.0 g.1, L.near g.0 t g.3.1, u t a))

  pub leaves_a : (j p : ℕ) → UpTo F (suc j) (typeA p) → F.level p ≡ suc j → 1 ≤ length (F.offspring p) → in_level F (suc j) (typeA p) ≡ false
      → in_level F j (typeA p) ≡ true
  unfolding members
  leaves_a j p u e l n =
      let w : (r : ℕ) × (r ∈ F.offspring p) = some_in (F.offspring p) l in
      let i : w.0 ∈ F.descendants p = offspring_descend p w.0 w.1 in
      let d : F.level w.0 ≢ suc j = level_none F (suc j) (typeA p) n w.0 i in
      level_test F j w.0 (typeA p) i (omega (arith, L.near p w.0 w.1, u w.0 i))

  -- Nothing leaves level 1.
  pub leaves_never : (e : Entry) → UpTo F 1 e → 1 ≤ length (members F e) → in_level F 1 e ≡ true
  leaves_never e u l =
      let w : (q : ℕ) × (q ∈ members F e) = some_in (members F e) l in
      level_test F 1 w.0 e w.1 (omega (arith, u w.0 w.1, low e w.0 w.1))
    where
      low : (e : Entry) → Every (λ q. 1 ≤ F.level q) (members F e)
      low (typeA p) q i = L.from1 p q (unfold members in i)
      low (typeB p) q i = let g : _ = grandchild p q i in L.from1 g.0 q g.2
