-- What a lawful family is, renamed, is lawful: so every law of a lawful family holds of the trees.
use Rattle.std.specs.Prelude.{◌≡◌, refl, List, [], ◌∷◌, ◌++◌, map, ℕ, suc, length}
use Rattle.std.proofs.Common.{ap, ap₂, sym, ◌∙◌, subst, arith}
use Rattle.rules.specs.declared.Size.{Size}
use Rattle.rules.specs.Document.Notation.{flat}
use Rattle.rules.specs.Document.Pyramid.{Family, family}
use Rattle.rules.proofs.Laws.Counting.Booleans.{clash}
use Rattle.rules.specs.Laws.Counting.Sums.{◌∈◌}
use Rattle.rules.proofs.Laws.Counting.Sums.{every_all, all_every, all_map, map_all}
use Rattle.rules.specs.Laws.Family.Lawful.{Lawful}
use Rattle.rules.specs.Promises.Vocabulary.{Legal}
use Rattle.rules.proofs.Laws.Offspring.Kin.{offspring_level}
use Rattle.rules.proofs.Laws.Offspring.Lawful.{lawful}
use Rattle.trees.specs.Renamed.{Renames}
use Rattle.trees.proofs.Renamed.{map-append, map_length, map_flat}
use Rattle.trees.specs.Family.{trees, tree_level, tree_offspring, coefficient_of}
use Rattle.trees.proofs.Family.{level_same, trees_rename}
use Rattle.trees.proofs.Run.{coefficient_one}

module _ (f : ℕ → ℕ) where
  in_map : (x : ℕ) (xs : List ℕ) → x ∈ xs → f x ∈ map f xs
  in_map x xs i = all_every (λ y. f y ∈ map f xs) xs (map_all (λ q. q ∈ map f xs) f xs (every_all _ (map f xs) (λ q j. j))) x i

  map_in : (q : ℕ) (xs : List ℕ) → q ∈ map f xs → (x : ℕ) × (x ∈ xs) × (f x ≡ q)
  map_in q xs i =
      all_every (λ p. (x : ℕ) × (x ∈ xs) × (f x ≡ p)) (map f xs) (all_map _ f xs (every_all _ xs (λ x j. (x, j, refl)))) q i

  module _ (one : (x y : ℕ) → f x ≡ f y → x ≡ y) where
    head_same : (x y : ℕ) (xs ys : List ℕ) → f x ∷ map f xs ≡ f y ∷ map f ys → f x ≡ f y
    head_same x y xs ys e = cc

    tail_same : (x y : ℕ) (xs ys : List ℕ) → f x ∷ map f xs ≡ f y ∷ map f ys → map f xs ≡ map f ys
    tail_same x y xs ys e = cc

    map_one : (xs ys : List ℕ) → map f xs ≡ map f ys → xs ≡ ys
    map_one [] [] e = refl
    map_one [] (y ∷ ys) e = clash (cc)
    map_one (x ∷ xs) [] e = clash (cc)
    map_one (x ∷ xs) (y ∷ ys) e = ap₂ ◌∷◌ (one x y (head_same x y xs ys e)) (map_one xs ys (tail_same x y xs ys e))

    module _ (F G : Family) (R : Renames f F G) where
      child : (p r : ℕ) → r ∈ G.offspring p → f r ∈ F.offspring (f p)
      child p r i = subst (λ l. f r ∈ l) (sym (R.offspring p)) (in_map r (G.offspring p) i)

      below : (p q : ℕ) → q ∈ G.descendants p → f q ∈ F.descendants (f p)
      below p q i = subst (λ l. f q ∈ l) (sym (R.descendants p)) (in_map q (G.descendants p) i)

      unfolds_renamed : Lawful F → (p : ℕ) → G.descendants p ≡ G.offspring p ++ flat G.descendants (G.offspring p)
      unfolds_renamed L p =
          map_one _ _
          (sym (R.descendants p)
          ∙ L.unfolds (f p)
          ∙ ap (λ l. l ++ flat F.descendants l) (R.offspring p)
          ∙ ap (λ l. map f (G.offspring p) ++ l) (map_flat f f F.descendants G.descendants R.descendants (G.offspring p))
          ∙ sym (map-append f (G.offspring p) (flat G.descendants (G.offspring p))))

      pub lawful_renamed : Lawful F → Lawful G
      lawful_renamed L =
          record {
            unfolds = unfolds_renamed L;
            from1 = λ p q i. omega (arith, L.from1 (f p) (f q) (below p q i), R.level q);
            highest = λ p r q i j. omega (arith, L.highest (f p) (f r) (f q) (child p r i) (below p q j), R.level q, R.level r);
            near = λ p r i. omega (arith, L.near (f p) (f r) (child p r i), R.level p, R.level r);
            alike = λ p r s q i j k.
                let a : _ = L.alike (f p) (f r) (f s) (f q) (child p r i) (child p s j) (child r q k) in
                let t : _ = map_in a.0 (G.offspring s) (subst (λ l. a.0 ∈ l) (R.offspring s) a.1) in
                (t.0, t.1, omega (arith, a.2, R.level q, R.level t.0, ap F.level t.2));
            four = λ p r i.
                omega (arith, L.four (f p) (f r) (child p r i), ap length (R.offspring p), map_length f (G.offspring p));
          }

pub trees_lawful : (z : Size) → Legal z → Lawful (trees z)
trees_lawful z Z = lawful_renamed (coefficient_of z) (coefficient_one z Z) (family z) (trees z) (trees_rename z Z) (lawful z Z)

-- Offspring are one level under their parent.
pub tree_offspring_level : (z : Size) → Legal z → (x r : ℕ) → r ∈ tree_offspring z x → suc (tree_level z r) ≡ tree_level z x
tree_offspring_level z Z x r i =
    let c : _ = child (coefficient_of z) (coefficient_one z Z) (family z) (trees z) (trees_rename z Z) x r i in
    omega (arith, offspring_level z Z (coefficient_of z x) (coefficient_of z r) c, level_same z Z x, level_same z Z r)
