-- What runs of stores make of a level: its blocks placed, its words copied or zeroed, its values laid out; and all else as it was.
use mathlib.Core.Path.{◌≡◌, refl, sym, ap, ap₂, ◌∙◌}
use mathlib.Core.Logic.{◌≢◌}
use mathlib.Core.List.{List}
use Prim.Native.Nat.{ℕ, zero, suc, ◌+◌, ◌-◌, ◌*◌, ◌/◌, ◌%◌, ◌≤◌, ◌<◌}
use native.Mathlib.Omega.{arith}
use native.Mathlib.Decide.{dec_lt, ℕ_discrete}
use lib.ListN.{get_or}
use lib.IntN.{ℤ, pos}
use Rattle.rules.specs.declared.Size.{Size}
use Rattle.rules.specs.Document.Pyramid.{area, levels, level_of}
use Rattle.rules.specs.Promises.Vocabulary.{Legal}
use Rattle.rules.specs.Laws.Family.Sizes.{level_start, level_size}
use Rattle.rules.proofs.Laws.Family.Sizes.{level_start_fine, level_start_top}
use Rattle.rules.proofs.Laws.Offspring.Level.{level_area}
use Rattle.trees.specs.Places.{raster_of, tree_of}
use Rattle.trees.proofs.Places.{raster_level, raster_one, band_level_tree, raster_tree, tree_raster}
use Rattle.trees.specs.Family.{tree_level, coefficient_of}
use Rattle.trees.proofs.Family.{coefficient_fine, level_same}
use Rattle.trees.specs.Run.{number_of}
use Rattle.trees.proofs.Run.{number_fine, number_coefficient, coefficient_number, coefficient_under, number_level, number_area}
use Rattle.coefficients.specs.Words.{worded, value_of}
use Rattle.stretches.specs.Cut.{maxima_from}
use Rattle.stretches.specs.Workspace.{word_in}
use Rattle.stretches.specs.Levels.{words_from, blocks_from, level_before, level_blocks, Numbered, numbered, word_level, word_place_lem, word_numbered}
use Rattle.stretches.specs.Levels.{next_size, maximum_place}
use Rattle.placing.specs.Stores.{Put, Apart, Under, corner_of}
use Rattle.placing.specs.Placing.{BlocksOf, LevelPlaced, LevelCopied, LevelLaid}
use Rattle.placing.proofs.Grid.{raster_corner, raster_under}

module _ (z : Size) (Z : Legal z) where
  -- a place in the stretch of level k
  abbrev In : ℕ → ℕ → Type 0
  In k p = (4 * level_start z k ≤ p) × (p < 4 * level_start z k + 4 * level_size z k)

  stretches_apart : (j k p q : ℕ) → 1 ≤ j → j ≤ levels z → 1 ≤ k → k ≤ levels z → j ≢ k → In j p → In k q → p ≢ q
  stretches_apart j k p q a b c d f x y e = go (dec_lt j k)
    where
      go : Dec (j < k) → ⊥
      go (yes l) = omega (arith, level_before z Z k j a l d, x.0, x.1, y.0, y.1)
      go (no l) = let i : k < j = omega arith in omega (arith, level_before z Z j k c i b, x.0, x.1, y.0, y.1)

  -- where words and blocks stand in it
  abbrev word_place : ℕ → ℕ
  word_place x = words_from z (tree_level z x) + (x - level_start z (tree_level z x))

  word_in_lem : (x : ℕ) → x < area z → In (tree_level z x) (word_place x)
  word_in_lem x h = (omega arith, omega (arith, (numbered z Z x h).under))

  block_in : (k b : ℕ) → b < level_size z k / 4 → In k (blocks_from z k + b)
  unfolding blocks_from maxima_from
  block_in k b h = (omega arith, omega arith)

  -- words among the words of level k, or blocks among its blocks
  abbrev Among : ℕ → ℕ → ℕ → Type 0
  Among from n p = (from ≤ p) × (p < from + n)

  word_block : (k x p : ℕ) → 1 ≤ k → k ≤ levels z → x < area z → Among (blocks_from z k) (level_size z k / 4) p → word_place x ≢ p
  unfolding blocks_from maxima_from
  word_block k x p a b h i e = go (ℕ_discrete (tree_level z x) k)
    where
      N : Numbered z Z x
      N = numbered z Z x h

      own : In k p
      own = (omega (arith, i.0), omega (arith, i.1))

      go : Dec (tree_level z x ≡ k) → ⊥
      go (no d) = stretches_apart (tree_level z x) k (word_place x) p N.some N.most a b d (word_in_lem x h) own e
      go (yes g) =
          let s : level_start z (tree_level z x) ≡ level_start z k = ap (level_start z) g in
          let n : level_size z (tree_level z x) ≡ level_size z k = ap (level_size z) g in
          omega (arith, i.0, N.under)

  block_word : (j k c p : ℕ) → 1 ≤ j → j ≤ levels z → 1 ≤ k → k ≤ levels z → c < level_size z j / 4 → Among (words_from z k) (level_size z k) p
      → blocks_from z j + c ≢ p
  unfolding blocks_from maxima_from
  block_word j k c p l m a b h i e = go (ℕ_discrete j k)
    where
      go : Dec (j ≡ k) → ⊥
      go (no d) = stretches_apart j k (blocks_from z j + c) p l m a b d (block_in j c h) (i.0, omega (arith, i.1)) e
      go (yes s) =
          let u : level_start z j ≡ level_start z k = ap (level_start z) s in
          let n : level_size z j ≡ level_size z k = ap (level_size z) s in
          omega (arith, i.1)

  -- Blocks of level k stored: its own stand, and all else as it was.
  module _ (k : ℕ) (a : 1 ≤ k) (b : k ≤ z.n) where
    pub level_placed : {n : ℕ} {v : ℕ → ℕ} {work work' : List ℕ} → Put 0 (λ t. blocks_from z k + t) n v work work' → n ≡ level_size z k / 4
        → ((t : ℕ) → t < n → v t ≡ raster_of z k (4 * t)) → LevelPlaced z k work work'
    level_placed {n} {v} {work} {work'} H e i =
        record {
          same = H.same;
          words =
              λ x h.
              word_numbered z Z work' x h
              ∙ H.others (word_place x) (λ t l. word_block k x (blocks_from z k + t) a (omega arith) h (omega arith, omega arith))
              ∙ sym (word_numbered z Z work x h);
          own = record { at = λ c h. maximum_place z Z work' k c h ∙ H.put c (omega arith) ∙ i c (omega arith) };
          others =
              λ j l m f B.
              record {
                at =
                    λ c h.
                    maximum_place z Z work' j c h
                    ∙ H.others (blocks_from z j + c)
                    (λ t y. stretches_apart j k (blocks_from z j + c) (blocks_from z k + t) l (omega arith) a (omega arith) f (block_in j c h)
                    (block_in k t (omega arith)))
                    ∙ sym (maximum_place z Z work j c h)
                    ∙ B.at c h;
              };
        }

    block_place : {work : List ℕ} → BlocksOf z k work → (c : ℕ) → c < level_size z k / 4 → get_or work (blocks_from z k + c) 0 ≡ raster_of z k (4 * c)
    block_place {work} B c h = sym (maximum_place z Z work k c h) ∙ B.at c h

    -- the coefficient t of the level, from the block that it is in
    pub corner_place : {work : List ℕ} → BlocksOf z k work → (t : ℕ) → t < level_size z k
        → corner_of z.w (get_or work (blocks_from z k + t / 4) 0) (t % 4) ≡ raster_of z k t
    corner_place {work} B t h =
        let c : t / 4 < level_size z k / 4 = omega (arith, level_blocks z Z k a (omega arith)) in
        ap (λ (p : ℕ). corner_of z.w p (t % 4)) (block_place B (t / 4) c)
        ∙ sym (raster_corner z k (t / 4) (t % 4) b (omega arith))
        ∙ ap (raster_of z k) (omega arith)

  pub blocks_next : (k : ℕ) → 1 ≤ k → k < z.n → level_size z k / 4 ≡ 4 * (level_size z (suc k) / 4)
  blocks_next k a b =
      let e : level_size z k ≡ 4 * level_size z (suc k) = ap (level_size z) (omega arith) ∙ next_size z Z (suc k) (omega arith) b in
      omega (arith, level_blocks z Z (suc k) (omega arith) (omega arith))

  pub blocks_under : (k : ℕ) (a : 1 ≤ k) (b : k < z.n) {work work' : List ℕ} {n : ℕ} → BlocksOf z (suc k) work → n ≡ level_size z (suc k) / 4
      → Put 0 (λ t. blocks_from z k + t) (4 * n) (λ t. 2 * corner_of z.w (get_or work (blocks_from z (suc k) + t / 4) 0) (t % 4)) work work'
      → LevelPlaced z k work work'
  blocks_under k a b {work} {work'} {n} B e H =
      level_placed k a (omega arith) H (omega (arith, blocks_next k a b))
      (λ t h.
      ap (λ (p : ℕ). 2 * p) (corner_place (suc k) (omega arith) b B t (omega (arith, level_blocks z Z (suc k) (omega arith) (omega arith))))
      ∙ sym (raster_under z k t b))

  -- Words of level k stored.
  module _ (k : ℕ) (a : 1 ≤ k) (b : k ≤ levels z) where
    pub level_copied : {P : ℕ → ℕ} {n : ℕ} {v : ℕ → ℕ} {work work' : List ℕ} {pyramid : List ℤ} → Put 0 P n v work work'
        → ((t : ℕ) → t < n → Among (words_from z k) (level_size z k) (P t))
        → ((x : ℕ) → x < area z → tree_level z x ≡ k → word_in z work' x ≡ worded (get_or pyramid (coefficient_of z x) (pos 0)))
        → LevelCopied pyramid z k work work'
    level_copied {P} {n} {v} {work} {work'} H i w =
        record {
          same = H.same;
          own = w;
          others =
              λ x h e.
              let N : Numbered z Z x = numbered z Z x h in
              word_numbered z Z work' x h
              ∙ H.others (word_place x)
              (λ t l. stretches_apart (tree_level z x) k (word_place x) (P t) N.some N.most a b e (word_in_lem x h)
              ((i t l).0, omega (arith, (i t l).1)))
              ∙ sym (word_numbered z Z work x h);
          blocks =
              λ B.
              record {
                of =
                    λ j l m.
                    record {
                      at =
                          λ c h.
                          maximum_place z Z work' j c h
                          ∙ H.others (blocks_from z j + c) (λ t y. block_word j k c (P t) l (omega arith) a b h (i t y))
                          ∙ sym (maximum_place z Z work j c h)
                          ∙ (B.of j l m).at c h;
                    };
              };
        }

  -- The words of level k, 1 to N, from the blocks.
  pub words_copied : (k : ℕ) → 1 ≤ k → k ≤ z.n → {n : ℕ} {work work' : List ℕ} {pyramid : List ℤ} → BlocksOf z k work → n ≡ level_size z k / 4
      → Put 0 (λ t. words_from z k + t) (4 * n) (λ t. worded (get_or pyramid (corner_of z.w (get_or work (blocks_from z k + t / 4) 0) (t % 4)) (pos 0)))
      work work'
      → LevelCopied pyramid z k work work'
  words_copied zero a b B e H = absurd (omega arith)
  words_copied (suc k) a b {n} {work} {work'} {pyramid} B e H =
      level_copied (suc k) a (omega arith) H (λ t l. (omega arith, omega (arith, whole))) own
    where
      whole : 4 * n ≡ level_size z (suc k)
      whole = omega (arith, level_blocks z Z (suc k) a (omega arith))

      own : (x : ℕ) → x < area z → tree_level z x ≡ suc k → word_in z work' x ≡ worded (get_or pyramid (coefficient_of z x) (pos 0))
      own x h i =
          let t : ℕ = x - level_start z (suc k) in
          let u : t < level_size z (suc k) = rw i at (numbered z Z x h).under in
          word_level z Z work' (suc k) x i a
          ∙ H.put t (omega (arith, whole))
          ∙ ap (λ (q : ℕ). worded (get_or pyramid q (pos 0)))
          (corner_place (suc k) a b B t u ∙ ap (λ (y : ℕ). raster_of z (suc k) (x - y)) (level_start_fine z (suc k) b) ∙ sym (coefficient_fine z k x b i))

  -- Values of level k laid out.
  raster_of_level : (k t : ℕ) → 1 ≤ k → k ≤ levels z → t < level_size z k → level_of z (raster_of z k t) ≡ k
  raster_of_level k t a b h = go (dec_lt z.n k)
    where
      go : Dec (z.n < k) → level_of z (raster_of z k t) ≡ k
      go (no l) = raster_level z Z k t a (omega arith) h
      go (yes l) =
          let e : k ≡ levels z = omega arith in
          let s : t < level_size z (levels z) = rw e at h in
          rw e (band_level_tree z Z t s)

  pub level_apart : (k : ℕ) → 1 ≤ k → k ≤ levels z → Apart (raster_of z k) (level_size z k) (area z)
  level_apart k a b =
      record {
        inside = λ t h. level_area z Z (raster_of z k t) (omega (arith, raster_of_level k t a b h));
        one = λ t u h l e. raster_one z Z k t u a b h l e;
      }

  pub level_laid : (k : ℕ) → 1 ≤ k → k ≤ levels z → {P : ℕ → ℕ} {n : ℕ} {v : ℕ → ℤ} {work : List ℕ} {out out' : List ℤ}
      → Put (pos 0) P n v out out' → n ≡ level_size z k → ((t : ℕ) → t < n → P t ≡ raster_of z k t)
      → ((t : ℕ) → t < n → v t ≡ value_of (word_in z work (number_of z (raster_of z k t)))) → LevelLaid z k work out out'
  level_laid k a b {P} {n} {v} {work} {out} {out'} H e p w =
      record {
        same = H.same;
        own =
            λ q h i.
            let r = raster_tree z Z q h in
            let l : tree_of z q < n = omega (arith, rw i at r.0) in
            let g : raster_of z k (tree_of z q) ≡ q = rw i at r.1 in
            ap (λ (y : ℕ). get_or out' y (pos 0)) (sym (p (tree_of z q) l ∙ g))
            ∙ H.put (tree_of z q) l
            ∙ w (tree_of z q) l
            ∙ ap (λ (y : ℕ). value_of (word_in z work (number_of z y))) g;
        others = λ q h i. H.others q (λ t l g. i (ap (level_of z) (g ∙ p t l) ∙ raster_of_level k t a b (omega arith)));
      }

  -- The word of coefficient t of level k, 1 to N.
  pub word_fine : (k t : ℕ) → 1 ≤ k → k ≤ z.n → t < level_size z k → (work : List ℕ)
      → get_or work (words_from z k + t) 0 ≡ word_in z work (number_of z (raster_of z k t))
  word_fine k t a b h work =
      sym (word_place_lem z Z work k t a (omega arith) h)
      ∙ ap (word_in z work)
      (ap₂ (λ (x y : ℕ). x + y) (level_start_fine z k b) (sym (tree_raster z Z k t a (omega arith) h))
      ∙ sym (number_fine z k (raster_of z k t) (raster_level z Z k t a b h) b))

  pub values_laid : (k : ℕ) → 1 ≤ k → k ≤ z.n → {n : ℕ} {work : List ℕ} {out out' : List ℤ} → BlocksOf z k work → n ≡ level_size z k / 4
      → Put (pos 0) (λ t. corner_of z.w (get_or work (blocks_from z k + t / 4) 0) (t % 4)) (4 * n) (λ t. value_of (get_or work (words_from z k + t) 0)) out out'
      → LevelLaid z k work out out'
  values_laid k a b {n} {work} B e H =
      let whole : 4 * n ≡ level_size z k = omega (arith, level_blocks z Z k a (omega arith)) in
      level_laid k a (omega arith) H whole (λ t l. corner_place k a b B t (omega arith)) (λ t l. ap value_of (word_fine k t a b (omega arith) work))

  pub corners_in : (k : ℕ) → 1 ≤ k → k ≤ z.n → {n : ℕ} {work : List ℕ} → BlocksOf z k work → n ≡ level_size z k / 4
      → Apart (λ t. corner_of z.w (get_or work (blocks_from z k + t / 4) 0) (t % 4)) (4 * n) (area z)
  corners_in k a b {n} {work} B e =
      let whole : 4 * n ≡ level_size z k = omega (arith, level_blocks z Z k a (omega arith)) in
      let A = level_apart k a (omega arith) in
      record {
        inside = λ t h. omega (arith, corner_place k a b B t (omega arith), A.inside t (omega arith));
        one =
            λ t u h l i.
            A.one t u (omega arith) (omega arith) (sym (corner_place k a b B t (omega arith)) ∙ i ∙ corner_place k a b B u (omega arith));
      }

  pub places_under : (k : ℕ) → 1 ≤ k → k ≤ z.n → {n : ℕ} {work : List ℕ} → BlocksOf z k work → n ≡ level_size z k / 4 → Under (area z) n work (blocks_from z k)
  places_under k a b {n} {work} B e =
      record {
        under =
            λ c h.
            let i : c < level_size z k / 4 = omega arith in
            omega (
              arith,
              block_place k a b B c i,
              (level_apart k a (omega arith)).inside (4 * c) (omega (arith, level_blocks z Z k a (omega arith))),
            );
      }

  -- The LL band: its numbers are where its words stand.
  module _ (q : ℕ) (h : q < area z) (e : level_of z q ≡ levels z) where
    number_in : number_of z q < level_size z (levels z)
    number_in =
        let i : tree_level z (number_of z q) ≡ levels z = number_level z Z q h ∙ e in
        let u : number_of z q - level_start z (levels z) < level_size z (levels z) = rw i at (numbered z Z (number_of z q) (number_area z Z q h)).under in
        omega (arith, level_start_top z)

    pub word_band : (work : List ℕ) → get_or work (number_of z q) 0 ≡ word_in z work (number_of z q)
    word_band work =
        let s = level_start_top z in
        sym (ap (word_in z work) (omega arith) ∙ word_place_lem z Z work (levels z) (number_of z q) (omega arith) (omega arith) number_in
        ∙ ap (λ (p : ℕ). get_or work p 0) (omega arith))

  pub band_apart : {m : ℕ} → area z ≤ m → Apart (λ t. number_of z (raster_of z (levels z) t)) (level_size z (levels z)) m
  band_apart {m} h =
      let A = level_apart (levels z) (omega arith) (omega arith) in
      record {
        inside = λ t l. omega (arith, number_area z Z (raster_of z (levels z) t) (A.inside t l));
        one =
            λ t u l k e.
            A.one t u l k (sym (coefficient_number z Z _ (A.inside t l)) ∙ ap (coefficient_of z) e ∙ coefficient_number z Z _ (A.inside u k));
      }

  pub band_laid : {n : ℕ} {work : List ℕ} {out out' : List ℤ} → n ≡ level_size z (levels z)
      → Put (pos 0) (raster_of z (levels z)) n (λ t. value_of (get_or work (number_of z (raster_of z (levels z) t)) 0)) out out'
      → LevelLaid z (levels z) work out out'
  band_laid {n} {work} e H =
      level_laid (levels z) (omega arith) (omega arith) H e (λ t l. refl)
      (λ t l.
      ap value_of (word_band (raster_of z (levels z) t) ((level_apart (levels z) (omega arith) (omega arith)).inside t (omega arith))
      (raster_of_level (levels z) t (omega arith) (omega arith) (omega arith)) work))

  pub band_copied : {n : ℕ} {work work' : List ℕ} {pyramid : List ℤ} → n ≡ level_size z (levels z)
      → Put 0 (λ t. number_of z (raster_of z (levels z) t)) n (λ t. worded (get_or pyramid (raster_of z (levels z) t) (pos 0))) work work'
      → LevelCopied pyramid z (levels z) work work'
  band_copied {n} {work} {work'} {pyramid} e H =
      level_copied (levels z) (omega arith) (omega arith) H
      (λ t l. (
        omega (arith, level_start_top z),
        omega (
          arith,
          level_start_top z,
          number_in (raster_of z (levels z) t) (A.inside t (omega arith))
              (raster_of_level (levels z) t (omega arith) (omega arith) (omega arith)),
        ),
      ))
      own
    where
      A : Apart (raster_of z (levels z)) (level_size z (levels z)) (area z)
      A = level_apart (levels z) (omega arith) (omega arith)

      own : (x : ℕ) → x < area z → tree_level z x ≡ levels z → word_in z work' x ≡ worded (get_or pyramid (coefficient_of z x) (pos 0))
      own x h i =
          let q : ℕ = coefficient_of z x in
          let v : level_of z q ≡ levels z = level_same z Z x ∙ i in
          let r = raster_tree z Z q ((coefficient_under z Z x).0 h) in
          let l : tree_of z q < n = omega (arith, rw v at r.0) in
          let g : raster_of z (levels z) (tree_of z q) ≡ q = rw v at r.1 in
          let s = level_start_top z in
          word_level z Z work' (levels z) x i (omega arith)
          ∙ ap (λ (p : ℕ). get_or work' p 0) (omega (arith, ap (number_of z) g ∙ number_coefficient z Z x h))
          ∙ H.put (tree_of z q) l
          ∙ ap (λ (y : ℕ). worded (get_or pyramid y (pos 0))) g
