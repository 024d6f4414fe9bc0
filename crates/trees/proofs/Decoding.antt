-- Decoding by tree numbers: the values stand at their tree numbers, and what is decoded row by row is read from there.
--
--   Laid f v w                       w holds at x what v holds at f x
--   DecodedAlike f k st c d          of a part of level k, from the lists st: the same bits taken, the lists renamed, the values laid
--   onward_of F h s there p g         document 01's next part, and
--   decode_parts_of F h s there ps g   its walk over the parts, over any family
--   Same f a b                       the same progress: the lists renamed, the values laid; or the same misfit
use Rattle.std.specs.Prelude.{◌≡◌, Bool, cond, ℕ, suc, ◌^◌, ◌≤◌, ◌<◌, leb, eqb, length, get_or, set, replicate, ℤ, pos, Ok, Err}
use Rattle.std.proofs.Math.Path.{refl, ap, subst}
use Rattle.std.proofs.Common.{sym, ◌∙◌, arith, length-set, get_or-set_same, get_or-set_other}
use mathlib.Core.List.{List, [], ◌∷◌, ◌++◌}
use Rattle.std.proofs.Math.Bool.{true, false}
use Rattle.std.proofs.Math.Decide.{ℕ_discrete, dec_lt}
use Rattle.std.proofs.lemmas.List.{length-replicate, get_or-replicate}
use Rattle.std.proofs.Math.ListN.{get_or-eq_default}
use Rattle.std.proofs.Math.Seq.{set_out}
use Rattle.rules.specs.declared.Size.{Size}
use Rattle.rules.specs.declared.Header.{Header}
use Rattle.rules.specs.declared.Part.{Part}
use Rattle.rules.specs.Document.Numbers.{PartRead}
use Rattle.rules.specs.declared.Piece.TheVariants as part
use Rattle.rules.specs.Document.Pyramid.{Family, family, area, levels}
use Rattle.rules.specs.Document.Passes.{Event, to_lip, to_lsp, stays, moves, refined, Lists, pass, Side, Course}
use Rattle.rules.specs.Document.Passes.{passed, State, after, start, PartName, Reader, signed, grown, written, decoder, decoded}
use Rattle.rules.specs.Document.Layout.{bit_at, body_of, bits_there, name_of, usable}
use Rattle.rules.specs.Document.Calls.{Progress, going, unfit, used, onward, decode_parts, used_cut, tail_onward}
use Rattle.rules.specs.Promises.Vocabulary.{Legal}
use Rattle.trees.specs.Renamed.{name_event, name_state, name_side, Renames}
use Rattle.trees.proofs.Renamed.{passed_renamed, after_renamed}
use Rattle.trees.specs.Within.{Agreeing, Related}
use Rattle.trees.proofs.Within.{speaks_any, passed_speaking, after_related}
use Rattle.trees.specs.Family.{trees, coefficient_of}
use Rattle.trees.proofs.Family.{trees_rename}
use Rattle.trees.specs.Run.{number_of, tree_start}
use Rattle.trees.proofs.Run.{start_trees, coefficient_number, coefficient_under, coefficient_one}
use Rattle.trees.specs.Decoding.{Laid, DecodedAlike, onward_of, decode_parts_of, tail_onward_of, Same}

module _ (f : ℕ → ℕ) (one : (x y : ℕ) → f x ≡ f y → x ≡ y) where
  laid_set : (v w : List ℤ) (p : ℕ) (a : ℤ) → Laid f v w → Laid f (set v (f p) a) (set w p a)
  laid_set v w p a l = record { value = value; inside = inside }
    where
      inside : (x : ℕ) → (x < length (set w p a) → f x < length (set v (f p) a)) × (f x < length (set v (f p) a) → x < length (set w p a))
      inside x = rw (length-set w p a, length-set v (f p) a) (l.inside x)

      same : Dec (p < length w) → get_or (set v (f p) a) (f p) (pos 0) ≡ get_or (set w p a) p (pos 0)
      same (yes h) = get_or-set_same v (f p) a (pos 0) ((l.inside p).0 h) ∙ sym (get_or-set_same w p a (pos 0) h)
      same (no h) = rw (set_out w p a (omega arith), set_out v (f p) a (out (dec_lt (f p) (length v)))) (l.value p)
        where
          out : Dec (f p < length v) → length v ≤ f p
          out (yes g) = absurd (h ((l.inside p).1 g))
          out (no g) = omega arith

      value : (x : ℕ) → get_or (set v (f p) a) (f x) (pos 0) ≡ get_or (set w p a) x (pos 0)
      value x = go (ℕ_discrete x p)
        where
          go : Dec (x ≡ p) → get_or (set v (f p) a) (f x) (pos 0) ≡ get_or (set w p a) x (pos 0)
          go (yes e) = rw e (same (dec_lt p (length w)))
          go (no d) = get_or-set_other v (f p) (f x) a (pos 0) (λ e. d (one x p e)) ∙ l.value x ∙ sym (get_or-set_other w p x a (pos 0) d)

  written_laid : (n : ℕ) (e : Event) (v w : List ℤ) → Laid f v w → Laid f (written n (name_event f e) v) (written n e w)
  unfolding written name_event
  written_laid n (to_lip p) v w l = l
  written_laid n (to_lsp p s) v w l = laid_set v w p (signed s (2 ^ n)) l
  written_laid n (stays e) v w l = l
  written_laid n (moves e) v w l = l
  written_laid n (refined p b) v w l =
      subst (λ y. Laid f (set v (f p) (grown b (2 ^ n) y)) (set w p (grown b (2 ^ n) (get_or w p (pos 0))))) (sym (l.value p))
      (laid_set v w p (grown b (2 ^ n) (get_or w p (pos 0))) l)

  abbrev Reads : Reader → Reader → Type 0
  Reads r t = (r.taken ≡ t.taken) × Laid f r.pyramid t.pyramid

  either_laid : (b : Bool) {v v' w w' : List ℤ} → Laid f v w → Laid f v' w' → Laid f (cond b v v') (cond b w w')
  either_laid true l m = l
  either_laid false l m = m

  decoders_agree : (bit : ℕ → Bool) (there n : ℕ)
      → Agreeing (λ q. Unit {0}) (λ e. Unit {0}) (name_side f (decoder bit there n)) (decoder bit there n) Reads
  decoders_agree bit there n =
      record {
        bit = λ q i s t r. ap bit r.0;
        next = λ q i s t r. (ap suc r.0, r.1);
        noted = λ e i s t r. (r.0, rw r.0 (either_laid (leb t.taken there) (written_laid n e s.pyramid t.pyramid r.1) r.1));
      }

  module _ (F G : Family) (R : Renames f F G) where
    pub decoded_renamed : (p : PartName) (bit : ℕ → Bool) (there : ℕ) (st : State) (v w : List ℤ) → Laid f v w
        → DecodedAlike f p.level st (decoded F p bit there (name_state f st) v) (decoded G p bit there st w)
    unfolding decoded
    decoded_renamed p bit there st v w h =
        let C : Side Reader = decoder bit there p.plane in
        let r : Reader = record { taken = 0; pyramid = v } in
        let l : Lists = st p.level in
        let c : Course Reader = passed G p.level (name_side f C) l r in
        let d : Course Reader = passed G p.level C l (record { taken = 0; pyramid = w }) in
        let a : Related Reads c d =
        passed_speaking (name_side f C) C Reads (decoders_agree bit there p.plane) G p.level l (speaks_any (pass G p.level l)) r _ (refl, h) in
        subst (λ x. DecodedAlike f p.level st x d) (sym (passed_renamed f F G R p.level C l r))
        (record {
          taken = a.side.0;
          state = after_renamed f F G R p.level c st ∙ ap (name_state f) (after_related Reads p.level c d st a);
          laid = a.side.1;
        })

module _ (h : Header) (s : List ℕ) (there : List PartName) where
  pub tail_onward_of_lem : (x : PartRead) (g : Progress) → tail_onward h s there x g ≡ tail_onward_of (family h.size) h s there x g
  unfolding tail_onward tail_onward_of
  tail_onward_of_lem (Ok (part.Cut p)) (going st v) = refl
  tail_onward_of_lem (Ok (part.Cut p)) (unfit at) = refl
  tail_onward_of_lem (Ok (part.Part p)) g = refl
  tail_onward_of_lem (Ok part.Tail) g = refl
  tail_onward_of_lem (Err r) g = refl

  onward_of_lem : (p : Part) (g : Progress) → onward h s there p g ≡ onward_of (family h.size) h s there p g
  unfolding onward onward_of
  onward_of_lem p (unfit at) = refl
  onward_of_lem p (going st v) = refl

  pub decode_parts_of_lem : (ps : List Part) (g : Progress) → decode_parts h s there ps g ≡ decode_parts_of (family h.size) h s there ps g
  unfolding decode_parts decode_parts_of
  decode_parts_of_lem [] g = refl
  decode_parts_of_lem (p ∷ ps) g = ap (decode_parts h s there ps) (onward_of_lem p g) ∙ decode_parts_of_lem ps (onward_of (family h.size) h s there p g)

module _ (f : ℕ → ℕ) (one : (x y : ℕ) → f x ≡ f y → x ≡ y) (F G : Family) (R : Renames f F G)
    (h : Header) (s : List ℕ) (there : List PartName) where
  abbrev drawn : Family → Part → State → List ℤ → Course Reader
  drawn H p st v = decoded H (name_of p) (bit_at (body_of s p)) (bits_there s p) st v

  used_same : (p : Part) (st : State) (c d : Course Reader) → DecodedAlike f p.level.0 st c d → Same f (used p (name_state f st) c) (used p st d)
  unfolding used Same after
  used_same p st c d a = rw a.taken (go (eqb d.side.taken p.bits))
    where
      go : (b : Bool)
          → Same f (cond b (going (after p.level.0 c (name_state f st)) c.side.pyramid) (unfit p.place))
          (cond b (going (after p.level.0 d st) d.side.pyramid) (unfit p.place))
      go true = (a.state, a.laid)
      go false = refl

  onward_same : (p : Part) (a b : Progress) → Same f a b → Same f (onward_of F h s there p a) (onward_of G h s there p b)
  unfolding onward_of Same name_of
  onward_same p (unfit a) (unfit b) e = e
  onward_same p (unfit a) (going su w) e = absurd e
  onward_same p (going st v) (unfit b) e = absurd e
  onward_same p (going st v) (going su w) e = rw e.0 (go (usable (levels h.size) h.planes there (name_of p)))
    where
      go : (b : Bool)
          → Same f (cond b (used p (name_state f su) (drawn F p (name_state f su) v)) (going (name_state f su) v))
          (cond b (used p su (drawn G p su w)) (going su w))
      go true = used_same p su _ _ (decoded_renamed f one F G R (name_of p) (bit_at (body_of s p)) (bits_there s p) su v w e.1)
      go false = (refl, e.1)

  used_cut_same : (p : Part) (st : State) (c d : Course Reader) → DecodedAlike f p.level.0 st c d
      → Same f (used_cut h s there p (name_state f st) c) (used_cut h s there p st d)
  unfolding used_cut Same after
  used_cut_same p st c d a = rw a.taken (go (leb (bits_there s p) d.side.taken))
    where
      go : (b : Bool)
          → Same f (cond b (going (after p.level.0 c (name_state f st)) c.side.pyramid) (unfit p.place))
          (cond b (going (after p.level.0 d st) d.side.pyramid) (unfit p.place))
      go true = (a.state, a.laid)
      go false = refl

  pub tail_onward_same : (x : PartRead) (a b : Progress) → Same f a b → Same f (tail_onward_of F h s there x a) (tail_onward_of G h s there x b)
  unfolding tail_onward_of Same name_of
  tail_onward_same (Ok (part.Part p)) a b e = e
  tail_onward_same (Ok part.Tail) a b e = e
  tail_onward_same (Err r) a b e = e
  tail_onward_same (Ok (part.Cut p)) (unfit a) (unfit b) e = e
  tail_onward_same (Ok (part.Cut p)) (unfit a) (going su w) e = absurd e
  tail_onward_same (Ok (part.Cut p)) (going st v) (unfit b) e = absurd e
  tail_onward_same (Ok (part.Cut p)) (going st v) (going su w) e =
      rw e.0 (go (usable (levels h.size) h.planes (there ++ (name_of p ∷ [])) (name_of p)))
    where
      go : (b : Bool)
          → Same f (cond b (used_cut h s there p (name_state f su) (drawn F p (name_state f su) v)) (going (name_state f su) v))
          (cond b (used_cut h s there p su (drawn G p su w)) (going su w))
      go true = used_cut_same p su _ _ (decoded_renamed f one F G R (name_of p) (bit_at (body_of s p)) (bits_there s p) su v w e.1)
      go false = (refl, e.1)

  pub decode_parts_same : (ps : List Part) (a b : Progress) → Same f a b → Same f (decode_parts_of F h s there ps a) (decode_parts_of G h s there ps b)
  unfolding decode_parts_of
  decode_parts_same [] a b e = e
  decode_parts_same (p ∷ ps) a b e = decode_parts_same ps (onward_of F h s there p a) (onward_of G h s there p b) (onward_same p a b e)

-- Document 01's decoding is that by tree numbers, its values laid out row by row.
module _ (z : Size) (Z : Legal z) where
  zeros_laid : Laid (coefficient_of z) (replicate (area z) (pos 0)) (replicate (area z) (pos 0))
  zeros_laid =
      record {
        value = λ x. zero_at (coefficient_of z x) ∙ sym (zero_at x);
        inside = λ x. rw (length-replicate (area z) (pos 0)) (coefficient_under z Z x);
      }
    where
      zero_at : (x : ℕ) → get_or (replicate (area z) (pos 0)) x (pos 0) ≡ pos 0
      zero_at x = go (dec_lt x (area z))
        where
          go : Dec (x < area z) → get_or (replicate (area z) (pos 0)) x (pos 0) ≡ pos 0
          go (yes l) = get_or-replicate (area z) x (pos 0) (pos 0) l
          go (no l) = get_or-eq_default (replicate (area z) (pos 0)) (pos 0) (omega (arith, length-replicate (area z) (pos 0)))

  pub laid_out : (v w : List ℤ) → Laid (coefficient_of z) v w → (q : ℕ) → q < area z
      → get_or v q (pos 0) ≡ get_or w (number_of z q) (pos 0)
  laid_out v w l q h = ap (λ (x : ℕ). get_or v x (pos 0)) (sym (coefficient_number z Z q h)) ∙ l.value (number_of z q)

module _ (h : Header) (Z : Legal h.size) (s : List ℕ) (there : List PartName) where
  pub decode_parts_trees : (ps : List Part)
      → Same (coefficient_of h.size)
      (decode_parts h s there ps (going (start h.size) (replicate (area h.size) (pos 0))))
      (decode_parts_of (trees h.size) h s there ps (going (tree_start h.size) (replicate (area h.size) (pos 0))))
  unfolding Same
  decode_parts_trees ps =
      let z : Size = h.size in
      rw (decode_parts_of_lem h s there ps (going (start h.size) (replicate (area h.size) (pos 0))))
      (decode_parts_same (coefficient_of h.size) (coefficient_one h.size Z) (family h.size) (trees h.size) (trees_rename h.size Z) h s there ps
      (going (start h.size) (replicate (area h.size) (pos 0)))
      (going (tree_start h.size) (replicate (area h.size) (pos 0)))
      (start_trees h.size Z, zeros_laid h.size Z))

  -- the same with the tail, as far as its bits go
  pub decoded_trees : (ps : List Part) (x : PartRead)
      → Same (coefficient_of h.size)
      (tail_onward h s there x (decode_parts h s there ps (going (start h.size) (replicate (area h.size) (pos 0)))))
      (tail_onward_of (trees h.size) h s there x
      (decode_parts_of (trees h.size) h s there ps (going (tree_start h.size) (replicate (area h.size) (pos 0)))))
  decoded_trees ps x =
      rw (tail_onward_of_lem h s there x (decode_parts h s there ps (going (start h.size) (replicate (area h.size) (pos 0)))))
      (tail_onward_same (coefficient_of h.size) (coefficient_one h.size Z) (family h.size) (trees h.size) (trees_rename h.size Z) h s there x
      _ _ (decode_parts_trees ps))
