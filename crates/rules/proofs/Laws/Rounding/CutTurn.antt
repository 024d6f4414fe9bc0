-- The run over a coder's parts at the turn of one that is cut: up to it the run is the same whether the part is there or not, and by the planes that
-- are reached with it the decoder's lists of its level are the coder's. So what is there of its bits are those that the decoder asks for.
use Rattle.std.specs.Prelude.{◌≡◌, Bool, true, false, cond, ℕ, suc, ◌≤◌}
use Rattle.std.proofs.Math.Path.{refl, ap}
use Rattle.std.proofs.Common.{sym, ◌∙◌, subst, leb-true}
use mathlib.Core.List.{List, [], ◌∷◌, ◌++◌}
use Rattle.std.proofs.Math.IntN.{ℤ}
use Rattle.rules.specs.Document.Pyramid.{Family}
use Rattle.rules.specs.Document.Passes.{Course, pass, State, after, PartName, truth, coded}
use Rattle.rules.specs.Document.Layout.{CodedPart, coded_parts}
use Rattle.rules.specs.Document.Calls.{going}
use Rattle.rules.proofs.Laws.Counting.Booleans.{clash}
use Rattle.rules.specs.Laws.Counting.Sums.{All}
use Rattle.rules.specs.Laws.Pass.Simulation.{spoken}
use Rattle.rules.proofs.Laws.Pass.Simulation.{bits_of}
use Rattle.rules.specs.Promises.Vocabulary.{selection, kept}
use Rattle.rules.proofs.Laws.Rounding.KnownState.{followed}
use Rattle.rules.specs.Laws.State.Agreement.{lists_with, lists_after}
use Rattle.rules.proofs.Laws.State.Agreement.{usable_agree}
use Rattle.rules.proofs.Laws.Rounding.Rebuilt.{rebuilt}
use Rattle.rules.proofs.Laws.Rounding.Followed.{coded_spoken, followed_lists}
use Rattle.rules.specs.Laws.Rounding.CutTurn.{used_by}

module _ (F : Family) (mag : ℕ → ℕ) (neg : ℕ → Bool) where
  rebuilt_none : (R : ℕ → ℕ) (ps : List PartName) → All (λ p. used_by R p ≡ false) ps → (s : State) (v : List ℤ) → rebuilt F mag neg R ps s v ≡ going s v
  unfolding rebuilt All
  rebuilt_none R [] a s v = refl
  rebuilt_none R (p ∷ ps) a s v = rw a.0 (rebuilt_none R ps a.1 s v)

  -- Behind parts that are used by both or by neither, both runs have come to the same.
  record Led (R R' : ℕ → ℕ) (ps : List PartName) (s : State) (v : List ℤ) : Type 0 where
    pyramid : List ℤ
    first : (rest : List PartName) → rebuilt F mag neg R (ps ++ rest) s v ≡ rebuilt F mag neg R rest (lists_after F mag neg (used_by R') ps s) pyramid
    second : (rest : List PartName) → rebuilt F mag neg R' (ps ++ rest) s v ≡ rebuilt F mag neg R' rest (lists_after F mag neg (used_by R') ps s) pyramid

  led : (R R' : ℕ → ℕ) (ps : List PartName) → All (λ p. used_by R p ≡ used_by R' p) ps → (s : State) (v : List ℤ) → Led R R' ps s v
  unfolding rebuilt All lists_after
  led R R' [] a s v = record { pyramid = v; first = λ rest. refl; second = λ rest. refl }
  led R R' (p ∷ ps) a s v = by (used_by R' p) refl (led R R' ps a.1)
    where
      c : Course (List ℤ)
      c = followed F mag neg p s v

      lists : State
      lists = lists_after F mag neg (used_by R') (p ∷ ps) s

      by : (b : Bool) → used_by R' p ≡ b → ((s : State) (v : List ℤ) → Led R R' ps s v) → Led R R' (p ∷ ps) s v
      by true e r =
          let t : Led R R' ps (lists_with F mag neg p s) c.side = r (lists_with F mag neg p s) c.side in
          let same : after p.level c s ≡ lists_with F mag neg p s = sym (followed_lists F mag neg p s v) in
          record {
            pyramid = t.pyramid;
            first = λ rest. rw (a.0, e, same) (t.first rest);
            second = λ rest. rw (e, same) (t.second rest);
          }
      by false e r =
          let t : Led R R' ps s v = r s v in
          record { pyramid = t.pyramid; first = λ rest. rw (a.0, e) (t.first rest); second = λ rest. rw e (t.second rest) }

  -- Where the coder made a part that is among those kept.
  pub record MadeAt (names : List PartName) (s : State) (q : CodedPart) : Type 0 where
    pub earlier : List PartName
    pub later : List PartName
    pub split : names ≡ earlier ++ q.name ∷ later
    pub bits : q.bits ≡ (coded F mag neg q.name (lists_after F mag neg (λ p. true) earlier s)).side

  pub made_at : (keep : PartName → Bool) (names : List PartName) (s : State) (w : List CodedPart) (q : CodedPart) (more : List CodedPart)
      → kept keep (coded_parts F mag neg names s) ≡ w ++ q ∷ more → MadeAt names s q
  unfolding coded_parts selection lists_after
  made_at keep [] s [] q more e = absurd (clash (cc))
  made_at keep [] s (y ∷ w) q more e = absurd (clash (cc))
  made_at keep (p ∷ names) s w q more e = by (keep p) refl w e (λ w. made_at keep names (lists_with F mag neg p s) w q more)
    where
      this : CodedPart
      this = record { name = p; bits = (coded F mag neg p s).side }

      others : List CodedPart
      others = kept keep (coded_parts F mag neg names (lists_with F mag neg p s))

      further : MadeAt names (lists_with F mag neg p s) q → MadeAt (p ∷ names) s q
      further m = record { earlier = p ∷ m.earlier; later = m.later; split = ap (λ x. p ∷ x) m.split; bits = m.bits }

      by : (b : Bool) → keep p ≡ b → (w : List CodedPart) → cond b (this ∷ others) others ≡ w ++ q ∷ more
          → ((w : List CodedPart) → others ≡ w ++ q ∷ more → MadeAt names (lists_with F mag neg p s) q) → MadeAt (p ∷ names) s q
      by false k w e r = further (r w e)
      by true k [] e r =
          let same : q ≡ this = cc in
          subst (λ x. MadeAt (p ∷ names) s x) (sym same) (record { earlier = []; later = names; split = refl; bits = refl })
      by true k (y ∷ w) e r = further (r w cc)

  -- The turn of part q: R the planes that are reached without it, R' those with it.
  pub record Turn (R R' : ℕ → ℕ) (names : List PartName) (s : State) (q : CodedPart) (v : List ℤ) : Type 0 where
    pub at_turn : State
    pub so_far : List ℤ
    pub runs : rebuilt F mag neg R names s v ≡ going at_turn so_far
    pub runs_on : rebuilt F mag neg R' names s v
        ≡ going (after q.name.level (followed F mag neg q.name at_turn so_far) at_turn) (followed F mag neg q.name at_turn so_far).side
    pub same_bits : q.bits ≡ bits_of F mag neg q.name at_turn

  module _ (R R' : ℕ → ℕ) (falls : (k : ℕ) → R' (suc k) ≤ R' k) {names : List PartName} {s : State} {q : CodedPart} (m : MadeAt names s q)
      (before : All (λ p. used_by R p ≡ used_by R' p) m.earlier) (above : All (λ p. q.name.plane ≤ p.plane) m.earlier)
      (without : used_by R q.name ≡ false) (with_it : used_by R' q.name ≡ true)
      (behind : All (λ p. used_by R p ≡ false) m.later) (behind' : All (λ p. used_by R' p ≡ false) m.later) (v : List ℤ) where
    abbrev L : Led R R' m.earlier s v
    L = led R R' m.earlier before s v

    abbrev lists : State
    lists = lists_after F mag neg (used_by R') m.earlier s

    pub turn : Turn R R' names s q v
    unfolding All rebuilt
    turn =
        let w : List ℤ = L.pyramid in
        let alike : lists_after F mag neg (λ p. true) m.earlier s q.name.level ≡ lists q.name.level
        = usable_agree F mag neg R' falls q.name.plane m.earlier above s q.name.level (leb-true _ _ with_it) in
        record {
          at_turn = lists;
          so_far = w;
          runs =
              ap (λ x. rebuilt F mag neg R x s v) m.split ∙ L.first (q.name ∷ m.later)
              ∙ rebuilt_none R (q.name ∷ m.later) (without, behind) lists w;
          runs_on =
              ap (λ x. rebuilt F mag neg R' x s v) m.split ∙ L.second (q.name ∷ m.later)
              ∙ rw with_it (rebuilt_none R' m.later behind' _ _);
          same_bits =
              m.bits ∙ coded_spoken F mag neg q.name (lists_after F mag neg (λ p. true) m.earlier s)
              ∙ ap (λ l. spoken (truth F mag neg q.name.plane) (pass F q.name.level l)) alike;
        }
