-- Of the record of a picture, whatever arrives: how far what is printed is from what was recorded.
use Rattle.std.specs.Prelude.{◌≡◌, refl, List, map, Bool, true, length, get_or, ℤ, pos, negsuc, nat_abs, ◌+ℤ◌, ◌-ℤ◌}
use Rattle.std.proofs.Common.{ap, sym, subst, ◌∙◌, arith, ext_get_or}
use Prim.Native.Nat.{ℕ, zero, suc, ◌+◌, ◌-◌, ◌≤◌, ◌<◌}
use Rattle.std.proofs.Math.ListN.{get_or-map}
use Rattle.std.proofs.lemmas.List.{length-map}
use Rattle.std.proofs.Math.IntN.{+ℤ_idl, -ℤ-+ℤ_cancel}
use Rattle.rules.specs.declared.Size.{Size}
use Rattle.rules.specs.Document.Pyramid.{legal_size, area, levels, magnitude}
use Rattle.rules.specs.Document.Passes.{PartName}
use Rattle.rules.specs.Document.Layout.{planes_in, parts_of}
use Rattle.rules.specs.Document.Calls.{Result, Picture, plane_in, decoding}
use Rattle.rules.proofs.Laws.Family.Sizes.{legal}
use Rattle.rules.specs.Promises.Vocabulary.{Legal, Codable, Stated, Rounded, kept, arrived}
use Rattle.rules.proofs.Laws.Calls.Arrived.{this_count, demand3, printed_near}
use Rattle.pictures.specs.Document.Lifting.{pyramid_of, picture_of}
use Rattle.pictures.proofs.Laws.Grids.{picture_length, pixels_return}
use Rattle.pictures.specs.Laws.Turns.{Pixels}
use Rattle.pictures.specs.Laws.Room.{most_back}
use Rattle.pictures.proofs.Laws.Range.{picture_most_fits, picture_most_lem, picture_codable}
use Rattle.pictures.specs.Laws.Distance.{Nearby, share, shares, farthest, pixel_most}
use Rattle.pictures.specs.Laws.Error.{NearPyramids}
use Rattle.pictures.proofs.Laws.Error.{pictures_near, small_near}
use Rattle.pictures.specs.Laws.Printed.{Printed}

-- Nothing lacking, nothing apart.
none_apart : (v : ℤ) → nat_abs v ≤ 0 → v ≡ pos 0
none_apart (pos n) h = ap pos (omega arith)
none_apart (negsuc n) h = absurd (omega arith)

nearby_same : (p q : ℤ) → Nearby 0 p q → p ≡ q
nearby_same p q h = sym (-ℤ-+ℤ_cancel p q) ∙ ap (λ v. v +ℤ q) (none_apart (p -ℤ q) h) ∙ +ℤ_idl q

whole_shares : (c : ℕ) (plane : ℕ → ℕ) (k : ℕ) → ((i : ℕ) → k ≤ i → i < k + c → plane i ≡ 0) → shares plane k c ≡ 0
unfolding share shares
whole_shares zero plane k h = refl
whole_shares (suc c) plane k h =
    rw (h k (omega arith) (omega arith)) (omega (arith, whole_shares c plane (suc k) (λ i a b. h i (omega arith) (omega arith))))

whole_exact : (z : Size) (plane : ℕ → ℕ) → ((k : ℕ) → 1 ≤ k → k ≤ levels z → plane k ≡ 0) → farthest z plane 0 ≡ 0
unfolding farthest
whole_exact z plane h =
    rw (h (levels z) (omega arith) (omega arith))
    (omega (arith, whole_shares (z.n - 0) plane 1 (λ i a b. h i a (omega arith))))

module _ (z : Size) (pixels : List ℕ) (p : Pixels z pixels) (e : legal_size z ≡ true) (sized : length pixels ≡ area z) where
  Z : Legal z
  Z = legal z e

  c : Codable z (pyramid_of z pixels)
  c = picture_codable z pixels p e

  recorded : (q : ℕ) → q < area z → magnitude (pyramid_of z pixels) q ≤ most_back
  recorded q h = omega (arith, picture_most_lem z pixels p Z q h, picture_most_fits)

  printed_pyramids : {planes : ℕ} {there part : List PartName} {cut : ℕ} {result : Result Picture}
      (r : Rounded z planes (pyramid_of z pixels) there part cut result)
      → NearPyramids z (λ k. plane_in r.picture.reached (k - 1)) r.picture.pyramid (pyramid_of z pixels)
  unfolding magnitude
  printed_pyramids r =
      record {
        few = λ q h. omega (arith, (printed_near c r q h).no_greater, recorded q h);
        few' = recorded;
        near = λ q h. omega (arith, (printed_near c r q h).distance);
      }

  pub rounded_printed : {planes : ℕ} {there part : List PartName} {cut : ℕ} {result : Result Picture}
      → Rounded z planes (pyramid_of z pixels) there part cut result → Printed z pixels result
  unfolding pixel_most
  rounded_printed r =
      record {
        picture = r.picture;
        accepts = r.accepts;
        sized = r.sized;
        few = (printed_pyramids r).few;
        near = near;
        small = small_near z Z (omega (arith, Z.few)) plane r.picture.pyramid (pyramid_of z pixels) (printed_pyramids r);
        exact = exact;
      }
    where
      plane : ℕ → ℕ
      plane k = plane_in r.picture.reached (k - 1)

      near : (q : ℕ) → q < area z → Nearby (farthest z plane 0) (get_or (picture_of z r.picture.pyramid) q (pos 0)) (pos (get_or pixels q 0))
      near q h =
          subst (λ v. Nearby (farthest z plane 0) (get_or (picture_of z r.picture.pyramid) q (pos 0)) v)
          (ap (λ l. get_or l q (pos 0)) (pixels_return z Z pixels sized) ∙ get_or-map pos pixels q 0)
          (pictures_near z Z (omega (arith, Z.few)) plane r.picture.pyramid (pyramid_of z pixels) (printed_pyramids r) q h)

      exact : ((k : ℕ) → 1 ≤ k → k ≤ levels z → plane k ≡ 0) → picture_of z r.picture.pyramid ≡ map pos pixels
      exact whole =
          ext_get_or (pos 0) (picture_of z r.picture.pyramid) (map pos pixels)
          (picture_length z r.picture.pyramid ∙ sym sized ∙ sym (length-map pixels pos))
          (λ q l.
          let there = near q (omega (arith, picture_length z r.picture.pyramid)) in
          nearby_same (get_or (picture_of z r.picture.pyramid) q (pos 0)) (pos (get_or pixels q 0)) (omega (arith, whole_exact z plane whole, there))
          ∙ sym (get_or-map pos pixels q 0))

  -- Any selection of the record's parts, cut anywhere behind the header.
  pub picture_printed : (room work : ℕ) → Stated z room work → (keep : PartName → Bool) (n : ℕ)
      → Printed z pixels (decoding (arrived z (planes_in (pyramid_of z pixels)) (kept keep (parts_of z (pyramid_of z pixels))) n) room work)
  unfolding parts_of
  picture_printed room work sizes keep n = rounded_printed (demand3 c (this_count c) room work sizes keep n)
