-- write_parts: the pyramid is held; write_record: the header and the parts behind it are the record.
use mathlib.Core.Path.{◌≡◌, refl, sym, ap, ap₂, subst, ◌∙◌}
use mathlib.Core.List.{List, [], ◌∷◌, ◌++◌}
use Prim.Native.Nat.{ℕ, zero, suc, ◌+◌, ◌*◌, ◌≤◌, ◌<◌}
use native.Mathlib.Omega.{arith}
use lib.ListN.{length, get_or, length-append}
use lib.IntN.{ℤ, nat_abs}
use lib.Seq.{sets}
use Rattle.rules.specs.declared.Size.{Size}
use Rattle.parts.specs.declared.Counts.{Counts}
use Rattle.rules.specs.Document.Notation.{flat, greatest, zeros}
use Rattle.rules.specs.Document.Pyramid.{area, levels, most_magnitude, magnitude, most_planes, planes_of}
use Rattle.rules.specs.Document.Passes.{Entry, typeA, typeB, members, PartName, part_names}
use Rattle.rules.specs.Document.Calls.{level_places, work_for}
use Rattle.rules.specs.Document.Layout.{version, number_bytes, header_bytes, part_bytes, planes_in, parts_of, record_of}
use Rattle.rules.proofs.Laws.Family.Sizes.{legal}
use Rattle.rules.proofs.Laws.Counting.Sums.{every_all}
use Rattle.rules.proofs.Laws.Family.Maxima.{greatest_same}
use Rattle.rules.proofs.Laws.Rounding.Planes.{planes_of_most, magnitude_most, range_greatest}
use Rattle.memory.specs.Stores.{sets_append, get_d_sets_behind}
use Rattle.trees.specs.Family.{coefficient_of, trees}
use Rattle.trees.specs.Run.{tree_start}
use Rattle.trees.proofs.Run.{parts_of_trees}
use Rattle.trees.specs.Sound.{TreeSound}
use Rattle.trees.proofs.Sound.{tree_start_sound, tree_members_area}
use Rattle.coefficients.specs.Words.{worded, magnitude_word, magnitude_word_lem}
use Rattle.stretches.specs.Cut.{largest_d, largest_l}
use Rattle.stretches.specs.Workspace.{word_in, measured, Holds}
use Rattle.placing.specs.Placing.{CopiedIn}
use Rattle.largest.specs.Filling.{measure_in, Fillable, Filled}
use Rattle.lists.specs.declared.Role.TheVariants.{Codes}
use Rattle.parts.specs.Standing.{Started, agree_same}
use Rattle.coder.specs.declared.Progress.{Progress}
use Rattle.coder.specs.Writing.{Given, Holding, Stage, stage_of, Clear, Going, Reached, header_most, bytes_of_parts, Stored}
use Rattle.record.specs.Write.{Wrote, wrote_near}
use Rattle.coder.proofs.Stages.{through_out, through_place}

zeros_clear : (room j : ℕ) → get_or (zeros room) j 0 ≡ 0
zeros_clear zero j = refl
zeros_clear (suc room) zero = refl
zeros_clear (suc room) (suc j) = zeros_clear room j

module _ {pyramid : List ℤ} {z : Size} {work : List ℕ} (g : Given pyramid z work) where
  -- write_parts: the pyramid copied in
  module _ {copied : List ℕ} (c : CopiedIn pyramid z work copied) where
    magnitude_is : (x : ℕ) → x < area z → magnitude_word (word_in z copied x) ≡ magnitude pyramid (coefficient_of z x)
    unfolding worded magnitude
    magnitude_is x l = ap magnitude_word (c.words x l) ∙ magnitude_word_lem _ _

    pub copied_fillable : Fillable z copied
    unfolding magnitude_word
    copied_fillable =
        let most = range_greatest most_magnitude pyramid g.range in
        record {
          legal = g.legal;
          room = omega (arith, g.room, c.same);
          small = λ x l. omega (arith, magnitude_is x l, magnitude_most pyramid (coefficient_of z x), most);
        }

    greatest_is : (e : Entry)
        → greatest (measure_in z copied) (members (trees z) e) ≡ greatest (λ x. measured (magnitude pyramid (coefficient_of z x))) (members (trees z) e)
    unfolding measure_in
    greatest_is e =
        greatest_same _ _ (members (trees z) e)
        (every_all _ (members (trees z) e) (λ x i. ap measured (magnitude_is x (tree_members_area z (legal z g.legal) e x i))))

    -- its maxima filled, and the lists at their start
    module _ {filled : List ℕ} (f : Filled z copied filled) where
      pub filled_room : work_for z ≤ length filled
      filled_room = omega (arith, g.room, c.same, f.same)

      module _ {counts : Counts} {held : List ℕ} (s : Started Codes z filled counts held) where
        held_holds : Holds z pyramid held
        held_holds =
            record {
              words = λ x l. s.words x l ∙ f.words x l ∙ c.words x l;
              maxima =
                  record {
                    of_d = λ k x i j m n. ap largest_d (s.maxima k _ i j) ∙ f.maxima.of_d k x i j m n ∙ greatest_is (typeA x);
                    of_l = λ k x i j m n. ap largest_l (s.maxima k _ i (omega arith)) ∙ f.maxima.of_l k x i j m n ∙ greatest_is (typeB x);
                  };
            }

        pub parts_holding : Holding z held counts
        parts_holding =
            record { legal = g.legal; room = omega (arith, filled_room, s.same); pyramid = pyramid; holds = held_holds; marks = s.marks }

        pub parts_going : (planes : ℕ) (out : List ℕ) (place : ℕ) → planes ≤ most_planes → Clear out place → place ≤ header_most
            → Going z (level_places * planes) (stage_of z held (record { counts = counts; place = place }) out)
        parts_going planes out place a d l =
            record {
              sound = subst (TreeSound z) (sym (agree_same s.lists)) (tree_start_sound z (legal z g.legal));
              clear = d;
              near = omega arith;
            }

        pub parts_stored : (planes : ℕ) (out : List ℕ) (place : ℕ) (p : Progress) (work' out' : List ℕ)
            → Reached z (part_names (levels z) planes) held (stage_of z held (record { counts = counts; place = place }) out) p work' out'
            → Stored out place (bytes_of_parts pyramid z (part_names (levels z) planes) (tree_start z)) p.place out'
        parts_stored planes out place p work' out' r =
            let names : List PartName = part_names (levels z) planes in
            let first : Stage = stage_of z held (record { counts = counts; place = place }) out in
            let end = r.stage pyramid held_holds in
            let same : bytes_of_parts pyramid z names first.lists ≡ bytes_of_parts pyramid z names (tree_start z)
            = ap (bytes_of_parts pyramid z names) (agree_same s.lists) in
            record {
              place = ap (λ x. x.place) end ∙ through_place pyramid z names first ∙ ap (λ l. place + length l) same;
              stores = ap (λ x. x.out) end ∙ through_out pyramid z names first ∙ ap (sets out place) same;
            }

  -- write_record
  module _ (planes : ℕ) (e : planes ≡ planes_of (greatest nat_abs pyramid)) where
    pub planes_few : planes ≤ most_planes
    planes_few = omega (arith, planes_of_most (greatest nat_abs pyramid) (range_greatest most_magnitude pyramid g.range))

    module _ (lent cleared : List ℕ) (f : cleared ≡ zeros (length lent)) (place : ℕ) (out : List ℕ)
        (w : Wrote cleared 0 (version ∷ z.w ∷ z.h ∷ z.n ∷ planes ∷ []) place out) where
      pub header_clear : Clear out place
      header_clear j h =
          let header : List ℕ = flat number_bytes (version ∷ z.w ∷ z.h ∷ z.n ∷ planes ∷ []) in
          ap (λ l. get_or l j 0) w.bytes ∙ get_d_sets_behind cleared 0 header j 0 (omega (arith, w.place))
          ∙ ap (λ l. get_or l j 0) f ∙ zeros_clear (length lent) j

      pub header_short : place ≤ header_most
      header_short = omega (arith, wrote_near w)

      pub record_stored : (end : ℕ) (out' : List ℕ) → Stored out place (bytes_of_parts pyramid z (part_names (levels z) planes) (tree_start z)) end out'
          → Stored (zeros (length lent)) 0 (record_of z pyramid) end out'
      unfolding record_of header_bytes planes_in parts_of
      record_stored end out' s =
          let header : List ℕ = flat number_bytes (version ∷ z.w ∷ z.h ∷ z.n ∷ planes ∷ []) in
          let parts : List ℕ = bytes_of_parts pyramid z (part_names (levels z) planes) (tree_start z) in
          let whole : header ++ parts ≡ record_of z pyramid =
          rw e (ap (λ ps. header_bytes z (planes_in pyramid) ++ flat part_bytes ps) (sym (parts_of_trees z (legal z g.legal) pyramid))) in
          record {
            place = omega (arith, s.place, w.place, ap length whole, length-append header parts);
            stores =
                s.stores ∙ ap₂ (λ l i. sets l i parts) w.bytes w.place ∙ sym (sets_append cleared 0 header parts)
                ∙ ap₂ (λ l m. sets l 0 m) f whole;
          }
