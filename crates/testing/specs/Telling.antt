-- What is told of one coefficient, and what is noted of it: by the bit that says whether it is found.
use Rattle.std.specs.Prelude.{◌≡◌, refl, Bool, true, false, cond, List, ℕ, ◌+◌}
use Rattle.std.proofs.Common.{sym, ap, ◌∙◌, arith}
use mir.Val.{bool_byte}
use Rattle.bits.specs.declared.BitPosition.{BitPosition}
use Rattle.bits.specs.declared.BitRead.{BitRead}
use Rattle.bits.specs.Bits.{set_bit}
use Rattle.bits.specs.Written.{set_bit_none}
use Rattle.rules.specs.Document.Passes.{Side, significant?, negative?, to_lsp}
use Rattle.rules.specs.Document.Layout.{bit_at}
use Rattle.lists.specs.declared.Fill.{Fill}
use Rattle.lists.specs.Lists.{coefficient, Spared}
use Rattle.lists.specs.declared.Role.TheVariants.{Codes, Reads}
use Rattle.testing.specs.declared.Run.{Run}
use Rattle.testing.specs.declared.Told.{Told}
use Rattle.testing.specs.Exchange.{Chan, Tells, answer, side, Replied, Noted, replied_read, replied_said}

-- Two bits were read; the second counts if the first is 1.
pub record ReadFound (body : List ℕ) (at : BitPosition) (r : Told) : Type 0 where
  pub found : r.found ≡ bit_at body at.at
  pub negative : r.negative ≡ bit_at body (at.at + 1)
  pub place : r.next.at ≡ at.at + 1 + bool_byte r.found

-- Two bits were written; the second is 0 if the first is.
pub record SaidFound (found negative : Bool) (out : List ℕ) (at : BitPosition) (r : Told) (out' : List ℕ) : Type 0 where
  pub told : r.found ≡ found
  pub sign : r.negative ≡ negative
  pub place : r.next.at ≡ at.at + 1 + bool_byte r.found
  pub bytes : out' ≡ set_bit (set_bit out at.at found) (at.at + 1) (cond found negative false)

-- The coefficient is found: it was asked whether it is significant, then whether it is negative.
pub record Signed (C : Side Chan) (x : ℕ) (out : List ℕ) (at : BitPosition) (r : Told) (out' : List ℕ) : Type 0 where
  pub first : BitRead
  pub between : List ℕ
  pub found : first.bit ≡ true
  pub significant : Replied C (significant? x) out at first between
  pub negative : Replied C (negative? x) between first.next (record { bit = r.negative; next = r.next }) out'

pub record Answered (C : Side Chan) (x : ℕ) (out : List ℕ) (at : BitPosition) (r : Told) (out' : List ℕ) : Type 0 where
  pub found : r.found ≡ true → Signed C x out at r out'
  pub missed : r.found ≡ false → Replied C (significant? x) out at (record { bit = false; next = r.next }) out'

-- The coefficient of an entry, in whatever stretch the entry tells of.
pub record AnsweredBy (run : Run) (body : List ℕ) (e : ℕ) (out : List ℕ) (at : BitPosition) (r : Told) (out' : List ℕ) : Type 0 where
  pub answered : (s : List ℕ) → Tells run s e → Answered (side run s body) (coefficient e) out at r out'

-- A coefficient that is found, as bits up to a place tell, is noted; of another, nothing that counts has changed.
pub record NotedBy (bit : Bool) (run : Run) (at x : ℕ) (negative : Bool) (f : Fill) (s s' : List ℕ) : Type 0 where
  pub found : bit ≡ true → Noted run at (to_lsp x negative) s s'
  pub missed : bit ≡ false → Spared run.stretch s f s'

pub both_read : {body : List ℕ} {at : BitPosition} {first : BitRead} {sign : Bool} → first.bit ≡ bit_at body at.at
    → first.next.at ≡ at.at + 1 → sign ≡ bit_at body first.next.at
    → ReadFound body at (record { found = first.bit; negative = sign; next = record { at = first.next.at + bool_byte first.bit } })
both_read {body} b n s = record { found = b; negative = s ∙ ap (bit_at body) n; place = omega (arith, n) }

pub both_said : {found negative sign : Bool} {out out₁ out₂ : List ℕ} {at second : BitPosition} → second.at ≡ at.at + 1
    → out₁ ≡ set_bit out at.at found → sign ≡ cond found negative false → out₂ ≡ set_bit out₁ second.at sign
    → SaidFound found negative out at (record { found = found; negative = negative; next = record { at = second.at + bool_byte found } }) out₂
both_said n a s b = record { told = refl; sign = refl; place = omega (arith, n); bytes = rw (b, a, n, s) }

module _ (run : Run) (s body out : List ℕ) (at : BitPosition) (x : ℕ) (r : Told) where
  -- the bit that tells, and where it leads
  abbrev yes_read : BitRead
  yes_read = record { bit = true; next = record { at = at.at + 1 } }

  abbrev sign_read : BitRead
  sign_read = record { bit = r.negative; next = r.next }

  pub told_read : run.stretch.role ≡ Reads → ReadFound body at r → Answered (side run s body) x out at r out
  told_read h R =
      record {
        found =
            λ e. record {
              first = yes_read;
              between = out;
              found = refl;
              significant = replied_read run s body out at (significant? x) yes_read h (sym e ∙ R.found) refl;
              negative =
                  replied_read run s body out (record { at = at.at + 1 }) (negative? x) sign_read h R.negative
                  (omega (arith, R.place, ap bool_byte e));
            };
        missed =
            λ e. replied_read run s body out at (significant? x) (record { bit = false; next = r.next }) h (sym e ∙ R.found)
            (omega (arith, R.place, ap bool_byte e));
      }

  module _ {found negative : Bool} {out' : List ℕ} (h : run.stretch.role ≡ Codes) (a : found ≡ answer run s (significant? x))
      (b : negative ≡ answer run s (negative? x)) (S : SaidFound found negative out at r out') where
    written : (c : Bool) → r.found ≡ c → out' ≡ set_bit (set_bit out at.at c) (at.at + 1) (cond c negative false)
    written c e = S.bytes ∙ ap (λ d. set_bit (set_bit out at.at d) (at.at + 1) (cond d negative false)) (sym S.told ∙ e)

    pub told_said : Answered (side run s body) x out at r out'
    told_said =
        record {
          found =
              λ e. record {
                first = yes_read;
                between = set_bit out at.at true;
                found = refl;
                significant = replied_said run s body out at (significant? x) yes_read h (sym e ∙ S.told ∙ a) refl refl refl;
                negative =
                    replied_said run s body (set_bit out at.at true) (record { at = at.at + 1 }) (negative? x) sign_read h b S.sign
                    (omega (arith, S.place, ap bool_byte e)) (written true e);
              };
          missed =
              λ e. replied_said run s body out at (significant? x) (record { bit = false; next = r.next }) h (sym e ∙ S.told ∙ a) refl
              (omega (arith, S.place, ap bool_byte e)) (written false e ∙ set_bit_none (set_bit out at.at false) (at.at + 1));
        }
