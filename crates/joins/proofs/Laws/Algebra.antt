-- "Where no call refuses, joining in the other order gives the same bytes, three may be joined in either grouping, and a record without a tail joined
-- with itself is itself." Under each name it is one equation of "this, else that".
use Rattle.std.specs.Prelude.{◌≡◌, refl, List, [], ◌∷◌, ◌++◌, ℕ, ◌-◌, ◌≤◌, length, take, Ok}
use Rattle.std.proofs.Common.{ap, ap₂, sym, ◌∙◌, subst, arith, take_all, le-leb}
use Rattle.std.proofs.Math.Path.{fun_ext}
use Rattle.rules.specs.declared.Header.{Header}
use Rattle.rules.specs.Document.Notation.{flat}
use Rattle.rules.specs.Document.Passes.{PartName}
use Rattle.rules.specs.Document.Numbers.{tail, read_header, read_parts}
use Rattle.rules.specs.Document.Calls.{accepted, unless, fitted}
use Rattle.rules.proofs.Laws.Reading.Stands.{read_header_stands, header_within}
use Rattle.rules.proofs.Laws.Serving.Served.{record_whole}
use Rattle.joins.specs.Document.Joining.{or_else, joined_part, joined_bytes, joining}
use Rattle.joins.specs.Laws.ByName.{all_names}
use Rattle.joins.proofs.Laws.ByName.{record_by_name}
use Rattle.joins.specs.Laws.Joined.{part_of, either_of, join_of}
use Rattle.joins.specs.Laws.Joined.{Readable, Joinable}
use Rattle.joins.proofs.Laws.Joined.{one_header, joining_joinable, joining_joined, joined_record}

-- Records put together: by the same header bytes and the same part under each name they are the same bytes.
join_same : (h : Header) (a b c d : List ℕ) → take h.end a ≡ take h.end c → ((x : PartName) → either_of h a b x ≡ either_of h c d x)
    → join_of h a b ≡ join_of h c d
unfolding joined_bytes
join_same h a b c d front each = ap₂ (λ l f. l ++ flat f (all_names h)) front (fun_ext each)

-- In the other order: accepted too, and the same bytes.
pub join_commutes : (a b : List ℕ) (room : ℕ) (j : List ℕ) → joining a b room ≡ accepted j → joining b a room ≡ accepted j
join_commutes a b room j e =
    let i = joining_joined a b room j e in
    let h : Header = i.head in
    let k : Joinable a b h = i.joinable in
    joining_joinable (record { one = k.two; two = k.one; front = sym k.front; agree = λ x. sym (k.agree x) }) room
    ∙ ap (λ l. fitted l room) (join_same h b a a b (sym k.front) (λ x. sym (k.agree x)))
    ∙ sym (joining_joinable k room) ∙ e

-- this, else that, else the other
or_associates : (u v w : List ℕ) → or_else (or_else u v) w ≡ or_else u (or_else v w)
unfolding or_else
or_associates [] v w = refl
or_associates (x ∷ u) v w = refl

-- Three in either grouping.
pub join_associates : (a b c x u y v : List ℕ) (m n k l : ℕ) → joining a b m ≡ accepted x → joining x c n ≡ accepted y
    → joining b c k ≡ accepted u → joining a u l ≡ accepted v → y ≡ v
unfolding joined_part
join_associates a b c x u y v m n k l ab xc bc au =
    let i = joining_joined a b m x ab in
    let h : Header = i.head in
    let ir = joined_record i in
    let j = joining_joined x c n y xc in
    let p = joining_joined b c k u bc in
    let q = joining_joined a u l v au in
    let jh : j.head ≡ h = one_header j.joinable.one.read ir.read in
    let ph : p.head ≡ h = one_header p.joinable.one.read i.joinable.two.read in
    let qh : q.head ≡ h = one_header q.joinable.one.read i.joinable.one.read in
    let pr = subst (λ g. (z : PartName) → part_of g u z ≡ either_of g b c z) ph (joined_record p).part in
    j.bytes ∙ ap (λ g. join_of g x c) jh
    ∙ join_same h x c a u ir.front
    (λ z. ap (λ w. or_else w (part_of h c z)) (ir.part z) ∙ or_associates (part_of h a z) (part_of h b z) (part_of h c z)
    ∙ ap (or_else (part_of h a z)) (sym (pr z)))
    ∙ sym (q.bytes ∙ ap (λ g. join_of g a u) qh)

-- A record with itself: itself less its tail, in whatever room there is.
or_itself : (u : List ℕ) → or_else u u ≡ u
unfolding or_else
or_itself [] = refl
or_itself (x ∷ u) = refl

pub join_itself : (s : List ℕ) (h : Header) (t : ℕ) → read_header s ≡ Ok h → (read_parts h s).ending ≡ tail t → (room : ℕ)
    → joining s s room ≡ fitted (take (length s - t) s) room
unfolding joined_bytes joined_part
join_itself s h t r e room =
    let s_read : Readable s h = record { read = r; cut = t; ending = e } in
    joining_joinable (record { one = s_read; two = s_read; front = refl; agree = λ x. refl }) room
    ∙ ap (λ l. fitted l room)
    (ap (λ f. take h.end s ++ flat f (all_names h)) (fun_ext (λ x. or_itself (part_of h s x)))
    ∙ ap (λ l. take h.end s ++ l) (sym (record_by_name h s))
    ∙ record_whole s h t (header_within (read_header_stands s h r)) e)

-- Without a tail it is itself.
pub join_itself_whole : (s : List ℕ) (h : Header) → read_header s ≡ Ok h → (read_parts h s).ending ≡ tail 0 → (room : ℕ) → length s ≤ room
    → joining s s room ≡ accepted s
unfolding fitted unless
join_itself_whole s h r e room l =
    let all : take (length s - 0) s ≡ s = take_all (length s - 0) s (omega arith) in
    join_itself s h 0 r e room ∙ rw (all, le-leb (length s) room l)
