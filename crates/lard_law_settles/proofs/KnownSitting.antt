-- What the law of places gives a settle: nodes decided of no later epoch than the front end's, whoever has a connection was offered it,
-- an end that comes new is of a stay that is over, and an Offer that is new is the one that is awaited.
use Rattle.std.proofs.Common.{◌≡◌, ◌⊎◌, ◌≤◌, ◌<◌, ◌==◌, ◌&&◌, nat_lt, ℕ, Bool, true, false, cond, Option, Some, None, ⊎_elim, refl, sym, ap, ◌∙◌, subst, arith}
use Rattle.std.proofs.lemmas.Bool.{and_parts, cases_eq, cond-true, eqb-true, eq-eqb, ltb-true}
use Rattle.lard_bound.specs.Seats.{Gone, seat_away, seat_decided, seat_of, seat_over_by, seat_there, seat_untaken}
use Rattle.lard_law_connections.specs.Places.{IsComing, IsDecided, IsLeft, IsOffered, IsOver, IsPast, IsThere, Offers, OthersArePast, Owning, Sits, StageSits}
use Rattle.lard_law_view.specs.Prelude.{BackConn, BackRow, ControlBlock, FrontConn, FrontPart, FrontRow, NodePart, Part, front_rest, is_away, is_gone, offer_answer}
use Rattle.lard_handoff_back.specs.declared.row.BackConn.TheVariants as back
use Rattle.lard_handoff_back.specs.declared.table.Adopt.TheVariants.{Again, New, Stale}
use Rattle.lard_handoff_front.specs.declared.row.FrontConn.TheVariants as stage
use Rattle.lard_law_progress.proofs.Given.{IsAt, IsFresh, IsGone, IsRefusedWithin, IsWithin}
use Rattle.lard_law_progress.proofs.Seating.{seat-at}

-- ---- epochs

past-within : (e : ℕ) (o : Option BackRow) → IsPast e o → IsWithin e o
past-within e None h = tt
past-within e (Some r) h = let l : r.epoch.0 < e = h.0 in omega (arith, l)

there-within : (n e : ℕ) (w : Owning) (o : Option BackRow) → IsThere n e w o → IsWithin e o
there-within n e w None h = tt
there-within n e w (Some r) h = let l : r.epoch.0 ≡ e = h.0 in omega (arith, l)

-- what is past was not decided, and has nothing here
past-undecided : (e : ℕ) (o : Option BackRow) → IsPast e o → IsDecided e o → ⊥
past-undecided e None past decided = decided
past-undecided e (Some r) past decided = let l : r.epoch.0 < e = past.0 in let d : e ≤ r.epoch.0 = decided in absurd (omega (arith, l, d))

past-none : (e d : ℕ) (b : ControlBlock) (o : Option BackRow) → o ≡ Some (record { stage = back.Here b; epoch = record { 0 = d } }) → IsPast e o → ⊥
past-none e d b o is past = let h : IsPast e (Some (record { stage = back.Here b; epoch = record { 0 = d } })) = subst (IsPast e) is past in h.1

module _ (w : Owning) (nodes : ℕ → NodePart) where
  away-fresh : (n e : ℕ) → OthersArePast n e nodes → IsWithin e (nodes n).row → (m : ℕ) → IsWithin e (nodes m).row
  away-fresh n e others its m = ⊎_elim
      (λ (same : m ≡ n). subst (λ (i : ℕ). IsWithin e (nodes i).row) (sym same) its)
      (λ (other : m ≡ n → ⊥). past-within e (nodes m).row (others m other))
      (cases_eq m n)

  stage-fresh : (e : ℕ) (s : FrontConn) → StageSits e w nodes s → (m : ℕ) → IsWithin e (nodes m).row
  stage-fresh e stage.Lent h m = absurd h
  stage-fresh e (stage.Offering n d) h m = away-fresh n e h.2 (⊎_elim
      (λ (c : IsComing e w (nodes n).row). past-within e (nodes n).row c.2)
      (λ (t : IsThere n e w (nodes n).row). there-within n e w (nodes n).row t)
      h.3) m
  stage-fresh e (stage.Moved n d) h m = away-fresh n e h.2 (there-within n e w (nodes n).row h.3) m
  stage-fresh e _ h m = past-within e (nodes m).row (h.1.1 m)

  -- none refused it
  pub sits-fresh : ((n : ℕ) → (nodes n).beside.refused ≡ None) → (o : Option FrontRow) → Sits w nodes o → IsFresh nodes o
  sits-fresh none None h = tt
  sits-fresh none (Some row) h = λ n. (stage-fresh row.epoch.0 row.stage h.0 n, subst (IsRefusedWithin row.epoch.0) (sym (none n)) tt)

-- ---- who has a connection was offered it

module _ (w : Owning) (f : FrontPart) (nodes : ℕ → NodePart) (sits : Sits w nodes f.row) (n e : ℕ) (b : ControlBlock) (is : (nodes n).row ≡ Some (record { stage = back.Here b; epoch = record { 0 = e } })) where
  there-epoch : (m d : ℕ) → m ≡ n → IsThere m d w (nodes m).row → e ≡ d
  there-epoch m d same h =
      let at : (nodes m).row ≡ Some (record { stage = back.Here b; epoch = record { 0 = e } }) = ap (λ i. (nodes i).row) same ∙ is in
      let t : IsThere m d w (Some (record { stage = back.Here b; epoch = record { 0 = e } })) = subst (IsThere m d w) at h in
      t.0

  its-node : (m d : ℕ) → OthersArePast m d nodes → m ≡ n
  its-node m d others = ⊎_elim (λ (same : n ≡ m). sym same) (λ (other : n ≡ m → ⊥). absurd (past-none d e b (nodes n).row is (others n other))) (cases_eq n m)

  coming-none : (m d : ℕ) → m ≡ n → IsComing d w (nodes m).row → ⊥
  coming-none m d same h = past-none d e b (nodes m).row (ap (λ i. (nodes i).row) same ∙ is) h.2

  at-stage : (row : FrontRow) → f.row ≡ Some row → (s : FrontConn) → row.stage ≡ s → StageSits row.epoch.0 w nodes s → IsAt f n e
  at-stage row at stage.Lent eq h = absurd h
  at-stage row at (stage.Offering m d) eq h =
      let same = its-node m row.epoch.0 h.2 in
      let there = ⊎_elim (λ (c : IsComing row.epoch.0 w (nodes m).row). absurd (coming-none m row.epoch.0 same c)) (λ (t : IsThere m row.epoch.0 w (nodes m).row). there-epoch m row.epoch.0 same t) h.3 in
      let epoch : d.0 ≡ e = h.1 ∙ sym there in
      record { told = false; row = row; front = at; with_ = eq ∙ (λ i. stage.Offering (same i) (record { 0 = epoch i })) }
  at-stage row at (stage.Moved m d) eq h =
      let same = its-node m row.epoch.0 h.2 in
      let there = there-epoch m row.epoch.0 same h.3 in
      let epoch : d.0 ≡ e = h.1 ∙ sym there in
      record { told = true; row = row; front = at; with_ = eq ∙ (λ i. stage.Moved (same i) (record { 0 = epoch i })) }
  at-stage row at _ eq h = absurd (past-none row.epoch.0 e b (nodes n).row is (h.1.1 n))

  pub sits-at : IsAt f n e
  sits-at = go f.row refl sits where
    go : (o : Option FrontRow) → f.row ≡ o → Sits w nodes o → IsAt f n e
    go None at h = absurd (past-none 0 e b (nodes n).row is (h.1 n))
    go (Some row) at h = at-stage row at row.stage refl h.0

-- ---- an end that comes, of an epoch in which the front end takes it for away

over-decided : (e : ℕ) (o : Option BackRow) → IsOver e o → IsDecided e o
over-decided e None h = h
over-decided e (Some r) h = h.0

left-gone : (told : Bool) (n e count : ℕ) (q : NodePart) (s : BackConn) → q.beside.returned ≡ None → IsLeft s → seat_there told n e count q s ≡ Gone told n e
left-gone told n e count q (back.Here b) none h = absurd h
left-gone told n e count q back.Out none h = absurd h
left-gone told n e count q back.Ended none h = ap (seat_over_by told n e) none
left-gone told n e count q back.Gone none h = ap (seat_over_by told n e) none

over-gone : (w : Owning) (told : Bool) (n e count : ℕ) (q : NodePart) (o : Option BackRow) → q.beside.returned ≡ None → IsThere n e w o → IsOver e o
    → seat_decided told n e count q o ≡ Gone told n e
over-gone w told n e count q None none there over = absurd there
over-gone w told n e count q (Some r) none there over =
    cond-true (r.epoch.0 == e) (seat_there told n e count q r.stage) (seat_untaken n e count q) (eq-eqb r.epoch.0 e there.0)
    ∙ left-gone told n e count q r.stage none (over.1 there.0)

module _ (w : Owning) (p : Part) (n e : ℕ) (none : (m : ℕ) → (p.nodes m).beside.returned ≡ None) (over : IsOver e (p.nodes n).row) where
  over-node : (m d : ℕ) → e ≡ d → OthersArePast m d p.nodes → n ≡ m
  over-node m d same others = ⊎_elim
      (λ (eq : n ≡ m). eq)
      (λ (other : n ≡ m → ⊥). absurd (past-undecided d (p.nodes n).row (others n other) (subst (λ i. IsDecided i (p.nodes n).row) same (over-decided e (p.nodes n).row over))))
      (cases_eq n m)

  over-seat : (told : Bool) (m d : ℕ) → e ≡ d → n ≡ m → IsThere m d w (p.nodes m).row → seat_away told m d (front_rest p.front.rest).count (p.nodes m) ≡ Gone told m d
  over-seat told m d same eq there =
      let o : IsOver d (p.nodes m).row = subst (λ i. IsOver d (p.nodes i).row) eq (subst (λ i. IsOver i (p.nodes n).row) same over) in
      over-gone w told m d (front_rest p.front.rest).count (p.nodes m) (p.nodes m).row (none m) there o

  gone-stage : (row : FrontRow) → p.front.row ≡ Some row → (s : FrontConn) → row.stage ≡ s → StageSits row.epoch.0 w p.nodes s → is_away e s ≡ true → IsGone (seat_of p)
  gone-stage row at stage.Lent is h t = absurd h
  gone-stage row at (stage.Offering m d) is h t =
      let same : e ≡ d.0 = sym (eqb-true d.0 e t) in
      let others : OthersArePast m d.0 p.nodes = subst (λ i. OthersArePast m i p.nodes) (sym h.1) h.2 in
      let eq = over-node m d.0 same others in
      let undecided : IsComing row.epoch.0 w (p.nodes m).row → ⊥ = λ c. past-undecided row.epoch.0 (p.nodes m).row c.2
      (subst (λ i. IsDecided i (p.nodes m).row) (same ∙ h.1) (subst (λ i. IsDecided e (p.nodes i).row) eq (over-decided e (p.nodes n).row over))) in
      let there : IsThere m d.0 w (p.nodes m).row = subst (λ i. IsThere m i w (p.nodes m).row) (sym h.1) (⊎_elim
      (λ (c : IsComing row.epoch.0 w (p.nodes m).row). absurd (undecided c)) (λ (u : IsThere m row.epoch.0 w (p.nodes m).row). u) h.3) in
      record { told = false; n = m; e = d.0; is = seat-at p row (stage.Offering m d) at is ∙ over-seat false m d.0 same eq there }
  gone-stage row at (stage.Moved m d) is h t =
      let same : e ≡ d.0 = sym (eqb-true d.0 e t) in
      let others : OthersArePast m d.0 p.nodes = subst (λ i. OthersArePast m i p.nodes) (sym h.1) h.2 in
      let eq = over-node m d.0 same others in
      let there : IsThere m d.0 w (p.nodes m).row = subst (λ i. IsThere m i w (p.nodes m).row) (sym h.1) h.3 in
      record { told = true; n = m; e = d.0; is = seat-at p row (stage.Moved m d) at is ∙ over-seat true m d.0 same eq there }
  gone-stage row at _ is h t = absurd (let bad : false ≡ true = t in cc)

  pub sits-gone : (row : FrontRow) → p.front.row ≡ Some row → Sits w p.nodes p.front.row → is_away e row.stage ≡ true → IsGone (seat_of p)
  sits-gone row at sits t = let h : Sits w p.nodes (Some row) = subst (Sits w p.nodes) at sits in gone-stage row at row.stage refl h.0 t

-- ---- an Offer that is new

-- where the node has had the connection, that was in an epoch before, and is over
pub new-parts : (e : ℕ) (r : BackRow) → offer_answer e (Some r) ≡ New → (r.epoch.0 < e) × (is_gone r.stage ≡ true)
new-parts e r new = go (r.epoch.0 == e) new where
  left : (g : Bool) → (nat_lt r.epoch.0 e && is_gone r.stage) ≡ g → cond g New Stale ≡ New → (r.epoch.0 < e) × (is_gone r.stage ≡ true)
  left true t h = let p = and_parts (nat_lt r.epoch.0 e) (is_gone r.stage) t in (ltb-true r.epoch.0 e p.0, p.1)
  left false t h = absurd (let bad : Stale ≡ New = h in cc)

  go : (b : Bool) → cond b Again (cond (nat_lt r.epoch.0 e && is_gone r.stage) New Stale) ≡ New → (r.epoch.0 < e) × (is_gone r.stage ≡ true)
  go true h = absurd (let bad : Again ≡ New = h in cc)
  go false h = left (nat_lt r.epoch.0 e && is_gone r.stage) refl h

pub new-undecided : (e : ℕ) (o : Option BackRow) → offer_answer e o ≡ New → IsDecided e o → ⊥
new-undecided e None new decided = decided
new-undecided e (Some r) new decided = let l = (new-parts e r new).0 in let d : e ≤ r.epoch.0 = decided in absurd (omega (arith, l, d))

-- the row of a connection that is offered so
pub record IsOfferedAt (f : FrontPart) (n e : ℕ) : Type 0 where
  pub row : FrontRow
  pub front : f.row ≡ Some row
  pub with_ : row.stage ≡ stage.Offering n (record { 0 = e })

offers-stage : (f : FrontPart) (n e : ℕ) (row : FrontRow) → f.row ≡ Some row → (s : FrontConn) → row.stage ≡ s → Offers n e s → IsOfferedAt f n e
offers-stage f n e row at (stage.Offering m d) is h = record { row = row; front = at; with_ = is ∙ (λ i. stage.Offering (h.0 i) (record { 0 = h.1 i })) }
offers-stage f n e row at _ is h = absurd h

pub said-offered : (f : FrontPart) (n e : ℕ) (o : Option BackRow) → offer_answer e o ≡ New → IsDecided e o ⊎ IsOffered n e f.row → IsOfferedAt f n e
said-offered f n e o new h = ⊎_elim
    (λ (d : IsDecided e o). absurd (new-undecided e o new d))
    (λ (i : IsOffered n e f.row). go f.row refl i)
    h
  where
    go : (r : Option FrontRow) → f.row ≡ r → IsOffered n e r → IsOfferedAt f n e
    go None at i = absurd i
    go (Some row) at i = offers-stage f n e row at row.stage refl i
