-- The tale of a connection: it goes on record by record, its fields are the folds of the journal, and what is not about
-- the connection leaves it as it was.
use Rattle.std.proofs.Common.{◌≡◌, ℕ, ◌+◌, List, [], ◌∷◌, ◌++◌, Bool, true, false, cond, ◌&&◌, ◌||◌, Some, None, refl, ap, ◌∙◌, nat_eq}
use Rattle.std.proofs.lemmas.List.Sums.{fold-append}
use Rattle.std.specs.List.{fold}
use Rattle.lard_base.specs.declared.place.Place.{Place}
use Rattle.lard_base.specs.declared.place.Place.TheVariants.{Front, Node, Client}
use Rattle.lard_history.specs.Journal.{Assignments, Tale, about, accepted, accepted_step, assigned, assignments, assignments_of, assignments_step, assignments_taken, closed_step, epoch_step, event_shuts, fin_sent, fin_step, fin_to, goes_to, has_closed, home_told, home_step, is_cluster, is_in, is_touched, last_epoch, numbers_of, numbers_step, owner, owner_step, reset_step, said_fin, served, served_bytes, served_bytes_step, served_step, tale, tale_step, told_on, touched_step, untold, waits, was_reset, wrote, wrote_step}
use Rattle.lard_history.proofs.Each.{Each}
use Rattle.lard_journal.specs.declared.rec.Rec.{Rec}
use Rattle.lard_journal.specs.declared.rec.Rec.TheVariants as rec
use Rattle.lard_segment.specs.declared.segment.Dir.TheVariants.{ToClient}
use Rattle.lard_segment.specs.Segment.{decoded}

-- ---- more records

pub told_on-append : (c : ℕ) (t : Tale) (xs ys : List Rec) → told_on c t (xs ++ ys) ≡ told_on c (told_on c t xs) ys
told_on-append c t xs ys = fold-append (tale_step c) t xs ys

-- ---- the fields

-- a fold of one field is the field of the fold
field_of : {A : Type 0} (field : Tale → A) (step : A → Rec → A) (c : ℕ) → ((t : Tale) (r : Rec) → step (field t) r ≡ field (tale_step c t r))
    → (t : Tale) (rs : List Rec) → fold step (field t) rs ≡ field (told_on c t rs)
field_of field step c same t [] = refl
field_of field step c same t (r ∷ rs) = ap (λ a. fold step a rs) (same t r) ∙ field_of field step c same (tale_step c t r) rs

module _ (J : List Rec) (c : ℕ) where
  pub numbers-tale : numbers_of J c ≡ (tale J c).numbers
  unfolding tale
  numbers-tale = field_of (λ t. t.numbers) (numbers_step c) c (λ t r. refl) untold J

  pub wrote-tale : wrote J c ≡ (tale J c).wrote
  unfolding tale
  wrote-tale = field_of (λ t. t.wrote) (wrote_step c) c (λ t r. refl) untold J

  pub accepted-tale : accepted J c ≡ (tale J c).accepted
  unfolding tale
  accepted-tale = field_of (λ t. t.accepted) (accepted_step c) c (λ t r. refl) untold J

  pub owner-tale : owner J c ≡ (tale J c).owner
  unfolding tale
  owner-tale = field_of (λ t. t.owner) (owner_step c) c (λ t r. refl) untold J

  pub epoch-tale : last_epoch J c ≡ (tale J c).epoch
  unfolding tale
  epoch-tale = field_of (λ t. t.epoch) (epoch_step c) c (λ t r. refl) untold J

  pub served-tale : served J c ≡ (tale J c).served
  unfolding tale
  served-tale = field_of (λ t. t.served) (served_step c) c (λ t r. refl) untold J

  pub served_bytes-tale : served_bytes J c ≡ (tale J c).served_bytes
  unfolding tale
  served_bytes-tale = field_of (λ t. t.served_bytes) (served_bytes_step c) c (λ t r. refl) untold J

  pub reset-tale : was_reset J c ≡ (tale J c).was_reset
  unfolding tale
  reset-tale = field_of (λ t. t.was_reset) (reset_step c) c (λ t r. refl) untold J

  pub fin-tale : fin_sent J c ≡ (tale J c).fin_sent
  unfolding tale
  fin-tale = field_of (λ t. t.fin_sent) (fin_step c) c (λ t r. refl) untold J

  pub closed-tale : has_closed J c ≡ (tale J c).has_closed
  unfolding tale
  closed-tale = field_of (λ t. t.has_closed) (closed_step c) c (λ t r. refl) untold J

  pub home-tale : home_told J c ≡ (tale J c).home
  unfolding tale
  home-tale = field_of (λ t. t.home) (home_step c) c (λ t r. refl) untold J

  pub assignments-tale : assignments J c ≡ assignments_of (tale J c)
  unfolding tale
  assignments-tale = field_of assignments_of (assignments_step c) c (λ t r. refl) untold J

  pub assigned-tale : assigned J c ≡ (tale J c).assigned
  assigned-tale = ap (λ s. s.list) assignments-tale

  pub touched-tale : is_touched J c ≡ (tale J c).touched
  unfolding tale
  touched-tale = field_of (λ t. t.touched) (touched_step c) c (λ t r. refl) untold J

-- ---- records about others

cond-not : {A : Type 0} (b : Bool) (x y : A) → b ≡ false → cond b x y ≡ y
cond-not b x y e = ap (λ t. cond t x y) e

or-not : (b d : Bool) → d ≡ false → b || d ≡ b
or-not true d e = refl
or-not false d e = e

fin-not : (c : ℕ) (from to : Place) (bytes : List ℕ) → is_cluster from && goes_to c to ≡ false → is_cluster from && fin_to c to bytes ≡ false
fin-not c (Client d) to bytes e = refl
fin-not c Front (Client d) bytes e = ap (λ b. b && said_fin (decoded bytes c ToClient)) e
fin-not c (Node n) (Client d) bytes e = ap (λ b. b && said_fin (decoded bytes c ToClient)) e
fin-not c Front Front bytes e = refl
fin-not c Front (Node m) bytes e = refl
fin-not c (Node n) Front bytes e = refl
fin-not c (Node n) (Node m) bytes e = refl

-- a record that is not about a connection changes nothing of its tale
pub other : (c : ℕ) (t : Tale) (r : Rec) → about c r ≡ false → tale_step c t r ≡ t
other c t (rec.Event i e) n = ap (λ b. record t { has_closed = b }) (or-not t.has_closed (event_shuts c e) n)
other c t (rec.Inner e) n = ap (λ b. record t { has_closed = b }) (or-not t.has_closed (event_shuts c e) n)
other c t (rec.Aborted d) n = ap (λ b. record t { has_closed = b }) (or-not t.has_closed (nat_eq d c) n)
other c t (rec.Eof d) n = ap (λ b. record t { has_closed = b }) (or-not t.has_closed (nat_eq d c) n)
other c t (rec.Opened d isn iss wnd mss) n = ap (λ v. record t { numbers = v }) (cond-not (nat_eq d c) (Some (record { isn = isn; iss = iss })) t.numbers n)
other c t (rec.Wrote d bytes) n = ap (λ v. record t { wrote = v }) (cond-not (nat_eq d c) (t.wrote ++ bytes) t.wrote n)
other c t (rec.Accepted d bytes) n = ap (λ v. record t { accepted = v }) (cond-not (nat_eq d c) (t.accepted ++ bytes) t.accepted n)
other c t (rec.Took place d epoch) n =
    let same = cond-not (nat_eq d c) (assignments_taken place (assignments_of t)) (assignments_of t) n in
    λ i. record t { owner = cond-not (nat_eq d c) (Some place) t.owner n i; epoch = cond-not (nat_eq d c) epoch.0 t.epoch n i; assigned = (same i).list; fresh = (same i).fresh }
other c t (rec.Gave place d epoch) n = ap (λ v. record t { owner = v }) (cond-not (nat_eq d c) None t.owner n)
other c t (rec.Waits d) n = ap (λ b. record t { waits = b }) (cond-not (nat_eq d c) true t.waits n)
other c t (rec.Admitted d) n = λ i. record t { is_in = cond-not (nat_eq d c) true t.is_in n i; waits = cond-not (nat_eq d c) false t.waits n i }
other c t (rec.Released d) n = λ i. record t { home = cond-not (nat_eq d c) None t.home n i; is_in = cond-not (nat_eq d c) false t.is_in n i }
other c t (rec.AssignedFirst d r path m add remove) n =
    let same = cond-not (nat_eq d c) (record { list = t.assigned ++ (path, m) ∷ []; fresh = true }) (assignments_of t) n in
    λ i. record t { home = cond-not (nat_eq d c) (Some m) t.home n i; assigned = (same i).list; fresh = (same i).fresh }
other c t (rec.AssignedLater d r path m add size queue) n =
    ap (λ s. record t { assigned = s.list; fresh = s.fresh }) (cond-not (nat_eq d c) (record { list = t.assigned ++ (path, m) ∷ []; fresh = false }) (assignments_of t) n)
other c t (rec.Served place d r code size via) n =
    λ i. record t { served = cond-not (nat_eq d c) (t.served + 1) t.served n i; served_bytes = cond-not (nat_eq d c) (t.served_bytes + size) t.served_bytes n i }
other c t (rec.Reset place d total) n = ap (λ b. record t { was_reset = b }) (cond-not (nat_eq d c) true t.was_reset n)
other c t (rec.Injected d) n = ap (λ b. record t { touched = b }) (cond-not (nat_eq d c) true t.touched n)
other c t (rec.Sent k from to bytes) n = ap (λ b. record t { fin_sent = b }) (or-not t.fin_sent (is_cluster from && fin_to c to bytes) (fin-not c from to bytes n))
other c t _ n = refl

pub others : (c : ℕ) (t : Tale) (rs : List Rec) → Each (λ r. about c r ≡ false) rs → told_on c t rs ≡ t
others c t [] none = refl
others c t (r ∷ rs) none = ap (λ u. told_on c u rs) (other c t r none.0) ∙ others c t rs none.1
