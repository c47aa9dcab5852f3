-- From what each connection sees to the whole journal: folds, and laws of a record.
use Rattle.std.proofs.Common.{◌≡◌, ◌≢◌, ℕ, List, [], ◌∷◌, ◌++◌, Bool, true, false, cond, ◌&&◌, Option, Some, None, refl, sym, ap, ◌∙◌, subst, append_assoc, append-nil, nat_eq}
use Rattle.std.proofs.lemmas.List.Sums.{fold-append}
use Rattle.std.specs.List.{fold}
use Rattle.lard_base.specs.declared.event.Event.{Event}
use Rattle.lard_base.specs.declared.event.Event.TheVariants as event
use Rattle.lard_base.specs.declared.place.Place.{Place}
use Rattle.lard_base.specs.declared.place.Place.TheVariants.{Front, Node, Client}
use Rattle.lard_history.specs.Journal.{Tale, about, event_shuts, goes_to, is_cluster, tale, tale_step, untold}
use Rattle.lard_history.specs.Laws.{EachMay}
use Rattle.lard_history.specs.Own.{EachRow, Seen, Row, Came, came_seen, conn_of, event_conn, net_of, net_step, one_of, own, plain, seen_of, seen_on, seen_step, tale_of, whose}
use Rattle.lard_history.proofs.Seeing.{by_number, other_number, own-append, seen-mine, seen-other}
use Rattle.lard_history.proofs.Tales.{other}
use Rattle.lard_journal.specs.declared.rec.Rec.{Rec}
use Rattle.lard_journal.specs.declared.rec.Rec.TheVariants as rec
use Rattle.lard_net.specs.Net.{Packet, packet_at}

-- ---- folds of the journal are folds of what the connection sees

-- what a record of nobody's is to a connection: nothing, or a packet that came
seen-nobody : {A : Type 0} (step : A → Rec → A) (a : A) (q : ℕ) (net : List Packet) (r : Rec) → whose r ≡ None → fold (seen_step step) a (seen_of q net r) ≡ a
seen-nobody step a q net (rec.Got k) e = go (packet_at net k) where
  one : (o : Option ℕ) (s : Seen) → seen_step step a s ≡ a → fold (seen_step step) a (one_of q o s) ≡ a
  one None s h = refl
  one (Some c) s h = by_bool (nat_eq c q) where
    by_bool : (b : Bool) → fold (seen_step step) a (cond b (s ∷ []) []) ≡ a
    by_bool true = h
    by_bool false = refl

  go : (o : Option Packet) → fold (seen_step step) a (came_seen q o) ≡ a
  go None = refl
  go (Some p) = one (conn_of p.from p.to p.bytes) (Came _) refl
seen-nobody step a q net r e = ap (λ o. fold (seen_step step) a (one_of q o (Row (plain r)))) e

-- a fold that a connection's own records make, as it sees them
pub record IsOwnFold {A : Type 0} (c : ℕ) (step : A → Rec → A) : Type 0 where
  pub mine : (a : A) (r : Rec) → whose r ≡ Some c → step a (plain r) ≡ step a r
  pub others : (a : A) (r : Rec) (d : ℕ) → d ≢ c → whose r ≡ Some d → step a r ≡ a
  pub nobody : (a : A) (r : Rec) → whose r ≡ None → step a r ≡ a

module _ {A : Type 0} (c : ℕ) (step : A → Rec → A) (is : IsOwnFold c step) where
  one-record : (a : A) (net : List Packet) (r : Rec) → step a r ≡ fold (seen_step step) a (seen_of c net r)
  one-record a net r = go (whose r) refl where
    go : (o : Option ℕ) → whose r ≡ o → step a r ≡ fold (seen_step step) a (seen_of c net r)
    go None e = is.nobody a r e ∙ sym (seen-nobody step a c net r e)
    go (Some d) e = by_number (step a r ≡ fold (seen_step step) a (seen_of c net r)) d c
        (λ same. let f : whose r ≡ Some c = e ∙ ap Some same in sym (is.mine a r f) ∙ sym (ap (fold (seen_step step) a) (seen-mine c net r f)))
        (λ n. is.others a r d n e ∙ sym (ap (fold (seen_step step) a) (seen-other d c net r (λ s. n (sym s)) e)))

  pub fold-seen : (a : A) (net : List Packet) (rs : List Rec) → fold step a rs ≡ fold (seen_step step) a (seen_on c net rs)
  fold-seen a net [] = refl
  fold-seen a net (r ∷ rs) =
      ap (λ b. fold step b rs) (one-record a net r) ∙ fold-seen (fold (seen_step step) a (seen_of c net r)) (net_step net r) rs
      ∙ sym (fold-append (seen_step step) a (seen_of c net r) (seen_on c (net_step net r) rs))

  pub fold-own : (a : A) (J : List Rec) → fold step a J ≡ fold (seen_step step) a (own c J)
  unfolding own
  fold-own a J = fold-seen a [] J

-- ---- the tale

shuts-other : (c d : ℕ) (e : Event) → d ≢ c → event_conn e ≡ Some d → event_shuts c e ≡ false
shuts-other c d (event.Shut q) n e = let same : q ≡ d = cc in ap (λ k. nat_eq k c) same ∙ other_number d c n
shuts-other c d _ n e = refl

shuts-nobody : (c : ℕ) (e : Event) → event_conn e ≡ None → event_shuts c e ≡ false
shuts-nobody c (event.Shut q) e = let no : Some q ≡ None = e in absurd cc
shuts-nobody c _ e = refl

sent-other : (c d : ℕ) (from to : Place) (bytes : List ℕ) → d ≢ c → conn_of from to bytes ≡ Some d → is_cluster from && goes_to c to ≡ false
sent-other c d (Client q) to bytes n e = refl
sent-other c d Front (Client q) bytes n e = let same : q ≡ d = cc in ap (λ k. nat_eq k c) same ∙ other_number d c n
sent-other c d (Node i) (Client q) bytes n e = let same : q ≡ d = cc in ap (λ k. nat_eq k c) same ∙ other_number d c n
sent-other c d Front Front bytes n e = refl
sent-other c d Front (Node j) bytes n e = refl
sent-other c d (Node i) Front bytes n e = refl
sent-other c d (Node i) (Node j) bytes n e = refl

sent-nobody : (c : ℕ) (from to : Place) (bytes : List ℕ) → conn_of from to bytes ≡ None → is_cluster from && goes_to c to ≡ false
sent-nobody c (Client q) to bytes e = refl
sent-nobody c Front (Client q) bytes e = let no : Some q ≡ None = e in absurd cc
sent-nobody c (Node i) (Client q) bytes e = let no : Some q ≡ None = e in absurd cc
sent-nobody c Front Front bytes e = refl
sent-nobody c Front (Node j) bytes e = refl
sent-nobody c (Node i) Front bytes e = refl
sent-nobody c (Node i) (Node j) bytes e = refl

-- a record of another connection is not about this one
about-other : (c d : ℕ) (r : Rec) → d ≢ c → whose r ≡ Some d → about c r ≡ false
about-other c d (rec.Event i e) n h = shuts-other c d e n h
about-other c d (rec.Inner e) n h = shuts-other c d e n h
about-other c d (rec.Sent k from to bytes) n h = sent-other c d from to bytes n h
about-other c d (rec.Opened q isn iss wnd mss) n h = let same : q ≡ d = cc in ap (λ k. nat_eq k c) same ∙ other_number d c n
about-other c d (rec.Wrote q bytes) n h = let same : q ≡ d = cc in ap (λ k. nat_eq k c) same ∙ other_number d c n
about-other c d (rec.Accepted q bytes) n h = let same : q ≡ d = cc in ap (λ k. nat_eq k c) same ∙ other_number d c n
about-other c d (rec.Eof q) n h = let same : q ≡ d = cc in ap (λ k. nat_eq k c) same ∙ other_number d c n
about-other c d (rec.Aborted q) n h = let same : q ≡ d = cc in ap (λ k. nat_eq k c) same ∙ other_number d c n
about-other c d (rec.Took place q epoch) n h = let same : q ≡ d = cc in ap (λ k. nat_eq k c) same ∙ other_number d c n
about-other c d (rec.Gave place q epoch) n h = let same : q ≡ d = cc in ap (λ k. nat_eq k c) same ∙ other_number d c n
about-other c d (rec.Waits q) n h = let same : q ≡ d = cc in ap (λ k. nat_eq k c) same ∙ other_number d c n
about-other c d (rec.Admitted q) n h = let same : q ≡ d = cc in ap (λ k. nat_eq k c) same ∙ other_number d c n
about-other c d (rec.Released q) n h = let same : q ≡ d = cc in ap (λ k. nat_eq k c) same ∙ other_number d c n
about-other c d (rec.AssignedFirst q r path m add remove) n h = let same : q ≡ d = cc in ap (λ k. nat_eq k c) same ∙ other_number d c n
about-other c d (rec.AssignedLater q r path m add size queue) n h = let same : q ≡ d = cc in ap (λ k. nat_eq k c) same ∙ other_number d c n
about-other c d (rec.Served place q r code size via) n h = let same : q ≡ d = cc in ap (λ k. nat_eq k c) same ∙ other_number d c n
about-other c d (rec.Reset place q total) n h = let same : q ≡ d = cc in ap (λ k. nat_eq k c) same ∙ other_number d c n
about-other c d (rec.Injected q) n h = let same : q ≡ d = cc in ap (λ k. nat_eq k c) same ∙ other_number d c n
about-other c d _ n h = refl

about-nobody : (c : ℕ) (r : Rec) → whose r ≡ None → about c r ≡ false
about-nobody c (rec.Event i e) h = shuts-nobody c e h
about-nobody c (rec.Inner e) h = shuts-nobody c e h
about-nobody c (rec.Sent k from to bytes) h = sent-nobody c from to bytes h
about-nobody c (rec.Opened q isn iss wnd mss) h = let no : Some q ≡ None = h in absurd cc
about-nobody c (rec.Wrote q bytes) h = let no : Some q ≡ None = h in absurd cc
about-nobody c (rec.Accepted q bytes) h = let no : Some q ≡ None = h in absurd cc
about-nobody c (rec.Eof q) h = let no : Some q ≡ None = h in absurd cc
about-nobody c (rec.Aborted q) h = let no : Some q ≡ None = h in absurd cc
about-nobody c (rec.Took place q epoch) h = let no : Some q ≡ None = h in absurd cc
about-nobody c (rec.Gave place q epoch) h = let no : Some q ≡ None = h in absurd cc
about-nobody c (rec.Waits q) h = let no : Some q ≡ None = h in absurd cc
about-nobody c (rec.Admitted q) h = let no : Some q ≡ None = h in absurd cc
about-nobody c (rec.Released q) h = let no : Some q ≡ None = h in absurd cc
about-nobody c (rec.AssignedFirst q r path m add remove) h = let no : Some q ≡ None = h in absurd cc
about-nobody c (rec.AssignedLater q r path m add size queue) h = let no : Some q ≡ None = h in absurd cc
about-nobody c (rec.Served place q r code size via) h = let no : Some q ≡ None = h in absurd cc
about-nobody c (rec.Reset place q total) h = let no : Some q ≡ None = h in absurd cc
about-nobody c (rec.Injected q) h = let no : Some q ≡ None = h in absurd cc
about-nobody c _ h = refl

plain-tells : (c : ℕ) (t : Tale) (r : Rec) → tale_step c t (plain r) ≡ tale_step c t r
plain-tells c t (rec.Event i e) = refl
plain-tells c t (rec.Sent k from to bytes) = refl
plain-tells c t _ = refl

pub tale-is-own : (c : ℕ) → IsOwnFold c (tale_step c)
tale-is-own c = record {
  mine = λ t r e. plain-tells c t r;
  others = λ t r d n e. other c t r (about-other c d r n e);
  nobody = λ t r e. other c t r (about-nobody c r e);
}

-- a connection's tale is told by what it sees
pub tale-own : (J : List Rec) (c : ℕ) → tale J c ≡ tale_of c (own c J)
unfolding tale
tale-own J c = fold-own c (tale_step c) (tale-is-own c) untold J

-- ---- laws of a record that look at what its own connection saw

module _ (mine : List Seen → Rec → Type 0) where
  pub each_row-append : (past xs ys : List Seen) → EachRow mine past xs → EachRow mine (past ++ xs) ys → EachRow mine past (xs ++ ys)
  each_row-append past [] ys e f = subst (λ (zs : List Seen). EachRow mine zs ys) (append-nil past) f
  each_row-append past (Row r ∷ xs) ys e f =
      (e.0, each_row-append (past ++ Row r ∷ []) xs ys e.1 (subst (λ (zs : List Seen). EachRow mine zs ys) (sym (append_assoc past (Row r ∷ []) xs)) f))
  each_row-append past (Came l ∷ xs) ys e f =
      each_row-append (past ++ Came l ∷ []) xs ys e (subst (λ (zs : List Seen). EachRow mine zs ys) (sym (append_assoc past (Came l ∷ []) xs)) f)

  pub each_row-behind : (past xs ys : List Seen) → EachRow mine past (xs ++ ys) → EachRow mine (past ++ xs) ys
  each_row-behind past [] ys e = subst (λ (zs : List Seen). EachRow mine zs ys) (sym (append-nil past)) e
  each_row-behind past (Row r ∷ xs) ys e = subst (λ (zs : List Seen). EachRow mine zs ys) (append_assoc past (Row r ∷ []) xs) (each_row-behind (past ++ Row r ∷ []) xs ys e.1)
  each_row-behind past (Came l ∷ xs) ys e = subst (λ (zs : List Seen). EachRow mine zs ys) (append_assoc past (Came l ∷ []) xs) (each_row-behind (past ++ Came l ∷ []) xs ys e)

pub record IsLocal (may : List Rec → Rec → Type 0) (mine : ℕ → List Seen → Rec → Type 0) : Type 0 where
  pub nobody : (J : List Rec) (r : Rec) → whose r ≡ None → may J r
  pub somebody : (J : List Rec) (r : Rec) (c : ℕ) → whose r ≡ Some c → mine c (own c J) (plain r) → may J r

module _ (may : List Rec → Rec → Type 0) (mine : ℕ → List Seen → Rec → Type 0) (local : IsLocal may mine) where
  goes : (past rs : List Rec) → ((c : ℕ) → EachRow (mine c) (own c past) (seen_on c (net_of past) rs)) → EachMay may past rs
  goes past [] h = tt
  goes past (r ∷ rs) h = (head (whose r) refl, goes (past ++ r ∷ []) rs later) where
    net : List Packet
    net = net_step (net_of past) r

    now : (c : ℕ) → own c (past ++ r ∷ []) ≡ own c past ++ seen_of c (net_of past) r
    now c = own-append c past (r ∷ []) ∙ ap (λ l. own c past ++ l) (append-nil (seen_of c (net_of past) r))

    then : net_of (past ++ r ∷ []) ≡ net_step (net_of past) r
    then = fold-append net_step [] past (r ∷ [])

    later : (c : ℕ) → EachRow (mine c) (own c (past ++ r ∷ [])) (seen_on c (net_of (past ++ r ∷ [])) rs)
    later c = subst (λ (l : List Packet). EachRow (mine c) (own c (past ++ r ∷ [])) (seen_on c l rs)) (sym then)
        (subst (λ (l : List Seen). EachRow (mine c) l (seen_on c (net_step (net_of past) r) rs)) (sym (now c))
        (each_row-behind (mine c) (own c past) (seen_of c (net_of past) r) (seen_on c (net_step (net_of past) r) rs) (h c)))

    head : (o : Option ℕ) → whose r ≡ o → may past r
    head None e = local.nobody past r e
    head (Some c) e = local.somebody past r c e
        (subst (λ (l : List Seen). EachRow (mine c) (own c past) (l ++ seen_on c (net_step (net_of past) r) rs)) (seen-mine c (net_of past) r e) (h c)).0

  -- what each connection's own records may say, the journal may say
  pub each_from_own : (J : List Rec) → ((c : ℕ) → EachRow (mine c) [] (own c J)) → EachMay may [] J
  unfolding own
  each_from_own J h = goes [] J h
