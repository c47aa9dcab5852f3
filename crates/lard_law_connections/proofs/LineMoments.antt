-- At the moment of each admission, who is admitted is the first of the line, where somebody waits; and so is who is admitted directly
-- behind a release.
use Rattle.std.proofs.Common.{◌≡◌, ◌≢◌, ◌⊎◌, ℕ, ◌+◌, ◌-◌, nat_eq, not, ◌||◌, Bool, true, false, cond, List, [], ◌∷◌, ◌++◌, map, Option, Some, None, Ok, inl, inr, ⊎_elim, refl, sym, ap, ◌∙◌, subst, append-nil}
use Rattle.std.proofs.lemmas.List.Sums.{fold-append}
use Rattle.std.specs.List.{fold, list_any}
use Rattle.lard_law_view.specs.Prelude.{Client, EachMay, Epoch, Event, Front, Has, HasRule, IsViewed, Machine, Move, Node, Out, Packet, Part, Place, Rec, Row, Rules, Seen, ToCluster, clocked, conn, decoded, lose_at, machine_step, machine_told, over_note, own, packet_at, passed, seen_on, setting_of}
use Rattle.lard_base.specs.declared.event.Event.TheVariants as event
use Rattle.lard_law_connections.proofs.LineClosed.{Behind, ClosedTwo, IsClosedIn, Nowhere, closed-append, closed-each, one-closed, two-closed}
use Rattle.lard_law_connections.proofs.LineHolding.{IsRead}
use Rattle.lard_law_connections.proofs.LineLaw.{IsLined}
use Rattle.lard_law_connections.proofs.LineNotes.{Alone, Answers, Begins, Enters, Goes, IsLater, IsReadOn, Noted, Reads, Returns, Shares, Silent, Waits, Was}
use Rattle.lard_law_connections.proofs.LineStands.{stand_at, stand_step, unknown}
use Rattle.lard_law_connections.proofs.LineSteps.{IsNoEntry, IsQuiet, IsRising, allows-quiet, in-quiet, on-quiet, own-enters, read-quiet}
use Rattle.lard_law_connections.proofs.LineTelling.{stands-told}
use Rattle.lard_law_connections.proofs.LineTurns.{IsEntry, IsNoted, Notes, was_at}
use Rattle.lard_law_connections.specs.LineLaws.{AdmitsBehind, AdmitsHead, MayPass}
use Rattle.lard_law_connections.specs.Line.{Line, leaves, line_left_at, line_left_by, waiting_line, line_step, nobody, all_but}
use Rattle.lard_law_connections.proofs.Calm.{first-calm, first_rows, gifts-calm, last-calm, last_rows, timers-calm, told-journal}
use Rattle.lard_law_connections.proofs.PolicyHomes.{less-any}
use Rattle.lard_law_view.proofs.AnyShape.{IsAct, each-act, one-act, two-act}
use Rattle.lard_law_view.proofs.Saying.{NamesNobody, NotedAt, NotedIn}
use Rattle.lard_law_view.proofs.Shapes.{ActsOnTwo, ClosesBehind, ReadsOn, Shapes, both_out, each_out, move_of, with_rest}
use Rattle.lard_law_view.proofs.ByteLists.{each-before, each-behind}
use Rattle.lard_law_view.proofs.Stepping.{step-has}
use Rattle.lard_law_connections.specs.PolicyLaws.{last_record}
use Rattle.lard_history.proofs.Each.{Each, Each-append, Each-weaker}
use Rattle.lard_history.proofs.Seeing.{by_number, has-before, has-behind, has-each, other_number, own-append, same_number}
use Rattle.lard_journal.specs.declared.rec.Rec.TheVariants as rec
use Rattle.lard_law_view.proofs.OwnRecords.{IsNoClosing, behind}

abbrev has : ℕ → List ℕ → Bool
has c xs = list_any (nat_eq c) xs

-- ---- records behind a line

-- nothing is due behind this record
abbrev pub IsSettled : List ℕ → Option Rec → Type 0
IsSettled ws before = (r : Rec) → AdmitsBehind ws before r

-- Each of these records may pass, behind a line and a record, and so ends the line and the last of them.
abbrev pub PassTo : (List ℕ → Option Rec → Type 0) → Line → Option Rec → List Rec → Type 0
PassTo End l before [] = End l.waits before
PassTo End l before (r ∷ rs) = (AdmitsHead l.waits r × AdmitsBehind l.waits before r) × PassTo End (line_step l r) (Some r) rs

-- behind whatever record behind which nothing is due
abbrev pub Pass : Line → List Rec → Type 0
Pass l rs = (before : Option Rec) → IsSettled l.waits before → PassTo IsSettled l before rs

pass-append : (End Last : List ℕ → Option Rec → Type 0) (l : Line) (before : Option Rec) (xs ys : List Rec) → PassTo End l before xs
    → ((last : Option Rec) → End (fold line_step l xs).waits last → PassTo Last (fold line_step l xs) last ys) → PassTo Last l before (xs ++ ys)
pass-append End Last l before [] ys h k = k before h
pass-append End Last l before (x ∷ xs) ys h k = (h.0, pass-append End Last (line_step l x) (Some x) xs ys h.1 k)

-- in a journal
pub pass-on : (J rs : List Rec) → PassTo IsSettled nobody None J → Pass (fold line_step nobody J) rs → PassTo IsSettled nobody None (J ++ rs)
pass-on J rs h k = pass-append IsSettled IsSettled nobody None J rs h k

pub pass-may : (past rs : List Rec) → PassTo IsSettled (fold line_step nobody past) (last_record past) rs → EachMay MayPass past rs
pass-may past [] h = tt
pass-may past (r ∷ rs) h = (
  h.0,
  pass-may (past ++ r ∷ []) rs
      (subst (λ (l : Line). PassTo IsSettled l (last_record (past ++ r ∷ [])) rs) (sym (fold-append line_step nobody past (r ∷ [])))
      (subst (λ (o : Option Rec). PassTo IsSettled (line_step (fold line_step nobody past) r) o rs) (sym (fold-append (λ before r. Some r) None past (r ∷ []))) h.1)),
)

-- ---- records that admit and release nobody

-- it releases nobody
abbrev IsNoRelease : Rec → Type 0
IsNoRelease (rec.Released c) = ⊥
IsNoRelease _ = Unit {0}

abbrev IsPlain : Rec → Type 0
IsPlain r = IsNoEntry r × IsNoRelease r

no-entry : (cs : List ℕ) (r : Rec) → IsNoEntry r → AdmitsHead cs r
no-entry cs (rec.Admitted c) h = absurd h
no-entry [] _ h = tt
no-entry (c ∷ cs) _ h = tt

-- nothing is due behind it
undue : (ws : List ℕ) (r : Rec) → IsNoRelease r → IsSettled ws (Some r)
undue [] r h q = tt
undue (w ∷ ws) (rec.Released c) h q = absurd h
undue (w ∷ ws) _ h q = tt

plain-pass : (l : Line) (rs : List Rec) → Each IsPlain rs → Pass l rs
plain-pass l [] e before settled = settled
plain-pass l (r ∷ rs) e before settled = ((no-entry l.waits r e.0.0, settled r), plain-pass (line_step l r) rs e.1 (Some r) (undue (line_step l r).waits r e.0.1))

quiet-plain : (r : Rec) → IsQuiet r → IsPlain r
quiet-plain r q = (q.3, go r q.2) where
  go : (r : Rec) → IsRising r → IsNoRelease r
  go (rec.Released c) h = absurd h
  go _ h = tt

nobody-plain : (place : Place) (r : Rec) → NamesNobody place r → IsPlain r
nobody-plain Front (rec.Closed n) h = (tt, tt)
nobody-plain (Node n) (rec.Hit k path) h = (tt, tt)
nobody-plain _ _ h = absurd h

read-plain : (r : Rec) → IsRead r → IsPlain r
read-plain r h = quiet-plain r (read-quiet r h)

-- ---- what is read, assigned later, and so on leaves the line

abbrev IsStill : Rec → Type 0
IsStill r = (l : Line) → line_step l r ≡ l

read-still : (r : Rec) → IsRead r → IsStill r
read-still (rec.Served place c r code size via) h = λ l. refl
read-still (rec.Reset place c total) h = λ l. refl
read-still _ h = absurd h

later-still : (r : Rec) → IsLater r → IsStill r × IsPlain r
later-still (rec.AssignedLater c r path n add size queue) h = ((λ l. refl), (tt, tt))
later-still _ h = absurd h

shares-still : (c : ℕ) (over : Bool) (rs : List Rec) → Each IsLater rs → Each (λ r. IsStill r × IsPlain r) (over_note c over ++ rs)
shares-still c true rs e = (((λ l. refl), (tt, tt)), Each-weaker IsLater (λ r. IsStill r × IsPlain r) later-still rs e)
shares-still c false rs e = Each-weaker IsLater (λ r. IsStill r × IsPlain r) later-still rs e

read-on : (r : Rec) → IsRead r → ReadsOn r
read-on (rec.Served place c r code size via) h = tt
read-on (rec.Reset place c total) h = tt
read-on _ h = absurd h

reads-still : (rs : List Rec) → Each IsRead rs → Each (λ r. IsStill r × IsPlain r) rs
reads-still rs e = Each-weaker IsRead (λ r. IsStill r × IsPlain r) (λ r h. (read-still r h, read-plain r h)) rs e

-- what is behind them is behind the same line
still-then : (End : List ℕ → Option Rec → Type 0) (l : Line) (rs last : List Rec) → Each (λ r. IsStill r × IsPlain r) rs
    → ((before : Option Rec) → IsSettled l.waits before → PassTo End l before last) → (before : Option Rec) → IsSettled l.waits before → PassTo End l before (rs ++ last)
still-then End l [] last e k before settled = k before settled
still-then End l (r ∷ rs) last e k before settled = (
  (no-entry l.waits r e.0.1.0, settled r),
  subst (λ (m : Line). PassTo End m (Some r) (rs ++ last)) (sym (e.0.0 l)) (still-then End l rs last e.1 k (Some r) (undue l.waits r e.0.1.1)),
)

-- ---- the line behind an event

-- all of it, or all but one
abbrev IsLess : List ℕ → List ℕ → Type 0
IsLess xs ys = (xs ≡ ys) ⊎ ((c : ℕ) × (xs ≡ all_but c ys))

left-less : (to from : Place) (bytes : List ℕ) (l : Line) → IsLess (line_left_by to from bytes l.told l.waits) l.waits
left-less Front (Client c) bytes l = go (leaves (l.told c) (decoded bytes c ToCluster)) where
  go : (b : Bool) → IsLess (cond b (all_but c l.waits) l.waits) l.waits
  go true = inr (c, refl)
  go false = inl refl
left-less Front Front bytes l = inl refl
left-less Front (Node n) bytes l = inl refl
left-less (Node m) from bytes l = inl refl
left-less (Client d) from bytes l = inl refl

at-less : (o : Option Packet) (l : Line) → IsLess (line_left_at o l.told l.waits) l.waits
at-less None l = inl refl
at-less (Some p) l = left-less p.to p.from p.bytes l

first-less : (l : Line) (i : ℕ) (e : Event) → IsLess (fold line_step l (rec.Event i e ∷ behind e)).waits l.waits
first-less l i (event.Open c isn iss wnd mss) = inl refl
first-less l i (event.Deliver k) = at-less (packet_at l.net k) l
first-less l i (event.Lose k) = inl refl
first-less l i (event.Inject c bytes) = inl refl
first-less l i _ = inl refl

none-less : (xs : List ℕ) → IsLess xs [] → xs ≡ []
none-less xs h = ⊎_elim (λ (e : xs ≡ []). e) (λ (k : (c : ℕ) × (xs ≡ all_but c [])). k.1) h

-- the first stays there, where it stays
head-kept : (d : ℕ) (ds xs : List ℕ) → IsLess xs (d ∷ ds) → has d xs ≡ true → (es : List ℕ) × (xs ≡ d ∷ es)
head-kept d ds xs h there = ⊎_elim
    (λ (e : xs ≡ d ∷ ds). (ds, e))
    (λ (k : (c : ℕ) × (xs ≡ all_but c (d ∷ ds))). by_number ((es : List ℕ) × (xs ≡ d ∷ es)) k.0 d
    (λ same.
    let gone : has d (all_but k.0 (d ∷ ds)) ≡ false = less-any d k.0 (d ∷ ds) ∙ ap (λ (b : Bool). cond b false (has d (d ∷ ds))) (ap (λ (n : ℕ). nat_eq n d) same ∙ same_number d) in
    let no : true ≡ false = sym there ∙ ap (has d) k.1 ∙ gone in absurd cc)
    (λ apart. (all_but k.0 ds, k.1 ∙ ap (λ (b : Bool). cond (not b) (d ∷ all_but k.0 ds) (all_but k.0 ds)) (other_number k.0 d apart))))
    h

-- ---- whom a release lets in

-- the first of the line is admitted, if somebody waits
abbrev pub HeadEnters : List ℕ → List Rec → Type 0
HeadEnters [] rs = Unit {0}
HeadEnters (c ∷ cs) rs = Has (rec.Admitted c) rs

-- wherever one is released
abbrev pub LetsIn : List ℕ → List Rec → Type 0
LetsIn ws rs = (c : ℕ) → Has (rec.Released c) rs → HeadEnters ws rs

has-either : (a : Rec) (xs ys : List Rec) → Has a (xs ++ ys) → Has a xs ⊎ Has a ys
has-either a [] ys h = inr h
has-either a (x ∷ xs) ys h = ⊎_elim (λ (e : x ≡ a). inl (inl e)) (λ (k : Has a (xs ++ ys)). ⊎_elim (λ (m : Has a xs). inl (inr m)) (λ (m : Has a ys). inr m) (has-either a xs ys k)) h

-- quiet records before and behind let nobody in
between-enters : (ws : List ℕ) (xs rs ys : List Rec) → Each IsQuiet xs → Each IsQuiet ys → HeadEnters ws (xs ++ rs ++ ys) → HeadEnters ws rs
between-enters [] xs rs ys before after h = tt
between-enters (c ∷ cs) xs rs ys before after h = ⊎_elim
    (λ (k : Has (rec.Admitted c) (xs ++ rs)). ⊎_elim (λ (m : Has (rec.Admitted c) xs). absurd (has-each (rec.Admitted c) IsQuiet xs m before).3) (λ (m : Has (rec.Admitted c) rs). m) (has-either (rec.Admitted c) xs rs k))
    (λ (k : Has (rec.Admitted c) ys). absurd (has-each (rec.Admitted c) IsQuiet ys k after).3)
    (has-either (rec.Admitted c) (xs ++ rs) ys h)

between-lets : (ws : List ℕ) (xs rs ys : List Rec) → Each IsQuiet xs → Each IsQuiet ys → LetsIn ws (xs ++ rs ++ ys) → LetsIn ws rs
between-lets ws xs rs ys before after h c k =
    between-enters ws xs rs ys before after (h c (has-before (rec.Released c) (xs ++ rs) ys (has-behind (rec.Released c) xs rs k)))

-- ---- a node that is closed: the line does not see it

closed-lets : (ws : List ℕ) (xs ys : List Rec) → IsClosedIn xs ys → LetsIn ws ys → LetsIn ws xs
closed-lets ws all same (Nowhere rs) lets = lets
closed-lets ws all more (Behind c epoch n rs) lets =
    λ d h. go ws (lets d (⊎_elim (λ (e : it ≡ rec.Released d). inl e) (λ (k : Has (rec.Released d) on). inr (inr k)) h)) where
      it : Rec
      it = rec.Took Front c epoch

      on : List Rec
      on = rec.Released c ∷ rs

      go : (ws : List ℕ) → HeadEnters ws (it ∷ rec.Closed n ∷ on) → HeadEnters ws (it ∷ on)
      go [] k = tt
      go (w ∷ ws) k = ⊎_elim (λ (e : it ≡ rec.Admitted w). inl e) (λ (q : Has (rec.Admitted w) (rec.Closed n ∷ on)).
          ⊎_elim (λ (e : rec.Closed n ≡ rec.Admitted w). absurd (cc)) (λ (z : Has (rec.Admitted w) on). inr z) q) k

closed-pass : (End : List ℕ → Option Rec → Type 0) (l : Line) (before : Option Rec) (xs ys : List Rec) → IsClosedIn xs ys → PassTo End l before xs
    → PassTo End l before ys
closed-pass End l before all same (Nowhere rs) h = h
closed-pass End l before all more (Behind c epoch n rs) h = (
  h.0,
  (
    (no-entry l.waits (rec.Closed n) tt, undue l.waits (rec.Took Front c epoch) tt (rec.Closed n)),
    ((h.1.0.0, undue l.waits (rec.Closed n) tt (rec.Released c)), h.1.1),
  ),
)

-- ---- the notes of a turn

-- who is the first of the line, whatever the record before
abbrev IsFirst : ℕ → List ℕ → Option Rec → Type 0
IsFirst d ws before = (rest : List ℕ) × (ws ≡ d ∷ rest)

first-pass : (d : ℕ) (before : Option Rec) (es : List ℕ) → AdmitsBehind (d ∷ es) before (rec.Admitted d)
first-pass d (Some (rec.Released c)) es = refl
first-pass d None es = tt
first-pass d _ es = tt

-- it is admitted
entry-pass : (d : ℕ) (k : Line) (before : Option Rec) (ys : List Rec) → IsFirst d k.waits before → Enters d ys → PassTo IsSettled k before ys
entry-pass d k before ys first (Alone r path n add remove) =
    let now : AdmitsHead k.waits (rec.Admitted d) × AdmitsBehind k.waits before (rec.Admitted d) =
    subst (λ (ws : List ℕ). AdmitsHead ws (rec.Admitted d) × AdmitsBehind ws before (rec.Admitted d)) (sym first.1) (refl, first-pass d before first.0) in
    (now, plain-pass (line_step k (rec.Admitted d)) (rec.AssignedFirst d r path n add remove ∷ []) ((tt, tt), tt) (Some (rec.Admitted d)) (undue (line_step k (rec.Admitted d)).waits (rec.Admitted d) tt))

still-keeps : (d : ℕ) (es : List ℕ) (l : Line) (rs : List Rec) → l.waits ≡ d ∷ es → Each (λ r. IsStill r × IsPlain r) rs → (before : Option Rec) → IsSettled l.waits before → PassTo (IsFirst d) l before rs
still-keeps d es l rs e still before settled = subst (PassTo (IsFirst d) l before) (append-nil rs) (still-then (IsFirst d) l rs [] still (λ o s. (es, e)) before settled)

-- one is released
release-pass : (End : List ℕ → Option Rec → Type 0) (c : ℕ) (epoch : Epoch) (l : Line) → End l.waits (Some (rec.Released c)) → (before : Option Rec) → IsSettled l.waits before
    → PassTo End l before (rec.Took Front c epoch ∷ rec.Released c ∷ [])
release-pass End c epoch l end before settled = (
  (no-entry l.waits (rec.Took Front c epoch) tt, settled (rec.Took Front c epoch)),
  ((no-entry l.waits (rec.Released c) tt, undue l.waits (rec.Took Front c epoch) tt (rec.Released c)), end),
)

-- it has an admission of c, which the first of the line is
enters-head : (c w : ℕ) (ws : List ℕ) (rs last : List Rec) → Each (AdmitsHead (w ∷ ws)) (rs ++ rec.Admitted c ∷ last) → c ≡ w
enters-head c w ws [] last e = e.0
enters-head c w ws (r ∷ rs) last e = enters-head c w ws rs last e.1

has-first : (c w : ℕ) (ws cs : List ℕ) → cs ≡ w ∷ ws → c ≡ w → has c cs ≡ true
has-first c w ws cs same first = ap (has c) same ∙ ap (λ (k : ℕ). nat_eq c k || has c ws) (sym first) ∙ ap (λ (b : Bool). b || has c ws) (same_number c)

-- if it admits somebody, then connection c
abbrev Admits : ℕ → Rec → Type 0
Admits c r = (w : ℕ) → r ≡ rec.Admitted w → c ≡ w

none-admits : (c : ℕ) (r : Rec) → IsNoEntry r → Admits c r
none-admits c r none w e = absurd (subst IsNoEntry e none)

reads-admit : (c : ℕ) (rs : List Rec) → Each IsRead rs → Each (Admits c) rs
reads-admit c rs e = Each-weaker IsRead (Admits c) (λ r h. none-admits c r (read-plain r h).0) rs e

-- so it is where c reads on
on-admits : (c : ℕ) (rs : List Rec) → IsReadOn c rs → Each (Admits c) rs
on-admits c all (Answers rs e) = reads-admit c rs e
on-admits c all (Waits rs e) = Each-append (Admits c) rs (rec.Waits c ∷ []) (reads-admit c rs e) (none-admits c (rec.Waits c) tt, tt)
on-admits c all (Goes rs r path n add remove e) =
    let it : Rec = rec.AssignedFirst c r path n add remove in
    Each-append (Admits c) rs (rec.Admitted c ∷ it ∷ []) (reads-admit c rs e) ((λ w same. cc), (none-admits c it tt, tt))

module _ (L : List ℕ) (l : Line) (less : IsLess l.waits L) where
  -- one that is not in the line reads on
  on-pass : (c : ℕ) → has c L ≡ false → (rs : List Rec) → IsReadOn c rs → Each (AdmitsHead L) rs → Pass l rs
  on-pass c out all (Answers rs e) heads = plain-pass l rs (Each-weaker IsRead IsPlain read-plain rs e)
  on-pass c out all (Waits rs e) heads =
      plain-pass l (rs ++ rec.Waits c ∷ []) (Each-append IsPlain rs (rec.Waits c ∷ []) (Each-weaker IsRead IsPlain read-plain rs e) ((tt, tt), tt))
  on-pass c out all (Goes rs r path n add remove e) heads = still-then IsSettled l rs last (reads-still rs e) (λ before settled. (
    (empty L refl, settled (rec.Admitted c)),
    plain-pass (line_step l (rec.Admitted c)) (rec.AssignedFirst c r path n add remove ∷ []) ((tt, tt), tt) (Some (rec.Admitted c)) (undue (line_step l (rec.Admitted c)).waits (rec.Admitted c) tt),
  )) where
    last : List Rec
    last = rec.Admitted c ∷ rec.AssignedFirst c r path n add remove ∷ []

    -- somebody who is not in the line is its first only where there is none
    empty : (K : List ℕ) → L ≡ K → AdmitsHead l.waits (rec.Admitted c)
    empty [] same = subst (λ (cs : List ℕ). AdmitsHead cs (rec.Admitted c)) (sym (none-less l.waits (subst (IsLess l.waits) same less))) tt
    empty (w ∷ ws) same =
        let first : c ≡ w = enters-head c w ws rs (rec.AssignedFirst c r path n add remove ∷ []) (subst (λ (K : List ℕ). Each (AdmitsHead K) (rs ++ last)) same heads) in
        let no : true ≡ false = sym (has-first c w ws L same first) ∙ out in absurd cc

  -- where it is taken back and nobody else is let in, nobody waits
  nobody-waits : (c : ℕ) (epoch : Epoch) → has c L ≡ false → (rs : List Rec) → IsReadOn c rs → HeadEnters L (rec.Took Front c epoch ∷ rec.Released c ∷ rs)
      → l.waits ≡ []
  nobody-waits c epoch out rs on enters = none-less l.waits (subst (IsLess l.waits) (go L refl enters) less) where
    all : List Rec
    all = rec.Took Front c epoch ∷ rec.Released c ∷ rs

    go : (K : List ℕ) → L ≡ K → HeadEnters K all → K ≡ []
    go [] same h = refl
    go (w ∷ ws) same h =
        let admits : Each (Admits c) all = (none-admits c (rec.Took Front c epoch) tt, (none-admits c (rec.Released c) tt, on-admits c rs on)) in
        let no : true ≡ false = sym (has-first c w ws L same (has-each (rec.Admitted w) (Admits c) all h admits w refl)) ∙ out in absurd cc

  -- of a connection that stood so, by the line before the step
  noted-pass : (c : ℕ) (s : Was) → has c L ≡ s.waits → (rs : List Rec) → Noted c s rs → Each (AdmitsHead L) rs → LetsIn L rs → Pass l rs
  noted-pass c s is all Silent heads lets = plain-pass l [] tt
  noted-pass c s is all (Begins out) heads lets = plain-pass l (rec.Took Front c (record { 0 = 1 }) ∷ []) ((tt, tt), tt)
  noted-pass c s is all (Reads rs held out on) heads lets = on-pass c (is ∙ out) rs on heads
  noted-pass c s is all (Shares over rs e) heads lets = plain-pass l (over_note c over ++ rs)
      (Each-weaker (λ r. IsStill r × IsPlain r) IsPlain (λ r h. h.1) (over_note c over ++ rs) (shares-still c over rs e))
  noted-pass c s is all (Returns rs in_ out on) heads lets =
      let epoch : Epoch = record { 0 = s.epoch + 1 } in
      let none : l.waits ≡ [] = nobody-waits c epoch (is ∙ out) rs on (lets c (inr (inl refl))) in
      λ before settled. pass-append IsSettled IsSettled l before (rec.Took Front c epoch ∷ rec.Released c ∷ []) rs
      (release-pass IsSettled c epoch l (subst (λ (ws : List ℕ). IsSettled ws (Some (rec.Released c))) (sym none) (λ r. tt)) before settled)
      (λ last end. on-pass c (is ∙ out) rs on heads.1.1 last end)

  -- who is in the line, and is seen to stay there, is its first where it is admitted
  first-there : (d : ℕ) (last : List Rec) → has d L ≡ true → has d l.waits ≡ true → Each (AdmitsHead L) (rec.Admitted d ∷ last) → (es : List ℕ) × (l.waits ≡ d ∷ es)
  first-there d last in_ stays heads = go L refl where
    go : (K : List ℕ) → L ≡ K → (es : List ℕ) × (l.waits ≡ d ∷ es)
    go [] same = let no : true ≡ false = sym in_ ∙ ap (has d) same in absurd cc
    go (w ∷ ws) same =
        let first : d ≡ w = (subst (λ (K : List ℕ). Each (AdmitsHead K) (rec.Admitted d ∷ last)) same heads).0 in
        head-kept d ws l.waits (subst (IsLess l.waits) (same ∙ (λ i. sym first i ∷ ws)) less) stays

  alone-pass : (d : ℕ) (ys : List Rec) → has d L ≡ true → has d l.waits ≡ true → Each (AdmitsHead L) ys → Enters d ys → Pass l ys
  alone-pass d ys in_ stays heads (Alone r path n add remove) before settled =
      entry-pass d l before _ (first-there d (rec.AssignedFirst d r path n add remove ∷ []) in_ stays heads) (Alone r path n add remove)

  -- another one, which is not the first, is not admitted before it
  not-first : (c d : ℕ) → d ≢ c → has d L ≡ true → (rs last ys : List Rec) → Each (AdmitsHead L) (rs ++ rec.Admitted c ∷ last) → Enters d ys → Each (AdmitsHead L) ys → ⊥
  not-first c d apart in_ rs last ys heads (Alone r path n add remove) then = go L refl where
    go : (K : List ℕ) → L ≡ K → ⊥
    go [] same = let no : true ≡ false = sym in_ ∙ ap (has d) same in absurd cc
    go (w ∷ ws) same =
        let mine : c ≡ w = enters-head c w ws rs last (subst (λ (K : List ℕ). Each (AdmitsHead K) (rs ++ rec.Admitted c ∷ last)) same heads) in
        let its : d ≡ w = (subst (λ (K : List ℕ). Each (AdmitsHead K) (rec.Admitted d ∷ rec.AssignedFirst d r path n add remove ∷ [])) same then).0 in
        apart (its ∙ sym mine)

  module _ (c d : ℕ) (s : Was) (apart : d ≢ c) (es : List ℕ) (there : l.waits ≡ d ∷ es) (in_ : has d L ≡ true) (ys : List Rec) (enters : Enters d ys) (then : Each (AdmitsHead L) ys) where
    -- behind the notes of another connection it is the first yet
    on-keeps : (xs : List Rec) → IsReadOn c xs → Each (AdmitsHead L) xs → (before : Option Rec) → IsSettled l.waits before → PassTo (IsFirst d) l before xs
    on-keeps all (Answers rs e) heads = still-keeps d es l rs there (reads-still rs e)
    on-keeps all (Goes rs r path n add remove e) heads =
        absurd (not-first c d apart in_ rs (rec.AssignedFirst c r path n add remove ∷ []) ys heads enters then)
    on-keeps all (Waits rs e) heads =
        still-then (IsFirst d) l rs (rec.Waits c ∷ []) (reads-still rs e) (λ before settled. ((no-entry l.waits (rec.Waits c) tt, settled (rec.Waits c)), (es ++ c ∷ [], ap (λ (cs : List ℕ). cs ++ c ∷ []) there)))

    -- while d is admitted, c is not: what it notes is read on
    on-reads : (xs : List Rec) → IsReadOn c xs → Each (AdmitsHead L) xs → Each ReadsOn xs
    on-reads all (Answers rs e) heads = Each-weaker IsRead ReadsOn read-on rs e
    on-reads all (Waits rs e) heads = Each-append ReadsOn rs (rec.Waits c ∷ []) (Each-weaker IsRead ReadsOn read-on rs e) (tt, tt)
    on-reads all (Goes rs r path n add remove e) heads =
        absurd (not-first c d apart in_ rs (rec.AssignedFirst c r path n add remove ∷ []) ys heads enters then)

    alone-keeps : (xs : List Rec) → Enters c xs → Each (AdmitsHead L) xs → (before : Option Rec) → IsSettled l.waits before → PassTo (IsFirst d) l before xs
    alone-keeps xs (Alone r path n add remove) heads = absurd (not-first c d apart in_ [] (rec.AssignedFirst c r path n add remove ∷ []) ys heads enters then)

    -- ---- where more of c's notes stand behind the admission

    waits-first : (ws es : List ℕ) (q : ℕ) → q ≡ c → ws ++ q ∷ [] ≡ d ∷ es → (rest : List ℕ) × (ws ≡ d ∷ rest)
    waits-first [] es q is same = let lists : q ∷ [] ≡ d ∷ es = same in let its : q ≡ d = cc in absurd (apart (sym its ∙ is))
    waits-first (w ∷ ws) es q is same = let lists : w ∷ (ws ++ q ∷ []) ≡ d ∷ es = same in let its : w ≡ d = cc in (ws, λ i. its i ∷ ws)

    step-first : (k : Line) (r : Rec) → ReadsOn r × NotedAt Front c r → (rest : List ℕ) × ((line_step k r).waits ≡ d ∷ rest) → (rest : List ℕ) × (k.waits ≡ d ∷ rest)
    step-first k (rec.Served place q n code size via) on h = h
    step-first k (rec.Reset place q total) on h = h
    step-first k (rec.Waits q) on h = waits-first k.waits h.0 q on.1 h.1
    step-first k _ on h = absurd on.0

    first-before : (k : Line) (at : Option Rec) (zs : List Rec) → Each (λ r. ReadsOn r × NotedAt Front c r) zs → PassTo (IsFirst d) k at zs → IsFirst d k.waits at
    first-before k at [] on h = h
    first-before k at (z ∷ zs) on h = step-first k z on.0 (first-before (line_step k z) (Some z) zs on.1 h.1)

    pass-front : (k : Line) (at : Option Rec) (xs zs : List Rec) → Each (λ r. ReadsOn r × NotedAt Front c r) zs → PassTo (IsFirst d) k at (xs ++ zs) → PassTo (IsFirst d) k at xs
    pass-front k at [] zs on h = first-before k at zs on h
    pass-front k at (x ∷ xs) zs on h = (h.0, pass-front (line_step k x) (Some x) xs zs on h.1)

    -- of what is read on nothing stands before the admission
    none-before : (xs zs : List Rec) → Each ReadsOn (xs ++ zs) → Each (λ r. ReadsOn r → ⊥) xs → xs ≡ []
    none-before [] zs on before = refl
    none-before (x ∷ xs) zs on before = absurd (before.0 on.0)

    module _ (xs zs : List Rec) (on : Each (λ r. ReadsOn r × NotedAt Front c r) zs) (early : Each (λ r. ReadsOn r → ⊥) xs) where
      front-of : (all : List Rec) → xs ++ zs ≡ all → (at : Option Rec) → PassTo (IsFirst d) l at all → PassTo (IsFirst d) l at xs
      front-of all same at h = pass-front l at xs zs on (subst (PassTo (IsFirst d) l at) (sym same) h)

      -- where c is taken back, its release stands directly before the admission
      back-front : (epoch : Epoch) (rs : List Rec) → IsReadOn c rs → Each (AdmitsHead L) rs → (us : List Rec)
          → us ++ zs ≡ rec.Took Front c epoch ∷ rec.Released c ∷ rs → Each (λ r. ReadsOn r → ⊥) us → us ≡ rec.Took Front c epoch ∷ rec.Released c ∷ []
      back-front epoch rs r heads [] same before = absurd (subst (Each (λ r. ReadsOn r × NotedAt Front c r)) same on).0.0
      back-front epoch rs r heads (x ∷ []) same before =
          let rest : zs ≡ rec.Released c ∷ rs = cc in
          absurd (subst (Each (λ r. ReadsOn r × NotedAt Front c r)) rest on).0.0
      back-front epoch rs r heads (x ∷ y ∷ us) same before =
          let one : x ≡ rec.Took Front c epoch = cc in
          let two : y ≡ rec.Released c = cc in
          let rest : us ++ zs ≡ rs = cc in
          let none : us ≡ [] = none-before us zs (subst (Each ReadsOn) (sym rest) (on-reads rs r heads)) before.1.1 in
          λ i. one i ∷ two i ∷ none i

      noted-front : (all : List Rec) → xs ++ zs ≡ all → Noted c s all → Each (AdmitsHead L) all → (at : Option Rec) → IsSettled l.waits at
          → PassTo (IsFirst d) l at xs
      noted-front all same Silent heads at settled = front-of [] same at (still-keeps d es l [] there tt at settled)
      noted-front all same (Begins out) heads at settled =
          let rs : List Rec = rec.Took Front c (record { 0 = 1 }) ∷ [] in
          front-of rs same at (still-keeps d es l rs there (((λ l. refl), (tt, tt)), tt) at settled)
      noted-front all same (Reads rs held out r) heads at settled = front-of rs same at (on-keeps rs r heads at settled)
      noted-front all same (Shares over rs e) heads at settled =
          front-of (over_note c over ++ rs) same at (still-keeps d es l (over_note c over ++ rs) there (shares-still c over rs e) at settled)
      noted-front all same (Returns rs in_ out r) heads at settled =
          let epoch : Epoch = record { 0 = s.epoch + 1 } in
          subst (PassTo (IsFirst d) l at) (sym (back-front epoch rs r heads.1.1 xs same early)) (release-pass (IsFirst d) c epoch l (es, there) at settled)

      both-pass : Noted c s (xs ++ zs) ⊎ Enters c (xs ++ zs) → Each (AdmitsHead L) (xs ++ zs) → Pass l (xs ++ ys ++ zs)
      both-pass h heads at settled =
          let front : PassTo (IsFirst d) l at xs =
          ⊎_elim (λ (k : Noted c s (xs ++ zs)). noted-front (xs ++ zs) refl k heads at settled)
          (λ (k : Enters c (xs ++ zs)). front-of (xs ++ zs) refl at (alone-keeps (xs ++ zs) k heads at settled)) h in
          pass-append IsSettled IsSettled l at (xs ++ ys) zs
          (pass-append (IsFirst d) IsSettled l at xs ys front (λ last first. entry-pass d (fold line_step l xs) last ys first enters))
          (plain-pass (fold line_step l (xs ++ ys)) zs
          (Each-weaker (λ r. ReadsOn r × NotedAt Front c r) IsPlain (λ r k. quiet-plain r (on-quiet r k.0)) zs on))

-- ---- a step

module _ (m : Machine) (view : IsViewed m) (lined : (q : ℕ) → IsLined (conn m q)) where
  -- the line before it
  abbrev before : Line
  before = fold line_step nobody m.journal

  abbrev behind_first : ℕ → Event → Line
  behind_first i e = fold line_step before (rec.Event i e ∷ behind e)

  -- the first of that line is admitted, by these records, and so it is where one is released
  abbrev LetsFirst : List Rec → Type 0
  LetsFirst rs = Each (AdmitsHead (waiting_line m.journal)) rs × LetsIn (waiting_line m.journal) rs

  -- Then the first is, at each moment.
  abbrev pub Adds : Machine → Type 0
  Adds n = (rs : List Rec) × (n.journal ≡ m.journal ++ rs) × (LetsFirst rs → Pass before rs)

  -- how a connection stands is told by the line
  waits-told : (c : ℕ) → has c (waiting_line m.journal) ≡ (stand_at (conn m c)).waits
  unfolding conn
  waits-told c = (stands-told c m.journal).waits_is

  -- what a connection sees nothing of leaves it in the line
  unseen-stays : (c i : ℕ) (e : Event) → seen_on c m.net (rec.Event i e ∷ behind e) ≡ [] → has c (behind_first i e).waits ≡ has c (waiting_line m.journal)
  unseen-stays c i e none =
      let rows : List Rec = rec.Event i e ∷ behind e in
      let seen : own c (m.journal ++ rows) ≡ own c m.journal = own-append c m.journal rows ∙ ap (λ (net : List Packet). own c m.journal ++ seen_on c net rows) view.told
      ∙ ap (λ (ss : List Seen). own c m.journal ++ ss) none ∙ append-nil (own c m.journal) in
      ap (λ (l : Line). has c l.waits) (sym (fold-append line_step nobody m.journal rows)) ∙ (stands-told c (m.journal ++ rows)).waits_is ∙ ap (λ (ss : List Seen). (fold (stand_step c) unknown ss).waits) seen ∙ sym (stands-told c m.journal).waits_is

  quiet-pass : (l : Line) (rs : List Rec) → Each IsQuiet rs → Pass l rs
  quiet-pass l rs e = plain-pass l rs (Each-weaker IsQuiet IsPlain quiet-plain rs e)

  passed-adds : (w : Machine) (e : Event) (own : List Rec) → w.journal ≡ m.journal → Each IsQuiet own → Adds (passed w e own)
  passed-adds w e own same quiet =
      (rec.Event (w.events + 1) e ∷ own, ap (λ (J : List Rec). J ++ rec.Event (w.events + 1) e ∷ own) same, λ lets. quiet-pass before (rec.Event (w.events + 1) e ∷ own) (((λ i. refl), tt, tt, tt), quiet))

  told-adds : (w : Machine) (e : Event) (place : Place) (o : Out) → IsAct m w e place o
      → (LetsFirst o.notes → Pass (behind_first (w.events + 1) e) o.notes) → Adds (machine_told w e (behind e) place o)
  told-adds w e place o act notes =
      let first : List Rec = first_rows w e in
      let last : List Rec = last_rows w place o in
      let Heads : Rec → Type 0 = AdmitsHead (waiting_line m.journal) in
      let quiet : Each IsQuiet first = first-calm IsQuiet allows-quiet w e in
      let still : Each IsQuiet last = last-calm IsQuiet allows-quiet w place o (gifts-calm IsQuiet allows-quiet place o.gave act.gave) (timers-calm IsQuiet allows-quiet place o.timers act.timers) in (
        first ++ o.notes ++ last,
        told-journal w e place o ∙ ap (λ (J : List Rec). J ++ (first ++ o.notes ++ last)) act.put.journal,
        λ lets at settled. pass-append IsSettled IsSettled before at (first ++ o.notes) last
            (pass-append IsSettled IsSettled before at first o.notes (quiet-pass before first quiet at settled)
            (notes (
              each-behind Heads first o.notes (each-before Heads (first ++ o.notes) last lets.0),
              between-lets (waiting_line m.journal) first o.notes last quiet still lets.1,
            )))
            (quiet-pass (fold line_step before (first ++ o.notes)) last still),
      )

  other-pass : (place : Place) (c : ℕ) (l : Line) (rs : List Rec) → (place ≡ Front → ⊥) → Each (NotedIn place c) rs → Pass l rs
  other-pass place c l rs never e = quiet-pass l rs (Each-weaker (NotedIn place c) IsQuiet (λ r h. in-quiet place c r never h) rs e)

  -- of one connection
  own-pass : (i : ℕ) (e : Event) (c : ℕ) (v : Move) → seen_on c m.net (rec.Event i e ∷ behind e) ≡ v.heads → IsNoted (conn m c) v → v.place ≡ Front → LetsFirst v.said.notes → Pass (behind_first i e) v.said.notes
  unfolding conn
  own-pass i e c v seen h at lets = ⊎_elim
      (λ (k : Noted c (was_at (conn m c)) v.said.notes). noted-pass (waiting_line m.journal) (behind_first i e) (first-less before i e) c (was_at (conn m c)) (waits-told c) v.said.notes k lets.0 lets.1)
      (λ (k : IsEntry (conn m c) v).
      let in_ : has c (waiting_line m.journal) ≡ true = waits-told c ∙ k.waits in
      alone-pass (waiting_line m.journal) (behind_first i e) (first-less before i e) c v.said.notes in_ (unseen-stays c i e (seen ∙ k.none) ∙ in_) lets.0 k.enters)
      (h.noted at)

  notes-pass : (i : ℕ) (e : Event) (place : Place) (c : ℕ) (heads : List Seen) (ns : List Rec) (o : Out) (p : Part)
      → seen_on c m.net (rec.Event i e ∷ behind e) ≡ heads → Each (NotedIn place c) o.notes → ClosesBehind m e c o.notes ⊎ Each IsNoClosing o.notes → ((net : List Packet) → seen_on c net o.notes ≡ map Row ns)
      → Notes (conn m c) (move_of place heads ns o p) → LetsFirst o.notes → Pass (behind_first i e) o.notes
  notes-pass i e Front c heads ns o p first noted closes seen does lets =
      let k : IsClosedIn ns o.notes = one-closed m e c ns o.notes noted closes seen in
      λ at settled. closed-pass IsSettled (behind_first i e) at ns o.notes k (own-pass i e c (move_of Front heads ns o p) first (does (lined c)) refl
      (closed-each (AdmitsHead (waiting_line m.journal)) ns o.notes k lets.0, closed-lets (waiting_line m.journal) ns o.notes k lets.1) at settled)
  notes-pass i e (Node n) c heads ns o p first noted closes seen does lets =
      other-pass (Node n) c (behind_first i e) o.notes (λ e. let no : Node n ≡ Front = e in absurd cc) noted
  notes-pass i e (Client d) c heads ns o p first noted closes seen does lets =
      other-pass (Client d) c (behind_first i e) o.notes (λ e. let no : Client d ≡ Front = e in absurd cc) noted

  -- of two
  pair-pass : (i : ℕ) (e : Event) (c d : ℕ) (v y : Move) (xs zs : List Rec) → d ≢ c → seen_on d m.net (rec.Event i e ∷ behind e) ≡ [] → IsNoted (conn m c) v → IsNoted (conn m d) y → v.place ≡ Front → y.place ≡ Front
      → y.heads ≡ [] → xs ++ zs ≡ v.said.notes → Each (λ r. ReadsOn r × NotedAt Front c r) zs → Each (λ r. ReadsOn r → ⊥) xs
      → Each (AdmitsHead (waiting_line m.journal)) (xs ++ y.said.notes ++ zs) → Pass (behind_first i e) (xs ++ y.said.notes ++ zs)
  unfolding conn
  pair-pass i e c d v y xs zs apart unseen h k at too none same on early heads =
      let L : List ℕ = waiting_line m.journal in
      let l : Line = behind_first i e in
      let ys : List Rec = y.said.notes in
      let entry : IsEntry (conn m d) y = k.alone too none in
      let in_ : has d L ≡ true = waits-told d ∙ entry.waits in
      let two : Each (AdmitsHead L) (xs ++ ys) = each-before (AdmitsHead L) (xs ++ ys) zs heads in
      let mine : Each (AdmitsHead L) (xs ++ zs) =
      Each-append (AdmitsHead L) xs zs (each-before (AdmitsHead L) xs ys two) (each-behind (AdmitsHead L) (xs ++ ys) zs heads) in
      let its : Each (AdmitsHead L) ys = each-behind (AdmitsHead L) xs ys two in
      let there : (es : List ℕ) × (l.waits ≡ d ∷ es) = its-there L l d ys (first-less before i e) in_ (unseen-stays d i e unseen ∙ in_) its entry.enters in
      both-pass L l (first-less before i e) c d (was_at (conn m c)) apart there.0 there.1 in_ ys entry.enters its xs zs on early
      (subst (λ (rs : List Rec). Noted c (was_at (conn m c)) rs ⊎ Enters c rs) (sym same)
      (⊎_elim (λ (n : Noted c (was_at (conn m c)) v.said.notes). inl n) (λ (n : IsEntry (conn m c) v). inr n.enters) (h.noted at))) mine
    where
      its-there : (L : List ℕ) (l : Line) (d : ℕ) (ys : List Rec) → IsLess l.waits L → has d L ≡ true → has d l.waits ≡ true → Each (AdmitsHead L) ys → Enters d ys → (es : List ℕ) × (l.waits ≡ d ∷ es)
      its-there L l d ys less in_ stays heads (Alone r path n add remove) = first-there L l less d (rec.AssignedFirst d r path n add remove ∷ []) in_ stays heads

  both-each : (P R : Rec → Type 0) (rs : List Rec) → Each P rs → Each R rs → Each (λ r. P r × R r) rs
  both-each P R [] h k = tt
  both-each P R (r ∷ rs) h k = ((h.0, k.0), both-each P R rs h.1 k.1)

  both-notes : (i : ℕ) (w : Machine) (e : Event) (a b z : Out) (rows : List Rec) (c d : ℕ) (heads : List Seen) (ns : List Rec) (p r : Part)
      → ActsOnTwo m w e a b z rows c d heads ns p r → seen_on d m.net (rec.Event i e ∷ behind e) ≡ []
      → Notes (conn m c) (move_of Front heads ns (with_rest a z) p) → Notes (conn m d) (move_of Front [] b.notes b r) → LetsFirst (a.notes ++ b.notes ++ z.notes) → Pass (behind_first i e) (a.notes ++ b.notes ++ z.notes)
  both-notes i w e a b z rows c d heads ns p r act unseen does then lets at settled =
      let y : Move = move_of Front [] b.notes b r in
      let k : ClosedTwo c ns a.notes z.notes = two-closed m w e a b z rows c d heads ns p r act (own-enters m d y (then (lined d)) refl refl) in
      let is : IsClosedIn (k.own ++ b.notes ++ z.notes) (a.notes ++ b.notes ++ z.notes) =
      closed-append (k.own ++ b.notes) (a.notes ++ b.notes) z.notes (closed-append k.own a.notes b.notes k.is) in
      closed-pass IsSettled (behind_first i e) at (k.own ++ b.notes ++ z.notes) (a.notes ++ b.notes ++ z.notes) is
      (pair-pass i e c d (move_of Front heads ns (with_rest a z) p) y k.own z.notes act.apart unseen (does (lined c)) (then (lined d)) refl refl refl k.are
      (both-each ReadsOn (NotedAt Front c) z.notes act.reads_on k.noted) (closed-each (λ r. ReadsOn r → ⊥) k.own a.notes k.is act.before)
      (closed-each (AdmitsHead (waiting_line m.journal)) (k.own ++ b.notes ++ z.notes) (a.notes ++ b.notes ++ z.notes) is lets.0) at settled)

  shapes-pass : Shapes m Notes (λ e n. Adds n)
  unfolding clocked
  shapes-pass = record {
    one = λ w e place o c heads ns p act does. told-adds w e place o (one-act m w e place o c heads ns p act)
        (notes-pass (w.events + 1) e place c heads ns o p (act.begins.mine (w.events + 1)) act.said.notes act.closes act.notes does);
    two = λ w e a b z rows c d heads ns p r act does too. told-adds w e Front (both_out a b z rows) (two-act m w e a b z rows c d heads ns p r act)
        (both-notes (w.events + 1) w e a b z rows c d heads ns p r act (act.begins.others (w.events + 1) d act.apart) does too);
    each = λ w e place notes xs act made. told-adds w e place (each_out notes xs) (each-act m w e place notes xs act)
        (λ lets. plain-pass (behind_first (w.events + 1) e) notes (Each-weaker (NamesNobody place) IsPlain (nobody-plain place) notes act.nobody));
    nobody = λ k l at there. passed-adds m (event.Deliver k) (rec.Got k ∷ []) refl (((λ i. refl), tt, tt, tt), tt);
    loses = λ k l at there. passed-adds (record m { net = lose_at (k - 1) m.net }) (event.Lose k) (rec.Lost k ∷ []) refl (((λ i. refl), tt, tt, tt), tt);
    clocks = λ ms. passed-adds (record m { now = m.now + ms }) (event.Clock ms) (rec.Clock (record { 0 = m.now + ms }) ∷ []) refl (((λ i. refl), tt, tt, tt), tt);
  }

  pub step-pass : Rules (setting_of m) Notes → (n : Machine) (e : Event) → HasRule e → machine_step m e ≡ Ok n → Adds n
  step-pass rules n e rule is = step-has m view Notes rules (λ d k. Adds k) shapes-pass e n rule is
