-- The records of a step: each release that is due stands behind its record, and only closed nodes between; and what takes from loads stands before what adds
-- to them.
use Rattle.std.proofs.Common.{◌≡◌, ℕ, ◌+◌, ◌-◌, Bool, true, false, cond, List, [], ◌∷◌, ◌++◌, map, Option, Ok, refl, sym, ap, ◌∙◌, subst, append_assoc, append-nil, ⊎_elim, ◌||◌, nat_lt, ◌⊎◌, inl, inr}
use Rattle.lard_law_view.specs.Prelude.{Client, Epoch, Event, Front, HasRule, IsViewed, Machine, Move, Node, Out, Packet, Part, Place, Rec, Row, Rules, Seen, clocked, conn, lose_at, machine_step, machine_told, over_note, passed, seen_on, setting_of}
use Rattle.lard_base.specs.declared.event.Event.TheVariants as event
use Rattle.lard_law_connections.proofs.LineClosed.{Behind, ClosedTwo, IsClosedIn, Nowhere, closed-append, one-closed, two-closed}
use Rattle.lard_law_connections.proofs.LineHolding.{IsRead}
use Rattle.lard_law_connections.proofs.LineLaw.{IsLined}
use Rattle.lard_law_connections.proofs.LineNotes.{Alone, Answers, Begins, Enters, Goes, IsLater, IsReadOn, Noted, Reads, Returns, Shares, Silent, Waits, Was}
use Rattle.lard_law_connections.proofs.LineStands.{stand_at}
use Rattle.lard_law_connections.proofs.LineTurns.{IsEntry, IsNoted, Notes, was_at}
use Rattle.lard_law_connections.specs.LineLaws.{AreReleased, LineDue, Nothing, Release, due_behind}
use Rattle.lard_law_connections.proofs.Calm.{Allows, first-calm, first_rows, gifts-calm, last-calm, last_rows, timers-calm, told-journal}
use Rattle.lard_law_view.proofs.AnyShape.{IsAct, each-act, one-act, two-act}
use Rattle.lard_law_view.proofs.Saying.{NamesNobody, NotedAt, NotedIn}
use Rattle.lard_law_view.proofs.Shapes.{ActsOnTwo, ClosesBehind, ReadsOn, Shapes, both_out, each_out, move_of, with_rest}
use Rattle.lard_law_view.proofs.Stepping.{step-has}
use Rattle.lard_history.proofs.Each.{Each, Each-append, Each-weaker}
use Rattle.lard_journal.specs.declared.rec.Rec.TheVariants as rec
use Rattle.lard_law_view.proofs.OwnRecords.{IsNoClosing, behind}

-- it adds to no load
abbrev pub IsFalling : Rec → Type 0
IsFalling (rec.AssignedFirst c r path n add remove) = ⊥
IsFalling (rec.AssignedLater c r path n add size queue) = ⊥
IsFalling _ = Unit {0}

-- it takes from no load, and closes no node
abbrev pub IsRising : Rec → Type 0
IsRising (rec.Released c) = ⊥
IsRising (rec.BatchOver c) = ⊥
IsRising (rec.Closed n) = ⊥
IsRising _ = Unit {0}

-- it admits nobody
abbrev pub IsNoEntry : Rec → Type 0
IsNoEntry (rec.Admitted c) = ⊥
IsNoEntry _ = Unit {0}

-- it does none of these, and no release is due behind it
abbrev pub IsQuiet : Rec → Type 0
IsQuiet r = ((inside : ℕ → Bool) → due_behind inside r ≡ Nothing) × IsFalling r × IsRising r × IsNoEntry r

-- ---- what another place notes, what is sent, given up and told of timers is quiet

pub read-quiet : (r : Rec) → IsRead r → IsQuiet r
read-quiet (rec.Served place c r code size via) h = ((λ inside. refl), tt, tt, tt)
read-quiet (rec.Reset place c total) h = ((λ inside. refl), tt, tt, tt)
read-quiet _ h = absurd h

note-quiet : (place : Place) (c : ℕ) (r : Rec) → (place ≡ Front → ⊥) → NotedAt place c r → IsQuiet r
note-quiet Front c r never h = absurd (never refl)
note-quiet (Client e) c (rec.Wrote d bytes) never h = ((λ inside. refl), tt, tt, tt)
note-quiet (Client e) c (rec.Accepted d bytes) never h = ((λ inside. refl), tt, tt, tt)
note-quiet (Client e) c (rec.Eof d) never h = ((λ inside. refl), tt, tt, tt)
note-quiet (Client e) c (rec.Aborted d) never h = ((λ inside. refl), tt, tt, tt)
note-quiet (Node n) c (rec.Took (Node k) d epoch) never h = ((λ inside. refl), tt, tt, tt)
note-quiet (Node n) c (rec.Served (Node k) d r code size via) never h = ((λ inside. refl), tt, tt, tt)
note-quiet (Node n) c (rec.Reset (Node k) d total) never h = ((λ inside. refl), tt, tt, tt)
note-quiet (Node n) c (rec.Queued k o d r path) never h = ((λ inside. refl), tt, tt, tt)
note-quiet (Node n) c (rec.Read k o d r path) never h = ((λ inside. refl), tt, tt, tt)
note-quiet (Node n) c (rec.Hit k path) never h = ((λ inside. refl), tt, tt, tt)
note-quiet _ c _ never h = absurd h

nobody-quiet : (place : Place) (r : Rec) → (place ≡ Front → ⊥) → NamesNobody place r → IsQuiet r
nobody-quiet Front r never h = absurd (never refl)
nobody-quiet (Node n) (rec.Hit k path) never h = ((λ inside. refl), tt, tt, tt)
nobody-quiet _ _ never h = absurd h

pub in-quiet : (place : Place) (c : ℕ) (r : Rec) → (place ≡ Front → ⊥) → NotedIn place c r → IsQuiet r
in-quiet place c r never h = ⊎_elim (λ (k : NotedAt place c r). note-quiet place c r never k) (λ (k : NamesNobody place r). nobody-quiet place r never k) h

pub allows-quiet : Allows IsQuiet
allows-quiet = record {
  event = λ i e. ((λ inside. refl), tt, tt, tt);
  opened = λ c isn iss wnd mss. ((λ inside. refl), tt, tt, tt);
  injected = λ c. ((λ inside. refl), tt, tt, tt);
  got = λ k. ((λ inside. refl), tt, tt, tt);
  lost = λ k. ((λ inside. refl), tt, tt, tt);
  sent = λ k from to bytes. ((λ inside. refl), tt, tt, tt);
  gave = λ place c epoch. ((λ inside. refl), tt, tt, tt);
  armed = λ place c kind. ((λ inside. refl), tt, tt, tt);
  cleared = λ place c kind. ((λ inside. refl), tt, tt, tt);
}

-- what names nobody adds to no load, and nothing is due behind it
pub nobody-falls : (place : Place) (r : Rec) → NamesNobody place r → ((inside : ℕ → Bool) → due_behind inside r ≡ Nothing) × IsFalling r
nobody-falls Front (rec.Closed n) h = ((λ inside. refl), tt)
nobody-falls (Node n) (rec.Hit k path) h = ((λ inside. refl), tt)
nobody-falls _ _ h = absurd h

-- what is read on behind the head of the line is quiet
pub on-quiet : (r : Rec) → ReadsOn r → IsQuiet r
on-quiet (rec.Served place c r code size via) h = ((λ inside. refl), tt, tt, tt)
on-quiet (rec.Reset place c total) h = ((λ inside. refl), tt, tt, tt)
on-quiet (rec.Waits c) h = ((λ inside. refl), tt, tt, tt)
on-quiet _ h = absurd h

-- ---- lists of records

module _ (inside : ℕ → Bool) where
  released-append : (o : LineDue) (xs ys : List Rec) → AreReleased inside o xs → AreReleased inside Nothing ys → AreReleased inside o (xs ++ ys)
  released-append Nothing [] ys h k = k
  released-append (Release c) [] ys h k = absurd h
  released-append Nothing (x ∷ xs) ys h k = released-append (due_behind inside x) xs ys h k
  released-append (Release c) (rec.Closed n ∷ xs) ys h k = released-append (Release c) xs ys h k
  released-append (Release c) (x ∷ xs) ys h k = (h.0, released-append Nothing xs ys h.1 k)

  -- where nothing is due
  none-due : (rs : List Rec) → Each (λ r. due_behind inside r ≡ Nothing) rs → AreReleased inside Nothing rs
  none-due [] e = tt
  none-due (r ∷ rs) e = subst (λ (o : LineDue). AreReleased inside o rs) (sym e.0) (none-due rs e.1)

  quiet-released : (rs : List Rec) → Each IsQuiet rs → AreReleased inside Nothing rs
  quiet-released rs e = none-due rs (Each-weaker IsQuiet (λ r. due_behind inside r ≡ Nothing) (λ r q. q.0 inside) rs e)

  -- Each release that is due stands there; and the records fall first, and then rise.
  pub record IsInOrder (rs : List Rec) : Type 0 where
    pub released : AreReleased inside Nothing rs
    pub falls : List Rec
    pub rises : List Rec
    pub split : rs ≡ falls ++ rises
    pub falling : Each IsFalling falls
    pub rising : Each IsRising rises

  pub quiet-order : (rs : List Rec) → Each IsQuiet rs → IsInOrder rs
  quiet-order rs e = record {
    released = quiet-released rs e;
    falls = rs;
    rises = [];
    split = sym (append-nil rs);
    falling = Each-weaker IsQuiet IsFalling (λ r q. q.1) rs e;
    rising = tt;
  }

  -- between quiet ones
  between-order : (xs rs ys : List Rec) → Each IsQuiet xs → IsInOrder rs → Each IsQuiet ys → IsInOrder (xs ++ rs ++ ys)
  between-order xs rs ys before o after = record {
    released = released-append Nothing (xs ++ rs) ys (released-append Nothing xs rs (quiet-released xs before) o.released) (quiet-released ys after);
    falls = xs ++ o.falls;
    rises = o.rises ++ ys;
    split = ap (λ (zs : List Rec). xs ++ zs ++ ys) o.split ∙ ap (λ (zs : List Rec). zs ++ ys) (sym (append_assoc xs o.falls o.rises)) ∙ append_assoc (xs ++ o.falls) o.rises ys;
    falling = Each-append IsFalling xs o.falls (Each-weaker IsQuiet IsFalling (λ r q. q.1) xs before) o.falling;
    rising = Each-append IsRising o.rises ys o.rising (Each-weaker IsQuiet IsRising (λ r q. q.2) ys after);
  }

  -- ---- the notes of a turn

  later-released : (rs : List Rec) → Each IsLater rs → AreReleased inside Nothing rs
  later-released rs e = none-due rs (Each-weaker IsLater (λ r. due_behind inside r ≡ Nothing) one rs e) where
    one : (r : Rec) → IsLater r → due_behind inside r ≡ Nothing
    one (rec.AssignedLater c r path n add size queue) h = refl
    one _ h = absurd h

  later-rising : (rs : List Rec) → Each IsLater rs → Each IsRising rs
  later-rising rs e = Each-weaker IsLater IsRising one rs e where
    one : (r : Rec) → IsLater r → IsRising r
    one (rec.AssignedLater c r path n add size queue) h = tt
    one _ h = absurd h

  -- behind what was read
  behind-read : (rs last : List Rec) → Each IsRead rs → AreReleased inside Nothing last → Each IsRising last → IsInOrder (rs ++ last)
  behind-read rs last e released rising =
      let quiet : Each IsQuiet rs = Each-weaker IsRead IsQuiet read-quiet rs e in
      record {
        released = released-append Nothing rs last (quiet-released rs quiet) released;
        falls = rs;
        rises = last;
        split = refl;
        falling = Each-weaker IsQuiet IsFalling (λ r q. q.1) rs quiet;
        rising = rising;
      }

  over-order : (c : ℕ) (over : Bool) (rs : List Rec) → Each IsLater rs → IsInOrder (over_note c over ++ rs)
  over-order c true rs e = record {
    released = later-released rs e;
    falls = rec.BatchOver c ∷ [];
    rises = rs;
    split = refl;
    falling = (tt, tt);
    rising = later-rising rs e;
  }
  over-order c false rs e = record { released = later-released rs e; falls = []; rises = rs; split = refl; falling = tt; rising = later-rising rs e }

  begins-order : (c : ℕ) → inside c ≡ false → IsInOrder (rec.Took Front c (record { 0 = 1 }) ∷ [])
  begins-order c out = record {
    released = subst (λ (b : Bool). AreReleased inside (cond b (Release c) Nothing) []) (sym (ap (λ (b : Bool). b || false) out)) tt;
    falls = rec.Took Front c (record { 0 = 1 }) ∷ [];
    rises = [];
    split = refl;
    falling = (tt, tt);
    rising = tt;
  }

  -- what is behind the release of one that was admitted
  ends-released : (c : ℕ) (epoch : Epoch) (last : List Rec) → inside c ≡ true → AreReleased inside Nothing last → AreReleased inside Nothing (rec.Took Front c epoch ∷ rec.Released c ∷ last)
  ends-released c epoch last in_ h =
      subst (λ (b : Bool). AreReleased inside (cond b (Release c) Nothing) (rec.Released c ∷ last)) (sym (ap (λ (b : Bool). b || nat_lt 1 epoch.0) in_)) (refl, h)

  -- what is read on
  on-order : (c : ℕ) (rs : List Rec) → IsReadOn c rs → IsInOrder rs
  on-order c all (Answers rs e) = quiet-order rs (Each-weaker IsRead IsQuiet read-quiet rs e)
  on-order c all (Waits rs e) = behind-read rs (rec.Waits c ∷ []) e tt (tt, tt)
  on-order c all (Goes rs r path n add remove e) = behind-read rs (rec.Admitted c ∷ rec.AssignedFirst c r path n add remove ∷ []) e tt (tt, (tt, tt))

  returns-order : (c : ℕ) (epoch : Epoch) (rs : List Rec) → inside c ≡ true → IsInOrder rs → IsInOrder (rec.Took Front c epoch ∷ rec.Released c ∷ rs)
  returns-order c epoch rs in_ o = record {
    released = ends-released c epoch rs in_ o.released;
    falls = rec.Took Front c epoch ∷ rec.Released c ∷ o.falls;
    rises = o.rises;
    split = ap (λ (zs : List Rec). rec.Took Front c epoch ∷ rec.Released c ∷ zs) o.split;
    falling = (tt, (tt, o.falling));
    rising = o.rising;
  }

  pub noted-order : (c : ℕ) (s : Was) → inside c ≡ s.inside → (rs : List Rec) → Noted c s rs → IsInOrder rs
  noted-order c s is all Silent = quiet-order [] tt
  noted-order c s is all (Begins out) = begins-order c (is ∙ out)
  noted-order c s is all (Reads rs held out on) = on-order c rs on
  noted-order c s is all (Shares over later e) = over-order c over later e
  noted-order c s is all (Returns rs in_ out on) = returns-order c (record { 0 = s.epoch + 1 }) rs (is ∙ in_) (on-order c rs on)

  -- a node that is closed where a connection comes back
  closed-released : (o : LineDue) (n : ℕ) (rs : List Rec) → AreReleased inside o rs → AreReleased inside o (rec.Closed n ∷ rs)
  closed-released Nothing n rs h = h
  closed-released (Release c) n rs h = h

  closed-order : (xs ys : List Rec) → IsClosedIn xs ys → IsInOrder xs → IsInOrder ys
  closed-order all same (Nowhere rs) o = o
  closed-order all more (Behind c epoch n rs) o = go o.falls o.rises o.split o.falling o.rising where
    it : List Rec
    it = rec.Took Front c epoch ∷ rec.Closed n ∷ rec.Released c ∷ rs

    go : (falls rises : List Rec) → rec.Took Front c epoch ∷ rec.Released c ∷ rs ≡ falls ++ rises → Each IsFalling falls → Each IsRising rises → IsInOrder it
    go [] rises same f r = absurd (subst (Each IsRising) (sym same) r).1.0
    go (x ∷ []) rises same f r =
        let rest : rec.Released c ∷ rs ≡ rises = cc in
        absurd (subst (Each IsRising) (sym rest) r).0
    go (x ∷ y ∷ falls) rises same f r =
        let rest : rs ≡ falls ++ rises = cc in
        record {
          released = closed-released (due_behind inside (rec.Took Front c epoch)) n (rec.Released c ∷ rs) o.released;
          falls = rec.Took Front c epoch ∷ rec.Closed n ∷ rec.Released c ∷ falls;
          rises = rises;
          split = ap (λ (zs : List Rec). rec.Took Front c epoch ∷ rec.Closed n ∷ rec.Released c ∷ zs) rest;
          falling = (tt, (tt, (tt, f.1.1)));
          rising = r;
        }

  -- ---- and of an admission behind them

  module _ (d r : ℕ) (path : List ℕ) (n : ℕ) (add remove : Option ℕ) where
    abbrev entry : List Rec
    entry = rec.Admitted d ∷ rec.AssignedFirst d r path n add remove ∷ []

    entry-order : (xs : List Rec) → IsInOrder xs → IsInOrder (xs ++ entry)
    entry-order xs o = record {
      released = released-append Nothing xs entry o.released tt;
      falls = o.falls;
      rises = o.rises ++ entry;
      split = ap (λ (zs : List Rec). zs ++ entry) o.split ∙ append_assoc o.falls o.rises entry;
      falling = o.falling;
      rising = Each-append IsRising o.rises entry o.rising (tt, (tt, tt));
    }

  enters-order : (d : ℕ) (xs ys : List Rec) → IsInOrder xs → Enters d ys → IsInOrder (xs ++ ys)
  enters-order d xs ys o (Alone r path n add remove) = entry-order d r path n add remove xs o

  -- an admission by itself
  pub alone-order : (d : ℕ) (ys : List Rec) → Enters d ys → IsInOrder ys
  alone-order d ys (Alone r path n add remove) = behind-read [] (rec.Admitted d ∷ rec.AssignedFirst d r path n add remove ∷ []) tt tt (tt, (tt, tt))

  -- ---- what stands before records that release nobody

  front-released : (o : LineDue) (xs zs : List Rec) → AreReleased inside o (xs ++ zs) → Each IsRising zs → AreReleased inside o xs
  front-released Nothing [] zs h e = tt
  front-released (Release c) [] [] h e = absurd h
  front-released (Release c) [] (rec.Closed n ∷ zs) h e = absurd e.0
  front-released (Release c) [] (z ∷ zs) h e = absurd (subst IsRising h.0 e.0)
  front-released Nothing (x ∷ xs) zs h e = front-released (due_behind inside x) xs zs h e
  front-released (Release c) (rec.Closed n ∷ xs) zs h e = front-released (Release c) xs zs h e
  front-released (Release c) (x ∷ xs) zs h e = (h.0, front-released Nothing xs zs h.1 e)

  -- what falls first falls first in front of others
  record FallsFirst (rs : List Rec) : Type 0 where
    falls : List Rec
    rises : List Rec
    split : rs ≡ falls ++ rises
    falling : Each IsFalling falls
    rising : Each IsRising rises

  front-all : (P : Rec → Type 0) (xs zs rs : List Rec) → xs ++ zs ≡ rs → Each P rs → Each P xs
  front-all P [] zs rs same e = tt
  front-all P (x ∷ xs) zs [] same e = let no : x ∷ (xs ++ zs) ≡ [] = same in absurd cc
  front-all P (x ∷ xs) zs (r ∷ rs) same e =
      let lists : x ∷ (xs ++ zs) ≡ r ∷ rs = same in
      let one : x ≡ r = cc in
      let rest : xs ++ zs ≡ rs = cc in
      (subst P (sym one) e.0, front-all P xs zs rs rest e.1)

  front-falls : (xs zs falls rises : List Rec) → xs ++ zs ≡ falls ++ rises → Each IsFalling falls → Each IsRising rises → FallsFirst xs
  front-falls [] zs falls rises same f r = record { falls = []; rises = []; split = refl; falling = tt; rising = tt }
  front-falls (x ∷ xs) zs [] rises same f r = record { falls = []; rises = x ∷ xs; split = refl; falling = tt; rising = front-all IsRising (x ∷ xs) zs rises same r }
  front-falls (x ∷ xs) zs (y ∷ falls) rises same f r =
      let lists : x ∷ (xs ++ zs) ≡ y ∷ (falls ++ rises) = same in
      let one : x ≡ y = cc in
      let rest : xs ++ zs ≡ falls ++ rises = cc in
      let h : FallsFirst xs = front-falls xs zs falls rises rest f.1 r in
      record { falls = x ∷ h.falls; rises = h.rises; split = ap (λ (rs : List Rec). x ∷ rs) h.split; falling = (subst IsFalling (sym one) f.0, h.falling); rising = h.rising }

  -- Records are in order where they are so with quiet ones behind them.
  pub front-order : (xs zs : List Rec) → IsInOrder (xs ++ zs) → Each IsQuiet zs → IsInOrder xs
  front-order xs zs o e =
      let h : FallsFirst xs = front-falls xs zs o.falls o.rises o.split o.falling o.rising in
      record {
        released = front-released Nothing xs zs o.released (Each-weaker IsQuiet IsRising (λ r q. q.2) zs e);
        falls = h.falls;
        rises = h.rises;
        split = h.split;
        falling = h.falling;
        rising = h.rising;
      }

  -- behind one connection another one is admitted, and quiet records stand behind that
  pub round-order : (d : ℕ) (xs ys zs : List Rec) → IsInOrder (xs ++ zs) → Each IsQuiet zs → Enters d ys → IsInOrder (xs ++ ys ++ zs)
  round-order d xs ys zs o e enters = between-order [] (xs ++ ys) zs tt (enters-order d xs ys (front-order xs zs o e) enters) e

-- ---- a step

pub own-enters : (m : Machine) (c : ℕ) (v : Move) → IsNoted (conn m c) v → v.place ≡ Front → v.heads ≡ [] → Enters c v.said.notes
unfolding conn
own-enters m c v h at none = (h.alone at none).enters

module _ (m : Machine) (lined : (q : ℕ) → IsLined (conn m q)) (inside : ℕ → Bool) (told_is : (q : ℕ) → inside q ≡ (stand_at (conn m q)).inside) where
  -- what a step adds is in order
  abbrev pub Adds : Machine → Type 0
  Adds n = (rs : List Rec) × (n.journal ≡ m.journal ++ rs) × IsInOrder inside rs

  passed-adds : (w : Machine) (e : Event) (own : List Rec) → w.journal ≡ m.journal → Each IsQuiet own → Adds (passed w e own)
  passed-adds w e own same quiet =
      (rec.Event (w.events + 1) e ∷ own, ap (λ (J : List Rec). J ++ rec.Event (w.events + 1) e ∷ own) same, quiet-order inside (rec.Event (w.events + 1) e ∷ own) (((λ i. refl), tt, tt, tt), quiet))

  told-adds : (w : Machine) (e : Event) (place : Place) (o : Out) → IsAct m w e place o → IsInOrder inside o.notes → Adds (machine_told w e (behind e) place o)
  told-adds w e place o act notes = (
    first_rows w e ++ o.notes ++ last_rows w place o,
    told-journal w e place o ∙ ap (λ (J : List Rec). J ++ (first_rows w e ++ o.notes ++ last_rows w place o)) act.put.journal,
    between-order inside (first_rows w e) o.notes (last_rows w place o) (first-calm IsQuiet allows-quiet w e) notes
        (last-calm IsQuiet allows-quiet w place o (gifts-calm IsQuiet allows-quiet place o.gave act.gave) (timers-calm IsQuiet allows-quiet place o.timers act.timers)),
  )

  -- a connection has its number
  own-noted : (c : ℕ) (v : Move) → IsNoted (conn m c) v → v.place ≡ Front → Noted c (was_at (conn m c)) v.said.notes ⊎ Enters c v.said.notes
  unfolding conn
  own-noted c v h at = ⊎_elim (λ (k : Noted c (was_at (conn m c)) v.said.notes). inl k) (λ (k : IsEntry (conn m c) v). inr k.enters) (h.noted at)

  turn-order : (c : ℕ) (rs : List Rec) → Noted c (was_at (conn m c)) rs ⊎ Enters c rs → IsInOrder inside rs
  turn-order c rs h = ⊎_elim (λ (k : Noted c (was_at (conn m c)) rs). noted-order inside c (was_at (conn m c)) (told_is c) rs k) (λ (k : Enters c rs). alone-order inside c rs k) h

  -- what another place than the front end notes
  other-order : (place : Place) (c : ℕ) (rs : List Rec) → (place ≡ Front → ⊥) → Each (NotedIn place c) rs → IsInOrder inside rs
  other-order place c rs never e = quiet-order inside rs (Each-weaker (NotedIn place c) IsQuiet (λ r h. in-quiet place c r never h) rs e)

  notes-order : (e : Event) (place : Place) (c : ℕ) (heads : List Seen) (ns : List Rec) (o : Out) (p : Part) → Each (NotedIn place c) o.notes
      → ClosesBehind m e c o.notes ⊎ Each IsNoClosing o.notes → ((net : List Packet) → seen_on c net o.notes ≡ map Row ns)
      → Notes (conn m c) (move_of place heads ns o p) → IsInOrder inside o.notes
  notes-order e Front c heads ns o p noted closes seen does =
      closed-order inside ns o.notes (one-closed m e c ns o.notes noted closes seen)
      (turn-order c ns (own-noted c (move_of Front heads ns o p) (does (lined c)) refl))
  notes-order e (Node n) c heads ns o p noted closes seen does =
      other-order (Node n) c o.notes (λ e. let no : Node n ≡ Front = e in absurd cc) noted
  notes-order e (Client d) c heads ns o p noted closes seen does =
      other-order (Client d) c o.notes (λ e. let no : Client d ≡ Front = e in absurd cc) noted

  -- of two, at the front end
  both-order : (w : Machine) (e : Event) (a b z : Out) (rows : List Rec) (c d : ℕ) (heads : List Seen) (ns : List Rec) (p r : Part)
      → ActsOnTwo m w e a b z rows c d heads ns p r → Notes (conn m c) (move_of Front heads ns (with_rest a z) p)
      → Notes (conn m d) (move_of Front [] b.notes b r) → IsInOrder inside (a.notes ++ b.notes ++ z.notes)
  both-order w e a b z rows c d heads ns p r act does then =
      let enters : Enters d b.notes = own-enters m d (move_of Front [] b.notes b r) (then (lined d)) refl refl in
      let k : ClosedTwo c ns a.notes z.notes = two-closed m w e a b z rows c d heads ns p r act enters in
      let turn : IsInOrder inside (k.own ++ z.notes) =
      subst (IsInOrder inside) (sym k.are) (turn-order c ns (own-noted c (move_of Front heads ns (with_rest a z) p) (does (lined c)) refl)) in
      closed-order inside (k.own ++ b.notes ++ z.notes) (a.notes ++ b.notes ++ z.notes)
      (closed-append (k.own ++ b.notes) (a.notes ++ b.notes) z.notes (closed-append k.own a.notes b.notes k.is))
      (round-order inside d k.own b.notes z.notes turn (Each-weaker ReadsOn IsQuiet on-quiet z.notes act.reads_on) enters)

  -- what names nobody
  nobody-order : (place : Place) (rs : List Rec) → Each (NamesNobody place) rs → IsInOrder inside rs
  nobody-order place rs e = record {
    released = none-due inside rs (Each-weaker (NamesNobody place) (λ r. due_behind inside r ≡ Nothing) (λ r h. (nobody-falls place r h).0 inside) rs e);
    falls = rs;
    rises = [];
    split = sym (append-nil rs);
    falling = Each-weaker (NamesNobody place) IsFalling (λ r h. (nobody-falls place r h).1) rs e;
    rising = tt;
  }

  shapes-add : Shapes m Notes (λ e n. Adds n)
  unfolding clocked
  shapes-add = record {
    one = λ w e place o c heads ns p act does. told-adds w e place o (one-act m w e place o c heads ns p act)
        (notes-order e place c heads ns o p act.said.notes act.closes act.notes does);
    two = λ w e a b z rows c d heads ns p r act does too. told-adds w e Front (both_out a b z rows) (two-act m w e a b z rows c d heads ns p r act)
        (both-order w e a b z rows c d heads ns p r act does too);
    each = λ w e place notes xs act made. told-adds w e place (each_out notes xs) (each-act m w e place notes xs act)
        (nobody-order place notes act.nobody);
    nobody = λ k l at there. passed-adds m (event.Deliver k) (rec.Got k ∷ []) refl (((λ i. refl), tt, tt, tt), tt);
    loses = λ k l at there. passed-adds (record m { net = lose_at (k - 1) m.net }) (event.Lose k) (rec.Lost k ∷ []) refl (((λ i. refl), tt, tt, tt), tt);
    clocks = λ ms. passed-adds (record m { now = m.now + ms }) (event.Clock ms) (rec.Clock (record { 0 = m.now + ms }) ∷ []) refl (((λ i. refl), tt, tt, tt), tt);
  }

  pub step-adds : IsViewed m → Rules (setting_of m) Notes → (n : Machine) (e : Event) → HasRule e → machine_step m e ≡ Ok n → Adds n
  step-adds view rules n e rule is = step-has m view Notes rules (λ d k. Adds k) shapes-add e n rule is
