-- A client writes while it is told that it has not closed: each client stands as its tale tells, rule by rule.
use Rattle.std.proofs.Common.{◌≡◌, ℕ, List, [], ◌∷◌, ◌++◌, map, Bool, true, false, cond, ◌||◌, Option, Some, None, refl, sym, ap, ◌∙◌, subst}
use Rattle.std.proofs.lemmas.Bool.{both_ways}
use Rattle.std.specs.FinMap as table
use Rattle.std.specs.List.{fold}
use Rattle.std.proofs.lemmas.List.Sums.{fold-append}
use Rattle.lard_law_view.specs.Prelude.{Came, Client, ClientBlock, ClientStands, ClientTale, Config, Conn, EachRow, Event, IsLaw, IsOpened, IsReached, IsUnopened, Machine, MayRestOn, MayWrite, Move, OfEach, Place, Rec, Row, Rules, Seen, Setting, Station, Tale, ToClient, Turn, client_aborts, client_begins, client_does, client_gets, client_holds, client_injects, client_opens, client_shuts, client_takes, client_tale, client_timer, client_writes, conn, decoded, event_seen, event_shuts, grown, has_closed, inject_seen, nothing_said, own, packet_seen, part_of, plain, request, rows_of, seen_in, seen_step, setting, stands, tale, tale_at, tale_of, tale_step, timer_rows, told_on, untold, whose, with_leaving}
use Rattle.lard_base.specs.declared.event.Event.TheVariants as event
use Rattle.lard_laws.specs.ClientsFirsts.{StandsAsTold}
use Rattle.lard_laws.specs.ClientsLaws.{WritersAreLawful}
use Rattle.lard_laws.proofs.ClientsAsides.{IsOfMachine, rows-machine, same-station}
use Rattle.lard_law_view.specs.Carry.{TellsBy}
use Rattle.lard_law_view.specs.View.{sending}
use Rattle.lard_law_view.proofs.Carried.{carried}
use Rattle.lard_law_view.proofs.Fine.{IsItsOwn}
use Rattle.lard_law_view.proofs.Frames.{IsAtMachine, IsHeadAt, Owed, fronts-leave, nodes-leave}
use Rattle.lard_law_view.proofs.Guarded.{weaker}
use Rattle.lard_law_view.proofs.InSteps.{carried-records}
use Rattle.lard_law_view.proofs.Rows.{grown-lawful, grown-tale, move-lawful, tale_before, tale_said}
use Rattle.lard_law_view.proofs.Timers.{timer_rows-same}
use Rattle.lard_history.proofs.Each.{Each, Each-append, Each-weaker}
use Rattle.lard_history.proofs.Lifting.{each_row-append, tale-own}
use Rattle.lard_history.proofs.Seeing.{same_number}
use Rattle.lard_history.proofs.Tales.{closed-tale, other}
use Rattle.lard_journal.specs.declared.rec.Rec.TheVariants as rec
use Rattle.lard_law_view.proofs.ClientNotes.{ClientSays, aborts-says, gets-says, holds-says, injects-says, opens-says, shuts-says, takes-says, timer-says, writes-says}
use Rattle.lard_law_view.proofs.Telling.{MayStand, Tells}
use Rattle.lard_law_view.proofs.RowLists.{MayBeSeen, client-sends-tale}
use Rattle.lard_law_view.proofs.OfKinds.{each-tells, of-sends, of-timers}

-- ---- the law, in the tale of one connection

-- the connection's client writes where it is told that it has not closed
abbrev MayWriteBy : ℕ → Tale → Rec → Type 0
MayWriteBy c t (rec.Wrote d bytes) = (d ≡ c) × (t.has_closed ≡ false)
MayWriteBy c t _ = Unit {0}

abbrev NotWrote : Rec → Type 0
NotWrote (rec.Wrote d bytes) = ⊥
NotWrote _ = Unit {0}

not-wrote : (c : ℕ) (t : Tale) (r : Rec) → NotWrote r → MayWriteBy c t r
not-wrote c t (rec.Wrote d bytes) n = absurd n
not-wrote c t _ n = tt

none-wrote : (c : ℕ) (t : Tale) (rs : List Rec) → Each NotWrote rs → TellsBy (MayWriteBy c) c t rs
none-wrote c t rs n = each-tells NotWrote (MayWriteBy c) (not-wrote c) c t rs n

-- what may stand by the laws of places, may by this one
stands-writes : (stream c : ℕ) (t : Tale) (r : Rec) → MayStand stream c t r → MayWriteBy c t r
stands-writes stream c t (rec.Wrote d bytes) h = h
stands-writes stream c t _ h = tt

tells-writes : (stream c : ℕ) (t : Tale) (rs : List Rec) → Tells stream c t rs → TellsBy (MayWriteBy c) c t rs
tells-writes stream c t [] h = tt
tells-writes stream c t (r ∷ rs) h = (stands-writes stream c t r h.0, tells-writes stream c (tale_step c t r) rs h.1)

abbrev May : ℕ → List Seen → Rec → Type 0
May c = MayBeSeen (MayWriteBy c) c

sends-wrote : (place : Place) (ss : List (Place × List ℕ)) → Each NotWrote (map (sending place) ss)
sends-wrote = of-sends NotWrote (λ k from to bytes. tt)

-- it is the law of the journal
wrote-nobody : (J : List Rec) (r : Rec) → whose r ≡ None → MayWrite J r
wrote-nobody J (rec.Wrote d bytes) e = let no : Some d ≡ None = e in absurd cc
wrote-nobody J _ e = tt

wrote-somebody : (J : List Rec) (r : Rec) (c : ℕ) → whose r ≡ Some c → May c (own c J) (plain r) → MayWrite J r
wrote-somebody J (rec.Wrote d bytes) c e h =
    subst (λ (q : ℕ). has_closed J q ≡ false) (sym h.0) (closed-tale J c ∙ ap (λ (t : Tale). t.has_closed) (tale-own J c) ∙ h.1)
wrote-somebody J _ c e h = tt

-- ---- what a client is

-- it stands as its tale tells, and each record of its connection may stand among its own
record StandsOpen (x : Conn) : Type 0 where
  client : ClientStands x.c x.part.station (client_tale (tale_at x))
  lawful : EachRow (May x.c) [] x.seen

-- what a move owes
abbrev Keeps : Conn → Move → Type 0
Keeps x v = StandsOpen x → StandsOpen (grown x v)

-- ---- another place acts

-- what is seen tells nothing of the client, and is nothing that it wrote
abbrev IsQuiet : ℕ → Seen → Type 0
IsQuiet c (Row r) = ((t : Tale) → client_tale (tale_step c t r) ≡ client_tale t) × NotWrote r
IsQuiet c (Came l) = Unit {0}

not-true : (b : Bool) → b ≡ true → b ≡ false → ⊥
not-true b yes_ no_ = both_ways b no_ yes_

machine-quiet : (c : ℕ) (r : Rec) → IsOfMachine r → IsQuiet c (Row r)
machine-quiet c (rec.Event i e) h = absurd (not-true true refl h.0)
machine-quiet c (rec.Inner e) h = absurd (not-true true refl h.0)
machine-quiet c (rec.Opened d isn iss wnd mss) h = absurd (not-true true refl h.1)
machine-quiet c (rec.Wrote d bytes) h = absurd (not-true true refl h.1)
machine-quiet c (rec.Accepted d bytes) h = absurd (not-true true refl h.1)
machine-quiet c (rec.Eof d) h = absurd (not-true true refl h.1)
machine-quiet c (rec.Aborted d) h = absurd (not-true true refl h.1)
machine-quiet c _ h = ((λ t. refl), tt)

rows-quiet : (c : ℕ) (rs : List Rec) → Each IsOfMachine rs → Each (IsQuiet c) (map Row rs)
rows-quiet c [] e = tt
rows-quiet c (r ∷ rs) e = (machine-quiet c r e.0, rows-quiet c rs e.1)

or-false : (b : Bool) → b || false ≡ b
or-false true = refl
or-false false = refl

head-quiet : (place : Place) (c : ℕ) (s : Seen) → IsHeadAt place c s → IsQuiet c s
head-quiet place c (Row (rec.Event i (event.Timer p d))) h = ((λ t. ap (λ b. record (client_tale t) { has_closed = b }) (or-false t.has_closed)), tt)
head-quiet place c (Came l) h = tt
head-quiet place c _ h = absurd h

quiet-tale : (c : ℕ) (t : Tale) (ss : List Seen) → Each (IsQuiet c) ss → client_tale (fold (seen_step (tale_step c)) t ss) ≡ client_tale t
quiet-tale c t [] e = refl
quiet-tale c t (Row r ∷ ss) e = quiet-tale c (tale_step c t r) ss e.1 ∙ e.0.0 t
quiet-tale c t (Came l ∷ ss) e = quiet-tale c t ss e.1

quiet-may : (c : ℕ) (past ss : List Seen) → Each (IsQuiet c) ss → EachRow (May c) past ss
quiet-may c past [] e = tt
quiet-may c past (Row r ∷ ss) e = (not-wrote c (tale_of c past) r e.0.1, quiet-may c (past ++ Row r ∷ []) ss e.1)
quiet-may c past (Came l ∷ ss) e = quiet-may c (past ++ Came l ∷ []) ss e.1

-- so it is of a move
quiet-told : (x : Conn) (v : Move) → Each (IsQuiet x.c) (seen_in x v) → client_tale (tale_at (grown x v)) ≡ client_tale (tale_at x)
quiet-told x v quiet = ap client_tale (fold-append (seen_step (tale_step x.c)) untold x.seen (seen_in x v)) ∙ quiet-tale x.c (tale_at x) (seen_in x v) quiet

quiet-keeps : (x : Conn) (v : Move) → v.part.station ≡ x.part.station → Each (IsQuiet x.c) (seen_in x v) → Keeps x v
quiet-keeps x v same quiet h = record {
  client = subst (λ (t : ClientTale). ClientStands x.c v.part.station t) (sym (quiet-told x v quiet)) (subst (λ (o : Option Station). ClientStands x.c o (client_tale (tale_at x))) (sym same) h.client);
  lawful = each_row-append (May x.c) [] x.seen (seen_in x v) h.lawful (quiet-may x.c x.seen (seen_in x v) quiet);
}

machine-quiet-all : (x : Conn) (v : Move) → IsAtMachine x v → IsItsOwn x v → Each (IsQuiet x.c) (seen_in x v)
machine-quiet-all x v at own = Each-append (IsQuiet x.c) v.heads (map Row (rows_of x v)) (Each-weaker (IsHeadAt v.place x.c) (IsQuiet x.c) (head-quiet v.place x.c) v.heads at.heads)
    (rows-quiet x.c (rows_of x v) (rows-machine x v at.machine own))

-- where nothing is done
nothing-quiet : (x : Conn) (from to : Place) (bytes : List ℕ) → Each (IsQuiet x.c) (seen_in x (stands x to (packet_seen from to bytes) nothing_said))
nothing-quiet x from to bytes = (tt, subst (λ (rs : List Rec). Each (IsQuiet x.c) (map Row rs)) (sym (timer_rows-same to x.c x.part)) tt)

machine-keeps : (x : Conn) (v : Move) → IsAtMachine x v → IsItsOwn x v → Keeps x v
machine-keeps x v at own = quiet-keeps x v (same-station v.place x.part v.part at.machine at.keeps) (machine-quiet-all x v at own)

-- a machine's move tells nothing of the client, and nor does a packet that nobody hears
pub machine-told : (x : Conn) (v : Move) → IsAtMachine x v → IsItsOwn x v → client_tale (tale_at (grown x v)) ≡ client_tale (tale_at x)
machine-told x v at own = quiet-told x v (machine-quiet-all x v at own)

pub nothing-told : (x : Conn) (from to : Place) (bytes : List ℕ) → client_tale (tale_at (grown x (stands x to (packet_seen from to bytes) nothing_said))) ≡ client_tale (tale_at x)
nothing-told x from to bytes = quiet-told x (stands x to (packet_seen from to bytes) nothing_said) (nothing-quiet x from to bytes)

-- ---- a client acts

event-tale : (c : ℕ) (t : Tale) (e : Event) → event_shuts c e ≡ false → tale_step c t (rec.Event 0 e) ≡ t
event-tale c t e n = other c t (rec.Event 0 e) n

module _ (k : Setting) (x : Conn) (h : StandsOpen x) where
  -- its rule, once what is seen before its notes may stand
  client-keeps : (s : Station) (heads : List Seen) (given : ClientBlock × Turn) → EachRow (May x.c) x.seen heads
      → ClientSays k.stream x.c s.iss (fold (seen_step (tale_step x.c)) (tale_at x) heads) given → StandsOpen (grown x (client_does x s heads given))
  client-keeps s heads given may says =
      let v : Move = client_does x s heads given in
      let u : Tale = tale_before x v in
      let t : Tale = told_on x.c u given.1.notes in
      let sent : told_on x.c t (map (sending (Client x.c)) given.1.segments) ≡ t = client-sends-tale x.c x.c given.1.segments t in
      let told : tale_at (grown x v) ≡ t = grown-tale x v tt ∙ sent in
      record {
        client = subst (λ (w : Tale). ClientStands x.c (Some (record { client = given.0; iss = s.iss })) (client_tale w)) (sym told) says.stands;
        lawful = grown-lawful (MayWriteBy x.c) x v h.lawful
            (move-lawful (MayWriteBy x.c) x v may (tells-writes k.stream x.c u given.1.notes says.told) (none-wrote x.c t (map (sending (Client x.c)) given.1.segments) (sends-wrote (Client x.c) given.1.segments)) tt tt
            (none-wrote x.c (tale_said x v u) (timer_rows (Client x.c) x.c x.part v.part) (of-timers NotWrote (λ p d kind. (tt, tt)) (Client x.c) x.c x.part v.part)));
      }

  begins-keeps : (isn iss wnd mss : ℕ) → x.part.station ≡ None → StandsOpen (grown x (client_begins x isn iss wnd mss))
  begins-keeps isn iss wnd mss none =
      let t : Tale = tale_at x in
      let e : Event = event.Open x.c isn iss wnd mss in
      let before : tale_step x.c t (rec.Event 0 e) ≡ t = event-tale x.c t e refl in
      let u : Tale = tale_step x.c (tale_step x.c t (rec.Event 0 e)) (rec.Opened x.c isn iss wnd mss) in
      let new : IsUnopened (client_tale t) = subst (λ (o : Option Station). ClientStands x.c o (client_tale t)) none h.client in
      let says : ClientSays k.stream x.c iss u (client_opens x.c isn wnd mss) = opens-says k.stream x.c iss u isn wnd mss
      (ap (λ b. cond b (Some (record { isn = isn; iss = iss })) (tale_step x.c t (rec.Event 0 e)).numbers) (same_number x.c)) (ap (λ (w : Tale). w.has_closed) before ∙ new.writes) in
      client-keeps (record { client = (client_opens x.c isn wnd mss).0; iss = iss }) (Row (rec.Event 0 e) ∷ Row (rec.Opened x.c isn iss wnd mss) ∷ []) (client_opens x.c isn wnd mss) (tt, (tt, tt)) says

  module _ (s : Station) (there : x.part.station ≡ Some s) where
    opened : IsOpened x.c s (client_tale (tale_at x))
    opened = subst (λ (o : Option Station). ClientStands x.c o (client_tale (tale_at x))) there h.client

    -- an event that tells nothing
    event-keeps : (e : Event) (given : ClientBlock × Turn) → event_shuts x.c e ≡ false → ClientSays k.stream x.c s.iss (tale_at x) given → StandsOpen (grown x (client_does x s (event_seen e) given))
    event-keeps e given quiet says =
        client-keeps s (event_seen e) given (tt, tt) (subst (λ (t : Tale). ClientSays k.stream x.c s.iss t given) (sym (event-tale x.c (tale_at x) e quiet)) says)

    shuts-keeps : StandsOpen (grown x (client_does x s (event_seen (event.Shut x.c)) (client_shuts s.client)))
    shuts-keeps = client-keeps s (event_seen (event.Shut x.c)) (client_shuts s.client) (tt, tt)
        (shuts-says k.stream x.c s.iss (tale_step x.c (tale_at x) (rec.Event 0 (event.Shut x.c))) s.client opened.number opened.numbers)

    hears-keeps : (from : Place) (bytes : List ℕ) → StandsOpen (grown x (client_does x s (packet_seen from (Client x.c) bytes) (client_gets s.client (decoded bytes x.c ToClient))))
    hears-keeps from bytes = client-keeps s (packet_seen from (Client x.c) bytes) (client_gets s.client (decoded bytes x.c ToClient)) tt (gets-says k.stream x.c s.iss (tale_at x) s.client opened (decoded bytes x.c ToClient))

    injects-keeps : (bytes : List ℕ) → StandsOpen (grown x (client_does x s (inject_seen x.c bytes) (client_injects s.client bytes)))
    injects-keeps bytes =
        let e : Rec = rec.Event 0 (event.Inject x.c bytes) in
        let before : tale_step x.c (tale_at x) e ≡ tale_at x = event-tale x.c (tale_at x) (event.Inject x.c bytes) refl in
        let u : Tale = tale_step x.c (tale_step x.c (tale_at x) e) (rec.Injected x.c) in
        client-keeps s (inject_seen x.c bytes) (client_injects s.client bytes) (tt, (tt, tt)) (injects-says k.stream x.c s.iss u s.client (subst (IsOpened x.c s) (sym (ap client_tale before)) opened) bytes)

-- ---- every rule

keeping : (k : Setting) → Rules k (Owed Keeps)
keeping k = record {
  untouched = record {
    client = record {
      opens = λ x isn iss wnd mss rule none number sound h. begins-keeps k x h isn iss wnd mss none;
      gets = λ x s path there le number sound h. event-keeps k x h s there (event.Get x.c path) (client_writes s.client (request path)) refl (writes-says k.stream x.c s.iss (tale_at x) s.client (opened k x h s there) (request path));
      writes = λ x s bytes there le number sound h. event-keeps k x h s there (event.Write x.c bytes) (client_writes s.client bytes) refl (writes-says k.stream x.c s.iss (tale_at x) s.client (opened k x h s there) bytes);
      shuts = λ x s there number sound h. shuts-keeps k x h s there;
      aborts = λ x s there number sound h. event-keeps k x h s there (event.Abort x.c) (client_aborts s.client) refl (aborts-says k.stream x.c s.iss (tale_at x) s.client (opened k x h s there));
      holds = λ x s there number sound h. event-keeps k x h s there (event.Hold x.c) (client_holds s.client) refl (holds-says k.stream x.c s.iss (tale_at x) s.client (opened k x h s there));
      takes = λ x s there number sound h. event-keeps k x h s there (event.Take x.c) (client_takes s.client) refl (takes-says k.stream x.c s.iss (tale_at x) s.client (opened k x h s there));
      fires = λ x s there number sound h. event-keeps k x h s there (event.Timer (Client x.c) x.c) (client_timer s.client) refl (timer-says k.stream x.c s.iss (tale_at x) s.client (opened k x h s there));
      hears = λ x s from bytes there was number sound h. hears-keeps k x h s there from bytes;
    };
    front = fronts-leave k Keeps (λ x v at own number sound h. machine-keeps x v at own h);
    node = nodes-leave k Keeps (λ x v at own number sound h. machine-keeps x v at own h);
    ignores = λ x from to bytes was number sound h. quiet-keeps x (stands x to (packet_seen from to bytes) nothing_said) refl (nothing-quiet x from to bytes) h;
  };
  injects = λ x s bytes there rule number sound h. injects-keeps k x h s there bytes;
}

-- nothing more is given
abbrev Anything : Conn → Type 0
Anything x = Unit {0}

standing : (k : Setting) → IsLaw k Anything StandsOpen
standing k = record {
  begins = λ c. record { client = record { numbers = refl; wrote = refl; accepted = refl; writes = refl }; lawful = tt };
  moves = weaker k (Owed Keeps) (λ x v. MayRestOn Anything x → StandsOpen x → StandsOpen (grown x v)) (λ x v keeps may h. keeps may.number may.sound h) (keeping k);
}

pub writers-are : WritersAreLawful
unfolding conn
writers-are config files m r = carried-records config files MayWrite May wrote-nobody wrote-somebody
    (λ n s q. (carried config files Anything StandsOpen (λ l. standing (with_leaving (setting config files) l)) (λ m r q. tt) n s q).lawful) m r

-- each client stands as its tale tells
pub stand-as-told : (config : Config) (files : List (List ℕ × List ℕ)) → OfEach config files StandsAsTold
stand-as-told config files m r q = (carried config files Anything StandsOpen (λ l. standing (with_leaving (setting config files) l)) (λ n s p. tt) m r q).client

-- what is kept of each client fits what is told of it
pub clients-stand : (config : Config) (files : List (List ℕ × List ℕ)) (m : Machine) → IsReached config files m → (c : ℕ) → ClientStands c (table.get m.clients c) (client_tale (tale m.journal c))
unfolding conn part_of
clients-stand config files m r c = subst (λ (t : Tale). ClientStands c (table.get m.clients c) (client_tale t)) (sym (tale-own m.journal c)) (stand-as-told config files m r c)
