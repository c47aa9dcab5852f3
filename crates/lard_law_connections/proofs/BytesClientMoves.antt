-- What a client does leaves its connection in agreement.
use Rattle.std.proofs.Common.{◌≡◌, ◌≤◌, ◌+◌, ◌^◌, ℕ, nat_lt, Bool, false, true, cond, List, [], ◌∷◌, ◌++◌, map, take, drop, append-nil, Some, None, Result, arith, refl, ap, ◌∙◌, sym, subst, inl, ⊎_elim, ltb-false}
use Rattle.std.proofs.lemmas.Bool.{both_ways}
use Rattle.std.proofs.lemmas.List.{take-append-drop}
use Rattle.std.specs.List.{fold}
use Rattle.lard_law_view.specs.Prelude.{AreBetween, AreClientWords, Client, ClientBlock, ClientFires, ClientGets, ClientOpened, ClientReceives, ClientRules, ClientTurned, Conn, EachRow, FilesAt, Front, GoesBetween, Has, HasRule, IsConnSound, IsPrefix, IsReply, Letter, Move, Node, Place, Rec, Said, Seen, SegFault, Setting, Station, Stream, Tale, Talk, ToAbort, ToClient, ToGet, ToHold, ToShut, ToTake, ToWrite, Turn, Verdict, Was, accepted_in, client_begins, client_does, client_gets, client_opens, client_rule, client_writes, decoded, grown, letter, letters_of, request, seen_in, seen_step, spelled, tale_at, tale_step, timer_rows, told_on, unwritten, verdicts, written_in, written_len}
use Rattle.lard_base.specs.declared.event.Event.TheVariants as event
use Rattle.lard_law_connections.specs.BytesAgreement.{ConnAgrees, IsFair, IsFairOn, IsInner, IsNodePlace, IsOpen, IsTruthful, IsConnUnopened, SeatAgrees, StayComesOn, TaleAgreesWithTalk}
use Rattle.lard_law_connections.proofs.BytesLaw.{Helps, IsSeenTrue, IsTrueMove, StaysTruthful}
use Rattle.lard_law_connections.specs.BytesRecords.{IsOwnedTrueAfter}
use Rattle.lard_law_connections.proofs.BytesFair.{GoesOnFairly, all-on}
use Rattle.lard_law_connections.proofs.BytesLater.{said-stays, seat-stays}
use Rattle.lard_law_connections.proofs.BytesTelling.{Tells, client-tells, heads-true, timers-true, words-true}
use Rattle.lard_law_connections.proofs.BytesTold.{Bytes, bytes_of, heads-fin, move-bytes, tale-agrees}
use Rattle.lard_law_view.proofs.EachClient.{ClientComes, client_seen, each-client, of-client}
use Rattle.lard_law_view.proofs.Rows.{grown-tale, move-lawful, tale_before}
use Rattle.lard_law_view.proofs.Timers.{timer_rows-are}
use Rattle.lard_history.proofs.Each.{Each, Each-append}
use Rattle.lard_law_view.proofs.ClientHearing.{hears-turned}
use Rattle.lard_law_view.proofs.ClientAgreement.{aborts-turned, holds-turned, opens-agreeing, shuts-turned, takes-turned, timer-turned, writes-turned}
use Rattle.lard_law_view.proofs.Moments.{client-true}
use Rattle.lard_law_view.proofs.Notes.{Adds, client-notes, or-false, same-number}
use Rattle.lard_law_view.proofs.Prefix.{said-front}
use Rattle.lard_segment.proofs.Again.{again}
use Rattle.lard_law_view.proofs.Growth.{goes_on-same}
use Rattle.lard_law_view.proofs.RowLists.{client-sends-tale}

pub open-at : (files : FilesAt) (x : Conn) (s : Station) → x.part.station ≡ Some s → (h : IsTruthful files x) → IsOpen files x h.talk h.pend s
open-at files x s there h = subst (ConnAgrees files x h.talk h.pend) there h.agrees

pub words-fair : (k : Talk) (c d : ℕ) (x : Conn) (ss : List (Place × List ℕ)) → AreClientWords c k.w ss → Each (IsFair k c x.part) (map (letter (Client d)) ss)
words-fair k c d x [] h = tt
words-fair k c d x (s ∷ ss) h = (subst (λ (to : Place). IsFair k c x.part (record { from = Client d; to = to; bytes = s.1 })) (sym h.0) h.1, words-fair k c d x ss h.2)

-- what came was sent, and is fair
pub has-fair : (P : Letter → Type 0) (l : Letter) (ls : List Letter) → Has l ls → Each P ls → P l
has-fair P l [] h f = absurd h
has-fair P l (y ∷ ys) h f = ⊎_elim (λ (e : y ≡ l). subst P e f.0) (λ (t : Has l ys). has-fair P l ys t f.1) h

-- a packet goes where it may
has-between : (c : ℕ) (l : Letter) (ls : List Letter) → Has l ls → AreBetween c ls → GoesBetween c l.from l.to l.bytes
has-between c l [] h b = absurd h
has-between c l (y ∷ ys) h b = ⊎_elim (λ (e : y ≡ l). subst (λ (z : Letter). GoesBetween c z.from z.to z.bytes) e b.0) (λ (t : Has l ys). has-between c l ys t b.1) h

pub was-between : (x : Conn) (from to : Place) (bytes : List ℕ) → IsConnSound x → Was x from to bytes → GoesBetween x.c from to bytes
was-between x from to bytes sound was = has-between x.c (record { from = from; to = to; bytes = bytes }) x.letters was sound.between

-- ---- a client's turn

plus-zero : (n m : ℕ) → n ≡ m + 0 → n ≡ m
plus-zero n m e = omega (arith, e)

module _ (files : FilesAt) (x : Conn) (s : Station) (there : x.part.station ≡ Some s) (heads : List Seen) (given : ClientBlock × Turn) where
  abbrev v : Move
  v = client_does x s heads given

  module _ (help : Helps x v) (k : Talk) (pend : List Verdict) (h : IsOpen files x k pend s) (quiet : bytes_of (tale_before x v) ≡ bytes_of (tale_at x)) (t : ClientTurned x.c k.w k.out s.client given) where
    abbrev l : Talk
    l = record { w = t.w_after; out = k.out; vs = k.vs; was_reset = k.was_reset }

    abbrev before : Tale
    before = tale_before x v

    abbrev noted : Tale
    noted = told_on x.c before given.1.notes

    before-agrees : TaleAgreesWithTalk k s.client.accepted before
    before-agrees = tale-agrees k s.client.accepted (tale_at x) before quiet (λ e. h.tale.fin (sym (heads-fin x.c heads (tale_at x) help.heads) ∙ e)) h.tale

    adds : Adds before (written_in given.1.notes) (accepted_in given.1.notes) 0 0 false noted
    adds = client-notes x.c before given.1.notes t.notes

    noted-fin : noted.fin_sent ≡ true → k.out.ended ≡ true
    noted-fin e = before-agrees.fin (sym adds.fin_sent ∙ e)

    end-fin : (tale_at (grown x v)).fin_sent ≡ true → k.out.ended ≡ true
    end-fin e = noted-fin (sym (ap (λ (u : Tale). u.fin_sent) (grown-tale x v help.own.messages ∙ client-sends-tale x.c x.c given.1.segments noted)) ∙ e)

    on : GoesOnFairly k l x.part v.part
    on = record {
      talk = record { w = t.longer; out = goes_on-same k.out; reset = λ e. e };
      grows = help.owes.grows;
      offers = λ n e a b. refl;
      ends = λ n e o. inl refl;
    }

    truthful : IsTruthful files (grown x v)
    truthful = record {
      talk = l;
      pend = pend;
      agrees = record {
        client = t.agrees;
        begins = h.begins;
        says = said-stays files k.w t.w_after k.out k.vs t.longer h.says;
        seat = seat-stays k.w t.w_after k.out k.vs pend k.was_reset x.c x.part t.longer h.seat;
        ways = h.ways;
        fair = Each-append (IsFair l x.c v.part) x.letters (letters_of v) (all-on k l x.c x.part v.part on x.letters help.placed.letters h.fair)
            (Each-append (IsFair l x.c v.part) (map (letter (Client x.c)) given.1.segments) [] (words-fair l x.c x.c (grown x v) given.1.segments t.sent) tt);
        tale = tale-agrees l given.0.accepted noted (tale_at (grown x v)) (move-bytes x v help.own.messages help.own.gave) end-fin (record {
          numbers = adds.numbers ∙ before-agrees.numbers ∙ ap (λ (n : ℕ). Some (record { isn = n; iss = k.out.first })) (sym t.longer.first);
          wrote = adds.wrote ∙ ap (λ (b : List ℕ). b ++ written_in given.1.notes) before-agrees.wrote ∙ sym t.wrote;
          accepted_is = adds.accepted ∙ ap (λ (b : List ℕ). b ++ accepted_in given.1.notes) before-agrees.accepted_is ∙ sym t.accepted;
          served = plus-zero noted.served before.served adds.served ∙ before-agrees.served;
          served_bytes = plus-zero noted.served_bytes before.served_bytes adds.served_bytes ∙ before-agrees.served_bytes;
          was_reset = adds.was_reset ∙ sym (or-false before.was_reset) ∙ before-agrees.was_reset;
          fin = noted-fin;
        });
      };
    }

    -- what it accepted begins what was said
    wrote-so : IsPrefix k.w.bytes before.wrote
    wrote-so = ([], before-agrees.wrote ∙ sym (append-nil k.w.bytes))

    accepted-so : IsPrefix (before.accepted ++ accepted_in given.1.notes) k.out.bytes
    accepted-so =
        let same : take given.0.accepted k.out.bytes ≡ before.accepted ++ accepted_in given.1.notes = t.accepted ∙ ap (λ (b : List ℕ). b ++ accepted_in given.1.notes) (sym before-agrees.accepted_is) in
        subst (λ (b : List ℕ). IsPrefix b k.out.bytes) same (drop given.0.accepted k.out.bytes, sym (take-append-drop given.0.accepted k.out.bytes))

    seen-true : EachRow (IsSeenTrue files x.c) x.seen (seen_in x v)
    seen-true = move-lawful (IsOwnedTrueAfter files x.c) x v (heads-true files x.c x.seen heads help.heads)
        (client-tells files x.c before given.1.notes t.notes (client-true files x.c k.out.bytes k.w.bytes (said-front files k.w k.out k.vs h.says) before given.1.notes t.notes wrote-so accepted-so))
        (words-true files x.c x.c noted given.1.segments) tt tt
        (timers-true files x.c (Client x.c) x.c _ (timer_rows (Client x.c) x.c x.part v.part) (timer_rows-are (Client x.c) x.c x.part v.part))

    client-goes : IsTrueMove files x v
    client-goes = (truthful, seen-true)

-- ---- a client opens

-- where nothing was said of it but between nodes
inner-fair : (k : Talk) (c : ℕ) (x : Conn) (ls : List Letter) → Each IsInner ls → Each (IsFair k c x.part) ls
inner-fair k c x [] h = tt
inner-fair k c x (l ∷ ls) h = (one l.from l.to h.0.0 h.0.1, inner-fair k c x ls h.1) where
  one : (from to : Place) → IsNodePlace from → IsNodePlace to → IsFairOn k c x.part from to l.bytes
  one (Node n) (Node m) a b = tt
  one Front to a b = absurd a
  one (Client d) to a b = absurd a
  one (Node n) Front a b = absurd b
  one (Node n) (Client d) a b = absurd b

module _ (files : FilesAt) (x : Conn) (isn iss wnd mss : ℕ) (rule : HasRule (event.Open x.c isn iss wnd mss)) (none : x.part.station ≡ None) (h : IsTruthful files x) where
  abbrev w : Move
  w = client_begins x isn iss wnd mss

  abbrev nobody : Stream
  nobody = record { first = iss; bytes = []; ended = false }

  abbrev begun : Talk
  begun = record { w = unwritten isn; out = nobody; vs = []; was_reset = false }

  unopened : IsConnUnopened x
  unopened = subst (ConnAgrees files x h.talk h.pend) none h.agrees

  abbrev given : ClientBlock × Turn
  given = client_opens x.c isn wnd mss

  it : ClientOpened x.c (unwritten isn) nobody given
  it = opens-agreeing x.c isn wnd mss nobody rule.4 rule.3 rule.1 rule.2

  opens-fin : Helps x w → (tale_at (grown x w)).fin_sent ≡ false
  opens-fin help =
      let before : Tale = tale_before x w in
      ap (λ (t : Tale). t.fin_sent) (grown-tale x w help.own.messages ∙ client-sends-tale x.c x.c given.1.segments (told_on x.c before given.1.notes) ∙ ap (λ (ns : List Rec). told_on x.c before ns) it.notes)
      ∙ heads-fin x.c w.heads (tale_at x) help.heads ∙ unopened.fin

  opens-seen : Helps x w → EachRow (IsSeenTrue files x.c) x.seen (seen_in x w)
  opens-seen help = move-lawful (IsOwnedTrueAfter files x.c) x w (heads-true files x.c x.seen w.heads help.heads)
      (subst (λ (ns : List Rec). Tells files x.c (tale_before x w) ns) (sym it.notes) tt)
      (words-true files x.c x.c (told_on x.c (tale_before x w) given.1.notes) given.1.segments) tt tt
      (timers-true files x.c (Client x.c) x.c _ (timer_rows (Client x.c) x.c x.part w.part) (timer_rows-are (Client x.c) x.c x.part w.part))

  opens-truthful : Helps x w → IsTruthful files (grown x w)
  opens-truthful help =
      let u : IsConnUnopened x = unopened in
      let told : bytes_of (tale_at (grown x w)) ≡ bytes_of (tale_before x w) = move-bytes x w help.own.messages help.own.gave ∙ ap (λ (ns : List Rec). bytes_of (told_on x.c (tale_before x w) ns)) it.notes in
      record {
        talk = begun;
        pend = [];
        agrees = record {
          client = it.agrees;
          begins = refl;
          says = record { spoken = refl; fronts = λ z. (verdicts z, refl); number = rule.5; most = omega arith };
          seat = subst (λ (o : _). SeatAgrees (unwritten isn) nobody [] [] false x.c w.part o) (sym u.front) (refl, refl, refl);
          ways = λ n. subst (StayComesOn files) (sym (u.stays n)) tt;
          fair = Each-append (IsFair begun x.c w.part) x.letters (letters_of w) (inner-fair begun x.c (grown x w) x.letters u.inner)
              (Each-append (IsFair begun x.c w.part) (map (letter (Client x.c)) given.1.segments) [] (words-fair begun x.c x.c (grown x w) given.1.segments it.sent) tt);
          tale = record {
            numbers = ap (λ (b : Bytes). b.numbers) told ∙ ap (λ (b : Bool). cond b (Some (record { isn = isn; iss = iss })) (tale_at x).numbers) (same-number x.c x.c refl);
            wrote = ap (λ (b : Bytes). b.wrote) told ∙ u.wrote;
            accepted_is = ap (λ (b : Bytes). b.accepted) told ∙ u.accepted ∙ sym (ap (λ (n : ℕ). take n []) it.accepted);
            served = ap (λ (b : Bytes). b.served) told ∙ u.served;
            served_bytes = ap (λ (b : Bytes). b.served_bytes) told ∙ u.served_bytes;
            was_reset = ap (λ (b : Bytes). b.was_reset) told ∙ u.was_reset;
            fin = λ e. absurd (both_ways (tale_at (grown x w)).fin_sent (opens-fin help) e);
          };
        };
      }

  opens-goes : Helps x w → IsTrueMove files x w
  opens-goes help = (opens-truthful help, opens-seen help)

-- ---- the rules

module _ (k : Setting) (small : k.stream ≤ 2 ^ 30) where
  -- what comes to a client is true of the cluster's stream, whichever place sent it
  reply-in : (x : Conn) (l : Talk) (from : Place) (bytes : List ℕ) → GoesBetween x.c from (Client x.c) bytes → IsFairOn l x.c x.part from (Client x.c) bytes → (s : Said) × (bytes ≡ spelled x.c ToClient s) × IsReply l.w l.out l.was_reset s
  reply-in x l Front bytes n f = f
  reply-in x l (Node m) bytes n f = f
  reply-in x l (Client d) bytes n f = absurd n

  module _ (x : Conn) (s : Station) (h : IsTruthful k.files x) (o : IsOpen k.files x h.talk h.pend s) where
    abbrev Turned : ClientBlock × Turn → Type 0
    Turned given = ClientTurned x.c h.talk.w h.talk.out s.client given

    writes-so : (bytes : List ℕ) → nat_lt k.stream (written_len s.client bytes) ≡ false → Turned (client_writes s.client bytes)
    writes-so bytes fits =
        let le : written_len s.client bytes ≤ k.stream = ltb-false k.stream (written_len s.client bytes) fits in
        writes-turned x.c h.talk.w h.talk.out s.client o.says.most o.client bytes (omega (arith, le, small))

    pub rule-turned : IsConnSound x → (g : ClientGets) → ClientComes k x s g → Turned (client_rule x.c s.client g)
    rule-turned sound (ToGet path) fits = writes-so (request path) fits
    rule-turned sound (ToWrite bytes) fits = writes-so bytes fits
    rule-turned sound ToShut comes = shuts-turned x.c h.talk.w h.talk.out s.client o.says.most o.client
    rule-turned sound ToAbort comes = aborts-turned x.c h.talk.w h.talk.out s.client o.says.most o.client
    rule-turned sound ToHold comes = holds-turned x.c h.talk.w h.talk.out s.client o.says.most o.client
    rule-turned sound ToTake comes = takes-turned x.c h.talk.w h.talk.out s.client o.says.most o.client
    rule-turned sound ClientFires comes = timer-turned x.c h.talk.w h.talk.out s.client o.says.most o.client
    rule-turned sound (ClientReceives from bytes) was =
        let f = reply-in x h.talk from bytes (was-between x from (Client x.c) bytes sound was)
        (has-fair (IsFair h.talk x.c x.part) (record { from = from; to = Client x.c; bytes = bytes }) x.letters was o.fair) in
        subst (λ (r : Result Said SegFault). Turned (client_gets s.client r))
        (sym (ap (λ (b : List ℕ). decoded b x.c ToClient) f.1 ∙ again x.c ToClient f.0 f.2.sendable))
        (hears-turned x.c h.talk.w h.talk.out s.client f.0 o.says.most o.says.number f.2.sendable.seq_fits f.2.sendable.ack_fits o.client f.2.true_of)

  pub clients : ClientRules k (StaysTruthful k)
  clients = each-client k (StaysTruthful k) (record {
    opens = λ x isn iss wnd mss rule none help h. opens-goes k.files x isn iss wnd mss rule none h help;
    does = λ x s g there comes help h. let o = open-at k.files x s there h in
        client-goes k.files x s there (client_seen x.c g) (client_rule x.c s.client g) help h.talk h.pend o
        (of-client x.c (λ (ss : List Seen). bytes_of (fold (seen_step (tale_step x.c)) (tale_at x) ss) ≡ bytes_of (tale_at x))
        (λ from bytes. refl) (λ e. refl) g)
        (rule-turned x s h o help.sound g comes);
  })
