-- What a client does keeps what holds of its connection.
use Rattle.std.proofs.Common.{◌≡◌, ℕ, ◌≤◌, ◌^◌, List, [], ◌∷◌, map, Bool, true, false, ◌||◌, Option, Some, None, Result, inl, refl, sym, ap, ◌∙◌, subst, ⊎_elim, arith, nat_lt}
use Rattle.std.proofs.Math.Bool.{or-false}
use Rattle.std.proofs.lemmas.Bool.{both_ways, ltb-false}
use Rattle.lard_law_view.specs.Prelude.{Client, ClientBlock, ClientFires, ClientGets, ClientReceives, ClientRules, ClientTurned, Conn, FilesAt, Front, FrontRow, GoesBetween, HasRule, IsConnSound, Letter, Move, Node, Place, Said, Seen, SegFault, Setting, Station, Stream, Talk, ToAbort, ToClient, ToGet, ToHold, ToShut, ToTake, ToWrite, Turn, Verdict, Was, client_aborts, client_begins, client_does, client_gets, client_holds, client_opens, client_rule, client_shuts, client_takes, client_timer, client_writes, decoded, event_seen, event_shuts, grown, is_client_open, letter, letters_of, request, tale_at, written_len}
use Rattle.lard_base.specs.declared.event.Event.TheVariants as event
use Rattle.lard_laws.specs.Acks.{AcksWhatWasTaken, Bounds, FrontActs, LetterActs, LetterActsOn, OpenActs, ReplyActs, StationActs, bounds_of, story_at}
use Rattle.lard_laws.proofs.AcksFronts.{past-acts}
use Rattle.lard_laws.proofs.AcksGrowing.{Widens, back-more, front-more, letters-on, words-act}
use Rattle.lard_laws.proofs.AcksStory.{behind-notes, move-tells, reset-told}
use Rattle.lard_laws.proofs.AcksTurns.{client-more}
use Rattle.lard_law_connections.specs.BytesAgreement.{ConnAgrees, IsInner, IsNodePlace, IsOpen, IsTruthful, IsConnUnopened}
use Rattle.lard_law_connections.proofs.BytesClientMoves.{open-at, was-between}
use Rattle.lard_law_connections.proofs.LimitsMoves.{Helps}
use Rattle.lard_law_connections.specs.Places.{Sits, owning}
use Rattle.lard_law_connections.proofs.PlacesFrontRules.{has-each}
use Rattle.lard_history.proofs.Each.{Each, Each-append}
use Rattle.lard_law_view.proofs.EachClient.{ClientComes, client_goes, client_seen, each-client}
use Rattle.lard_laws.proofs.ClientComing.{reply-of, rule-turned}
use Rattle.lard_law_view.proofs.Acked.{ClientActed, ClientActs, ReplyMay, WordsMay, ends_in, taken_by}
use Rattle.lard_law_view.proofs.ClientRules.{all-act}
use Rattle.lard_law_view.proofs.Story.{Story, Tells, aborted-told, client-tells, ends-told, or-either, story_on, story_seen}

words-told : (c iss taken : ℕ) (a b : Bool) (ss : List (Place × List ℕ)) → (a ≡ true → b ≡ true) → WordsMay c iss taken a ss → WordsMay c iss taken b ss
words-told c iss taken a b [] told may = tt
words-told c iss taken a b (s ∷ ss) told may =
    ((may.0.0, may.0.1, may.0.2, record { acks = may.0.3.acks; resets = λ e. told (may.0.3.resets e) }), words-told c iss taken a b ss told may.1)

-- ---- a client that opened

module _ (files : FilesAt) (x : Conn) (s : Station) (there : x.part.station ≡ Some s) (l : Talk) (pend : List Verdict) (o : IsOpen files x l pend s) (r : OpenActs x s) where
  abbrev pub y : Story
  y = story_at x

  module _ (heads : List Seen) (shuts : Bool) (only : story_seen x.c (story_at x) heads ≡ record (story_at x) { shut = (story_at x).shut || shuts }) (given : ClientBlock × Turn) (k : ClientTurned x.c l.w l.out s.client given) (a : Bool)
      (act : ClientActed x.c l.out.first r.heard a (story_at x).reset s.client given)
      (told : a ≡ true → (story_on x.c (record (story_at x) { shut = (story_at x).shut || shuts }) given.1.notes).aborted ≡ true)
      (finishes : shuts ≡ true → is_client_open given.0 ≡ true → given.0.send.finished ≡ true) (help : Helps x (client_does x s heads given)) where
    abbrev v : Move
    v = client_does x s heads given

    abbrev after : Station
    after = record { client = given.0; iss = s.iss }

    abbrev y1 : Story
    y1 = record y { shut = y.shut || shuts }

    abbrev y2 : Story
    y2 = story_on x.c y1 given.1.notes

    abbrev z : Story
    z = story_at (grown x v)

    tells : Tells y1 z
    tells = move-tells x v help.own y1 only

    behind : Tells y2 z
    behind = behind-notes x v help.own y1 only

    iss_same : given.0.send.iss ≡ s.client.send.iss
    iss_same = sym (ap (λ (u : Stream). u.first) k.agrees.w_is) ∙ k.longer.first ∙ ap (λ (u : Stream). u.first) o.client.w_is

    abbrev b : Bounds
    b = bounds_of x s r.heard

    abbrev d : Bounds
    d = bounds_of (grown x v) after r.heard

    widens : Widens b d
    widens = record { isn = iss_same; iss = refl; heard = omega arith; taken = act.grows; aborted = tells.aborted }

    words : WordsMay x.c s.iss (taken_by given.0) z.aborted given.1.segments
    words = subst (λ (n : ℕ). WordsMay x.c n (taken_by given.0) z.aborted given.1.segments) o.begins
        (words-told x.c l.out.first (taken_by given.0) a z.aborted given.1.segments (λ e. behind.aborted (told e)) act.sent)

    shut_by : is_client_open given.0 ≡ true → z.shut ≡ true → given.0.send.finished ≡ true
    shut_by open_ shut = ⊎_elim
        (λ (was : y.shut ≡ true). act.stays_shut (r.shut (act.was_open open_) was))
        (λ (now : shuts ≡ true). finishes now open_)
        (or-either y.shut shuts (sym tells.shut ∙ shut))

    pub client-keeps : AcksWhatWasTaken (grown x v)
    client-keeps = record {
      heard = r.heard;
      client = client-more r.heard r.heard a z.aborted y.reset z.reset given.0 (omega arith) (λ e. behind.aborted (told e)) tells.reset act.holds;
      within = record {
        front = front-more b d widens refl x.part.front.row r.within.front;
        nodes = λ n. back-more b d widens refl (x.part.nodes n).row (r.within.nodes n);
        packets = Each-append (LetterActs x.c d v.part) x.letters (letters_of v)
            (letters-on x.c b d x.part v.part (record { widens = widens; grows = help.owes.grows; offers = inl refl; ends = inl refl }) x.letters help.placed.letters r.within.packets)
            (Each-append (LetterActs x.c d v.part) (map (letter (Client x.c)) given.1.segments) [] (words-act x.c d v.part x.c given.1.segments words) tt);
      };
      ended = λ t. ⊎_elim (λ (was : s.client.eof ≡ true). tells.ended (r.ended was)) (λ (now : ends_in given.1.notes ≡ true). behind.ended (ends-told x.c y1 given.1.notes k.notes now)) (act.ended t);
      shut = shut_by;
    }

-- ---- a client opens

module _ (files : FilesAt) (x : Conn) (isn iss wnd mss : ℕ) (rule : HasRule (event.Open x.c isn iss wnd mss)) (none : x.part.station ≡ None) (h : IsTruthful files x) (r : AcksWhatWasTaken x) (help : Helps x (client_begins x isn iss wnd mss)) where
  abbrev w : Move
  w = client_begins x isn iss wnd mss

  abbrev begun : ClientBlock × Turn
  begun = client_opens x.c isn wnd mss

  abbrev station : Station
  station = record { client = begun.0; iss = iss }

  unopened : IsConnUnopened x
  unopened = subst (ConnAgrees files x h.talk h.pend) none h.agrees

  abbrev opened : Story
  opened = record (story_at x) { shut = (story_at x).shut || false }

  told-open : Tells opened (story_at (grown x w))
  told-open = move-tells x w help.own opened refl

  not_shut : (story_at (grown x w)).shut ≡ false
  not_shut = told-open.shut ∙ or-false (story_at x).shut ∙ subst (StationActs x) none r

  abbrev first_bounds : Bounds
  first_bounds = bounds_of (grown x w) station 0

  -- what was said between nodes tells nothing
  inner-act : (ls : List Letter) → Each IsInner ls → Each (LetterActs x.c first_bounds w.part) ls
  inner-act [] e = tt
  inner-act (m ∷ ls) e = (one m.from m.to e.0.0 e.0.1, inner-act ls e.1) where
    one : (from to : Place) → IsNodePlace from → IsNodePlace to → LetterActsOn x.c first_bounds w.part from to m.bytes
    one (Node n) (Node k) f g = tt
    one Front to f g = absurd f
    one (Client d) to f g = absurd f
    one (Node n) _ f g = absurd g

  pub opens-keeps : AcksWhatWasTaken (grown x w)
  opens-keeps =
      let begins = all-act.opens x.c isn iss wnd mss rule.4 rule.3 rule.1 rule.2 in
      let at : Sits (owning (tale_at x)) x.part.nodes None = subst (Sits (owning (tale_at x)) x.part.nodes) unopened.front help.placed.sits in
      record {
        heard = 0;
        client = begins.holds (story_at (grown x w)).aborted (story_at (grown x w)).reset;
        within = record {
          front = subst (λ (q : Option FrontRow). FrontActs first_bounds q) (sym unopened.front) refl;
          nodes = λ n. past-acts first_bounds 0 (x.part.nodes n).row (at.1 n);
          packets = Each-append (LetterActs x.c first_bounds w.part) x.letters (letters_of w) (inner-act x.letters unopened.inner)
              (Each-append (LetterActs x.c first_bounds w.part) (map (letter (Client x.c)) begun.1.segments) []
              (words-act x.c first_bounds w.part x.c begun.1.segments (begins.sent (story_at (grown x w)).aborted)) tt);
        };
        ended = λ t. absurd (both_ways begun.0.eof begins.not_ended t);
        shut = λ open_ shut. absurd (both_ways (story_at (grown x w)).shut not_shut shut);
      }

-- ---- the rules

module _ (k : Setting) (small : k.stream ≤ 2 ^ 30) where
  -- each move keeps what holds, where it is truthful
  abbrev pub Keeps : Conn → Move → Type 0
  Keeps x v = Helps x v → IsTruthful k.files x → AcksWhatWasTaken x → AcksWhatWasTaken (grown x v)

  module _ (x : Conn) (s : Station) (there : x.part.station ≡ Some s) (h : IsTruthful k.files x) (acts : AcksWhatWasTaken x) where
    abbrev l : Talk
    l = h.talk

    o : IsOpen k.files x l h.pend s
    o = open-at k.files x s there h

    r : OpenActs x s
    r = subst (StationActs x) there acts

    acted : (rule : ClientBlock → ClientBlock × Turn) → ClientActs rule → ClientActed x.c l.out.first r.heard (story_at x).aborted (story_at x).reset s.client (rule s.client)
    acted rule act = act x.c l.w l.out s.client r.heard (story_at x).aborted (story_at x).reset o.says.most o.client r.client

    writes : (bytes : List ℕ) → nat_lt k.stream (written_len s.client bytes) ≡ false → ClientActed x.c l.out.first r.heard (story_at x).aborted (story_at x).reset s.client (client_writes s.client bytes)
    writes bytes fits =
        all-act.writes x.c l.w l.out s.client bytes r.heard (story_at x).aborted (story_at x).reset o.says.most (let le = ltb-false k.stream (written_len s.client bytes) fits in omega (arith, le, small)) o.client r.client

    abbrev Goes : ClientGets → Type 0
    Goes g = Helps x (client_goes x s g) → AcksWhatWasTaken (grown x (client_goes x s g))

    -- any turn of a client that tells no abort
    acts-on : (g : ClientGets) → ClientComes k x s g → (shuts : Bool) → story_seen x.c (story_at x) (client_seen x.c g) ≡ record (story_at x) { shut = (story_at x).shut || shuts }
        → ClientActed x.c l.out.first r.heard (story_at x).aborted (story_at x).reset s.client (client_rule x.c s.client g)
        → (shuts ≡ true → is_client_open (client_rule x.c s.client g).0 ≡ true → (client_rule x.c s.client g).0.send.finished ≡ true) → Goes g
    acts-on g comes shuts only act finishes help =
        let turned = rule-turned k small x s there h help.sound g comes in
        client-keeps k.files x s there l h.pend o r (client_seen x.c g) shuts only (client_rule x.c s.client g) turned (story_at x).aborted act
        (client-tells x.c (record (story_at x) { shut = (story_at x).shut || shuts }) (client_rule x.c s.client g).1.notes turned.notes).aborted finishes help

    reply-may : (b : Bounds) (from : Place) (bytes : List ℕ) → GoesBetween x.c from (Client x.c) bytes → LetterActsOn x.c b x.part from (Client x.c) bytes → ReplyActs x.c b bytes
    reply-may b Front bytes n f = f
    reply-may b (Node m) bytes n f = f
    reply-may b (Client d) bytes n f = absurd n

    gets-act : (sound : IsConnSound x) (from : Place) (bytes : List ℕ) → Was x from (Client x.c) bytes
        → ClientActed x.c l.out.first r.heard (story_at x).aborted (story_at x).reset s.client (client_gets s.client (decoded bytes x.c ToClient))
    gets-act sound from bytes was =
        let f = reply-of k small x s there h sound from bytes was in
        let b : Bounds = bounds_of x s r.heard in
        let may : ReplyMay s.client.send.iss r.heard f.said = reply-may b from bytes (was-between x from (Client x.c) bytes sound was)
        (has-each (LetterActs x.c b x.part) (record { from = from; to = Client x.c; bytes = bytes }) x.letters was r.within.packets) f.said f.read in
        subst (λ (q : Result Said SegFault). ClientActed x.c l.out.first r.heard (story_at x).aborted (story_at x).reset s.client (client_gets s.client q)) (sym f.read)
        (all-act.client_gets x.c l.w l.out s.client f.said r.heard (story_at x).aborted (story_at x).reset o.says.most o.says.number f.reply.sendable.seq_fits f.reply.sendable.ack_fits o.client f.reply.true_of
        r.client (subst (λ (n : ℕ). ReplyMay n r.heard f.said) (sym (ap (λ (u : Stream). u.first) o.client.w_is)) may) (λ e. reset-told x ∙ o.tale.was_reset ∙ f.reply.resets e))

    rule-acts : (g : ClientGets) → ClientComes k x s g → Goes g
    rule-acts (ToGet path) fits help = acts-on (ToGet path) fits false refl (writes (request path) fits) (λ t. absurd cc) help
    rule-acts (ToWrite bytes) fits help = acts-on (ToWrite bytes) fits false refl (writes bytes fits) (λ t. absurd cc) help
    rule-acts ToShut comes help = acts-on ToShut comes (event_shuts x.c (event.Shut x.c)) refl (acted client_shuts all-act.shuts) (λ e open_. all-act.finishes s.client open_) help
    rule-acts ToAbort comes help = client-keeps k.files x s there l h.pend o r (event_seen (event.Abort x.c)) false refl (client_aborts s.client) (rule-turned k small x s there h help.sound ToAbort comes) true
        (all-act.aborts x.c l.w l.out s.client r.heard (story_at x).aborted (story_at x).reset o.says.most o.client r.client)
        (λ t. aborted-told x.c s.client.c (record (story_at x) { shut = (story_at x).shut || false }) o.client.numbered) (λ t. absurd cc) help
    rule-acts ToHold comes help = acts-on ToHold comes false refl (acted client_holds all-act.holds) (λ t. absurd cc) help
    rule-acts ToTake comes help = acts-on ToTake comes false refl (acted client_takes all-act.takes) (λ t. absurd cc) help
    rule-acts ClientFires comes help = acts-on ClientFires comes false refl (acted client_timer all-act.client_timer) (λ t. absurd cc) help
    rule-acts (ClientReceives from bytes) was help =
        acts-on (ClientReceives from bytes) was false (ap (λ e. record (story_at x) { shut = e }) (sym (or-false (story_at x).shut))) (gets-act help.sound from bytes was) (λ t. absurd cc) help

  pub clients : ClientRules k Keeps
  clients = each-client k Keeps (record {
    opens = λ x isn iss wnd mss rule none help h acts. opens-keeps k.files x isn iss wnd mss rule none h acts help;
    does = λ x s g there comes help h acts. rule-acts x s there h acts g comes help;
  })
