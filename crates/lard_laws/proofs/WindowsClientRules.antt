-- The rules of clients keep how far windows reach.
use Rattle.std.proofs.Common.{◌≡◌, ◌≤◌, ◌<◌, ◌+◌, ◌^◌, ℕ, List, [], ◌∷◌, ◌++◌, map, length, Some, None, Result, Ok, refl, sym, ◌∙◌, subst, arith}
use Rattle.std.proofs.lemmas.Bool.{cond_both}
use Rattle.lard_base.specs.declared.event.Event.TheVariants as event
use Rattle.lard_law_view.specs.Prelude.{Client, ClientAgrees, ClientBlock, ClientRules, Conn, Front, GoesBetween, IsTrueOf, Letter, Move, Node, Place, Said, Seen, SegFault, Setting, Station, ToClient, Turn, Was, client_aborts, client_after_timer, client_arrived, client_begins, client_does, client_gets, client_holds, client_opened, client_opens, client_shuts, client_speaks, client_taken, client_takes, client_timer, client_writes, client_written, decoded, event_seen, grown, held_on, is_writing, letter, letters_of, packet_seen, request, seq_offset, shut_down, silent, speaking}
use Rattle.lard_law_connections.specs.BytesAgreement.{ConnAgrees, IsInner, IsNodePlace, IsTruthful, IsConnUnopened}
use Rattle.lard_law_connections.proofs.BytesClientMoves.{was-between}
use Rattle.lard_law_connections.proofs.PlacesFrontRules.{has-each}
use Rattle.lard_law_connections.specs.SilencePlaces.{FrontHas}
use Rattle.lard_laws.specs.Windows.{BytesReach, ClientReaches, EndSent, FrontSent, IsReaching, LetterReaches, LetterReachesOn, ReachesOn, StationReaches, SymbolsWereSent}
use Rattle.lard_laws.proofs.WindowsClients.{IsSame, aborted-same, arrived-reaches, arrived-taken, held-same, same-reaches, same-taken, shut-same, speaks-same, taken-same, then-speaks, timer-same, written-same}
use Rattle.lard_laws.proofs.WindowsLetters.{words-reach}
use Rattle.lard_laws.proofs.WindowsMoves.{client-moves}
use Rattle.lard_laws.proofs.WindowsOffers.{true-place}
use Rattle.lard_laws.proofs.WindowsPlaces.{no-stay}
use Rattle.lard_history.proofs.Each.{Each, Each-append, Each-weaker}
use Rattle.lard_journal.specs.declared.rec.Rec.TheVariants as rec
use Rattle.lard_law_view.proofs.Acked.{taken_by}
use Rattle.lard_laws.proofs.ClientComing.{reply-of}
use Rattle.lard_law_view.proofs.Client.{arriving-continues}
use Rattle.lard_laws.proofs.WindowsOpen as known

module _ (k : Setting) (small : k.stream ≤ 2 ^ 30) where
  abbrev Keeps : Conn → Move → Type 0
  Keeps x v = known.Keeps k small x v

  -- ---- clients

  simple-client : (x : Conn) (s : Station) (heads : List Seen) (given : ClientBlock × Turn) → x.part.station ≡ Some s → IsSame s.client given.0 → Keeps x (client_does x s heads given)
  simple-client x s heads given there same help h0 =
      let h : StationReaches x s = subst (ReachesOn x) there h0 in
      client-moves x s given.0 (map (letter (Client x.c)) given.1.segments ++ []) h same.0
      (λ u. Each-append (LetterReaches x.c given.0.send.iss s.iss u) (map (letter (Client x.c)) given.1.segments) [] (words-reach x.c given.0.send.iss s.iss u x.c given.1.segments) tt)
      (λ u was. let t = same-taken s.client given.0 same in let le = was.taken in omega (arith, t, le))
      heads given refl refl (same-reaches s.client given.0 same h.client)

  -- a segment comes
  module _ (x : Conn) (s : Station) (there : x.part.station ≡ Some s) (help : IsTruthful k.files x) (h : StationReaches x s) (bytes : List ℕ) (sd : Said) (read : decoded bytes x.c ToClient ≡ Ok sd)
      (reach : (u : ℕ) → Each (LetterReaches x.c s.client.send.iss s.iss u) x.letters → BytesReach x.c s.client.send.iss s.iss u bytes)
      (true_of : IsTrueOf help.talk.out sd) (seq_small : sd.seq < 2 ^ 32) where
    abbrev y : ClientBlock
    y = (client_arrived s.client sd).1

    abbrev z : ClientBlock
    z = (client_speaks y).1

    agrees : ClientAgrees x.c help.talk.w help.talk.out s.client
    agrees = (known.whole k small x s there help).client

    begins_is : help.talk.out.first ≡ s.iss
    begins_is = (known.whole k small x s there help).begins

    heard-takes : (u : ℕ) → SymbolsWereSent x.c s.client s.iss x.letters u → taken_by z ≤ u
    heard-takes u was =
        let t = same-taken y z (speaks-same y) in
        let le = arrived-taken s.client s.iss u sd (record {
          iss_small = known.iss_small k small x s there help;
          seq_small = seq_small;
          place_small = λ some. subst (λ (n : ℕ). seq_offset sd.seq n + length sd.payload < 2 ^ 32) begins_is (true-place help.talk.out sd (known.whole k small x s there help).says.number (known.whole k small x s there help).says.most true_of some);
          bounded = agrees.sound.bounded;
          irs_is = λ e. agrees.accepts.first e ∙ begins_is;
          ends = (reach u was.all sd read).ends;
        }) was.taken h.client.fresh in
        omega (arith, t, le)

    heard-iss : z.send.iss ≡ s.client.send.iss
    heard-iss = (speaks-same y).0 ∙ (arriving-continues s.client help.talk.w.bytes sd agrees.speaks).1.first

    heard-reaches : ClientReaches z
    heard-reaches = same-reaches y z (speaks-same y) (arrived-reaches s.client sd (reach h.most h.letters sd read).wide h.client)

    heard-moves : (heads : List Seen) → StationReaches (grown x (client_does x s heads (client_gets s.client (Ok sd)))) (record { client = z; iss = s.iss })
    heard-moves heads =
        let given : ClientBlock × Turn = client_gets s.client (Ok sd) in
        client-moves x s z (map (letter (Client x.c)) given.1.segments ++ []) h heard-iss
        (λ u. Each-append (LetterReaches x.c z.send.iss s.iss u) (map (letter (Client x.c)) given.1.segments) [] (words-reach x.c z.send.iss s.iss u x.c given.1.segments) tt)
        heard-takes heads given refl refl heard-reaches

  client-hears : (x : Conn) (s : Station) (from : Place) (bytes : List ℕ) → x.part.station ≡ Some s → Was x from (Client x.c) bytes → Keeps x (client_does x s (packet_seen from (Client x.c) bytes) (client_gets s.client (decoded bytes x.c ToClient)))
  client-hears x s from bytes there was help h0 =
      let heads : List Seen = packet_seen from (Client x.c) bytes in
      let h : StationReaches x s = subst (ReachesOn x) there h0 in
      let f = reply-of k small x s there help.truth help.sound from bytes was in
      subst (λ (q : Result Said SegFault). IsReaching (grown x (client_does x s heads (client_gets s.client q)))) (sym f.read)
      (heard-moves x s there help.truth h bytes f.said f.read (λ u all. reaches-from from u (was-between x from (Client x.c) bytes help.sound was)
      (has-each (LetterReaches x.c s.client.send.iss s.iss u) (record { from = from; to = Client x.c; bytes = bytes }) x.letters was all)) f.reply.true_of f.reply.sendable.seq_fits heads) where
        reaches-from : (p : Place) (u : ℕ) → GoesBetween x.c p (Client x.c) bytes → LetterReachesOn x.c s.client.send.iss s.iss u p (Client x.c) bytes → BytesReach x.c s.client.send.iss s.iss u bytes
        reaches-from Front u g r = r
        reaches-from (Node n) u g r = r
        reaches-from (Client d) u g r = absurd g

  -- it opens: nothing was sent to it before
  inner-reach : (c isn iss u : ℕ) (ls : List Letter) → Each IsInner ls → Each (LetterReaches c isn iss u) ls
  inner-reach c isn iss u ls h = Each-weaker IsInner (LetterReaches c isn iss u) (λ l i. go l.from l.to l.bytes i.1) ls h where
    go : (from to : Place) (bytes : List ℕ) → IsNodePlace to → LetterReachesOn c isn iss u from to bytes
    go Front (Node n) bytes i = tt
    go (Node m) (Node n) bytes i = tt
    go (Client d) (Node n) bytes i = tt
    go from _ bytes i = absurd i

  client-opens-so : (x : Conn) (isn iss wnd mss : ℕ) → x.part.station ≡ None → Keeps x (client_begins x isn iss wnd mss)
  client-opens-so x isn iss wnd mss none help h =
      let u : IsConnUnopened x = subst (ConnAgrees k.files x help.truth.talk help.truth.pend) none help.truth.agrees in
      let z : ClientBlock = (client_opens x.c isn wnd mss).0 in
      let same : IsSame (client_opened x.c isn wnd mss) z = speaks-same (client_opened x.c isn wnd mss) in
      let new : List Letter = letters_of (client_begins x isn iss wnd mss) in
      let all : (m : ℕ) → Each (LetterReaches x.c z.send.iss iss m) (x.letters ++ new) = λ m.
      Each-append (LetterReaches x.c z.send.iss iss m) x.letters new (inner-reach x.c z.send.iss iss m x.letters u.inner)
      (Each-append (LetterReaches x.c z.send.iss iss m) (map (letter (Client x.c)) (client_opens x.c isn wnd mss).1.segments) [] (words-reach x.c z.send.iss iss m x.c (client_opens x.c isn wnd mss).1.segments) tt) in
      record {
        client = same-reaches (client_opened x.c isn wnd mss) z same (record { wide = λ some. absurd (omega (arith, some)); fresh = λ e. (refl, refl) });
        most = 0;
        letters = all 0;
        begins = subst (FrontSent x.c z iss (x.letters ++ new)) (sym u.front) (record { taken = let t = same-taken (client_opened x.c isn wnd mss) z same in omega (arith, t); all = all 0 });
        front = subst (FrontHas (EndSent x.c z iss (x.letters ++ new))) (sym u.front) tt;
        nodes = λ n. no-stay (EndSent x.c z iss (x.letters ++ new)) (x.part.nodes n) (u.stays n);
      }

  writes-same : (x : ClientBlock) (bytes : List ℕ) → IsSame x (client_writes x bytes).0
  writes-same x bytes = cond_both (is_writing x) (speaking (rec.Wrote x.c bytes ∷ []) [] (client_written x bytes)) (x, silent) (λ (g : ClientBlock × Turn). IsSame x g.0) (λ t. then-speaks x (client_written x bytes) (written-same x bytes)) (λ t. (refl, refl, refl, refl, refl))

  pub client-rules : ClientRules k Keeps
  client-rules = record {
    opens = λ x isn iss wnd mss rule none. client-opens-so x isn iss wnd mss none;
    gets = λ x s path there fits. simple-client x s (event_seen (event.Get x.c path)) (client_writes s.client (request path)) there (writes-same s.client (request path));
    writes = λ x s bytes there fits. simple-client x s (event_seen (event.Write x.c bytes)) (client_writes s.client bytes) there (writes-same s.client bytes);
    shuts = λ x s there. simple-client x s (event_seen (event.Shut x.c)) (client_shuts s.client) there (then-speaks s.client (shut_down s.client) (shut-same s.client));
    aborts = λ x s there. simple-client x s (event_seen (event.Abort x.c)) (client_aborts s.client) there (aborted-same s.client);
    holds = λ x s there. simple-client x s (event_seen (event.Hold x.c)) (client_holds s.client) there (then-speaks s.client (held_on s.client) (held-same s.client));
    takes = λ x s there. simple-client x s (event_seen (event.Take x.c)) (client_takes s.client) there (then-speaks s.client (client_taken s.client) (taken-same s.client));
    fires = λ x s there. simple-client x s (event_seen (event.Timer (Client x.c) x.c)) (client_timer s.client) there (then-speaks s.client (client_after_timer s.client) (timer-same s.client));
    hears = λ x s from bytes there was. client-hears x s from bytes there was;
  }
