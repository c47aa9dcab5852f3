-- A client counts what it is told to have accepted, from the cluster's first number, in every run: each rule keeps it.
use Rattle.std.proofs.Common.{◌≡◌, ◌==◌, ◌||◌, not, ℕ, true, false, cond, List, [], ◌∷◌, length, Option, Some, Result, Ok, Err, ⊎_elim, refl, sym, ap, ◌∙◌, subst}
use Rattle.std.specs.List.{fold}
use Rattle.std.proofs.lemmas.Bool.{cond_both}
use Rattle.lard_law_view.specs.Prelude.{Client, ClientBlock, ClientStands, ClientTale, Config, Conn, Event, Front, GoesBetween, Heard, IsConnSound, IsLaw, IsOpened, MayRestOn, Move, Node, OfEach, Phase, Place, Rules, Said, Seen, SegFault, Sending, Setting, Station, Tale, ToClient, Turn, Was, aborted, answers_syn, client_aborts, client_after_emit, client_after_timer, client_arrived, client_begins, client_does, client_gets, client_holds, client_injects, client_on_segment, client_opened, client_opens, client_shuts, client_speaks, client_taken, client_takes, client_tale, client_timer, client_writes, client_written, config_check, decoded, established, event_seen, grown, heard_in, heard_nothing, held_on, inject_seen, introduced, is_client_open, is_established, is_writing, nothing_said, on_greeting, packet_seen, peer_mss, queued_too, request, reset_by_peer, seen_step, send_closed, setting, shut_down, silent, speaking, stands, tale_at, tale_step, told_on, with_leaving}
use Rattle.lard_base.specs.declared.event.Event.TheVariants as event
use Rattle.lard_client.specs.declared.phase.Phase.TheVariants.{Aborted, Open, Reset}
use Rattle.lard_client.proofs.Outcomes.{Quiet, Took, segment-outcome}
use Rattle.lard_journal.specs.declared.rec.Rec.TheVariants as rec
use Rattle.lard_law_connections.proofs.BytesClientMoves.{was-between}
use Rattle.lard_law_connections.proofs.PlacesFrontRules.{has-each}
use Rattle.lard_law_view.proofs.Carried.{carried}
use Rattle.lard_law_view.proofs.Fine.{IsItsOwn}
use Rattle.lard_law_view.proofs.Frames.{IsAtMachine, Owed, fronts-leave, nodes-leave}
use Rattle.lard_law_view.proofs.Guarded.{weaker}
use Rattle.lard_law_view.proofs.RowLists.{client-sends-tale}
use Rattle.lard_law_view.proofs.Rows.{grown-tale}
use Rattle.lard_law_view.proofs.Speaking.{next-moves, resend-moves}
use Rattle.lard_law_view.proofs.Taking.{Knows, hears-counts}
use Rattle.lard_laws.specs.ClientsFirsts.{BytesGreet, CountsFrom, CountsOn, CountsTaken, FirstOn, GreetsBy, HasFirstOn, HasOneFirst, LetterHasFirst, StandsAsTold}
use Rattle.lard_laws.proofs.ClientsAsides.{same-station}
use Rattle.lard_laws.proofs.ClientsBegins.{one-first}
use Rattle.lard_laws.proofs.ClientsWriters.{machine-told, nothing-told, stand-as-told}
use Rattle.lard_rules.proofs.Loops.{client_keeps}
use Rattle.lard_send.proofs.Sent.{after_ack-irs}
use Rattle.lard_rules.proofs.Hearing.{client-emit-keeps, client-timer-keeps}

-- ---- what it does by itself

-- it knows of the cluster's numbers and counts as before
record IsSameCount (x y : ClientBlock) : Type 0 where
  una : y.send.una ≡ x.send.una
  irs : y.send.irs ≡ x.send.irs
  accepted : y.accepted ≡ x.accepted

same-count : (x : ClientBlock) → IsSameCount x x
same-count x = record { una = refl; irs = refl; accepted = refl }

then-count : (x y z : ClientBlock) → IsSameCount x y → IsSameCount y z → IsSameCount x z
then-count x y z h k = record { una = k.una ∙ h.una; irs = k.irs ∙ h.irs; accepted = k.accepted ∙ h.accepted }

emit-count : (x : ClientBlock) → IsSameCount x (client_after_emit x)
emit-count x =
    let m = next-moves x.send in
    client-emit-keeps (IsSameCount x) x (same-count x) (record { una = refl; irs = refl; accepted = refl }) (record { una = ap (λ (s : Sending). s.una) m; irs = ap (λ (s : Sending). s.irs) m; accepted = refl })

timer-count : (x : ClientBlock) → IsSameCount x (client_after_timer x)
timer-count x =
    let m = resend-moves x.send in
    client-timer-keeps (IsSameCount x) x (same-count x) (record { una = ap (λ (s : Sending). s.una) m; irs = ap (λ (s : Sending). s.irs) m; accepted = refl })

speaks-count : (x : ClientBlock) → IsSameCount x (client_speaks x).1
speaks-count x = client_keeps (λ x ss y. IsSameCount x y) (record { rests = same-count; says = λ x r ss y e later. then-count x (client_after_emit x) y (emit-count x) later }) x

-- ---- what it hears

module _ (iss : ℕ) where
  abbrev HasIrs : ClientBlock → Type 0
  HasIrs x = is_established x ≡ true → x.send.irs ≡ iss

  irs-stays : (x y : ClientBlock) → IsSameCount x y → HasIrs x → HasIrs y
  irs-stays x y same h e = same.irs ∙ h (ap (λ n. not (n == 0)) (sym same.una) ∙ e)

  counts-on : (accepted : List ℕ) (x y : ClientBlock) → IsSameCount x y → CountsFrom iss accepted x → CountsFrom iss accepted y
  counts-on accepted x y same h = record { irs = irs-stays x y same h.irs; counted = h.counted ∙ sym same.accepted }

  -- it learns the cluster's first number of a segment with SYN alone
  module _ (x : ClientBlock) (s : Said) (greets : GreetsBy iss s) (h : HasIrs x) where
    greeting-irs : HasIrs (on_greeting x s).1
    greeting-irs =
        let P : Heard × ClientBlock → Type 0 = λ r. HasIrs r.1 in
        let synced = cond s.flags.syn (heard_nothing, established x s) (heard_nothing, x) in
        cond_both (not (answers_syn x s)) (heard_nothing, x) (cond s.flags.rst (heard_nothing, reset_by_peer x) synced) P (λ t. h)
        (λ t. cond_both s.flags.rst (heard_nothing, reset_by_peer x) synced P (λ u. h)
        (λ u. cond_both s.flags.syn (heard_nothing, established x s) (heard_nothing, x) P
        (λ v e. after_ack-irs (introduced x.send s.seq (peer_mss s.mss)) s.ack s.seq s.wnd ∙ greets v) (λ v. h)))

    segment-irs : (x.send.una == 0) ≡ false → HasIrs (client_on_segment x s).1
    segment-irs z e = ⊎_elim (λ (q : Quiet x (client_on_segment x s)). q.3) (λ (t : Took x s (client_on_segment x s)). t.4) (segment-outcome x s) ∙ h (ap not z)

    arrived-irs : HasIrs (client_arrived x s).1
    unfolding client_arrived
    arrived-irs = in-phase x.phase where
      in-phase : (p : Phase) → HasIrs (heard_in p x s).1
      in-phase Open = cond_both (x.send.una == 0) (on_greeting x s) (client_on_segment x s) (λ (r : Heard × ClientBlock). HasIrs r.1) (λ z. greeting-irs) segment-irs
      in-phase Aborted = h
      in-phase Reset = h

  gets-irs : (x : ClientBlock) (r : Result Said SegFault) → ((s : Said) → r ≡ Ok s → GreetsBy iss s) → HasIrs x → HasIrs (client_gets x r).0
  gets-irs x (Err fault) greets h = h
  gets-irs x (Ok s) greets h = irs-stays (client_arrived x s).1 (client_speaks (client_arrived x s).1).1 (speaks-count (client_arrived x s).1) (arrived-irs x s (greets s refl) h)

-- ---- each rule of a client

-- what it counts then, where so much was told of it before
abbrev Counts : ℕ → ℕ → Tale → ClientBlock × Turn → Type 0
Counts c iss u given = CountsFrom iss (told_on c u given.1.notes).accepted given.0

module _ (c iss : ℕ) (u : Tale) where
  -- its notes tell of nothing that it accepted
  speaking-count : (x y : ClientBlock) → IsSameCount x y → CountsFrom iss u.accepted x → CountsFrom iss u.accepted (client_speaks y).1
  speaking-count x y same h = counts-on iss u.accepted x (client_speaks y).1 (then-count x y (client_speaks y).1 same (speaks-count y)) h

  module _ (x : ClientBlock) (h : CountsFrom iss u.accepted x) where
    writes-count : (bytes : List ℕ) → Counts c iss u (client_writes x bytes)
    writes-count bytes = cond_both {A = ClientBlock × Turn} (is_writing x) (speaking (rec.Wrote x.c bytes ∷ []) [] (client_written x bytes)) (x, silent) (Counts c iss u)
        (λ t. speaking-count x (client_written x bytes) (cond_both (is_writing x) (record x { send = queued_too x.send bytes }) x (IsSameCount x) (λ v. record { una = refl; irs = refl; accepted = refl }) (λ v. same-count x)) h)
        (λ t. h)

    shuts-count : Counts c iss u (client_shuts x)
    shuts-count = speaking-count x (shut_down x) (cond_both (is_client_open x) (record x { send = send_closed x.send }) x (IsSameCount x) (λ v. record { una = refl; irs = refl; accepted = refl }) (λ v. same-count x)) h

    holds-count : Counts c iss u (client_holds x)
    holds-count = speaking-count x (held_on x) (cond_both (is_client_open x) (record x { holding = true }) x (IsSameCount x) (λ v. record { una = refl; irs = refl; accepted = refl }) (λ v. same-count x)) h

    takes-count : Counts c iss u (client_takes x)
    takes-count = speaking-count x (client_taken x) (cond_both (is_client_open x) (record x { holding = false; held = 0; owed = x.owed || is_established x }) x (IsSameCount x) (λ v. record { una = refl; irs = refl; accepted = refl }) (λ v. same-count x)) h

    fires-count : Counts c iss u (client_timer x)
    fires-count = speaking-count x (client_after_timer x) (timer-count x) h

    aborts-count : Counts c iss u (client_aborts x)
    aborts-count = counts-on iss u.accepted x (aborted x) (cond_both (is_client_open x) (record x { phase = Aborted }) x (IsSameCount x) (λ v. record { una = refl; irs = refl; accepted = refl }) (λ v. same-count x)) h

  opens-count : (isn wnd mss : ℕ) → u.accepted ≡ [] → Counts c iss u (client_opens c isn wnd mss)
  opens-count isn wnd mss none =
      let x : ClientBlock = client_opened c isn wnd mss in
      speaking-count x x (same-count x) (record { irs = λ e. absurd (let no : false ≡ true = e in cc); counted = ap (λ (l : List ℕ). length l) none })

-- ---- a packet of the cluster to the client

pub packet-greets : (x : Conn) (s : Station) (from : Place) (bytes : List ℕ) → x.part.station ≡ Some s → IsConnSound x → Was x from (Client x.c) bytes → HasOneFirst x → BytesGreet x.c s.iss bytes
packet-greets x s from bytes there sound was h =
    let f : FirstOn x (Some s) = subst (FirstOn x) there h in
    go from (was-between x from (Client x.c) bytes sound was) (has-each (LetterHasFirst x.c s.iss) (record { from = from; to = Client x.c; bytes = bytes }) x.letters was f.1.letters) where
      go : (p : Place) → GoesBetween x.c p (Client x.c) bytes → HasFirstOn x.c s.iss p (Client x.c) bytes → BytesGreet x.c s.iss bytes
      go Front goes g = g
      go (Node n) goes g = g
      go (Client d) goes g = absurd goes

-- what is known there
pub packet-known : (x : Conn) (s : Station) (from : Place) (bytes : List ℕ) → x.part.station ≡ Some s → IsConnSound x → Was x from (Client x.c) bytes → HasOneFirst x → StandsAsTold x → CountsTaken x → Knows x.c s.client (tale_at x) bytes
packet-known x s from bytes there sound was first told h =
    let stands : IsOpened x.c s (client_tale (tale_at x)) = subst (λ (o : Option Station). ClientStands x.c o (client_tale (tale_at x))) there told in
    let counts : CountsFrom s.iss (tale_at x).accepted s.client = subst (CountsOn (tale_at x).accepted) there h in
    record {
      numbers = record { isn = s.client.send.iss; iss = s.iss };
      opened = stands.numbers;
      irs = counts.irs;
      counted = counts.counted;
      fits = λ t e. (packet-greets x s from bytes there sound was first t e).fits;
    }

-- ---- every rule

-- what else is known
abbrev Given : Conn → Type 0
Given x = HasOneFirst x × StandsAsTold x

abbrev Keeps : Conn → Move → Type 0
Keeps x v = Given x → CountsTaken x → CountsTaken (grown x v)

-- nothing is told of what the client accepted
aside-keeps : (x : Conn) (v : Move) → v.part.station ≡ x.part.station → client_tale (tale_at (grown x v)) ≡ client_tale (tale_at x) → Keeps x v
aside-keeps x v same told given h =
    let accepted : (tale_at (grown x v)).accepted ≡ (tale_at x).accepted = ap (λ (t : ClientTale). t.accepted) told in
    subst (λ (l : List ℕ). CountsOn l v.part.station) (sym accepted) (subst (CountsOn (tale_at x).accepted) (sym same) h)

machine-keeps : (x : Conn) (v : Move) → IsAtMachine x v → IsItsOwn x v → Keeps x v
machine-keeps x v at own = aside-keeps x v (same-station v.place x.part v.part at.machine at.keeps) (machine-told x v at own)

-- the client acts, behind these heads
client-keeps : (x : Conn) (iss : ℕ) (heads : List Seen) (given : ClientBlock × Turn) (s : Station) → s.iss ≡ iss
    → Counts x.c iss (fold (seen_step (tale_step x.c)) (tale_at x) heads) given → CountsTaken (grown x (client_does x s heads given))
client-keeps x iss heads given s same counts =
    let v : Move = client_does x s heads given in
    let u : Tale = fold (seen_step (tale_step x.c)) (tale_at x) heads in
    let t : Tale = told_on x.c u given.1.notes in
    let told : tale_at (grown x v) ≡ t = grown-tale x v tt ∙ client-sends-tale x.c x.c given.1.segments t in
    subst (λ (w : Tale). CountsFrom s.iss w.accepted given.0) (sym told) (subst (λ (n : ℕ). CountsFrom n t.accepted given.0) (sym same) counts)

module _ (x : Conn) (s : Station) (there : x.part.station ≡ Some s) where
  now : CountsTaken x → CountsFrom s.iss (tale_at x).accepted s.client
  now h = subst (CountsOn (tale_at x).accepted) there h

  hears-keeps : (from : Place) (bytes : List ℕ) → Was x from (Client x.c) bytes → IsConnSound x → Keeps x (client_does x s (packet_seen from (Client x.c) bytes) (client_gets s.client (decoded bytes x.c ToClient)))
  hears-keeps from bytes was sound given h =
      let r : Result Said SegFault = decoded bytes x.c ToClient in
      client-keeps x s.iss (packet_seen from (Client x.c) bytes) (client_gets s.client r) s refl (record {
        irs = gets-irs s.iss s.client r (λ t e. (packet-greets x s from bytes there sound was given.0 t e).greets) (now h).irs;
        counted = hears-counts x.c s.client (tale_at x) from bytes (packet-known x s from bytes there sound was given.0 given.1 h) (sound.client s there) r refl;
      })

-- what is told behind an event
abbrev told_event : Conn → Event → Tale
told_event x e = tale_step x.c (tale_at x) (rec.Event 0 e)

keeping : (k : Setting) → Rules k (Owed Keeps)
keeping k = record {
  untouched = record {
    client = record {
      opens = λ x isn iss wnd mss rule none number sound given h.
          let heads : List Seen = (client_begins x isn iss wnd mss).heads in
          client-keeps x iss heads (client_opens x.c isn wnd mss) (record { client = (client_opens x.c isn wnd mss).0; iss = iss }) refl
          (opens-count x.c iss (fold (seen_step (tale_step x.c)) (tale_at x) heads) isn wnd mss (subst (CountsOn (tale_at x).accepted) none h));
      gets = λ x s path there le number sound given h. client-keeps x s.iss (event_seen (event.Get x.c path)) (client_writes s.client (request path)) s refl (writes-count x.c s.iss (told_event x (event.Get x.c path)) s.client (now x s there h) (request path));
      writes = λ x s bytes there le number sound given h. client-keeps x s.iss (event_seen (event.Write x.c bytes)) (client_writes s.client bytes) s refl (writes-count x.c s.iss (told_event x (event.Write x.c bytes)) s.client (now x s there h) bytes);
      shuts = λ x s there number sound given h. client-keeps x s.iss (event_seen (event.Shut x.c)) (client_shuts s.client) s refl (shuts-count x.c s.iss (told_event x (event.Shut x.c)) s.client (now x s there h));
      aborts = λ x s there number sound given h. client-keeps x s.iss (event_seen (event.Abort x.c)) (client_aborts s.client) s refl (aborts-count x.c s.iss (told_event x (event.Abort x.c)) s.client (now x s there h));
      holds = λ x s there number sound given h. client-keeps x s.iss (event_seen (event.Hold x.c)) (client_holds s.client) s refl (holds-count x.c s.iss (told_event x (event.Hold x.c)) s.client (now x s there h));
      takes = λ x s there number sound given h. client-keeps x s.iss (event_seen (event.Take x.c)) (client_takes s.client) s refl (takes-count x.c s.iss (told_event x (event.Take x.c)) s.client (now x s there h));
      fires = λ x s there number sound given h. client-keeps x s.iss (event_seen (event.Timer (Client x.c) x.c)) (client_timer s.client) s refl (fires-count x.c s.iss (told_event x (event.Timer (Client x.c) x.c)) s.client (now x s there h));
      hears = λ x s from bytes there was number sound given h. hears-keeps x s there from bytes was sound given h;
    };
    front = fronts-leave k Keeps (λ x v at own number sound given h. machine-keeps x v at own given h);
    node = nodes-leave k Keeps (λ x v at own number sound given h. machine-keeps x v at own given h);
    ignores = λ x from to bytes was number sound given h. aside-keeps x (stands x to (packet_seen from to bytes) nothing_said) refl (nothing-told x from to bytes) given h;
  };
  injects = λ x s bytes there rule number sound given h. client-keeps x s.iss (inject_seen x.c bytes) (client_injects s.client bytes) s refl (now x s there h);
}

counting : (k : Setting) → IsLaw k Given CountsTaken
counting k = record {
  begins = λ c. refl;
  moves = weaker k (Owed Keeps) (λ x v. MayRestOn Given x → CountsTaken x → CountsTaken (grown x v)) (λ x v keeps may h. keeps may.number may.sound may.given h) (keeping k);
}

-- In every state that events lead to.
pub counts-taken : (config : Config) (files : List (List ℕ × List ℕ)) → config_check config ≡ Ok tt → OfEach config files CountsTaken
counts-taken config files checked = carried config files Given CountsTaken (λ l. counting (with_leaving (setting config files) l)) (λ m r q. (one-first config files checked m r q, stand-as-told config files m r q))
