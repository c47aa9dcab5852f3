-- A client that aborted is not open: of each connection that the schedule did not touch, in every state that events lead to.
use Rattle.std.proofs.Common.{◌≡◌, ◌++◌, ◌||◌, ℕ, Bool, true, false, List, [], ◌∷◌, take, drop, nat_lt, Option, Some, None, Result, Ok, Err, inl, inr, refl, sym, ap, ◌∙◌, subst}
use Rattle.std.proofs.lemmas.Bool.{both_ways, cond_both}
use Rattle.lard_law_view.specs.Prelude.{Came, Client, ClientBlock, ClientRules, Config, Conn, Heard, IsMachine, IsUntouchedLaw, MayRestOn, Move, OfEach, Phase, Place, Rec, Row, Said, Seen, SegFault, Setting, Station, ToClient, Turn, Untouched, UntouchedRules, aborted, accepted_note, client_after_timer, client_arrived, client_begins, client_does, client_gets, client_holds, client_shuts, client_taken, client_takes, client_timed, client_timer, client_writes, client_written, decoded, eof_note, event_seen, grown, held_on, is_client_open, is_established, is_open_in, is_writing, nothing_said, packet_seen, queued_too, request, rows_of, send_closed, setting, shut_down, silent, speaking, stands, station_ready_of, tale_at, with_leaving}
use Rattle.lard_base.specs.declared.event.Event.TheVariants as event
use Rattle.lard_client.specs.declared.phase.Phase.TheVariants.{Open, Aborted}
use Rattle.lard_laws.specs.Acks.{story_at}
use Rattle.lard_law_view.proofs.Carried.{carried}
use Rattle.lard_law_view.proofs.Fine.{IsFine, IsItsOwn, fine}
use Rattle.lard_law_view.proofs.Frames.{IsAtMachine, IsHeadAt, Owed, by_clients}
use Rattle.lard_law_view.proofs.Guarded.{untouched-both, untouched-law, untouched-weaker}
use Rattle.lard_law_view.proofs.Rows.{grown-told}
use Rattle.lard_law_view.proofs.Saying.{NotedAt}
use Rattle.lard_history.proofs.Each.{Each, Each-append, Each-weaker}
use Rattle.lard_journal.specs.declared.rec.Rec.TheVariants as rec
use Rattle.lard_law_view.proofs.Story.{Story, story_on, story_seen, story_step, unheard}
use Rattle.lard_laws.proofs.ClientsAsides.{same-station}
use Rattle.lard_law_progress.proofs.Clients.{OnPhase, arrived-takes, speaks-told, timer-told}
use Rattle.lard_law_view.proofs.OfKinds.{by-machine, rest_of, rest-outer, rows-are}
use Rattle.lard_law_view.proofs.RecordKinds.{IsByMachine, IsOuter, kind_of as record_kind}

-- ---- records that tell of no abort

abbrev IsStill : Rec → Type 0
IsStill (rec.Aborted d) = ⊥
IsStill _ = Unit {0}

still-one : (c : ℕ) (y : Story) (r : Rec) → IsStill r → (story_step c y r).aborted ≡ y.aborted
still-one c y (rec.Aborted d) h = absurd h
still-one c y _ h = refl

still-on : (c : ℕ) (y : Story) (rs : List Rec) → Each IsStill rs → (story_on c y rs).aborted ≡ y.aborted
still-on c y [] h = refl
still-on c y (r ∷ rs) h = still-on c (story_step c y r) rs h.1 ∙ still-one c y r h.0

machine-still : (r : Rec) → IsByMachine (record_kind r) → IsStill r
machine-still (rec.Aborted d) h = absurd h
machine-still _ h = tt

noted-still : (place : Place) (c : ℕ) (r : Rec) → IsMachine place → NotedAt place c r → IsStill r
noted-still place c r m h = machine-still r (by-machine place c r h m)

outer-still : (r : Rec) → IsOuter r → IsStill r
outer-still (rec.Aborted d) h = absurd h
outer-still _ h = tt

module _ (x : Conn) (v : Move) (own : IsItsOwn x v) (plain : (story_seen x.c (story_at x) v.heads).aborted ≡ (story_at x).aborted) (notes : Each IsStill v.said.notes) where
  rows-still : Each IsStill (rows_of x v)
  rows-still = subst (Each IsStill) (sym (rows-are x v)) (Each-append IsStill v.said.notes (rest_of x v) notes (rest-outer x v IsStill outer-still own))

  move-still : (story_at (grown x v)).aborted ≡ (story_at x).aborted
  move-still = ap (λ (y : Story). y.aborted) (grown-told (story_step x.c) unheard x v) ∙ still-on x.c (story_seen x.c (story_at x) v.heads) (rows_of x v) rows-still ∙ plain

-- ---- the law of a connection

abbrev Told : Option Station → Bool → Type 0
Told None b = b ≡ false
Told (Some s) b = b ≡ true → s.client.phase ≡ Open → ⊥

-- its client is not open, where it aborted
abbrev pub AbortedIsOver : Conn → Type 0
AbortedIsOver x = Told x.part.station (story_at x).aborted

abbrev Keeps : Conn → Move → Type 0
Keeps x v = IsItsOwn x v → AbortedIsOver x → AbortedIsOver (grown x v)

-- ---- the machines

heads-plain : (place : Place) (c : ℕ) (y : Story) (ss : List Seen) → Each (IsHeadAt place c) ss → (story_seen c y ss).aborted ≡ y.aborted
heads-plain place c y [] h = refl
heads-plain place c y (Row (rec.Event i (event.Timer p d)) ∷ ss) h = heads-plain place c (story_step c y (rec.Event i (event.Timer p d))) ss h.1
heads-plain place c y (Came l ∷ ss) h = heads-plain place c y ss h.1
heads-plain place c y (Row r ∷ ss) h = absurd h.0

machine-keeps : (x : Conn) (v : Move) → IsAtMachine x v → Keeps x v
machine-keeps x v at own h =
    let still = move-still x v own (heads-plain v.place x.c (story_at x) v.heads at.heads)
    (Each-weaker (NotedAt v.place x.c) IsStill (λ r. noted-still v.place x.c r at.machine) v.said.notes own.notes) in
    subst (λ (o : Option Station). Told o (story_at (grown x v)).aborted) (sym (same-station v.place x.part v.part at.machine at.keeps))
    (subst (Told x.part.station) (sym still) h)

-- ---- the client

-- it notes no abort, and is open only if it was
record Goes (x : ClientBlock) (given : ClientBlock × Turn) : Type 0 where
  notes : Each IsStill given.1.notes
  opens : given.0.phase ≡ Open → x.phase ≡ Open

silent-goes : (x : ClientBlock) → Goes x (x, silent)
silent-goes x = record { notes = tt; opens = λ e. e }

speaks-goes : (x y : ClientBlock) (notes : List Rec) (segments : List (Place × List ℕ)) → Each IsStill notes → (y.phase ≡ Open → x.phase ≡ Open) → Goes x (speaking notes segments y)
speaks-goes x y notes segments still opens = record { notes = still; opens = λ e. opens (sym (speaks-told y).phase ∙ e) }

writes-goes : (x : ClientBlock) (bytes : List ℕ) → Goes x (client_writes x bytes)
writes-goes x bytes = cond_both (is_writing x) (speaking (rec.Wrote x.c bytes ∷ []) [] (client_written x bytes)) (x, silent) (Goes x)
    (λ t. speaks-goes x (client_written x bytes) (rec.Wrote x.c bytes ∷ []) [] (tt, tt)
    (cond_both (is_writing x) (record x { send = queued_too x.send bytes }) x (λ (y : ClientBlock). y.phase ≡ Open → x.phase ≡ Open) (λ u e. e) (λ u e. e)))
    (λ t. silent-goes x)

shuts-goes : (x : ClientBlock) → Goes x (client_shuts x)
shuts-goes x = speaks-goes x (shut_down x) [] [] tt (cond_both (is_client_open x) (record x { send = send_closed x.send }) x (λ (y : ClientBlock). y.phase ≡ Open → x.phase ≡ Open) (λ t e. e) (λ t e. e))

holds-goes : (x : ClientBlock) → Goes x (client_holds x)
holds-goes x = speaks-goes x (held_on x) [] [] tt (cond_both (is_client_open x) (record x { holding = true }) x (λ (y : ClientBlock). y.phase ≡ Open → x.phase ≡ Open) (λ t e. e) (λ t e. e))

takes-goes : (x : ClientBlock) → Goes x (client_takes x)
takes-goes x = speaks-goes x (client_taken x) [] [] tt
    (cond_both (is_client_open x) (record x { holding = false; held = 0; owed = x.owed || is_established x }) x (λ (y : ClientBlock). y.phase ≡ Open → x.phase ≡ Open) (λ t e. e) (λ t e. e))

fires-goes : (x : ClientBlock) → Goes x (client_timer x)
fires-goes x = speaks-goes x (client_after_timer x) [] (station_ready_of (client_after_timer x) (client_timed x)) tt (λ e. sym (timer-told x).phase ∙ e)

phase-was : (p q : Phase) → OnPhase p q → q ≡ Open → p ≡ Open
phase-was p q (inl same) e = sym same ∙ e
phase-was p q (inr reset) e = reset.0

notes-still : (c : ℕ) (h : Heard) (payload : List ℕ) → Each IsStill (accepted_note c h payload ++ eof_note c h)
notes-still c h payload = Each-append IsStill (accepted_note c h payload) (eof_note c h)
    (cond_both (nat_lt 0 h.len) (rec.Accepted c (take h.len (drop h.from payload)) ∷ []) [] (Each IsStill) (λ t. (tt, tt)) (λ t. tt))
    (cond_both h.eof (rec.Eof c ∷ []) [] (Each IsStill) (λ t. (tt, tt)) (λ t. tt))

gets-goes : (x : ClientBlock) (r : Result Said SegFault) → Goes x (client_gets x r)
gets-goes x (Err fault) = silent-goes x
gets-goes x (Ok s) =
    let heard : Heard × ClientBlock = client_arrived x s in
    speaks-goes x heard.1 (accepted_note heard.1.c heard.0 s.payload ++ eof_note heard.1.c heard.0) (station_ready_of heard.1 heard.0.reply) (notes-still heard.1.c heard.0 s.payload)
    (phase-was x.phase heard.1.phase (arrived-takes x s).0.phase)

abort-ends : (x : ClientBlock) → (aborted x).phase ≡ Open → ⊥
abort-ends x = cond_both (is_client_open x) (record x { phase = Aborted }) x (λ (y : ClientBlock). y.phase ≡ Open → ⊥)
    (λ t e. let bad : Aborted ≡ Open = e in cc)
    (λ t e. both_ways (is_client_open x) t (ap is_open_in e))

module _ (x : Conn) (s : Station) (there : x.part.station ≡ Some s) where
  client-keeps : (heads : List Seen) → (story_seen x.c (story_at x) heads).aborted ≡ (story_at x).aborted → (given : ClientBlock × Turn) → Goes s.client given → Keeps x (client_does x s heads given)
  client-keeps heads plain given goes own h = λ was open_.
      let before : Told (Some s) (story_at x).aborted = subst (λ (o : Option Station). Told o (story_at x).aborted) there h in
      before (sym (move-still x (client_does x s heads given) own plain goes.notes) ∙ was) (goes.opens open_)

opens-keeps : (x : Conn) (isn iss wnd mss : ℕ) → x.part.station ≡ None → Keeps x (client_begins x isn iss wnd mss)
opens-keeps x isn iss wnd mss none own h = λ was open_.
    let before : (story_at x).aborted ≡ false = subst (λ (o : Option Station). Told o (story_at x).aborted) none h in
    absurd (both_ways (story_at x).aborted before (sym (move-still x (client_begins x isn iss wnd mss) own refl tt) ∙ was))

-- ---- the law

module _ (k : Setting) where
  clients : ClientRules k (Owed Keeps)
  clients = record {
    opens = λ x isn iss wnd mss rule none number sound. opens-keeps x isn iss wnd mss none;
    gets = λ x s path there fits number sound. client-keeps x s there (event_seen (event.Get x.c path)) refl (client_writes s.client (request path))
        (writes-goes s.client (request path));
    writes = λ x s bytes there fits number sound. client-keeps x s there (event_seen (event.Write x.c bytes)) refl (client_writes s.client bytes)
        (writes-goes s.client bytes);
    shuts = λ x s there number sound. client-keeps x s there (event_seen (event.Shut x.c)) refl (client_shuts s.client) (shuts-goes s.client);
    aborts = λ x s there number sound own h was open_. abort-ends s.client open_;
    holds = λ x s there number sound. client-keeps x s there (event_seen (event.Hold x.c)) refl (client_holds s.client) (holds-goes s.client);
    takes = λ x s there number sound. client-keeps x s there (event_seen (event.Take x.c)) refl (client_takes s.client) (takes-goes s.client);
    fires = λ x s there number sound. client-keeps x s there (event_seen (event.Timer (Client x.c) x.c)) refl (client_timer s.client) (fires-goes s.client);
    hears = λ x s from bytes there was number sound. client-keeps x s there (packet_seen from (Client x.c) bytes) refl
        (client_gets s.client (decoded bytes x.c ToClient)) (gets-goes s.client (decoded bytes x.c ToClient));
  }

  rules : UntouchedRules k (Owed Keeps)
  rules = by_clients k Keeps clients (λ x v at own number sound its. machine-keeps x v at own) (λ x from to bytes was number sound own h.
      let v : Move = stands x to (packet_seen from to bytes) nothing_said in
      subst (Told x.part.station) (sym (move-still x v own refl tt)) h)

  abbrev Given : Conn → Type 0
  Given x = Unit {0}

  abbrev Wanted : Conn → Move → Type 0
  Wanted x v = MayRestOn Given x → (tale_at x).touched ≡ false → AbortedIsOver x → AbortedIsOver (grown x v)

  abbrev All : Conn → Move → Type 0
  All x v = IsFine x v × Owed Keeps x v

  wanted : (x : Conn) (v : Move) → All x v → Wanted x v
  wanted x v all may untouched h = all.1 may.number may.sound (all.0 may.number may.sound).0 h

  law : IsUntouchedLaw k Given AbortedIsOver
  law = record { begins = λ c. refl; moves = untouched-weaker k All Wanted wanted (untouched-both k IsFine (Owed Keeps) (fine k).untouched rules) }

-- So it is of each connection that the schedule did not touch, in every state that events lead to.
pub each-aborted : (config : Config) (files : List (List ℕ × List ℕ)) → OfEach config files (Untouched AbortedIsOver)
each-aborted config files =
    let k : Setting = setting config files in
    carried config files (Given k) (Untouched AbortedIsOver) (λ l. untouched-law (with_leaving k l) (Given k) AbortedIsOver (law (with_leaving k l))) (λ m r q. tt)
