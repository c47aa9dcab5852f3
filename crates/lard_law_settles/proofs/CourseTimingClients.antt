-- The timer of a client sends what was not acknowledged, which is near where no timer of the cluster is due.
use Rattle.std.proofs.Common.{◌≡◌, ◌<◌, ◌≤◌, ◌==◌, not, ℕ, ◌+◌, ◌-◌, ◌^◌, Bool, true, false, cond, List, [], ◌∷◌, ◌++◌, map, length, take, drop, Option, Some, None, inl, inr, refl, sym, ap, ◌∙◌, subst, arith, eqb-true}
use Rattle.std.proofs.lemmas.Bool.{and_parts, both_ways}
use Rattle.std.specs.List.{list_any}
use Rattle.lard_law_view.specs.Prelude.{BackConn, BackRow, Client, ClientBlock, Conn, ControlBlock, Final, Front, FrontConn, FrontRow, Has, IsClientBlock, IsSendable, Kept, Letter, Move, NodePart, Phase, Place, Ready, Reason, Said, Sending, Setting, Speaks, Station, TimerKind, ToCluster, acknowledged_bytes, after_resend, client_after_piece, client_after_timer, client_does, client_filled, client_piece_ready, client_rcv_nxt, client_rcv_wnd, client_ready_of, client_speaks, client_timed, client_timer, client_told, data_ready, event_seen, front_armed, front_rest, holds_kind, is_clear, is_client_open, is_open_in, is_plain_syn, kind_rank, letter, letters_of, node_armed, one_if, resent_piece, seg_len, seq_add, seq_offset, spelled, station_armed, symbols, syn_ready}
use Rattle.lard_base.specs.declared.event.Event.TheVariants as event
use Rattle.lard_base.specs.declared.place.Reason.TheVariants as reason
use Rattle.lard_base.specs.declared.place.TimerKind.TheVariants as kind
use Rattle.lard_bound.specs.Nears.{Crosses, Near, NearEnd, NearEnded, NearHeld, NearWord, OfSegment, first_symbol}
use Rattle.lard_bound.specs.Progress.{Lasts}
use Rattle.lard_bound.specs.Seats.{Held, Here, Over, SeatNow, Unborn, seat_by, seat_in, seat_of, staying_of}
use Rattle.lard_bound.specs.Spots.{Post, Spot, ends_of, post_of, spot_of}
use Rattle.lard_bound.specs.Units.{Whole, symbols_taken}
use Rattle.lard_client.specs.declared.phase.Phase.TheVariants as phase
use Rattle.lard_law_settles.proofs.CourseOwing.{IsFirst}
use Rattle.lard_law_settles.proofs.CourseRenewing.{BackKept, OfferKept, Renews, RowKept, StageKept, ToldKept}
use Rattle.lard_law_settles.proofs.CourseResending.{bit, IsResent, first-is, resent-first}
use Rattle.lard_law_settles.proofs.CourseTiming.{not-off, SendsNear, near-by}
use Rattle.lard_handoff_back.specs.declared.row.BackConn.TheVariants as back
use Rattle.lard_handoff_front.specs.declared.row.FrontConn.TheVariants as stage
use Rattle.lard_history.proofs.Seeing.{has-before}
use Rattle.lard_law_progress.proofs.Away.{away-here, seat-with}
use Rattle.lard_rules.specs.Client as rules
use Rattle.lard_segment.proofs.Again.{again}
use Rattle.lard_send.specs.declared.piece.Piece.{Piece}
use Rattle.lard_seq.proofs.Laws.{offset-add}
use Rattle.lard_law_view.proofs.Client.{timed-fair}
use Rattle.lard_law_view.proofs.Pieces.{piece_bytes, piece_size, resent-carries}
use Rattle.lard_law_view.proofs.Speaking.{resend-moves}

-- ---- what is known

-- a node has decided about the Offer of an epoch, and its end is not acknowledged
pub record IsDecided (q : NodePart) (e : ℕ) : Type 0 where
  pub row : BackRow
  pub is : q.row ≡ Some row
  pub epoch : row.epoch.0 ≡ e
  pub stays : row.stage ≡ back.Gone → ⊥

-- the last numbers of a connection whose client is open: it was not reset, and knows the cluster
pub record IsLeft (st : Station) (last : Final) : Type 0 where
  pub established : (st.client.send.una == 0) ≡ false
  pub no_peer : last.reason ≡ reason.Peer → ⊥
  pub irs : st.client.send.irs ≡ st.iss
  pub few : 1 + st.client.accepted + one_if st.client.eof < 2 ^ 32

-- Of a connection whose client opened, within a settle.
pub record IsTimed (x : Conn) (st : Station) : Type 0 where
  pub named : st.client.c ≡ x.c
  pub sound : IsClientBlock st.client
  pub wide : st.client.wnd < 2 ^ 16
  pub bytes : List ℕ
  pub speaks_ : Speaks st.client.send bytes
  pub low : st.client.send.una < 2 ^ 32
  pub small : st.iss < 2 ^ 32
  pub unborn : x.part.front.row ≡ None → st.client.send.una ≡ 0
  pub held : (row : FrontRow) (b : ControlBlock) → x.part.front.row ≡ Some row → row.stage ≡ stage.Held b → b.send.una ≤ symbols_taken st.client
  pub here : (n e : ℕ) (b : ControlBlock) → (x.part.nodes n).row ≡ Some (record { stage = back.Here b; epoch = record { 0 = e } }) → b.send.una ≤ symbols_taken st.client
  pub decided : (row : FrontRow) (n e : ℕ) → x.part.front.row ≡ Some row → row.stage ≡ stage.Moved n (record { 0 = e }) → IsDecided (x.part.nodes n) e
  pub over : (row : FrontRow) (last : Final) → x.part.front.row ≡ Some row → row.stage ≡ stage.Closed last → st.client.phase ≡ phase.Open → IsLeft st last

-- ---- what it says

open-is : (ph : Phase) → is_open_in ph ≡ true → ph ≡ phase.Open
open-is phase.Open e = refl
open-is phase.Aborted e = absurd (both_ways false refl e)
open-is phase.Reset e = absurd (both_ways false refl e)

on-off : (b : Bool) → not b ≡ false → b ≡ true
on-off true e = refl
on-off false e = absurd (both_ways true e refl)

module _ (y : ClientBlock) (bytes : List ℕ) (sound : IsClientBlock y) (wide : y.wnd < 2 ^ 16) (h : Speaks y.send bytes) (low : y.send.una < 2 ^ 32) (open_ : is_client_open y ≡ true) (unclear : is_clear y.send ≡ false) where
  abbrev piece : Piece
  piece = (resent-first y.send h.sound unclear).0

  resent : IsResent y.send piece
  resent = (resent-first y.send h.sound unclear).1

  -- the SYN, or bytes and the FIN
  abbrev word : Bool → Said
  word true = record {
    seq = y.send.iss;
    ack = 0;
    flags = record { syn = true; ack = false; fin = false; rst = false; psh = false };
    wnd = client_rcv_wnd y;
    mss = Some y.mss;
    payload = take 0 (drop (0 - acknowledged_bytes y.send) y.send.rest);
  }
  word false = record {
    seq = seq_add y.send.iss (1 + piece.at);
    ack = client_rcv_nxt y;
    flags = record { syn = false; ack = true; fin = piece.fin; rst = false; psh = piece.push };
    wnd = client_rcv_wnd y;
    mss = None;
    payload = piece_bytes y.send piece;
  }

  abbrev pub said : Said
  said = word piece.syn

  timed-is : client_timed y ≡ Some (client_piece_ready y piece)
  timed-is = ap (λ (t : Bool). cond {A = Option Ready} (not t) None (client_ready_of y (resent_piece y.send) None)) open_ ∙ ap (λ (o : Option Piece). client_ready_of y o None) resent.is

  after-is : client_after_timer y ≡ client_told (record y { send = after_resend y.send })
  after-is = ap (λ (t : Bool). cond (not t) y (client_after_piece (record y { send = after_resend y.send }) (resent_piece y.send) y)) open_
      ∙ ap (λ (o : Option Piece). client_after_piece (record y { send = after_resend y.send }) o y) resent.is

  word-is : (t : Bool) → client_filled (client_told (record y { send = record y.send { nxt = (after_resend y.send).nxt } })) (cond t (syn_ready y) (data_ready y piece)) ≡ word t
  word-is true = refl
  word-is false = refl

  filled-is : client_filled (client_after_timer y) (client_piece_ready y piece) ≡ said
  filled-is =
      ap (λ (d : ClientBlock). client_filled d (client_piece_ready y piece)) after-is
      ∙ ap (λ (s : Sending). client_filled (client_told (record y { send = s })) (client_piece_ready y piece)) (resend-moves y.send)
      ∙ word-is piece.syn

  after-named : (client_after_timer y).c ≡ y.c
  after-named = ap (λ (d : ClientBlock). d.c) after-is

  pub timer-says : rules.station_ready_of (client_after_timer y) (client_timed y) ≡ (Front, spelled y.c ToCluster said) ∷ []
  timer-says = ap (rules.station_ready_of (client_after_timer y)) timed-is ∙ (λ i. (Front, spelled (after-named i) ToCluster (filled-is i)) ∷ [])

  pub timer-sendable : IsSendable said
  timer-sendable = subst IsSendable filled-is (timed-fair y bytes sound wide h (client_piece_ready y piece) timed-is).1

  -- a SYN, or what crosses
  pub says-syn : y.send.una ≡ 0 → is_plain_syn said ≡ true
  says-syn zero = ap (λ t. is_plain_syn (word t)) (resent.syn ∙ ap (λ (n : ℕ). n == 0) zero)

  data-is : (y.send.una == 0) ≡ false → said ≡ word false
  data-is e = ap word (resent.syn ∙ e)

  pub says-on : (t : Spot) → t.isn ≡ y.send.iss → t.una ≡ y.send.una → (y.send.una == 0) ≡ false → Crosses t said
  says-on t isn una e =
      let no_syn : piece.syn ≡ false = resent.syn ∙ e in
      let next : 1 + piece.at ≡ y.send.una = resent.at no_syn in
      let size : length (piece_bytes y.send piece) ≡ piece.len = piece_size y.send bytes piece h (resent-carries y.send piece h.sound resent.is) in
      let some = resent.some in
      let none : one_if piece.syn ≡ 0 = ap one_if no_syn in
      let fin = bit piece.fin in
      let from : first_symbol t.isn (word false) ≡ y.send.una = ap (seq_offset (seq_add y.send.iss (1 + piece.at))) isn ∙ first-is y.send.iss y.send.una piece.at false h.number low (sym e) (λ f. next) in
      let len : seg_len (word false) ≡ piece.len + 0 + one_if piece.fin = (λ i. size i + 0 + fin i) in
      subst (Crosses t) (sym (data-is e)) (record { acks = refl; no_syn = refl; no_rst = refl; from = omega (arith, from, una); to = omega (arith, from, len, some, none, una) })

  -- at the stream limit
  pub says-limit : (t : Spot) → t.iss ≡ y.send.irs → y.send.irs < 2 ^ 32 → 1 + y.accepted + one_if y.eof < 2 ^ 32 → (y.send.una == 0) ≡ false → NearEnd t 3 (symbols_taken y) said reason.Limit
  says-limit t iss small few e =
      let ack : seq_offset (client_rcv_nxt y) t.iss ≡ 1 + y.accepted + one_if y.eof = ap (seq_offset (client_rcv_nxt y)) iss ∙ offset-add y.send.irs (1 + y.accepted + one_if y.eof) small few in
      let all : symbols_taken y ≡ 1 + y.accepted + one_if y.eof = ap (λ b. cond b 0 (1 + y.accepted + cond y.eof 1 0)) e ∙ ap (λ n. 1 + y.accepted + n) (bit y.eof) in
      subst (λ s. NearEnd t 3 (symbols_taken y) s reason.Limit) (sym (data-is e)) (refl, refl, ack ∙ sym all, omega arith)

-- ---- where it goes

module _ (k : Setting) (w : Whole) (x : Conn) (st : Station) (is : x.part.station ≡ Some st) (renews : Renews k.files x) (f : IsTimed x st) (first : IsFirst x.part (Client x.c)) (open_ : is_client_open st.client ≡ true)
    (unclear : is_clear st.client.send ≡ false) where
  abbrev y : ClientBlock
  y = st.client

  abbrev t : Spot
  t = spot_of k.files x.part st

  abbrev s : Said
  s = said y f.bytes f.sound f.wide f.speaks_ f.low open_ unclear

  abbrev opened : y.phase ≡ phase.Open
  opened = open-is y.phase open_

  phase-is : t.phase ≡ phase.Open
  unfolding spot_of
  phase-is = open-is st.client.phase open_

  isn-is : t.isn ≡ y.send.iss
  unfolding spot_of
  isn-is = refl

  una-is : t.una ≡ y.send.una
  unfolding spot_of
  una-is = refl

  iss-is : t.iss ≡ st.iss
  unfolding spot_of
  iss-is = refl

  post-is : t.post ≡ post_of k.files y (seat_of x.part)
  unfolding spot_of
  post-is = refl

  crosses : (y.send.una == 0) ≡ false → Crosses t s
  crosses e = says-on y f.bytes f.sound f.wide f.speaks_ f.low open_ unclear t isn-is una-is e

  abbrev NearAtPost : Post → Type 0
  NearAtPost p = NearWord t 3 s p

  by-seat : (z : SeatNow) → seat_of x.part ≡ z → NearAtPost (post_of k.files y z) → NearAtPost t.post
  by-seat z at h = subst NearAtPost (sym (post-is ∙ ap (post_of k.files y) at)) h

  -- an endpoint that said all, and to which all was acknowledged: so the client knows it
  knows : (b : ControlBlock) → is_clear b.send ≡ true → b.send.una ≤ symbols_taken y → (y.send.una == 0) ≡ false
  knows b clear heard = go (y.send.una == 0) refl where
    go : (t : Bool) → (y.send.una == 0) ≡ t → (y.send.una == 0) ≡ false
    go false e = e
    go true e =
        let none : symbols_taken y ≡ 0 = ap (λ b. cond b 0 (1 + y.accepted + cond y.eof 1 0)) e in
        let all : b.send.una ≡ symbols b.send = eqb-true b.send.una (symbols b.send) clear in
        absurd (omega (arith, none, all, heard))

  at-endpoint : (d : ℕ) → 2 ≤ d → (b : ControlBlock) → is_clear b.send ≡ true → b.send.una ≤ symbols_taken y → NearHeld t d (ends_of y b) s t.phase
  at-endpoint d two b clear heard =
      subst (NearHeld t d (ends_of y b) s) (sym phase-is) (inr (crosses (knows b clear heard), eqb-true b.send.una (symbols b.send) clear, two))

  at-end : (last : Final) → IsLeft st last → (why : Reason) → last.reason ≡ why → NearEnd t 3 (symbols_taken y) s why
  at-end last l reason.Closed why = (crosses l.established, omega arith)
  at-end last l reason.Peer why = absurd (l.no_peer why)
  at-end last l reason.Limit why =
      says-limit y f.bytes f.sound f.wide f.speaks_ f.low open_ unclear t (iss-is ∙ sym l.irs) (subst (λ (n : ℕ). n < 2 ^ 32) (sym l.irs) f.small) l.few l.established

  abbrev off-front : (kd : TimerKind) → front_armed x.part.front kd ≡ false
  off-front = first.1

  abbrev off-node : (n : ℕ) (kd : TimerKind) → node_armed (x.part.nodes n) kd ≡ false
  off-node = first.2

  -- where a node has decided
  by-node : (row : FrontRow) (n e : ℕ) → x.part.front.row ≡ Some row → row.stage ≡ stage.Moved n (record { 0 = e }) → (d : IsDecided (x.part.nodes n) e) → (c : BackConn) → d.row.stage ≡ c
      → StageKept k.files x.c d.row.epoch.0 (x.part.nodes n) c → NearAtPost t.post
  by-node row n e at moved d (back.Here b) is_ kept =
      let there : (x.part.nodes n).row ≡ Some (record { stage = back.Here b; epoch = record { 0 = e } }) = d.is ∙ λ i. Some (record { stage = is_ i; epoch = record { 0 = d.epoch i } }) in
      let unsaid : not (is_clear b.send) ≡ false = sym (ap (λ (o : Option BackRow). node_armed (record (x.part.nodes n) { row = o }) kind.Tcp) there) ∙ off-node n kind.Tcp in
      by-seat (Here true n e b (staying_of (x.part.nodes n))) (seat-with x.part n e true row at moved ∙ away-here true n e (front_rest x.part.front.rest).count (x.part.nodes n) b there)
      (at-endpoint 2 (omega arith) b (on-off (is_clear b.send) unsaid) (f.here n e b there))
  by-node row n e at moved d back.Out is_ kept = absurd kept
  by-node row n e at moved d back.Ended is_ kept = absurd (told-runs (x.part.nodes n).beside.returned kept.0) where
    told-runs : (o : Option ℕ) → ToldKept x.c d.row.epoch.0 (x.part.nodes n).kept o → ⊥
    told-runs None g = both_ways false refl (sym (sym (ap (holds_kind kind.Ended) g.is) ∙ off-node n kind.Ended))
    told-runs (Some served) g = both_ways false refl (sym (sym (ap (holds_kind kind.Give) g.is) ∙ off-node n kind.Give))
  by-node row n e at moved d back.Gone is_ kept = absurd (d.stays is_)

  by-stage : (row : FrontRow) → x.part.front.row ≡ Some row → (c : FrontConn) → row.stage ≡ c → OfferKept x.c x.part.front.kept c → NearAtPost t.post
  unfolding seat_of
  by-stage row at (stage.Held b) is_ kept =
      let seat : seat_of x.part ≡ Held b (front_rest x.part.front.rest).count = ap (seat_by x.part.front x.part.nodes) at ∙ ap (seat_in x.part.front x.part.nodes) is_ in
      let armed : front_armed x.part.front kind.Tcp ≡ not (is_clear b.send) = ap (λ (o : Option FrontRow). front_armed (record x.part.front { row = o }) kind.Tcp) (at ∙ λ i. Some (record row { stage = is_ i })) in
      by-seat (Held b (front_rest x.part.front.rest).count) seat (at-endpoint 3 (omega arith) b (on-off (is_clear b.send) (sym armed ∙ off-front kind.Tcp)) (f.held row b at is_))
  by-stage row at (stage.Waiting b) is_ kept =
      absurd (first.3 b (front_rest x.part.front.rest).count (ap (seat_by x.part.front x.part.nodes) at ∙ ap (seat_in x.part.front x.part.nodes) is_))
  by-stage row at stage.Lent is_ kept = absurd kept
  by-stage row at (stage.Offering n e) is_ kept =
      absurd (both_ways false refl (sym (sym (ap (λ (ks : List Kept). list_any (λ j. kind_rank j.kind == kind_rank kind.Offer) ks) kept.1) ∙ off-front kind.Offer)))
  by-stage row at (stage.Moved n e) is_ kept =
      let d = f.decided row n e.0 at is_ in
      by-node row n e.0 at is_ d d.row.stage refl (subst (λ (o : Option BackRow). BackKept k.files x.c (x.part.nodes n) o) d.is (renews.nodes n))
  by-stage row at (stage.Closed last) is_ kept =
      let seat : seat_of x.part ≡ Over last = ap (seat_by x.part.front x.part.nodes) at ∙ ap (seat_in x.part.front x.part.nodes) is_ in
      by-seat (Over last) seat (subst (NearEnded t 3 (symbols_taken y) s last.reason) (sym phase-is) (at-end last (f.over row last at is_ opened) last.reason refl))

  by-row : (o : Option FrontRow) → x.part.front.row ≡ o → RowKept x.c x.part.front.kept o → NearAtPost t.post
  unfolding seat_of
  by-row None at kept =
      by-seat Unborn (ap (seat_by x.part.front x.part.nodes) at) (says-syn y f.bytes f.sound f.wide f.speaks_ f.low open_ unclear (f.unborn at), omega arith)
  by-row (Some row) at kept = by-stage row at row.stage refl kept

  -- what it sends is near
  sends-near : Near k.files t x.c 3 (record { from = Client x.c; to = Front; bytes = spelled x.c ToCluster s })
  sends-near = subst (OfSegment (λ s. NearWord t 3 s t.post)) (sym (again x.c ToCluster s (timer-sendable y f.bytes f.sound f.wide f.speaks_ f.low open_ unclear))) (by-row x.part.front.row refl renews.front)

  pub client-near : Lasts k w x (client_does x st (event_seen (event.Timer (Client x.c) x.c)) (client_timer y)) → SendsNear k w x st is (client_does x st (event_seen (event.Timer (Client x.c) x.c)) (client_timer y))
  client-near lasts =
      let v : Move = client_does x st (event_seen (event.Timer (Client x.c) x.c)) (client_timer y) in
      let l : Letter = record { from = Client x.c; to = Front; bytes = spelled x.c ToCluster s } in
      let says = timer-says y f.bytes f.sound f.wide f.speaks_ f.low open_ unclear ∙ ap (λ (c : ℕ). (Front, spelled c ToCluster s) ∷ []) f.named in
      let segments : v.said.segments ≡ (Front, spelled x.c ToCluster s) ∷ (client_speaks (client_after_timer y)).0 = ap (λ (ss : List (Place × List ℕ)). ss ++ (client_speaks (client_after_timer y)).0) says in
      let has : Has l (letters_of v) = has-before l (map (letter (Client x.c)) v.said.segments) (map (letter (Client x.c)) v.said.messages)
      (subst (λ (ss : List (Place × List ℕ)). Has l (map (letter (Client x.c)) ss)) (sym segments) (inl refl)) in
      near-by k w x st is v lasts l has sends-near

-- its timer runs
pub client-begins : (k : Setting) (w : Whole) (x : Conn) (st : Station) (is : x.part.station ≡ Some st) → Renews k.files x → IsTimed x st → IsFirst x.part (Client x.c)
    → Lasts k w x (client_does x st (event_seen (event.Timer (Client x.c) x.c)) (client_timer st.client)) → SendsNear k w x st is (client_does x st (event_seen (event.Timer (Client x.c) x.c)) (client_timer st.client))
client-begins k w x st is renews f first =
    let on : station_armed (Some st) ≡ true = sym (ap station_armed is) ∙ first.0 in
    let both = and_parts (is_client_open st.client) (not (is_clear st.client.send)) on in
    client-near k w x st is renews f first both.0 (not-off (is_clear st.client.send) both.1)
