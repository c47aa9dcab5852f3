-- The timer of an endpoint, at the front end and at a node, sends what was not acknowledged, which is near.
use Rattle.std.proofs.Common.{◌≡◌, ◌<◌, ◌≤◌, ◌^◌, ℕ, Bool, true, false, List, ◌∷◌, ◌++◌, map, Some, inl, refl, sym, ap, ◌∙◌, subst, arith}
use Rattle.lard_law_view.specs.Prelude.{Client, Conn, ControlBlock, FilesAt, Front, FrontEnv, FrontRow, Has, IsFrontEnv, IsNodeEnv, Letter, Move, Node, NodeEnv, Part, Phase, Place, Said, ServeEnv, Setting, Speaks, Station, ToClient, after_timer, decoded, event_seen, fires_at, front_does, front_rest, is_clear, letter, letters_of, node_does, speaks, spelled}
use Rattle.lard_base.specs.declared.event.Event.TheVariants as event
use Rattle.lard_bound.specs.Nears.{Near, NearReply, NearSegment, OfSegment}
use Rattle.lard_bound.specs.Seats.{Held, Waiting, Here, seat_by, seat_in, seat_of, staying_of}
use Rattle.lard_bound.specs.Spots.{Spot, number_awaited, ends_of, post_of, spot_of}
use Rattle.lard_bound.specs.Units.{Whole}
use Rattle.lard_client.specs.declared.phase.Phase.TheVariants as phase
use Rattle.lard_law_settles.proofs.CourseRenewing.{IsWithNode, Renews}
use Rattle.lard_law_settles.proofs.CourseResending.{said, timer-says, timer-sendable, timer-untold}
use Rattle.lard_law_settles.proofs.CourseTiming.{WaitsClear, HereDeed, HereNear, HeldNear, near-by}
use Rattle.lard_handoff_back.specs.declared.row.BackConn.TheVariants as back
use Rattle.lard_handoff_front.specs.declared.row.FrontConn.TheVariants as stage
use Rattle.lard_history.proofs.Seeing.{has-before}
use Rattle.lard_law_progress.proofs.Away.{away-here, seat-with}
use Rattle.lard_segment.proofs.Again.{again}

-- Of an endpoint and its client, within a settle: it was not reset, and speaks; its first number is the one that the client knows; and the
-- client was not reset.
pub record IsSpeaking (st : Station) (b : ControlBlock) : Type 0 where
  pub open_ : b.reset ≡ false
  pub bytes : List ℕ
  pub speaks_ : Speaks b.send bytes
  pub iss : st.iss ≡ b.send.iss
  pub low : b.send.una < 2 ^ 32
  pub here : st.client.phase ≡ phase.Reset → ⊥

module _ (files : FilesAt) (p : Part) (st : Station) (c : ℕ) (b : ControlBlock) (k : IsSpeaking st b) (unclear : is_clear b.send ≡ false) (env : ServeEnv) where
  abbrev t : Spot
  t = spot_of files p st

  abbrev s : Said
  s = said env b k.bytes k.open_ k.speaks_ unclear

  phase-is : t.phase ≡ st.client.phase
  unfolding spot_of
  phase-is = refl

  iss-is : t.iss ≡ st.iss
  unfolding spot_of
  iss-is = refl

  post-is : t.post ≡ post_of files st.client (seat_of p)
  unfolding spot_of
  post-is = refl

  -- whatever becomes of the client
  by-phase : (back : ℕ) → back ≤ 3 → (ph : Phase) → st.client.phase ≡ ph → NearReply t back 3 (ends_of st.client b) s ph
  by-phase back low phase.Open is = inl (timer-untold env b k.bytes k.open_ k.speaks_ unclear t (ends_of st.client b) (iss-is ∙ k.iss) refl k.low, low)
  by-phase back low phase.Aborted is = (refl, refl, sym (ap (number_awaited b) is), low)
  by-phase back low phase.Reset is = absurd (k.here is)

  reply-near : (back : ℕ) → back ≤ 3 → NearReply t back 3 (ends_of st.client b) s t.phase
  reply-near back low = subst (NearReply t back 3 (ends_of st.client b) s) (sym phase-is) (by-phase back low st.client.phase refl)

  read-again : (P : Said → Type 0) → P s → OfSegment P (decoded (spelled c ToClient s) c ToClient)
  read-again P h = subst (OfSegment P) (sym (again c ToClient s (timer-sendable env b k.bytes k.open_ k.speaks_ unclear))) h

  pub held-near : seat_of p ≡ Held b (front_rest p.front.rest).count → Near files t c 3 (record { from = Front; to = Client c; bytes = spelled c ToClient s })
  held-near seat =
      read-again (λ s. NearSegment t 3 s t.post)
      (subst (NearSegment t 3 s) (sym (post-is ∙ ap (post_of files st.client) seat)) (reply-near 2 (omega arith)))

  pub here-near : (n e : ℕ) → (p.nodes n).row ≡ Some (record { stage = back.Here b; epoch = record { 0 = e } }) → IsWithNode p n e
      → Near files t c 3 (record { from = Node n; to = Client c; bytes = spelled c ToClient s })
  here-near n e there home =
      let seat = seat-with p n e home.told home.row home.front home.with_ ∙ away-here home.told n e (front_rest p.front.rest).count (p.nodes n) b there in
      read-again (λ s. NearSegment t 3 s t.post)
      (subst (NearSegment t 3 s) (sym (post-is ∙ ap (post_of files st.client) seat)) (reply-near 3 (omega arith)))

-- ---- the rules

module _ (k : Setting) (w : Whole) (x : Conn) (st : Station) (is : x.part.station ≡ Some st) (renews : Renews k.files x) where
  seat-held : (row : FrontRow) (b : ControlBlock) → x.part.front.row ≡ Some row → row.stage ≡ stage.Held b → seat_of x.part ≡ Held b (front_rest x.part.front.rest).count
  unfolding seat_of
  seat-held row b at is_ = ap (seat_by x.part.front x.part.nodes) at ∙ ap (seat_in x.part.front x.part.nodes) is_

  pub waits-clear : (env : FrontEnv) → ((b : ControlBlock) (count : ℕ) → seat_of x.part ≡ Waiting b count → is_clear b.send ≡ true) → WaitsClear k w x st is env renews
  unfolding seat_of
  waits-clear env waits row b at is_ = waits b (front_rest x.part.front.rest).count (ap (seat_by x.part.front x.part.nodes) at ∙ ap (seat_in x.part.front x.part.nodes) is_)

  pub held-begins : (env : FrontEnv) → IsFrontEnv k x.c env → ((b : ControlBlock) (count : ℕ) → seat_of x.part ≡ Held b count → IsSpeaking st b) → HeldNear k w x st is env renews
  held-begins env of speaking row b at is_ unclear lasts =
      let seat = seat-held row b at is_ in
      let sp = speaking b (front_rest x.part.front.rest).count seat in
      let s : Said = said env.serve b sp.bytes sp.open_ sp.speaks_ unclear in
      let c : ℕ = env.serve.c in
      let l : Letter = record { from = Front; to = Client c; bytes = spelled c ToClient s } in
      let says = timer-says env.serve b sp.bytes sp.open_ sp.speaks_ unclear in
      let v : Move = front_does x (event_seen (event.Timer Front x.c)) (fires_at env x.part.front row (stage.Held b)) in
      let d : ControlBlock = after_timer b in
      let segments : v.said.segments ≡ (Client c, spelled c ToClient s) ∷ (speaks c d).0 = ap (λ (ss : List (Place × List ℕ)). ss ++ (speaks c d).0) says in
      let has : Has l (letters_of v) = has-before l (map (letter Front) v.said.segments) (map (letter Front) v.said.messages)
      (subst (λ (ss : List (Place × List ℕ)). Has l (map (letter Front) ss)) (sym segments) (inl refl)) in
      let near = subst (λ (i : ℕ). Near k.files (spot_of k.files x.part st) x.c 3 (record { from = Front; to = Client i; bytes = spelled i ToClient s })) (sym of.number) (held-near k.files x.part st x.c b sp unclear env.serve seat) in
      near-by k w x st is v lasts l has near

  pub here-begins : (n epoch : ℕ) (env : NodeEnv) → IsNodeEnv k x.c n epoch env → ((told : Bool) (e : ℕ) (b : ControlBlock) → seat_of x.part ≡ Here told n e b (staying_of (x.part.nodes n)) → IsSpeaking st b) → HereNear k w x st is n env renews
  here-begins n epoch env of speaking e b stay row has_stay unclear lasts =
      let home = renews.homes n e b row in
      let seat = seat-with x.part n e home.told home.row home.front home.with_ ∙ away-here home.told n e (front_rest x.part.front.rest).count (x.part.nodes n) b row in
      let sp = speaking home.told e b seat in
      let s : Said = said env.serve b sp.bytes sp.open_ sp.speaks_ unclear in
      let c : ℕ = env.serve.c in
      let l : Letter = record { from = Node n; to = Client c; bytes = spelled c ToClient s } in
      let says = timer-says env.serve b sp.bytes sp.open_ sp.speaks_ unclear in
      let v : Move = node_does x n (event_seen (event.Timer (Node n) x.c)) (HereDeed k w x st is n env renews b stay) in
      let d : ControlBlock = after_timer b in
      let segments : v.said.segments ≡ (Client c, spelled c ToClient s) ∷ (speaks c d).0 = ap (λ (ss : List (Place × List ℕ)). ss ++ (speaks c d).0) says in
      let has : Has l (letters_of v) = has-before l (map (letter (Node n)) v.said.segments) (map (letter (Node n)) v.said.messages)
      (subst (λ (ss : List (Place × List ℕ)). Has l (map (letter (Node n)) ss)) (sym segments) (inl refl)) in
      let near = subst (λ (i : ℕ). Near k.files (spot_of k.files x.part st) x.c 3 (record { from = Node n; to = Client i; bytes = spelled i ToClient s })) (sym of.number) (here-near k.files x.part st x.c b sp unclear env.serve n e row home) in
      near-by k w x st is v lasts l has near
