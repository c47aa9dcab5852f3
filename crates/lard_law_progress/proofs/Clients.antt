-- A client hears and says: nothing that is left to do on its connection comes back.
use Rattle.std.proofs.Common.{Bool, ap, arith, cond, false, inl, inr, refl, subst, sym, true, ℕ, ◌+◌, ◌==◌, ◌∙◌, ◌≡◌, ◌≤◌, ◌⊎◌}
use Rattle.std.proofs.lemmas.Bool.Decides.{nat_tests}
use Rattle.lard_law_view.specs.Prelude.{ClientBlock, FilesAt, Part, Phase, Said, Sending, Station, after_next, after_resend, client_after_emit, client_after_timer, client_arrived, client_speaks, client_told, one_if, symbols, with_station}
use Rattle.lard_bound.specs.Seats.{Gone, Held, Here, Offered, Over, Refused, Returned, SeatNow, Unborn, Waiting, seat_of, tells_over}
use Rattle.lard_bound.specs.Spots.{AtFront, AtNode, Ended, number_awaited, awaits_of, post_of, spot_of}
use Rattle.lard_bound.specs.Units.{Whole, client_left, ended_left, hand_off, heard_left, left_with, nodes_left, one_if_not, requests_left, seat_left, spoken_left, symbols_taken}
use Rattle.lard_client.specs.declared.phase.Phase.TheVariants.{Open, Aborted, Reset}
use Rattle.lard_law_progress.proofs.Away.{not-less, not-same}
use Rattle.lard_law_progress.proofs.Ends.{IsAhead, ahead-self, ahead-then, kept-ahead}
use Rattle.lard_rules.proofs.Halves.{KeptBySending, client-arrived}
use Rattle.lard_rules.proofs.Loops.{client_keeps}
use Rattle.lard_rules.proofs.Hearing.{acked, arrived-keeps, client-emit-keeps, client-timer-keeps}
use Rattle.lard_rules.proofs.Sides.{ack-side, next-side, resend-side}
use Rattle.lard_law_view.proofs.Speaking.{next-moves, resend-moves}

-- it is as it was, or was reset
abbrev pub OnPhase : Phase → Phase → Type 0
OnPhase p q = (q ≡ p) ⊎ ((p ≡ Open) × (q ≡ Reset))

-- what it took stays taken
pub record Takes (x y : ClientBlock) : Type 0 where
  pub accepted : x.accepted ≤ y.accepted
  pub eof : x.eof ≡ true → y.eof ≡ true
  pub wnd : y.wnd ≡ x.wnd
  pub phase : OnPhase x.phase y.phase

takes-self : (x : ClientBlock) → Takes x x
takes-self x = record { accepted = omega arith; eof = λ e. e; wnd = refl; phase = inl refl }

phases-then : (p q r : Phase) → OnPhase p q → OnPhase q r → OnPhase p r
phases-then p q r (inl e) (inl f) = inl (f ∙ e)
phases-then p q r (inl e) (inr f) = inr (sym e ∙ f.0, f.1)
phases-then p q r (inr e) (inl f) = inr (e.0, f ∙ e.1)
phases-then p q r (inr e) (inr f) = absurd (let bad : Reset ≡ Open = sym e.1 ∙ f.0 in cc)

takes-then : (x y z : ClientBlock) → Takes x y → Takes y z → Takes x z
takes-then x y z h k = record {
  accepted = let a : x.accepted ≤ y.accepted = h.accepted in let b : y.accepted ≤ z.accepted = k.accepted in omega arith;
  eof = λ e. k.eof (h.eof e);
  wnd = k.wnd ∙ h.wnd;
  phase = phases-then x.phase y.phase z.phase h.phase k.phase;
}

module _ (x : ClientBlock) (s : Said) where
  acked-takes : (owed : Bool) → Takes x (acked x s owed)
  acked-takes owed = record { accepted = omega arith; eof = λ e. e; wnd = refl; phase = inl refl }

  -- and one that is not open takes nothing
  pub arrived-takes : Takes x (client_arrived x s).1 × ((x.phase ≡ Open → ⊥) → (client_arrived x s).1 ≡ x)
  arrived-takes = arrived-keeps x s (λ r. Takes x r.1 × ((x.phase ≡ Open → ⊥) → r.1 ≡ x)) (record {
    refuses = λ e. (takes-self x, λ no_. refl);
    ignores = λ e. (takes-self x, λ no_. refl);
    learns = λ e t plain. (record { accepted = omega arith; eof = λ e. e; wnd = refl; phase = inl refl }, λ no_. absurd (no_ e));
    takes = λ e. record {
      rests = λ owed. (record { accepted = omega arith; eof = λ e. e; wnd = refl; phase = inl refl }, λ no_. absurd (no_ e));
      resets = λ t. (record { accepted = omega arith; eof = λ e. e; wnd = refl; phase = inr (e, refl) }, λ no_. absurd (no_ e));
      acks = λ owed c. (acked-takes owed, λ no_. absurd (no_ e));
      accepts = λ c in_order going. (record { accepted = omega arith; eof = λ f. absurd (let bad : true ≡ false = sym f ∙ going in cc); wnd = refl; phase = inl refl }, λ no_. absurd (no_ e));
    };
  })

-- ---- what it says

-- all but what was sent and is owed stays
pub record IsTold (x y : ClientBlock) : Type 0 where
  pub ahead : IsAhead x.send y.send
  pub una : y.send.una ≡ x.send.una
  pub finished : y.send.finished ≡ x.send.finished
  pub iss : y.send.iss ≡ x.send.iss
  pub accepted : y.accepted ≡ x.accepted
  pub eof : y.eof ≡ x.eof
  pub wnd : y.wnd ≡ x.wnd
  pub phase : y.phase ≡ x.phase

told-self : (x : ClientBlock) → IsTold x x
told-self x = record { ahead = ahead-self x.send; una = refl; finished = refl; iss = refl; accepted = refl; eof = refl; wnd = refl; phase = refl }

told-then : (x y z : ClientBlock) → IsTold x y → IsTold y z → IsTold x z
told-then x y z h k = record { ahead = ahead-then x.send y.send z.send h.ahead k.ahead; una = k.una ∙ h.una; finished = k.finished ∙ h.finished; iss = k.iss ∙ h.iss; accepted = k.accepted ∙ h.accepted; eof = k.eof ∙ h.eof; wnd = k.wnd ∙ h.wnd; phase = k.phase ∙ h.phase }

kept-iss : (n : ℕ) → KeptBySending (λ (u : Sending). u.iss ≡ n)
kept-iss n = record {
  acks = λ t ack seq wnd h. (ack-side t ack seq wnd).first ∙ h;
  nexts = λ t h. (next-side t).first ∙ h;
  resends = λ t h. (resend-side t).first ∙ h;
  closes = λ t h. h;
  learns = λ t irs mss h. h;
}

-- a client with another sending half, in which no more than the next number differs
sent-told : (x y : ClientBlock) (t : Sending) → t ≡ record x.send { nxt = t.nxt } → IsAhead x.send t → y ≡ record x { send = t; owed = y.owed; last_window = y.last_window } → IsTold x y
sent-told x y t m ahead is = subst (IsTold x) (sym is) (record {
  ahead = ahead;
  una = ap (λ (s : Sending). s.una) m;
  finished = ap (λ (s : Sending). s.finished) m;
  iss = ap (λ (s : Sending). s.iss) m;
  accepted = refl;
  eof = refl;
  wnd = refl;
  phase = refl;
})

emit-told : (x : ClientBlock) → IsTold x (client_after_emit x)
emit-told x =
    let next : ClientBlock = record x { send = after_next x.send } in
    client-emit-keeps (IsTold x) x (told-self x) (sent-told x (client_told x) x.send refl (ahead-self x.send) refl)
    (sent-told x (client_told next) (after_next x.send) (next-moves x.send) ((kept-ahead x.send).nexts x.send (ahead-self x.send)) refl)

pub speaks-told : (x : ClientBlock) → IsTold x (client_speaks x).1
speaks-told x = client_keeps (λ y ss z. IsTold y z) (record { rests = told-self; says = λ y r ss z e h. told-then y (client_after_emit y) z (emit-told y) h }) x

pub timer-told : (x : ClientBlock) → IsTold x (client_after_timer x)
timer-told x =
    let next : ClientBlock = record x { send = after_resend x.send } in
    client-timer-keeps (IsTold x) x (told-self x) (sent-told x (client_told next) (after_resend x.send) (resend-moves x.send) ((kept-ahead x.send).resends x.send (ahead-self x.send)) refl)

-- ---- the whole turn

-- Of a client behind a turn: nothing that was acknowledged or taken comes back; one that is not open is as it was, but for what it sent.
pub record Turned (x y : ClientBlock) : Type 0 where
  pub ahead : IsAhead x.send y.send
  pub iss : y.send.iss ≡ x.send.iss
  pub takes : Takes x y
  pub still : (x.phase ≡ Open → ⊥) → (y.send.una ≡ x.send.una) × (y.send.finished ≡ x.send.finished) × (y.accepted ≡ x.accepted) × (y.eof ≡ x.eof)

pub heard-turned : (x : ClientBlock) (s : Said) → Turned x (client_speaks (client_arrived x s).1).1
heard-turned x s =
    let y = (client_arrived x s).1 in
    let z = (client_speaks y).1 in
    let a = arrived-takes x s in
    let t = speaks-told y in
    let up = client-arrived (IsAhead x.send) (kept-ahead x.send) x s (ahead-self x.send) in
    let iss = client-arrived (λ (u : Sending). u.iss ≡ x.send.iss) (kept-iss x.send.iss) x s refl in
    record {
      ahead = ahead-then x.send y.send z.send up t.ahead;
      iss = t.iss ∙ iss;
      takes = takes-then x y z a.0 (record { accepted = let e : z.accepted ≡ y.accepted = t.accepted in omega arith; eof = λ e. t.eof ∙ e; wnd = t.wnd; phase = inl t.phase });
      still = λ shut. let same = a.1 shut in (t.una ∙ ap (λ (u : ClientBlock). u.send.una) same, t.finished ∙ ap (λ (u : ClientBlock). u.send.finished) same, t.accepted ∙ ap (λ (u : ClientBlock). u.accepted) same, t.eof ∙ ap (λ (u : ClientBlock). u.eof) same);
    }

pub timer-turned : (x : ClientBlock) → Turned x (client_speaks (client_after_timer x)).1
timer-turned x =
    let t = told-then x (client_after_timer x) (client_speaks (client_after_timer x)).1 (timer-told x) (speaks-told (client_after_timer x)) in
    let z = (client_speaks (client_after_timer x)).1 in
    record {
      ahead = t.ahead;
      iss = t.iss;
      takes = record { accepted = let e : z.accepted ≡ x.accepted = t.accepted in omega arith; eof = λ e. t.eof ∙ e; wnd = t.wnd; phase = inl t.phase };
      still = λ shut. (t.una, t.finished, t.accepted, t.eof);
    }

-- ---- what is left to do

ends-up : (a b : Bool) → (a ≡ true → b ≡ true) → cond a 1 0 ≤ cond b 1 0
ends-up true true on = omega arith
ends-up true false on = absurd (let bad : false ≡ true = on refl in cc)
ends-up false true on = omega arith
ends-up false false on = omega arith

pub taken-up : (x y : ClientBlock) → x.send.una ≤ y.send.una → x.accepted ≤ y.accepted → (x.eof ≡ true → y.eof ≡ true) → symbols_taken x ≤ symbols_taken y
taken-up x y una accepted eof = go (x.send.una == 0) (y.send.una == 0) (zero-too x.send.una y.send.una una) (ends-up x.eof y.eof eof) where
  zero-too : (a b : ℕ) → a ≤ b → (b == 0) ≡ true → (a == 0) ≡ true
  zero-too a b l e = grind (arith, nat_tests, l, e)

  go : (a b : Bool) → (b ≡ true → a ≡ true) → cond x.eof 1 0 ≤ cond y.eof 1 0 → cond a 0 (1 + x.accepted + cond x.eof 1 0) ≤ cond b 0 (1 + y.accepted + cond y.eof 1 0)
  go true true on e = omega arith
  go true false on e = omega arith
  go false true on e = absurd (let bad : false ≡ true = on refl in cc)
  go false false on e = omega (arith, e, accepted)

module _ (k : Whole) (K : ℕ) (files : FilesAt) (p : Part) (st : Station) (y : ClientBlock) (turned : Turned st.client y)
    (within : y.send.una ≤ k.written + 2) (taken_in : symbols_taken y ≤ k.answers + 2) where
  abbrev x : ClientBlock
  x = st.client

  abbrev p' : Part
  p' = with_station p (record { client = y; iss = st.iss })

  more : symbols_taken x ≤ symbols_taken y
  more = taken-up x y turned.ahead.una turned.takes.accepted turned.takes.eof

  shut : one_if_not y.send.finished ≤ one_if_not x.send.finished
  shut = not-less x.send.finished y.send.finished turned.ahead.shut

  spoken-less : (q r : Phase) → OnPhase q r → spoken_left k y r ≤ spoken_left k x q
  spoken-less Open Open on = let u : x.send.una ≤ y.send.una = turned.ahead.una in let s = shut in omega (arith, u, s)
  spoken-less Open Aborted (inl e) = absurd (let bad : Aborted ≡ Open = e in cc)
  spoken-less Open Aborted (inr e) = absurd (let bad : Aborted ≡ Reset = e.1 in cc)
  spoken-less Open Reset on = omega arith
  spoken-less Aborted Open (inl e) = absurd (let bad : Open ≡ Aborted = e in cc)
  spoken-less Aborted Open (inr e) = absurd (let bad : Aborted ≡ Open = e.0 in cc)
  spoken-less Aborted Aborted on = omega arith
  spoken-less Aborted Reset on = omega arith
  spoken-less Reset Open (inl e) = absurd (let bad : Open ≡ Reset = e in cc)
  spoken-less Reset Open (inr e) = absurd (let bad : Reset ≡ Open = e.0 in cc)
  spoken-less Reset Aborted on = omega arith
  spoken-less Reset Reset on = omega arith

  ended-less : (q r : Phase) → OnPhase q r → ended_left k y r ≤ ended_left k x q
  ended-less q Reset on = omega arith
  ended-less Open Open on = let m = more in omega (arith, m)
  ended-less Open Aborted on = let m = more in omega (arith, m)
  ended-less Aborted Open on = let m = more in omega (arith, m)
  ended-less Aborted Aborted on = let m = more in omega (arith, m)
  ended-less Reset Open (inl e) = absurd (let bad : Open ≡ Reset = e in cc)
  ended-less Reset Open (inr e) = absurd (let bad : Reset ≡ Open = e.0 in cc)
  ended-less Reset Aborted (inl e) = absurd (let bad : Aborted ≡ Reset = e in cc)
  ended-less Reset Aborted (inr e) = absurd (let bad : Reset ≡ Open = e.0 in cc)

  heard-less : (z : SeatNow) → heard_left k y z ≤ heard_left k x z
  heard-less Unborn = let m = more in omega (arith, m)
  heard-less (Held b count) = omega arith
  heard-less (Waiting b count) = omega arith
  heard-less (Offered n e count) = let m = more in omega (arith, m)
  heard-less (Refused n e count) = let m = more in omega (arith, m)
  heard-less (Returned told n e served) = let m = more in omega (arith, m)
  heard-less (Here told n e b s) = omega arith
  heard-less (Gone told n e) = ended-less x.phase y.phase turned.takes.phase
  heard-less (Over last) = ended-less x.phase y.phase turned.takes.phase

  seat-same : (z : SeatNow) → seat_left k y z ≡ seat_left k x z
  seat-same (Held b count) = ap (λ w. 1 + hand_off k.requests + one_if_not (b.send.wnd == w)) turned.takes.wnd
  seat-same (Here told n e b s) = ap (λ w. 3 + one_if_not told + one_if_not (b.send.wnd == w)) turned.takes.wnd
  seat-same _ = refl

  abbrev left_by : ClientBlock → SeatNow → ℕ
  left_by u z = client_left k u + heard_left k u z + (seat_left k u z + nodes_left k p.nodes K) + requests_left k z

  sits : seat_of p' ≡ seat_of p
  unfolding seat_of
  sits = refl

  now : left_with k K p' (record { client = y; iss = st.iss }) ≡ left_by y (seat_of p)
  now = ap (left_by y) sits

  pub client-less : left_with k K p' (record { client = y; iss = st.iss }) ≤ left_with k K p st
  client-less =
      let n = now in let a = spoken-less x.phase y.phase turned.takes.phase in let b = heard-less (seat_of p) in let c = seat-same (seat_of p) in omega (arith, n, a, b, c)

  -- ---- where no unit goes

  -- one that is open stays so
  phase-same : (q r : Phase) → OnPhase q r → spoken_left k x q ≤ spoken_left k y r → r ≡ q
  phase-same q r (inl e) up = e
  phase-same q r (inr e) up = absurd (let a : spoken_left k x q ≡ spoken_left k x Open = ap (spoken_left k x) e.0 in let b : spoken_left k y r ≡ spoken_left k y Reset = ap (spoken_left k y) e.1 in omega (arith, up, a, b))

  numbers : (q : Phase) → x.phase ≡ q → spoken_left k x q ≤ spoken_left k y q → (y.send.una ≡ x.send.una) × (y.send.finished ≡ x.send.finished)
  numbers Open is up =
      let u : x.send.una ≤ y.send.una = turned.ahead.una in
      let s = shut in
      let f : one_if_not x.send.finished ≤ one_if_not y.send.finished = omega (arith, up, u, s) in
      (omega (arith, up, u, s, within), not-same x.send.finished y.send.finished turned.ahead.shut f)
  numbers Aborted is up = let h = turned.still (λ o. let bad : Aborted ≡ Open = sym is ∙ o in cc) in (h.0, h.1)
  numbers Reset is up = let h = turned.still (λ o. let bad : Reset ≡ Open = sym is ∙ o in cc) in (h.0, h.1)

  taken-is : (y.send.una ≡ x.send.una) → (y.accepted ≡ x.accepted) → (y.eof ≡ x.eof) → symbols_taken y ≡ symbols_taken x
  taken-is u a e = λ i. cond (u i == 0) 0 (1 + a i + cond (e i) 1 0)

  taken-same : (q : Phase) → x.phase ≡ q → ended_left k x q ≤ ended_left k y q → symbols_taken y ≡ symbols_taken x
  taken-same Open is up = let m = more in omega (arith, up, m, taken_in)
  taken-same Aborted is up = let h = turned.still (λ o. let bad : Aborted ≡ Open = sym is ∙ o in cc) in taken-is h.0 h.2 h.3
  taken-same Reset is up = let h = turned.still (λ o. let bad : Reset ≡ Open = sym is ∙ o in cc) in taken-is h.0 h.2 h.3

  post-same : (z : SeatNow) → y.phase ≡ x.phase → heard_left k x z ≤ heard_left k y z → post_of files y z ≡ post_of files x z
  post-same Unborn ph up = refl
  post-same (Held b count) ph up = ap (λ (q : Phase). AtFront (record { una = b.send.una; symbols = symbols b.send; awaited = number_awaited b q })) ph
  post-same (Waiting b count) ph up = refl
  post-same (Offered n e count) ph up = refl
  post-same (Refused n e count) ph up = refl
  post-same (Returned told n e served) ph up = refl
  post-same (Here told n e b s) ph up = ap (λ (q : Phase). AtNode told n e (record { una = b.send.una; symbols = symbols b.send; awaited = number_awaited b q }) (awaits_of files s)) ph
  post-same (Gone told n e) ph up = refl
  post-same (Over last) ph up = ap (Ended last) (taken-same x.phase refl (let same : ended_left k y y.phase ≡ ended_left k y x.phase = ap (ended_left k y) ph in omega (arith, up, same)))

  pub client-steady : left_with k K p st ≤ left_with k K p' (record { client = y; iss = st.iss }) → spot_of files p' (record { client = y; iss = st.iss }) ≡ spot_of files p st
  unfolding spot_of
  client-steady up =
      let n = now in let a = spoken-less x.phase y.phase turned.takes.phase in let b = heard-less (seat_of p) in let c = seat-same (seat_of p) in
      let s1 : spoken_left k x x.phase ≤ spoken_left k y y.phase = omega (arith, up, n, a, b, c) in
      let h1 : heard_left k x (seat_of p) ≤ heard_left k y (seat_of p) = omega (arith, up, n, a, b, c) in
      let ph = phase-same x.phase y.phase turned.takes.phase s1 in
      let ns = numbers x.phase refl (let same : spoken_left k y y.phase ≡ spoken_left k y x.phase = ap (spoken_left k y) ph in omega (arith, s1, same)) in
      let post : post_of files y (seat_of p') ≡ post_of files x (seat_of p) = ap (post_of files y) sits ∙ post-same (seat_of p) ph h1 in
      λ i. record { phase = ph i; isn = turned.iss i; iss = st.iss; una = ns.0 i; last = 1 + turned.ahead.total i + one_if (ns.1 i); post = post i; telling = λ z. tells_over (p.nodes z) }
