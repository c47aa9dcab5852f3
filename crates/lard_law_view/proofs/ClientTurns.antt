-- What a client says in its turn, and that it stays the client of its connection.
use Rattle.std.proofs.Common.{◌≡◌, ℕ, Bool, true, false, not, ◌&&◌, ◌||◌, List, Option, Some, None, refl, sym, ap, ◌∙◌}
use Rattle.std.proofs.lemmas.Bool.{cond_both, and_left, and_right}
use Rattle.lard_law_view.specs.Prelude.{ClientBlock, Front, Heard, Place, Ready, Said, aborted, accepting, after_next, after_resend, client_after_emit, client_after_timer, client_arrived, client_ends, client_part_of, client_speaks, client_taken, client_told, client_written, established, fresh_len, heard_nothing, held_on, introduced, is_client_open, is_established, is_open_in, is_writing, peer_mss, reply_to, reset_by_peer, send_closed, shut_down, station_ready_of}
use Rattle.lard_client.specs.declared.phase.Phase.TheVariants.{Aborted}
use Rattle.lard_law_view.proofs.EndpointSends.{AllTo}
use Rattle.lard_rules.proofs.Loops.{KeptByTelling, client_keeps}
use Rattle.lard_rules.proofs.Sides.{IsSameSide, ack-side, next-side, resend-side, same_side}
use Rattle.lard_rules.proofs.Hearing.{acked, arrived-keeps, client-emit-keeps, client-timer-keeps}

-- a client goes on as the client of its connection, and writes no more than before
pub record GoesOn (x y : ClientBlock) : Type 0 where
  pub number : y.c ≡ x.c
  pub first : y.send.iss ≡ x.send.iss
  pub writes : is_writing y ≡ true → is_writing x ≡ true

pub as_before : (x : ClientBlock) → GoesOn x x
as_before x = record { number = refl; first = refl; writes = λ w. w }

pub then_on : (x y z : ClientBlock) → GoesOn x y → GoesOn y z → GoesOn x z
then_on x y z h k = record { number = k.number ∙ h.number; first = k.first ∙ h.first; writes = λ w. h.writes (k.writes w) }

-- one of the same phase, with the same side
side-on : (x y : ClientBlock) → y.c ≡ x.c → y.phase ≡ x.phase → IsSameSide x.send y.send → GoesOn x y
side-on x y n p s = record {
  number = n;
  first = s.first;
  writes = λ w. ap (λ f. is_open_in x.phase && not f) (sym s.finished) ∙ ap (λ q. is_open_in q && not y.send.finished) (sym p) ∙ w;
}

-- ---- what it sends

emit-on : (x : ClientBlock) → GoesOn x (client_after_emit x)
emit-on x =
    let next : ClientBlock = record x { send = after_next x.send } in
    client-emit-keeps (GoesOn x) x (as_before x) (side-on x (client_told x) refl refl (same_side x.send)) (side-on x (client_told next) refl refl (next-side x.send))

pub timer-on : (x : ClientBlock) → GoesOn x (client_after_timer x)
timer-on x =
    let next : ClientBlock = record x { send = after_resend x.send } in
    client-timer-keeps (GoesOn x) x (as_before x) (side-on x (client_told next) refl refl (resend-side x.send))

pub record SpeaksOn (x : ClientBlock) (given : List (Place × List ℕ) × ClientBlock) : Type 0 where
  pub to : AllTo Front given.0
  pub on : GoesOn x given.1

telling-on : KeptByTelling (λ x ss y. SpeaksOn x (ss, y))
telling-on = record { rests = λ x. record { to = tt; on = as_before x }; says = λ x r ss y e later. record { to = (refl, later.to); on = then_on x (client_after_emit x) y (emit-on x) later.on } }

pub speaks-on : (x : ClientBlock) → SpeaksOn x (client_speaks x)
speaks-on x = client_keeps (λ x ss y. SpeaksOn x (ss, y)) telling-on x

pub ready-to : (x : ClientBlock) (o : Option Ready) → AllTo Front (station_ready_of x o)
ready-to x None = tt
ready-to x (Some r) = (refl, tt)

-- ---- what it hears

-- it goes on, and writes no longer once it took the end of its stream
pub record Hears (x : ClientBlock) (r : Heard × ClientBlock) : Type 0 where
  pub on : GoesOn x r.1
  pub ended : r.0.eof ≡ true → is_writing r.1 ≡ false

quietly : (x y : ClientBlock) (h : Heard) → h.eof ≡ false → GoesOn x y → Hears x (h, y)
quietly x y h e on = record { on = on; ended = λ t. let no : true ≡ false = sym t ∙ e in absurd (cc) }

hears-behind : (x y : ClientBlock) (r : Heard × ClientBlock) → GoesOn x y → Hears y r → Hears x r
hears-behind x y r on h = record { on = then_on x y r.1 on h.on; ended = h.ended }

reset-on : (x : ClientBlock) → GoesOn x (reset_by_peer x)
reset-on x = record { number = refl; first = refl; writes = λ (w : false ≡ true). absurd (cc) }

closed-on : (x : ClientBlock) (n : ℕ) (fin : Bool) → Hears x (record { from = 0; len = n; eof = fin; reply = None }, accepting x n fin)
closed-on x n true = record { on = record { number = refl; first = refl; writes = λ w. let no = and_right (is_client_open x) false refl in absurd (cc) }; ended = λ t. and_right (is_client_open x) false refl }
closed-on x n false = record { on = record { number = refl; first = refl; writes = λ w. w }; ended = λ (t : false ≡ true). absurd (cc) }

pub arrived-hears : (x : ClientBlock) (s : Said) → Hears x (client_arrived x s)
arrived-hears x s = arrived-keeps x s (Hears x) (record {
  refuses = λ e. quietly x x (reply_to x s) refl (as_before x);
  ignores = λ e. quietly x x heard_nothing refl (as_before x);
  learns = λ e t plain.
      let side = ack-side (introduced x.send s.seq (peer_mss s.mss)) s.ack s.seq s.wnd in
      quietly x (established x s) heard_nothing refl (side-on x (established x s) refl refl (record { first = side.first; total = side.total; finished = side.finished }));
  takes = λ e. record {
    rests = λ owed. quietly x (record x { owed = owed }) heard_nothing refl (side-on x (record x { owed = owed }) refl refl (same_side x.send));
    resets = λ t. quietly x (reset_by_peer x) heard_nothing refl (reset-on x);
    acks = λ owed c. quietly x (acked x s owed) heard_nothing refl (acked-on owed);
    accepts = λ c in_order going.
        let y : ClientBlock = acked x s true in
        let h = closed-on y (fresh_len y s) (client_ends y s) in
        hears-behind x y (client_part_of y s, accepting y (fresh_len y s) (client_ends y s)) (acked-on true) (record { on = h.on; ended = h.ended });
  };
}) where
  acked-on : (owed : Bool) → GoesOn x (acked x s owed)
  acked-on owed = side-on x (acked x s owed) refl refl (ack-side x.send s.ack s.seq s.wnd)

-- ---- what its owner has it do

pub shut-on : (x : ClientBlock) → GoesOn x (shut_down x) × (is_writing (shut_down x) ≡ false)
shut-on x = cond_both (is_client_open x) (record x { send = send_closed x.send }) x (λ y. GoesOn x y × (is_writing y ≡ false))
    (λ t. (record { number = refl; first = refl; writes = λ w. let no = and_right (is_client_open x) false refl in absurd (cc) }, and_right (is_client_open x) false refl))
    (λ t. (as_before x, and_left (is_client_open x) (not x.send.finished) t))

pub aborted-on : (x : ClientBlock) → GoesOn x (aborted x) × (is_writing (aborted x) ≡ false)
aborted-on x = cond_both (is_client_open x) (record x { phase = Aborted }) x (λ y. GoesOn x y × (is_writing y ≡ false))
    (λ t. (record { number = refl; first = refl; writes = λ (w : false ≡ true). absurd (cc) }, refl))
    (λ t. (as_before x, and_left (is_client_open x) (not x.send.finished) t))

pub held-on : (x : ClientBlock) → GoesOn x (held_on x)
held-on x = cond_both (is_client_open x) (record x { holding = true }) x (GoesOn x) (λ t. side-on x (record x { holding = true }) refl refl (same_side x.send)) (λ t. as_before x)

pub taken-on : (x : ClientBlock) → GoesOn x (client_taken x)
taken-on x = cond_both (is_client_open x) (record x { holding = false; held = 0; owed = x.owed || is_established x }) x (GoesOn x)
    (λ t. side-on x (record x { holding = false; held = 0; owed = x.owed || is_established x }) refl refl (same_side x.send)) (λ t. as_before x)

pub written-on : (x : ClientBlock) (bytes : List ℕ) → GoesOn x (client_written x bytes)
written-on x bytes = cond_both (is_writing x) (record x { send = _ }) x (GoesOn x) (λ t. record { number = refl; first = refl; writes = λ w. w }) (λ t. as_before x)
