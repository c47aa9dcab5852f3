-- What the move of each rule owes to the law of RST, and what a connection keeps of it.
use Rattle.std.proofs.Common.{◌≡◌, ℕ, Bool, List, [], ◌∷◌, ◌++◌, map, Some, sym, ap, ◌∙◌, subst}
use Rattle.lard_law_view.specs.Prelude.{AreSent, Body, Client, ClientBlock, Conn, EachRow, Front, Kept, Move, Node, Place, Reason, Rec, Seen, Station, Tale, Turn, TurnSaid, body_bytes, by_client, ended_body_at, grown, kind_of, letter, letters_of, number_at, reason_at, reason_byte, seen_in, sent_of, stands, tale_at, timer_rows, told_on, with_station}
use Rattle.lard_history.proofs.Each.{Each, Each-append}
use Rattle.lard_law_connections.proofs.PlacesHeads.{kinds-same, spelled-body}
use Rattle.lard_law_connections.specs.ResetsLaws.{BodyEndsBehind, EndsAfter, EndsBehindResets, SaysEndsBehind, LetterEndsBehind, RowEndsBehind}
use Rattle.lard_law_connections.proofs.ResetsRows.{AllKeepRst, IsUnsentSeen, MayStand, Since, client-fair, fair-letters, letters-more, machine-rst, resets-more, resets-stay, resets_on, row-more, seen-stays, sent-tell, told-reset, told-stays, unsent-seen, unsent-tell}
use Rattle.lard_law_view.specs.View.{sending}
use Rattle.lard_law_view.proofs.Fine.{IsItsOwn}
use Rattle.lard_law_view.proofs.RowLists.{MayBeSeen}
use Rattle.lard_law_view.proofs.Rows.{grown-lawful, grown-tale, move-lawful, tale_before, tale_said}
use Rattle.lard_history.proofs.Seeing.{has-each}
use Rattle.lard_message.specs.declared.kind.Kind.TheVariants as kind
use Rattle.lard_message.specs.declared.message.Body.TheVariants as body
use Rattle.lard_message.proofs.Fields.{bind_then, reason_again, some_same}
use Rattle.lard_rules.specs.Node.{message}
use Rattle.std.specs.Int.{w32, to_be_bytes}
use Rattle.lard_law_view.proofs.OfKinds.{gaves-unsent, notes-unsent, timers-unsent}

-- Where the stream limit ended a connection it was reset, and each of its records may stand.
pub record IsBehindResets (x : Conn) : Type 0 where
  pub ends : EndsBehindResets x
  pub lawful : EachRow (MayBeSeen MayStand x.c) [] x.seen

-- ---- a move

module _ (x : Conn) (v : Move) where
  -- whether the connection was reset before the move, and behind its notes
  abbrev pub reset_before : Bool
  reset_before = (tale_at x).was_reset

  abbrev pub reset_then : Bool
  reset_then = resets_on x.c (tale_at x).was_reset v.said.notes

  -- All that is sent may be, behind the notes, and the front end keeps an end for the limit only behind a reset.
  pub record MoveResets : Type 0 where
    pub heads : Each IsUnsentSeen v.heads
    pub segments : AllKeepRst reset_then v.place v.said.segments
    pub messages : AllKeepRst reset_then v.place v.said.messages
    pub front : RowEndsBehind reset_then v.part.front.row

  module _ (own : IsItsOwn x v) (m : MoveResets) (h : IsBehindResets x) where
    abbrev t0 : Tale
    t0 = tale_before x v

    abbrev noted : Tale
    noted = told_on x.c t0 v.said.notes

    abbrev sent : Tale
    sent = told_on x.c noted (map (sending v.place) v.said.segments)

    abbrev said : Tale
    said = tale_said x v t0

    since-noted : Since reset_then noted.was_reset
    since-noted e = told-reset x.c v.said.notes t0 ∙ resets-more x.c v.said.notes reset_before t0.was_reset (seen-stays x.c v.heads (tale_at x)) e

    since-said : Since reset_then said.was_reset
    since-said e = told-stays x.c v.said.gave sent (told-stays x.c (map (sending v.place) v.said.segments) noted (since-noted e))

    since-grown : Since reset_then (tale_at (grown x v)).was_reset
    since-grown e = ap (λ (t : Tale). t.was_reset) (grown-tale x v own.messages) ∙ since-said e

    since-before : Since reset_before (tale_at (grown x v)).was_reset
    since-before e = since-grown (resets-stay x.c v.said.notes reset_before e)

    abbrev messages_told : List Rec
    messages_told = map (sending v.place) v.said.messages

    now-lawful : EachRow (MayBeSeen MayStand x.c) x.seen (seen_in x v)
    now-lawful = move-lawful MayStand x v (unsent-seen x.c x.seen v.heads m.heads)
        (unsent-tell x.c v.said.notes t0 (notes-unsent v.place x.c v.said.notes own.notes))
        (sent-tell x.c reset_then v.place v.said.segments noted since-noted m.segments)
        (unsent-tell x.c v.said.gave sent (gaves-unsent v.place x.c v.said.gave own.gave))
        (sent-tell x.c reset_then v.place v.said.messages said since-said m.messages)
        (unsent-tell x.c (timer_rows v.place x.c x.part v.part) (told_on x.c said messages_told) (timers-unsent v.place x.c x.part v.part))

    pub move-behind : IsBehindResets (grown x v)
    move-behind =
        let now : Bool = (tale_at (grown x v)).was_reset in
        record {
          ends = record {
            front = row-more reset_then now v.part.front.row since-grown m.front;
            letters = Each-append (LetterEndsBehind now) x.letters (letters_of v) (letters-more reset_before now x.letters since-before h.ends.letters)
                (letters-more reset_then now (letters_of v) since-grown
                (Each-append (LetterEndsBehind reset_then) (map (letter v.place) v.said.segments) (map (letter v.place) v.said.messages)
                (fair-letters reset_then v.place v.said.segments m.segments) (fair-letters reset_then v.place v.said.messages m.messages)));
          };
          lawful = grown-lawful MayStand x v h.lawful now-lawful;
        }

-- ---- a client

-- a client's turn tells nothing of it
pub client-resets : (x : Conn) (heads : List Seen) (s : Station) (given : ClientBlock × Turn) → IsBehindResets x → Each IsUnsentSeen heads
    → MoveResets x (record { place = Client x.c; heads = heads; said = by_client given.1; part = with_station x.part s })
client-resets x heads s given h seen =
    let was : Bool = (tale_at x).was_reset in
    let then : Bool = resets_on x.c was given.1.notes in
    record {
      heads = seen;
      segments = client-fair then x.c given.1.segments;
      messages = tt;
      front = row-more was then x.part.front.row (resets-stay x.c given.1.notes was) h.ends.front;
    }

-- nothing that is kept changes, and no segment is sent
pub stands-resets : (x : Conn) (place : Place) (heads : List Seen) (s : TurnSaid) → IsBehindResets x → Each IsUnsentSeen heads → s.segments ≡ [] → AllKeepRst (resets_on x.c (tale_at x).was_reset s.notes) place s.messages
    → MoveResets x (stands x place heads s)
stands-resets x place heads s h seen none fair =
    let was : Bool = (tale_at x).was_reset in
    let then : Bool = resets_on x.c was s.notes in
    record {
      heads = seen;
      segments = subst (AllKeepRst then place) (sym none) tt;
      messages = fair;
      front = row-more was then x.part.front.row (resets-stay x.c s.notes was) h.ends.front;
    }

-- ---- messages

-- a message of another kind says nothing of an end
other-body : (was : Bool) (m b : Body) → (kind_of b ≡ kind.Ended → ⊥) → kind_of b ≡ kind_of m → BodyEndsBehind was m
other-body was (body.Ended why snd rcv count) b other same = absurd (other same)
other-body was _ b other same = tt

pub other-ends : (was : Bool) (n c e : ℕ) (b : Body) → (kind_of b ≡ kind.Ended → ⊥) → SaysEndsBehind was (Node n) Front (message c e b)
other-ends was n c e b other m read = other-body was m.body b other (kinds-same (record { c = c; epoch = record { 0 = e }; body = b }) m read)

-- an Ended is read with the reason with which it was spelled
ended-reason : (was : Bool) (why : Reason) (snd rcv count : ℕ) (b : Body) (rest : List ℕ) → EndsAfter was why → ended_body_at (body_bytes (body.Ended why snd rcv count)) ≡ Some (b, rest) → BodyEndsBehind was b
unfolding ended_body_at
ended-reason was why snd rcv count b rest h e =
    let r1 : List ℕ = to_be_bytes w32 snd ++ to_be_bytes w32 rcv ++ to_be_bytes w32 count in
    let y : Body × List ℕ = (b, rest) in
    bind_then (reason_at (reason_byte why ∷ r1)) _ y e (λ a e1 n1.
    bind_then (number_at w32 a.1) _ y n1 (λ t e2 n2.
    bind_then (number_at w32 t.1) _ y n2 (λ u e3 n3.
    bind_then (number_at w32 u.1) _ y n3 (λ v e4 n4.
    let first : (why, r1) ≡ a = some_same (why, r1) a (sym (reason_again why r1) ∙ e1) in
    let whole : (body.Ended a.0 t.0 u.0 v.0, v.1) ≡ y = some_same (body.Ended a.0 t.0 u.0 v.0, v.1) y n4 in
    subst (λ (p : Body × List ℕ). BodyEndsBehind was p.0) whole (subst (λ (p : Reason × List ℕ). EndsAfter was p.0) first h)))))

pub ended-ends : (was : Bool) (n c e : ℕ) (why : Reason) (snd rcv count : ℕ) → EndsAfter was why → SaysEndsBehind was (Node n) Front (message c e (body.Ended why snd rcv count))
ended-ends was n c e why snd rcv count h m read =
    let given = spelled-body (record { c = c; epoch = record { 0 = e }; body = body.Ended why snd rcv count }) m read in
    ended-reason was why snd rcv count m.body given.0 h given.1

-- what is kept was sent
pub kept-fair : (x : Conn) (place : Place) (ks : List Kept) → EndsBehindResets x → AreSent x place ks → AllKeepRst (tale_at x).was_reset place (map sent_of ks)
kept-fair x place [] h held = tt
kept-fair x place (k ∷ ks) h held = (
  (
    machine-rst (tale_at x).was_reset place k.to k.bytes held.0.0,
    has-each (letter place (sent_of k)) (LetterEndsBehind (tale_at x).was_reset) x.letters held.0.1 h.letters,
  ),
  kept-fair x place ks h held.1,
)
