-- A move of a place that serves leaves its connection in agreement, where the place's turn does.
use Rattle.std.proofs.Common.{◌≡◌, ◌⊎◌, ◌||◌, ℕ, Bool, true, false, List, [], ◌∷◌, map, Option, Some, arith, refl, ap, ◌∙◌, sym, subst, inl, inr}
use Rattle.std.specs.List.{list_any}
use Rattle.lard_law_view.specs.Prelude.{AreReplies, Conn, EachRow, FilesAt, Front, GoesOn, Move, Node, Part, Place, SaysAnswers, Station, Stream, Tale, Talk, Verdict, bytes_served_in, grown, is_reset_record, letter, letters_of, seen_in, served_in, tale_at, timer_rows, told_on}
use Rattle.lard_law_connections.specs.BytesAgreement.{ConnAgrees, IsFair, IsOpen, IsTruthful, SeatAgrees, StayComesOn, TaleAgreesWithTalk}
use Rattle.lard_law_connections.proofs.BytesLaw.{Helps, IsSeenTrue, IsTrueMove, OwnerServes}
use Rattle.lard_law_connections.specs.BytesRecords.{IsOwnedTrueAfter}
use Rattle.lard_law_connections.specs.BytesTurning.{CountsResponses, IsNoteOf}
use Rattle.lard_law_connections.proofs.BytesFair.{GoesOnFairly, all-on}
use Rattle.lard_law_connections.proofs.BytesNext.{mute-answers}
use Rattle.lard_law_connections.proofs.BytesTelling.{gave-true, heads-true, messages-true, notes-true, replies-moment, replies-true, timers-true}
use Rattle.lard_law_connections.proofs.BytesTold.{bytes_of, gave-fin, heads-fin, move-bytes, place-notes, served-tale, tale-agrees}
use Rattle.lard_law_connections.specs.Places.{HasEnded, IsOffered, IsOver, Owning}
use Rattle.lard_law_view.specs.View.{sending}
use Rattle.lard_law_view.proofs.Rows.{grown-tale, move-lawful, tale_before, tale_said}
use Rattle.lard_law_view.proofs.Timers.{timer_rows-are}
use Rattle.lard_history.proofs.Each.{Each, Each-append}
use Rattle.lard_law_view.proofs.Notes.{or-false}
use Rattle.lard_law_view.proofs.Segments.{Moment}
use Rattle.lard_law_view.proofs.Growth.{accepted-grown, front-take, goes_on-same}

-- ---- packets that go out

pub replies-fair : (k : Talk) (c : ℕ) (p : Part) (place : Place) → (place ≡ Front) ⊎ ((n : ℕ) × (place ≡ Node n)) → (ss : List (Place × List ℕ)) → AreReplies c k.w k.out k.was_reset ss → Each (IsFair k c p) (map (letter place) ss)
replies-fair k c p place is [] h = tt
replies-fair k c p place is (s ∷ ss) h = (one place is, replies-fair k c p place is ss h.2) where
  one : (place : Place) → (place ≡ Front) ⊎ ((n : ℕ) × (place ≡ Node n)) → IsFair k c p (letter place s)
  one place (inl e) = subst (λ (from : Place). IsFair k c p (letter from s)) (sym e) (subst (λ (to : Place). IsFair k c p (record { from = Front; to = to; bytes = s.1 })) (sym h.0) h.1)
  one place (inr e) = subst (λ (from : Place). IsFair k c p (letter from s)) (sym e.1) (subst (λ (to : Place). IsFair k c p (record { from = Node e.0; to = to; bytes = s.1 })) (sym h.0) h.1)

-- ---- a move

module _ (files : FilesAt) (x : Conn) (s : Station) (there : x.part.station ≡ Some s) (k : Talk) (pend : List Verdict) (h : IsOpen files x k pend s) (v : Move) where
  abbrev pub talk_after : Stream → List Verdict → Talk
  talk_after out vs = record { w = k.w; out = out; vs = vs; was_reset = k.was_reset || list_any is_reset_record v.said.notes }

  -- what the place's turn makes of the streams, of what is kept, and of what packets say
  pub record TurnGoes : Type 0 where
    pub out_after : Stream
    pub vs_after : List Verdict
    pub pend_after : List Verdict
    pub longer : GoesOn k.out out_after
    pub says : SaysAnswers files k.w out_after vs_after
    pub seat : SeatAgrees k.w out_after vs_after pend_after (k.was_reset || list_any is_reset_record v.said.notes) x.c v.part v.part.front.row
    pub ways : (n : ℕ) → StayComesOn files (v.part.nodes n).stay
    pub noted : CountsResponses files x.c k.w k.out k.vs vs_after out_after.bytes v.said.notes
    pub sent : AreReplies x.c k.w out_after (k.was_reset || list_any is_reset_record v.said.notes) v.said.segments
    pub letters : Each (IsFair (talk_after out_after vs_after) x.c v.part) (letters_of v)

  pub record Frame : Type 0 where
    pub heads : bytes_of (tale_before x v) ≡ bytes_of (tale_at x)
    pub station : v.part.station ≡ x.part.station
    pub offers : (n e : ℕ) → IsOffered n e x.part.front.row → IsOffered n e v.part.front.row → v.part.front.kept ≡ x.part.front.kept
    pub ends : (n e : ℕ) → IsOver e (x.part.nodes n).row → ((v.part.nodes n).kept ≡ (x.part.nodes n).kept) ⊎ HasEnded e v.part.front.row

  reset-on : (r : Bool) → k.was_reset ≡ true → (k.was_reset || r) ≡ true
  reset-on r e = ap (λ b. b || r) e

  module _ (help : Helps x v) (frame : Frame) (t : TurnGoes) where
    abbrev after : Talk
    after = talk_after t.out_after t.vs_after

    abbrev n : ℕ
    n = s.client.accepted

    abbrev before : Tale
    before = tale_before x v

    abbrev noted : Tale
    noted = told_on x.c before v.said.notes

    abbrev sent : Tale
    sent = told_on x.c noted (map (sending v.place) v.said.segments)

    -- what is told before the notes, and behind them
    before-agrees : TaleAgreesWithTalk k n before
    before-agrees = tale-agrees k n (tale_at x) before frame.heads (λ e. h.tale.fin (sym (heads-fin x.c v.heads (tale_at x) help.heads) ∙ e)) h.tale

    still-ended : k.out.ended ≡ true → t.out_after.ended ≡ true
    still-ended e = ap (λ (y : Stream). y.ended) (t.longer.ended e) ∙ e

    noted-agrees : TaleAgreesWithTalk after n noted
    noted-agrees = served-tale k after n before noted v.said.notes before-agrees refl t.longer.first
        (front-take n k.out.bytes t.out_after.bytes t.longer.bytes h.client.accepts.within) still-ended t.noted.served t.noted.size refl (place-notes x.c before v.said.notes t.noted.each)

    abbrev At : Tale → Type 0
    At u = Moment k.w t.out_after t.vs_after after.was_reset u

    noted-moment : At noted
    noted-moment = record {
      numbers = noted-agrees.numbers;
      wrote = noted-agrees.wrote;
      served = noted-agrees.served;
      served_bytes = noted-agrees.served_bytes;
      was_reset = noted-agrees.was_reset;
      fin = noted-agrees.fin;
    }

    -- and behind all that was said
    sent-moment : At sent
    sent-moment = replies-moment files x.c k.w t.out_after t.vs_after after.was_reset v.place noted v.said.segments help.own.segments t.sent noted-moment

    end-fin : (tale_at (grown x v)).fin_sent ≡ true → t.out_after.ended ≡ true
    end-fin e = sent-moment.fin (sym (ap (λ (u : Tale). u.fin_sent) (grown-tale x v help.own.messages) ∙ gave-fin x.c x.c v.place v.said.gave sent help.own.gave) ∙ e)

    on : GoesOnFairly k after x.part v.part
    on = record {
      talk = record { w = goes_on-same k.w; out = t.longer; reset = reset-on (list_any is_reset_record v.said.notes) };
      grows = help.owes.grows;
      offers = frame.offers;
      ends = frame.ends;
    }

    truthful : IsTruthful files (grown x v)
    truthful = record {
      talk = after;
      pend = t.pend_after;
      agrees = subst (λ (o : Option Station). ConnAgrees files (grown x v) after t.pend_after o) (sym (frame.station ∙ there)) (record {
        client = record {
          numbered = h.client.numbered;
          sound = h.client.sound;
          wide = h.client.wide;
          speaks = h.client.speaks;
          w_is = h.client.w_is;
          accepts = accepted-grown k.out t.out_after s.client t.longer h.client.accepts;
        };
        begins = t.longer.first ∙ h.begins;
        says = t.says;
        seat = t.seat;
        ways = t.ways;
        fair = Each-append (IsFair after x.c v.part) x.letters (letters_of v) (all-on k after x.c x.part v.part on x.letters help.placed.letters h.fair) t.letters;
        tale = tale-agrees after n noted (tale_at (grown x v)) (move-bytes x v help.own.messages help.own.gave) end-fin noted-agrees;
      });
    }

    -- the same place owned it before the notes
    owned : OwnerServes x.c before.owner v.said.notes
    owned = subst (λ (o : Option Place). OwnerServes x.c o v.said.notes) (sym (ap (λ (w : Owning). w.owner) help.owes.same)) help.serves

    seen-true : EachRow (IsSeenTrue files x.c) x.seen (seen_in x v)
    seen-true = move-lawful (IsOwnedTrueAfter files x.c) x v (heads-true files x.c x.seen v.heads help.heads)
        (notes-true files x.c k.out before v.said.notes t.noted.each t.noted.unless_ended before-agrees.fin owned
        (t.noted.serve before (record { wrote = before-agrees.wrote; served = before-agrees.served; served_bytes = before-agrees.served_bytes })))
        (replies-true files x.c k.w t.out_after t.vs_after after.was_reset t.says v.place noted v.said.segments help.own.segments t.sent noted-moment)
        (gave-true files x.c v.place x.c sent v.said.gave help.own.gave)
        (messages-true files x.c v.place x.c (tale_said x v before) v.said.messages help.own.messages)
        (timers-true files x.c v.place x.c _ (timer_rows v.place x.c x.part v.part) (timer_rows-are v.place x.c x.part v.part))

  pub move-goes : Helps x v → Frame → TurnGoes → IsTrueMove files x v
  move-goes help frame t = (truthful help frame t, seen-true help frame t)

  -- nothing of bytes is done
  pub record Idle : Type 0 where
    pub each : Each (IsNoteOf x.c) v.said.notes
    pub served : served_in v.said.notes ≡ 0
    pub size : bytes_served_in v.said.notes ≡ 0
    pub reset : list_any is_reset_record v.said.notes ≡ false
    pub seat : SeatAgrees k.w k.out k.vs pend k.was_reset x.c v.part v.part.front.row
    pub ways : (n : ℕ) → StayComesOn files (v.part.nodes n).stay
    pub sent : AreReplies x.c k.w k.out k.was_reset v.said.segments
    pub letters : Each (IsFair k x.c v.part) (letters_of v)

  pub idle-goes : Idle → TurnGoes
  idle-goes i =
      let same : k.was_reset ≡ (k.was_reset || list_any is_reset_record v.said.notes) = or-false k.was_reset ∙ ap (λ b. k.was_reset || b) (sym i.reset) in
      record {
        out_after = k.out;
        vs_after = k.vs;
        pend_after = pend;
        longer = goes_on-same k.out;
        says = h.says;
        seat = subst (λ (b : Bool). SeatAgrees k.w k.out k.vs pend b x.c v.part v.part.front.row) same i.seat;
        ways = i.ways;
        noted = record { each = i.each; served = omega (arith, i.served); size = omega (arith, i.size); unless_ended = inr i.served; serve = λ t told. mute-answers files x.c t v.said.notes i.each i.served i.reset };
        sent = subst (λ (b : Bool). AreReplies x.c k.w k.out b v.said.segments) same i.sent;
        letters = subst (λ (b : Bool). Each (IsFair (record { w = k.w; out = k.out; vs = k.vs; was_reset = b }) x.c v.part) (letters_of v)) same i.letters;
      }
