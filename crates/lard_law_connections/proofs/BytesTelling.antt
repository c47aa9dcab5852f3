-- What a move tells of its connection, list by list, is true.
use Rattle.std.proofs.Common.{◌≡◌, ◌⊎◌, ℕ, Bool, true, false, List, [], ◌∷◌, map, Some, inl, inr, sym, ap, ◌∙◌, subst, arith}
use Rattle.lard_law_view.specs.Prelude.{AreClientNotes, AreReplies, Client, EachRow, FilesAt, Front, GoesBetween, IsMachine, MayTell, Node, Place, Rec, SaysAnswers, Seen, Stream, Tale, Verdict, fin_sent, owner, served_in, tale, tale_step, told_on}
use Rattle.lard_law_connections.proofs.BytesLaw.{IsHead, IsSeenTrue, OwnerServes, heads-stand}
use Rattle.lard_law_connections.specs.BytesRecords.{IsOwnedTrueAfter, MayServeOwned}
use Rattle.lard_law_connections.specs.BytesTurning.{AnswersAfter, IsNoteOf}
use Rattle.lard_law_view.specs.Carry.{TellsBy}
use Rattle.lard_law_view.specs.View.{sending}
use Rattle.lard_law_view.proofs.Saying.{AllBetween, AreMessages, GaveAt}
use Rattle.lard_law_view.proofs.Timers.{IsTimerAt}
use Rattle.lard_history.proofs.Each.{Each}
use Rattle.lard_history.proofs.Tales.{owner-tale}
use Rattle.lard_journal.specs.declared.rec.Rec.TheVariants as rec
use Rattle.lard_law_view.specs.Truthful as old
use Rattle.lard_law_view.proofs.Segments.{Moment, moment-on, told-one}
use Rattle.lard_law_view.proofs.Agreeing.{not-ended}
use Rattle.lard_law_view.proofs.OfKinds.{each-tells, of-gift, of-timer}

module _ (files : FilesAt) (c : ℕ) where
  abbrev pub Tells : Tale → List Rec → Type 0
  Tells t rs = TellsBy (IsOwnedTrueAfter files c) c t rs

  -- ---- heads, timers, what is given up, messages

  pub heads-true : (past heads : List Seen) → Each IsHead heads → EachRow (IsSeenTrue files c) past heads
  heads-true = heads-stand (IsSeenTrue files c) (λ past i e J is. (tt, tt, tt)) (λ past d isn iss wnd mss J is. (tt, tt, tt))

  pub timers-true : (place : Place) (d : ℕ) (t : Tale) (rs : List Rec) → Each (IsTimerAt place d) rs → Tells t rs
  timers-true place d = each-tells (IsTimerAt place d) (IsOwnedTrueAfter files c)
      (λ t. of-timer (IsOwnedTrueAfter files c t) (λ p e kind. ((λ J is. (tt, tt, tt)), (λ J is. (tt, tt, tt)))) place d) c

  pub gave-true : (place : Place) (d : ℕ) (t : Tale) (rs : List Rec) → Each (GaveAt place d) rs → Tells t rs
  gave-true place d = each-tells (GaveAt place d) (IsOwnedTrueAfter files c) (λ t. of-gift (IsOwnedTrueAfter files c t) (λ p e epoch J is. (tt, tt, tt)) place d) c

  -- a message to another machine tells a client nothing
  message-may : (t : Tale) (from to : Place) (bytes : List ℕ) → IsMachine to → IsOwnedTrueAfter files c t (rec.Sent 0 from to bytes)
  message-may t from (Client d) bytes m = absurd m
  message-may t (Client d) to bytes m = λ J is. (tt, tt, tt)
  message-may t Front Front bytes m = λ J is. (tt, tt, tt)
  message-may t Front (Node n) bytes m = λ J is. (tt, tt, tt)
  message-may t (Node k) Front bytes m = λ J is. (tt, tt, tt)
  message-may t (Node k) (Node n) bytes m = λ J is. (tt, tt, tt)

  pub messages-true : (place : Place) (d : ℕ) (t : Tale) (ms : List (Place × List ℕ)) → AreMessages d place ms → Tells t (map (sending place) ms)
  messages-true place d t [] h = tt
  messages-true place d t (m ∷ ms) h = (message-may t place m.0 m.1 h.0.0, messages-true place d (tale_step c t (sending place m)) ms h.1)

  -- ---- a client

  pub words-true : (d : ℕ) (t : Tale) (ss : List (Place × List ℕ)) → Tells t (map (sending (Client d)) ss)
  words-true d t [] = tt
  words-true d t (s ∷ ss) = ((λ J e. (tt, tt, tt)), words-true d (tale_step c t (sending (Client d) s)) ss)

  -- its notes serve nothing
  pub client-tells : (t : Tale) (rs : List Rec) → AreClientNotes c rs → TellsBy (old.IsTrueAfter files c) c t rs → Tells t rs
  client-tells t [] n h = tt
  client-tells t (rec.Wrote d bytes ∷ rs) n h = ((λ J e. (tt, tt, tt)), client-tells (tale_step c t (rec.Wrote d bytes)) rs n.1 h.1)
  client-tells t (rec.Accepted d bytes ∷ rs) n h = ((λ J e. (tt, tt, (h.0 J e).2)), client-tells (tale_step c t (rec.Accepted d bytes)) rs n.1 h.1)
  client-tells t (rec.Eof d ∷ rs) n h = ((λ J e. (tt, tt, tt)), client-tells (tale_step c t (rec.Eof d)) rs n.1 h.1)
  client-tells t (rec.Aborted d ∷ rs) n h = ((λ J e. (tt, tt, tt)), client-tells (tale_step c t (rec.Aborted d)) rs n.1 h.1)
  client-tells t (_ ∷ rs) n h = absurd n.0

  -- ---- a place that serves: its notes

  -- who owns it by its tale owns it by each journal that tells this
  owns-it : (J : List Rec) (t : Tale) (d : ℕ) (place : Place) → d ≡ c → tale J c ≡ t → t.owner ≡ Some place → owner J d ≡ Some place
  owns-it J t d place same e o = subst (λ (n : ℕ). owner J n ≡ Some place) (sym same) (owner-tale J c ∙ ap (λ (u : Tale). u.owner) e ∙ o)

  pub notes-true : (out : Stream) (t : Tale) (rs : List Rec) → Each (IsNoteOf c) rs → (out.ended ≡ false) ⊎ (served_in rs ≡ 0) → (t.fin_sent ≡ true → out.ended ≡ true) → OwnerServes c t.owner rs
      → TellsBy (AnswersAfter files c) c t rs → Tells t rs
  notes-true out t [] n unless fin owns a = tt
  notes-true out t (rec.Served place d r code size via ∷ rs) n (inl open_) fin owns a = (
    (λ J e. ((λ u. subst (λ (m : ℕ). fin_sent J m ≡ false) (sym n.0) (not-ended J c t out e open_ fin)), (λ u. (owns-it J t d place n.0 e owns.0, a.0 J e)), tt)),
    notes-true out (tale_step c t (rec.Served place d r code size via)) rs n.1 (inl open_) fin owns.1 a.1,
  )
  notes-true out t (rec.Served place d r code size via ∷ rs) n (inr none) fin owns a = absurd (omega (arith, none))
  notes-true out t (rec.Reset place d total ∷ rs) n unless fin owns a =
      ((λ J e. (tt, (λ u. (owns-it J t d place n.0 e owns.0, a.0 J e)), tt)), notes-true out (tale_step c t (rec.Reset place d total)) rs n.1 unless fin owns.1 a.1)
  notes-true out t (rec.Took place d epoch ∷ rs) n unless fin owns a = ((λ J e. (tt, tt, tt)), notes-true out (tale_step c t (rec.Took place d epoch)) rs n.1 unless fin owns.1 a.1)
  notes-true out t (rec.Hit m path ∷ rs) n unless fin owns a = ((λ J e. (tt, tt, tt)), notes-true out (tale_step c t (rec.Hit m path)) rs n.1 unless fin owns.1 a.1)
  notes-true out t (rec.Queued m o d r path ∷ rs) n unless fin owns a = ((λ J e. (tt, tt, tt)), notes-true out (tale_step c t (rec.Queued m o d r path)) rs n.1 unless fin owns.1 a.1)
  notes-true out t (rec.Read m o d r path ∷ rs) n unless fin owns a = ((λ J e. (tt, tt, tt)), notes-true out (tale_step c t (rec.Read m o d r path)) rs n.1 unless fin owns.1 a.1)
  notes-true out t (rec.Waits d ∷ rs) n unless fin owns a = ((λ J e. (tt, tt, tt)), notes-true out (tale_step c t (rec.Waits d)) rs n.1 unless fin owns.1 a.1)
  notes-true out t (rec.Admitted d ∷ rs) n unless fin owns a = ((λ J e. (tt, tt, tt)), notes-true out (tale_step c t (rec.Admitted d)) rs n.1 unless fin owns.1 a.1)
  notes-true out t (rec.Released d ∷ rs) n unless fin owns a = ((λ J e. (tt, tt, tt)), notes-true out (tale_step c t (rec.Released d)) rs n.1 unless fin owns.1 a.1)
  notes-true out t (rec.AssignedFirst d r path m add remove ∷ rs) n unless fin owns a =
      ((λ J e. (tt, tt, tt)), notes-true out (tale_step c t (rec.AssignedFirst d r path m add remove)) rs n.1 unless fin owns.1 a.1)
  notes-true out t (rec.AssignedLater d r path m add size queue ∷ rs) n unless fin owns a =
      ((λ J e. (tt, tt, tt)), notes-true out (tale_step c t (rec.AssignedLater d r path m add size queue)) rs n.1 unless fin owns.1 a.1)
  notes-true out t (rec.BatchOver d ∷ rs) n unless fin owns a = ((λ J e. (tt, tt, tt)), notes-true out (tale_step c t (rec.BatchOver d)) rs n.1 unless fin owns.1 a.1)
  notes-true out t (_ ∷ rs) n unless fin owns a = absurd n.0

  -- ---- and its segments

  module _ (w out : Stream) (vs : List Verdict) (reset : Bool) where
    abbrev At : Tale → Type 0
    At t = Moment w out vs reset t

    -- a client sends none to a client
    reply-place : (place : Place) (s : Place × List ℕ) → GoesBetween c place s.0 s.1 → AreReplies c w out reset (s ∷ []) → IsMachine place
    reply-place Front s b r = tt
    reply-place (Node n) s b r = tt
    reply-place (Client d) s b r = absurd (subst (λ (to : Place). GoesBetween c (Client d) to s.1) r.0 b)

    -- the moment after a segment
    next-moment : (place : Place) (t : Tale) (s : Place × List ℕ) → IsMachine place → AreReplies c w out reset (s ∷ []) → At t → At (tale_step c t (sending place s))
    next-moment Front t s m r h = subst (λ (to : Place). At (tale_step c t (rec.Sent 0 Front to s.1))) (sym r.0) (moment-on c w out vs reset t r.1.0 s.1 r.1.1 r.1.2 h)
    next-moment (Node n) t s m r h = subst (λ (to : Place). At (tale_step c t (rec.Sent 0 (Node n) to s.1))) (sym r.0) (moment-on c w out vs reset t r.1.0 s.1 r.1.1 r.1.2 h)
    next-moment (Client d) t s m r h = absurd m

    -- it is true where it stands
    reply-told : SaysAnswers files w out vs → (place : Place) (t : Tale) (s : Place × List ℕ) → IsMachine place → AreReplies c w out reset (s ∷ []) → At t → IsOwnedTrueAfter files c t (sending place s)
    reply-told says Front t s m r h J e = subst (λ (to : Place). MayTell files J (rec.Sent 0 Front to s.1) × MayServeOwned files J (rec.Sent 0 Front to s.1) × old.MayAccept files J (rec.Sent 0 Front to s.1)) (sym r.0)
        ((λ u. told-one files c w out vs reset J r.1.0 s.1 says (subst At (sym e) h) r.1.1 r.1.2), tt, tt)
    reply-told says (Node n) t s m r h J e = subst (λ (to : Place). MayTell files J (rec.Sent 0 (Node n) to s.1) × MayServeOwned files J (rec.Sent 0 (Node n) to s.1) × old.MayAccept files J (rec.Sent 0 (Node n) to s.1)) (sym r.0)
        ((λ u. told-one files c w out vs reset J r.1.0 s.1 says (subst At (sym e) h) r.1.1 r.1.2), tt, tt)
    reply-told says (Client d) t s m r h J e = absurd m

    pub replies-moment : (place : Place) (t : Tale) (ss : List (Place × List ℕ)) → AllBetween c place ss → AreReplies c w out reset ss → At t → At (told_on c t (map (sending place) ss))
    replies-moment place t [] b r h = h
    replies-moment place t (s ∷ ss) b r h =
        let one : AreReplies c w out reset (s ∷ []) = (r.0, r.1, tt) in
        replies-moment place (tale_step c t (sending place s)) ss b.1 r.2 (next-moment place t s (reply-place place s b.0 one) one h)

    pub replies-true : SaysAnswers files w out vs → (place : Place) (t : Tale) (ss : List (Place × List ℕ)) → AllBetween c place ss → AreReplies c w out reset ss → At t → Tells t (map (sending place) ss)
    replies-true says place t [] b r h = tt
    replies-true says place t (s ∷ ss) b r h =
        let one : AreReplies c w out reset (s ∷ []) = (r.0, r.1, tt) in
        let m : IsMachine place = reply-place place s b.0 one in
        (reply-told says place t s m one h, replies-true says place (tale_step c t (sending place s)) ss b.1 r.2 (next-moment place t s m one h))
