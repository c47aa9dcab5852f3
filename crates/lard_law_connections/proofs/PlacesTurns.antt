-- What a move owes: its records may stand, and behind them the connection sits where they say.
use Rattle.std.proofs.Common.{◌≡◌, ◌⊎◌, ℕ, List, [], ◌++◌, map, None, Some, ⊎_elim, sym, ap, ◌∙◌, subst, arith, Bool, true, false, cond, ◌&&◌, Option, refl, nat_lt, ◌==◌, eqb-true}
use Rattle.std.proofs.lemmas.List.Sums.{fold-append}
use Rattle.std.specs.List.{fold}
use Rattle.lard_law_view.specs.Prelude.{BackRow, Client, Conn, ControlBlock, EachRow, Epoch, FrontRow, IsMachine, Move, NodeEnv, NodePart, Part, Place, Rec, Row, Stay, Tale, TurnSaid, Work, back_endpoint, both_of, gives_back, goes_back_by, grown, is_gone, is_to_read, letters_of, may_freeze, next_of, node_goes_back, node_turns, offer_answer, offer_decision, rows_of, seen_in, seen_step, tale_at, tale_step, timer_rows, told_on, untold, with_work, work_of}
use Rattle.lard_law_connections.specs.Places.{HasEarlyEpoch, IsEarlyEpoch, IsReachedBy, IsRefusedBy, IsRowEarly, LetterMay, Owning, Sits, SitsAt, owning}
use Rattle.lard_law_connections.proofs.PlacesGrowing.{Grows, letters-grow}
use Rattle.lard_law_connections.proofs.PlacesRows.{IsPlain, MayStand, OwnsBy, after_all, machines-own, owner-owns, owns-append, owns-told, plain-after, plain-owns, sends-after}
use Rattle.lard_law_view.specs.View.{sending}
use Rattle.lard_history.proofs.Each.{Each, Each-append}
use Rattle.lard_history.proofs.Lifting.{each_row-append}
use Rattle.lard_law_view.proofs.EndpointSends.{AllTo}
use Rattle.lard_law_view.specs.WhileUntouched.{TellsBy}
use Rattle.lard_law_view.proofs.RowLists.{MayBeSeen, each_row-told, seen-rows}
use Rattle.lard_law_view.proofs.OfKinds.{of-timers}
use Rattle.lard_handoff_back.specs.Table.{Beside}
use Rattle.lard_handoff_back.specs.declared.table.Adopt.TheVariants.{New, Again, Stale, Refuse}
use Rattle.std.proofs.lemmas.Bool.{ltb-true}
use Rattle.lard_rules.specs.Node.{Drops}

-- ---- the records of a turn

-- Who owned the connection so owns it so behind what a place said: its notes may stand, its segments are the owner's, and it gives
-- up what it owns.
pub record Turned (c : ℕ) (place : Place) (w : Owning) (s : TurnSaid) (v : Owning) : Type 0 where
  pub notes : OwnsBy c w s.notes
  pub segments : (AllTo (Client c) s.segments × ((after_all w s.notes).owner ≡ Some place) × IsMachine place) ⊎ (s.segments ≡ [])
  pub gave : OwnsBy c (after_all w s.notes) s.gave
  pub messages : Each (λ m. IsMachine m.0) s.messages
  pub then : after_all (after_all w s.notes) s.gave ≡ v

pub timers-plain : (place : Place) (c : ℕ) (p q : Part) → Each IsPlain (timer_rows place c p q)
timers-plain = of-timers IsPlain (λ p d kind. (tt, tt))

segments-own : (c : ℕ) (place : Place) (w : Owning) (ss : List (Place × List ℕ)) → (AllTo (Client c) ss × (w.owner ≡ Some place) × IsMachine place) ⊎ (ss ≡ [])
    → OwnsBy c w (map (sending place) ss)
segments-own c place w ss h = ⊎_elim
    (λ (mine : AllTo (Client c) ss × (w.owner ≡ Some place) × IsMachine place). owner-owns c w place ss mine.2 mine.1 mine.0)
    (λ (none : ss ≡ []). subst (λ (l : List (Place × List ℕ)). OwnsBy c w (map (sending place) l)) (sym none) tt) h

module _ (c : ℕ) (place : Place) (w v : Owning) (s : TurnSaid) (timers : List Rec) (t : Turned c place w s v) (plain : Each IsPlain timers) where
  abbrev S : List Rec
  S = map (sending place) s.segments

  abbrev G : List Rec
  G = s.gave

  abbrev M : List Rec
  M = map (sending place) s.messages

  abbrev noted : Owning
  noted = after_all w s.notes

  behind-S : after_all w (s.notes ++ S) ≡ noted
  behind-S = fold-append _ w s.notes S ∙ sends-after noted place s.segments

  behind-G : after_all w (s.notes ++ S ++ G) ≡ v
  behind-G = fold-append _ w (s.notes ++ S) G ∙ ap (λ (u : Owning). after_all u G) behind-S ∙ t.then

  behind-M : after_all w (s.notes ++ S ++ G ++ M) ≡ v
  behind-M = fold-append _ w (s.notes ++ S ++ G) M ∙ sends-after _ place s.messages ∙ behind-G

  pub turned-after : after_all w (s.notes ++ S ++ G ++ M ++ timers) ≡ v
  turned-after = fold-append _ w (s.notes ++ S ++ G ++ M) timers ∙ plain-after _ timers plain ∙ behind-M

  pub turned-owns : OwnsBy c w (s.notes ++ S ++ G ++ M ++ timers)
  turned-owns =
      owns-append c w (s.notes ++ S ++ G ++ M) timers
      (owns-append c w (s.notes ++ S ++ G) M
      (owns-append c w (s.notes ++ S) G
      (owns-append c w s.notes S t.notes (segments-own c place noted s.segments t.segments))
      (subst (λ (u : Owning). OwnsBy c u G) (sym behind-S) t.gave))
      (machines-own c _ place s.messages t.messages))
      (plain-owns c _ timers plain)

-- ---- one connection

-- INTERIM: no node leaves yet, so none refuses a connection or gives one back
pub record IsUnreturned (x : Conn) : Type 0 where
  pub unrefused : (n : ℕ) → (x.part.nodes n).beside.refused ≡ None
  pub ungiven : (n : ℕ) → (x.part.nodes n).beside.returned ≡ None

-- Of each connection: it sits where its places say, in an early epoch, what its packets say is so, and each of its records may stand.
pub record IsPlaced (x : Conn) : Type 0 where
  pub sits : SitsAt x
  pub early : HasEarlyEpoch x
  pub letters : Each (LetterMay x.part) x.letters
  pub lawful : EachRow (MayBeSeen (MayStand x.c) x.c) [] x.seen
  pub unreturned : IsUnreturned x

-- INTERIM
pub no-refusal : (x : Conn) → IsPlaced x → (n e : ℕ) → IsRefusedBy e (x.part.nodes n) → ⊥
no-refusal x placed n e h = subst (IsReachedBy e) (placed.unreturned.unrefused n) h.0

-- how late it is, once its row was found
pub early-at : (x : Conn) → IsPlaced x → (row : FrontRow) → x.part.front.row ≡ Some row → IsEarlyEpoch row.epoch.0
early-at x placed row found = subst IsRowEarly found placed.early

-- INTERIM: so what an Offer is goes by the row alone, and it refuses none now
pub stays-answer : (leaving : Bool) (e : ℕ) (row : Option BackRow) (b : Beside) → leaving ≡ false → b.refused ≡ None → offer_decision leaving e row b ≡ offer_answer e row
stays-answer leaving e row b stays none =
    ap (λ (l : Bool). offer_decision l e row b) stays ∙ ap (λ (o : Option Epoch). offer_decision false e row (record b { refused = o })) none ∙ by-row row where
      by-row : (o : Option BackRow) → offer_decision false e o (record b { refused = None }) ≡ offer_answer e o
      by-row None = refl
      by-row (Some r) = go (nat_lt r.epoch.0 e) (r.epoch.0 == e) (is_gone r.stage) refl refl where
        go : (less same gone : Bool) → nat_lt r.epoch.0 e ≡ less → (r.epoch.0 == e) ≡ same
            → cond (less && true) (cond gone New Stale) (cond (same && true) Again Stale) ≡ cond same Again (cond (less && gone) New Stale)
        go true true gone l s = let under = ltb-true r.epoch.0 e l in let now = eqb-true r.epoch.0 e s in absurd (omega (arith, under, now))
        go true false gone l s = refl
        go false true gone l s = refl
        go false false gone l s = refl

pub never-refuses : (leaving : Bool) (e : ℕ) (row : Option BackRow) (b : Beside) → leaving ≡ false → b.refused ≡ None → offer_decision leaving e row b ≡ Refuse → ⊥
never-refuses leaving e row b stays none is = by-row row (sym (stays-answer leaving e row b stays none) ∙ is) where
  by-row : (o : Option BackRow) → offer_answer e o ≡ Refuse → ⊥
  by-row None h = let no : New ≡ Refuse = h in cc
  by-row (Some r) h = go (r.epoch.0 == e) (nat_lt r.epoch.0 e && is_gone r.stage) h where
    go : (same new : Bool) → cond same Again (cond new New Stale) ≡ Refuse → ⊥
    go true new k = let no : Again ≡ Refuse = k in cc
    go false true k = let no : New ≡ Refuse = k in cc
    go false false k = let no : Stale ≡ Refuse = k in cc

-- INTERIM: nor does a connection go back
pub turns-rest : (env : NodeEnv) → env.leaving ≡ false → (q : NodePart) (before : List (Place × List ℕ)) (w : Work) → node_turns env q before w ≡ with_work env q before w
turns-rest env remains q before w = ap (λ (l : Bool). cond (l && (is_to_read (next_of w) && may_freeze w.service.block)) (gives_back env q before w) (with_work env q before w)) remains

pub none-leaves : (env : NodeEnv) → env.leaving ≡ false → (p : NodePart) → node_goes_back env p ≡ Drops
none-leaves env remains p = go (both_of (back_endpoint p.row) p.stay) where
  go : (o : Option (ControlBlock × Stay)) → goes_back_by env p o ≡ Drops
  go None = refl
  go (Some x) = ap (λ (l : Bool). cond (l && (is_to_read (next_of (work_of x.0 x.1)) && may_freeze x.0)) (gives_back env p [] (work_of x.0 x.1)) Drops) remains

-- what is told before the notes
abbrev pub tale_before : Conn → Move → Tale
tale_before x v = fold (seen_step (tale_step x.c)) (tale_at x) v.heads

pub record Owes (x : Conn) (v : Move) : Type 0 where
  pub heads : EachRow (MayBeSeen (MayStand x.c) x.c) x.seen v.heads
  pub same : owning (tale_before x v) ≡ owning (tale_at x)
  pub rows : OwnsBy x.c (owning (tale_at x)) (rows_of x v)
  pub sits : Sits (after_all (owning (tale_at x)) (rows_of x v)) v.part.nodes v.part.front.row
  pub grows : Grows x.part v.part
  pub letters : Each (LetterMay v.part) (letters_of v)

module _ (x : Conn) (v : Move) (o : Owes x v) (h : IsPlaced x) where
  told : TellsBy (MayStand x.c) x.c (tale_before x v) (rows_of x v) × (owning (told_on x.c (tale_before x v) (rows_of x v)) ≡ after_all (owning (tale_before x v)) (rows_of x v))
  told = owns-told x.c (tale_before x v) (rows_of x v) (subst (λ (w : Owning). OwnsBy x.c w (rows_of x v)) (sym o.same) o.rows)

  grown-owning : owning (tale_at (grown x v)) ≡ after_all (owning (tale_at x)) (rows_of x v)
  grown-owning =
      ap owning (fold-append (seen_step (tale_step x.c)) untold x.seen (seen_in x v) ∙ fold-append (seen_step (tale_step x.c)) (tale_at x) v.heads (map Row (rows_of x v))
      ∙ seen-rows (tale_step x.c) (tale_before x v) (rows_of x v))
      ∙ told.1 ∙ ap (λ (w : Owning). after_all w (rows_of x v)) o.same

  pub owes-placed : HasEarlyEpoch (grown x v) → IsUnreturned (grown x v) → IsPlaced (grown x v)
  owes-placed early unreturned = record {
    unreturned = unreturned;
    sits = subst (λ (w : Owning). Sits w v.part.nodes v.part.front.row) (sym grown-owning) o.sits;
    early = early;
    letters = Each-append (LetterMay v.part) x.letters (letters_of v) (letters-grow x.part v.part o.grows x.letters h.letters) o.letters;
    lawful = each_row-append (MayBeSeen (MayStand x.c) x.c) [] x.seen (seen_in x v) h.lawful
        (each_row-append (MayBeSeen (MayStand x.c) x.c) x.seen v.heads (map Row (rows_of x v)) o.heads
        (each_row-told (MayStand x.c) x.c (x.seen ++ v.heads) (rows_of x v)
        (subst (λ (t : Tale). TellsBy (MayStand x.c) x.c t (rows_of x v)) (sym (fold-append (seen_step (tale_step x.c)) untold x.seen v.heads)) told.0)));
  }
