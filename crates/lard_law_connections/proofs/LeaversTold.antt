-- What a node decided of a connection as it leaves, and what it says of that: who says Refused refused it, who says Give gave it back, and only a
-- node that leaves begins to. No epoch is looked at.
use Rattle.std.proofs.Common.{◌≡◌, ◌⊎◌, ℕ, Bool, true, false, cond, ◌&&◌, List, [], ◌∷◌, ◌++◌, Option, Some, None, inl, inr, ⊎_elim, refl, sym, subst}
use Rattle.std.proofs.lemmas.Bool.{and_parts}
use Rattle.std.specs.Prelude.{is_some}
use Rattle.lard_base.specs.declared.place.TimerKind.TheVariants as timer
use Rattle.lard_handoff_back.specs.declared.row.BackRow.{BackRow}
use Rattle.lard_handoff_back.specs.declared.table.Adopt.TheVariants.{New, Again, Stale, Refuse}
use Rattle.lard_handoff_back.specs.Leaving.{exceeds, is_free, is_this_epoch, row_epoch}
use Rattle.lard_handoff_back.specs.Table.{Beside}
use Rattle.lard_history.proofs.Each.{Each, Each-append, Each-weaker}
use Rattle.lard_law_connections.proofs.PlacesHeads.{spelled-some}
use Rattle.lard_law_connections.proofs.PlacesLoops.{settled-is, spoken-to}
use Rattle.lard_law_connections.specs.Places.{Head, message_head}
use Rattle.lard_law_view.proofs.EndpointSends.{AllTo, ready-to}
use Rattle.lard_law_view.specs.Prelude.{Asked, Client, Ending, Epoch, Front, Kind, NodeDeed, NodeEnv, NodeGets, NodePart, Place, Service, Turn, Want, Work, after_timer, again_sent, all_sent, asked_sent, came_for, come_progress, ended_sent, gives_back, goes_on, gone, is_to_read, kept_after, kept_back, kept_refused, may_freeze, next_of, node_begins, node_rule, offer_decision, on_segment, read_progress, reads_batch, serving, serving_ready_of, serving_settled, spoken, state_of, tagged, taken_sent, timed, told_kind, turn_by, wants_sent, with_work, without, work_of}
use Rattle.lard_message.specs.declared.kind.Kind.TheVariants as kind
use Rattle.lard_rules.proofs.NodeCases.{IsOfItsEpoch, KeptByNode, Turned, node-keeps}
use Rattle.lard_rules.specs.Node.{Drops, Says, Does, may_give_back}
use Rattle.lard_rules.specs.declared.places.Ending.TheVariants as ending

-- ---- what is decided

abbrev pub HasRefused : NodePart → Type 0
HasRefused p = is_some p.beside.refused ≡ true

abbrev pub HasReturned : NodePart → Type 0
HasReturned p = is_some p.beside.returned ≡ true

-- it refused the connection or gave it back, in whatever epoch
abbrev pub HasSentBack : NodePart → Type 0
HasSentBack p = HasRefused p ⊎ HasReturned p

-- an Offer is refused by a node that leaves, and again by one that refused the connection
by-decision : (leaving : Bool) (e : ℕ) (row : Option BackRow) (b : Beside) → offer_decision leaving e row b ≡ Refuse
    → (leaving ≡ true) ⊎ (is_some b.refused ≡ true)
by-decision true e row b is = inl refl
by-decision false e row b is = inr (by b.refused is) where
  stays : (free : Bool) → cond free New Stale ≡ Refuse → ⊥
  stays true h = let no : New ≡ Refuse = h in cc
  stays false h = let no : Stale ≡ Refuse = h in cc

  decided : (again : Bool) → cond again Again Stale ≡ Refuse → ⊥
  decided true h = let no : Again ≡ Refuse = h in cc
  decided false h = let no : Stale ≡ Refuse = h in cc

  by : (o : Option Epoch) → offer_decision false e row (record b { refused = o }) ≡ Refuse → is_some o ≡ true
  by (Some d) h = refl
  by None h = absurd (new (exceeds e (row_epoch row) && true) h) where
    new : (t : Bool) → cond t (cond (is_free row) New Stale) (cond (is_this_epoch e (row_epoch row) && true) Again Stale) ≡ Refuse → ⊥
    new true k = stays (is_free row) k
    new false k = decided (is_this_epoch e (row_epoch row) && true) k

-- ---- what is said

-- what the node decided, where it says this to the front end
abbrev pub HasDecided : NodePart → Kind → Type 0
HasDecided p kind.Refused = HasRefused p
HasDecided p kind.Give = HasReturned p
HasDecided p _ = Unit {0}

abbrev pub MayTell : NodePart → Place → Option Head → Type 0
MayTell p Front (Some h) = HasDecided p h.kind
MayTell p _ _ = Unit {0}

abbrev pub Tells : NodePart → Place × List ℕ → Type 0
Tells p m = MayTell p m.0 (message_head m.1)

abbrev pub AreTold : NodePart → List (Place × List ℕ) → Type 0
AreTold p ms = Each (Tells p) ms

-- what was decided stays so
pub record StaysDecided (p q : NodePart) : Type 0 where
  pub refused : HasRefused p → HasRefused q
  pub returned : HasReturned p → HasReturned q

pub still-decided : (p : NodePart) → StaysDecided p p
still-decided p = record { refused = λ h. h; returned = λ h. h }

pub still-told : (p q : NodePart) → StaysDecided p q → (to : Place) (h : Option Head) → MayTell p to h → MayTell q to h
still-told p q stays to None told = by to told where
  by : (to : Place) → MayTell p to None → MayTell q to None
  by Front h = tt
  by _ h = tt
still-told p q stays to (Some head) told = by to told where
  of-kind : (k : Kind) → HasDecided p k → HasDecided q k
  of-kind kind.Refused h = stays.refused h
  of-kind kind.Give h = stays.returned h
  of-kind _ h = tt

  by : (to : Place) → MayTell p to (Some head) → MayTell q to (Some head)
  by Front h = of-kind head.kind h
  by _ h = tt

-- ---- what a rule keeps

module _ (env : NodeEnv) (p : NodePart) where
  -- This is kept behind p: what was decided stays so, and the node leaves where more is.
  pub record Goes (q : NodePart) : Type 0 where
    pub stays : StaysDecided p q
    pub leaves : HasSentBack q → HasSentBack p ⊎ (env.leaving ≡ true)

  as-before : (q : NodePart) → q.beside ≡ p.beside → Goes q
  as-before q same = subst (λ (b : Beside). Goes (record q { beside = b })) (sym same)
      (record { stays = record { refused = λ h. h; returned = λ h. h }; leaves = λ h. inl h })

  -- what it does, what goes out, and to whom the segments go
  abbrev pub GoesSo : NodeDeed → Type 0
  GoesSo Drops = Unit {0}
  GoesSo (Says messages) = AreTold p messages
  GoesSo (Does given) = Goes given.0 × AllTo (Client env.serve.c) given.1.segments × AreTold given.0 given.1.messages

  asks-told : (q : NodePart) (o : Option Asked) → AreTold q (asked_sent env o)
  asks-told q None = tt
  asks-told q (Some a) = (subst (λ h. MayTell q Front h) (sym (spelled-some _)) tt, tt)

  wants-told : (q : NodePart) (ws : List Want) → AreTold q (wants_sent env ws)
  wants-told q [] = tt
  wants-told q (w ∷ ws) = (tt, wants-told q ws)

  taken-told : (q : NodePart) → AreTold q (taken_sent env)
  taken-told q = (subst (λ h. MayTell q Front h) (sym (spelled-some _)) tt, tt)

  all-told : (q : NodePart) → StaysDecided p q → (before : List (Place × List ℕ)) (w : Work) → AreTold p before → AreTold q (all_sent env before w)
  all-told q stays before w told = Each-append (Tells q) (before ++ asked_sent env w.asked) (wants_sent env w.wants)
      (Each-append (Tells q) before (asked_sent env w.asked)
      (Each-weaker (Tells p) (Tells q) (λ m. still-told p q stays m.0 (message_head m.1)) before told)
      (asks-told q w.asked))
      (wants-told q w.wants)

  -- it stays, or ends
  after-goes : (q : NodePart) → q.beside ≡ p.beside → (before : List (Place × List ℕ)) → AreTold p before → (w : Work) (given : Ending × Turn)
      → AllTo (Client env.serve.c) given.1.segments → GoesSo (Does (kept_after env q w given.0, turn_by env before w given))
  after-goes q same before told w (ending.Here b count, turn) to =
      let k : NodePart = kept_after env q w (ending.Here b count) in
      let goes : Goes k = as-before k same in
      (goes, to, Each-append (Tells k) (all_sent env before w) [] (all-told k goes.stays before w told) tt)
  after-goes q same before told w (ending.Over last, turn) to =
      let k : NodePart = kept_after env q w (ending.Over last) in
      let goes : Goes k = as-before k same in (
        goes,
        to,
        Each-append (Tells k) (all_sent env before w) (ended_sent env w.service.over (ending.Over last)) (all-told k goes.stays before w told)
            (subst (λ h. MayTell k Front h) (sym (spelled-some _)) tt, tt),
      )

  works : (q : NodePart) → q.beside ≡ p.beside → (before : List (Place × List ℕ)) → AreTold p before → (w : Work) → GoesSo (with_work env q before w)
  works q same before told w = after-goes q same before told w (serving_settled env.serve w.service) (settled-is env.serve w.service).to

  -- the connection goes back
  backs : (q : NodePart) → q.beside ≡ p.beside → (before : List (Place × List ℕ)) → AreTold p before → (w : Work) → may_give_back env w ≡ true
      → GoesSo (gives_back env q before w)
  backs q same before told w back =
      let k : NodePart = kept_back env q w in
      let leaves : env.leaving ≡ true = (and_parts env.leaving (is_to_read (next_of w) && may_freeze w.service.block) back).0 in
      let stays : StaysDecided p k = record { refused = (as-before q same).stays.refused; returned = λ h. refl } in (
        record { stays = stays; leaves = λ h. inr leaves },
        tt,
        Each-append (Tells k) (all_sent env before w) _ (all-told k stays before w told)
            (subst (λ h. MayTell k Front h) (sym (spelled-some _)) refl, tt),
      )

  turns : (q : NodePart) → q.beside ≡ p.beside → (w : Work) → Turned GoesSo env q [] w
  turns q same w = (λ rests. works q same [] tt w, λ back. backs q same [] tt w back)

  refuses-goes : offer_decision env.leaving env.epoch p.row p.beside ≡ Refuse → Goes (kept_refused env p)
  refuses-goes is = record {
    stays = record { refused = λ h. refl; returned = λ h. h };
    leaves = λ h. ⊎_elim (λ (leaves : env.leaving ≡ true). inr leaves) (λ (was : HasRefused p). inl (inl was))
        (by-decision env.leaving env.epoch p.row p.beside is);
  }

  module _ (again : AreTold p (again_sent p)) where
    rules : KeptByNode env p (λ g. Unit {0}) GoesSo
    rules = record {
      drops = tt;
      hears = λ said b s m at. turns p refl (goes_on env (work_of (on_segment b said).1 s));
      tags = λ number nodes b s m at asked same count.
          turns (record p { kept = without timer.Ask 0 p.kept }) refl (goes_on env (tagged env nodes (work_of b s)));
      comes = λ from r b s m at wanted.
          turns (record p { fetches = without timer.Fetch r p.fetches }) refl (goes_on env (came_for (come_progress from) r (work_of b s)));
      reads = λ r path b s m at. turns p refl (goes_on env (came_for read_progress r (work_of b s)));
      begins = λ parts m new may. works p refl (taken_sent env) (taken-told p) (goes_on env (state_of (reads_batch env true (node_begins env parts))));
      takes_again = λ parts m is. taken-told p;
      refuses = λ parts m is. (refuses-goes is, tt, (subst (λ h. MayTell (kept_refused env p) Front h) (sym (spelled-some _)) refl, tt));
      fires = λ b s m at.
          let before : List (Place × List ℕ) = serving_ready_of env.serve (after_timer b) (timed b) in
          let w : Service = serving (after_timer b) s.served [] in
          after-goes p refl (again_sent p) again (work_of (after_timer b) s) (spoken env.serve w before)
          (spoken-to env.serve w before (ready-to env.serve (after_timer b) (timed b)));
      resends = λ m none. again;
      ends = λ back m told was. (as-before (record p { row = gone p.row; kept = without (told_kind back) 0 p.kept }) refl, tt, tt);
      leaves = λ b s m at back. backs p refl [] tt (work_of b s) back;
    }

    pub rule-goes : (g : NodeGets) → IsOfItsEpoch env p g → GoesSo (node_rule env p g)
    rule-goes g at = node-keeps env p (λ g. Unit {0}) GoesSo rules g at tt
