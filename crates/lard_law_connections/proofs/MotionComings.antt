-- What comes to the front end adds to a connection's story, and what of its messages is a Forward.
use Rattle.std.proofs.Common.{◌+◌, ◌≡◌, ◌==◌, ◌||◌, not, ℕ, Bool, true, false, cond, List, [], ◌∷◌, ◌++◌, map, Option, Some, None, refl, ap, ◌∙◌}
use Rattle.std.proofs.lemmas.Bool.{cond_both}
use Rattle.std.proofs.lemmas.List.Folds.{list_any-append}
use Rattle.std.specs.List.{fold, list_any}
use Rattle.lard_law_view.specs.Prelude.{Ask, Body, Client, Conn, Front, FrontConn, FrontRow, Kept, Kind, LaterChoice, Node, Place, Rec, Seen, assigned_notes, epoch_at, is_under, kind_of, listed, over_note, sent_of, without}
use Rattle.lard_base.specs.declared.place.TimerKind.TheVariants as timer
use Rattle.lard_law_connections.specs.MotionStory.{Story, back_in, forward_to, is_among, is_forward, is_syn_in, picked, segment_in, story, story_step}
use Rattle.lard_law_connections.proofs.MotionAnswers.{IsAnswer}
use Rattle.lard_law_connections.proofs.MotionElsewhere.{IsAway, IsBack, IsBare, IsOfferKept, RowKnown, StageKnown}
use Rattle.lard_law_connections.proofs.MotionPicking.{IsStill, pick}
use Rattle.lard_law_connections.proofs.PlacesHeads.{head, spelled-some}
use Rattle.lard_law_view.specs.View.{sending}
use Rattle.lard_rules.specs.Front.{message}
use Rattle.lard_handoff_front.specs.declared.row.FrontConn.TheVariants as stage
use Rattle.lard_history.proofs.Each.{Each, Each-weaker}
use Rattle.lard_journal.specs.declared.rec.Rec.TheVariants as rec
use Rattle.lard_message.specs.declared.kind.Kind.TheVariants as kind
use Rattle.lard_message.specs.declared.message.Body.TheVariants as body

-- ---- answers tell nothing of the way

answer-still : (r : Rec) → IsAnswer r → IsStill r
answer-still (rec.Served place c r code size via) h = tt
answer-still (rec.Reset place c total) h = tt
answer-still _ h = absurd h

pub answers-still : (rs : List Rec) → Each IsAnswer rs → Each IsStill rs
answers-still rs h = Each-weaker IsAnswer IsStill answer-still rs h

-- nor does what an Ask comes to
pub over-still : (c : ℕ) (b : Bool) → Each IsStill (over_note c b)
over-still c true = (tt, tt)
over-still c false = tt

pub assigned-still : (c : ℕ) (ask : Ask) (r : ℕ) (paths : List (List ℕ)) (choices : List LaterChoice) → Each IsStill (assigned_notes c ask r paths choices)
assigned-still c ask r [] choices = tt
assigned-still c ask r (path ∷ paths) [] = tt
assigned-still c ask r (path ∷ paths) (choice ∷ choices) = (tt, assigned-still c ask (r + 1) paths choices)

-- ---- messages

pub is-not-forward : (k : Kind) (e : ℕ) → (k ≡ kind.Forward → ⊥) → is_forward (Some (head k e)) ≡ false
is-not-forward kind.Forward e other = absurd (other refl)
is-not-forward _ e other = refl

-- one of another kind is no Forward
pub not-forwarded : (n c e : ℕ) (b : Body) → (kind_of b ≡ kind.Forward → ⊥) → forward_to (rec.Sent 0 Front (Node n) (message c e b)) ≡ None
not-forwarded n c e b other =
    ap (λ h. cond (is_forward h) (Some (n, message c e b)) None) (spelled-some _) ∙ ap (λ t. cond t (Some (n, message c e b)) None) (is-not-forward (kind_of b) (epoch_at (message c e b)) other)

pub forwarded-is : (n c e : ℕ) (bytes : List ℕ) → forward_to (rec.Sent 0 Front (Node n) (message c e (body.Forward bytes))) ≡ Some (n, message c e (body.Forward bytes))
forwarded-is n c e bytes = ap (λ h. cond (is_forward h) (Some (n, message c e (body.Forward bytes))) None) (spelled-some _)

-- an Offer that is kept is sent again
pub resent-none : (ks : List Kept) → Each IsOfferKept ks → pick forward_to (map (sending Front) (map sent_of ks)) ≡ []
resent-none [] h = refl
resent-none (k ∷ ks) h = ap (λ o. listed o ++ pick forward_to (map (sending Front) (map sent_of ks))) (one k.to) ∙ resent-none ks h.1 where
  one : (to : Place) → forward_to (rec.Sent 0 Front to k.bytes) ≡ None
  one Front = refl
  one (Client d) = refl
  one (Node n) = ap (λ o. cond (is_forward o) (Some (n, k.bytes)) None) h.0.1

-- some of what is kept
pub without-kept : (ks : List Kept) → Each IsOfferKept ks → Each IsOfferKept (without timer.Offer 0 ks)
without-kept [] h = tt
without-kept (q ∷ ks) h = cond_both (not (is_under timer.Offer 0 q)) (q ∷ without timer.Offer 0 ks) (without timer.Offer 0 ks) (Each IsOfferKept) (λ t. (h.0, without-kept ks h.1)) (λ t. without-kept ks h.1)

-- ---- what a packet that comes adds

-- what is seen first: whether a plain SYN came, in which epochs the connection comes back, and which segments came
pub record Heads (x : Conn) (heads : List Seen) (syn : Bool) (comes : List ℕ) (segments : List (List ℕ)) : Type 0 where
  pub bare : Each IsBare heads
  pub syn_is : list_any (is_syn_in x.c) heads ≡ syn
  pub comes_are : picked back_in heads ≡ comes
  pub segments_are : picked (segment_in x.c) heads ≡ segments
  pub tells : fold (story_step x.c) (story x.c x.seen) heads ≡ record (story x.c x.seen) { syn = (story x.c x.seen).syn || syn; back = (story x.c x.seen).back ++ comes }

pub among-more : (e : ℕ) (es ds : List ℕ) → is_among e es ≡ true → is_among e (es ++ ds) ≡ true
among-more e es ds h = list_any-append (λ d. d == e) es ds ∙ ap (λ b. b || is_among e ds) h

module _ (t : Story) (syn : Bool) (comes : List ℕ) where
  abbrev pub behind_heads : Story
  behind_heads = record t { syn = t.syn || syn; back = t.back ++ comes }

  pub back-behind : IsBack t → IsBack behind_heads
  back-behind h = record { away = h.away; back = λ e is. among-more e t.back comes (h.back e is) }

  -- a stage stays known, where it does not come back in its epoch
  pub stage-behind : (st : FrontConn) → ((n e : ℕ) → IsAway t n e → is_among e (t.back ++ comes) ≡ false) → StageKnown t st → StageKnown behind_heads st
  stage-behind (stage.Held b) none h = back-behind h
  stage-behind (stage.Waiting b) none h = back-behind h
  stage-behind stage.Lent none h = back-behind h
  stage-behind (stage.Offering n d) none h = record { away = h.away; epoch = h.epoch; node = h.node; back = none n d.0 h }
  stage-behind (stage.Moved n d) none h = record { away = h.away; epoch = h.epoch; node = h.node; back = none n d.0 h }
  stage-behind (stage.Closed last) none h = back-behind h

  pub row-behind : (o : Option FrontRow) → (o ≡ None → syn ≡ false) → ((n e : ℕ) → IsAway t n e → is_among e (t.back ++ comes) ≡ false) → RowKnown t o → RowKnown behind_heads o
  row-behind None plain none h = (h.0, (λ i. h.1 i || plain refl i), back-behind h.2)
  row-behind (Some row) plain none h = (h.0, ap (λ b. b || syn) h.1, stage-behind row.stage none h.2)
