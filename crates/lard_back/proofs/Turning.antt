-- What a turn leaves is sound, and its end may be told.
use Rattle.std.proofs.Common.{◌≡◌, ℕ, suc, ◌+◌, ◌≤◌, List, [], ◌∷◌, length, Option, Some, None, Result, Ok, Err, IfOk, All, IfSome, refl, sym, ap, subst, ◌∙◌, arith}
use Rattle.std.proofs.lemmas.Bool.{cond_both}
use Rattle.lard_back.specs.declared.hand.At.{At}
use Rattle.lard_back.specs.declared.hand.Rest.{Rest}
use Rattle.lard_back.specs.declared.hand.Rested.TheVariants as rested
use Rattle.lard_back.specs.declared.timers.Flags.{Flags}
use Rattle.lard_back.specs.Bounds.{AreWants, MayTellEnd}
use Rattle.lard_back.specs.Bounds as bounds
use Rattle.lard_back.specs.Hand.{work_rest, node_rested_in}
use Rattle.lard_back.specs.Place.{IsBack, IsDone, give_bytes, given_up, silent_turn, turn_closed}
use Rattle.lard_back.specs.Sound.{EndsSound, IsWorkSound, stay_in}
use Rattle.lard_back.proofs.Keeping.{speaks-same}
use Rattle.lard_base.specs.declared.errors.NoMemory.{NoMemory}
use Rattle.lard_base.specs.declared.place.Place.{Place}
use Rattle.lard_base.specs.declared.place.Reason.{Reason}
use Rattle.lard_base.specs.declared.place.Reason.TheVariants.{Closed, Peer, Limit}
use Rattle.lard_endpoint.specs.Control.{ControlBlock}
use Rattle.lard_endpoint.specs.Moving.{end_reason, final_of, may_end}
use Rattle.lard_message.specs.Message.{IsCount}
use Rattle.lard_rules.specs.declared.node.NodeState.{NodeState}
use Rattle.lard_rules.specs.declared.places.Out.{Out}
use Rattle.lard_rules.specs.declared.stay.Asked.{Asked}
use Rattle.lard_rules.specs.declared.stay.Want.{Want}
use Rattle.lard_rules.specs.Stay.{Work}
use Rattle.lard_recv.specs.Recv.{Received}
use Rattle.lard_rules.specs.declared.places.Ending.{Ending}
use Rattle.lard_rules.specs.declared.places.Ending.TheVariants.{Here, Over}
use Rattle.lard_rules.specs.declared.places.Turn.{Turn}
use Rattle.lard_rules.specs.Serving.{ServeEnv, Service, cut_off, serving_settled, spoken}
use Rattle.lard_rules.specs.Serving as serving
use Rattle.lard_rules.specs.Speaking.{speaks}
use Rattle.lard_serving.specs.declared.answering.Service.{Service as Served}
use Rattle.lard_serving.specs.Bounds.{IsTurn}
use Rattle.lard_serving.specs.Serving.{service_of}
use Rattle.lard_stay.specs.declared.work.Work.{Work as InHand}
use Rattle.lard_stay.specs.Work.{IsAskOfStay, IsInHandSound, IsStaySound, IsWant, work_seen}

-- ---- the end of a turn

-- the same bytes came, and as many are unread
same-sound : (b d : ControlBlock) (w : Work) → d.recv ≡ b.recv → IsStaySound b (stay_in w) → IsStaySound d (record (stay_in w) { served = w.service.count })
same-sound b d w e s = record {
  within = subst (λ (r : Received). w.service.count + length w.batch + length r.unread ≤ r.got) (sym e) s.within;
  few = s.few;
  asks = s.asks;
}

rested-sound : (b d : ControlBlock) (w : Work) → d.recv ≡ b.recv → IsStaySound b (stay_in w) → EndsSound (serving.rested d w.service.count) w
rested-sound b d w e s = cond_both (may_end d) (Over (final_of d (end_reason d))) (Here d w.service.count) (λ end. EndsSound end w) (λ t. tt) (λ t. same-sound b d w e s)

pub spoken-sound : (env : ServeEnv) (w : Work) (before : List (Place × List ℕ)) → IsWorkSound w → EndsSound (spoken env w.service before).0 w
spoken-sound env w before s = rested-sound w.service.block (speaks env.c w.service.block).1 w (speaks-same env.c w.service.block) s

pub settled-sound : (env : ServeEnv) (w : Work) → IsWorkSound w → EndsSound (serving_settled env w.service).0 w
settled-sound env w s = go w.service.over where
  go : (o : Option ℕ) → EndsSound (elim o as (λ p. Ending × Turn) [ None ↦ spoken env w.service [] | Some total ↦ cut_off env w.service ]).0 w
  go None = spoken-sound env w [] s
  go (Some total) = tt

no-count : (r : Reason) → IsCount r 0
no-count Limit = tt
no-count Closed = refl
no-count Peer = refl

rested-tells : (d : ControlBlock) (count : ℕ) → MayTellEnd (node_rested_in (serving.rested d count)) None
rested-tells d count = cond_both (may_end d) (Over (final_of d (end_reason d))) (Here d count) (λ end. MayTellEnd (node_rested_in end) None) (λ t. no-count (end_reason d)) (λ t. tt)

pub spoken-tells : (env : ServeEnv) (s : Service) (before : List (Place × List ℕ)) → MayTellEnd (node_rested_in (spoken env s before).0) None
spoken-tells env s before = rested-tells (speaks env.c s.block).1 s.count

pub settled-tells : (env : ServeEnv) (s : Service) → MayTellEnd (node_rested_in (serving_settled env s).0) s.over
settled-tells env s = go s.over where
  go : (o : Option ℕ) → MayTellEnd (node_rested_in (elim o as (λ p. Ending × Turn) [ None ↦ spoken env s [] | Some total ↦ cut_off env s ]).0) o
  go None = spoken-tells env s []
  go (Some total) = tt

-- ---- a turn that is done

ask-fits : (o : Option Asked) → IfSome o IsAskOfStay → bounds.IsSpelledAsk o
ask-fits None h = tt
ask-fits (Some a) h = (h.few, h.some, h.within, h.short)

pub work-sound : (b : ControlBlock) (w : InHand) → IsInHandSound b w → IsWorkSound (work_seen b w)
work-sound b w s = record { within = s.within; few = s.few; asks = s.asks }

wants-fit : (ws : List Want) → All IsWant ws → AreWants ws
wants-fit [] h = tt
wants-fit (w ∷ ws) h =
    let first : IsWant w = h 0 w (omega arith) in
    (first, wants-fit ws (λ k d lt. h (suc k) d (omega (arith, lt))))

-- the same of a rest that was taken apart
pub rest-asks : (b : ControlBlock) (w : InHand) (rest : Rest) → IsInHandSound b w → rest ≡ work_rest (work_seen b w) → bounds.IsSpelledAsk rest.asked
rest-asks b w rest s left = subst (λ (r : Rest). bounds.IsSpelledAsk r.asked) (sym left) (ask-fits w.asked s.asked)

pub rest-wants : (b : ControlBlock) (w : InHand) (rest : Rest) → IsInHandSound b w → rest ≡ work_rest (work_seen b w) → AreWants rest.wants
rest-wants b w rest s left = subst (λ (r : Rest). AreWants r.wants) (sym left) (wants-fit w.wants s.wants)

-- the endpoint said what it may
pub settled-is : (env : ServeEnv) (b : ControlBlock) (w : InHand) (e : Ending) (turn : Turn) → IsInHandSound b w → length w.jobs ≤ 9
    → (e, turn) ≡ serving_settled env (work_seen b w).service → IsTurn turn → IsDone (work_seen b w) (serving_settled env (work_seen b w).service) e (record { turn = turn; rest = work_rest (work_seen b w) })
settled-is env b w e turn s few is fits =
    let ended : e ≡ (serving_settled env (work_seen b w).service).0 = ap (λ (x : Ending × Turn). x.0) is in
    record {
      rest = refl;
      turn = is;
      fits = fits;
      asked = ask-fits w.asked s.asked;
      wants = wants-fit w.wants s.wants;
      count = subst (λ (x : Ending). MayTellEnd (node_rested_in x) w.service.over) (sym ended) (settled-tells env (work_seen b w).service);
      jobs = few;
      sound = subst (λ (x : Ending). EndsSound x (work_seen b w)) (sym ended) (settled-sound env (work_seen b w) (work-sound b w s));
    }

-- the same, of a service and a rest that were taken apart
pub settled-by : (env : ServeEnv) (b : ControlBlock) (w : InHand) (service : Served) (rest : Rest) (e : Ending) (turn : Turn) → IsInHandSound b w → length w.jobs ≤ 9 → service ≡ w.service → rest ≡ work_rest (work_seen b w)
    → (e, turn) ≡ serving_settled env (service_of b service) → IsTurn turn → IsDone (work_seen b w) (serving_settled env (work_seen b w).service) e (record { turn = turn; rest = rest })
settled-by env b w service rest e turn s few same left is fits =
    subst (λ (r : Rest). IsDone (work_seen b w) (serving_settled env (work_seen b w).service) e (record { turn = turn; rest = r })) (sym left)
    (settled-is env b w e turn s few (is ∙ ap (λ (v : Served). serving_settled env (service_of b v)) same) fits)

pub of_ok : {A E : Type 0} (P : A → Type 0) (r : Result A E) (a : A) → r ≡ Ok a → IfOk r P → P a
of_ok P r a is h = subst (λ x. IfOk x P) is h

-- ---- the connection went back

pub back-by : (s t : NodeState) (at : At) (was : Flags) (w : Work) (before : List (Place × List ℕ)) (rest : Rest) (bytes : List ℕ) (turn : Turn) (n : NodeState) (r : Result Out NoMemory)
    → t ≡ given_up s at.c w.service.count → before ≡ [] → rest ≡ work_rest w → bytes ≡ give_bytes s at.c w.service → turn ≡ silent_turn w.service
    → IfOk r (λ out. (n, out) ≡ turn_closed t at was before rest (rested.Back bytes) turn) → IfOk r (λ out. IsBack s at was w n out)
back-by s t at was w before rest bytes turn n (Ok out) up none left given says is = is ∙ (λ i. turn_closed (up i) at was (none i) (left i) (rested.Back (given i)) (says i))
back-by s t at was w before rest bytes turn n (Err e) up none left given says is = tt
