-- What each rule of a node makes of the Asks that it sends.
use Rattle.std.proofs.Common.{◌≡◌, ◌<◌, ◌^◌, ℕ, ◌+◌, ◌==◌, ◌&&◌, not, nat_eq, Bool, true, false, cond, filter, List, [], ◌∷◌, ◌++◌, length, map, Option, Some, None, refl, sym, ap, ◌∙◌, subst, arith, eqb-true, inl, inr, append-nil}
use Rattle.std.proofs.lemmas.Bool.{both_ways, cond_both}
use Rattle.std.proofs.lemmas.List.{map-append}
use Rattle.std.specs.List.{AllByRecursion, fold}
use Rattle.lard_law_view.specs.Prelude.{Asked, BackConn, BackRow, Body, Client, Ending, Front, Kept, Kind, Node, NodeEnv, NodePart, Place, Stay, Turn, Want, Work, all_sent, anew, ask_kept, asked_kept, asked_sent, ended_kept, ended_sent, epoch_at, epoch_in, fetch_of, give_kept, is_under, kept_after, kept_back, kind_of, listed, parts_of, refused_sent, reset_count, sent_of, taken_sent, turn_back, turn_by, wants_kept, wants_sent, without}
use Rattle.lard_base.specs.declared.place.TimerKind.TheVariants as timer
use Rattle.lard_laws.specs.AsksSent.{AsksGoOn, IsAskNumbered, IsNextAsk, ask_by, is_ask}
use Rattle.lard_laws.proofs.AsksWorking.{AskedSo, IsAsking}
use Rattle.lard_law_connections.proofs.MotionPicking.{pick, pick-append}
use Rattle.lard_law_connections.specs.Places.{message_head}
use Rattle.lard_law_connections.proofs.PlacesHeads.{head, spelled-head, spelled-some}
use Rattle.lard_law_view.specs.View.{sending}
use Rattle.lard_handoff_back.specs.declared.row.BackConn.TheVariants as back
use Rattle.lard_history.proofs.Each.{Each, Each-append, Each-weaker}
use Rattle.lard_history.proofs.Seeing.{same_number}
use Rattle.lard_message.specs.declared.kind.Kind.TheVariants as kind
use Rattle.lard_message.specs.declared.message.Body.TheVariants as body
use Rattle.lard_rules.specs.Node.{message}
use Rattle.lard_resend.proofs.Ordered.{put_all}
use Rattle.lard_rules.specs.declared.places.Ending.TheVariants as ending

-- ---- what is kept

-- it is no Ask
abbrev pub IsNoAsk : Kept → Type 0
IsNoAsk k = (e : ℕ) → is_ask e (message_head k.bytes) ≡ false

-- an Ask that is kept is the last of its epoch
abbrev pub IsLast : (ℕ → Option (List ℕ)) → Kept → Type 0
IsLast last k = (e : ℕ) → is_ask e (message_head k.bytes) ≡ true → (is_under timer.Ask 0 k ≡ true) × (last e ≡ Some k.bytes)

no-last : (last : ℕ → Option (List ℕ)) (k : Kept) → IsNoAsk k → IsLast last k
no-last last k none e is = absurd (both_ways (is_ask e (message_head k.bytes)) (none e) is)

-- where the connection is here, its Asks are counted
abbrev pub StageAsks : ℕ → ℕ → Option (List ℕ) → Option Stay → BackConn → Type 0
StageAsks c e last None (back.Here b) = Unit {0}
StageAsks c e last (Some s) (back.Here b) = IsAskNumbered c e last s.asks
StageAsks c e last stay _ = Unit {0}

abbrev pub RowAsks : ℕ → (ℕ → Option (List ℕ)) → Option Stay → Option BackRow → Type 0
RowAsks c last stay None = Unit {0}
RowAsks c last stay (Some row) = StageAsks c row.epoch.0 (last row.epoch.0) stay row.stage

-- What is known of the Asks of connection c at a node, of which these were the last of each epoch.
pub record PartAsks (c : ℕ) (last : ℕ → Option (List ℕ)) (p : NodePart) : Type 0 where
  pub fresh : (e : ℕ) → epoch_in p < e → last e ≡ None
  pub kept : Each (IsLast last) p.kept
  pub fetches : Each IsNoAsk p.fetches
  pub stay : RowAsks c last p.stay p.row

-- ---- lists

pub filter-each : (P : Kept → Type 0) (f : Kept → Bool) (ks : List Kept) → Each P ks → Each P (filter f ks)
filter-each P f [] h = tt
filter-each P f (k ∷ ks) h = cond_both (f k) (k ∷ filter f ks) (filter f ks) (Each P) (λ t. (h.0, filter-each P f ks h.1)) (λ t. filter-each P f ks h.1)

each-all : (P : Kept → Type 0) (ks : List Kept) → Each P ks → AllByRecursion P ks
each-all P [] h = tt
each-all P (k ∷ ks) h = (h.0, each-all P ks h.1)

all-each : (P : Kept → Type 0) (ks : List Kept) → AllByRecursion P ks → Each P ks
all-each P [] h = tt
all-each P (k ∷ ks) h = (h.0, all-each P ks h.1)

-- one takes the place of its kind and number
anew-each : (P : Kept → Type 0) (k : Kept) (ks : List Kept) → P k → Each P (without k.kind k.r ks) → Each P (anew k ks)
anew-each P k ks p h = all-each P (anew k ks) (put_all P k (without k.kind k.r ks) p (each-all P (without k.kind k.r ks) h))

-- without the Ask, no Ask is kept
none-left : (last : ℕ → Option (List ℕ)) (ks : List Kept) → Each (IsLast last) ks → Each IsNoAsk (without timer.Ask 0 ks)
none-left last [] h = tt
none-left last (k ∷ ks) h = go (is_under timer.Ask 0 k) refl (none-left last ks h.1) where
  none : is_under timer.Ask 0 k ≡ false → (e : ℕ) (b : Bool) → is_ask e (message_head k.bytes) ≡ b → is_ask e (message_head k.bytes) ≡ false
  none other e false is = is
  none other e true is = absurd (both_ways (is_under timer.Ask 0 k) other (h.0 e is).0)

  go : (b : Bool) → is_under timer.Ask 0 k ≡ b → Each IsNoAsk (without timer.Ask 0 ks) → Each IsNoAsk (cond (not b) (k ∷ without timer.Ask 0 ks) (without timer.Ask 0 ks))
  go true under rest = rest
  go false other rest = (λ e. none other e (is_ask e (message_head k.bytes)) refl, rest)

-- ---- messages

-- the Asks of epoch e that node n sends
abbrev pub asks_in : ℕ → ℕ → List (Place × List ℕ) → List (List ℕ)
asks_in n e ms = pick (ask_by n e) (map (sending (Node n)) ms)

pub in-append : (n e : ℕ) (xs ys : List (Place × List ℕ)) → asks_in n e (xs ++ ys) ≡ asks_in n e xs ++ asks_in n e ys
in-append n e xs ys = ap (pick (ask_by n e)) (map-append (sending (Node n)) xs ys) ∙ pick-append (ask_by n e) (map (sending (Node n)) xs) (map (sending (Node n)) ys)

is-no-ask : (k : Kind) (e d : ℕ) → (k ≡ kind.Ask → ⊥) → is_ask e (Some (head k d)) ≡ false
is-no-ask kind.Ask e d other = absurd (other refl)
is-no-ask _ e d other = refl

other-kind : (e c d : ℕ) (b : Body) → (kind_of b ≡ kind.Ask → ⊥) → is_ask e (message_head (message c d b)) ≡ false
other-kind e c d b other = ap (is_ask e) (spelled-some _) ∙ is-no-ask (kind_of b) e (epoch_at (message c d b)) other

and-false : (b : Bool) → b && false ≡ false
and-false true = refl
and-false false = refl

-- a message that is no Ask
none-sent : (n e : ℕ) (to : Place) (bytes : List ℕ) → is_ask e (message_head bytes) ≡ false → ask_by n e (sending (Node n) (to, bytes)) ≡ None
none-sent n e Front bytes none = ap (λ b. cond (nat_eq n n && b) (Some bytes) None) none ∙ ap (λ b. cond b (Some bytes) None) (and-false (nat_eq n n))
none-sent n e _ bytes none = refl

pub keeps-none : (n e : ℕ) (ks : List Kept) → Each IsNoAsk ks → asks_in n e (map sent_of ks) ≡ []
keeps-none n e [] h = refl
keeps-none n e (k ∷ ks) h = (λ i. listed (none-sent n e k.to k.bytes (h.0 e) i) ++ keeps-none n e ks h.1 i)

-- ---- what a turn must be

module _ (c n : ℕ) (last : ℕ → Option (List ℕ)) where
  -- the last Asks behind these messages
  abbrev pub then_last : List (Place × List ℕ) → ℕ → Option (List ℕ)
  then_last ms e = fold (λ (o : Option (List ℕ)) (bytes : List ℕ). Some bytes) (last e) (asks_in n e ms)

  -- the messages go on as they must, where so many jobs wait then, and what is known stays known
  abbrev pub Outcome : ℕ → List (Place × List ℕ) → NodePart → Type 0
  Outcome waiting ms q = ((e : ℕ) → AsksGoOn (IsNextAsk c e waiting) (last e) (asks_in n e ms)) × PartAsks c (then_last ms) q

  asks-same : (then : ℕ → Option (List ℕ)) (q : NodePart) → ((e : ℕ) → then e ≡ last e) → PartAsks c last q → PartAsks c then q
  asks-same then q same h = subst (λ (l : ℕ → Option (List ℕ)). PartAsks c l q) (λ i e. sym (same e) i) h

  again-goes : (next : Option (List ℕ) → List ℕ → Type 0) (o : Option (List ℕ)) (all : List (List ℕ)) → Each (λ bytes. o ≡ Some bytes) all → AsksGoOn next o all × (fold (λ (o : Option (List ℕ)) (bytes : List ℕ). Some bytes) o all ≡ o)
  again-goes next o [] h = (tt, refl)
  again-goes next o (bytes ∷ more) h =
      let rest = again-goes next o more h.1 in
      (inl (h.0, rest.0), ap (λ (p : Option (List ℕ)). fold (λ (o : Option (List ℕ)) (b : List ℕ). Some b) p more) (sym h.0) ∙ rest.1)

  -- the last ones are sent again
  pub again-outcome : (waiting : ℕ) (ms : List (Place × List ℕ)) (q : NodePart) → ((e : ℕ) → Each (λ bytes. last e ≡ Some bytes) (asks_in n e ms)) → PartAsks c last q → Outcome waiting ms q
  again-outcome waiting ms q again h = (
    λ e. (again-goes (IsNextAsk c e waiting) (last e) (asks_in n e ms) (again e)).0,
    asks-same (then_last ms) q (λ e. (again-goes (IsNextAsk c e waiting) (last e) (asks_in n e ms) (again e)).1) h,
  )

  pub none-outcome : (waiting : ℕ) (ms : List (Place × List ℕ)) (q : NodePart) → ((e : ℕ) → asks_in n e ms ≡ []) → PartAsks c last q → Outcome waiting ms q
  none-outcome waiting ms q none h = again-outcome waiting ms q (λ e. subst (Each (λ bytes. last e ≡ Some bytes)) (sym (none e)) tt) h

  -- what is kept, sent again
  pub kept-again : (e : ℕ) (ks : List Kept) → Each (IsLast last) ks → Each (λ bytes. last e ≡ Some bytes) (asks_in n e (map sent_of ks))
  kept-again e [] h = tt
  kept-again e (k ∷ ks) h = Each-append (λ bytes. last e ≡ Some bytes) (listed (ask_by n e (sending (Node n) (k.to, k.bytes)))) (asks_in n e (map sent_of ks)) (one k.to) (kept-again e ks h.1) where
    one : (to : Place) → Each (λ bytes. last e ≡ Some bytes) (listed (ask_by n e (sending (Node n) (to, k.bytes))))
    one (Node m) = tt
    one (Client d) = tt
    one Front = go (nat_eq n n) (is_ask e (message_head k.bytes)) refl where
      go : (a b : Bool) → is_ask e (message_head k.bytes) ≡ b → Each (λ bytes. last e ≡ Some bytes) (listed (cond (a && b) (Some k.bytes) None))
      go true true is = ((h.0 e is).1, tt)
      go true false is = tt
      go false b is = tt

  -- ---- a turn

  module _ (env : NodeEnv) (number : env.serve.c ≡ c) where
    abbrev asked_bytes : Asked → List ℕ
    asked_bytes a = message env.serve.c env.epoch (body.Ask a.number a.queue a.size a.paths)

    ask-head : env.epoch < 2 ^ 16 → (a : Asked) (e : ℕ) → is_ask e (message_head (asked_bytes a)) ≡ (env.epoch == e)
    ask-head small a e = ap (is_ask e) (spelled-head (record { c = env.serve.c; epoch = record { 0 = env.epoch }; body = body.Ask a.number a.queue a.size a.paths }) small)

    fetch-none : (w : Want) → IsNoAsk (fetch_of env w)
    fetch-none w e = other-kind e env.serve.c env.epoch (body.Fetch w.r w.path) (λ i. cc)

    wants-none : (ws : List Want) (ks : List Kept) → Each IsNoAsk ks → Each IsNoAsk (wants_kept env ws ks)
    wants-none [] ks h = h
    wants-none (w ∷ ws) ks h = wants-none ws (anew (fetch_of env w) ks) (anew-each IsNoAsk (fetch_of env w) ks (fetch-none w) (filter-each IsNoAsk _ ks h))

    wants-unsent : (e : ℕ) (ws : List Want) → asks_in n e (wants_sent env ws) ≡ []
    wants-unsent e [] = refl
    wants-unsent e (w ∷ ws) = (λ i. listed (none-sent n e (fetch_of env w).to (fetch_of env w).bytes (fetch-none w e) i) ++ wants-unsent e ws i)

    ended-none : (final : _) (count : ℕ) → IsNoAsk (ended_kept env.serve.c env.epoch final count)
    ended-none final count e = other-kind e env.serve.c env.epoch (body.Ended final.reason final.snd.0 final.rcv.0 count) (λ i. cc)

    ended-unsent : (e : ℕ) (over : Option ℕ) (given : Ending) → asks_in n e (ended_sent env over given) ≡ []
    ended-unsent e over (ending.Here b count) = refl
    ended-unsent e over (ending.Over final) = ap (λ o. listed o ++ []) (none-sent n e Front (ended_kept env.serve.c env.epoch final (reset_count over)).bytes (ended-none final (reset_count over) e))

    pub taken-unsent : (e : ℕ) → asks_in n e (taken_sent env) ≡ []
    taken-unsent e = ap (λ o. listed o ++ []) (none-sent n e Front (message env.serve.c env.epoch body.Taken) (other-kind e env.serve.c env.epoch body.Taken (λ i. cc)))

    pub refused-unsent : (e : ℕ) → asks_in n e (refused_sent env) ≡ []
    refused-unsent e = ap (λ o. listed o ++ []) (none-sent n e Front (message env.serve.c env.epoch body.Refused) (other-kind e env.serve.c env.epoch body.Refused (λ i. cc)))

    give-none : (w : Work) → IsNoAsk (give_kept env w)
    give-none w e = other-kind e env.serve.c env.epoch (body.Give (parts_of w.service.block w.service.count)) (λ i. cc)

    give-unsent : (e : ℕ) (w : Work) → asks_in n e (sent_of (give_kept env w) ∷ []) ≡ []
    give-unsent e w = ap (λ o. listed o ++ []) (none-sent n e Front (give_kept env w).bytes (give-none w e))

    -- of all that a turn sends, the Ask that it makes and what goes out before
    all-asks : (e : ℕ) (before : List (Place × List ℕ)) (w : Work) → asks_in n e (all_sent env before w) ≡ asks_in n e before ++ asks_in n e (asked_sent env w.asked)
    all-asks e before w =
        in-append n e (before ++ asked_sent env w.asked) (wants_sent env w.wants)
        ∙ (λ i. in-append n e before (asked_sent env w.asked) i ++ wants-unsent e w.wants i)
        ∙ append-nil (asks_in n e before ++ asks_in n e (asked_sent env w.asked))

    pub turn-asks : (e : ℕ) (before : List (Place × List ℕ)) (w : Work) (given : Ending) → asks_in n e (all_sent env before w ++ ended_sent env w.service.over given) ≡ asks_in n e before ++ asks_in n e (asked_sent env w.asked)
    turn-asks e before w given =
        in-append n e (all_sent env before w) (ended_sent env w.service.over given)
        ∙ (λ i. all-asks e before w i ++ ended-unsent e w.service.over given i)
        ∙ append-nil (asks_in n e before ++ asks_in n e (asked_sent env w.asked))

    -- and where the connection goes back
    back-asks : (e : ℕ) (before : List (Place × List ℕ)) (w : Work) → asks_in n e (turn_back env before w).messages ≡ asks_in n e before ++ asks_in n e (asked_sent env w.asked)
    back-asks e before w =
        in-append n e (all_sent env before w) (sent_of (give_kept env w) ∷ [])
        ∙ (λ i. all-asks e before w i ++ give-unsent e w i)
        ∙ append-nil (asks_in n e before ++ asks_in n e (asked_sent env w.asked))

    -- a turn that makes no Ask
    pub unasked-part : (part : NodePart) (w : Work) (given : Ending) (was : ℕ) → w.asked ≡ None → w.asks ≡ was → Each (IsLast last) part.kept → Each IsNoAsk part.fetches → ((e : ℕ) → env.epoch < e → last e ≡ None) → IsAskNumbered c env.epoch (last env.epoch) was
        → PartAsks c last (kept_after env part w given)
    unasked-part part w (ending.Here b count) was none so kept fetches fresh counted = record {
      fresh = fresh;
      kept = subst (λ (o : Option Asked). Each (IsLast last) (asked_kept env o part.kept)) (sym none) kept;
      fetches = wants-none w.wants part.fetches fetches;
      stay = subst (IsAskNumbered c env.epoch (last env.epoch)) (sym so) counted;
    }
    unasked-part part w (ending.Over final) was none so kept fetches fresh counted = record { fresh = fresh; kept = (no-last last (ended_kept env.serve.c env.epoch final (reset_count w.service.over)) (ended-none final (reset_count w.service.over)), tt); fetches = tt; stay = tt }

    -- and one that makes one
    asked-part : env.epoch < 2 ^ 16 → (part : NodePart) (w : Work) (given : Ending) (then : ℕ → Option (List ℕ)) (a : Asked) (was : ℕ) → w.asked ≡ Some a → a.number ≡ was + 1 → w.asks ≡ was + 1 → Each (IsLast last) part.kept → Each IsNoAsk part.fetches
        → ((e : ℕ) → env.epoch < e → then e ≡ None) → then env.epoch ≡ Some (asked_bytes a) → PartAsks c then (kept_after env part w given)
    asked-part small part w (ending.Here b count) then a was some one so kept fetches fresh at = record {
      fresh = fresh;
      kept = subst (λ (o : Option Asked). Each (IsLast then) (asked_kept env o part.kept)) (sym some)
          (anew-each (IsLast then) (ask_kept env.serve.c env.epoch a) part.kept (λ e is. (refl, ap then (sym (eqb-true env.epoch e (sym (ask-head small a e) ∙ is))) ∙ at))
          (Each-weaker IsNoAsk (IsLast then) (no-last then) (without timer.Ask 0 part.kept) (none-left last part.kept kept)));
      fetches = wants-none w.wants part.fetches fetches;
      stay = subst (λ (o : Option (List ℕ)). IsAskNumbered c env.epoch o w.asks) (sym at) (a.queue, a.size, a.paths, λ i. message (number i) env.epoch (body.Ask ((one ∙ sym so) i) a.queue a.size a.paths));
    }
    asked-part small part w (ending.Over final) then a was some one so kept fetches fresh at = record { fresh = fresh; kept = (no-last then (ended_kept env.serve.c env.epoch final (reset_count w.service.over)) (ended-none final (reset_count w.service.over)), tt); fetches = tt; stay = tt }

    asked-in : env.epoch < 2 ^ 16 → (a : Asked) (e : ℕ) (b : Bool) → (env.epoch == e) ≡ b → asks_in n e (asked_sent env (Some a)) ≡ cond b (asked_bytes a ∷ []) []
    asked-in small a e b is = (λ i. listed (cond (same_number n i && (ask-head small a e ∙ is) i) (Some (asked_bytes a)) None) ++ []) ∙ go b where
      go : (b : Bool) → listed (cond (true && b) (Some (asked_bytes a)) None) ++ [] ≡ cond b (asked_bytes a ∷ []) []
      go true = refl
      go false = refl

    -- What messages come to that have the Ask of a turn alone: what is kept then is as it must be, by whether there is one.
    sends-outcome : env.epoch < 2 ^ 16 → (w : Work) (ms : List (Place × List ℕ)) (q : NodePart) (was : ℕ) → IsAsking env was w → ((e : ℕ) → asks_in n e ms ≡ asks_in n e (asked_sent env w.asked))
        → ((e : ℕ) → env.epoch < e → last e ≡ None) → IsAskNumbered c env.epoch (last env.epoch) was → (w.asked ≡ None → w.asks ≡ was → PartAsks c last q)
        → ((then : ℕ → Option (List ℕ)) (a : Asked) → w.asked ≡ Some a → a.number ≡ was + 1 → w.asks ≡ was + 1 → ((e : ℕ) → env.epoch < e → then e ≡ None) → then env.epoch ≡ Some (asked_bytes a) → PartAsks c then q)
        → Outcome (env.queue + length w.jobs) ms q
    sends-outcome small w ms q was h all-are fresh counted unasked asked = go w.asked refl h where
      go : (o : Option Asked) → w.asked ≡ o → AskedSo env was w o → Outcome (env.queue + length w.jobs) ms q
      go None is so = none-outcome (env.queue + length w.jobs) ms q (λ e. all-are e ∙ ap (λ o. asks_in n e (asked_sent env o)) is) (unasked is so)
      go (Some a) is so =
          let ours : (e : ℕ) (b : Bool) → (env.epoch == e) ≡ b → asks_in n e ms ≡ cond b (asked_bytes a ∷ []) [] = λ e b f. all-are e ∙ ap (λ o. asks_in n e (asked_sent env o)) is ∙ asked-in small a e b f in (
            λ e. goes e (env.epoch == e) refl (ours e (env.epoch == e) refl) so.0 so.2,
            asked (then_last ms) a is so.0 so.1 (λ e later. behind e (env.epoch == e) refl (ours e (env.epoch == e) refl) later) (ap (keeping env.epoch) (ours env.epoch true (eqb-same env.epoch))),
          ) where
            keeping : ℕ → List (List ℕ) → Option (List ℕ)
            keeping e all = fold (λ (o : Option (List ℕ)) (bytes : List ℕ). Some bytes) (last e) all

            eqb-same : (e : ℕ) → (e == e) ≡ true
            eqb-same e = same_number e

            behind : (e : ℕ) (b : Bool) → (env.epoch == e) ≡ b → asks_in n e ms ≡ cond b (asked_bytes a ∷ []) [] → env.epoch < e → then_last ms e ≡ None
            behind e true f are later = let same : env.epoch ≡ e = eqb-true env.epoch e f in absurd (omega (arith, same, later))
            behind e false f are later = ap (keeping e) are ∙ fresh e later

            goes : (e : ℕ) (b : Bool) → (env.epoch == e) ≡ b → asks_in n e ms ≡ cond b (asked_bytes a ∷ []) [] → a.number ≡ was + 1 → a.queue ≡ env.queue + length w.jobs → AsksGoOn (IsNextAsk c e (env.queue + length w.jobs)) (last e) (asks_in n e ms)
            goes e false f are one queue = subst (AsksGoOn (IsNextAsk c e (env.queue + length w.jobs)) (last e)) (sym are) tt
            goes e true f are one queue = subst (AsksGoOn (IsNextAsk c e (env.queue + length w.jobs)) (last e)) (sym are)
                (subst (λ (d : ℕ). AsksGoOn (IsNextAsk c d (env.queue + length w.jobs)) (last d) (asked_bytes a ∷ [])) (eqb-true env.epoch e f)
                (inr ((was, a.size, a.paths, counted, λ i. message (number i) env.epoch (body.Ask (one i) (queue i) a.size a.paths)), refl)))

    -- what a turn comes to
    pub turn-outcome : env.epoch < 2 ^ 16 → (part : NodePart) (before : List (Place × List ℕ)) (w : Work) (given : Ending × Turn) (was : ℕ) → IsAsking env was w → ((e : ℕ) → asks_in n e before ≡ []) → Each (IsLast last) part.kept → Each IsNoAsk part.fetches
        → ((e : ℕ) → env.epoch < e → last e ≡ None) → IsAskNumbered c env.epoch (last env.epoch) was → Outcome (env.queue + length w.jobs) (turn_by env before w given).messages (kept_after env part w given.0)
    turn-outcome small part before w given was h none kept fetches fresh counted =
        sends-outcome small w (turn_by env before w given).messages (kept_after env part w given.0) was h (λ e. turn-asks e before w given.0 ∙ ap (λ l. l ++ asks_in n e (asked_sent env w.asked)) (none e)) fresh counted
        (λ is so. unasked-part part w given.0 was is so kept fetches fresh counted) (λ then a is one so later at. asked-part small part w given.0 then a was is one so kept fetches later at)

    -- one that goes back awaits no Ask
    back-part : (part : NodePart) (w : Work) (then : ℕ → Option (List ℕ)) → ((e : ℕ) → env.epoch < e → then e ≡ None) → PartAsks c then (kept_back env part w)
    back-part part w then fresh = record { fresh = fresh; kept = (no-last then (give_kept env w) (give-none w), tt); fetches = tt; stay = tt }

    pub back-outcome : env.epoch < 2 ^ 16 → (part : NodePart) (before : List (Place × List ℕ)) (w : Work) (was : ℕ) → IsAsking env was w → ((e : ℕ) → asks_in n e before ≡ [])
        → ((e : ℕ) → env.epoch < e → last e ≡ None) → IsAskNumbered c env.epoch (last env.epoch) was → Outcome (env.queue + length w.jobs) (turn_back env before w).messages (kept_back env part w)
    back-outcome small part before w was h none fresh counted =
        sends-outcome small w (turn_back env before w).messages (kept_back env part w) was h (λ e. back-asks e before w ∙ ap (λ l. l ++ asks_in n e (asked_sent env w.asked)) (none e)) fresh counted
        (λ is so. back-part part w last fresh) (λ then a is one so later at. back-part part w then later)
