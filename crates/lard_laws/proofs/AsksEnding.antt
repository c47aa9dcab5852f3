-- The batch before is over where later requests are assigned and shares were open, and nowhere else.
use Rattle.std.proofs.Common.{◌≡◌, ◌≤◌, ℕ, ◌+◌, ◌==◌, nat_lt, nat_eq, Bool, true, false, cond, if◌then◌else◌, List, [], ◌∷◌, ◌++◌, length, Option, Some, None, Result, Ok, Err, refl, sym, ap, ◌∙◌, subst, arith, append-nil, append_assoc, eqb-true, ⊎_elim}
use Rattle.std.proofs.lemmas.Bool.{and_parts}
use Rattle.lard_law_view.specs.Prelude.{Ask, Body, Came, Client, Did, Event, Front, FrontRest, LaterChoice, Machine, Message, MsgFault, Node, Packet, Place, Rec, Row, Seen, ask_of, assigned_notes, came_seen, conn, conn_of, decoded_message, front_did, front_gave, front_part, is_row_at, letter_of, listed, machine_step, net_of, net_step, one_of, open_shares, over_note, own, packet_at, part_of, plain, seen_of, seen_on, timer_rows, whose}
use Rattle.lard_base.specs.declared.event.Event.TheVariants as event
use Rattle.lard_laws.specs.AsksAnswers.{EndsWith, IsAnswered, later_assigned, dues, ends_due}
use Rattle.lard_laws.specs.Asks.{Asking, AskTale, LaterAssigned, ask_from, ask_in, ask_on, ask_tale, end_in, is_its, is_next, later_in}
use Rattle.lard_laws.proofs.AsksAsked.{its-is, with-told}
use Rattle.lard_laws.proofs.AsksComing.{Delivers, IsRow, rows-unasked, step-comes}
use Rattle.lard_laws.proofs.AsksFilling.{asked-is, did}
use Rattle.lard_laws.proofs.AsksMoving.{IsTold, Told}
use Rattle.lard_laws.proofs.AsksPicking.{way-told}
use Rattle.lard_law_connections.specs.MotionStory.{Story, of_row, picked, story}
use Rattle.lard_law_connections.proofs.MotionElsewhere.{IsKnown}
use Rattle.lard_law_connections.proofs.MotionPicking.{pick, pick-append, pick-none}
use Rattle.lard_law_connections.proofs.PolicyAsides.{IsAside, allows-aside}
use Rattle.lard_law_connections.proofs.Calm.{changed-calm, first-calm, first_rows, last-calm, last_rows, told-journal}
use Rattle.lard_rules.proofs.MessageTold.{IsTold as IsDecoded, message-told}
use Rattle.lard_law_view.proofs.After.{IsAfter}
use Rattle.lard_law_view.proofs.Naming.{Names, decoded-names}
use Rattle.lard_history.proofs.Each.{Each, Each-weaker}
use Rattle.lard_history.proofs.Seeing.{same_number}
use Rattle.lard_history.proofs.Stepping.{cancel}
use Rattle.lard_journal.specs.declared.rec.Rec.TheVariants as rec
use Rattle.lard_message.specs.declared.message.Body.TheVariants as body
use Rattle.lard_message.proofs.Fields.{some_same}

-- ---- ends of connection q, in a list of records

abbrev ends_of : ℕ → Rec → Option ℕ
ends_of q (rec.BatchOver c) = if nat_eq c q then Some c else None
ends_of q _ = None

module _ (q : ℕ) where
  none-seen : (o : Option ℕ) (s : Seen) → of_row end_in s ≡ None → picked (of_row end_in) (one_of q o s) ≡ []
  none-seen None s none = refl
  none-seen (Some c) s none = go (nat_eq c q) where
    go : (b : Bool) → picked (of_row end_in) (cond b (s ∷ []) []) ≡ []
    go true = ap (λ o. listed o ++ []) none
    go false = refl

  none-came : (o : Option Packet) → picked (of_row end_in) (came_seen q o) ≡ []
  none-came None = refl
  none-came (Some p) = none-seen (conn_of p.from p.to p.bytes) (Came (letter_of p)) refl

  one-end : (net : List Packet) (r : Rec) → picked (of_row end_in) (seen_of q net r) ≡ listed (ends_of q r)
  one-end net (rec.Got k) = none-came (packet_at net k)
  one-end net (rec.BatchOver c) = go (nat_eq c q) where
    go : (b : Bool) → picked (of_row end_in) (cond b (Row (rec.BatchOver c) ∷ []) []) ≡ listed (cond b (Some c) None)
    go true = refl
    go false = refl
  one-end net r = none-seen (whose r) (Row (plain r)) refl

  ends-are : (net : List Packet) (rs : List Rec) → picked (of_row end_in) (seen_on q net rs) ≡ pick (ends_of q) rs
  ends-are net [] = refl
  ends-are net (r ∷ rs) = picked-both (seen_of q net r) (seen_on q (net_step net r) rs) ∙ (λ i. one-end net r i ++ ends-are (net_step net r) rs i) where
    picked-both : (xs ys : List Seen) → picked (of_row end_in) (xs ++ ys) ≡ picked (of_row end_in) xs ++ picked (of_row end_in) ys
    picked-both [] ys = refl
    picked-both (x ∷ xs) ys = ap (λ l. listed (of_row end_in x) ++ l) (picked-both xs ys) ∙ sym (append_assoc (listed (of_row end_in x)) (picked (of_row end_in) xs) (picked (of_row end_in) ys))

  aside-none : (r : Rec) → IsAside r → ends_of q r ≡ None
  aside-none (rec.BatchOver c) h = absurd h
  aside-none _ h = refl

  asides-none : (rs : List Rec) → Each IsAside rs → pick (ends_of q) rs ≡ []
  asides-none rs e = pick-none (ends_of q) rs (Each-weaker IsAside (λ r. ends_of q r ≡ None) aside-none rs e)

  -- between records aside
  between-ends : (xs ys zs : List Rec) → Each IsAside xs → Each IsAside zs → pick (ends_of q) (xs ++ ys ++ zs) ≡ pick (ends_of q) ys
  between-ends xs ys zs e f =
      pick-append (ends_of q) (xs ++ ys) zs ∙ (λ i. pick-append (ends_of q) xs ys i ++ asides-none zs f i) ∙ append-nil (pick (ends_of q) xs ++ pick (ends_of q) ys) ∙ ap (λ l. l ++ pick (ends_of q) ys) (asides-none xs e)

  over-ends : (b : Bool) → pick (ends_of q) (over_note q b) ≡ cond b (q ∷ []) []
  over-ends true = ap (λ b. listed (cond b (Some q) None) ++ []) (same_number q)
  over-ends false = refl

  assigned-ends : (ask : Ask) (r : ℕ) (paths : List (List ℕ)) (choices : List LaterChoice) → pick (ends_of q) (assigned_notes q ask r paths choices) ≡ []
  assigned-ends ask r [] choices = refl
  assigned-ends ask r (path ∷ paths) [] = refl
  assigned-ends ask r (path ∷ paths) (choice ∷ choices) = assigned-ends ask (r + 1) paths choices

  notes-ends : (ask : Ask) (b : Bool) (r : ℕ) (paths : List (List ℕ)) (choices : List LaterChoice) → pick (ends_of q) (over_note q b ++ assigned_notes q ask r paths choices) ≡ cond b (q ∷ []) []
  notes-ends ask b r paths choices =
      pick-append (ends_of q) (over_note q b) (assigned_notes q ask r paths choices) ∙ (λ i. over-ends b i ++ assigned-ends ask r paths choices i) ∙ append-nil (cond b (q ∷ []) [])

-- ---- a step

module _ (m n : Machine) (e : Event) (after : IsAfter m e n) (is : machine_step m e ≡ Ok n) (told_is : net_of m.journal ≡ m.net) (q : ℕ) (told : Told (conn m q)) (known : IsKnown (conn m q))
    (answered : IsAnswered q (own q m.journal) (seen_on q (net_of m.journal) after.step)) where
  abbrev t : AskTale
  t = ask_tale q (own q m.journal)

  abbrev seen : List Seen
  seen = seen_on q (net_of m.journal) after.step

  abbrev opens : Bool
  opens = nat_lt 0 (open_shares m.front.dispatch.books.loads q)

  abbrev IsEnded : Type 0
  IsEnded = picked (of_row end_in) seen ≡ ends_due q opens (picked (of_row later_in) seen)

  -- nothing is assigned
  nothing-ended : dues t (picked ask_in seen) ≡ [] → IsEnded
  nothing-ended none =
      let laters : picked (of_row later_in) seen ≡ [] = answered.assigns ∙ none in
      subst (λ (ls : List LaterAssigned). EndsWith ls (picked (of_row end_in) seen)) laters answered.ends ∙ ap (ends_due q opens) (sym laters)

  -- the next Ask is
  module _ (k : ℕ) (p : Packet) (it-is : e ≡ event.Deliver k) (at : packet_at m.net k ≡ Some p) (i : ℕ) (is-from : p.from ≡ Node i) (is-to : p.to ≡ Front) (epoch number queue size : ℕ) (paths : List (List ℕ))
      (spells : decoded_message p.bytes ≡ Ok (record { c = q; epoch = record { 0 = epoch }; body = body.Ask number queue size paths })) (some : 1 ≤ length paths)
      (comes : picked ask_in seen ≡ record { from = i; epoch = epoch; number = number; queue = queue; size = size; paths = paths } ∷ []) where
    abbrev a : Asking
    a = record { from = i; epoch = epoch; number = number; queue = queue; size = size; paths = paths }

    next-ended : is_next t a ≡ true → (r : FrontRest) → is_row_at i epoch (front_part m.front q).row ≡ true → (front_part m.front q).rest ≡ Some r → number ≡ r.asks + 1 → IsEnded
    unfolding timer_rows
    next-ended next r there found one =
        let stepped : machine_step m (event.Deliver k) ≡ Ok n = ap (machine_step m) (sym it-is) ∙ is in
        let done : Did = did m n k p at i is-from is-to stepped q epoch number queue size paths spells r there found one in
        let given = front_did m.front q done in
        let w : Machine = record m { front = given.0 } in
        let n_is : n ≡ front_gave m (event.Deliver k) (rec.Got k ∷ []) given = asked-is m n k p at i is-from is-to stepped q epoch number queue size paths spells r there found one in
        let rows : List Rec = first_rows w (event.Deliver k) ++ given.1.notes ++ last_rows w Front given.1 in
        let step_is : after.step ≡ rows = cancel m.journal after.step rows (sym after.is ∙ ap (λ (x : Machine). x.journal) n_is ∙ told-journal w (event.Deliver k) Front given.1) in
        let timers : Each IsAside given.1.timers = changed-calm IsAside allows-aside Front q (record (part_of m q) { front = front_part m.front q }) (record (part_of m q) { front = done.part }) given.1.timers refl in
        let ends : picked (of_row end_in) seen ≡ cond opens (q ∷ []) [] =
        ap (λ (rs : List Rec). picked (of_row end_in) (seen_on q (net_of m.journal) rs)) step_is
        ∙ ends-are q (net_of m.journal) rows
        ∙ between-ends q (first_rows w (event.Deliver k)) given.1.notes (last_rows w Front given.1) (first-calm IsAside allows-aside w (event.Deliver k))
        (last-calm IsAside allows-aside w Front given.1 tt timers)
        ∙ notes-ends q (ask_of q i number queue size paths) opens r.assigned paths _ in
        let laters : picked (of_row later_in) seen ≡ assigned-of paths = answered.assigns ∙ ap (dues t) comes ∙ ap (λ b. cond b (assigned-of paths) [] ++ []) next ∙ append-nil (assigned-of paths) in
        ends ∙ some-ends paths some ∙ ap (ends_due q opens) (sym laters) where
          assigned-of : List (List ℕ) → List LaterAssigned
          assigned-of ps = later_assigned a t.done.assigned ps

          some-ends : (ps : List (List ℕ)) → 1 ≤ length ps → cond opens (q ∷ []) [] ≡ ends_due q opens (assigned-of ps)
          some-ends [] le = absurd (omega (arith, le))
          some-ends (path ∷ ps) le = refl

    asked-ended : IsEnded
    unfolding conn part_of
    asked-ended = go (is_next t a) refl where
      with-rest : is_next t a ≡ true → is_row_at i epoch (front_part m.front q).row ≡ true → (o : Option FrontRest) → (front_part m.front q).rest ≡ o → IsTold t.done o → IsEnded
      with-rest next there None found h = absurd h
      with-rest next there (Some r) found h = next-ended next r there found (eqb-true number (t.done.last + 1) ((and_parts (is_its t.way a) (number == t.done.last + 1) next).1) ∙ ap (λ x. x + 1) (sym h.0))

      go : (b : Bool) → is_next t a ≡ b → IsEnded
      go false next = nothing-ended (ap (dues t) comes ∙ ap (λ b. cond b (later_assigned a t.done.assigned paths) [] ++ []) next)
      go true next =
          let there : is_row_at i epoch (front_part m.front q).row ≡ true =
          sym (ap (λ (s : Story). is_its s a) (way-told q (own q m.journal)) ∙ its-is (story q (own q m.journal)) (front_part m.front q).row a known.row) ∙ (and_parts (is_its t.way a) (number == t.done.last + 1) next).0 in
          with-rest next there (front_part m.front q).rest refl (with-told t.done (front_part m.front q).rest (front_part m.front q).row i epoch there told)

  -- by what comes
  module _ (d : Delivers q (net_of m.journal) e seen) where
    abbrev l : Packet
    l = d.p

    came-is : picked ask_in seen ≡ listed (ask_on l.from l.to l.bytes)
    came-is = ap (picked ask_in) d.seen_is ∙ ap (λ ss. listed (ask_on l.from l.to l.bytes) ++ ss) (rows-unasked d.rows d.behind) ∙ append-nil (listed (ask_on l.from l.to l.bytes))

    no-ask : ask_on l.from l.to l.bytes ≡ None → IsEnded
    no-ask none = nothing-ended (ap (dues t) (came-is ∙ ap listed none))

    module _ (i : ℕ) (is-from : l.from ≡ Node i) (is-to : l.to ≡ Front) where
      on-is : (r : Result Message MsgFault) → decoded_message l.bytes ≡ r → ask_on l.from l.to l.bytes ≡ ask_from i r
      on-is r is = (λ j. ask_on (is-from j) (is-to j) l.bytes) ∙ ap (ask_from i) is

      by-ask : (msg : Message) → decoded_message l.bytes ≡ Ok msg → (number queue size : ℕ) (paths : List (List ℕ)) → msg.body ≡ body.Ask number queue size paths → IsEnded
      by-ask msg reads number queue size paths says =
          let named : Names l.bytes msg.c = decoded-names msg l.bytes reads in
          let whose_is : msg.c ≡ q = some_same msg.c q (sym named.named ∙ sym (λ j. conn_of (is-from j) (is-to j) l.bytes) ∙ d.of) in
          let spells : decoded_message l.bytes ≡ Ok (record { c = q; epoch = record { 0 = msg.epoch.0 }; body = body.Ask number queue size paths }) = reads ∙ (λ j. Ok (record { c = whose_is j; epoch = record { 0 = msg.epoch.0 }; body = says j })) in
          asked-ended d.k l d.is (ap (λ net. packet_at net d.k) (sym told_is) ∙ d.at) i is-from is-to msg.epoch.0 number queue size paths spells (subst IsDecoded spells (message-told l.bytes)).1 (came-is ∙ ap listed (on-is _ spells))

      by-body : (msg : Message) → decoded_message l.bytes ≡ Ok msg → (b : Body) → msg.body ≡ b → IsEnded
      by-body msg reads (body.Ask number queue size paths) says = by-ask msg reads number queue size paths says
      by-body msg reads _ says = no-ask (on-is (Ok msg) reads ∙ ap (λ b. ask_from i (Ok (record msg { body = b }))) says)

      by-reading : (r : Result Message MsgFault) → decoded_message l.bytes ≡ r → IsEnded
      by-reading (Err fault) reads = no-ask (on-is (Err fault) reads)
      by-reading (Ok msg) reads = by-body msg reads msg.body refl

    by-places : (from to : Place) → l.from ≡ from → l.to ≡ to → IsEnded
    by-places (Node i) Front is-from is-to = by-reading i is-from is-to (decoded_message l.bytes) refl
    by-places (Node i) (Node j) is-from is-to = no-ask (λ k. ask_on (is-from k) (is-to k) l.bytes)
    by-places (Node i) (Client c) is-from is-to = no-ask (λ k. ask_on (is-from k) (is-to k) l.bytes)
    by-places Front to is-from is-to = no-ask (λ k. ask_on (is-from k) (is-to k) l.bytes)
    by-places (Client c) to is-from is-to = no-ask (λ k. ask_on (is-from k) (is-to k) l.bytes)

  pub step-ends : IsEnded
  step-ends = ⊎_elim
      (λ (rows : Each IsRow seen). nothing-ended (ap (dues t) (rows-unasked seen rows)))
      (λ (d : Delivers q (net_of m.journal) e seen). by-places d d.p.from d.p.to refl refl)
      (step-comes q m n e after (net_of m.journal))
