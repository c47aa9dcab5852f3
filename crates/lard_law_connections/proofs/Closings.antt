-- A node is closed in the step of its drain, and in that in which a connection comes back from it, where it was open, and nowhere else; and some
-- node stays open.
use Rattle.std.proofs.Common.{◌≡◌, ℕ, zero, suc, ◌+◌, ◌<◌, ◌||◌, not, nat_eq, Bool, true, false, cond, List, [], ◌∷◌, ◌++◌, length, Option, Some, None, Result, Ok, Err, refl, sym, ap, ◌∙◌, subst, ⊎_elim, inl, inr, arith, append-nil, append_assoc}
use Rattle.std.specs.Prelude.{◌⊎◌, slice_get}
use Rattle.std.proofs.lemmas.Bool.Decides.{nat_tests}
use Rattle.std.specs.List.{list_any}
use Rattle.lard_law_view.specs.Prelude.{Body, Config, EndpointParts, Epoch, Event, Front, FrontDeed, FrontPart, FrontRow, FrontState, HasRule, IsReached, Machine, Message, MsgFault, Node, NodeState, Out, Packet, Place, Rec, SpellsMessage, StepFault, back_answer, back_body, clocked, closed_note, config_check, decoded_message, drained, front_acts, front_drains, front_gave, front_out_of, front_part, front_saying, front_setting, from_place, has_other_open, is_no_node, is_node_closed, is_open, leaves_at, machine_step, machine_told, message_comes, next_epoch, node_at, numbers, packet_at, parts_back, reads_on, to_place, which_leave}
use Rattle.lard_base.specs.declared.event.Event.TheVariants as event
use Rattle.lard_dispatch.specs.Calls.{after_close, ended_answer}
use Rattle.lard_handoff_front.specs.declared.table.returns.Back.{Back}
use Rattle.lard_handoff_front.specs.declared.table.returns.Back.TheVariants as back
use Rattle.lard_journal.specs.declared.rec.Rec.TheVariants as rec
use Rattle.lard_law_connections.specs.Closings.{ClosesWhereDue, MustClose, SomeNodeStays, back_between, back_from, back_of, closed_in, is_taking, still_open, to_close}
use Rattle.lard_law_connections.proofs.Calm.{Allows, first-calm, gifts-calm, last-calm, last_rows, timers-calm, told-journal}
use Rattle.lard_law_connections.proofs.Happened.{deliver-is, done-happens, ok-same}
use Rattle.lard_law_connections.proofs.LeaversSenders.{returns-leave}
use Rattle.lard_law_connections.proofs.PolicyCounted.{books-are-told, past-has}
use Rattle.lard_dispatch.proofs.Chosen.{all-numbers}
use Rattle.lard_history.proofs.Seeing.{same_number}
use Rattle.lard_law_connections.proofs.PolicyStanding.{some-stays, told-open}
use Rattle.lard_law_view.proofs.After.{IsAfter, step-after}
use Rattle.lard_law_view.proofs.AnyShape.{AnyShape, IsAct, step-any}
use Rattle.lard_law_view.proofs.Carried.{IsOn, carried-keep}
use Rattle.lard_law_view.proofs.OwnRecords.{IsDrain, IsNoClosing, behind}
use Rattle.lard_law_view.proofs.Shapes.{ClosesBehind, HearsReturn}
use Rattle.lard_message.specs.declared.message.Body.TheVariants as body
use Rattle.lard_rules.specs.Front.{Does, Drops, Says, given_sent}
use Rattle.lard_rules.specs.FrontPlace.{HeadTurn, comes_back, env_behind, goes_behind, head_turn, put_returned, returned_deed, returned_notes, returns}
use Rattle.lard_rules.specs.declared.fault.Refusal.TheVariants.{LastNode, NoNode}
use Rattle.lard_rules.specs.declared.fault.StepFault.TheVariants.{Refused}
use Rattle.lard_rules.specs.declared.front.FrontIn.TheVariants as input
use Rattle.lard_history.proofs.Each.{Each, Each-append}
use Rattle.lard_history.proofs.Stepping.{AreLawful, cancel, one-more}
use Rattle.lard_loads.proofs.Firsts.{IsIn, any-filter, in_range}

-- ---- which nodes records close

none-closed : (rs : List Rec) → Each IsNoClosing rs → closed_in rs ≡ []
none-closed [] e = refl
none-closed (rec.Closed n ∷ rs) e = absurd e.0
none-closed (r ∷ rs) e = none-closed rs e.1

allows-none : Allows IsNoClosing
allows-none = record {
  event = λ i e. tt;
  opened = λ c isn iss wnd mss. tt;
  injected = λ c. tt;
  got = λ k. tt;
  lost = λ k. tt;
  sent = λ k from to bytes. tt;
  gave = λ place c epoch. tt;
  armed = λ place c kind. tt;
  cleared = λ place c kind. tt;
}

-- what is noted of a connection that comes back, whose node was open or not
abbrev back_rows : ℕ → ℕ → Epoch → Bool → List Rec → List Rec
back_rows c from taken open_ rest = rec.Took Front c taken ∷ cond open_ (rec.Closed from ∷ []) [] ++ rec.Released c ∷ [] ++ rest

-- Behind its event a step has no closing; or a connection comes back, whose node is closed.
pub record ComesBack (m : Machine) (e : Event) (rows : List Rec) : Type 0 where
  pub c : ℕ
  pub from : ℕ
  pub hears : HearsReturn m e c from
  pub taken : Epoch
  pub open_ : Bool
  pub rest : List Rec
  pub are : rows ≡ behind e ++ back_rows c from taken open_ rest
  pub none : Each IsNoClosing rest

-- what the step adds to the journal
pub record Adds (m : Machine) (e : Event) (n : Machine) : Type 0 where
  pub rows : List Rec
  pub is : n.journal ≡ m.journal ++ rec.Event (m.events + 1) e ∷ rows
  pub closes : IsDrain e ⊎ (ComesBack m e rows ⊎ Each IsNoClosing rows)

module _ (m : Machine) where
  module _ (w : Machine) (e : Event) (place : Place) (o : Out) (act : IsAct m w e place o) where
    abbrev rows_of : List Rec
    rows_of = behind e ++ o.notes ++ last_rows w place o

    last-none : Each IsNoClosing (last_rows w place o)
    last-none = last-calm IsNoClosing allows-none w place o
        (gifts-calm IsNoClosing allows-none place o.gave act.gave) (timers-calm IsNoClosing allows-none place o.timers act.timers)

    notes-none : Each IsNoClosing o.notes → Each IsNoClosing rows_of
    notes-none none = Each-append IsNoClosing (behind e ++ o.notes) (last_rows w place o)
        (Each-append IsNoClosing (behind e) o.notes (first-calm IsNoClosing allows-none w e).1 none) last-none

    notes-back : (c : ℕ) → ClosesBehind m e c o.notes → ComesBack m e rows_of
    notes-back c b = record {
      c = c;
      from = b.from;
      hears = b.hears;
      taken = b.taken;
      open_ = b.open_;
      rest = b.rest ++ last_rows w place o;
      are = append_assoc (behind e) o.notes (last_rows w place o)
          ∙ ap (λ (rs : List Rec). behind e ++ rs) (ap (λ (rs : List Rec). rs ++ last_rows w place o) b.are ∙ regroup b.open_);
      none = Each-append IsNoClosing b.rest (last_rows w place o) b.none last-none;
    } where
      regroup : (open_ : Bool) → back_rows c b.from b.taken open_ b.rest ++ last_rows w place o
          ≡ back_rows c b.from b.taken open_ (b.rest ++ last_rows w place o)
      regroup true = refl
      regroup false = refl

    told-adds : Adds m e (machine_told w e (behind e) place o)
    told-adds = record {
      rows = rows_of;
      is = told-journal w e place o ∙ ap (λ (J : List Rec). J ++ rec.Event (w.events + 1) e ∷ rows_of) act.put.journal
          ∙ ap (λ (i : ℕ). m.journal ++ rec.Event (i + 1) e ∷ rows_of) act.put.events;
      closes = ⊎_elim (λ (d : IsDrain e). inl d)
          (⊎_elim (λ (back : (c : ℕ) × ClosesBehind m e c o.notes). inr (inl (notes-back back.0 back.1)))
          (λ (none : Each IsNoClosing o.notes). inr (inr (notes-none none))))
          act.closes;
    }

  any-adds : AnyShape m (Adds m)
  unfolding clocked
  any-adds = record {
    acts = told-adds;
    nobody = λ k l at there. record { rows = rec.Got k ∷ []; is = refl; closes = inr (inr (tt, tt)) };
    loses = λ k l at there. record { rows = rec.Lost k ∷ []; is = refl; closes = inr (inr (tt, tt)) };
    clocks = λ ms. record { rows = rec.Clock (record { 0 = m.now + ms }) ∷ []; is = refl; closes = inr (inr (tt, tt)) };
  }

-- ---- a drain

abbrev drain-after : Machine → ℕ → Machine
drain-after m i = front_acts m (event.Drain i) [] (input.Drain i)

abbrev drain-by : Machine → ℕ → Bool → Result Machine StepFault
drain-by m i b = cond b (Ok (drain-after m i)) (Err (Refused (LastNode i)))

-- it is done: the node is there, and is closed
pub drain-is : (m n : Machine) (i : ℕ) → machine_step m (event.Drain i) ≡ Ok n → (is_no_node m.config.nodes i ≡ false) × (n ≡ drain-after m i)
unfolding drained
drain-is m n i is = go (is_no_node m.config.nodes i) refl (done-happens m n (event.Drain i) is).1 where
  other : (b : Bool) → drain-by m i b ≡ Ok n → n ≡ drain-after m i
  other true e = sym (ok-same (drain-after m i) n e)
  other false e = cc

  go : (b : Bool) → is_no_node m.config.nodes i ≡ b
      → cond {A = Result Machine StepFault} b (Err (Refused (NoNode i m.config.nodes))) (drain-by m i (has_other_open m.front.dispatch.books.loads i)) ≡ Ok n
      → (is_no_node m.config.nodes i ≡ false) × (n ≡ drain-after m i)
  go true none e = cc
  go false there e = (there, other (has_other_open m.front.dispatch.books.loads i) e)

-- a node that there is
within-nodes : (nodes i : ℕ) → is_no_node nodes i ≡ false → IsIn i (numbers nodes)
within-nodes nodes i there = in_range 1 nodes i (grind (arith, nat_tests, there)) (grind (arith, nat_tests, there))

-- the journal's rows of a drain
drain-rows : (m : Machine) (i : ℕ) → (drain-after m i).journal ≡ m.journal ++ rec.Event (m.events + 1) (event.Drain i) ∷ closed_note m.front.dispatch i
drain-rows m i = told-journal (record m { front = (front_drains m.front i).0 }) (event.Drain i) Front (front_drains m.front i).1
    ∙ ap (λ (rs : List Rec). m.journal ++ rec.Event (m.events + 1) (event.Drain i) ∷ rs) (append-nil (closed_note m.front.dispatch i))

-- a drain closes its node where it is open
drain-closes : (m : Machine) (i : ℕ) → is_open m.front.dispatch.books.loads i ≡ not (is_node_closed m.journal i)
    → closed_in (closed_note m.front.dispatch i) ≡ still_open m.journal (i ∷ [])
drain-closes m i open_ = ap (λ b. closed_in (cond b (rec.Closed i ∷ []) [])) open_ ∙ go (not (is_node_closed m.journal i)) where
  go : (b : Bool) → closed_in (cond b (rec.Closed i ∷ []) []) ≡ cond b (i ∷ []) []
  go true = refl
  go false = refl

-- ---- a connection that comes back

-- what comes between these places may bring one back
abbrev IsToFront : Place → Place → Type 0
IsToFront (Node n) Front = Unit {0}
IsToFront _ _ = ⊥

abbrev IsReturn : Body → Type 0
IsReturn body.Refused = Unit {0}
IsReturn (body.Give parts) = Unit {0}
IsReturn _ = ⊥

abbrev SaysReturn : Result Message MsgFault → Type 0
SaysReturn (Err fault) = ⊥
SaysReturn (Ok m) = IsReturn m.body

back-is : (given : Option EndpointParts) → IsReturn (back_body given)
back-is None = tt
back-is (Some parts) = tt

abbrev IsDelivery : Event → Type 0
IsDelivery (event.Deliver k) = Unit {0}
IsDelivery _ = ⊥

-- what the front end notes begins so
abbrev BeginsBy : List Rec → FrontState × Out → Type 0
BeginsBy notes x = (rest : List Rec) × (x.1.notes ≡ notes ++ rest)

behind-begins : (old : FrontState) (c : ℕ) (notes : List Rec) (said : List (Place × List ℕ)) (h : HeadTurn) (deed : FrontDeed)
    → BeginsBy notes (goes_behind old c notes said h deed)
behind-begins old c notes said h Drops = (h.turn.notes ++ [], append_assoc notes h.turn.notes [])
behind-begins old c notes said h (Says t) = (h.turn.notes ++ t.notes, append_assoc notes h.turn.notes t.notes)
behind-begins old c notes said h (Does x) = (h.turn.notes ++ x.turn.notes, append_assoc notes h.turn.notes x.turn.notes)

-- The front end does not take it, and no node is closed; or it does, and its node is closed where it was open.
abbrev BackRows : Machine → ℕ → ℕ → List Rec → Type 0
BackRows m c from rows =
    ((closed_in rows ≡ []) × (list_any (is_taking c) rows ≡ false))
    ⊎ ((taken : Epoch) × (rest : List Rec) × (rows ≡ back_rows c from taken (is_open m.front.dispatch.books.loads from) rest))

module _ (m : Machine) (j from c epoch : ℕ) (given : Option EndpointParts) where
  -- what stands behind the record that the packet came
  abbrev rows_by : FrontState × Out → List Rec
  rows_by x = x.1.notes ++ last_rows (record m { front = x.0 }) Front x.1

  abbrev FineBack : FrontState × Out → Type 0
  FineBack x = BackRows m c from (rows_by x)

  abbrev said : List (Place × List ℕ)
  said = given_sent c from epoch given

  new-rows : (x : FrontState × Out) (row : FrontRow) → BeginsBy (returned_notes m.front.dispatch from c row) x → FineBack x
  new-rows x row begins = inr (
    next_epoch row,
    begins.0 ++ last,
    ap (λ (rs : List Rec). rs ++ last) begins.1 ∙ go (is_open m.front.dispatch.books.loads from),
  ) where
    last : List Rec
    last = last_rows (record m { front = x.0 }) Front x.1

    go : (b : Bool) → (rec.Took Front c (next_epoch row) ∷ cond b (rec.Closed from ∷ []) [] ++ rec.Released c ∷ []) ++ begins.0 ++ last
        ≡ back_rows c from (next_epoch row) b (begins.0 ++ last)
    go true = refl
    go false = refl

  said-rows : (o : Option EndpointParts) → FineBack (m.front, front_out_of (front_saying (given_sent c from epoch o)) [])
  said-rows None = inl (refl, refl)
  said-rows (Some parts) = inl (refl, refl)

  returns-rows : (row : FrontRow) (parts : EndpointParts) → FineBack (returns (front_setting m) m.front from c said row parts)
  returns-rows row parts =
      let t : FrontState = put_returned (front_setting m) m.front from c row parts in
      let h : HeadTurn = head_turn (front_setting m) t c (ended_answer (after_close m.front.dispatch from) c (front_setting m).now) in
      let deed : FrontDeed = reads_on (env_behind (front_setting m) h c) (front_part m.front c) row parts in
      let notes : List Rec = returned_notes m.front.dispatch from c row in
      new-rows (goes_behind m.front c notes said h deed) row (behind-begins m.front c notes said h deed)

  abbrev given_back : FrontState × Out
  given_back = comes_back (front_setting m) m.front from c epoch given

  returned-rows : FineBack given_back
  returned-rows = go p.row (back_answer from epoch given p.row) (parts_back p given) where
    p : FrontPart
    p = front_part m.front c

    go : (o : Option FrontRow) (answer : Back) (parts : Option EndpointParts)
        → FineBack (returned_deed (front_setting m) m.front from c said o answer parts)
    go (Some row) (back.New next) (Some parts) = returns-rows row parts
    go (Some row) (back.New next) None = inl (refl, refl)
    go (Some row) back.Again parts = said-rows given
    go (Some row) back.Stale parts = inl (refl, refl)
    go None answer parts = inl (refl, refl)

  -- so the step adds these
  returned-journal : (front_gave m (event.Deliver j) (rec.Got j ∷ []) given_back).journal
      ≡ m.journal ++ rec.Event (m.events + 1) (event.Deliver j) ∷ rec.Got j ∷ rows_by given_back
  returned-journal = told-journal (record m { front = given_back.0 }) (event.Deliver j) Front given_back.1

-- what is closed in such rows, where no other closing stands in them
rows-close : (c from : ℕ) (taken : Epoch) (b : Bool) (rest : List Rec) → Each IsNoClosing (back_rows c from taken b rest)
    → closed_in (back_rows c from taken b rest) ≡ cond b (from ∷ []) []
rows-close c from taken true rest none = absurd none.1.0
rows-close c from taken false rest none = none-closed rest none.1.1

same-close : (c from : ℕ) (taken : Epoch) (b : Bool) (rest : List Rec) (d i : ℕ) (epoch : Epoch) (open_ : Bool) (others : List Rec)
    → Each IsNoClosing others → back_rows c from taken b rest ≡ back_rows d i epoch open_ others
    → closed_in (back_rows c from taken b rest) ≡ cond b (from ∷ []) []
same-close c from taken true rest d i epoch true others none same =
    let is : rest ≡ others = cc in ap (λ (ns : List ℕ). from ∷ ns) (ap closed_in is ∙ none-closed others none)
same-close c from taken false rest d i epoch false others none same = let is : rest ≡ others = cc in ap closed_in is ∙ none-closed others none
same-close c from taken true rest d i epoch false others none same = absurd cc
same-close c from taken false rest d i epoch true others none same = absurd cc

back-takes : (c from : ℕ) (taken : Epoch) (b : Bool) (rest : List Rec) → list_any (is_taking c) (back_rows c from taken b rest) ≡ true
back-takes c from taken b rest = ap (λ t. t || list_any (is_taking c) (cond b (rec.Closed from ∷ []) [] ++ rec.Released c ∷ [] ++ rest)) (same_number c)

-- ---- a node that leaves is there

leaves-in : (ns : List NodeState) (i : ℕ) → leaves_at (slice_get ns i) ≡ true → i < length ns
leaves-in [] i leaves = let no : false ≡ true = leaves in cc
leaves-in (s ∷ ns) zero leaves = omega arith
leaves-in (s ∷ ns) (suc i) leaves = omega (arith, leaves-in ns i leaves)

leaver-in : (ns : List NodeState) (i : ℕ) → leaves_at (node_at ns i) ≡ true → IsIn i (numbers (length ns))
leaver-in ns zero leaves = let no : false ≡ true = leaves in cc
leaver-in ns (suc i) leaves = in_range 1 (length ns) (suc i) (omega arith) (omega (arith, leaves-in ns i leaves))

module _ (config : Config) (files : List (List ℕ × List ℕ)) (checked : config_check config ≡ Ok tt) where
  -- the nodes that the front end has open are those that were not closed
  pub open-so : (m : Machine) → IsReached config files m → (i : ℕ) → IsIn i (numbers config.nodes)
      → is_open m.front.dispatch.books.loads i ≡ not (is_node_closed m.journal i)
  open-so m r i within =
      ap (λ t. is_open t i) (books-are-told config files m checked r).0
      ∙ ap (list_any (nat_eq i)) (told-open config m.journal)
      ∙ any-filter (λ n. not (is_node_closed m.journal n)) i (numbers config.nodes) within

  -- ---- a step

  module _ (k n : Machine) (on : IsOn config files k) where
    abbrev Due : List Rec → List ℕ → Type 0
    Due rows ns = closed_in rows ≡ still_open k.journal ns

    -- a drain aside, none is closed where nothing comes back
    none-due : (e : Event) (adds : Adds k e n) → (IsDrain e → ⊥) → ((c from : ℕ) → HearsReturn k e c from → ⊥) → Due adds.rows []
    none-due e adds undrained never = ⊎_elim (λ (d : IsDrain e). absurd (undrained d))
        (⊎_elim (λ (b : ComesBack k e adds.rows). absurd (never b.c b.from b.hears)) (λ (none : Each IsNoClosing adds.rows). none-closed adds.rows none))
        adds.closes

    drain-due : (i : ℕ) → machine_step k (event.Drain i) ≡ Ok n → (adds : Adds k (event.Drain i) n) → Due adds.rows (i ∷ [])
    drain-due i is adds =
        let d = drain-is k n i is in
        let same : rec.Event (k.events + 1) (event.Drain i) ∷ adds.rows ≡ rec.Event (k.events + 1) (event.Drain i) ∷ closed_note k.front.dispatch i =
        cancel k.journal _ _ (sym adds.is ∙ ap (λ (x : Machine). x.journal) d.1 ∙ drain-rows k i) in
        let rows : adds.rows ≡ closed_note k.front.dispatch i = cc in
        let there : is_no_node config.nodes i ≡ false = subst (λ (c : Config). is_no_node c.nodes i ≡ false) on.config_is d.0 in
        ap closed_in rows ∙ drain-closes k i (open-so k on.reached i (within-nodes config.nodes i there))

    module _ (j : ℕ) (adds : Adds k (event.Deliver j) n) where
      abbrev e : Event
      e = event.Deliver j

      -- what the front end hears of a return is the packet that comes
      heard-at : (c from : ℕ) (h : HearsReturn k e c from) → packet_at k.net j ≡ Some h.packet
      heard-at c from h =
          let same : e ≡ event.Deliver h.k = h.delivers in
          let number : j ≡ h.k = cc in
          ap (packet_at k.net) number ∙ h.at

      module _ (p : Packet) (at : packet_at k.net j ≡ Some p) (is : machine_step k e ≡ Ok n) where
        its-packet : (c from : ℕ) (h : HearsReturn k e c from) → h.packet ≡ p
        its-packet c from h = let both : Some h.packet ≡ Some p = sym (heard-at c from h) ∙ at in cc

        module _ (i : ℕ) (sender : p.from ≡ Node i) (goal : p.to ≡ Front) where
          module _ (c epoch : ℕ) (given : Option EndpointParts) (spells : SpellsMessage c epoch (back_body given) p.bytes) where
            abbrev rows : List Rec
            rows = rows_by k j i c epoch given (given_back k j i c epoch given)

            comes-is : (o : Option EndpointParts) → decoded_message p.bytes ≡ Ok (record { c = c; epoch = record { 0 = epoch }; body = back_body o })
                → message_comes (front_setting k) k.front i (decoded_message p.bytes) ≡ comes_back (front_setting k) k.front i c epoch o
            comes-is None says = ap (message_comes (front_setting k) k.front i) says
            comes-is (Some parts) says = ap (message_comes (front_setting k) k.front i) says

            came : n ≡ front_gave k e (rec.Got j ∷ []) (given_back k j i c epoch given)
            came = deliver-is k n j p at is ∙ ap (to_place k j p) goal ∙ ap (from_place k j p.bytes) sender
                ∙ ap (front_gave k e (rec.Got j ∷ [])) (comes-is given spells)

            added : adds.rows ≡ rec.Got j ∷ rows
            added =
                let same : rec.Event (k.events + 1) e ∷ adds.rows ≡ rec.Event (k.events + 1) e ∷ rec.Got j ∷ rows =
                cancel k.journal _ _ (sym adds.is ∙ ap (λ (x : Machine). x.journal) came ∙ returned-journal k j i c epoch given) in
                cc

            -- who sends it is a node of the cluster
            within : IsIn i (numbers config.nodes)
            within =
                let hears : HearsReturn k e c i =
                record { k = j; packet = p; epoch = epoch; given = given; delivers = refl; at = at; sender = sender; goal = goal; spells = spells } in
                let leaves : which_leave k i ≡ true = returns-leave config files k on.reached e c i hears in
                let nodes : length k.nodes ≡ config.nodes = on.view.nodes ∙ ap (λ (x : Config). x.nodes) on.config_is in
                subst (λ (count : ℕ). IsIn i (numbers count)) nodes (leaver-in k.nodes i leaves)

            abbrev open_ : Bool
            open_ = is_open k.front.dispatch.books.loads i

            taken-closes : (taken : Epoch) (rest : List Rec) → rows ≡ back_rows c i taken open_ rest → closed_in rows ≡ cond open_ (i ∷ []) []
            taken-closes taken rest are = ap closed_in are ∙ ⊎_elim (λ (d : IsDrain e). absurd d) (⊎_elim other none) adds.closes where
              its : adds.rows ≡ rec.Got j ∷ back_rows c i taken open_ rest
              its = added ∙ ap (λ (rs : List Rec). rec.Got j ∷ rs) are

              other : ComesBack k e adds.rows → closed_in (back_rows c i taken open_ rest) ≡ cond open_ (i ∷ []) []
              other b = same-close c i taken open_ rest b.c b.from b.taken b.open_ b.rest b.none
                  (cancel (rec.Got j ∷ []) (back_rows c i taken open_ rest) (back_rows b.c b.from b.taken b.open_ b.rest) (sym its ∙ b.are))

              none : Each IsNoClosing adds.rows → closed_in (back_rows c i taken open_ rest) ≡ cond open_ (i ∷ []) []
              none h = rows-close c i taken open_ rest (subst (Each IsNoClosing) its h).1

            abbrev DueBack : List Rec → Type 0
            DueBack rs = Due rs (cond (list_any (is_taking c) rs) (i ∷ []) [])

            back-due : DueBack adds.rows
            back-due = subst DueBack (sym added) (go (returned-rows k j i c epoch given)) where
              go : BackRows k c i rows → closed_in rows ≡ still_open k.journal (cond (list_any (is_taking c) rows) (i ∷ []) [])
              go (inl none) = none.0 ∙ ap (λ b. still_open k.journal (cond b (i ∷ []) [])) (sym none.1)
              go (inr new) =
                  let takes-it : list_any (is_taking c) rows ≡ true = ap (list_any (is_taking c)) new.2 ∙ back-takes c i new.0 open_ new.1 in
                  taken-closes new.0 new.1 new.2 ∙ ap (λ b. cond b (i ∷ []) []) (open-so k on.reached i within)
                  ∙ ap (λ b. still_open k.journal (cond b (i ∷ []) [])) (sym takes-it)

          -- by what the packet says
          front-due : Due adds.rows (back_from adds.rows i (decoded_message p.bytes))
          front-due = go (decoded_message p.bytes) refl where
            heard : (c from : ℕ) → HearsReturn k e c from → SaysReturn (decoded_message p.bytes)
            heard c from h =
                let says = sym (ap (λ (q : Packet). decoded_message q.bytes) (its-packet c from h)) ∙ h.spells in
                subst SaysReturn (sym says) (back-is h.given)

            go : (r : Result Message MsgFault) → decoded_message p.bytes ≡ r → Due adds.rows (back_from adds.rows i r)
            go (Err fault) reads = none-due e adds (λ d. d) (λ c from h. subst SaysReturn reads (heard c from h))
            go (Ok msg) reads = by msg.body reads where
              by : (b : Body) → decoded_message p.bytes ≡ Ok (record { c = msg.c; epoch = msg.epoch; body = b })
                  → Due adds.rows (back_from adds.rows i (Ok (record { c = msg.c; epoch = msg.epoch; body = b })))
              by body.Refused spells = back-due msg.c msg.epoch.0 None spells
              by (body.Give parts) spells = back-due msg.c msg.epoch.0 (Some parts) spells
              by _ spells = none-due e adds (λ d. d) (λ c from h. subst SaysReturn spells (heard c from h))

        packet-due : Due adds.rows (back_between adds.rows p.from p.to p.bytes)
        packet-due = by p.from p.to refl refl where
          known : {from to : Place} (c i : ℕ) → HearsReturn k e c i → p.from ≡ from → p.to ≡ to → IsToFront from to
          known {from} {to} c i h sender goal =
              let sends : Node i ≡ from = sym h.sender ∙ ap (λ (q : Packet). q.from) (its-packet c i h) ∙ sender in
              let gets : Front ≡ to = sym h.goal ∙ ap (λ (q : Packet). q.to) (its-packet c i h) ∙ goal in
              subst (λ (q : Place). IsToFront from q) gets (subst (λ (q : Place). IsToFront q Front) sends tt)

          by : (from to : Place) → p.from ≡ from → p.to ≡ to → Due adds.rows (back_between adds.rows from to p.bytes)
          by (Node i) Front sender goal = front-due i sender goal
          by _ _ sender goal = none-due e adds (λ d. d) (λ c i h. known c i h sender goal)

      deliver-due : machine_step k e ≡ Ok n → Due adds.rows (back_of adds.rows (packet_at k.net j))
      deliver-due is = go (packet_at k.net j) refl where
        go : (o : Option Packet) → packet_at k.net j ≡ o → Due adds.rows (back_of adds.rows o)
        go None at = none-due e adds (λ d. d) (λ c from h. let both : None ≡ Some h.packet = sym at ∙ heard-at c from h in cc)
        go (Some p) at = packet-due p at is

    step-due : (e : Event) → machine_step k e ≡ Ok n → (adds : Adds k e n) → Due adds.rows (to_close k.journal adds.rows e)
    step-due (event.Drain i) is adds = drain-due i is adds
    step-due (event.Deliver j) is adds =
        deliver-due j adds is ∙ ap (λ (net : List Packet). still_open k.journal (back_of adds.rows (packet_at net j))) (sym on.view.told)
    step-due _ is adds = none-due _ adds (λ d. d) (λ c from h. subst IsDelivery (sym h.delivers) tt)

  pub closings-kept : (m : Machine) → IsReached config files m → AreLawful MustClose m.journal
  closings-kept = carried-keep config files (λ k. AreLawful MustClose k.journal) (refl, tt) step where
    step : (k n : Machine) (e : Event) → IsOn config files k → AreLawful MustClose k.journal → HasRule e → machine_step k e ≡ Ok n
        → AreLawful MustClose n.journal
    step k n e on h rule is =
        let after : IsAfter k e n = step-after k on.view e n rule is in
        let adds : Adds k e n = step-any k on.view (Adds k) (any-adds k) e n rule is in
        let same : after.step ≡ rec.Event (k.events + 1) e ∷ adds.rows = cancel k.journal after.step _ (sym after.is ∙ adds.is) in
        let must : MustClose k.journal after.step = subst (MustClose k.journal) (sym same) (step-due k n on e is adds) in
        subst (AreLawful MustClose) (sym after.is) (one-more MustClose k.journal after.step after.one h must)

pub closes-where-due : ClosesWhereDue
closes-where-due config files m checked r = (closings-kept config files checked m r).1

pub some-node-stays : SomeNodeStays
some-node-stays config files m checked r past later is = some-stays config.nodes (is_node_closed past) (numbers config.nodes) (all-numbers config.nodes)
    (subst (λ (ns : List ℕ). 0 < length ns) (told-open config past) (past-has config files m checked r past later is).some_open)
