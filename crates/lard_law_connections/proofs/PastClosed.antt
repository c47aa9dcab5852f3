-- A node that decided a connection is closed once that is elsewhere, and a hand-off goes to an open node: so it goes to one that is new to it.
use Rattle.std.proofs.Common.{◌≡◌, ◌⊎◌, ℕ, not, nat_eq, Bool, true, false, List, [], ◌∷◌, ◌++◌, map, Option, Some, None, Ok, refl, sym, ap, ◌∙◌, subst, arith, inl, inr, ⊎_elim}
use Rattle.std.proofs.lemmas.Bool.{cases_eq, cond_both}
use Rattle.std.proofs.lemmas.List.Sums.{fold-append}
use Rattle.std.specs.List.{filter, fold, list_any}
use Rattle.lard_law_view.specs.Prelude.{BackRow, Came, Config, Conn, EachMay, Event, GoesBy, HasRule, IsConnNumber, IsReached, Machine, MayRestOn, Move, NodePart, Packet, Rec, Row, Seen, came_seen, config_check, conn, conn_of, gone, grown, is_node_closed, is_open, letter_of, machine_start, machine_step, net_of, net_step, node_closed_step, node_put_back, numbers, one_of, own, packet_at, plain, rows_of, seen_in, seen_of, seen_on, whose}
use Rattle.lard_law_connections.specs.Past.{AtFront, AtNode, ClosesBehind, DecidedIn, GoesToNew, HasDecided, IsAtOrOver, IsNewTo, NewAt, Over, Whereabouts, whereabouts, whereabouts_of}
use Rattle.lard_law_connections.specs.PastLaws.{AssignsOpen, ConnectionsGoToNew, PastIsClosed}
use Rattle.lard_law_connections.proofs.PastChoices.{firsts-are-open}
use Rattle.lard_law_connections.proofs.PastMoves.{Closes, Ends, Forgets, FromHere, FrontGoes, Goes, GoesOn, Hands, InFront, InNode, IsAssigned, IsThere, NodeGoes, Remains, Returns, Stays, StaysHere, going}
use Rattle.lard_law_connections.proofs.NotedRows.{noted-row}
use Rattle.lard_law_connections.specs.Places.{IsPast}
use Rattle.lard_law_connections.proofs.LineBounds.{may-behind}
use Rattle.lard_law_connections.proofs.PlacesRuns.{each-placed}
use Rattle.lard_law_connections.proofs.PlacesTurns.{IsPlaced}
use Rattle.lard_law_connections.proofs.PolicyCounted.{books-are-told}
use Rattle.lard_law_connections.proofs.PolicyStanding.{told-open}
use Rattle.lard_law_view.proofs.After.{IsAfter, step-after}
use Rattle.lard_law_view.proofs.Carried.{IsOn, carried-keep, goes-on, may-move}
use Rattle.lard_law_view.proofs.Parts.{put-each, put-same}
use Rattle.lard_law_view.proofs.Runs.{passes-more, start-blank}
use Rattle.lard_loads.proofs.Firsts.{IsIn, any-filter, none-filter}
use Rattle.lard_history.proofs.Each.{Each, Each-append}
use Rattle.lard_history.proofs.Seeing.{has-behind, has-each, own-append}
use Rattle.lard_history.proofs.Stepping.{cancel}
use Rattle.lard_journal.specs.declared.rec.Rec.TheVariants as rec

-- ---- closed nodes stay closed

abbrev IsClosed : List Rec → ℕ → Type 0
IsClosed J n = is_node_closed J n ≡ true

closed-stays : (n : ℕ) (r : Rec) → node_closed_step n true r ≡ true
closed-stays n (rec.Closed m) = cond_both (nat_eq m n) true true (λ b. b ≡ true) (λ t. refl) (λ t. refl)
closed-stays n _ = refl

all-stay : (n : ℕ) (rs : List Rec) → fold (node_closed_step n) true rs ≡ true
all-stay n [] = refl
all-stay n (r ∷ rs) = ap (λ (b : Bool). fold (node_closed_step n) b rs) (closed-stays n r) ∙ all-stay n rs

closed-more : (J rs : List Rec) (n : ℕ) → IsClosed J n → IsClosed (J ++ rs) n
closed-more J rs n closed = fold-append (node_closed_step n) false J rs ∙ ap (λ (b : Bool). fold (node_closed_step n) b rs) closed ∙ all-stay n rs

-- ---- the first assignments of a step are to nodes that were open before it

module _ (J : List Rec) where
  abbrev OpenIn : Rec → Type 0
  OpenIn (rec.AssignedFirst c r path n add remove) = IsClosed J n → ⊥
  OpenIn _ = Unit {0}

  abbrev OpenSeen : Seen → Type 0
  OpenSeen (Row r) = OpenIn r
  OpenSeen (Came l) = Unit {0}

  each-opens : (past rs : List Rec) → ((n : ℕ) → IsClosed J n → IsClosed past n) → EachMay AssignsOpen past rs → Each OpenIn rs
  each-opens past [] more may = tt
  each-opens past (r ∷ rs) more may = (one r may.0, each-opens (past ++ r ∷ []) rs (λ n closed. closed-more past (r ∷ []) n (more n closed)) may.1) where
    one : (r : Rec) → AssignsOpen past r → OpenIn r
    one (rec.AssignedFirst c i path n add remove) open_ = λ closed. let no : true ≡ false = sym (more n closed) ∙ open_ in cc
    one _ open_ = tt

  plain-opens : (r : Rec) → OpenIn r → OpenIn (plain r)
  plain-opens (rec.Event i e) h = tt
  plain-opens (rec.Sent k from to bytes) h = tt
  plain-opens _ h = h

  one-opens : (q : ℕ) (o : Option ℕ) (s : Seen) → OpenSeen s → Each OpenSeen (one_of q o s)
  one-opens q None s h = tt
  one-opens q (Some c) s h = cond_both (nat_eq c q) (s ∷ []) [] (Each OpenSeen) (λ t. (h, tt)) (λ t. tt)

  seen-opens : (q : ℕ) (net : List Packet) (r : Rec) → OpenIn r → Each OpenSeen (seen_of q net r)
  seen-opens q net (rec.Got k) h = came (packet_at net k) where
    came : (o : Option Packet) → Each OpenSeen (came_seen q o)
    came None = tt
    came (Some p) = one-opens q (conn_of p.from p.to p.bytes) (Came (letter_of p)) tt
  seen-opens q net r h = one-opens q (whose r) (Row (plain r)) (plain-opens r h)

  list-opens : (q : ℕ) (net : List Packet) (rs : List Rec) → Each OpenIn rs → Each OpenSeen (seen_on q net rs)
  list-opens q net [] h = tt
  list-opens q net (r ∷ rs) h =
      Each-append OpenSeen (seen_of q net r) (seen_on q (net_step net r) rs) (seen-opens q net r h.0) (list-opens q (net_step net r) rs h.1)

-- what a connection sees of a step is what its move says
seen-is : (m n : Machine) (rs : List Rec) (q : ℕ) (v : Move) → n.journal ≡ m.journal ++ rs → conn n q ≡ grown (conn m q) v
    → seen_on q (net_of m.journal) rs ≡ seen_in (conn m q) v
unfolding conn
seen-is m n rs q v is goes = cancel (own q m.journal) (seen_on q (net_of m.journal) rs) (seen_in (conn m q) v)
    (sym (own-append q m.journal rs) ∙ ap (own q) (sym is) ∙ ap (λ (x : Conn). x.seen) goes)

-- ---- a move

-- By this journal what it left is closed; and it goes to a node that is new to it.
record IsPastSo (J : List Rec) (x : Conn) : Type 0 where
  closes : ClosesBehind (IsClosed J) x
  new : GoesToNew x

undecided-new : (e : ℕ) (o : Option BackRow) → (HasDecided o → ⊥) → IsNewTo e o
undecided-new e None h = tt
undecided-new e (Some row) h = absurd (h tt)

decided-new : (e : ℕ) (o : Option BackRow) → DecidedIn e o → IsNewTo e o
decided-new e None h = tt
decided-new e (Some row) h = h

forgets-has : (o : Option BackRow) → HasDecided (gone o) → HasDecided o
forgets-has None h = h
forgets-has (Some row) h = h

forgets-new : (e : ℕ) (o : Option BackRow) → IsNewTo e o → IsNewTo e (gone o)
forgets-new e None h = h
forgets-new e (Some row) h = h

module _ (J K : List Rec) (more : (n : ℕ) → IsClosed J n → IsClosed K n) (x : Conn) (h : IsPastSo J x) where
  abbrev nodes : ℕ → NodePart
  nodes = x.part.nodes

  -- where it stays as it is
  stays-so : IsPastSo K x
  stays-so = record { closes = λ n decided. ⊎_elim (λ at. inl at) (λ closed. inr (more n closed)) (h.closes n decided); new = h.new }

  -- where the front end has it, all that decided it are closed
  front-closed : whereabouts_of x ≡ AtFront → (n : ℕ) → HasDecided (nodes n).row → IsClosed J n
  front-closed here n decided = ⊎_elim (λ at. absurd (subst (IsAtOrOver n) here at)) (λ closed. closed) (h.closes n decided)

  -- and where it comes back from a node that did not take it, which knows nothing of it
  back-closed : (m e : ℕ) → whereabouts_of x ≡ AtNode m e → IsPast e (nodes m).row → (n : ℕ) → HasDecided (nodes n).row → IsClosed J n
  back-closed m e is past n decided = ⊎_elim
      (λ at. absurd (none (nodes n).row (subst (λ (i : ℕ). IsPast e (nodes i).row) (mine at) past)
      (subst (λ (i : ℕ). IsNewTo e (nodes i).row) (mine at) (subst (NewAt nodes) is h.new)) decided))
      (λ closed. closed) (h.closes n decided) where
        mine : IsAtOrOver n (whereabouts_of x) → m ≡ n
        mine at = subst (IsAtOrOver n) is at

        none : (o : Option BackRow) → IsPast e o → IsNewTo e o → HasDecided o → ⊥
        none None past new decided = decided
        none (Some row) past new decided = let less = past.0 in omega (arith, less, new)

  -- ---- the front end moves it

  module _ (ns : List Rec) (opens : (n : ℕ) → IsAssigned x.c n ns → IsClosed J n → ⊥) where
    module _ (all : (n : ℕ) → HasDecided (nodes n).row → IsClosed J n) where
      on-closes : (q : Whereabouts) → GoesOn x.c q ns → (n : ℕ) → HasDecided (nodes n).row → IsAtOrOver n q ⊎ IsClosed K n
      on-closes q (Closes by is) n decided = inl (subst (IsAtOrOver n) (sym is) tt)
      on-closes q _ n decided = inr (more n (all n decided))

      on-new : (q : Whereabouts) → GoesOn x.c q ns → NewAt nodes q
      on-new q (StaysHere is) = subst (NewAt nodes) (sym is) tt
      on-new q (Hands n e is assigned) = subst (NewAt nodes) (sym is) (undecided-new e (nodes n).row (λ decided. opens n assigned (all n decided)))
      on-new q (Closes by is) = subst (NewAt nodes) (sym is) tt

    front-closes : (q : Whereabouts) → FrontGoes x.c nodes (whereabouts_of x) q ns → (n : ℕ) → HasDecided (nodes n).row → IsAtOrOver n q ⊎ IsClosed K n
    front-closes q (Stays is) n decided = ⊎_elim (λ at. inl (subst (IsAtOrOver n) (sym is) at)) (λ closed. inr (more n closed)) (h.closes n decided)
    front-closes q (FromHere here goes) n decided = on-closes (front-closed here) q goes n decided
    front-closes q (Ends m e at is) n decided = inl (subst (IsAtOrOver n) (sym is) tt)
    front-closes q (Returns m e at past goes) n decided = on-closes (back-closed m e at past) q goes n decided

    front-new : (q : Whereabouts) → FrontGoes x.c nodes (whereabouts_of x) q ns → NewAt nodes q
    front-new q (Stays is) = subst (NewAt nodes) (sym is) h.new
    front-new q (FromHere here goes) = on-new (front-closed here) q goes
    front-new q (Ends m e at is) = subst (NewAt nodes) (sym is) tt
    front-new q (Returns m e at past goes) = on-new (back-closed m e at past) q goes

  -- ---- a node does

  module _ (n : ℕ) (q : NodePart) where
    abbrev after : ℕ → NodePart
    after = node_put_back nodes n q

    node-closes : NodeGoes n (whereabouts_of x) (nodes n).row q.row → (k : ℕ) → HasDecided (after k).row → IsAtOrOver k (whereabouts_of x) ⊎ IsClosed K k
    node-closes goes = put-each nodes n q (λ k p. HasDecided p.row → IsAtOrOver k (whereabouts_of x) ⊎ IsClosed K k) (mine goes)
        (λ k other decided. stays-so.closes k decided) where
          mine : NodeGoes n (whereabouts_of x) (nodes n).row q.row → HasDecided q.row → IsAtOrOver n (whereabouts_of x) ⊎ IsClosed K n
          mine (IsThere e at is) decided = inl (subst (IsAtOrOver n) (sym at) refl)
          mine (Forgets is) decided = stays-so.closes n (forgets-has (nodes n).row (subst HasDecided is decided))
          mine (Remains is) decided = stays-so.closes n (subst HasDecided is decided)

    -- where this node is new to it still
    still-new : ((e : ℕ) → IsNewTo e (nodes n).row → IsNewTo e q.row) → (at : Whereabouts) → NewAt nodes at → NewAt after at
    still-new mine AtFront new = tt
    still-new mine (Over by) new = tt
    still-new mine (AtNode m e) new = put-each nodes n q (λ k p. IsNewTo e (nodes k).row → IsNewTo e p.row) (mine e) (λ k other old. old) m new

    node-new : NodeGoes n (whereabouts_of x) (nodes n).row q.row → NewAt after (whereabouts_of x)
    node-new (IsThere e at is) = subst (NewAt after) (sym at) (subst (λ (p : NodePart). IsNewTo e p.row) (sym (put-same nodes n q)) (decided-new e q.row is))
    node-new (Forgets is) = still-new (λ e old. subst (IsNewTo e) (sym is) (forgets-new e (nodes n).row old)) (whereabouts_of x) h.new
    node-new (Remains is) = still-new (λ e old. subst (IsNewTo e) (sym is) old) (whereabouts_of x) h.new

  move-so : (v : Move) → Each (OpenSeen J) (seen_in x v) → Goes x v → IsPastSo K (grown x v)
  move-so v opens (InFront same goes) = record {
    closes = λ n decided.
        front-closes v.said.notes open_ (whereabouts_of (grown x v)) goes n (subst (λ (ps : ℕ → NodePart). HasDecided (ps n).row) same decided);
    new = subst (λ (ps : ℕ → NodePart). NewAt ps (whereabouts_of (grown x v))) (sym same) (front-new v.said.notes open_ (whereabouts_of (grown x v)) goes);
  } where
    open_ : (n : ℕ) → IsAssigned x.c n v.said.notes → IsClosed J n → ⊥
    open_ n a =
        let r : Rec = rec.AssignedFirst x.c a.r a.path n a.add a.remove in
        has-each (Row r) (OpenSeen J) (seen_in x v) (has-behind (Row r) v.heads (map Row (rows_of x v)) (noted-row x v r a.noted)) opens
  move-so v opens (InNode n q front same goes) = record {
    closes = λ k decided. subst (λ (at : Whereabouts). IsAtOrOver k at ⊎ IsClosed K k) at_same
        (node-closes n q goes k (subst (λ (ps : ℕ → NodePart). HasDecided (ps k).row) same decided));
    new = subst (λ (at : Whereabouts). NewAt v.part.nodes at) at_same
        (subst (λ (ps : ℕ → NodePart). NewAt ps (whereabouts_of x)) (sym same) (node-new n q goes));
  } where
    at_same : whereabouts_of x ≡ whereabouts_of (grown x v)
    at_same = ap (λ f. whereabouts f.row) (sym front)

-- ---- every state

module _ (config : Config) (files : List (List ℕ × List ℕ)) (checked : config_check config ≡ Ok tt) where
  abbrev AllPast : Machine → Type 0
  AllPast m = (q : ℕ) → IsPastSo m.journal (conn m q)

  step-so : (m n : Machine) (e : Event) → IsOn config files m → AllPast m → HasRule e → machine_step m e ≡ Ok n → AllPast n
  step-so m n e on h rule is q =
      let after : IsAfter m e n = step-after m on.view e n rule is in
      let reached : IsReached config files n = (on.reached.0 ++ e ∷ [], passes-more on.reached.0 (machine_start config files) m n e on.reached.1 rule is) in
      let may : EachMay AssignsOpen m.journal after.step = may-behind AssignsOpen [] m.journal after.step
      (subst (EachMay AssignsOpen []) after.is (firsts-are-open config files n checked reached)) in
      let opens : Each (OpenSeen m.journal) (seen_on q (net_of m.journal) after.step) =
      list-opens m.journal q (net_of m.journal) after.step (each-opens m.journal m.journal after.step (λ k closed. closed) may) in
      let more : (k : ℕ) → IsClosed m.journal k → IsClosed n.journal k =
      λ k closed. subst (λ (J : List Rec). IsClosed J k) (sym after.is) (closed-more m.journal after.step k closed) in
      let P : Conn → Move → Type 0 = λ x v. MayRestOn IsPlaced x → Goes x v in
      let goes : GoesBy (λ x v. IsConnNumber x.c × P x v) (conn m q) (conn n q) = goes-on config files P (λ l. going _) m n e on rule is q in
      ⊎_elim
      (λ (same : conn n q ≡ conn m q). subst (IsPastSo n.journal) (sym same) (stays-so m.journal n.journal more (conn m q) (h q)))
      (λ (k : (v : Move) × (IsConnNumber (conn m q).c × P (conn m q) v) × (conn n q ≡ grown (conn m q) v)).
      let may_rest : MayRestOn IsPlaced (conn m q) = may-move IsPlaced (conn m q) k.1.0 (on.view.sound q) (each-placed config files checked m on.reached q) in
      subst (IsPastSo n.journal) (sym k.2)
      (move-so m.journal n.journal more (conn m q) (h q) k.0 (subst (Each (OpenSeen m.journal)) (seen-is m n after.step q k.0 after.is k.2) opens) (k.1.1 may_rest)))
      goes

  past-so : (m : Machine) → IsReached config files m → AllPast m
  past-so = carried-keep config files AllPast
      (λ q. subst (IsPastSo []) (sym (start-blank config files q)) (record { closes = λ n decided. absurd decided; new = tt })) step-so

pub connections-go-to-new : ConnectionsGoToNew
connections-go-to-new config files m checked r q = (past-so config files checked m r q).new

-- ---- as the dispatcher has it

in-or-out : (n : ℕ) (xs : List ℕ) → IsIn n xs ⊎ (IsIn n xs → ⊥)
in-or-out n [] = inr (λ h. h)
in-or-out n (x ∷ xs) = ⊎_elim
    (λ (same : x ≡ n). inl (inl same))
    (λ (other : x ≡ n → ⊥). ⊎_elim (λ (h : IsIn n xs). inl (inr h)) (λ (out : IsIn n xs → ⊥). inr (⊎_elim other out)) (in-or-out n xs))
    (cases_eq x n)

-- a node that was closed is not open
closed-shut : (config : Config) (J : List Rec) (n : ℕ) → IsClosed J n
    → list_any (nat_eq n) (filter (λ k. not (is_node_closed J k)) (numbers config.nodes)) ≡ false
closed-shut config J n closed = ⊎_elim
    (λ (within : IsIn n (numbers config.nodes)). any-filter (λ k. not (is_node_closed J k)) n (numbers config.nodes) within ∙ ap not closed)
    (λ (out : IsIn n (numbers config.nodes) → ⊥). none-filter (λ k. not (is_node_closed J k)) n (numbers config.nodes) out)
    (in-or-out n (numbers config.nodes))

pub past-is-closed : PastIsClosed
past-is-closed config files m checked r q n decided = ⊎_elim
    (λ (at : IsAtOrOver n (whereabouts_of (conn m q))). inl at)
    (λ (closed : IsClosed m.journal n). inr (ap (λ t. is_open t n) (books-are-told config files m checked r).0
    ∙ ap (list_any (nat_eq n)) (told-open config m.journal) ∙ closed-shut config m.journal n closed))
    ((past-so config files checked m r q).closes n decided)
