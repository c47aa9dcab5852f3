-- Each Ask that is sent in a step is the last one again, or says how many jobs the journal counts then.
use Rattle.std.proofs.Common.{◌≡◌, ◌⊎◌, ℕ, suc, ◌+◌, ◌&&◌, nat_eq, Bool, true, false, cond, List, [], ◌∷◌, ◌++◌, drop, length, Option, Some, None, Ok, refl, sym, ap, ◌∙◌, subst, inl, inr, ⊎_elim, eqb-true}
use Rattle.std.specs.List.{fold}
use Rattle.lard_law_view.specs.Prelude.{BackIn, Came, Client, Event, Front, IsViewed, Machine, Node, NodeState, Out, Packet, Place, Rec, Row, Seen, came_seen, conn, conn_of, header_bytes, letter_of, listed, machine_step, named_in, net_step, node_at, node_gave, node_setting, node_step, one_of, own, packet_at, passed, plain, seen_of, seen_on, spelled_message, whose}
use Rattle.lard_laws.specs.AsksSent.{AsksGoOn, IsNextAsk, ask_by, is_ask, last_ask}
use Rattle.lard_law_connections.proofs.Forms.{Comes, NodeActs, NodeStep, NodesStay, Passes, comes-at, node-form}
use Rattle.lard_laws.proofs.AsksSends.{IsSomeNext, PartsAsk}
use Rattle.lard_laws.proofs.AsksSteps.{Told, disk-told, message-told, timer-told}
use Rattle.lard_law_connections.specs.MotionStory.{of_row, picked}
use Rattle.lard_law_connections.proofs.MotionPicking.{pick, picked-append}
use Rattle.lard_law_connections.specs.Places.{message_head}
use Rattle.lard_law_connections.proofs.PlacesTurns.{IsPlaced}
use Rattle.lard_law_view.proofs.Heads.{ActsAt}
use Rattle.lard_history.proofs.Each.{Each}
use Rattle.lard_journal.specs.declared.rec.Rec.TheVariants as rec
use Rattle.lard_message.specs.declared.message.Body.TheVariants as body
use Rattle.std.specs.Int.{w32, to_be_bytes}
use Rattle.lard_rules.specs.declared.node.BackIn.TheVariants as back
use Rattle.lard_rules.specs.Node.{message}
use Rattle.lard_law_view.proofs.OwnRecords.{behind}

-- ---- where a node acts

-- it moves on from what it kept, or a packet passes
abbrev pub Moved : Machine → Event → Machine → ℕ → Type 0
Moved m e n i = ((s : NodeState) × (x : NodeState × Out) × (node_at m.nodes i ≡ Some s) × Told m.journal i x × (n ≡ node_gave m e (behind e) i x)) ⊎ (n ≡ passed m e (behind e))

module _ (m n : Machine) (view : IsViewed m) (placed : (c : ℕ) → IsPlaced (conn m c)) (known : (c : ℕ) → PartsAsk (conn m c)) (i : ℕ) where
  tells : (e : Event) (k : ℕ) (s : NodeState) → node_at m.nodes k ≡ Some s → (x : BackIn) → Comes m e k s x → Told m.journal k (node_step (node_setting m k) s x)
  tells e k s there (back.Message from bytes) c =
      subst (λ (p : Place). Told m.journal k (node_step (node_setting m k) s (back.Message p bytes))) c.4
      (subst (λ (bs : List ℕ). Told m.journal k (node_step (node_setting m k) s (back.Message c.1.from bs))) c.6 (message-told m view placed known k s there c.0 c.1 c.3 c.5))
  tells e k s there (back.Timer d) c = timer-told m view placed known k s there d c.1 c.2
  tells e k s there (back.Disk j) c = disk-told m view placed known k s there j

  pub acts-moved : (e : Event) → ActsAt m.net e (Node i) → machine_step m e ≡ Ok n → Moved m e n i
  acts-moved e acts is = go (node-form m n e is) where
    go : NodesStay m e n ⊎ NodeStep m e n → Moved m e n i
    go (inl stay) = inr (⊎_elim (λ (never : NodeActs m e → ⊥). absurd (never (i, acts))) (λ (s : Passes m e n). s.is) stay.2)
    go (inr step) =
        let x : NodeState × Out = node_step (node_setting m step.i) step.s step.comes in
        subst (Moved m e n) (comes-at m e i step.i step.s step.comes step.came acts)
        (inl (step.s, x, step.there, tells e step.i step.s step.there step.comes step.came, step.is))

-- ---- what a connection sees of the Asks

module _ (n e q : ℕ) where
  abbrev f : Rec → Option (List ℕ)
  f = ask_by n e

  none-seen : (o : Option ℕ) (s : Seen) → of_row f s ≡ None → picked (of_row f) (one_of q o s) ≡ []
  none-seen None s none = refl
  none-seen (Some c) s none = go (nat_eq c q) where
    go : (b : Bool) → picked (of_row f) (cond b (s ∷ []) []) ≡ []
    go true = ap (λ o. listed o ++ []) none
    go false = refl

  none-came : (o : Option Packet) → picked (of_row f) (came_seen q o) ≡ []
  none-came None = refl
  none-came (Some p) = none-seen (conn_of p.from p.to p.bytes) (Came (letter_of p)) refl

  module _ (P : List ℕ → Type 0) where
    -- what is seen names the connection
    abbrev Mine : List ℕ → Type 0
    Mine bytes = P bytes × (named_in bytes ≡ Some q)

    each-left : (xs ys : List (List ℕ)) → Each P (xs ++ ys) → Each P xs
    each-left [] ys h = tt
    each-left (x ∷ xs) ys h = (h.0, each-left xs ys h.1)

    each-right : (xs ys : List (List ℕ)) → Each P (xs ++ ys) → Each P ys
    each-right [] ys h = h
    each-right (x ∷ xs) ys h = each-right xs ys h.1

    both-each : (xs ys : List (List ℕ)) → Each Mine xs → Each Mine ys → Each Mine (xs ++ ys)
    both-each [] ys h k = k
    both-each (x ∷ xs) ys h k = (h.0, both-each xs ys h.1 k)

    nothing-seen : (ss : List Seen) → picked (of_row f) ss ≡ [] → Each Mine (picked (of_row f) ss)
    nothing-seen ss none = subst (Each Mine) (sym none) tt

    ask-seen : (m : ℕ) (bytes : List ℕ) → Each P (listed (f (rec.Sent 0 (Node m) Front bytes))) → Each Mine (picked (of_row f) (one_of q (named_in bytes) (Row (rec.Sent 0 (Node m) Front bytes))))
    ask-seen m bytes h = by-name (named_in bytes) refl where
      by-option : (o : Option (List ℕ)) → f (rec.Sent 0 (Node m) Front bytes) ≡ o → (named_in bytes ≡ Some q) → Each P (listed o) → Each Mine (listed o ++ [])
      by-option None is named h = tt
      by-option (Some b) is named h = ((h.0, ap named_in (bytes-same (nat_eq m n && is_ask e (message_head bytes)) b is) ∙ named), tt) where
        bytes-same : (t : Bool) (b : List ℕ) → cond t (Some bytes) None ≡ Some b → b ≡ bytes
        bytes-same true b is = cc
        bytes-same false b is = let no : ◌≡◌ {A = Option (List ℕ)} None (Some b) = is in absurd cc

      by-number : (c : ℕ) → named_in bytes ≡ Some c → (b : Bool) → nat_eq c q ≡ b → Each Mine (picked (of_row f) (cond b (Row (rec.Sent 0 (Node m) Front bytes) ∷ []) []))
      by-number c named true same = by-option (f (rec.Sent 0 (Node m) Front bytes)) refl (named ∙ ap Some (eqb-true c q same)) h
      by-number c named false same = tt

      by-name : (o : Option ℕ) → named_in bytes ≡ o → Each Mine (picked (of_row f) (one_of q o (Row (rec.Sent 0 (Node m) Front bytes))))
      by-name None named = tt
      by-name (Some c) named = by-number c named (nat_eq c q) refl

    none-sent : (from to : Place) (bytes : List ℕ) → f (rec.Sent 0 from to bytes) ≡ None → Each Mine (picked (of_row f) (one_of q (conn_of from to bytes) (Row (rec.Sent 0 from to bytes))))
    none-sent from to bytes none = nothing-seen (one_of q (conn_of from to bytes) (Row (rec.Sent 0 from to bytes))) (none-seen (conn_of from to bytes) (Row (rec.Sent 0 from to bytes)) none)

    sent-seen : (k : ℕ) (from to : Place) (bytes : List ℕ) → Each P (listed (f (rec.Sent k from to bytes))) → Each Mine (picked (of_row f) (one_of q (conn_of from to bytes) (Row (rec.Sent 0 from to bytes))))
    sent-seen k (Node m) Front bytes h = ask-seen m bytes h
    sent-seen k (Node m) (Node j) bytes h = none-sent (Node m) (Node j) bytes refl
    sent-seen k (Node m) (Client d) bytes h = none-sent (Node m) (Client d) bytes refl
    sent-seen k Front to bytes h = none-sent Front to bytes refl
    sent-seen k (Client d) to bytes h = none-sent (Client d) to bytes refl

    one-seen : (net : List Packet) (r : Rec) → Each P (listed (f r)) → Each Mine (picked (of_row f) (seen_of q net r))
    one-seen net (rec.Sent k from to bytes) h = sent-seen k from to bytes h
    one-seen net (rec.Got k) h = nothing-seen (came_seen q (packet_at net k)) (none-came (packet_at net k))
    one-seen net r h = nothing-seen (one_of q (whose r) (Row (plain r))) (none-seen (whose r) (Row (plain r)) refl)

    -- what is so of each Ask of a list of records, is so of each that the connection sees
    pub asks-seen : (net : List Packet) (rs : List Rec) → Each P (pick f rs) → Each Mine (picked (of_row f) (seen_on q net rs))
    asks-seen net [] h = tt
    asks-seen net (r ∷ rs) h = subst (Each Mine) (sym (picked-append (of_row f) (seen_of q net r) (seen_on q (net_step net r) rs)))
        (both-each (picked (of_row f) (seen_of q net r)) (picked (of_row f) (seen_on q (net_step net r) rs)) (one-seen net r (each-left (listed (f r)) (pick f rs) h)) (asks-seen (net_step net r) rs (each-right (listed (f r)) (pick f rs) h)))

-- the last of them is one of them
newest-each : (P : List ℕ → Type 0) (all : List (List ℕ)) (o : Option (List ℕ)) (bytes : List ℕ) → ((b : List ℕ) → o ≡ Some b → P b) → Each P all → fold (λ (last : Option (List ℕ)) (b : List ℕ). Some b) o all ≡ Some bytes → P bytes
newest-each P [] o bytes first h is = first bytes is
newest-each P (x ∷ all) o bytes first h is = newest-each P all (Some x) bytes (λ b e. let same : x ≡ b = cc in subst P same h.0) h.1 is

any-each : (all : List (List ℕ)) → Each (λ b. Unit {0}) all
any-each [] = tt
any-each (x ∷ all) = (tt, any-each all)

-- it names its connection
pub last-named : (n e q : ℕ) (J : List Rec) (bytes : List ℕ) → last_ask n e (own q J) ≡ Some bytes → named_in bytes ≡ Some q
unfolding own
last-named n e q J bytes is = (newest-each (λ b. Unit {0} × (named_in b ≡ Some q)) (picked (of_row (ask_by n e)) (seen_on q [] J)) None bytes (λ b none. let no : ◌≡◌ {A = Option (List ℕ)} None (Some b) = none in absurd cc)
    (asks-seen n e q (λ b. Unit {0}) [] J (any-each (pick (ask_by n e) J))) is).1

-- ---- two spellings of an Ask

-- what has the number of one, and is another, is the other with that number
pub spelled-both : (c d c2 d2 k k2 w w2 z z2 : ℕ) (ps ps2 : List (List ℕ)) → message c d (body.Ask k w z ps) ≡ message c2 d2 (body.Ask k2 w2 z2 ps2) → message c d (body.Ask k w z ps) ≡ message c d (body.Ask k w2 z2 ps2)
unfolding spelled_message
spelled-both c d c2 d2 k k2 w w2 z z2 ps ps2 e =
    let rest : drop 14 (message c d (body.Ask k w z ps)) ≡ drop 14 (message c2 d2 (body.Ask k2 w2 z2 ps2)) = ap (drop 14) e in
    let as_long : length (drop 14 (message c d (body.Ask k w z ps))) ≡ length (drop 14 (message c2 d2 (body.Ask k2 w2 z2 ps2))) = ap (λ l. length l) rest in
    λ i. header_bytes 1 5 c d (suc (suc (suc (suc (as_long i))))) ++ (to_be_bytes w32 k ++ rest i)

-- ---- both laws together

module _ (q n d waiting : ℕ) (last : Option (List ℕ)) where
  -- of what is seen of the step: the last again, of whatever connection, or with these jobs
  abbrev pub Waits : List ℕ → Type 0
  Waits bytes = (last ≡ Some bytes) ⊎ ((c e k size : ℕ) × (paths : List (List ℕ)) × (bytes ≡ message c e (body.Ask k waiting size paths)))

  pub go-on : (all : List (List ℕ)) → AsksGoOn (IsSomeNext q d) last all → Each Waits all → AsksGoOn (IsNextAsk q d waiting) last all
  go-on [] h k = tt
  go-on (bytes ∷ more) h k = ⊎_elim
      (λ (again : (last ≡ Some bytes) × AsksGoOn (IsSomeNext q d) last more). inl (again.0, go-on more again.1 k.1))
      (λ (new : IsSomeNext q d last bytes × (more ≡ [])). ⊎_elim
      (λ (same : last ≡ Some bytes). inl (same, subst (AsksGoOn (IsNextAsk q d waiting) last) (sym new.1) tt))
      (λ (says : (c e k size : ℕ) × (paths : List (List ℕ)) × (bytes ≡ message c e (body.Ask k waiting size paths))). inr (next-of new.0 says, new.1))
      k.0)
      h where
        next-of : IsSomeNext q d last bytes → ((c e k size : ℕ) × (paths : List (List ℕ)) × (bytes ≡ message c e (body.Ask k waiting size paths))) → IsNextAsk q d waiting last bytes
        next-of a b = (a.1.0, b.3, b.4, a.1.3, a.1.4 ∙ spelled-both q d b.0 b.1 (a.1.0 + 1) b.2 a.0 waiting a.1.1 b.3 a.1.2 b.4 (sym a.1.4 ∙ b.5))
