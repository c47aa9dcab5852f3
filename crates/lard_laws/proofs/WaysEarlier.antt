-- So it is in every run: each content that is served was there before.
use Rattle.std.proofs.Common.{◌≡◌, ℕ, Bool, true, false, cond, List, [], ◌∷◌, ◌++◌, map, Option, Some, None, Ok, is_some, refl, sym, ap, ◌∙◌, subst, inl, inr, ⊎_elim, append_assoc, append-nil}
use Rattle.lard_law_view.specs.Prelude.{Came, Client, ClientRules, Completed, Config, Conn, Content, EachRow, Front, FrontRules, Has, IsLaw, IsNodeEnv, IsReached, Letter, Machine, MayRestOn, Move, Node, NodeEnv, NodeGets, NodePart, NodeRules, OfEach, Place, Rec, Row, Rules, Seen, Setting, client_begins, conn, decoded_message, front_does, front_rule, grown, named_records, node_does, nothing_said, own, packet_seen, plain, reads_first, rows_of, seen_in, setting, stands, whose, with_leaving}
use Rattle.lard_law_view.proofs.EachFront.{each-front, of-front}
use Rattle.lard_law_view.proofs.EachClient.{client_goes, each-client, of-client}
use Rattle.lard_law_view.proofs.EachNode.{Answers, Aside, Brings, NodeComes, Queues, aside_said, aside_seen, each-node, node_goes}
use Rattle.lard_law_view.proofs.NodeHeads.{of-aside, of-heads}
use Rattle.lard_rules.proofs.NodeCases.{IsInItsEpoch, IsOfItsEpoch}
use Rattle.lard_law_view.proofs.Carried.{carried}
use Rattle.lard_law_view.proofs.Fine.{IsFine, IsItsOwn, fine}
use Rattle.lard_law_view.proofs.Guarded.{both, weaker}
use Rattle.lard_law_view.proofs.InSteps.{carried-records}
use Rattle.lard_law_view.proofs.Parts.{put-each}
use Rattle.lard_law_view.proofs.Saying.{NamesAll, NotedAt}
use Rattle.lard_laws.specs.WaysBefore.{ContentsWereThere, MayBeServed, MayFollow, SawBehind, WasAtPlace, WasThere}
use Rattle.lard_laws.proofs.WaysBacked.{DeedThere, MayCome, PartThere, TookIn, part-more, rule-there, stay-more, there-more}
use Rattle.lard_laws.proofs.WaysBacking.{IsNoted}
use Rattle.lard_rules.specs.Front as front
use Rattle.lard_history.proofs.Each.{Each, Each-append, Each-weaker}
use Rattle.lard_history.proofs.Lifting.{each_row-append}
use Rattle.lard_history.proofs.Seeing.{has-behind}
use Rattle.lard_journal.specs.declared.rec.Rec.TheVariants as rec
use Rattle.lard_message.specs.declared.message.Body.TheVariants as body
use Rattle.lard_rules.specs.Node as node
use Rattle.lard_law_view.proofs.OfKinds.{rest_of, rest-outer, rows-are}
use Rattle.lard_law_view.proofs.RecordKinds.{IsOuter}
use Rattle.lard_law_view.proofs.Deeds.{node-heads, node-place}
use Rattle.lard_law_connections.proofs.NotedRows.{noted-row}

-- ---- rows behind what was seen

-- however much more was seen before it
abbrev RowAt : ℕ → List Seen → Rec → Type 0
RowAt c past r = (later : List Seen) → MayFollow c (past ++ later) r

rows-there : (c : ℕ) (past later : List Seen) (rs : List Rec) → Each (RowAt c past) rs → EachRow (MayFollow c) (past ++ later) (map Row rs)
rows-there c past later [] h = tt
rows-there c past later (r ∷ rs) h = (h.0 later, subst (λ (p : List Seen). EachRow (MayFollow c) p (map Row rs)) (sym (append_assoc past later (Row r ∷ []))) (rows-there c past (later ++ Row r ∷ []) rs h.1))

rows-now : (c : ℕ) (past : List Seen) (rs : List Rec) → Each (RowAt c past) rs → EachRow (MayFollow c) past (map Row rs)
rows-now c past rs h = subst (λ (p : List Seen). EachRow (MayFollow c) p (map Row rs)) (append-nil past) (rows-there c past [] rs h)

-- what a node notes
note-at : (n c : ℕ) (past : List Seen) (r : Rec) → NotedAt (Node n) c r → IsNoted (WasThere past n c) r → RowAt c past r
note-at n c past (rec.Served (Node k) d r code size way) own h = λ later.
    subst (λ (i : ℕ). WasThere (past ++ later) i d r way) (sym own.0) (subst (λ (j : ℕ). WasThere (past ++ later) n j r way) (sym own.1) (there-more past later n c r way h))
note-at n c past (rec.Served Front d r code size way) own h = absurd own
note-at n c past (rec.Served (Client k) d r code size way) own h = absurd own
note-at n c past _ own h = λ later. tt

notes-at : (n c : ℕ) (past : List Seen) (rs : List Rec) → Each (NotedAt (Node n) c) rs → Each (IsNoted (WasThere past n c)) rs → Each (RowAt c past) rs
notes-at n c past [] own h = tt
notes-at n c past (r ∷ rs) own h = (note-at n c past r own.0 h.0, notes-at n c past rs own.1 h.1)

-- what the front end and clients note
other-at : (place : Place) (c : ℕ) (past : List Seen) → NamesAll place → (r : Rec) → NotedAt place c r → RowAt c past r
other-at Front c past names (rec.Served Front d r code size way) own = λ later. tt
other-at Front c past names (rec.Served (Node k) d r code size way) own = absurd own
other-at Front c past names (rec.Served (Client k) d r code size way) own = absurd own
other-at (Client e) c past names (rec.Served place d r code size way) own = absurd own
other-at (Node n) c past names (rec.Served place d r code size way) own = absurd names
other-at place c past names _ own = λ later. tt

outer-at : (c : ℕ) (past : List Seen) (r : Rec) → IsOuter r → RowAt c past r
outer-at c past (rec.Served place d r code size way) h = absurd h
outer-at c past _ h = λ later. tt

-- ---- a move

module _ (x : Conn) (v : Move) (its : IsItsOwn x v) where
  all-rows : (past : List Seen) → Each (RowAt x.c past) v.said.notes → Each (RowAt x.c past) (rows_of x v)
  all-rows past notes = subst (Each (RowAt x.c past)) (sym (rows-are x v))
      (Each-append (RowAt x.c past) v.said.notes (rest_of x v) notes (rest-outer x v (RowAt x.c past) (outer-at x.c past) its))

  -- behind its heads
  move-rows : EachRow (MayFollow x.c) x.seen v.heads → Each (RowAt x.c (x.seen ++ v.heads)) v.said.notes → EachRow (MayFollow x.c) x.seen (seen_in x v)
  move-rows heads notes = each_row-append (MayFollow x.c) x.seen v.heads (map Row (rows_of x v)) heads (rows-now x.c (x.seen ++ v.heads) (rows_of x v) (all-rows (x.seen ++ v.heads) notes))

  -- of a place that is no node
  other-rows : NamesAll v.place → EachRow (MayFollow x.c) x.seen v.heads → EachRow (MayFollow x.c) x.seen (seen_in x v)
  other-rows names heads = move-rows heads (Each-weaker (NotedAt v.place x.c) (RowAt x.c (x.seen ++ v.heads)) (other-at v.place x.c (x.seen ++ v.heads) names) v.said.notes its.notes)

-- each node keeps what was there
abbrev HoldsThere : Conn → Type 0
HoldsThere x = (n : ℕ) → PartThere n x.c x.seen (x.part.nodes n)

abbrev Owes : Conn → Move → Type 0
Owes x v = IsItsOwn x v → HoldsThere x → HoldsThere (grown x v) × EachRow (MayFollow x.c) x.seen (seen_in x v)

more-there : (x : Conn) (v : Move) → HoldsThere x → (n : ℕ) → PartThere n x.c (x.seen ++ seen_in x v) (x.part.nodes n)
more-there x v h n = part-more n x.c x.seen (seen_in x v) (x.part.nodes n) (h n)

-- ---- a node

-- what is noted of a connection is among the records that name one
has-named : (r : Rec) (c : ℕ) → whose r ≡ Some c → (rs : List Rec) → Has r rs → Has r (named_records rs)
has-named r c of [] h = absurd h
has-named r c of (y ∷ ys) h = ⊎_elim
    (λ (e : y ≡ r).
    let some : is_some (whose y) ≡ true = ap (λ (z : Rec). is_some (whose z)) e ∙ ap (λ (o : Option ℕ). is_some o) of in
    subst (λ (b : Bool). Has r (cond b (y ∷ named_records ys) (named_records ys))) (sym some) (inl e))
    (λ (k : Has r ys). go (is_some (whose y)) (has-named r c of ys k))
    h where
      go : (b : Bool) → Has r (named_records ys) → Has r (cond b (y ∷ named_records ys) (named_records ys))
      go true k = inr k
      go false k = k

each-named : (P : Rec → Type 0) (rs : List Rec) → Each P rs → Each P (named_records rs)
each-named P [] h = tt
each-named P (y ∷ ys) h = go (is_some (whose y)) (each-named P ys h.1) where
  go : (b : Bool) → Each P (named_records ys) → Each P (cond b (y ∷ named_records ys) (named_records ys))
  go true k = (h.0, k)
  go false k = k

module _ (x : Conn) (n : ℕ) (heads : List Seen) where
  -- what it does, where so much was seen before
  node-holds : (d : node.NodeDeed) (past rows step : List Seen) → DeedThere n x.c past d → HoldsThere x → (sees : (r : Rec) → Has r (node_does x n heads d).said.notes → Has (Row r) rows) → x.seen ++ step ≡ past ++ rows
      → (k : ℕ) → PartThere k x.c (x.seen ++ step) ((node_does x n heads d).part.nodes k)
  node-holds node.Drops past rows step q h sees same k = part-more k x.c x.seen step (x.part.nodes k) (h k)
  node-holds (node.Says ms) past rows step q h sees same k = part-more k x.c x.seen step (x.part.nodes k) (h k)
  node-holds (node.Does given) past rows step q h sees same k =
      let now : List Seen = x.seen ++ step in
      let took : (e : ℕ) → Has (rec.Took (Node n) x.c (record { 0 = e })) given.1.notes → TookIn n x.c (past ++ rows) e = λ e there.
      let r : Rec = rec.Took (Node n) x.c (record { 0 = e }) in has-behind (Row r) past rows (sees r (has-named r x.c refl given.1.notes there)) in
      let mine : PartThere n x.c now given.0 = subst (λ (s : List Seen). PartThere n x.c s given.0) (sym same) (record { row = q.row rows took; stay = stay-more n x.c past rows given.0.stay q.stay }) in
      put-each x.part.nodes n given.0 (λ m p. PartThere m x.c now p) mine (λ m other. part-more m x.c x.seen step (x.part.nodes m) (h m)) k

  node-notes : (d : node.NodeDeed) (past : List Seen) → DeedThere n x.c past d → Each (NotedAt (Node n) x.c) (node_does x n heads d).said.notes → Each (RowAt x.c past) (node_does x n heads d).said.notes
  node-notes node.Drops past q own = tt
  node-notes (node.Says ms) past q own = tt
  node-notes (node.Does given) past q own = notes-at n x.c past (named_records given.1.notes) own (each-named (IsNoted (WasThere past n x.c)) given.1.notes q.notes)

  -- a rule of it
  node-owes : (d : node.NodeDeed) → DeedThere n x.c (x.seen ++ heads) d → EachRow (MayFollow x.c) x.seen heads → Owes x (node_does x n heads d)
  node-owes d q seen its h =
      let v : Move = node_does x n heads d in
      let past : List Seen = x.seen ++ heads in
      let same : x.seen ++ seen_in x v ≡ past ++ map Row (rows_of x v) = ap (λ (hs : List Seen). x.seen ++ (hs ++ map Row (rows_of x v))) (node-heads x n heads d) ∙ sym (append_assoc x.seen heads (map Row (rows_of x v))) in
      let own : Each (NotedAt (Node n) x.c) v.said.notes = subst (λ (place : Place). Each (NotedAt place x.c) v.said.notes) (node-place x n heads d) its.notes in (
        node-holds d past (map Row (rows_of x v)) (seen_in x v) q h (noted-row x v) same,
        move-rows x v its (subst (EachRow (MayFollow x.c) x.seen) (sym (node-heads x n heads d)) seen)
            (subst (λ (hs : List Seen). Each (RowAt x.c (x.seen ++ hs)) v.said.notes) (sym (node-heads x n heads d)) (node-notes d past q own)),
      )

  -- with the record of its job in front
  read-owes : (r : Rec) → ((past : List Seen) → MayFollow x.c past r) → (d : node.NodeDeed) → DeedThere n x.c (x.seen ++ Row r ∷ []) d → heads ≡ [] → Owes x (reads_first r (node_does x n heads d))
  read-owes r plain_row d q none its h =
      let v : Move = node_does x n heads d in
      let past : List Seen = x.seen ++ Row r ∷ [] in
      let plain_its : IsItsOwn x v = record { notes = its.notes.1; segments = its.segments; gave = its.gave; messages = its.messages } in
      let own : Each (NotedAt (Node n) x.c) v.said.notes = subst (λ (place : Place). Each (NotedAt place x.c) v.said.notes) (node-place x n heads d) its.notes.1 in
      let empty : v.heads ≡ [] = node-heads x n heads d ∙ none in
      let seen : seen_in x (reads_first r v) ≡ Row r ∷ map Row (rows_of x v) = ap (λ (hs : List Seen). hs ++ (Row r ∷ map Row (rows_of x v))) empty in
      let same : x.seen ++ seen_in x (reads_first r v) ≡ past ++ map Row (rows_of x v) = ap (λ (l : List Seen). x.seen ++ l) seen ∙ sym (append_assoc x.seen (Row r ∷ []) (map Row (rows_of x v))) in (
        node-holds d past (map Row (rows_of x v)) (seen_in x (reads_first r v)) q h (noted-row x v) same,
        subst (EachRow (MayFollow x.c) x.seen) (sym seen) (plain_row x.seen, rows-now x.c past (rows_of x v) (all-rows x v plain_its past (node-notes d past q own))),
      )

-- ---- what is seen last is seen behind all else

in-front : (a it : Seen) (xs : List Seen) → (it ≡ a → ⊥) → Has a (xs ++ it ∷ []) → Has a xs
in-front a it [] other h = ⊎_elim (λ (e : it ≡ a). other e) (λ (k : ⊥). k) h
in-front a it (x ∷ xs) other h = ⊎_elim (λ (e : x ≡ a). inl e) (λ (k : Has a (xs ++ it ∷ [])). inr (in-front a it xs other k)) h

last-behind : (n c epoch : ℕ) (seen : List Seen) (it : Seen) → (it ≡ Row (rec.Took (Node n) c (record { 0 = epoch })) → ⊥) → TookIn n c (seen ++ it ∷ []) epoch → SawBehind (seen ++ it ∷ []) n c epoch it
last-behind n c epoch seen it other took = record { before = seen; later = it ∷ []; split = refl; took = in-front (Row (rec.Took (Node n) c (record { 0 = epoch }))) it seen other took; saw = inl refl }

read-took : (n c r : ℕ) (path : List ℕ) (epoch : ℕ) → Row (rec.Read n n c r path) ≡ Row (rec.Took (Node n) c (record { 0 = epoch })) → ⊥
read-took n c r path epoch e = cc

came-took : (l : Letter) (r : Rec) → Came l ≡ Row r → ⊥
came-took l r e = cc

-- ---- the rules

abbrev IsNoJob : NodeGets → Type 0
IsNoJob (Completed r path) = ⊥
IsNoJob _ = Unit {0}

module _ (k : Setting) where
  -- what the front end and clients do
  others : (x : Conn) (v : Move) → v.part.nodes ≡ x.part.nodes → NamesAll v.place → EachRow (MayFollow x.c) x.seen v.heads → Owes x v
  others x v same names heads its h = (subst (λ (nodes : ℕ → NodePart). (n : ℕ) → PartThere n x.c (x.seen ++ seen_in x v) (nodes n)) (sym same) (more-there x v h), other-rows x v its names heads)

  front-owes : (x : Conn) (heads : List Seen) (d : front.FrontDeed) → EachRow (MayFollow x.c) x.seen heads → Owes x (front_does x heads d)
  front-owes x heads front.Drops seen = others x (front_does x heads front.Drops) refl tt seen
  front-owes x heads (front.Says turn) seen = others x (front_does x heads (front.Says turn)) refl tt seen
  front-owes x heads (front.Does did) seen = others x (front_does x heads (front.Does did)) refl tt seen

  clients : ClientRules k Owes
  clients = each-client k Owes (record {
    opens = λ x isn iss wnd mss rule none. others x (client_begins x isn iss wnd mss) refl tt (tt, (tt, tt));
    does = λ x s g there comes. others x (client_goes x s g) refl tt (of-client x.c (EachRow (MayFollow x.c) x.seen) (λ from bytes. tt) (λ e. (tt, tt)) g);
  })

  fronts : FrontRules k Owes
  fronts = each-front k Owes (λ x env heads g is comes. front-owes x heads (front_rule env x.part.front g)
      (of-front x (EachRow (MayFollow x.c) x.seen) (λ from bytes. tt) tt (tt, tt) env heads g comes))

  -- a rule of a node, whose number and connection are those of the rule
  by-node : (x : Conn) (n epoch : ℕ) (env : NodeEnv) → IsNodeEnv k x.c n epoch env → (past : List Seen) (d : node.NodeDeed) → (PartThere env.n env.serve.c past (x.part.nodes n) → DeedThere env.n env.serve.c past d) → PartThere n x.c past (x.part.nodes n) → DeedThere n x.c past d
  by-node x n epoch env is past d rule h =
      subst (λ (i : ℕ). DeedThere i x.c past d) is.node (subst (λ (j : ℕ). DeedThere env.n j past d) is.number
      (rule (subst (λ (i : ℕ). PartThere i env.serve.c past (x.part.nodes n)) (sym is.node) (subst (λ (j : ℕ). PartThere n j past (x.part.nodes n)) (sym is.number) h))))

  owes : (x : Conn) (n epoch : ℕ) (env : NodeEnv) → IsNodeEnv k x.c n epoch env → (heads : List Seen) (d : node.NodeDeed) → (PartThere env.n env.serve.c (x.seen ++ heads) (x.part.nodes n) → DeedThere env.n env.serve.c (x.seen ++ heads) d) → EachRow (MayFollow x.c) x.seen heads → Owes x (node_does x n heads d)
  owes x n epoch env is heads d rule seen its h = node-owes x n heads d (by-node x n epoch env is (x.seen ++ heads) d rule (part-more n x.c x.seen heads (x.part.nodes n) (h n))) seen its h

  was-read : (x : Conn) (n epoch r : ℕ) (path : List ℕ) (env : NodeEnv) → IsNodeEnv k x.c n epoch env → TookIn env.n env.serve.c (x.seen ++ Row (rec.Read n n x.c r path) ∷ []) env.epoch
      → SawBehind (x.seen ++ Row (rec.Read n n x.c r path) ∷ []) env.n env.serve.c env.epoch (Row (rec.Read env.n env.n env.serve.c r path))
  was-read x n epoch r path env is =
      let job : Seen = Row (rec.Read n n x.c r path) in
      let past : List Seen = x.seen ++ job ∷ [] in
      subst (λ (i : ℕ). TookIn i env.serve.c past env.epoch → SawBehind past i env.serve.c env.epoch (Row (rec.Read i i env.serve.c r path))) (sym is.node)
      (subst (λ (j : ℕ). TookIn n j past env.epoch → SawBehind past n j env.epoch (Row (rec.Read n n j r path))) (sym is.number) (last-behind n x.c env.epoch x.seen job (λ e. read-took n x.c r path env.epoch e)))

  has-come : (x : Conn) (n from epoch : ℕ) (bytes : List ℕ) (env : NodeEnv) → IsNodeEnv k x.c n epoch env → TookIn env.n env.serve.c (x.seen ++ packet_seen (Node from) (Node n) bytes) env.epoch
      → SawBehind (x.seen ++ packet_seen (Node from) (Node n) bytes) env.n env.serve.c env.epoch (Came (record { from = Node from; to = Node env.n; bytes = bytes }))
  has-come x n from epoch bytes env is =
      let it : Seen = Came (record { from = Node from; to = Node n; bytes = bytes }) in
      subst (λ (i : ℕ). TookIn i env.serve.c (x.seen ++ it ∷ []) env.epoch → SawBehind (x.seen ++ it ∷ []) i env.serve.c env.epoch (Came (record { from = Node from; to = Node i; bytes = bytes }))) (sym is.node)
      (last-behind n env.serve.c env.epoch x.seen it (λ e. came-took (record { from = Node from; to = Node n; bytes = bytes }) (rec.Took (Node n) env.serve.c (record { 0 = env.epoch })) e))

  -- a content is read so by the rule
  may-come : (x : Conn) (n epoch : ℕ) (env : NodeEnv) → IsNodeEnv k x.c n epoch env → (heads : List Seen) (g : NodeGets) → NodeComes x n epoch heads g → IsNoJob g → MayCome env (x.seen ++ heads) g
  may-come x n epoch env is heads (Content from r) comes other =
      let bytes : List ℕ = comes.came.bytes in
      let reads : decoded_message bytes ≡ Ok (record { c = env.serve.c; epoch = record { 0 = env.epoch }; body = body.Content r comes.file }) =
      comes.came.spells ∙ (λ i. Ok (record { c = sym is.number i; epoch = record { 0 = sym is.epoch_is i }; body = body.Content r comes.file })) in
      subst (λ (hs : List Seen). MayCome env (x.seen ++ hs) (Content from r)) (sym comes.came.seen) (record { file = comes.file; bytes = bytes; came = has-come x n from epoch bytes env is; reads = reads })
  may-come x n epoch env is heads (Completed r path) comes other = absurd other
  may-come x n epoch env is heads _ comes other = tt

  rule-owes : (x : Conn) (n epoch : ℕ) (env : NodeEnv) → IsNodeEnv k x.c n epoch env → (heads : List Seen) (g : NodeGets) → IsOfItsEpoch env (x.part.nodes n) g → NodeComes x n epoch heads g → IsNoJob g
      → Owes x (node_does x n heads (node.node_rule env (x.part.nodes n) g))
  rule-owes x n epoch env is heads g at comes other = owes x n epoch env is heads (node.node_rule env (x.part.nodes n) g)
      (λ h. rule-there env (x.seen ++ heads) (x.part.nodes n) h g at (may-come x n epoch env is heads g comes other))
      (of-heads x n (EachRow (MayFollow x.c) x.seen) (λ from bytes. tt) tt (tt, tt) epoch heads g comes)

  node-goes-on : (x : Conn) (n epoch : ℕ) (env : NodeEnv) (heads : List Seen) (g : NodeGets) → IsNodeEnv k x.c n epoch env → IsInItsEpoch env (x.part.nodes n) g → NodeComes x n epoch heads g → Owes x (node_goes x n env heads g)
  node-goes-on x n epoch env heads (Completed r path) is at comes its h =
      let job : Rec = rec.Read n n x.c r path in
      let past : List Seen = x.seen ++ Row job ∷ [] in
      let d : node.NodeDeed = node.node_rule env (x.part.nodes n) (Completed r path) in
      read-owes x n heads job (λ p. tt) d
      (by-node x n epoch env is past d
      (λ g. rule-there env past (x.part.nodes n) g (Completed r path) tt (λ took. record { epoch = env.epoch; path = path; read = was-read x n epoch r path env is took }))
      (part-more n x.c x.seen (Row job ∷ []) (x.part.nodes n) (h n)))
      comes its h
  node-goes-on x n epoch env heads g is at comes its h = rule-owes x n epoch env is heads g at.0 comes tt its h

  -- what a node does for another one
  aside-owes : (x : Conn) (n : ℕ) (a : Aside) → Owes x (stands x (Node n) (aside_seen n a) (aside_said k n x.c a))
  aside-owes x n a its h = (more-there x v h, move-rows x v its (of-aside x n (EachRow (MayFollow x.c) x.seen) (λ from bytes. tt) tt a) (notes a)) where
    v : Move
    v = stands x (Node n) (aside_seen n a) (aside_said k n x.c a)

    notes : (a : Aside) → Each (RowAt x.c (x.seen ++ aside_seen n a)) (aside_said k n x.c a).notes
    notes (Answers from epoch r path file bytes) = tt
    notes (Queues from epoch r path file bytes) = (λ later. tt, tt)
    notes (Brings from epoch r path) = (λ later. tt, tt)

  nodes : NodeRules k Owes
  nodes = each-node k Owes (record { does = node-goes-on; aside = λ x n a may. aside-owes x n a })

  ignored : (x : Conn) (from to : Place) (bytes : List ℕ) → Owes x (stands x to (packet_seen from to bytes) nothing_said)
  ignored x from to bytes its h = (more-there x (stands x to (packet_seen from to bytes) nothing_said) h, move-rows x (stands x to (packet_seen from to bytes) nothing_said) its tt tt)

  rules : Rules k Owes
  rules = record {
    untouched = record { client = clients; front = fronts; node = nodes; ignores = λ x from to bytes was. ignored x from to bytes };
    injects = λ x s bytes there rule. others x _ refl tt (tt, (tt, tt));
  }

  -- ---- the law

  abbrev pub Anything : Conn → Type 0
  Anything x = Unit {0}

  abbrev pub IsServedSo : Conn → Type 0
  IsServedSo x = HoldsThere x × EachRow (MayFollow x.c) [] x.seen

  abbrev Moves : Conn → Move → Type 0
  Moves x v = MayRestOn Anything x → IsServedSo x → IsServedSo (grown x v)

  moves : (x : Conn) (v : Move) → IsFine x v × Owes x v → Moves x v
  moves x v h may so = let g = h.1 (h.0 may.number may.sound).0 so.0 in (g.0, each_row-append (MayFollow x.c) [] x.seen (seen_in x v) so.1 g.1)

  pub served-law : IsLaw k Anything IsServedSo
  served-law = record { begins = λ c. (λ n. record { row = tt; stay = tt }, tt); moves = weaker k (λ x v. IsFine x v × Owes x v) Moves moves (both k IsFine Owes (fine k) rules) }

-- ---- from a connection's records to the journal's

some-number : (a b : ℕ) → Some a ≡ Some b → a ≡ b
some-number a b e = cc

somebody : (J : List Rec) (r : Rec) (c : ℕ) → whose r ≡ Some c → MayFollow c (own c J) (plain r) → MayBeServed J r
somebody J (rec.Served place d r code size way) c e h = let same : d ≡ c = some-number d c e in subst (λ (q : ℕ). WasAtPlace (own q J) place d r way) (sym same) h
somebody J _ c e h = tt

nobody : (J : List Rec) (r : Rec) → whose r ≡ None → MayBeServed J r
nobody J (rec.Served place d r code size way) e = let no : Some d ≡ None = e in absurd (let f : ⊥ = cc in f)
nobody J _ e = tt

module _ (config : Config) (files : List (List ℕ × List ℕ)) where
  pub each-served : OfEach config files (IsServedSo (setting config files))
  each-served = carried config files (Anything (setting config files)) (IsServedSo (setting config files)) (λ l. served-law (with_leaving (setting config files) l)) (λ m r q. tt)

  each : (m : Machine) → IsReached config files m → (q : ℕ) → EachRow (MayFollow q) [] (conn m q).seen
  unfolding conn
  each m r q = (each-served m r q).1

pub contents-were-there : ContentsWereThere
contents-were-there config files m r = carried-records config files MayBeServed MayFollow nobody somebody (each config files) m r
