-- A connection that ended and the head of the line behind it, in one step.
use Rattle.std.proofs.Common.{◌≡◌, ◌+◌, ◌≤◌, ℕ, ◌<◌, Bool, length, true, false, cond, is_some, List, [], ◌∷◌, Option, Some, None, refl, sym, ap, ◌∙◌, subst, arith}
use Rattle.std.proofs.lemmas.Bool.{eq-eqb}
use Rattle.std.specs.Cmp.{nat_cmp_total}
use Rattle.std.specs.FinMap as table
use Rattle.std.specs.FinMap.{len-insert}
use Rattle.lard_base.specs.Config.{room_of}
use Rattle.lard_base.specs.declared.ids.Millis.{Millis}
use Rattle.lard_dispatch.specs.declared.dispatch.First.{First}
use Rattle.lard_dispatch.specs.declared.dispatch.First.TheVariants as first
use Rattle.lard_dispatch.specs.declared.line.Waiting.{Waiting}
use Rattle.lard_dispatch.specs.Books.{Dispatcher}
use Rattle.lard_dispatch.specs.Calls.{after_ended, choice_at, ended_answer, first_answer, is_full, next_admitted, next_admission, released_from}
use Rattle.lard_dispatch.specs.Laws as call
use Rattle.lard_dispatch.specs.Line.{line_waits}
use Rattle.lard_dispatch.specs.Sound.{AreApart, IsDispatcherSound}
use Rattle.lard_dispatch.proofs.AllCalls.{calls-kept}
use Rattle.lard_dispatch.proofs.Soundness.{before-ended, free-first, is-in, released-room}
use Rattle.lard_endpoint.specs.declared.control.moving.Final.{Final}
use Rattle.lard_rules.specs.declared.front.FrontRest.{FrontRest}
use Rattle.lard_rules.specs.declared.front.FrontState.{FrontState}
use Rattle.lard_rules.specs.declared.front.FrontTurn.{FrontTurn}
use Rattle.lard_rules.specs.Front.{FrontDeed, Drops, Says, Does, Did, FrontEnv, FrontPart, front_ended_by, front_ends, front_admitted, front_ended, handed_off}
use Rattle.lard_rules.specs.FrontPlace.{FrontSetting, HeadTurn, admits, admits_too, ended_deed, front_env, front_part, front_put, handed_head, head_turn, put_back}
use Rattle.lard_rules.specs.FrontSound.{HasTag, IsAwayAt, IsEarlyAway, IsEarlyOver, IsFrontSound, IsPartSound, IsRowSound, IsStageSound, DispatchStanding, OpenNodes, Waits, nowhere, dispatch_standing, open_nodes_of}
use Rattle.lard_rules.proofs.FrontDeeds.{goes-early}
use Rattle.lard_rules.proofs.FrontKeeping.{Keeps, Stays, put-all, put-some, put-stays, still-stays}
use Rattle.lard_rules.proofs.FrontOpen.{calls-serve, chosen-open, ended-nodes}
use Rattle.lard_rules.proofs.FrontParts.{part_other, part_put}
use Rattle.lard_rules.proofs.FrontStandings.{behind, head-waits}
use Rattle.lard_rules.proofs.FrontWaiting.{line-waits, waits-admitted}
use Rattle.lard_handoff_front.specs.declared.row.FrontConn.{FrontConn}
use Rattle.lard_handoff_front.specs.declared.row.FrontConn.TheVariants as stage
use Rattle.lard_handoff_front.specs.declared.row.FrontRow.{FrontRow}
use Rattle.lard_handoff_front.specs.declared.table.OnEnded.TheVariants.{New, Again, Stale}
use Rattle.lard_handoff_front.specs.Front.{end_answer, ended_with, next_epoch}
use Rattle.lard_handoff_front.specs.Row.{is_away}
use Rattle.lard_loads.specs.Tally.{Standing, admitted, home, home_of, is_open}
use Rattle.lard_policy.specs.declared.first.FirstChoice.{FirstChoice}
use Rattle.lard_resend.specs.declared.kept.Kept.{Kept}
use Rattle.lard_rules.specs.Serving.{serving}
use Rattle.lard_table.proofs.Map.{get_other, get_inserted, get_put_other, get_put_same}

-- ---- the books

-- it is at a node
abbrev pub IsAdmitted : DispatchStanding → Type 0
IsAdmitted at = (n : ℕ) × (at ≡ record { home = Some n; waits = false })

module _ (d : Dispatcher) (c : ℕ) (now : Millis) (in_ : IsAdmitted (dispatch_standing d c)) where
  no-wait : line_waits d.books.line c ≡ false
  no-wait = ap (λ (x : DispatchStanding). x.waits) in_.1

  pub may-end : is_some (home d.books.loads c) ≡ true
  may-end = ap (λ (x : DispatchStanding). is_some x.home) in_.1

  released-home : home (released_from d.books c).loads c ≡ None
  released-home = ap home_of (get_put_same d.books.loads.standings c None)

  released-other : (q : ℕ) → (q ≡ c → ⊥) → home (released_from d.books c).loads q ≡ home d.books.loads q
  released-other q n = ap home_of (get_put_other d.books.loads.standings c q None n)

  -- nobody is admitted in its place
  abbrev At : List Waiting → ℕ → DispatchStanding
  At ws q = dispatch_standing (record d { books = next_admitted d.config now (released_from d.books c) ws }) q

  module _ (none : d.books.line ≡ []) where
    pub none-here : dispatch_standing (after_ended d c now) c ≡ nowhere
    none-here = ap (λ ws. At ws c) none ∙ (λ i. record { home = released-home i; waits = no-wait i })

    pub none-others : (q : ℕ) → (q ≡ c → ⊥) → dispatch_standing (after_ended d c now) q ≡ dispatch_standing d q
    none-others q n = ap (λ ws. At ws q) none ∙ (λ i. record { home = released-other q n i; waits = line_waits d.books.line q })

  -- the head is
  module _ (w : Waiting) (ws : List Waiting) (line : d.books.line ≡ w ∷ ws) where
    abbrev pub chosen : FirstChoice
    chosen = choice_at d.config (released_from d.books c) w.target now

    pub head-there : line_waits d.books.line w.c ≡ true
    head-there = ap (λ (l : List Waiting). line_waits l w.c) line ∙ head-waits w ws

    pub head-apart : w.c ≡ c → ⊥
    head-apart e = let no : true ≡ false = sym head-there ∙ ap (line_waits d.books.line) e ∙ no-wait in absurd cc

    behind-line : (q : ℕ) → (q ≡ w.c → ⊥) → line_waits ws q ≡ line_waits d.books.line q
    behind-line q n = sym (behind w ws q n) ∙ sym (ap (λ (l : List Waiting). line_waits l q) line)

    pub head-here : IsDispatcherSound d → dispatch_standing (after_ended d c now) w.c ≡ record { home = Some chosen.node; waits = false }
    head-here sound =
        let apart : AreApart d.books.loads.standings (w ∷ ws) = subst (AreApart d.books.loads.standings) line sound.apart in
        ap (λ l. At l w.c) line ∙ (λ i. record { home = ap home_of (get_inserted (released_from d.books c).loads.standings w.c (record { home = chosen.node; shares = [] })) i; waits = apart.1 i })

    inserted-other : (q : ℕ) → (q ≡ w.c → ⊥) → At (w ∷ ws) q ≡ record { home = home (released_from d.books c).loads q; waits = line_waits ws q }
    inserted-other q n = λ i. record { home = ap home_of (get_other (released_from d.books c).loads.standings w.c q (record { home = chosen.node; shares = [] }) n) i; waits = line_waits ws q }

    pub head-ended : dispatch_standing (after_ended d c now) c ≡ nowhere
    head-ended =
        let n : c ≡ w.c → ⊥ = λ e. head-apart (sym e) in
        ap (λ l. At l c) line ∙ inserted-other c n ∙ (λ i. record { home = released-home i; waits = (behind-line c n ∙ no-wait) i })

    pub head-others : (q : ℕ) → (q ≡ c → ⊥) → (q ≡ w.c → ⊥) → dispatch_standing (after_ended d c now) q ≡ dispatch_standing d q
    head-others q n m = ap (λ l. At l q) line ∙ inserted-other q m ∙ (λ i. record { home = released-other q n i; waits = behind-line q m i })

    -- there is no room behind it
    pub head-full : IsDispatcherSound d → admitted (after_ended d c now).books.loads ≡ room_of d.config
    head-full sound =
        let apart : AreApart d.books.loads.standings (w ∷ ws) = subst (AreApart d.books.loads.standings) line sound.apart in
        let there : is_some (table.get d.books.loads.standings c) ≡ true = is-in d.books.loads c may-end in
        let room : admitted (released_from d.books c).loads + 1 ≡ room_of d.config =
        (released-room d c (w ∷ ws) sound there apart (λ some. sound.full (subst (λ (l : List Waiting). 0 < length l) (sym line) some))).last (omega arith) in
        let many : admitted (next_admitted d.config now (released_from d.books c) (w ∷ ws)).loads ≡ admitted (released_from d.books c).loads + 1 =
        len-insert nat_cmp_total (released_from d.books c).loads.standings w.c (record { home = chosen.node; shares = [] })
        ∙ ap (λ (o : Option Standing). cond (is_some o) (table.len (released_from d.books c).loads.standings) (table.len (released_from d.books c).loads.standings + 1))
        (free-first d.books.loads.standings c w ws there apart) in
        ap (λ (l : List Waiting). admitted (next_admitted d.config now (released_from d.books c) l).loads) line ∙ many ∙ room

    pub no-room : IsDispatcherSound d → is_full (after_ended d c now) ≡ true
    no-room sound = eq-eqb (admitted (after_ended d c now).books.loads) (room_of d.config) (head-full sound)

-- ---- a new end is of one that is at a node

-- it is away at some node
abbrev IsAway : OpenNodes → ℕ → List Kept → DispatchStanding → Type 0
IsAway nodes e kept stands = (n : ℕ) × IsAwayAt nodes e kept stands n

is-away : (nodes : OpenNodes) (epoch e : ℕ) (at : FrontConn) (rest : Option FrontRest) (kept : List Kept) (stands : DispatchStanding) → is_away epoch at ≡ true → IsStageSound nodes e rest kept stands at → IsAway nodes e kept stands
is-away nodes epoch e (stage.Offering n by) rest kept stands away sound = (n, sound)
is-away nodes epoch e (stage.Moved n by) rest kept stands away sound = (n, sound)
is-away nodes epoch e (stage.Held b) rest kept stands away sound = let no : false ≡ true = away in absurd cc
is-away nodes epoch e (stage.Waiting b) rest kept stands away sound = let no : false ≡ true = away in absurd cc
is-away nodes epoch e stage.Lent rest kept stands away sound = absurd sound
is-away nodes epoch e (stage.Closed last) rest kept stands away sound = let no : false ≡ true = away in absurd cc

-- what is early away is early over, one later
away-over : (nodes : OpenNodes) (n e : ℕ) → IsEarlyAway nodes n e → IsEarlyOver nodes (e + 1)
away-over nodes n e early = omega (arith, early)

-- what an end comes to
abbrev pub Comes : OpenNodes → FrontEnv → FrontPart → ℕ → ℕ → Final → DispatchStanding → FrontDeed → Type 0
Comes nodes env p from epoch last at Drops = Unit {0}
Comes nodes env p from epoch last at (Says turn) = Unit {0}
Comes nodes env p from epoch last at (Does x) = (row : FrontRow) × (x ≡ front_ends env p from epoch last row (next_epoch row)) × IsAdmitted at × IsEarlyOver nodes (next_epoch row).0

pub end-comes : (nodes : OpenNodes) (env : FrontEnv) (p : FrontPart) (from epoch : ℕ) (last : Final) (at : DispatchStanding) → IsPartSound nodes p at → Comes nodes env p from epoch last at (front_ended env p from epoch last)
end-comes nodes env p from epoch last at sound = go p.row sound where
  by : (row : FrontRow) (a b : Bool) → is_away epoch row.stage ≡ a → IsStageSound nodes row.epoch.0 p.rest p.kept at row.stage
      → Comes nodes env p from epoch last at (front_ended_by env p from epoch last (Some row) (cond a (New (next_epoch row)) (cond b Again Stale)))
  by row true b away h =
      let there : IsAway nodes row.epoch.0 p.kept at = is-away nodes epoch row.epoch.0 row.stage p.rest p.kept at away h in
      (row, refl, (there.0, there.1.stands), away-over nodes there.0 row.epoch.0 there.1.early)
  by row false true away h = tt
  by row false false away h = tt

  go : (o : Option FrontRow) → IsRowSound nodes p.rest p.kept at o → Comes nodes env p from epoch last at (front_ended_by env p from epoch last o (end_answer epoch o))
  go None h = tt
  go (Some row) h = by row (is_away epoch row.stage) (ended_with epoch row.ended_by) refl h

-- ---- the head, behind whatever is put back

module _ (k : FrontSetting) (s : FrontState) (sound : IsFrontSound s) (c : ℕ) (x : Did) (in_ : IsAdmitted (dispatch_standing s.dispatch c)) where
  abbrev nodes : OpenNodes
  nodes = open_nodes_of s.dispatch

  module _ (w : Waiting) (ws : List Waiting) (line : s.dispatch.books.line ≡ w ∷ ws) where
    -- it waits, also once another is put back
    pub head-waiting : Waits nodes (front_part (put_back s c x) w.c)
    head-waiting =
        subst (Waits nodes) (sym (part_other s c w.c x.part (head-apart s.dispatch c k.now in_ w ws line)))
        (line-waits nodes (front_part s w.c) (dispatch_standing s.dispatch w.c) (sound.each w.c) (head-there s.dispatch c k.now in_ w ws line))

    abbrev choice : FirstChoice
    choice = chosen s.dispatch c k.now in_ w ws line

    abbrev given : FrontPart × FrontTurn
    given = handed_off (front_env k (put_back s c x) w.c 0) head-waiting.row (serving head-waiting.block head-waiting.rest.count []) head-waiting.path choice

    pub head-given : front_admitted (front_env k (put_back s c x) w.c 0) (front_part (put_back s c x) w.c) choice ≡ Some given
    head-given = waits-admitted (front_env k (put_back s c x) w.c 0) nodes (front_part (put_back s c x) w.c) choice head-waiting

  abbrev number_of : Option (ℕ × FirstChoice) → ℕ
  number_of None = 0
  number_of (Some next) = next.0

  -- the head, where there is one, waits
  pub next-waits : (next : ℕ × FirstChoice) → ended_answer s.dispatch c k.now ≡ Some next → Waits nodes (front_part (put_back s c x) next.0)
  next-waits next is = go s.dispatch.books.line refl is where
    go : (ws : List Waiting) → s.dispatch.books.line ≡ ws → next_admission s.dispatch.config k.now (released_from s.dispatch.books c) ws ≡ Some next → Waits nodes (front_part (put_back s c x) next.0)
    go [] line e = let no : None ≡ Some next = e in absurd cc
    go (w ∷ ws) line e =
        let same : w.c ≡ next.0 = ap number_of e in
        subst (λ n. Waits nodes (front_part (put_back s c x) n)) same (head-waiting w ws line)

-- ---- one is released, and the head is handed off

module _ (k : FrontSetting) (s : FrontState) (sound : IsFrontSound s) (c : ℕ) (part : FrontPart) (turn : FrontTurn) (in_ : IsAdmitted (dispatch_standing s.dispatch c))
    (own : IsPartSound (open_nodes_of s.dispatch) part nowhere) (tag : HasTag part.rest) where
  abbrev d : Dispatcher
  d = s.dispatch

  abbrev After : Dispatcher
  After = after_ended d c k.now

  -- it is put back so, and released
  abbrev pub released_as : Did
  released_as = record { part = part; turn = turn; calls = call.Ended c k.now ∷ [] }

  abbrev after : FrontState
  after = put_back s c released_as

  alone-keeps : d.books.line ≡ [] → Keeps d c k.now released_as
  alone-keeps none = record {
    part = subst (IsPartSound (open_nodes_of d) part) (sym (none-here d c k.now in_ none)) own;
    nodes = ended-nodes d c k.now;
    tag = tag;
    others = none-others d c k.now in_ none;
    allowed = (may-end d c k.now in_, tt);
    clock = before-ended d c k.now;
  }

  -- the head, where there is one
  abbrev Behind : Option (ℕ × FirstChoice) → HeadTurn
  Behind next = head_turn k after c next

  module _ (w : Waiting) (ws : List Waiting) (line : d.books.line ≡ w ∷ ws) where
    abbrev waits : Waits (open_nodes_of d) (front_part after w.c)
    waits = head-waiting k s sound c released_as in_ w ws line

    abbrev there : FirstChoice
    there = chosen d c k.now in_ w ws line

    abbrev handed : FrontPart × FrontTurn
    handed = handed_off (front_env k after w.c 0) waits.row (serving waits.block waits.rest.count []) waits.path there

    both-all : (P : ℕ → FrontPart → Type 0) → P c part → P w.c handed.0 → ((q : ℕ) → (q ≡ c → ⊥) → (q ≡ w.c → ⊥) → P q (front_part s q)) → (q : ℕ) → P q (front_part (front_put after w.c handed.0) q)
    both-all P own head others = put-all P after w.c handed.0 head (put-all (λ q p. (q ≡ w.c → ⊥) → P q p) s c part (λ n. own) others)

    head-open : is_open d.books.loads there.node ≡ true
    head-open = (chosen-open d.config (released_from d.books c) w.target k.now (record { count = sound.books.nodes; all = sound.books.open_nodes; some = sound.books.some_open; serve = sound.served })).0

    abbrev Stands : OpenNodes → ℕ → FrontPart → Type 0
    Stands nodes q p = IsPartSound nodes p (dispatch_standing After q)

    both-stay : Stays k.now s (front_put after w.c handed.0)
    both-stay = record {
      sound = record {
        each = subst (λ nodes. (q : ℕ) → Stands nodes q (front_part (front_put after w.c handed.0) q)) (sym (ended-nodes d c k.now))
            (both-all (Stands (open_nodes_of d)) (subst (IsPartSound (open_nodes_of d) part) (sym (head-ended d c k.now in_ w ws line)) own)
            (record { stands = head-here d c k.now in_ w ws line sound.books; early = goes-early (open_nodes_of d) there.node waits.row.epoch.0 head-open waits.here.early; offer = refl })
            (λ q n m. subst (IsPartSound (open_nodes_of d) (front_part s q)) (sym (head-others d c k.now in_ w ws line q n m)) (sound.each q)));
        tags = both-all (λ q p. HasTag p.rest) tag (λ some. absurd (omega (arith, some))) (λ q n m. sound.tags q);
        some = put-some after w.c handed.0 (put-some s c part sound.some);
        books = calls-kept d released_as.calls sound.books (may-end d c k.now in_, tt);
        few_open = subst (λ (nodes : OpenNodes). length nodes.left_open ≤ nodes.all) (sym (ended-nodes d c k.now)) sound.few_open;
        served = calls-serve d released_as.calls sound.books (may-end d c k.now in_, tt) sound.served;
      };
      clock = before-ended d c k.now;
    }

    -- what is so where it is handed off, is so
    handed-so : (P : HeadTurn → Type 0) → P (handed_head k after c w.c (Some handed)) → P (Behind (Some (w.c, there)))
    handed-so P h = subst (λ (o : Option (FrontPart × FrontTurn)). P (handed_head k after c w.c o)) (sym (head-given k s sound c released_as in_ w ws line)) h

  abbrev the_next : List Waiting → Option (ℕ × FirstChoice)
  the_next ws = next_admission d.config k.now (released_from d.books c) ws

  -- the state behind it is sound; the connection is there as it was put back; and what becomes of it is as the dispatcher answers then
  pub record Released (h : HeadTurn) : Type 0 where
    pub stays : Stays k.now s h.state
    pub there : front_part h.state c ≡ part
    pub answers : (path : List ℕ) → h.first path ≡ first_answer h.state.dispatch path k.now

  pub released-stay : Released (Behind (ended_answer d c k.now))
  released-stay = go d.books.line refl where
    go : (ws : List Waiting) → d.books.line ≡ ws → Released (Behind (the_next ws))
    go [] line = record { stays = put-stays s c k.now released_as sound (alone-keeps line); there = part_put s c part; answers = λ path. refl }
    go (w ∷ ws) line = handed-so w ws line Released (record {
      stays = both-stay w ws line;
      there = part_other after w.c c (handed w ws line).0 (λ e. head-apart d c k.now in_ w ws line (sym e)) ∙ part_put s c part;
      answers = λ path. sym (ap (λ b. cond {A = First} b first.Waits (first.Go (choice_at After.config After.books path k.now))) (no-room d c k.now in_ w ws line sound.books));
    })

-- ---- an end

-- the state is that behind the head
admits-state : (k : FrontSetting) (old s : FrontState) (c : ℕ) (x : Did) (o : Option (ℕ × FirstChoice)) → (head_turn k s c o).state ≡ (admits k old s c x o).0
admits-state k old s c x None = refl
admits-state k old s c x (Some head) = go (front_admitted (front_env k s head.0 0) (front_part s head.0) head.1) where
  go : (y : Option (FrontPart × FrontTurn)) → (handed_head k s c head.0 y).state ≡ (admits_too old s c x head.0 y).0
  go None = refl
  go (Some y) = refl

pub ended-stays : (k : FrontSetting) (s : FrontState) (c from epoch : ℕ) (last : Final) → IsFrontSound s
    → Stays k.now s (ended_deed k s c (front_ended (front_env k s c 0) (front_part s c) from epoch last)).0
ended-stays k s c from epoch last sound =
    go (front_ended (front_env k s c 0) (front_part s c) from epoch last) (end-comes (open_nodes_of s.dispatch) (front_env k s c 0) (front_part s c) from epoch last (dispatch_standing s.dispatch c) (sound.each c)) where
      ends : (row : FrontRow) → IsAdmitted (dispatch_standing s.dispatch c) → IsEarlyOver (open_nodes_of s.dispatch) (next_epoch row).0
          → Stays k.now s (ended_deed k s c (Does (front_ends (front_env k s c 0) (front_part s c) from epoch last row (next_epoch row)))).0
      ends row in_ early =
          let x : Did = front_ends (front_env k s c 0) (front_part s c) from epoch last row (next_epoch row) in
          subst (Stays k.now s) (admits-state k s (put_back s c x) c x (ended_answer s.dispatch c k.now)) (released-stay k s sound c x.part x.turn in_ (early, refl) tt).stays

      go : (deed : FrontDeed) → Comes (open_nodes_of s.dispatch) (front_env k s c 0) (front_part s c) from epoch last (dispatch_standing s.dispatch c) deed → Stays k.now s (ended_deed k s c deed).0
      go Drops comes = still-stays s k.now sound
      go (Says turn) comes = still-stays s k.now sound
      go (Does x) comes = subst (λ y. Stays k.now s (ended_deed k s c (Does y)).0) (sym comes.1) (ends comes.0 comes.2 comes.3)
