-- A connection that came back, and the head of the line in the room that it leaves.
use Rattle.std.proofs.Common.{◌≡◌, ℕ, nat_lt, Bool, true, false, cond, is_some, List, [], ◌∷◌, ◌++◌, Option, Some, None, IfSome, Result, Ok, Err, IfOk, option_map, refl, sym, ap, ◌∙◌, subst, arith}
use Rattle.std.specs.FinMap as table
use Rattle.lard_base.specs.declared.ids.Epoch.{Epoch}
use Rattle.lard_base.specs.declared.parts.EndpointParts.{EndpointParts}
use Rattle.lard_base.specs.declared.place.Place.{Place}
use Rattle.lard_base.specs.declared.place.Place.TheVariants as place
use Rattle.lard_base.specs.declared.place.TimerKind.TheVariants as kind
use Rattle.lard_base.specs.Parts.{IsValidParts}
use Rattle.lard_dispatch.specs.Books.{Dispatcher}
use Rattle.lard_dispatch.specs.Calls.{after_close, ended_answer}
use Rattle.lard_dispatch.specs.Sound.{AreBefore}
use Rattle.lard_endpoint.specs.Moving.{adopted}
use Rattle.lard_front.specs.declared.joining.Head.{Head}
use Rattle.lard_front.specs.declared.returning.Returning.{Returning}
use Rattle.lard_front.specs.declared.turns.Armed.{Armed}
use Rattle.lard_front.specs.Hand.{HeadWaits, Holds, IsFree, armed_of, changes, deed_turn, gives, reads_at}
use Rattle.lard_front.specs.Returned.{CameBack, IsHead, behind_head, freed, freed_notes, head_next, rested_anew, returned_from}
use Rattle.lard_front.proofs.Joined.{few-nodes, handed_is, waits_as}
use Rattle.lard_front.proofs.Steps.{changes_are}
use Rattle.lard_handoff_front.specs.declared.row.FrontConn.TheVariants as stage
use Rattle.lard_handoff_front.specs.declared.row.FrontRow.{FrontRow}
use Rattle.lard_handoff_front.specs.declared.table.returns.Back.{Back}
use Rattle.lard_handoff_front.specs.declared.table.returns.Back.TheVariants as back
use Rattle.lard_handoff_front.specs.Front.{Fronts, next_epoch}
use Rattle.lard_handoff_front.specs.Returns.{after_back, returned_row}
use Rattle.lard_handoff_front.specs.Row.{is_away, offered_to}
use Rattle.lard_journal.specs.declared.rec.Rec.{Rec}
use Rattle.lard_journal.specs.declared.rec.Rec.TheVariants as rec
use Rattle.lard_policy.specs.declared.first.FirstChoice.{FirstChoice}
use Rattle.lard_resend.proofs.Renewed.{settled_is}
use Rattle.lard_resend.specs.Pending.{held}
use Rattle.lard_rules.specs.declared.front.FrontRest.{FrontRest}
use Rattle.lard_rules.specs.declared.front.FrontState.{FrontState}
use Rattle.lard_rules.specs.declared.front.FrontTurn.{FrontTurn}
use Rattle.lard_rules.specs.declared.places.Out.{Out}
use Rattle.lard_rules.specs.Front.{FrontDeed, Does, Did, FrontEnv, FrontPart, back_answer, back_part, back_rest, front_admitted, front_rest, front_rests, front_saying, given_sent, is_row_at, parts_back, placed, reads_on, settled_by, turn_here}
use Rattle.lard_rules.specs.FrontPlace.{FrontSetting, HeadTurn, closed_note, comes_back, env_behind, front_env, front_out_of, front_part, front_timers, goes_behind, handed_head, head_turn, in_order, put_back, put_returned, returned_deed, returned_notes, returned_turn, returns}
use Rattle.lard_rules.specs.FrontReading.{front_reads}
use Rattle.lard_rules.specs.FrontSound.{DispatchStanding, HasOther, HasTag, IsAwayAt, IsEarlyHere, IsFrontSound, IsPartSound, dispatch_standing, nowhere, open_nodes_of}
use Rattle.lard_rules.specs.Serving.{Service, serving, serving_settled}
use Rattle.lard_rules.proofs.FrontClosing.{back-early, close-stands, closes-stay}
use Rattle.lard_rules.proofs.FrontDeeds.{row-at}
use Rattle.lard_rules.proofs.FrontEnded.{IsAdmitted, Released, next-waits, released-stay, released_as}
use Rattle.lard_rules.proofs.FrontKeeping.{Stays, put-some}
use Rattle.lard_rules.proofs.FrontParts.{part_put}
use Rattle.lard_rules.proofs.FrontReturning.{adopted-serves, back-new}

-- ---- a head that was handed off

pub next_is : {E : Type 0} (k : FrontSetting) (s : FrontState) (c : ℕ) (o : Option (ℕ × FirstChoice)) (d : ℕ × FirstChoice)
    → o ≡ Some d → (new : FrontState) (r : Result Head E)
    → IfOk r (λ x. x.c ≡ d.0) → IfOk r (λ x. option_map (gives s d.0) (front_admitted (front_env k s d.0 0) (front_part s d.0) d.1) ≡ Some (new, x.turn))
    → IfOk r (λ x. x.timers ≡ changes d.0 (armed_of (front_part s d.0)) (armed_of (front_part new d.0))) → IfOk r (λ x. IsHead new x c (head_turn k s c o))
next_is k s c o d is new (Err e) who given changed = tt
next_is k s c o d is new (Ok x) who given changed =
    let h = handed_is s d.0 (front_admitted (front_env k s d.0 0) (front_part s d.0) d.1) given changed in
    let y = h.0 in
    subst (λ o. IsHead new x c (head_turn k s c o)) (sym is) (subst (λ o. IsHead new x c (handed_head k s c d.0 o)) (sym h.1) (record {
      state = h.2;
      turn = h.3;
      timers = λ rs. (λ i. in_order c (who i) rs (h.4 i));
    }))

-- ---- as the code has it

module _ (k : FrontSetting) (t : FrontState) (r : Returning) (from : ℕ) (b : CameBack t r from) where
  abbrev s : FrontState
  s = b.before

  -- its node is closed
  abbrev closed : FrontState
  closed = record s { dispatch = after_close s.dispatch from }

  closed_stays : Stays k.now s closed
  closed_stays = closes-stay k.now s from b.other b.sound

  in_ : IsAdmitted (dispatch_standing closed.dispatch r.c)
  in_ = (from, close-stands s.dispatch from r.c ∙ b.away.stands)

  abbrev part : FrontPart
  part = back_part (front_part s r.c) b.row b.parts

  early : IsEarlyHere (open_nodes_of closed.dispatch) (next_epoch b.row).0
  early = back-early s.dispatch from b.row.epoch.0 b.away.early

  own : IsPartSound (open_nodes_of closed.dispatch) part nowhere
  own = (record { early = early; serves = adopted-serves b.parts b.valid }, b.away.offer, refl)

  abbrev answers : Option (ℕ × FirstChoice)
  answers = ended_answer (after_close s.dispatch from) r.c k.now

  abbrev put : FrontState
  put = put_returned k s from r.c b.row b.parts

  abbrev h : HeadTurn
  h = head_turn k put r.c answers

  no-tag : HasTag part.rest
  no-tag some = absurd (omega (arith, some))

  left : Released k closed closed_stays.sound r.c part (front_saying []) in_ own no-tag h
  left = released-stay k closed closed_stays.sound r.c part (front_saying []) in_ own no-tag

  -- ---- the room that it leaves

  abbrev here : FrontState
  here = record s { conns = table.insert s.conns r.c (returned_row b.parts b.row) }

  freed_is : freed k t r from ≡ put
  freed_is =
      ap (λ u. freed k u r from) b.back
      ∙ (λ i. record (freed k here r from) {
        rests = table.insert s.rests r.c (record (front_rest None) { count = b.counts i });
        kept = settled_is s.kept r.c kind.Offer 0 (b.sound.some r.c) i;
      })

  -- the head, where there is one, waits
  put_waits : (d : Dispatcher) (o : Option (ℕ × FirstChoice)) → answers ≡ o → IfSome o (λ next. HeadWaits (record put { dispatch = d }) next.0)
  put_waits d None is = tt
  put_waits d (Some next) is =
      waits_as (record put { dispatch = d }) next.0 (open_nodes_of closed.dispatch) (few-nodes closed.dispatch closed_stays.sound.books)
      (next-waits k closed closed_stays.sound r.c (released_as k closed closed_stays.sound r.c part (front_saying []) in_ own no-tag) in_ next is)
      (put-some s r.c part b.sound.some next.0)

  pub room_waits : (d : Dispatcher) {u : FrontState} {o : Option (ℕ × FirstChoice)} → u ≡ rested_anew t r → o ≡ ended_answer (after_close u.dispatch from) r.c k.now
      → IfSome o (λ next. HeadWaits (record u { dispatch = d }) next.0)
  room_waits d {u = u} {o = o} is asked =
      let answered : o ≡ answers = asked ∙ ap (λ (v : FrontState). ended_answer (after_close v.dispatch from) r.c k.now) (is ∙ ap (λ v. rested_anew v r) b.back) in
      let there : record u { dispatch = d } ≡ record put { dispatch = d } =
      ap (λ (v : FrontState). record v { dispatch = d }) is ∙ ap (λ (v : FrontState). record v { dispatch = d }) freed_is in
      subst (λ o. IfSome o (λ next. HeadWaits (record u { dispatch = d }) next.0)) (sym answered)
      (subst (λ v. IfSome answers (λ next. HeadWaits v next.0)) (sym there) (put_waits d answers refl))

  head_is : head_next k t r from ≡ h
  head_is = λ i. head_turn k (freed_is i) r.c (ended_answer (after_close (b.back i).dispatch from) r.c k.now)

  -- ---- it reads on

  here_again : Holds h.state r.c false
  here_again = record {
    row = returned_row b.parts b.row;
    block = adopted b.parts;
    rest = back_rest b.parts;
    found = ap (λ (p : FrontPart). p.row) left.there;
    stage = refl;
    found_rest = ap (λ (p : FrontPart). p.rest) left.there;
    small = (let few = few-nodes closed.dispatch closed_stays.sound.books in let e = early in omega (arith, few, e));
    serves = adopted-serves b.parts b.valid;
    none_kept = ap (λ (p : FrontPart). p.kept) left.there ∙ b.away.offer;
    some_kept = left.stays.sound.some r.c;
  }

  free_again : AreBefore k.now.0 s.dispatch.books.sets → IsFree h.state.dispatch r.c k.now.0
  free_again clock =
      let at : dispatch_standing h.state.dispatch r.c ≡ nowhere =
      (subst (λ p. IsPartSound (open_nodes_of h.state.dispatch) p (dispatch_standing h.state.dispatch r.c)) left.there (left.stays.sound.each r.c)).2 in
      record {
        home = ap (λ (x : DispatchStanding). x.home) at;
        away = ap (λ (x : DispatchStanding). x.waits) at;
        clock = left.stays.clock (closed_stays.clock clock);
      }

  -- it may read on
  pub holds_again : (u : FrontState) (x : Head) → IsHead u x r.c (head_next k t r from) → Holds u r.c false
  holds_again u x is = subst (λ u. Holds u r.c false) (sym (is.state ∙ ap (λ (h : HeadTurn). h.state) head_is)) here_again

  pub is_free_again : (u : FrontState) (x : Head) → IsHead u x r.c (head_next k t r from) → AreBefore k.now.0 t.dispatch.books.sets
      → IsFree u.dispatch r.c k.now.0
  is_free_again u x is clock =
      subst (λ (u : FrontState). IsFree u.dispatch r.c k.now.0) (sym (is.state ∙ ap (λ (h : HeadTurn). h.state) head_is))
      (free_again (subst (λ (u : FrontState). AreBefore k.now.0 u.dispatch.books.sets) b.back clock))

  -- ---- what it comes to

  module _ (said : List (Place × List ℕ)) where
    abbrev notes : List Rec
    notes = returned_notes s.dispatch from r.c b.row

    abbrev Behind : FrontDeed → FrontState × Out
    Behind deed = behind_head r notes said h (deed_turn h.state r.c deed)

    does-behind : (x : Did) → Behind (Does x) ≡ goes_behind s r.c notes said h (Does x)
    does-behind x =
        let timed : changes r.c r.was (armed_of (front_part (put_back h.state r.c x) r.c)) ≡ front_timers r.c (front_part s r.c) x.part =
        (λ i. changes r.c (b.was i) (armed_of (part_put h.state r.c x.part i))) ∙ changes_are r.c (front_part s r.c) x.part in
        ap (λ rs. (put_back h.state r.c x, front_out_of (returned_turn notes said h.turn x.turn) (h.timers rs))) timed

    settled-behind : (env : FrontEnv) (p : FrontPart) (row : FrontRow) (rest : FrontRest) (w : Service) (o : Option (List ℕ))
        → Behind (settled_by env p row rest w o) ≡ goes_behind s r.c notes said h (settled_by env p row rest w o)
    settled-behind env p row rest w None =
        let x = serving_settled env.serve w in
        does-behind (record { part = front_rests p row rest stage.Held x.0; turn = turn_here x.1; calls = [] })
    settled-behind env p row rest w (Some path) = does-behind (placed env p row rest w path (env.first path))

    reads_are : reads_at (front_env k h.state r.c 0) (front_part h.state r.c) (table.get h.state.conns r.c)
        ≡ reads_on (env_behind k h r.c) (front_part s r.c) b.row b.parts
    reads_are = λ i. reads_at (record (front_env k h.state r.c 0) { first = λ path. sym (left.answers path) i }) (left.there i) (left.there i).row

    pub returned_is : returned_from k t r from said ≡ returns k s from r.c said b.row b.parts
    returned_is =
        (λ i. behind_head r (rec.Took place.Front r.c (b.next i) ∷ closed_note (b.back i).dispatch from ++ rec.Released r.c ∷ []) said (head_is i)
        (deed_turn (head_is i).state r.c (reads_at (front_env k (head_is i).state r.c 0) (front_part (head_is i).state r.c)
        (table.get (head_is i).state.conns r.c))))
        ∙ ap Behind reads_are
        ∙ settled-behind (env_behind k h r.c) (back_part (front_part s r.c) b.row b.parts) (returned_row b.parts b.row) (back_rest b.parts)
        (front_reads (env_behind k h r.c).serve (record { service = serving (adopted b.parts) b.parts.served []; target = None })).service
        (front_reads (env_behind k h r.c).serve (record { service = serving (adopted b.parts) b.parts.served []; target = None })).target

-- ---- a connection that is new

pub new_next : (from epoch : ℕ) (given : Option EndpointParts) (row : FrontRow) (next : Epoch)
    → back_answer from epoch given (Some row) ≡ back.New next → next ≡ next_epoch row
new_next from epoch None row next is = go (is_row_at from epoch (Some row)) (is_some (offered_to epoch row.stage)) is where
  go : (a b : Bool) → cond a (cond b (back.New (next_epoch row)) back.Stale) back.Stale ≡ back.New next → next ≡ next_epoch row
  go true true e = cc
  go true false e = let no : back.Stale ≡ back.New next = e in absurd cc
  go false b e = let no : back.Stale ≡ back.New next = e in absurd cc
new_next from epoch (Some parts) row next is = go (is_row_at from epoch (Some row)) (is_away epoch row.stage) (nat_lt epoch row.epoch.0) is where
  go : (a b d : Bool) → cond a (cond b (back.New (next_epoch row)) (cond d back.Again back.Stale)) (cond d back.Again back.Stale) ≡ back.New next
      → next ≡ next_epoch row
  go true true d e = cc
  go true false true e = let no : back.Again ≡ back.New next = e in absurd cc
  go true false false e = let no : back.Stale ≡ back.New next = e in absurd cc
  go false b true e = let no : back.Again ≡ back.New next = e in absurd cc
  go false b false e = let no : back.Stale ≡ back.New next = e in absurd cc

module _ (s : FrontState) (sound : IsFrontSound s) (c from epoch : ℕ) (other : HasOther s from) (given : Option EndpointParts)
    (parts : EndpointParts) (valid : IsValidParts parts) {m : Fronts} {a : Back} {next : Epoch} {was : Armed}
    (answer : a ≡ back_answer from epoch given (table.get s.conns c)) (new : a ≡ back.New next)
    (after : m ≡ after_back s.conns c parts (table.get s.conns c) a) (armed : was ≡ armed_of (front_part s c)) where
  pub answers_new : back_answer from epoch given (table.get s.conns c) ≡ back.New next
  answers_new = sym answer ∙ new

  abbrev there : (row : FrontRow) × (table.get s.conns c ≡ Some row)
      × IsAwayAt (open_nodes_of s.dispatch) row.epoch.0 (held s.kept c) (dispatch_standing s.dispatch c) from
  there = row-at (open_nodes_of s.dispatch) from epoch (table.get s.conns c) (table.get s.rests c) (held s.kept c) (dispatch_standing s.dispatch c)
      (back-new from epoch given (table.get s.conns c) next answers_new) (sound.each c)

  abbrev r : Returning
  r = record { c = c; next = next; served = parts.served; was = was }

  abbrev pub came_back : CameBack (record s { conns = m }) r from
  came_back = record {
    before = s;
    row = there.0;
    parts = parts;
    sound = sound;
    other = other;
    found = there.1;
    away = there.2;
    valid = valid;
    next = new_next from epoch given there.0 next (sym (ap (back_answer from epoch given) there.1) ∙ answers_new);
    counts = refl;
    was = armed;
    back = ap (λ (m : Fronts). record s { conns = m }) (after ∙ (λ i. after_back s.conns c parts (there.1 i) (new i)));
  }

  pub comes_as : (k : FrontSetting) {said : FrontTurn} → said ≡ front_saying (given_sent c from epoch given) → parts_back (front_part s c) given ≡ Some parts
      → returned_from k (record s { conns = m }) r from said.messages ≡ comes_back k s from c epoch given
  comes_as k told has =
      ap (λ (t : FrontTurn). returned_from k (record s { conns = m }) r from t.messages) told
      ∙ returned_is k (record s { conns = m }) r from came_back (given_sent c from epoch given)
      ∙ sym (λ i. returned_deed k s from c (given_sent c from epoch given) (there.1 i) (answers_new i) (has i))

-- what the code puts together
pub together_is : (k : FrontSetting) (t : FrontState) (r : Returning) (from : ℕ) (said : List (Place × List ℕ)) {u n : FrontState}
    {x : Head} {read : FrontTurn} {ns : List Rec}
    → IsHead u x r.c (head_next k t r from)
    → (n, read) ≡ deed_turn u r.c (reads_at (front_env k u r.c 0) (front_part u r.c) (table.get u.conns r.c)) → ns ≡ freed_notes t.dispatch r from
    → ◌≡◌ {A = FrontState × Out} (n, front_out_of (returned_turn ns said x.turn read) (in_order r.c x.c (changes r.c r.was (armed_of (front_part n r.c))) x.timers))
    (returned_from k t r from said)
together_is k t r from said {n = n} {read = read} is reads noted =
    (λ i. (n, front_out_of (returned_turn (noted i) said (is.turn i) read) (is.timers (changes r.c r.was (armed_of (front_part n r.c))) i)))
    ∙ ap (behind_head r (freed_notes t.dispatch r from) said (head_next k t r from))
    (reads ∙ ap (λ (u : FrontState). deed_turn u r.c (reads_at (front_env k u r.c 0) (front_part u r.c) (table.get u.conns r.c))) is.state)

pub out_with : {S T E : Type 0} (n : S) (a : T) (y : S × T) → (n, a) ≡ y → (r : Result T E) → IfOk r (λ t. t ≡ a) → IfOk r (λ t. (n, t) ≡ y)
out_with n a y e (Ok t) h = (λ i. (n, h i)) ∙ e
out_with n a y e (Err f) h = tt
