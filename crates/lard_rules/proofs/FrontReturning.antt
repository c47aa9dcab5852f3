-- A connection that comes back: its node is closed, it is released and held again, the head of the line is handed off, and it reads on.
use Rattle.std.proofs.Common.{◌≡◌, ℕ, ◌-◌, Bool, true, false, cond, List, [], ◌∷◌, Option, Some, None, Result, Ok, Err, refl, sym, ◌∙◌, subst, arith}
use Rattle.lard_base.specs.declared.ids.Epoch.{Epoch}
use Rattle.lard_base.specs.declared.ids.Millis.{Millis}
use Rattle.lard_base.specs.declared.parts.EndpointParts.{EndpointParts}
use Rattle.lard_base.specs.declared.place.Place.{Place}
use Rattle.lard_base.specs.Parts.{IsValidParts}
use Rattle.lard_dispatch.specs.Calls.{after_close, ended_answer}
use Rattle.lard_endpoint.specs.Moving.{adopted}
use Rattle.lard_handoff_front.specs.declared.row.FrontRow.{FrontRow}
use Rattle.lard_handoff_front.specs.declared.table.returns.Back.{Back}
use Rattle.lard_handoff_front.specs.declared.table.returns.Back.TheVariants as back
use Rattle.lard_handoff_front.specs.Returns.{give_answer, refused_answer, returned_row}
use Rattle.lard_journal.specs.declared.rec.Rec.{Rec}
use Rattle.lard_message.specs.declared.fault.MsgFault.{MsgFault}
use Rattle.lard_message.specs.declared.message.Body.{Body}
use Rattle.lard_message.specs.declared.message.Body.TheVariants as body
use Rattle.lard_message.specs.declared.message.Message.{Message}
use Rattle.lard_message.specs.Message.{IsOfTable}
use Rattle.lard_message.specs.Reading.{decoded_message}
use Rattle.lard_resend.specs.declared.kept.Kept.{Kept}
use Rattle.lard_rules.specs.declared.front.FrontState.{FrontState}
use Rattle.lard_rules.specs.Front.{FrontDeed, Drops, Says, Does, FrontPart, back_answer, back_part, back_rest, front_saying, given_sent, is_behind, is_row_at, parts_back, parts_in, parts_kept, parts_read, reads_on}
use Rattle.lard_rules.specs.FrontPlace.{FrontSetting, HeadTurn, comes_back, env_behind, front_part, goes_behind, head_turn, put_back, put_returned, returned_deed, returned_notes}
use Rattle.lard_rules.specs.FrontSound.{DispatchStanding, HasOther, IsAwayAt, IsFrontSound, IsPartSound, OpenNodes, Serves, dispatch_standing, nowhere, open_nodes_of}
use Rattle.lard_rules.proofs.FrontClosing.{back-early, close-stands, closes-stay}
use Rattle.lard_rules.proofs.FrontDeeds.{heard-keeps, row-at}
use Rattle.lard_rules.proofs.FrontEnded.{Released, released-stay}
use Rattle.lard_rules.proofs.FrontKeeping.{DeedKeeps, Stays, put-stays, still-stays}
use Rattle.lard_rules.proofs.FrontOpen.{has-open}
use Rattle.lard_rules.proofs.MessageTold.{IsTold, message-told}

-- ---- the endpoint that comes back

pub adopted-serves : (parts : EndpointParts) → IsValidParts parts → Serves parts.served (adopted parts).recv (adopted parts).send
adopted-serves parts valid = record {
  asked = omega (arith, valid.answered, valid.within);
  most = valid.received;
  sent = omega (arith, valid.syn_acknowledged);
}

-- an Offer that is kept and is read has valid parts
kept-valid : (ks : List Kept) (parts : EndpointParts) → parts_kept ks ≡ Some parts → IsValidParts parts
kept-valid [] parts is = let no : None ≡ Some parts = is in absurd cc
kept-valid (x ∷ ks) parts is = go (decoded_message x.bytes) (message-told x.bytes) is where
  by : (b : Body) → IsOfTable b → parts_in b ≡ Some parts → IsValidParts parts
  by (body.Offer given) table e = let same : given ≡ parts = cc in subst IsValidParts same table
  by _ table e = let no : None ≡ Some parts = e in absurd cc

  go : (r : Result Message MsgFault) → IsTold r → parts_read r ≡ Some parts → IsValidParts parts
  go (Ok m) told e = by m.body told e
  go (Err f) told e = let no : None ≡ Some parts = e in absurd cc

abbrev pub AreValid : Option EndpointParts → Type 0
AreValid None = Unit {0}
AreValid (Some parts) = IsValidParts parts

pub back-valid : (p : FrontPart) (given : Option EndpointParts) (parts : EndpointParts) → AreValid given → parts_back p given ≡ Some parts
    → IsValidParts parts
back-valid p None parts valid is = kept-valid p.kept parts is
back-valid p (Some given) parts valid is = let same : given ≡ parts = cc in subst IsValidParts same valid

-- what is new comes from the node where the connection is
pub back-new : (from epoch : ℕ) (given : Option EndpointParts) (o : Option FrontRow) (next : Epoch) → back_answer from epoch given o ≡ back.New next
    → is_row_at from epoch o ≡ true
back-new from epoch None o next is = go (is_row_at from epoch o) refl is where
  go : (b : Bool) → is_row_at from epoch o ≡ b → cond b (refused_answer epoch o) back.Stale ≡ back.New next → b ≡ true
  go true e h = refl
  go false e h = let no : back.Stale ≡ back.New next = h in absurd cc
back-new from epoch (Some parts) o next is = go (is_row_at from epoch o) (is_behind epoch o) is where
  go : (b c : Bool) → cond b (give_answer epoch o) (cond c back.Again back.Stale) ≡ back.New next → b ≡ true
  go true c h = refl
  go false true h = let no : back.Again ≡ back.New next = h in absurd cc
  go false false h = let no : back.Stale ≡ back.New next = h in absurd cc

-- so it is there
pub back-away : (nodes : OpenNodes) (from epoch : ℕ) (given : Option EndpointParts) (p : FrontPart) (stands : DispatchStanding) (row : FrontRow) (next : Epoch)
    → p.row ≡ Some row → back_answer from epoch given p.row ≡ back.New next → IsPartSound nodes p stands → IsAwayAt nodes row.epoch.0 p.kept stands from
back-away nodes from epoch given p stands row next at new sound =
    let there = row-at nodes from epoch p.row p.rest p.kept stands (back-new from epoch given p.row next new) sound in
    let same : there.0 ≡ row = let both : Some there.0 ≡ Some row = sym there.1 ∙ at in cc in
    subst (λ (r : FrontRow). IsAwayAt nodes r.epoch.0 p.kept stands from) same there.2

-- ---- it reads on

then-stays : (now : Millis) (s t u : FrontState) → Stays now s t → Stays now t u → Stays now s u
then-stays now s t u first then = record { sound = then.sound; clock = λ h. then.clock (first.clock h) }

module _ (k : FrontSetting) (s : FrontState) (from c : ℕ) (row : FrontRow) (parts : EndpointParts) (sound : IsFrontSound s) (other : HasOther s from)
    (away : IsAwayAt (open_nodes_of s.dispatch) row.epoch.0 (front_part s c).kept (dispatch_standing s.dispatch c) from) (valid : IsValidParts parts) where
  -- its node is closed
  abbrev pub closed : FrontState
  closed = record s { dispatch = after_close s.dispatch from }

  pub closed-stays : Stays k.now s closed
  closed-stays = closes-stay k.now s from other sound

  abbrev pub part : FrontPart
  part = back_part (front_part s c) row parts

  pub held : IsPartSound (open_nodes_of closed.dispatch) part nowhere
  held = (record { early = back-early s.dispatch from row.epoch.0 away.early; serves = adopted-serves parts valid }, away.offer, refl)

  -- the head is handed off
  abbrev pub head : HeadTurn
  head = head_turn k (put_returned k s from c row parts) c (ended_answer (after_close s.dispatch from) c k.now)

  pub released : Released k closed closed-stays.sound c part (front_saying []) (from, close-stands s.dispatch from c ∙ away.stands) held (λ some. absurd (omega (arith, some))) head
  released =
      released-stay k closed closed-stays.sound c part (front_saying []) (from, close-stands s.dispatch from c ∙ away.stands) held (λ some. absurd (omega (arith, some)))

  pub head-stays : Stays k.now s head.state
  head-stays = then-stays k.now s closed head.state closed-stays released.stays

  -- it is held, behind the head
  still-held : IsPartSound (open_nodes_of head.state.dispatch) part (dispatch_standing head.state.dispatch c)
  still-held =
      subst (λ p. IsPartSound (open_nodes_of head.state.dispatch) p (dispatch_standing head.state.dispatch c)) released.there (released.stays.sound.each c)

  pub read-on : DeedKeeps head.state.dispatch c k.now (reads_on (env_behind k head c) (front_part s c) row parts)
  read-on = heard-keeps head.state.dispatch (env_behind k head c) part (returned_row parts row) (back_rest parts) (adopted parts) (record { first = released.answers; later = λ ask. refl })
      (has-open head.state.dispatch released.stays.sound.books released.stays.sound.served) still-held.2 still-held.0.early away.offer (λ some. absurd (omega (arith, some))) (adopted-serves parts valid)

  pub returns-stay : (notes : List Rec) (said : List (Place × List ℕ)) (deed : FrontDeed) → DeedKeeps head.state.dispatch c k.now deed
      → Stays k.now s (goes_behind s c notes said head deed).0
  returns-stay notes said Drops keeps = head-stays
  returns-stay notes said (Says t) keeps = head-stays
  returns-stay notes said (Does x) keeps =
      then-stays k.now s head.state (put_back head.state c x) head-stays (put-stays head.state c k.now x released.stays.sound keeps)

pub returned-stays : (k : FrontSetting) (s : FrontState) (from c epoch : ℕ) (given : Option EndpointParts) → HasOther s from → AreValid given
    → IsFrontSound s → Stays k.now s (comes_back k s from c epoch given).0
returned-stays k s from c epoch given other valid sound =
    go (front_part s c).row refl (back_answer from epoch given (front_part s c).row) refl (parts_back (front_part s c) given) refl where
      said : List (Place × List ℕ)
      said = given_sent c from epoch given

      go : (o : Option FrontRow) → (front_part s c).row ≡ o → (answer : Back) → back_answer from epoch given (front_part s c).row ≡ answer
          → (given_back : Option EndpointParts) → parts_back (front_part s c) given ≡ given_back
          → Stays k.now s (returned_deed k s from c said o answer given_back).0
      go (Some row) at (back.New next) new (Some parts) is =
          let away = back-away (open_nodes_of s.dispatch) from epoch given (front_part s c) (dispatch_standing s.dispatch c) row next at new (sound.each c) in
          let v : IsValidParts parts = back-valid (front_part s c) given parts valid is in
          returns-stay k s from c row parts sound other away v (returned_notes s.dispatch from c row) said (reads_on (env_behind k (head k s from c row parts sound other away v) c) (front_part s c) row parts)
          (read-on k s from c row parts sound other away v)
      go (Some row) at (back.New next) new None is = still-stays s k.now sound
      go (Some row) at back.Again new parts is = still-stays s k.now sound
      go (Some row) at back.Stale new parts is = still-stays s k.now sound
      go None at answer new parts is = still-stays s k.now sound
