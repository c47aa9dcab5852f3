-- The records of an Ask, one by one.
use Rattle.std.proofs.Common.{◌≡◌, ℕ, zero, suc, ◌+◌, ◌<◌, ◌==◌, ◌&&◌, nat_lt, if◌then◌else◌, Bool, true, List, [], ◌∷◌, ◌++◌, length, map, drop, get_or, slice_get, Some, refl, sym, ap, ◌∙◌, append_assoc, arith}
use Rattle.std.specs.FinMap as table
use Rattle.std.specs.FinMap.{FinMap}
use Rattle.std.specs.Ordering.{nat_cmp}
use Rattle.lard_base.specs.declared.ids.Millis.{Millis}
use Rattle.lard_costs.specs.declared.later.LaterChoice.{LaterChoice}
use Rattle.lard_dispatch.specs.declared.dispatch.Ask.{Ask}
use Rattle.lard_dispatch.specs.declared.dispatch.Later.{Later}
use Rattle.lard_dispatch.specs.Books.{Dispatcher}
use Rattle.lard_dispatch.specs.Laws as call
use Rattle.lard_dispatch.specs.Calls.{after_later}
use Rattle.lard_rules.specs.declared.front.FrontRest.{FrontRest}
use Rattle.lard_rules.specs.declared.front.FrontState.{FrontState}
use Rattle.lard_rules.specs.declared.front.FrontTurn.{FrontTurn}
use Rattle.lard_rules.specs.Front.{Drops, Says, Does, FrontEnv, FrontPart, asked_by, assigned_notes, assigns, front_asked, is_row_at, over_note, front_rest, front_saying, tag_sent}
use Rattle.lard_rules.specs.FrontPlace.{front_part, put_back}
use Rattle.lard_front.specs.Asking.{assigned_by, assigned_with, kept_rests}
use Rattle.lard_front.specs.Hand.{deed_turn}
use Rattle.lard_front.specs.Told.{front_telling}
use Rattle.lard_message.specs.declared.message.Body.TheVariants as body
use Rattle.lard_resend.proofs.Lists.{list_got}
use Rattle.lard_table.proofs.Map.{put_got}
use Rattle.lard_journal.specs.declared.rec.Rec.{Rec}
use Rattle.lard_journal.specs.declared.rec.Rec.TheVariants as rec

-- what was chosen is kept and told
module _ (env : FrontEnv) (s : FrontState) (epoch : ℕ) (ask : Ask) (assigned : ℕ) (l : Later) where
  abbrev picked : List ℕ
  picked = map (λ (x : LaterChoice). x.node) l.choices

  abbrev noting : ℕ → List Rec
  noting c = over_note c l.over ++ assigned_notes c ask assigned ask.paths l.choices

  pub assigned-with : {nodes tag : List ℕ} {last : ℕ} {rests : FinMap nat_cmp FrontRest} {d : Dispatcher} {notes : List Rec} {turn : FrontTurn} → env.serve.c ≡ ask.c
      → rests ≡ kept_rests s.rests ask tag last → tag ≡ nodes → nodes ≡ picked → last ≡ assigned + length l.choices → d ≡ after_later s.dispatch ask env.now → notes ≡ noting ask.c
      → turn ≡ front_telling ask.c epoch ask.home (body.Tag ask.number nodes) → (record s { rests = rests; dispatch = d }, record turn { notes = notes }) ≡ assigned_with env s epoch ask assigned l
  assigned-with number are copied chosen ends after noted told = λ j. (
    record s { rests = (are ∙ (λ i. kept_rests s.rests ask ((copied ∙ chosen) i) (ends i))) j; dispatch = after j },
    record ((told ∙ (λ i. front_telling (sym number i) epoch ask.home (body.Tag ask.number (chosen i)))) j) { notes = (noted ∙ ap noting (sym number)) j },
  )

module _ (c : ℕ) (ask : Ask) where
  abbrev pub note_of : ℕ → List ℕ → LaterChoice → Rec
  note_of m path x = rec.AssignedLater c (m + 1) path x.node x.add ask.size ask.queue

  -- the i-th path and choice make the next record
  next : (m i : ℕ) (paths : List (List ℕ)) (choices : List LaterChoice) (x : LaterChoice) → i < length choices → length choices ≡ length paths → x ≡ get_or choices i x
      → (path : List ℕ) × (slice_get paths i ≡ Some path)
      × (assigned_notes c ask m (drop i paths) (drop i choices) ≡ note_of m path x ∷ assigned_notes c ask (m + 1) (drop (suc i) paths) (drop (suc i) choices))
  next m i paths [] x l e at = absurd (omega (arith, l))
  next m i [] (y ∷ ys) x l e at = absurd (omega (arith, e))
  next m zero (p ∷ ps) (y ∷ ys) x l e at = (p, refl, ap (λ (z : LaterChoice). note_of m p z ∷ assigned_notes c ask (m + 1) ps ys) (sym at))
  next m (suc i) (p ∷ ps) (y ∷ ys) x l e at = next m i ps ys x (omega (arith, l)) (omega (arith, e)) at

  -- what was noted, with this record, and what is left
  pub more : (notes : List Rec) (r : Rec) (assigned i : ℕ) (paths : List (List ℕ)) (choices : List LaterChoice) {new all : List Rec} {x : LaterChoice} → i < length choices
      → length choices ≡ length paths → x ≡ get_or choices i x → ((path : List ℕ) → slice_get paths i ≡ Some path → r ≡ note_of (assigned + i) path x) → new ≡ notes ++ r ∷ []
      → notes ++ assigned_notes c ask (assigned + i) (drop i paths) (drop i choices) ≡ all
      → new ++ assigned_notes c ask (assigned + (i + 1)) (drop (i + 1) paths) (drop (i + 1) choices) ≡ all
  more notes r assigned i paths choices {x = x} l e at is put so =
      let n = next (assigned + i) i paths choices x l e at in
      let one : i + 1 ≡ suc i = omega arith in
      let number : assigned + (i + 1) ≡ assigned + i + 1 = omega arith in
      let left : List Rec = assigned_notes c ask (assigned + i + 1) (drop (suc i) paths) (drop (suc i) choices) in
      (λ j. put j ++ assigned_notes c ask (number j) (drop (one j) paths) (drop (one j) choices))
      ∙ append_assoc notes (r ∷ []) left
      ∙ ap (λ (z : Rec). notes ++ z ∷ left) (is n.0 n.1)
      ∙ ap (λ (zs : List Rec). notes ++ zs) (sym n.2)
      ∙ so

-- a connection that is away, of which only what was asked for changed
pub put-back-asked : (s : FrontState) (c : ℕ) (rest new : FrontRest) (turn : FrontTurn) (ask : Ask) (now : Millis) → (table.get s.kept c ≡ Some [] → ⊥)
    → put_back s c (record { part = record (front_part s c) { rest = Some new }; turn = turn; calls = call.Later ask now ∷ [] })
    ≡ record s { rests = table.insert s.rests c new; dispatch = after_later s.dispatch ask now }
put-back-asked s c rest new turn ask now some =
    (λ j. record s { conns = put_got s.conns c j; rests = table.insert s.rests c new; kept = list_got s.kept c some j; dispatch = after_later s.dispatch ask now })

module _ (env : FrontEnv) (s : FrontState) (epoch : ℕ) (ask : Ask) where
  abbrev p : FrontPart
  p = front_part s ask.c

  -- the next Ask of a connection that is with this node is new
  is-asked : (rest : FrontRest) → is_row_at ask.home epoch p.row ≡ true → p.rest ≡ Some rest → (ask.number == rest.asks + 1) ≡ true
      → front_asked env p ask.home epoch ask ≡ Does (assigns env p rest ask.home epoch ask (env.later ask))
  is-asked rest at there follows =
      let again = if ask.number == rest.asks && nat_lt 0 rest.asks then Says (front_saying (tag_sent env ask.home epoch rest.asks rest.tag)) else Drops in
      ap (λ (b : Bool). if b then asked_by env p ask.home epoch ask p.rest else Drops) at
      ∙ ap (asked_by env p ask.home epoch ask) there
      ∙ ap (λ (b : Bool). if b then Does (assigns env p rest ask.home epoch ask (env.later ask)) else again) follows

  pub new-asked : {rest : FrontRest} → (table.get s.kept ask.c ≡ Some [] → ⊥) → is_row_at ask.home epoch p.row ≡ true → p.rest ≡ Some rest → (ask.number == rest.asks + 1) ≡ true
      → assigned_by env s epoch ask rest.assigned ≡ deed_turn s ask.c (front_asked env p ask.home epoch ask)
  new-asked {rest = rest} some at there follows =
      let l = env.later ask in
      let x = assigns env p rest ask.home epoch ask l in
      let tag = map (λ (y : LaterChoice). y.node) l.choices in
      let last = rest.assigned + length l.choices in
      (λ j. (
        record s { rests = table.insert s.rests ask.c (record (front_rest (there j)) { asks = ask.number; tag = tag; assigned = last }); dispatch = after_later s.dispatch ask env.now },
        x.turn,
      ))
      ∙ (λ j. (sym (put-back-asked s ask.c rest (record rest { asks = ask.number; tag = tag; assigned = last }) x.turn ask env.now some) j, x.turn))
      ∙ ap (deed_turn s ask.c) (sym (is-asked rest at there follows))
