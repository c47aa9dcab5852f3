-- In every state that events lead to, the line that the journal tells is the one that the front end keeps; and what follows of it.
use Rattle.std.proofs.Common.{◌≡◌, ℕ, ◌<◌, ◌≤◌, ◌||◌, nat_eq, Bool, true, false, cond, List, [], ◌∷◌, length, map, Option, Some, None, Ok, arith, refl, sym, ap, ◌∙◌, subst, ◌++◌}
use Rattle.std.proofs.lemmas.List.{length-map}
use Rattle.std.specs.List.{fold, list_any}
use Rattle.lard_base.proofs.Usable.{usable}
use Rattle.lard_law_view.specs.Prelude.{Client, Config, DispatchStanding, EachMay, Event, Front, FrontConn, FrontPart, FrontRest, FrontRow, HasRule, IsReached, IsRowSound, IsStageSound, Kept, Machine, Node, Packet, Place, Rec, Tale, ToCluster, Waiting, config_check, conn, decoded, dispatch_standing, front_part, is_waiting, line_waits, machine_step, own, packet_at, part_of, plain, setting, whose, with_leaving}
use Rattle.lard_rules.specs.FrontSound.{OpenNodes, open_nodes_of}
use Rattle.lard_law_connections.proofs.LineFronts.{RowStands, StageStands}
use Rattle.lard_law_connections.proofs.LineJoining.{IsLinedThere, JoinsFree, MayJoin, joining-law}
use Rattle.lard_law_connections.proofs.LineLaw.{IsLined, line-law}
use Rattle.lard_law_connections.proofs.LineMoments.{HeadEnters, IsSettled, LetsIn, PassTo, pass-may, pass-on, step-pass}
use Rattle.lard_law_connections.proofs.LineLists.{both-within, less-within, within-same}
use Rattle.lard_law_connections.proofs.LineStands.{Stand, stand_at, stand_step, unknown}
use Rattle.lard_law_connections.proofs.LineTelling.{stands-told}
use Rattle.lard_law_connections.proofs.LineSteps.{IsInOrder, step-adds}
use Rattle.lard_law_connections.proofs.LineTurns.{Notes, noting}
use Rattle.lard_law_connections.specs.LineLaws.{AdmitsHead, LineIsKept, LineIsOfThoseWhoWait, LineNeedsAFullRoom, LinePasses, MayWait, MustRelease, TakesRelease, WaitsAtAFullRoom, WaitsAtTheFrontEnd, waits_there}
use Rattle.lard_law_connections.specs.Line.{Line, leaves, line_left_at, line_left_by, waiting_line, line_step, nobody, all_but}
use Rattle.lard_law_connections.specs.Places.{IsOdd}
use Rattle.lard_law_connections.proofs.PlacesRuns.{each-placed}
use Rattle.lard_law_connections.proofs.LeaversRuns.{may-come}
use Rattle.lard_law_connections.proofs.PlacesTurns.{IsPlaced}
use Rattle.lard_law_connections.proofs.PolicyCounted.{IsCounted, books-are-told, reached-counted, step-ordered}
use Rattle.lard_law_connections.proofs.PolicyHomes.{stands-so}
use Rattle.lard_law_connections.proofs.PolicyIns.{count}
use Rattle.lard_law_connections.proofs.PolicyStanding.{equal-turned}
use Rattle.lard_law_connections.proofs.PolicyWaiting.{who, within-more}
use Rattle.lard_law_connections.specs.PolicyLaws.{AdmitsFirst, PassesOn}
use Rattle.lard_counts.specs.Ledger.{is_in_ledger, ledger}
use Rattle.lard_law_connections.specs.PolicyLine.{IsSublist, waiting, waiting_step}
use Rattle.lard_law_view.proofs.After.{IsAfter, step-after}
use Rattle.lard_law_view.proofs.Carried.{IsOn, carried, carried-keep, on-rules}
use Rattle.lard_law_view.proofs.InSteps.{carried-ends, carried-records}
use Rattle.lard_handoff_front.specs.declared.row.FrontConn.TheVariants as stage
use Rattle.lard_history.proofs.Each.{Each, Each-weaker}
use Rattle.lard_history.proofs.Lifting.{tale-own}
use Rattle.lard_history.proofs.Seeing.{has-each}
use Rattle.lard_history.proofs.Tales.{epoch-tale, owner-tale}
use Rattle.lard_history.proofs.Stepping.{AreLawful, cancel, one-more}
use Rattle.lard_journal.specs.declared.rec.Rec.TheVariants as rec

-- ---- the line is within those who were to wait

left-within : (to from : Place) (bytes : List ℕ) (l : Line) (ws : List ℕ) → IsSublist l.waits ws → IsSublist (line_left_by to from bytes l.told l.waits) ws
left-within Front (Client c) bytes l ws h = go (leaves (l.told c) (decoded bytes c ToCluster)) where
  go : (b : Bool) → IsSublist (cond b (all_but c l.waits) l.waits) ws
  go true = less-within _ l.waits ws h
  go false = h
left-within Front Front bytes l ws h = h
left-within Front (Node n) bytes l ws h = h
left-within (Node m) from bytes l ws h = h
left-within (Client d) from bytes l ws h = h

at-within : (o : Option Packet) (l : Line) (ws : List ℕ) → IsSublist l.waits ws → IsSublist (line_left_at o l.told l.waits) ws
at-within None l ws h = h
at-within (Some p) l ws h = left-within p.to p.from p.bytes l ws h

one-within : (l : Line) (ws : List ℕ) (r : Rec) → IsSublist l.waits ws → IsSublist (line_step l r).waits (waiting_step ws r)
one-within l ws (rec.Waits c) h = within-more c l.waits ws h
one-within l ws (rec.Admitted c) h = both-within _ l.waits ws h
one-within l ws (rec.Got k) h = at-within (packet_at l.net k) l ws h
one-within l ws (rec.Sent k from to bytes) h = h
one-within l ws (rec.Lost k) h = h
one-within l ws _ h = h

all-within : (l : Line) (ws : List ℕ) (rs : List Rec) → IsSublist l.waits ws → IsSublist (fold line_step l rs).waits (fold waiting_step ws rs)
all-within l ws [] h = h
all-within l ws (r ∷ rs) h = all-within (line_step l r) (waiting_step ws r) rs (one-within l ws r h)

-- ---- who waits at the front end is in the line

waits-has : (c : ℕ) (ws : List Waiting) → list_any (nat_eq c) (who ws) ≡ line_waits ws c
waits-has c [] = refl
waits-has c (w ∷ ws) = λ i. equal-turned c w.c i || waits-has c ws i

stage-waits : (nodes : OpenNodes) (e : ℕ) (rest : Option FrontRest) (kept : List Kept) (at : DispatchStanding) (s : Stand) (conn : FrontConn)
    → IsStageSound nodes e rest kept at conn → StageStands s conn → (at.waits ≡ s.waits) × (s.times ≤ 1)
stage-waits nodes e rest kept at s (stage.Held b) h k = let few = k.0.times in (ap (λ (x : DispatchStanding). x.waits) h.2 ∙ sym k.0.waits_is, omega (arith, few))
stage-waits nodes e rest kept at s (stage.Waiting b) h k = (ap (λ (x : DispatchStanding). x.waits) h.2 ∙ sym k.0.waits_is, k.0.times)
stage-waits nodes e rest kept at s stage.Lent h k = absurd h
stage-waits nodes e rest kept at s (stage.Offering n d) h k =
    let few = k.times in (ap (λ (x : DispatchStanding). x.waits) h.stands ∙ sym k.waits_is, omega (arith, few))
stage-waits nodes e rest kept at s (stage.Moved n d) h k =
    let few = k.times in (ap (λ (x : DispatchStanding). x.waits) h.stands ∙ sym k.waits_is, omega (arith, few))
stage-waits nodes e rest kept at s (stage.Closed last) h k = (ap (λ (x : DispatchStanding). x.waits) h.1 ∙ sym k.waits_is, k.times)

row-waits : (nodes : OpenNodes) (rest : Option FrontRest) (kept : List Kept) (at : DispatchStanding) (s : Stand) (o : Option FrontRow)
    → IsRowSound nodes rest kept at o → RowStands s o → (at.waits ≡ s.waits) × (s.times ≤ 1)
row-waits nodes rest kept at s None h k = let few = k.times in (ap (λ (x : DispatchStanding). x.waits) h.1 ∙ sym k.waits_is, omega (arith, few))
row-waits nodes rest kept at s (Some row) h k = stage-waits nodes row.epoch.0 rest kept at s row.stage h k

module _ (config : Config) (files : List (List ℕ × List ℕ)) (checked : config_check config ≡ Ok tt) where
  pub each-lined : (m : Machine) → IsReached config files m → (q : ℕ) → IsLined (conn m q)
  each-lined = carried config files IsPlaced IsLined (λ l. line-law (with_leaving (setting config files) l) (usable config checked).stream) (each-placed config files checked)

  -- how each connection stands, by what it sees of the journal
  pub stood : (m : Machine) → IsReached config files m → (q : ℕ) → RowStands (fold (stand_step q) unknown (own q m.journal)) (front_part m.front q).row
  unfolding conn part_of
  stood m r q = (each-lined m r q).stands

  pub line-kept : (m : Machine) → IsReached config files m → map (λ (w : Waiting). w.c) m.front.dispatch.books.line ≡ waiting_line m.journal
  line-kept m r = within-same (waiting m.journal) (who Kept) (waiting_line m.journal) once counted.line (all-within nobody [] m.journal tt) same where
    Kept : List Waiting
    Kept = m.front.dispatch.books.line

    counted : IsCounted config m
    counted = reached-counted config files checked m r

    so : (q : ℕ) → (line_waits Kept q ≡ (fold (stand_step q) unknown (own q m.journal)).waits) × ((fold (stand_step q) unknown (own q m.journal)).times ≤ 1)
    so q =
        let p : FrontPart = front_part m.front q in
        row-waits (open_nodes_of m.front.dispatch) p.rest p.kept (dispatch_standing m.front.dispatch q) (fold (stand_step q) unknown (own q m.journal)) p.row (counted.sound.each q) (stood m r q)

    once : (q : ℕ) → count q (waiting m.journal) ≤ 1
    once q = subst (λ (n : ℕ). n ≤ 1) (sym (stands-told q m.journal).times) (so q).1

    same : (q : ℕ) → list_any (nat_eq q) (who Kept) ≡ list_any (nat_eq q) (waiting_line m.journal)
    same q = waits-has q Kept ∙ (so q).0 ∙ sym (stands-told q m.journal).waits_is

pub line-is-kept : LineIsKept
line-is-kept config files m checked r = line-kept config files checked m r

-- ---- those who wait at the front end

stage-so : (s : Stand) (at : FrontConn) → StageStands s at → s.waits ≡ is_waiting at
stage-so s (stage.Held b) k = k.0.waits_is
stage-so s (stage.Waiting b) k = k.0.waits_is
stage-so s _ k = k.waits_is

row-so : (s : Stand) (o : Option FrontRow) → RowStands s o → s.waits ≡ waits_there o
row-so s None k = k.waits_is
row-so s (Some row) k = stage-so s row.stage k

pub line-is-of-those-who-wait : LineIsOfThoseWhoWait
line-is-of-those-who-wait config files m checked r c =
    (stands-told c m.journal).waits_is ∙ row-so (fold (stand_step c) unknown (own c m.journal)) (front_part m.front c).row (stood config files checked m r c)

-- ---- who joins it

module _ (config : Config) (files : List (List ℕ × List ℕ)) (checked : config_check config ≡ Ok tt) where
  each-joins : (m : Machine) → IsReached config files m → (q : ℕ) → JoinsFree (conn m q)
  each-joins = carried config files IsLinedThere JoinsFree (λ l. joining-law (with_leaving (setting config files) l) (usable config checked).stream) (λ m r q. (each-lined config files checked m r q, each-placed config files checked m r q))

  abbrev May : List Rec → Rec → Type 0
  May past r = MayWait (ledger config past) past r

  joins-nobody : (J : List Rec) (r : Rec) → whose r ≡ None → May J r
  joins-nobody J (rec.Waits d) e = let no : Some d ≡ None = e in absurd cc
  joins-nobody J _ e = tt

  joins-somebody : (J : List Rec) (r : Rec) (c : ℕ) → whose r ≡ Some c → MayJoin c (own c J) (plain r) → May J r
  joins-somebody J (rec.Waits d) c e h = subst (λ (n : ℕ). May J (rec.Waits n)) (sym same) (
    (stands-so config J c).0 ∙ (stands-told c J).inside ∙ h.inside_is,
    (stands-told c J).waits_is ∙ h.waits_is,
    owner-tale J c ∙ ap (λ (t : Tale). t.owner) (tale-own J c) ∙ h.owner_is,
    subst IsOdd (sym (epoch-tale J c ∙ ap (λ (t : Tale). t.epoch) (tale-own J c))) h.epoch_is,
  ) where
    same : d ≡ c
    same = cc
  joins-somebody J _ c e h = tt

  joins-free : (m : Machine) → IsReached config files m → EachMay May [] m.journal
  unfolding conn
  joins-free m r = carried-records config files May MayJoin joins-nobody joins-somebody (λ n s q. each-joins n s q) m r

pub waits-at-the-front-end : WaitsAtTheFrontEnd
waits-at-the-front-end config files m checked r = joins-free config files checked m r

-- ---- it waits for room

pub line-needs-a-full-room : (config : Config) (files : List (List ℕ × List ℕ)) (m : Machine) → config_check config ≡ Ok tt → IsReached config files m → LineNeedsAFullRoom config m.journal
line-needs-a-full-room config files m checked r some =
    let same : length m.front.dispatch.books.line ≡ length (waiting_line m.journal) = sym (length-map m.front.dispatch.books.line (λ (w : Waiting). w.c)) ∙ ap (λ (cs : List ℕ). length cs) (line-kept config files checked m r) in
    (books-are-told config files m checked r).3 (subst (λ (n : ℕ). 0 < n) (sym same) some)

pub waits-at-a-full-room : WaitsAtAFullRoom
waits-at-a-full-room config files m checked r = carried-ends config files (LineNeedsAFullRoom config) (λ k reached. line-needs-a-full-room config files k checked reached) m r

-- ---- the records of a step

module _ (config : Config) (files : List (List ℕ × List ℕ)) (checked : config_check config ≡ Ok tt) where
  inside-is : (m : Machine) → IsReached config files m → (q : ℕ) → is_in_ledger (ledger config m.journal) q ≡ (stand_at (conn m q)).inside
  unfolding conn
  inside-is m r q = (stands-so config m.journal q).0 ∙ (stands-told q m.journal).inside

  -- what each step adds is in order
  pub step-ordered-so : (m n : Machine) (e : Event) → IsOn config files m → HasRule e → machine_step m e ≡ Ok n → (rs : List Rec) × (n.journal ≡ m.journal ++ rs) × IsInOrder (is_in_ledger (ledger config m.journal)) rs
  step-ordered-so m n e on rule is = step-adds m (each-lined config files checked m on.reached) (is_in_ledger (ledger config m.journal)) (inside-is m on.reached) on.view
      (on-rules config files Notes (λ l. noting (with_leaving (setting config files) l) (usable config checked).stream) m on) n e rule is

-- ---- it passes in its order

head-so : (ws : List Waiting) (r : Rec) → AdmitsFirst ws r → AdmitsHead (who ws) r
head-so [] r h = tt
head-so (w ∷ ws) (rec.Admitted c) h = h
head-so (w ∷ ws) _ h = tt

lets-so : (ws : List Waiting) (rs : List Rec) → Each (PassesOn ws rs) rs → LetsIn (who ws) rs
lets-so ws rs each c h = enters ws (has-each (rec.Released c) (PassesOn ws rs) rs h each) where
  enters : (ws : List Waiting) → PassesOn ws rs (rec.Released c) → HeadEnters (who ws) rs
  enters [] h = tt
  enters (w ∷ ws) h = h

pub line-passes : LinePasses
line-passes config files m checked r = pass-may [] m.journal (carried-keep config files (λ k. PassTo IsSettled nobody None k.journal) (λ q. tt) step m r) where
  step : (k n : Machine) (e : Event) → IsOn config files k → PassTo IsSettled nobody None k.journal → HasRule e → machine_step k e ≡ Ok n → PassTo IsSettled nobody None n.journal
  step k n e on h rule is =
      let Kept : List Waiting = k.front.dispatch.books.line in
      let ordered = step-ordered config k (reached-counted config files checked k on.reached) n e (may-come config files k on.reached e) on.view rule is in
      let adds = step-pass k on.view (each-lined config files checked k on.reached) (on-rules config files Notes (λ l. noting (with_leaving (setting config files) l) (usable config checked).stream) k on) n e rule is in
      let rows : List Rec = adds.0 in
      let agree : ordered.0 ≡ rows = cancel k.journal ordered.0 rows (sym ordered.1 ∙ adds.1) in
      let lets : Each (AdmitsHead (who Kept)) ordered.0 × LetsIn (who Kept) ordered.0 = (Each-weaker (AdmitsFirst Kept) (AdmitsHead (who Kept)) (head-so Kept) ordered.0 ordered.2, lets-so Kept ordered.0 ordered.3) in
      subst (PassTo IsSettled nobody None) (sym adds.1) (pass-on k.journal rows h (adds.2
      (subst (λ (cs : List ℕ). Each (AdmitsHead cs) rows × LetsIn cs rows) (line-kept config files checked k on.reached)
      (subst (λ (rs : List Rec). Each (AdmitsHead (who Kept)) rs × LetsIn (who Kept) rs) agree lets))))

-- ---- releases

pub takes-release : TakesRelease
takes-release config files m checked r = (carried-keep config files (λ k. AreLawful (MustRelease config) k.journal) (refl, tt) step m r).1 where
  step : (k n : Machine) (e : Event) → IsOn config files k → AreLawful (MustRelease config) k.journal → HasRule e → machine_step k e ≡ Ok n → AreLawful (MustRelease config) n.journal
  step k n e on h rule is =
      let after : IsAfter k e n = step-after k on.view e n rule is in
      let adds = step-ordered-so config files checked k n e on rule is in
      let same : adds.0 ≡ after.step = cancel k.journal adds.0 after.step (sym adds.1 ∙ after.is) in
      subst (AreLawful (MustRelease config)) (sym after.is)
      (one-more (MustRelease config) k.journal after.step after.one h (subst (λ (s : List Rec). MustRelease config k.journal s) same adds.2.released))
