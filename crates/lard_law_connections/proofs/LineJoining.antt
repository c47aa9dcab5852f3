-- Who joins the line: a connection that the front end holds, which is not in it and not admitted. By what one connection sees.
use Rattle.std.proofs.Common.{◌≡◌, ℕ, ◌+◌, ◌^◌, ◌≤◌, nat_eq, Bool, true, false, cond, List, [], ◌∷◌, ◌++◌, map, Option, Some, None, refl, sym, ap, ◌∙◌, subst, ⊎_elim, arith}
use Rattle.std.proofs.lemmas.List.Sums.{fold-append}
use Rattle.std.specs.List.{fold}
use Rattle.lard_law_view.specs.Prelude.{Came, Client, Conn, EachRow, Epoch, Front, FrontConn, FrontRow, IsLaw, MayRestOn, Move, Node, Place, Rec, Row, Seen, Setting, Tale, ToCluster, decoded, grown, rows_of, seen_in, seen_step, tale_at, tale_of, tale_step, untold}
use Rattle.lard_law_connections.proofs.LineFronts.{RowStands, StageStands}
use Rattle.lard_law_connections.proofs.LineHolding.{IsRead}
use Rattle.lard_law_connections.proofs.LineLaw.{IsLined}
use Rattle.lard_law_connections.proofs.LineNotes.{Alone, Answers, Begins, Enters, Goes, IsLater, IsReadOn, Noted, Reads, Returns, Shares, Silent, Waits, epoch_there, held_there, is_held}
use Rattle.lard_law_connections.proofs.LineStands.{Stand, came_stand, stand_at, stand_step, unknown}
use Rattle.lard_law_connections.proofs.LineTurns.{IsBare, IsEntry, IsNoted, Notes, noting, was_at}
use Rattle.lard_law_connections.specs.Line.{leaves}
use Rattle.lard_law_connections.specs.Places.{IsOdd, Owning, Sits, StageSits, owning}
use Rattle.lard_law_connections.proofs.PlacesTurns.{IsPlaced}
use Rattle.lard_law_view.proofs.Fine.{IsFine, IsItsOwn, fine}
use Rattle.lard_law_view.proofs.Guarded.{both, weaker}
use Rattle.lard_law_view.proofs.Saying.{NotedAt}
use Rattle.lard_handoff_front.specs.declared.row.FrontConn.TheVariants as stage
use Rattle.lard_history.proofs.Each.{Each, Each-weaker}
use Rattle.lard_history.proofs.Lifting.{each_row-append}
use Rattle.lard_history.proofs.Seeing.{same_number}
use Rattle.lard_journal.specs.declared.rec.Rec.TheVariants as rec
use Rattle.lard_law_view.proofs.OfKinds.{each-rows, rest_of, rest-outer, rows-are, elsewhere}
use Rattle.lard_law_view.proofs.RecordKinds.{IsOuter, IsElsewhere, kind_of}

-- ---- where it may be told to wait

-- it is not in the line, not admitted, and the front end's, in an odd epoch
pub record IsFree (s : Stand) (w : Owning) : Type 0 where
  pub waits_is : s.waits ≡ false
  pub inside_is : s.inside ≡ false
  pub owner_is : w.owner ≡ Some Front
  pub epoch_is : IsOdd w.epoch

-- so it was by what it saw
abbrev pub WasFree : ℕ → List Seen → Type 0
WasFree c past = IsFree (fold (stand_step c) unknown past) (owning (tale_of c past))

-- only then it is told to wait
abbrev pub MayJoin : ℕ → List Seen → Rec → Type 0
MayJoin c past (rec.Waits d) = WasFree c past
MayJoin c past _ = Unit {0}

-- what is seen of it so far may be so
abbrev pub JoinsFree : Conn → Type 0
JoinsFree x = EachRow (MayJoin x.c) [] x.seen

-- ---- what leaves it free

-- It is not in the line, it is admitted or not, as this says, and it is owned so.
record IsOut (i : Bool) (o : Owning) (s : Stand) (w : Owning) : Type 0 where
  waits_is : s.waits ≡ false
  inside_is : s.inside ≡ i
  own_is : w ≡ o

-- so it was by what it saw
abbrev WasOut : Bool → Owning → ℕ → List Seen → Type 0
WasOut i o c past = IsOut i o (fold (stand_step c) unknown past) (owning (tale_of c past))

still-false : (b w : Bool) → w ≡ false → cond b false w ≡ false
still-false true w h = refl
still-false false w h = h

module _ (i : Bool) (o : Owning) where
  packet-out : (c : ℕ) (s : Stand) (w : Owning) (to from : Place) (bytes : List ℕ) → IsOut i o s w → IsOut i o (came_stand c s to from bytes) w
  packet-out c s w Front (Client d) bytes h =
      record { waits_is = still-false (leaves s.told (decoded bytes c ToCluster)) s.waits h.waits_is; inside_is = h.inside_is; own_is = h.own_is }
  packet-out c s w Front Front bytes h = h
  packet-out c s w Front (Node n) bytes h = h
  packet-out c s w (Node m) from bytes h = h
  packet-out c s w (Client d) from bytes h = h

  bare-step : (c : ℕ) (s : Stand) (t : Tale) (x : Seen) → IsBare x → IsOut i o s (owning t)
      → IsOut i o (stand_step c s x) (owning (seen_step (tale_step c) t x))
  bare-step c s t (Came l) b h = packet-out c s (owning t) l.to l.from l.bytes h
  bare-step c s t (Row (rec.Event i e)) b h = h
  bare-step c s t (Row (rec.Opened d isn iss wnd mss)) b h = h
  bare-step c s t (Row (rec.Injected d)) b h = h
  bare-step c s t (Row (rec.Served place d r code size via)) b h = h
  bare-step c s t (Row (rec.Reset place d total)) b h = h
  bare-step c s t (Row _) b h = absurd b

  bare-on : (c : ℕ) (s : Stand) (t : Tale) (xs : List Seen) → Each IsBare xs → IsOut i o s (owning t)
      → IsOut i o (fold (stand_step c) s xs) (owning (fold (seen_step (tale_step c)) t xs))
  bare-on c s t [] e h = h
  bare-on c s t (x ∷ xs) e h = bare-on c (stand_step c s x) (seen_step (tale_step c) t x) xs e.1 (bare-step c s t x e.0 h)

  bare-out : (c : ℕ) (past xs : List Seen) → Each IsBare xs → WasOut i o c past → WasOut i o c (past ++ xs)
  bare-out c past xs e h = subst (λ (s : Stand). IsOut i o s (owning (tale_of c (past ++ xs)))) (sym (fold-append (stand_step c) unknown past xs))
      (subst (λ (t : Tale). IsOut i o (fold (stand_step c) (fold (stand_step c) unknown past) xs) (owning t))
      (sym (fold-append (seen_step (tale_step c)) untold past xs))
      (bare-on c (fold (stand_step c) unknown past) (tale_of c past) xs e h))

bare-free : (c : ℕ) (past xs : List Seen) → Each IsBare xs → WasFree c past → WasFree c (past ++ xs)
bare-free c past xs e h =
    let o : Owning = owning (tale_of c past) in
    let k : WasOut false o c (past ++ xs) = bare-out false o c past xs e (record { waits_is = h.waits_is; inside_is = h.inside_is; own_is = refl }) in
    record {
      waits_is = k.waits_is;
      inside_is = k.inside_is;
      owner_is = ap (λ (w : Owning). w.owner) k.own_is ∙ h.owner_is;
      epoch_is = subst IsOdd (sym (ap (λ (w : Owning). w.epoch) k.own_is)) h.epoch_is;
    }

-- one that was admitted is free once the front end took it back
back-free : (c : ℕ) (past : List Seen) (i : Bool) (o : Owning) (epoch : Epoch) → IsOdd epoch.0 → WasOut i o c past
    → WasFree c ((past ++ Row (rec.Took Front c epoch) ∷ []) ++ Row (rec.Released c) ∷ [])
back-free c past i o epoch odd h =
    let taken : Seen = Row (rec.Took Front c epoch) in
    let released : Seen = Row (rec.Released c) in
    let stands : fold (stand_step c) unknown ((past ++ taken ∷ []) ++ released ∷ []) ≡ record (fold (stand_step c) unknown past) { inside = false } =
    fold-append (stand_step c) unknown (past ++ taken ∷ []) (released ∷ [])
    ∙ ap (λ (s : Stand). stand_step c s released) (fold-append (stand_step c) unknown past (taken ∷ [])) in
    let told : tale_of c ((past ++ taken ∷ []) ++ released ∷ []) ≡ seen_step (tale_step c) (seen_step (tale_step c) (tale_of c past) taken) released =
    fold-append (seen_step (tale_step c)) untold (past ++ taken ∷ []) (released ∷ [])
    ∙ ap (λ (t : Tale). seen_step (tale_step c) t released) (fold-append (seen_step (tale_step c)) untold past (taken ∷ [])) in
    let mine : nat_eq c c ≡ true = same_number c in
    record {
      waits_is = ap (λ (s : Stand). s.waits) stands ∙ h.waits_is;
      inside_is = ap (λ (s : Stand). s.inside) stands;
      owner_is = ap (λ (t : Tale). t.owner) told ∙ ap (λ (b : Bool). cond b (Some Front) (tale_of c past).owner) mine;
      epoch_is = subst IsOdd (sym (ap (λ (t : Tale). t.epoch) told ∙ ap (λ (b : Bool). cond b epoch.0 (tale_of c past).epoch) mine)) odd;
    }

-- ---- records that tell nobody to wait

abbrev IsNoWait : Rec → Type 0
IsNoWait (rec.Waits c) = ⊥
IsNoWait _ = Unit {0}

other-may : (c : ℕ) (past : List Seen) (r : Rec) → IsNoWait r → MayJoin c past r
other-may c past (rec.Waits d) h = absurd h
other-may c past _ h = tt

bare-other : (r : Rec) → IsBare (Row r) → IsNoWait r
bare-other (rec.Waits d) b = absurd b
bare-other _ b = tt

bare-rows : (c : ℕ) (past xs : List Seen) → Each IsBare xs → EachRow (MayJoin c) past xs
bare-rows c past [] e = tt
bare-rows c past (Row r ∷ xs) e = (other-may c past r (bare-other r e.0), bare-rows c (past ++ Row r ∷ []) xs e.1)
bare-rows c past (Came l ∷ xs) e = bare-rows c (past ++ Came l ∷ []) xs e.1

other-rows : (c : ℕ) (past : List Seen) (rs : List Rec) → Each IsNoWait rs → EachRow (MayJoin c) past (map Row rs)
other-rows c past rs e = each-rows IsNoWait (MayJoin c) (other-may c) past rs e

-- behind others
rows-behind : (c : ℕ) (past : List Seen) (xs ys : List Rec) → EachRow (MayJoin c) past (map Row xs) → Each IsNoWait ys → EachRow (MayJoin c) past (map Row (xs ++ ys))
rows-behind c past [] ys h e = other-rows c past ys e
rows-behind c past (x ∷ xs) ys h e = (h.0, rows-behind c (past ++ Row x ∷ []) xs ys h.1 e)

else-other : (r : Rec) → IsElsewhere (kind_of r) → IsNoWait r
else-other (rec.Waits d) h = absurd h
else-other _ h = tt

note-other : (place : Place) (c : ℕ) (r : Rec) → (place ≡ Front → ⊥) → NotedAt place c r → IsNoWait r
note-other place c r never h = else-other r (elsewhere place c r h never)

outer-other : (r : Rec) → IsOuter r → IsNoWait r
outer-other (rec.Waits d) h = absurd h
outer-other _ h = tt

read-bare : (r : Rec) → IsRead r → IsBare (Row r)
read-bare (rec.Served place c r code size via) h = tt
read-bare (rec.Reset place c total) h = tt
read-bare _ h = absurd h

later-other : (rs : List Rec) → Each IsLater rs → Each IsNoWait rs
later-other rs e = Each-weaker IsLater IsNoWait one rs e where
  one : (r : Rec) → IsLater r → IsNoWait r
  one (rec.AssignedLater c r path n add size queue) h = tt
  one _ h = absurd h

-- ---- the notes of a turn

-- One that is held is free.
held-free : (s : Stand) (w : Owning) (x : Conn) (o : Option FrontRow) → RowStands s o → Sits w x.part.nodes o → held_there o ≡ true → IsFree s w
held-free s w x None stands sits held = let no : false ≡ true = held in absurd cc
held-free s w x (Some row) stands sits held = go row.stage stands sits.0 held where
  go : (at : FrontConn) → StageStands s at → StageSits row.epoch.0 w x.part.nodes at → is_held at ≡ true → IsFree s w
  go (stage.Held b) k sits held =
      record { waits_is = k.0.waits_is; inside_is = k.0.inside_is; owner_is = ap (λ (w : Owning). w.owner) sits.1.0; epoch_is = subst IsOdd (sym (ap (λ (w : Owning). w.epoch) sits.1.0)) sits.0 }
  go (stage.Waiting b) k sits held = let no : false ≡ true = held in absurd cc
  go stage.Lent k sits held = let no : false ≡ true = held in absurd cc
  go (stage.Offering node epoch) k sits held = let no : false ≡ true = held in absurd cc
  go (stage.Moved node epoch) k sits held = let no : false ≡ true = held in absurd cc
  go (stage.Closed last) k sits held = let no : false ≡ true = held in absurd cc

-- behind what is read it is so yet
-- Of one that is away the next epoch is odd.
away-odd : (s : Stand) (w : Owning) (x : Conn) (o : Option FrontRow) → RowStands s o → Sits w x.part.nodes o → s.inside ≡ true → IsOdd (epoch_there o + 1)
away-odd s w x None stands sits in_ = let no : false ≡ true = sym stands.inside_is ∙ in_ in absurd cc
away-odd s w x (Some row) stands sits in_ = go row.stage stands sits.0 where
  go : (at : FrontConn) → StageStands s at → StageSits row.epoch.0 w x.part.nodes at → IsOdd (row.epoch.0 + 1)
  go (stage.Held b) k sits = let no : false ≡ true = sym k.0.inside_is ∙ in_ in absurd cc
  go (stage.Waiting b) k sits = let no : false ≡ true = sym k.0.inside_is ∙ in_ in absurd cc
  go stage.Lent k sits = absurd sits
  go (stage.Offering node epoch) k sits = let even = sits.0.0 in omega (arith, even)
  go (stage.Moved node epoch) k sits = let even = sits.0.0 in omega (arith, even)
  go (stage.Closed last) k sits = let no : false ≡ true = sym k.inside_is ∙ in_ in absurd cc

reads-wait : (c : ℕ) (past : List Seen) (rs : List Rec) → Each IsRead rs → WasFree c past → EachRow (MayJoin c) past (map Row (rs ++ rec.Waits c ∷ []))
reads-wait c past [] e h = (h, tt)
reads-wait c past (r ∷ rs) e h =
    (other-may c past r (bare-other r (read-bare r e.0)), reads-wait c (past ++ Row r ∷ []) rs e.1 (bare-free c past (Row r ∷ []) (read-bare r e.0, tt) h))

reads-other : (rs : List Rec) → Each IsRead rs → Each IsNoWait rs
reads-other rs e = Each-weaker IsRead IsNoWait (λ r k. bare-other r (read-bare r k)) rs e

-- behind what leaves it free it reads on
on-rows : (c : ℕ) (past : List Seen) (rs : List Rec) → IsReadOn c rs → WasFree c past → EachRow (MayJoin c) past (map Row rs)
on-rows c past all (Answers rs e) h = other-rows c past rs (reads-other rs e)
on-rows c past all (Waits rs e) h = reads-wait c past rs e h
on-rows c past all (Goes rs r path n add remove e) h =
    rows-behind c past rs (rec.Admitted c ∷ rec.AssignedFirst c r path n add remove ∷ []) (other-rows c past rs (reads-other rs e)) (tt, (tt, tt))

module _ (x : Conn) (lined : IsLined x) (placed : IsPlaced x) where
  noted-rows : (heads : List Seen) → Each IsBare heads → (ns : List Rec) → Noted x.c (was_at x) ns → EachRow (MayJoin x.c) (x.seen ++ heads) (map Row ns)
  noted-rows heads bare all Silent = tt
  noted-rows heads bare all (Begins out) = (tt, tt)
  noted-rows heads bare all (Reads rs held out on) =
      on-rows x.c (x.seen ++ heads) rs on (bare-free x.c x.seen heads bare
      (held-free (stand_at x) (owning (tale_at x)) x x.part.front.row lined.stands placed.sits held))
  noted-rows heads bare all (Shares true rs e) = (tt, other-rows x.c ((x.seen ++ heads) ++ Row (rec.BatchOver x.c) ∷ []) rs (later-other rs e))
  noted-rows heads bare all (Shares false rs e) = other-rows x.c (x.seen ++ heads) rs (later-other rs e)
  noted-rows heads bare all (Returns rs in_ out on) =
      let o : Owning = owning (tale_at x) in
      let epoch : Epoch = record { 0 = epoch_there x.part.front.row + 1 } in
      let odd : IsOdd epoch.0 = away-odd (stand_at x) o x x.part.front.row lined.stands placed.sits in_ in
      let before : WasOut true o x.c (x.seen ++ heads) = bare-out true o x.c x.seen heads bare (record { waits_is = out; inside_is = in_; own_is = refl }) in
      let past : List Seen = ((x.seen ++ heads) ++ Row (rec.Took Front x.c epoch) ∷ []) ++ Row (rec.Released x.c) ∷ [] in
      (tt, (tt, on-rows x.c past rs on (back-free x.c (x.seen ++ heads) true o epoch odd before)))

  enters-rows : (past : List Seen) (ns : List Rec) → Enters x.c ns → EachRow (MayJoin x.c) past (map Row ns)
  enters-rows past ns (Alone r path n add remove) = (tt, (tt, tt))

  notes-rows : (v : Move) → IsItsOwn x v → IsNoted x v → (p : Place) → v.place ≡ p → EachRow (MayJoin x.c) (x.seen ++ v.heads) (map Row v.said.notes)
  notes-rows v own noted Front at = ⊎_elim
      (λ (k : Noted x.c (was_at x) v.said.notes). noted-rows v.heads noted.bare v.said.notes k)
      (λ (k : IsEntry x v). enters-rows (x.seen ++ v.heads) v.said.notes k.enters)
      (noted.noted at)
  notes-rows v own noted (Node n) at = other-rows x.c (x.seen ++ v.heads) v.said.notes
      (Each-weaker (NotedAt v.place x.c) IsNoWait (λ r h. note-other v.place x.c r (λ e. let no : Node n ≡ Front = sym at ∙ e in absurd cc) h) v.said.notes own.notes)
  notes-rows v own noted (Client d) at = other-rows x.c (x.seen ++ v.heads) v.said.notes
      (Each-weaker (NotedAt v.place x.c) IsNoWait (λ r h. note-other v.place x.c r (λ e. let no : Client d ≡ Front = sym at ∙ e in absurd cc) h) v.said.notes own.notes)

  -- all that is seen of a move
  move-rows : (v : Move) → IsItsOwn x v → IsNoted x v → EachRow (MayJoin x.c) x.seen (seen_in x v)
  move-rows v own noted = each_row-append (MayJoin x.c) x.seen v.heads (map Row (rows_of x v)) (bare-rows x.c x.seen v.heads noted.bare)
      (subst (λ (rs : List Rec). EachRow (MayJoin x.c) (x.seen ++ v.heads) (map Row rs)) (sym (rows-are x v))
      (rows-behind x.c (x.seen ++ v.heads) v.said.notes (rest_of x v) (notes-rows v own noted v.place refl) (rest-outer x v IsNoWait outer-other own)))

-- ---- every rule

abbrev pub IsLinedThere : Conn → Type 0
IsLinedThere x = IsLined x × IsPlaced x

pub joining-law : (k : Setting) → k.stream ≤ 2 ^ 30 → IsLaw k IsLinedThere JoinsFree
joining-law k small = record {
  begins = λ c. tt;
  moves = weaker k (λ x v. IsFine x v × Notes x v) (λ x v. MayRestOn IsLinedThere x → JoinsFree x → JoinsFree (grown x v))
      (λ x v h may so. each_row-append (MayJoin x.c) [] x.seen (seen_in x v) so (move-rows x may.given.0 may.given.1 v (h.0 may.number may.sound).0 (h.1 may.given.0)))
      (both k IsFine Notes (fine k) (noting k small));
}
