-- What the code did in a step, as the rules have it.
use Rattle.std.proofs.Common.{◌≡◌, ℕ, true, false, List, [], ◌++◌, Option, Some, None, is_some, Result, Ok, Err, IfOk, refl, sym, ap, ◌∙◌}
use Rattle.std.specs.FinMap as table
use Rattle.lard_base.specs.declared.ids.Epoch.{Epoch}
use Rattle.lard_base.specs.declared.place.Place.TheVariants as place
use Rattle.lard_base.specs.declared.place.TimerKind.TheVariants as kind
use Rattle.lard_rules.specs.declared.front.FrontState.{FrontState}
use Rattle.lard_rules.specs.declared.front.FrontTurn.{FrontTurn}
use Rattle.lard_rules.specs.Front.{FrontDeed, Drops, Says, Does, FrontPart, front_armed, front_taken, taken_by}
use Rattle.lard_rules.specs.FrontPlace.{front_deed, front_part, front_out_of, put_back, front_timers}
use Rattle.lard_rules.proofs.FrontParts.{part_put, unchanged}
use Rattle.lard_front.specs.declared.turns.Armed.{Armed}
use Rattle.lard_front.specs.Hand.{armed_of, changes, deed_turn, out_by, front_silent}
use Rattle.lard_handoff_front.specs.declared.row.FrontRow.{FrontRow}
use Rattle.lard_handoff_front.specs.Front.{Fronts, asked_node, row_moved}
use Rattle.lard_journal.specs.declared.rec.Rec.{Rec}
use Rattle.lard_resend.proofs.Renewed.{settled_is}
use Rattle.lard_resend.specs.declared.kept.Kept.{Kept}
use Rattle.lard_resend.specs.Pending.{pending_settled}
use Rattle.lard_rules.specs.declared.places.Out.{Out}
use Rattle.lard_rules.specs.Outs.{kind_change}
use Rattle.lard_table.proofs.Map.{put_got}
use Rattle.std.specs.FinMap.{FinMap}
use Rattle.std.specs.Ordering.{nat_cmp}
use Rattle.std.proofs.Common.{append-nil}

-- ---- timers

-- the records are those of the two kinds that the front end has
pub changes_are : (c : ℕ) (p q : FrontPart) → changes c (armed_of p) (armed_of q) ≡ front_timers c p q
changes_are c p q = ap (λ (xs : List Rec). kind_change place.Front c kind.Tcp (front_armed p kind.Tcp) (front_armed q kind.Tcp) ++ xs) (sym (append-nil _))

changes_none : (c : ℕ) (p : FrontPart) → changes c (armed_of p) (armed_of p) ≡ []
changes_none c p = λ i. unchanged place.Front c kind.Tcp (front_armed p kind.Tcp) i ++ unchanged place.Front c kind.Offer (front_armed p kind.Offer) i

-- ---- a deed

same_out : (s : FrontState) (c : ℕ) (turn : FrontTurn) → out_by c (armed_of (front_part s c)) (armed_of (front_part s c)) turn ≡ front_out_of turn []
same_out s c turn = ap (front_out_of turn) (changes_none c (front_part s c))

done : (s : FrontState) (c : ℕ) (deed : FrontDeed)
    → ((deed_turn s c deed).0, out_by c (armed_of (front_part s c)) (armed_of (front_part (deed_turn s c deed).0 c)) (deed_turn s c deed).1) ≡ front_deed s c deed
done s c Drops = ap (λ (out : Out). (s, out)) (same_out s c front_silent)
done s c (Says turn) = ap (λ (out : Out). (s, out)) (same_out s c turn)
done s c (Does x) =
    ap (λ (p : FrontPart). (put_back s c x, out_by c (armed_of (front_part s c)) (armed_of p) x.turn)) (part_put s c x.part)
    ∙ ap (λ (recs : List Rec). (put_back s c x, front_out_of x.turn recs)) (changes_are c (front_part s c) x.part)

-- the turn that the code gives comes to the deed
pub deed_is : (s n : FrontState) (c : ℕ) (deed : FrontDeed) (turn : FrontTurn) (out : Out) → (n, turn) ≡ deed_turn s c deed
    → out ≡ out_by c (armed_of (front_part s c)) (armed_of (front_part n c)) turn → (n, out) ≡ front_deed s c deed
deed_is s n c deed turn out ruled told =
    ap (λ (o : Out). (n, o)) told
    ∙ ap (λ (x : FrontState × FrontTurn). (x.0, out_by c (armed_of (front_part s c)) (armed_of (front_part x.0 c)) x.1)) ruled
    ∙ done s c deed

-- ---- a Taken

module _ (s : FrontState) (c : ℕ) (epoch : Epoch) (n : Fronts) (after : n ≡ row_moved s.conns c epoch (table.get s.conns c) (asked_node epoch.0 (table.get s.conns c))) where
  pub taken_is : (k : FinMap nat_cmp (List Kept)) → is_some (asked_node epoch.0 (table.get s.conns c)) ≡ true → k ≡ pending_settled s.kept c kind.Offer 0 → (table.get s.kept c ≡ Some [] → ⊥)
      → (record s { conns = n; kept = k }, front_silent) ≡ deed_turn s c (front_taken (front_part s c) epoch.0)
  taken_is k asked drops some = go (table.get s.conns c) (asked_node epoch.0 (table.get s.conns c)) refl asked after where
    go : (o : Option FrontRow) (a : Option ℕ) → asked_node epoch.0 o ≡ a → is_some a ≡ true → n ≡ row_moved s.conns c epoch o a
        → (record s { conns = n; kept = k }, front_silent) ≡ deed_turn s c (taken_by (front_part s c) epoch.0 o a)
    go o None is h e = absurd cc
    go None (Some node) is h e = let none : None ≡ Some node = is in absurd cc
    go (Some row) (Some node) is h e = λ i. (record s { conns = e i; rests = sym (put_got s.rests c) i; kept = (drops ∙ settled_is s.kept c kind.Offer 0 some) i }, front_silent)

  pub not_taken : is_some (asked_node epoch.0 (table.get s.conns c)) ≡ false → (record s { conns = n }, front_silent) ≡ deed_turn s c (front_taken (front_part s c) epoch.0)
  not_taken asked = go (table.get s.conns c) (asked_node epoch.0 (table.get s.conns c)) asked after where
    go : (o : Option FrontRow) (a : Option ℕ) → is_some a ≡ false → n ≡ row_moved s.conns c epoch o a → (record s { conns = n }, front_silent) ≡ deed_turn s c (taken_by (front_part s c) epoch.0 o a)
    go None None h e = λ i. (record s { conns = e i }, front_silent)
    go None (Some node) h e = λ i. (record s { conns = e i }, front_silent)
    go (Some row) None h e = λ i. (record s { conns = e i }, front_silent)
    go (Some row) (Some node) h e = absurd cc

-- what a turn comes to, where memory sufficed for it
pub out_is : {E : Type 0} (s n : FrontState) (c : ℕ) (deed : FrontDeed) (turn : FrontTurn) (was : Armed) → (n, turn) ≡ deed_turn s c deed → was ≡ armed_of (front_part s c)
    → (r : Result Out E) → IfOk r (λ out. out ≡ out_by c was (armed_of (front_part n c)) turn) → IfOk r (λ out. (n, out) ≡ front_deed s c deed)
out_is s n c deed turn was ruled before (Ok out) told = deed_is s n c deed turn out ruled (told ∙ ap (λ (a : Armed). out_by c a (armed_of (front_part n c)) turn) before)
out_is s n c deed turn was ruled before (Err e) told = tt
