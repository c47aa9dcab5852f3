-- What a step of the front end tells: its records go along with its dispatcher's books.
use Rattle.std.proofs.Common.{◌≡◌, ℕ, nat_lt, Bool, true, false, List, [], ◌∷◌, ◌++◌, refl, sym, ap, subst}
use Rattle.std.proofs.lemmas.Bool.{cond_both}
use Rattle.std.specs.List.{flat_map}
use Rattle.lard_law_view.specs.Prelude.{FrontPart, FrontSetting, FrontState, FrontTurn, Out, Rec, TimerKind, front_armed, front_out_of, front_put, front_timers, in_order, kind_change, line_waits, nothing_done, timer_kinds}
use Rattle.lard_base.specs.declared.place.Place.TheVariants as place
use Rattle.lard_law_connections.proofs.PolicyAsides.{IsAside}
use Rattle.lard_law_connections.proofs.PolicyFronts.{IsMute}
use Rattle.lard_law_connections.proofs.PolicyIns.{AreIn}
use Rattle.lard_law_connections.proofs.PolicyLeading.{Leads, aside-leads}
use Rattle.lard_law_connections.proofs.PolicyLines.{AreLined, lined-absent, target_of, targets}
use Rattle.lard_law_connections.proofs.PolicyOrder.{IsOrdered, none-ordered}
use Rattle.lard_law_connections.proofs.PolicyWaiting.{Leaves, idle-leaves}
use Rattle.lard_history.proofs.Each.{Each, Each-append}
use Rattle.lard_table.proofs.Map.{get_put_other, get_put_same}

-- ---- the records of timers

one-aside : (c : ℕ) (kind : TimerKind) (was is : Bool) → Each IsAside (kind_change place.Front c kind was is)
one-aside c kind false false = tt
one-aside c kind false true = (tt, tt)
one-aside c kind true false = (tt, tt)
one-aside c kind true true = tt

changes-aside : (c : ℕ) (was is : TimerKind → Bool) (kinds : List TimerKind) → Each IsAside (flat_map (λ kind. kind_change place.Front c kind (was kind) (is kind)) kinds)
changes-aside c was is [] = tt
changes-aside c was is (kind ∷ kinds) =
    Each-append IsAside (kind_change place.Front c kind (was kind) (is kind)) (flat_map (λ kind. kind_change place.Front c kind (was kind) (is kind)) kinds) (one-aside c kind (was kind) (is kind)) (changes-aside c was is kinds)

pub timers-aside : (c : ℕ) (p q : FrontPart) → Each IsAside (front_timers c p q)
timers-aside c p q = changes-aside c (front_armed p) (front_armed q) timer_kinds

pub ordered-aside : (c d : ℕ) (cs ds : List Rec) → Each IsAside cs → Each IsAside ds → Each IsAside (in_order c d cs ds)
ordered-aside c d cs ds h k = cond_both (nat_lt d c) (ds ++ cs) (cs ++ ds) (Each IsAside) (λ t. Each-append IsAside ds cs k h) (λ t. Each-append IsAside cs ds h k)

-- ---- what is put back of one connection

pub targets-other : (s : FrontState) (c : ℕ) (p : FrontPart) (q : ℕ) → (q ≡ c → ⊥) → targets (front_put s c p) q ≡ targets s q
targets-other s c p q n = ap target_of (get_put_other s.rests c q p.rest n)

pub targets-same : (s : FrontState) (c : ℕ) (p : FrontPart) → targets (front_put s c p) c ≡ target_of p.rest
targets-same s c p = ap target_of (get_put_same s.rests c p.rest)

-- where it does not wait
pub put-lined : (s : FrontState) (c : ℕ) (p : FrontPart) → line_waits s.dispatch.books.line c ≡ false → AreLined (targets s) s.dispatch.books.line
    → AreLined (targets (front_put s c p)) s.dispatch.books.line
put-lined s c p free lined = lined-absent (targets s) (targets (front_put s c p)) c (targets-other s c p) s.dispatch.books.line free lined

-- ---- a step

-- The notes go along with the books, all other records are aside, and the line is as it is told.
pub record StepTells (k : FrontSetting) (s : FrontState) (ins : List ℕ) (x : FrontState × Out) : Type 0 where
  pub leads : Leads s.dispatch.config k.now ins s.dispatch.books x.1.notes x.0.dispatch.books
  pub gave : Each IsAside x.1.gave
  pub timers : Each IsAside x.1.timers
  pub lined : AreLined (targets x.0) x.0.dispatch.books.line
  pub config : x.0.dispatch.config ≡ s.dispatch.config
  pub ordered : IsOrdered s.dispatch.books.line x.1.notes
  pub waits : Leaves s.dispatch.books.line x.1.notes x.0.dispatch.books.line

module _ (k : FrontSetting) (s : FrontState) (lined : AreLined (targets s) s.dispatch.books.line) (ins : List ℕ)
    (in_ : AreIn ins s.dispatch.books.loads.standings) where
  abbrev Fine : FrontState × Out → Type 0
  Fine x = StepTells k s ins x

  pub still-tells : Fine (s, nothing_done)
  still-tells = record {
    leads = aside-leads s.dispatch.config k.now ins s.dispatch.books in_ [] tt;
    gave = tt;
    timers = tt;
    lined = lined;
    config = refl;
    ordered = none-ordered s.dispatch.books.line [] tt;
    waits = idle-leaves s.dispatch.books.line [] tt;
  }

  -- what is said alone
  pub says-tells : (t : FrontTurn) → IsMute t → Fine (s, front_out_of t [])
  says-tells t mute = record {
    leads = aside-leads s.dispatch.config k.now ins s.dispatch.books in_ t.notes (subst (Each IsAside) (sym mute.notes) tt);
    gave = subst (Each IsAside) (sym mute.gave) tt;
    timers = tt;
    lined = lined;
    config = refl;
    ordered = subst (IsOrdered s.dispatch.books.line) (sym mute.notes) (none-ordered s.dispatch.books.line [] tt);
    waits = subst (λ (notes : List Rec). Leaves s.dispatch.books.line notes s.dispatch.books.line) (sym mute.notes) (idle-leaves s.dispatch.books.line [] tt);
  }
