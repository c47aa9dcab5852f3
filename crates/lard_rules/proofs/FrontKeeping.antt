-- What is put back of one connection leaves the front end's state sound.
use Rattle.std.proofs.Common.{◌≡◌, ◌≤◌, ℕ, [], length, Some, sym, subst, ◌∙◌, inl, inr}
use Rattle.std.proofs.lemmas.Bool.{cases_eq}
use Rattle.std.specs.FinMap as table
use Rattle.lard_base.specs.declared.ids.Millis.{Millis}
use Rattle.lard_dispatch.specs.Books.{Dispatcher}
use Rattle.lard_dispatch.specs.Laws.{AreAllowed, after_calls}
use Rattle.lard_dispatch.specs.Sound.{AreBefore}
use Rattle.lard_dispatch.proofs.AllCalls.{calls-kept}
use Rattle.lard_rules.specs.declared.front.FrontState.{FrontState}
use Rattle.lard_rules.specs.Front.{FrontDeed, Drops, Says, Does, Did, FrontPart}
use Rattle.lard_rules.specs.FrontPlace.{front_deed, front_part, front_put, put_back}
use Rattle.lard_rules.specs.FrontSound.{HasTag, IsFrontSound, IsPartSound, OpenNodes, dispatch_standing, open_nodes_of}
use Rattle.lard_rules.proofs.FrontOpen.{calls-serve}
use Rattle.lard_rules.proofs.FrontParts.{part_other, part_put}
use Rattle.lard_resend.proofs.Lists.{found_other, some_put}

-- What is done to connection c is sound: what is put back stands with what the dispatcher has of it, it has each other
-- connection where it was, and it may be called so. No node is closed.
pub record Keeps (d : Dispatcher) (c : ℕ) (now : Millis) (x : Did) : Type 0 where
  pub part : IsPartSound (open_nodes_of d) x.part (dispatch_standing (after_calls d x.calls) c)
  pub nodes : open_nodes_of (after_calls d x.calls) ≡ open_nodes_of d
  pub tag : HasTag x.part.rest
  pub others : (q : ℕ) → (q ≡ c → ⊥) → dispatch_standing (after_calls d x.calls) q ≡ dispatch_standing d q
  pub allowed : AreAllowed d x.calls
  pub clock : AreBefore now.0 d.books.sets → AreBefore now.0 (after_calls d x.calls).books.sets

abbrev pub DeedKeeps : Dispatcher → ℕ → Millis → FrontDeed → Type 0
DeedKeeps d c now Drops = Unit {0}
DeedKeeps d c now (Says turn) = Unit {0}
DeedKeeps d c now (Does x) = Keeps d c now x

-- ---- one connection

-- what holds of what is put back, and of each other connection, holds of all
pub put-all : (P : ℕ → FrontPart → Type 0) (s : FrontState) (c : ℕ) (p : FrontPart) → P c p → ((q : ℕ) → (q ≡ c → ⊥) → P q (front_part s q)) → (q : ℕ) → P q (front_part (front_put s c p) q)
put-all P s c p own others q = elim (cases_eq q c) [
  | inl e ↦ subst (λ n. P n (front_part (front_put s c p) n)) (sym e) (subst (P c) (sym (part_put s c p)) own)
  | inr n ↦ subst (P q) (sym (part_other s c q p n)) (others q n)
]

pub put-some : (s : FrontState) (c : ℕ) (p : FrontPart) → ((q : ℕ) → table.get s.kept q ≡ Some [] → ⊥) → (q : ℕ) → table.get (front_put s c p).kept q ≡ Some [] → ⊥
put-some s c p some q h = elim (cases_eq q c) [
  | inl e ↦ some_put s.kept c p.kept (subst (λ n. table.get (front_put s c p).kept n ≡ Some []) e h)
  | inr n ↦ some q (sym (found_other s.kept c q p.kept n) ∙ h)
]

-- the state after it is sound, and no set is dated later
pub record Stays (now : Millis) (s t : FrontState) : Type 0 where
  pub sound : IsFrontSound t
  pub clock : AreBefore now.0 s.dispatch.books.sets → AreBefore now.0 t.dispatch.books.sets

pub put-stays : (s : FrontState) (c : ℕ) (now : Millis) (x : Did) → IsFrontSound s → Keeps s.dispatch c now x → Stays now s (put_back s c x)
put-stays s c now x sound keeps =
    let d : Dispatcher = after_calls s.dispatch x.calls in
    let at : OpenNodes → (q : ℕ) → FrontPart → Type 0 = λ k q p. IsPartSound k p (dispatch_standing d q) in
    record {
      sound = record {
        each = subst (λ k. (q : ℕ) → at k q (front_part (front_put s c x.part) q)) (sym keeps.nodes)
            (put-all (at (open_nodes_of s.dispatch)) s c x.part keeps.part (λ q n. subst (IsPartSound (open_nodes_of s.dispatch) (front_part s q)) (sym (keeps.others q n)) (sound.each q)));
        tags = put-all (λ q p. HasTag p.rest) s c x.part keeps.tag (λ q n. sound.tags q);
        some = put-some s c x.part sound.some;
        books = calls-kept s.dispatch x.calls sound.books keeps.allowed;
        few_open = subst (λ (k : OpenNodes). length k.left_open ≤ k.all) (sym keeps.nodes) sound.few_open;
        served = calls-serve s.dispatch x.calls sound.books keeps.allowed sound.served;
      };
      clock = keeps.clock;
    }

pub still-stays : (s : FrontState) (now : Millis) → IsFrontSound s → Stays now s s
still-stays s now sound = record { sound = sound; clock = λ h. h }

pub deed-stays : (s : FrontState) (c : ℕ) (now : Millis) (deed : FrontDeed) → IsFrontSound s → DeedKeeps s.dispatch c now deed → Stays now s (front_deed s c deed).0
deed-stays s c now Drops sound keeps = still-stays s now sound
deed-stays s c now (Says turn) sound keeps = still-stays s now sound
deed-stays s c now (Does x) sound keeps = put-stays s c now x sound keeps
