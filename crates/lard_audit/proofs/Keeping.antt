-- What holds of books between two records is kept by each change.
use Rattle.std.proofs.Common.{◌≡◌, ℕ, ◌+◌, ◌<◌, ◌≤◌, Bool, true, false, ◌&&◌, ◌||◌, nat_eq, nat_le, nat_lt, cond, List, [], ◌∷◌, Option, Some, None, IfSome, is_some, Ok, refl, sym, ap, subst, ◌∙◌, arith}
use Rattle.std.proofs.lemmas.Bool.{and_parts, cond_both, eqb-true}
use Rattle.std.proofs.lemmas.Bool.Decides.{nat_tests}
use Rattle.std.specs.FinMap as map
use Rattle.std.specs.FinMap.{len-insert}
use Rattle.std.specs.Cmp.{nat_cmp_total}
use Rattle.lard_base.specs.Config.{config_check, room_of}
use Rattle.lard_base.specs.declared.config.Config.{Config}
use Rattle.lard_base.specs.declared.ids.Millis.{Millis}
use Rattle.lard_costs.specs.Later.{later_choice}
use Rattle.lard_costs.specs.declared.later.LaterChoice.{LaterChoice}
use Rattle.lard_dispatch.specs.Calls.{joined, reduced}
use Rattle.lard_dispatch.specs.Sound.{IsNode}
use Rattle.lard_dispatch.specs.declared.dispatch.Ask.{Ask}
use Rattle.lard_dispatch.proofs.AllCalls.{some-node}
use Rattle.lard_dispatch.proofs.Chosen.{IsChosen, choice-within}
use Rattle.lard_dispatch.proofs.Counted.{later-has}
use Rattle.lard_dispatch.proofs.Servers.{before-closed, before-joined, before-reduced, before-touched}
use Rattle.lard_dispatch.proofs.Soundness.{admission, begun-sound, closing-kept, ended-batch-kept, ended-kept, home-node, is-in, open-node, room-left, shares-kept}
use Rattle.lard_loads.specs.Tally.{Standing, Tally, batch_ended, connected, batch_ended_with, has_other_open, home, is_open, open_shares, released, shared, sharing, tally_closed}
use Rattle.lard_loads.specs.Tally as tally
use Rattle.lard_policy.specs.declared.first.FirstChoice.{FirstChoice}
use Rattle.lard_sets.specs.Sets.{set_of, sets_closed, touched}
use Rattle.lard_table.proofs.Map.{get_other}
use Rattle.lard_audit.specs.Books.{AreSound, AuditBooks, blank_books, dispatcher_of, is_inside, is_it}
use Rattle.lard_audit.specs.Sound.{audit_first_at, is_later_choice, is_same, keeps_later}
use Rattle.lard_audit.proofs.Counting.{Standings}

pub blank-sound : (cfg : Config) → config_check cfg ≡ Ok tt → AreSound (blank_books cfg)
blank-sound cfg usable = record { sound = begun-sound cfg usable (some-node cfg usable); before = λ target. omega arith; free = tt }

pub advance-sound : (b : AuditBooks) (time : Millis) → AreSound b → b.time.0 ≤ time.0 → AreSound (record b { time = time })
advance-sound b time s later = record { sound = s.sound; before = λ target. (let x : (set_of b.sets target).modified.0 ≤ b.time.0 = s.before target in omega (arith, x, later)); free = s.free }

or-false : (b : Bool) → (b || false) ≡ b
or-false true = refl
or-false false = refl

pub inside-home : (b : AuditBooks) (c : ℕ) → b.due ≡ None → is_inside b c ≡ true → is_some (home b.loads c) ≡ true
inside-home b c none h = sym (or-false (is_some (home b.loads c))) ∙ ap (λ (d : Option ℕ). is_some (home b.loads c) || is_it d c) (sym none) ∙ h

pub release-sound : (b : AuditBooks) (c : ℕ) → AreSound b → b.due ≡ None → is_inside b c ≡ true → AreSound (record b { loads = released b.loads c })
release-sound b c s none inside = record {
  sound = ended-kept (dispatcher_of b) c b.time s.sound (is-in b.loads c (inside-home b c none inside));
  before = s.before;
  free = subst (λ (d : Option ℕ). IfSome d (λ c2. (map.get (released b.loads c).standings c2 ≡ None) × (tally.admitted (released b.loads c) < room_of b.config))) (sym none) tt;
}

-- who is due has no node yet
abbrev IsFree : Option ℕ → Standings → ℕ → Type 0
IsFree due m room = IfSome due (λ d. (map.get m d ≡ None) × (map.len m < room))

free-kept : (due : Option ℕ) (m : Standings) (room c : ℕ) (x v : Standing) → map.get m c ≡ Some x → IsFree due m room → IsFree due (map.insert m c v) room
free-kept None m room c x v there h = tt
free-kept (Some d) m room c x v there h =
    let len : map.len (map.insert m c v) ≡ map.len m = len-insert nat_cmp_total m c v ∙ ap (λ (o : Option Standing). cond (is_some o) (map.len m) (map.len m + 1)) there in (
      get_other m c d v (λ e. apart (sym h.0 ∙ ap (map.get m) e ∙ there)) ∙ h.0,
      omega (arith, len, h.1),
    ) where
      apart : None ≡ Some x → ⊥
      apart e = cc

pub ended-sound : (b : AuditBooks) (c : ℕ) → AreSound b → AreSound (record b { loads = batch_ended b.loads c })
ended-sound b c s = record { sound = ended-batch-kept (dispatcher_of b) c s.sound; before = s.before; free = go (map.get b.loads.standings c) refl } where
  go : (o : Option Standing) → map.get b.loads.standings c ≡ o → IsFree b.due (batch_ended_with b.loads c o).standings (room_of b.config)
  go None e = s.free
  go (Some x) e = free-kept b.due b.loads.standings (room_of b.config) c x _ e s.free

-- ---- a node that closes

pub close-sound : (b : AuditBooks) (n : ℕ) → AreSound b → is_open b.loads n ≡ true → has_other_open b.loads n ≡ true
    → AreSound (record b { loads = tally_closed b.loads n; sets = sets_closed b.sets n })
close-sound b n s here other = record {
  sound = closing-kept (dispatcher_of b) n s.sound (open-node (dispatcher_of b) n s.sound here) other;
  before = before-closed b.time b.sets n s.before;
  free = s.free;
}

-- ---- a first assignment

pub first-within : (b : AuditBooks) (path : List ℕ) → AreSound b → IsChosen b.config.nodes (audit_first_at b.config b.time b.loads b.sets path)
first-within b path s =
    choice-within b.loads (set_of b.sets path).members b.time (set_of b.sets path).modified b.config b.config.nodes s.sound.nodes s.sound.open_nodes s.sound.some_open

pub first-node : (b : AuditBooks) (path : List ℕ) (n : ℕ) (add remove : Option ℕ) → AreSound b → audit_first_at b.config b.time b.loads b.sets path ≡ record { node = n; add = add; remove = remove } → n ≤ b.loads.nodes
first-node b path n add remove s is =
    let node : IsNode b.config.nodes n = subst (λ (x : FirstChoice). IsNode b.config.nodes x.node) is (first-within b path s).node in
    let same : b.loads.nodes ≡ b.config.nodes = s.sound.nodes in omega (arith, node.1, same)

abbrev pub first_books : AuditBooks → ℕ → List ℕ → FirstChoice → AuditBooks
first_books b c path x = record b { loads = connected b.loads c x.node; sets = reduced (joined (touched b.sets path) path x.add b.time) path x.remove b.time; due = None }

pub first-sound : (b : AuditBooks) (c : ℕ) (path : List ℕ) (x : FirstChoice) → AreSound b → b.due ≡ Some c → audit_first_at b.config b.time b.loads b.sets path ≡ x → AreSound (first_books b c path x)
first-sound b c path x s due is = subst (λ (y : FirstChoice). AreSound (first_books b c path y)) is (
    let free : (map.get b.loads.standings c ≡ None) × (tally.admitted b.loads < room_of b.config) = subst (λ (d : Option ℕ). IsFree d b.loads.standings (room_of b.config)) due s.free in
    let room = room-left (dispatcher_of b) s.sound (λ e. omega (arith, e, free.1)) in
    record {
      sound = admission b.config (dispatcher_of b).books c path b.time room free.0 refl;
      before = before-reduced b.time (joined (touched b.sets path) path (audit_first_at b.config b.time b.loads b.sets path).add b.time) path (audit_first_at b.config b.time b.loads b.sets path).remove
          (before-joined b.time (touched b.sets path) path (audit_first_at b.config b.time b.loads b.sets path).add (before-touched b.time b.sets path s.before));
      free = tt;
    })

-- ---- a later one

same-option : (a b : Option ℕ) → is_same a b ≡ true → a ≡ b
same-option None None e = refl
same-option (Some n) (Some m) e = ap Some (eqb-true n m e)
same-option None (Some m) e = cc
same-option (Some n) None e = cc

pub same-first : (x : FirstChoice) (n : ℕ) (add remove : Option ℕ) → (nat_eq x.node n && (is_same x.add add && is_same x.remove remove)) ≡ true → x ≡ record { node = n; add = add; remove = remove }
same-first x n add remove e =
    let one = and_parts (nat_eq x.node n) (is_same x.add add && is_same x.remove remove) e in
    let two = and_parts (is_same x.add add) (is_same x.remove remove) one.1 in
    ap (λ (k : ℕ). made k x.add x.remove) (eqb-true x.node n one.0) ∙ ap (λ (o : Option ℕ). made n o x.remove) (same-option x.add add two.0) ∙ ap (made n add) (same-option x.remove remove two.1) where
      made : ℕ → Option ℕ → Option ℕ → FirstChoice
      made k a r = record { node = k; add = a; remove = r }

pub at-most : (a k : ℕ) → nat_le a k ≡ true → a ≤ k
at-most a k e = grind (arith, nat_tests, e)

pub less : (a k : ℕ) → nat_lt a k ≡ true → a < k
less a k e = grind (arith, nat_tests, e)

-- what a later assignment knows that keeps the rule
pub record IsLater (b : AuditBooks) (c : ℕ) (path : List ℕ) (n : ℕ) (add : Option ℕ) (size queue : ℕ) : Type 0 where
  pub h : ℕ
  pub at : home b.loads c ≡ Some h
  pub some : 1 ≤ size
  pub few : size ≤ 8
  pub room : open_shares b.loads c < 8
  pub node : (later_choice b.loads h (set_of b.sets path).members queue b.config).node ≡ n
  pub added : (later_choice b.loads h (set_of b.sets path).members queue b.config).add ≡ add

pub is-later : (b : AuditBooks) (c : ℕ) (path : List ℕ) (n : ℕ) (add : Option ℕ) (size queue : ℕ) → keeps_later b.config b.loads b.sets (home b.loads c) c path n add size queue ≡ true → IsLater b c path n add size queue
is-later b c path n add size queue e = go (home b.loads c) refl e where
  go : (o : Option ℕ) → home b.loads c ≡ o → keeps_later b.config b.loads b.sets o c path n add size queue ≡ true → IsLater b c path n add size queue
  go None at k = let no : false ≡ true = k in absurd cc
  go (Some h) at k =
      let x : LaterChoice = later_choice b.loads h (set_of b.sets path).members queue b.config in
      let one = and_parts (nat_le 1 size && nat_le size 8) (nat_lt (open_shares b.loads c) 8 && is_later_choice x n add) k in
      let two = and_parts (nat_le 1 size) (nat_le size 8) one.0 in
      let three = and_parts (nat_lt (open_shares b.loads c) 8) (is_later_choice x n add) one.1 in
      let four = and_parts (nat_eq x.node n) (is_same x.add add) three.1 in
      record {
        h = h;
        at = at;
        some = at-most 1 size two.0;
        few = at-most size 8 two.1;
        room = less (open_shares b.loads c) 8 three.0;
        node = eqb-true x.node n four.0;
        added = same-option x.add add four.1;
      }

pub later-node : (b : AuditBooks) (c : ℕ) (path : List ℕ) (n : ℕ) (add : Option ℕ) (size queue : ℕ) → AreSound b → IsLater b c path n add size queue → n ≤ b.loads.nodes
later-node b c path n add size queue s l =
    let node : IsNode b.config.nodes l.h = home-node b.config.nodes b.loads.standings c l.h s.sound.at_nodes l.at in
    let chosen : IsNode b.config.nodes (later_choice b.loads l.h (set_of b.sets path).members queue b.config).node =
    later-has (IsNode b.config.nodes) b.loads l.h (set_of b.sets path).members queue b.config node (λ m k some e less. (some, s.sound.served path m e)) in
    let same : b.loads.nodes ≡ b.config.nodes = s.sound.nodes in omega (arith, chosen.1, same, l.node)

abbrev pub later_books : AuditBooks → ℕ → List ℕ → ℕ → Option ℕ → ℕ → AuditBooks
later_books b c path n add size = record b { loads = shared b.loads c n size; sets = joined (touched b.sets path) path add b.time }

pub later-sound : (b : AuditBooks) (c : ℕ) (path : List ℕ) (n : ℕ) (add : Option ℕ) (size queue : ℕ) → AreSound b → IsLater b c path n add size queue → AreSound (later_books b c path n add size)
later-sound b c path n add size queue s l =
    let x : LaterChoice = later_choice b.loads l.h (set_of b.sets path).members queue b.config in
    let ask : Ask = record { c = c; home = l.h; number = 0; queue = queue; size = size; paths = path ∷ [] } in
    let node : IsNode b.config.nodes l.h = home-node b.config.nodes b.loads.standings c l.h s.sound.at_nodes l.at in
    subst (λ (k : ℕ). AreSound (later_books b c path k add size)) l.node (subst (λ (o : Option ℕ). AreSound (later_books b c path x.node o size)) l.added (record {
      sound = shares-kept b.config ask b.time (path ∷ []) (dispatcher_of b).books node s.sound;
      before = before-joined b.time (touched b.sets path) path x.add (before-touched b.time b.sets path s.before);
      free = free x.node;
    })) where
      free : (k : ℕ) → IsFree b.due (shared b.loads c k size).standings (room_of b.config)
      free k = go (map.get b.loads.standings c) refl where
        go : (o : Option Standing) → map.get b.loads.standings c ≡ o → IsFree b.due (sharing b.loads c k size o).standings (room_of b.config)
        go None e = s.free
        go (Some y) e = cond_both (nat_eq k y.home) b.loads _ (λ (t : Tally). IsFree b.due t.standings (room_of b.config)) (λ _. s.free) (λ _. free-kept b.due b.loads.standings (room_of b.config) c y _ e s.free)
