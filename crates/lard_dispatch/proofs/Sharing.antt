-- The loop over the paths of an Ask.
use Rattle.std.proofs.Common.{◌≡◌, ℕ, zero, suc, ◌+◌, ◌/◌, ◌<◌, ◌≤◌, true, nat_eq, List, [], ◌∷◌, ◌++◌, length, drop, get_or, Option, Some, None, IfSome, refl, sym, ap, subst, ◌∙◌, arith}
use Rattle.std.proofs.lemmas.Bool.{cond_both}
use Rattle.std.proofs.lemmas.List.{append_assoc, length-append}
use Rattle.std.proofs.Math.Seq.{drop-cons}
use Rattle.std.specs.FinMap as map
use Rattle.std.specs.List.{AllByRecursion}
use Rattle.lard_base.specs.declared.config.Config.{Config}
use Rattle.lard_base.specs.declared.ids.Millis.{Millis}
use Rattle.lard_table.proofs.Map.{get_inserted}
use Rattle.lard_loads.specs.Tally.{Standing, Tally, batch_ended, batch_ended_with, home, home_of, open_shares, shared, shares_of, sharing}
use Rattle.lard_sets.specs.Sets.{has_place, set_of}
use Rattle.lard_costs.specs.Later.{later_choice}
use Rattle.lard_costs.specs.declared.later.LaterChoice.{LaterChoice}
use Rattle.lard_dispatch.specs.declared.dispatch.Ask.{Ask}
use Rattle.lard_dispatch.specs.Calls.{all_choices, all_shared, joined, later_choice_at, unlined}
use Rattle.lard_dispatch.specs.Sound.{AreServedByNodes, IsNode}
use Rattle.lard_dispatch.proofs.Places.{kept-joined, next-books, next-choices}
use Rattle.lard_dispatch.proofs.Servers.{Sets, served-joined}

-- a share, or none, is opened: the connection stays where it is
pub home-shared : (t : Tally) (c n size : ℕ) → home (shared t c n size) c ≡ home t c
home-shared t c n size = go (map.get t.standings c) refl where
  go : (o : Option Standing) → map.get t.standings c ≡ o → home (sharing t c n size o) c ≡ home_of o
  go None e = ap home_of e
  go (Some s) e = cond_both (nat_eq n s.home) t _ (λ (x : Tally). home x c ≡ Some s.home) (λ _. ap home_of e) (λ _. ap home_of (get_inserted t.standings c _))

pub nodes-shared : (t : Tally) (c n size : ℕ) → (shared t c n size).nodes ≡ t.nodes
nodes-shared t c n size = go (map.get t.standings c) where
  go : (o : Option Standing) → (sharing t c n size o).nodes ≡ t.nodes
  go None = refl
  go (Some s) = cond_both (nat_eq n s.home) t _ (λ (x : Tally). x.nodes ≡ t.nodes) (λ _. refl) (λ _. refl)

pub shares-shared : (t : Tally) (c n size : ℕ) → open_shares (shared t c n size) c ≤ open_shares t c + 1
shares-shared t c n size = go (map.get t.standings c) refl where
  go : (o : Option Standing) → map.get t.standings c ≡ o → open_shares (sharing t c n size o) c ≤ length (shares_of o) + 1
  go None e = let z : length (shares_of (map.get t.standings c)) ≡ 0 = ap (λ (x : Option Standing). length (shares_of x)) e in omega (arith, z)
  go (Some s) e = cond_both (nat_eq n s.home) t _ (λ (x : Tally). open_shares x c ≤ length s.shares + 1)
      (λ _. let z : length (shares_of (map.get t.standings c)) ≡ length s.shares = ap (λ (x : Option Standing). length (shares_of x)) e in omega (arith, z))
      (λ _. let z : length (shares_of (map.get (map.insert t.standings c (record s { shares = s.shares ++ record { node = n; units = 840 / size } ∷ [] })) c)) ≡ length (s.shares ++ record { node = n; units = 840 / size } ∷ [])
      = ap (λ (x : Option Standing). length (shares_of x)) (get_inserted t.standings c _) in
      let y : length (s.shares ++ record { node = n; units = 840 / size } ∷ []) ≡ length s.shares + 1 = length-append s.shares (record { node = n; units = 840 / size } ∷ []) in
      omega (arith, z, y))

-- a batch is over: the connection stays where it is, without shares
pub home-ended : (t : Tally) (c : ℕ) → home (batch_ended t c) c ≡ home t c
home-ended t c = go (map.get t.standings c) refl where
  go : (o : Option Standing) → map.get t.standings c ≡ o → home (batch_ended_with t c o) c ≡ home_of o
  go None e = ap home_of e
  go (Some s) e = ap home_of (get_inserted t.standings c _)

pub nodes-ended : (t : Tally) (c : ℕ) → (batch_ended t c).nodes ≡ t.nodes
nodes-ended t c = go (map.get t.standings c) where
  go : (o : Option Standing) → (batch_ended_with t c o).nodes ≡ t.nodes
  go None = refl
  go (Some s) = refl

pub shares-ended : (t : Tally) (c : ℕ) → open_shares (batch_ended t c) c ≡ 0
shares-ended t c = go (map.get t.standings c) refl where
  go : (o : Option Standing) → map.get t.standings c ≡ o → open_shares (batch_ended_with t c o) c ≡ 0
  go None e = ap (λ (x : Option Standing). length (shares_of x)) e
  go (Some s) e = ap (λ (x : Option Standing). length (shares_of x)) (get_inserted t.standings c _)

-- the connection's node alone joins a set
pub add-home : (t : Tally) (h set queue nodes : ℕ) (cfg : Config) → IsNode nodes h → IfSome (later_choice t h set queue cfg).add (IsNode nodes)
unfolding later_choice
add-home t h set queue nodes cfg node = cond_both _ (Some h) None (λ (o : Option ℕ). IfSome o (IsNode nodes)) (λ _. node) (λ _. tt)

-- who had a place keeps it
all-kept : (sets : Sets) (p : List ℕ) (o : Option ℕ) (now : Millis) (ps : List (List ℕ)) → AllByRecursion (λ q. has_place sets q ≡ true) ps → AllByRecursion (λ q. has_place (joined sets p o now) q ≡ true) ps
all-kept sets p o now [] all = tt
all-kept sets p o now (q ∷ qs) all = (kept-joined sets p o now q all.0, all-kept sets p o now qs all.1)

there-at : (sets : Sets) (ps : List (List ℕ)) (i : ℕ) (d : List ℕ) → i < length ps → AllByRecursion (λ q. has_place sets q ≡ true) ps → has_place sets (get_or ps i d) ≡ true
there-at sets [] i d lt all = absurd (omega (arith, lt))
there-at sets (q ∷ qs) zero d lt all = all.0
there-at sets (q ∷ qs) (suc i) d lt all = there-at sets qs i d (omega (arith, lt)) all.1

-- What holds before the i-th path, counted from 0: what is left gives what the whole gives.
pub record IsSharing (cfg : Config) (ask : Ask) (now : Millis) (t0 : Tally) (s0 : Sets) (before : List LaterChoice) (i : ℕ) (t : Tally) (s : Sets) (choices : List LaterChoice) : Type 0 where
  pub at_home : home t ask.c ≡ Some ask.home
  pub nodes : t.nodes ≡ t0.nodes
  pub served : AreServedByNodes t0.nodes s
  pub there : AllByRecursion (λ p. has_place s p ≡ true) ask.paths
  pub few : open_shares t ask.c ≤ i
  pub books : all_shared cfg ask now (drop i ask.paths) (unlined t s) ≡ all_shared cfg ask now ask.paths (unlined t0 s0)
  pub chosen : choices ++ all_choices cfg ask now (drop i ask.paths) (unlined t s) ≡ before ++ all_choices cfg ask now ask.paths (unlined t0 s0)

pub next-path : (cfg : Config) (ask : Ask) (now : Millis) (t0 : Tally) (s0 : Sets) (before : List LaterChoice) (i : ℕ) (t : Tally) (s : Sets) (choices : List LaterChoice) (p : List ℕ) (choice : LaterChoice)
    → IsSharing cfg ask now t0 s0 before i t s choices → IsNode t0.nodes ask.home → i < length ask.paths → p ≡ get_or ask.paths i p → choice ≡ later_choice_at cfg (unlined t s) ask p
    → IsSharing cfg ask now t0 s0 before (i + 1) (shared t ask.c choice.node ask.size) (joined s p choice.add now) (choices ++ choice ∷ [])
next-path cfg ask now t0 s0 before i t s choices p choice h node lt is made =
    let row : drop i ask.paths ≡ p ∷ drop (i + 1) ask.paths =
    drop-cons ask.paths i p lt ∙ ap (λ (q : List ℕ). q ∷ drop (suc i) ask.paths) (sym is) ∙ ap (λ (k : ℕ). p ∷ drop k ask.paths) (let e : suc i ≡ i + 1 = omega arith in e) in
    let there : has_place s p ≡ true = subst (λ (q : List ℕ). has_place s q ≡ true) (sym is) (there-at s ask.paths i p lt h.there) in
    let add : IfSome choice.add (IsNode t0.nodes) = subst (λ (x : LaterChoice). IfSome x.add (IsNode t0.nodes)) (sym made) (add-home t ask.home (set_of s p).members ask.queue t0.nodes cfg node) in
    record {
      at_home = home-shared t ask.c choice.node ask.size ∙ h.at_home;
      nodes = nodes-shared t ask.c choice.node ask.size ∙ h.nodes;
      served = served-joined t0.nodes s p choice.add now h.served add;
      there = all-kept s p choice.add now ask.paths h.there;
      few = let f = shares-shared t ask.c choice.node ask.size in omega (arith, f, h.few);
      books =
          ap (λ (x : LaterChoice). all_shared cfg ask now (drop (i + 1) ask.paths) (unlined (shared t ask.c x.node ask.size) (joined s p x.add now))) made
          ∙ sym (next-books cfg ask now t s p (drop (i + 1) ask.paths) there)
          ∙ ap (λ (ps : List (List ℕ)). all_shared cfg ask now ps (unlined t s)) (sym row) ∙ h.books;
      chosen =
          ap (λ (x : LaterChoice). (choices ++ x ∷ []) ++ all_choices cfg ask now (drop (i + 1) ask.paths) (unlined (shared t ask.c x.node ask.size) (joined s p x.add now))) made
          ∙ append_assoc choices (later_choice_at cfg (unlined t s) ask p ∷ []) _
          ∙ ap (λ (cs : List LaterChoice). choices ++ cs) (sym (next-choices cfg ask now t s p (drop (i + 1) ask.paths) there))
          ∙ ap (λ (ps : List (List ℕ)). choices ++ all_choices cfg ask now ps (unlined t s)) (sym row) ∙ h.chosen;
    }
