-- Where requests go by hash, and in basic LARD; and that totals add up.
use Rattle.std.proofs.Common.{◌≡◌, ℕ, ◌+◌, ◌%◌, ◌≤◌, Bool, true, false, cond, List, [], ◌∷◌, ◌++◌, length, sum_by, Option, Some, None, IfSome, refl, sym, ap, subst, ◌∙◌, arith}
use Rattle.std.proofs.lemmas.List.Sums.{sum_by-cons}
use Rattle.std.specs.List.{AllByRecursion}
use Rattle.std.specs.Str.{bytes_eq}
use Rattle.lard_base.specs.declared.config.Config.{Config}
use Rattle.lard_base.specs.declared.ids.Millis.{Millis}
use Rattle.lard_cache.specs.Recency.{Recency, has_path}
use Rattle.lard_loads.specs.Tally.{Tally, numbers}
use Rattle.lard_policy.specs.First.{is_overloaded, least_node}
use Rattle.lard_policy.specs.declared.first.FirstChoice.{FirstChoice}
use Rattle.lard_lab.specs.declared.event.LabEvent.{LabEvent}
use Rattle.lard_lab.specs.declared.event.LabEvent.TheVariants.{Req, Done, Clock}
use Rattle.lard_lab.specs.declared.policy.Policy.{Policy}
use Rattle.lard_lab.specs.declared.policy.Policy.TheVariants.{Hash, Lard}
use Rattle.lard_lab.specs.declared.targets.Target.{Target}
use Rattle.lard_lab.specs.Backends.{empty, fed, one_if}
use Rattle.lard_lab.specs.Desk.{Desk, answer_at, desk_choice, choice_by, chosen_for, is_desk_full, served_by}
use Rattle.lard_lab.specs.Laws.{GoesTo, PathsKeepTheirNode, ServersAreKept}
use Rattle.lard_lab.specs.Policy.{hash_of}
use Rattle.lard_lab.specs.Report.{Request, all_hits, all_requests, lab_assignments, count_true, desk_after, desk_by, desk_requested, desk_with, hits_of, node_chosen, request_in, request_of, subtrace}
use Rattle.lard_lab.specs.Targets.{target_at, with_target}

-- ---- by hash

-- the policy and the configuration stay
pub record IsHashing (cfg : Config) (d : Desk) : Type 0 where
  pub policy : d.policy ≡ Hash
  pub config : d.config ≡ cfg

hash-choice : (policy : Policy) (cfg : Config) (t : Tally) (now : Millis) (made : ℕ) (path : List ℕ) (target : Target) → policy ≡ Hash → (choice_by policy cfg t now made path target).node ≡ 1 + hash_of path % cfg.nodes
unfolding choice_by
hash-choice policy cfg t now made path target e = ap (λ (p : Policy). (choice_by p cfg t now made path target).node) e

hashes : (cfg : Config) (d : Desk) (path : List ℕ) (target : Target) → IsHashing cfg d → (full : Bool) → GoesTo (1 + hash_of path % cfg.nodes) (node_chosen (cond full None (Some (desk_choice d path target))))
hashes cfg d path target h true = tt
hashes cfg d path target h false = hash-choice d.policy d.config d.loads d.time d.made path target h.policy ∙ ap (λ (c : Config). 1 + hash_of path % c.nodes) h.config

abbrev pub Hashes : Config → Request → Type 0
Hashes cfg r = GoesTo (1 + hash_of r.0 % cfg.nodes) r.1

hash-request : (cfg : Config) (d : Desk) (path : List ℕ) (o : Option Target) → IsHashing cfg d → AllByRecursion (Hashes cfg) (request_of d path o) × IsHashing cfg (desk_requested d path o)
hash-request cfg d path None h = (tt, h)
hash-request cfg d path (Some target) h = ((hashes cfg d path target h (is_desk_full d), tt), go (answer_at d path target)) where
  go : (o : Option FirstChoice) → IsHashing cfg (desk_by d path target o)
  go None = record { policy = h.policy; config = h.config }
  go (Some choice) = record { policy = h.policy; config = h.config }

hash-event : (cfg : Config) (d : Desk) (e : LabEvent) → IsHashing cfg d → AllByRecursion (Hashes cfg) (request_in d e) × IsHashing cfg (desk_after d e)
unfolding request_in desk_after
hash-event cfg d (Req path) h = hash-request cfg d path (target_at d.targets path) h
hash-event cfg d (Done i) h = (tt, record { policy = h.policy; config = h.config })
hash-event cfg d (Clock ms) h = (tt, record { policy = h.policy; config = h.config })

all-behind : {X : Type 0} (P : X → Type 0) (xs ys : List X) → AllByRecursion P xs → AllByRecursion P ys → AllByRecursion P (xs ++ ys)
all-behind P [] ys a b = b
all-behind P (x ∷ xs) ys a b = (a.0, all-behind P xs ys a.1 b)

hash-all : (cfg : Config) (es : List LabEvent) (d : Desk) → IsHashing cfg d → AllByRecursion (Hashes cfg) (lab_assignments d es)
hash-all cfg [] d h = tt
hash-all cfg (e ∷ es) d h =
    let one = hash-event cfg d e h in
    all-behind (Hashes cfg) (request_in d e) (lab_assignments (desk_after d e) es) one.0 (hash-all cfg es (desk_after d e) one.1)

pub paths-keep : PathsKeepTheirNode
paths-keep cfg files es = hash-all cfg es (desk_with Hash cfg files) (record { policy = refl; config = refl })

-- ---- in basic LARD

-- what is written in the place of a target that is there is found there
written-found : (ts : List (List ℕ × Target)) (path : List ℕ) (old t : Target) → target_at ts path ≡ Some old → target_at (with_target ts path t) path ≡ Some t
written-found [] path old t there = cc
written-found (e ∷ es) path old t there = go (written-found es path old t) (bytes_eq path e.0) refl there where
  go : (target_at es path ≡ Some old → target_at (with_target es path t) path ≡ Some t) → (b : Bool) → bytes_eq path e.0 ≡ b → cond {A = Option Target} b (Some e.1) (target_at es path) ≡ Some old
      → target_at (cond b ((e.0, t) ∷ es) (e ∷ with_target es path t)) path ≡ Some t
  go more true is h = ap (λ (b : Bool). cond {A = Option Target} b (Some t) (target_at es path)) is
  go more false is h = ap (λ (b : Bool). cond {A = Option Target} b (Some e.1) (target_at (with_target es path t) path)) is ∙ more h

lard-choice : (policy : Policy) (cfg : Config) (t : Tally) (now : Millis) (made : ℕ) (path : List ℕ) (target : Target) (n : ℕ) → policy ≡ Lard → target.server ≡ Some n → is_overloaded t cfg n ≡ false
    → (choice_by policy cfg t now made path target).node ≡ n
unfolding choice_by
lard-choice policy cfg t now made path target n e server calm =
    ap (λ (p : Policy). (choice_by p cfg t now made path target).node) e
    ∙ ap (λ (o : Option ℕ). served_by t cfg o) server
    ∙ ap (λ (b : Bool). cond b (least_node t) n) calm

kept-server : (d : Desk) (path : List ℕ) (target : Target) (n : ℕ) → d.policy ≡ Lard → target.server ≡ Some n → is_overloaded d.loads d.config n ≡ false → (full : Bool)
    → GoesTo n (node_chosen (cond full None (Some (desk_choice d path target))))
kept-server d path target n e server calm true = tt
kept-server d path target n e server calm false = lard-choice d.policy d.config d.loads d.time d.made path target n e server calm

pub servers-kept : ServersAreKept
servers-kept = record {
  last = λ d path target choice there. subst (λ (o : Option Target). IfSome o (λ t. t.server ≡ Some choice.node))
      (sym (written-found d.targets path target (chosen_for target choice d.time) there)) refl;
  kept = λ d path target n e server calm. kept-server d path target n e server calm (is_desk_full d);
}

-- ---- sums

-- no more hit than were made
few-hits : (size : List ℕ → ℕ) (c : Recency) (ps : List (List ℕ)) → count_true (hits_of size c ps) ≤ length ps
few-hits size c [] = omega arith
few-hits size c (p ∷ ps) = go (has_path c.entries p) (few-hits size (fed c p (size p)) ps) where
  go : (b : Bool) → count_true (hits_of size (fed c p (size p)) ps) ≤ length ps → one_if b + count_true (hits_of size (fed c p (size p)) ps) ≤ length (p ∷ ps)
  go true h = omega (arith, h)
  go false h = omega (arith, h)

sum-below : (f g : ℕ → ℕ) → ((n : ℕ) → f n ≤ g n) → (ns : List ℕ) → sum_by f ns ≤ sum_by g ns
sum-below f g each [] = omega arith
sum-below f g each (n ∷ ns) = let one = each n in let more = sum-below f g each ns in omega (arith, one, more, sum_by-cons f n ns, sum_by-cons g n ns)

pub hits-below : (size : List ℕ → ℕ) (cfg : Config) (rs : List Request) → all_hits size cfg rs ≤ all_requests cfg rs
hits-below size cfg rs = sum-below (λ n. count_true (hits_of size (empty cfg.cache) (subtrace n rs))) (λ n. length (subtrace n rs)) (λ n. few-hits size (empty cfg.cache) (subtrace n rs)) (numbers cfg.nodes)
