-- The server sets of the ledger are those of the assignments in the journal.
use Rattle.std.proofs.Common.{◌≡◌, ℕ, ◌≤◌, ◌&&◌, ◌||◌, nat_eq, Bool, true, false, cond, List, [], ◌∷◌, ◌++◌, is_some, Option, Some, None, IfSome, refl, sym, ap, ◌∙◌, subst}
use Rattle.std.proofs.lemmas.Slice.Eq.{bytes_eq-Decides}
use Rattle.std.specs.List.{fold}
use Rattle.std.specs.Str.{bytes_eq}
use Rattle.lard_law_view.specs.Prelude.{Add, Close, Config, IsNode, Millis, NameNodes, Rec, Remove, RemoveKept, ServerSet, SetCall, Touch, added, changed, changed_after, has, has_place, joined, place, put, reduced, removed, serves_after, serves_after_all, set_of, sets_after_call, sets_after_calls, touched}
use Rattle.lard_law_connections.proofs.PolicyAsides.{EachFrom, May}
use Rattle.lard_law_connections.proofs.PolicyStanding.{HasNodes, first-within, later-within, one-has}
use Rattle.lard_counts.specs.Ledger.{Ledger, blank_ledger, ledger_step, server_set}
use Rattle.lard_law_connections.specs.PolicyServers.{Dated, dated, dated_step, last_mod, serves_step, taken_in, taken_out}
use Rattle.lard_law_connections.specs.PolicyServers as told
use Rattle.lard_journal.specs.declared.rec.Rec.TheVariants as rec
use Rattle.lard_dispatch.proofs.Soundness.{open-there}
use Rattle.lard_sets.proofs.Changes.{last_change, last_decides, place-put}

abbrev Sets : Type 0
Sets = List (List ℕ × ServerSet)

-- ---- lists of calls

after-append : (sets : Sets) (xs ys : List SetCall) → sets_after_calls sets (xs ++ ys) ≡ sets_after_calls (sets_after_calls sets xs) ys
after-append sets [] ys = refl
after-append sets (x ∷ xs) ys = after-append (sets_after_call sets x) xs ys

name-append : (xs ys : List SetCall) → NameNodes xs → NameNodes ys → NameNodes (xs ++ ys)
name-append [] ys e f = f
name-append (Touch t ∷ xs) ys e f = name-append xs ys e f
name-append (Add t n now ∷ xs) ys e f = (e.0, name-append xs ys e.1 f)
name-append (Remove t n now ∷ xs) ys e f = (e.0, name-append xs ys e.1 f)
name-append (Close n ∷ xs) ys e f = (e.0, name-append xs ys e.1 f)

kept-append : (sets : Sets) (xs ys : List SetCall) → RemoveKept sets xs → RemoveKept (sets_after_calls sets xs) ys → RemoveKept sets (xs ++ ys)
kept-append sets [] ys e f = f
kept-append sets (Touch t ∷ xs) ys e f = kept-append (touched sets t) xs ys e f
kept-append sets (Add t n now ∷ xs) ys e f = kept-append (added sets t n now) xs ys e f
kept-append sets (Remove t n now ∷ xs) ys e f = (e.0, kept-append (removed sets t n now) xs ys e.1 f)
kept-append sets (Close n ∷ xs) ys e f = kept-append (sets_after_call sets (Close n)) xs ys e f

serves-append : (t : List ℕ) (k : ℕ) (was : Bool) (xs ys : List SetCall) → serves_after_all t k was (xs ++ ys) ≡ serves_after_all t k (serves_after_all t k was xs) ys
serves-append t k was [] ys = refl
serves-append t k was (x ∷ xs) ys = serves-append t k (serves_after t k was x) xs ys

changed-append : (t : List ℕ) (last : Millis) (xs ys : List SetCall) → changed t last (xs ++ ys) ≡ changed t (changed t last xs) ys
changed-append t last [] ys = refl
changed-append t last (x ∷ xs) ys = changed-append t (changed_after t last x) xs ys

-- ---- the calls that an assignment tells

abbrev add_calls : List ℕ → Option ℕ → Millis → List SetCall
add_calls path None now = []
add_calls path (Some n) now = Add path n now ∷ []

abbrev remove_calls : List ℕ → Option ℕ → Millis → List SetCall
remove_calls path None now = []
remove_calls path (Some n) now = Remove path n now ∷ []

abbrev calls_by : Millis → Rec → List SetCall
calls_by now (rec.AssignedFirst c r path n add remove) = Touch path ∷ (add_calls path add now ++ remove_calls path remove now)
calls_by now (rec.AssignedLater c r path n add size queue) = Touch path ∷ add_calls path add now
calls_by now (rec.Closed n) = Close n ∷ []
calls_by now _ = []

abbrev calls_of : Ledger → List Rec → List SetCall
calls_of l [] = []
calls_of l (r ∷ rs) = calls_by l.now r ++ calls_of (ledger_step l r) rs

-- ---- of one assignment

joined-is : (sets : Sets) (path : List ℕ) (add : Option ℕ) (now : Millis) → sets_after_calls sets (add_calls path add now) ≡ joined sets path add now
joined-is sets path None now = refl
joined-is sets path (Some n) now = refl

reduced-is : (sets : Sets) (path : List ℕ) (remove : Option ℕ) (now : Millis) → sets_after_calls sets (remove_calls path remove now) ≡ reduced sets path remove now
reduced-is sets path None now = refl
reduced-is sets path (Some n) now = refl

one-sets : (l : Ledger) (r : Rec) → sets_after_calls l.sets (calls_by l.now r) ≡ (ledger_step l r).sets
one-sets l (rec.AssignedFirst c r path n add remove) =
    after-append (touched l.sets path) (add_calls path add l.now) (remove_calls path remove l.now)
    ∙ ap (λ (s : Sets). sets_after_calls s (remove_calls path remove l.now)) (joined-is (touched l.sets path) path add l.now)
    ∙ reduced-is (joined (touched l.sets path) path add l.now) path remove l.now
one-sets l (rec.AssignedLater c r path n add size queue) = joined-is (touched l.sets path) path add l.now
one-sets l (rec.Clock time) = refl
one-sets l (rec.Admitted c) = refl
one-sets l (rec.Released c) = refl
one-sets l (rec.BatchOver c) = refl
one-sets l (rec.Closed n) = refl
one-sets l _ = refl

-- a set that was put is there
put-there : (sets : Sets) (path : List ℕ) (s : ServerSet) → has_place (put sets path s) path ≡ true
put-there sets path s = ap is_some (place-put sets path path s ∙ ap (λ (b : Bool). cond b (Some s) (place sets path)) ((bytes_eq-Decides path path).1 refl))

joined-there : (sets : Sets) (path : List ℕ) (add : Option ℕ) (now : Millis) → has_place (joined (touched sets path) path add now) path ≡ true
joined-there sets path None now = put-there sets path _
joined-there sets path (Some n) now = put-there (touched sets path) path _

adds-keep : (sets : Sets) (path : List ℕ) (add : Option ℕ) (now : Millis) → RemoveKept sets (add_calls path add now)
adds-keep sets path None now = tt
adds-keep sets path (Some n) now = tt

removes-keep : (sets : Sets) (path : List ℕ) (remove : Option ℕ) (now : Millis) → has_place sets path ≡ true → RemoveKept sets (remove_calls path remove now)
removes-keep sets path None now there = tt
removes-keep sets path (Some n) now there = (there, tt)

one-kept : (l : Ledger) (r : Rec) → RemoveKept l.sets (calls_by l.now r)
one-kept l (rec.AssignedFirst c r path n add remove) = kept-append (touched l.sets path) (add_calls path add l.now) (remove_calls path remove l.now) (adds-keep (touched l.sets path) path add l.now)
    (removes-keep (sets_after_calls (touched l.sets path) (add_calls path add l.now)) path remove l.now
    (ap (λ (s : Sets). has_place s path) (joined-is (touched l.sets path) path add l.now) ∙ joined-there l.sets path add l.now))
one-kept l (rec.AssignedLater c r path n add size queue) = adds-keep (touched l.sets path) path add l.now
one-kept l (rec.Closed n) = tt
one-kept l _ = tt

adds-name : (nodes : ℕ) (path : List ℕ) (add : Option ℕ) (now : Millis) → IfSome add (IsNode nodes) → NameNodes (add_calls path add now)
adds-name nodes path None now h = tt
adds-name nodes path (Some n) now h = (h.0, tt)

removes-name : (nodes : ℕ) (path : List ℕ) (remove : Option ℕ) (now : Millis) → IfSome remove (IsNode nodes) → NameNodes (remove_calls path remove now)
removes-name nodes path None now h = tt
removes-name nodes path (Some n) now h = (h.0, tt)

-- ---- who serves

module _ (t : List ℕ) (k : ℕ) where
  adds-serve : (was : Bool) (path : List ℕ) (add : Option ℕ) (now : Millis) → serves_after_all t k was (add_calls path add now) ≡ cond (bytes_eq t path) (taken_in k add was) was
  adds-serve was path None now = go (bytes_eq t path) where
    go : (b : Bool) → was ≡ cond b was was
    go true = refl
    go false = refl
  adds-serve was path (Some n) now = go (bytes_eq t path) where
    go : (b : Bool) → cond (b && nat_eq k n) true was ≡ cond b (cond (nat_eq k n) true was) was
    go true = refl
    go false = refl

  removes-serve : (was : Bool) (path : List ℕ) (remove : Option ℕ) (now : Millis) → serves_after_all t k was (remove_calls path remove now) ≡ cond (bytes_eq t path) (taken_out k remove was) was
  removes-serve was path None now = go (bytes_eq t path) where
    go : (b : Bool) → was ≡ cond b was was
    go true = refl
    go false = refl
  removes-serve was path (Some n) now = go (bytes_eq t path) where
    go : (b : Bool) → cond (b && nat_eq k n) false was ≡ cond b (cond (nat_eq k n) false was) was
    go true = refl
    go false = refl

  one-serves : (now : Millis) (was : Bool) (r : Rec) → serves_after_all t k was (calls_by now r) ≡ serves_step t k was r
  one-serves now was (rec.AssignedFirst c r path n add remove) =
      serves-append t k was (add_calls path add now) (remove_calls path remove now)
      ∙ ap (λ (b : Bool). serves_after_all t k b (remove_calls path remove now)) (adds-serve was path add now)
      ∙ removes-serve (cond (bytes_eq t path) (taken_in k add was) was) path remove now
      ∙ go (bytes_eq t path) where
        go : (b : Bool) → cond b (taken_out k remove (cond b (taken_in k add was) was)) (cond b (taken_in k add was) was) ≡ cond b (taken_out k remove (taken_in k add was)) was
        go true = refl
        go false = refl
  one-serves now was (rec.AssignedLater c r path n add size queue) = adds-serve was path add now
  one-serves now was (rec.Closed n) = refl
  one-serves now was _ = refl

  all-serves : (l : Ledger) (was : Bool) (rs : List Rec) → serves_after_all t k was (calls_of l rs) ≡ fold (serves_step t k) was rs
  all-serves l was [] = refl
  all-serves l was (r ∷ rs) = serves-append t k was (calls_by l.now r) (calls_of (ledger_step l r) rs)
      ∙ ap (λ (b : Bool). serves_after_all t k b (calls_of (ledger_step l r) rs)) (one-serves l.now was r) ∙ all-serves (ledger_step l r) (serves_step t k was r) rs

-- ---- when

module _ (t : List ℕ) where
  adds-change : (last now : Millis) (path : List ℕ) (add : Option ℕ) → changed t last (add_calls path add now) ≡ cond (bytes_eq t path && is_some add) now last
  adds-change last now path None = go (bytes_eq t path) where
    go : (b : Bool) → last ≡ cond (b && false) now last
    go true = refl
    go false = refl
  adds-change last now path (Some n) = go (bytes_eq t path) where
    go : (b : Bool) → cond b now last ≡ cond (b && true) now last
    go true = refl
    go false = refl

  removes-change : (last now : Millis) (path : List ℕ) (remove : Option ℕ) → changed t last (remove_calls path remove now) ≡ cond (bytes_eq t path && is_some remove) now last
  removes-change last now path None = go (bytes_eq t path) where
    go : (b : Bool) → last ≡ cond (b && false) now last
    go true = refl
    go false = refl
  removes-change last now path (Some n) = go (bytes_eq t path) where
    go : (b : Bool) → cond b now last ≡ cond (b && true) now last
    go true = refl
    go false = refl

  -- the date that a ledger and the time of the last change make
  abbrev date : Ledger → Millis → Dated
  date l last = record { now = l.now; last = last }

  dated-last : (b : Bool) (d : Dated) → (dated b d).last ≡ cond b d.now d.last
  dated-last true d = refl
  dated-last false d = refl

  dated-now : (b : Bool) (d : Dated) → (dated b d).now ≡ d.now
  dated-now true d = refl
  dated-now false d = refl

  -- the date goes on as the ledger does
  one-date : (l : Ledger) (last : Millis) (r : Rec) → date (ledger_step l r) (changed t last (calls_by l.now r)) ≡ dated_step t (date l last) r
  one-date l last (rec.AssignedFirst c r path n add remove) = (λ i. record { now = sym (dated-now both (date l last)) i; last = same i }) where
    both : Bool
    both = bytes_eq t path && (is_some add || is_some remove)

    go : (b a d : Bool) → cond (b && d) l.now (cond (b && a) l.now last) ≡ cond (b && (a || d)) l.now last
    go true true true = refl
    go true true false = refl
    go true false true = refl
    go true false false = refl
    go false a d = refl

    same : changed t last (calls_by l.now (rec.AssignedFirst c r path n add remove)) ≡ (dated (bytes_eq t path && (is_some add || is_some remove)) (date l last)).last
    same = changed-append t last (add_calls path add l.now) (remove_calls path remove l.now)
        ∙ ap (λ (m : Millis). changed t m (remove_calls path remove l.now)) (adds-change last l.now path add)
        ∙ removes-change (cond (bytes_eq t path && is_some add) l.now last) l.now path remove
        ∙ go (bytes_eq t path) (is_some add) (is_some remove)
        ∙ sym (dated-last (bytes_eq t path && (is_some add || is_some remove)) (date l last))
  one-date l last (rec.AssignedLater c r path n add size queue) =
      (λ i. record { now = sym (dated-now (bytes_eq t path && is_some add) (date l last)) i; last = (adds-change last l.now path add ∙ sym (dated-last (bytes_eq t path && is_some add) (date l last))) i })
  one-date l last (rec.Clock time) = refl
  one-date l last (rec.Admitted c) = refl
  one-date l last (rec.Released c) = refl
  one-date l last (rec.BatchOver c) = refl
  one-date l last (rec.Closed n) = refl
  one-date l last _ = refl

  all-dates : (l : Ledger) (last : Millis) (rs : List Rec) → changed t last (calls_of l rs) ≡ (fold (dated_step t) (date l last) rs).last
  all-dates l last [] = refl
  all-dates l last (r ∷ rs) = changed-append t last (calls_by l.now r) (calls_of (ledger_step l r) rs)
      ∙ all-dates (ledger_step l r) (changed t last (calls_by l.now r)) rs
      ∙ ap (λ (d : Dated). (fold (dated_step t) d rs).last) (one-date l last r)

-- ---- a journal

all-sets : (l : Ledger) (rs : List Rec) → sets_after_calls l.sets (calls_of l rs) ≡ (fold ledger_step l rs).sets
all-sets l [] = refl
all-sets l (r ∷ rs) = after-append l.sets (calls_by l.now r) (calls_of (ledger_step l r) rs) ∙ ap (λ (s : Sets). sets_after_calls s (calls_of (ledger_step l r) rs)) (one-sets l r) ∙ all-sets (ledger_step l r) rs

all-kept : (l : Ledger) (rs : List Rec) → RemoveKept l.sets (calls_of l rs)
all-kept l [] = tt
all-kept l (r ∷ rs) = kept-append l.sets (calls_by l.now r) (calls_of (ledger_step l r) rs) (one-kept l r)
    (subst (λ (s : Sets). RemoveKept s (calls_of (ledger_step l r) rs)) (sym (one-sets l r)) (all-kept (ledger_step l r) rs))

module _ (cfg : Config) (some : 1 ≤ cfg.nodes) where
  one-names : (l : Ledger) (r : Rec) → HasNodes cfg l → May cfg l r → NameNodes (calls_by l.now r)
  one-names l (rec.AssignedFirst c r path n add remove) has may =
      let chosen = first-within cfg some l has path n add remove may.1.1 in
      name-append (add_calls path add l.now) (remove_calls path remove l.now) (adds-name cfg.nodes path add l.now chosen.add) (removes-name cfg.nodes path remove l.now chosen.remove)
  one-names l (rec.AssignedLater c r path n add size queue) has may = adds-name cfg.nodes path add l.now (later-within cfg some l has c path n add queue may.1.0 may.1.1 may.1.2).add
  one-names l (rec.Closed n) has may = ((open-there cfg.nodes n l.loads.open_nodes has.open_nodes may.1.0).0, tt)
  one-names l _ has may = tt

  all-name : (l : Ledger) (rs : List Rec) → HasNodes cfg l → EachFrom (May cfg) l rs → NameNodes (calls_of l rs)
  all-name l [] has may = tt
  all-name l (r ∷ rs) has may = name-append (calls_by l.now r) (calls_of (ledger_step l r) rs) (one-names l r has may.0) (all-name (ledger_step l r) rs (one-has cfg some l has r may.0) may.1)

  pub served : (J : List Rec) → HasNodes cfg (blank_ledger cfg) → EachFrom (May cfg) (blank_ledger cfg) J → (path : List ℕ) (k : ℕ) → 1 ≤ k
      → has (server_set (fold ledger_step (blank_ledger cfg) J) path).members k ≡ told.serves J path k
  served J has_ may path k low = ap (λ (s : Sets). has (set_of s path).members k) (sym (all-sets (blank_ledger cfg) J)) ∙ last_decides (calls_of (blank_ledger cfg) J) path k low (all-name (blank_ledger cfg) J has_ may) ∙ all-serves path k (blank_ledger cfg) false J

  pub modified : (J : List Rec) (path : List ℕ) → (server_set (fold ledger_step (blank_ledger cfg) J) path).modified ≡ last_mod J path
  modified J path = ap (λ (s : Sets). (set_of s path).modified) (sym (all-sets (blank_ledger cfg) J)) ∙ last_change (calls_of (blank_ledger cfg) J) path (all-kept (blank_ledger cfg) J) ∙ all-dates path (blank_ledger cfg) (record { 0 = 0 }) J
