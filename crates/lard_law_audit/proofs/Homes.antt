-- A connection that has a node is in, at every moment: its first assignment stands directly behind the record that admits it.
use Rattle.std.proofs.Common.{◌≡◌, ℕ, Bool, true, false, cond, is_some, List, [], ◌∷◌, ◌++◌, Option, Some, None, refl, sym, ap, ◌∙◌, subst, nat_eq, eqb-true}
use Rattle.std.proofs.lemmas.List.Sums.{fold-append}
use Rattle.lard_audit.specs.Sound.{audit_due_behind, due_by, audit_last_of}
use Rattle.lard_law_view.specs.Prelude.{EachMay, Rec, home_step, home_told, in_step, is_in}
use Rattle.lard_history.proofs.Seeing.{same_number}
use Rattle.lard_journal.specs.declared.rec.Rec.TheVariants as rec
use Rattle.lard_law_audit.proofs.Behind.{MayPair, PairsAt, last-behind}

-- Who has a node is in, and so is one whose first assignment is due.
pub record HomesIn (past : List Rec) : Type 0 where
  pub homes : (c : ℕ) → is_some (home_told past c) ≡ true → is_in past c ≡ true
  pub due : (c : ℕ) → audit_due_behind (audit_last_of past) ≡ Some c → is_in past c ≡ true

-- what each record makes of one connection
home-behind : (past : List Rec) (r : Rec) (c : ℕ) → home_told (past ++ r ∷ []) c ≡ home_step c (home_told past c) r
home-behind past r c = fold-append (home_step c) None past (r ∷ [])

in-behind : (past : List Rec) (r : Rec) (c : ℕ) → is_in (past ++ r ∷ []) c ≡ in_step c (is_in past c) r
in-behind past r c = fold-append (in_step c) false past (r ∷ [])

-- the connection that is due has this number
due-is : (o : Option ℕ) (d r : ℕ) (path : List ℕ) (n : ℕ) (add remove : Option ℕ) → MayPair o (rec.AssignedFirst d r path n add remove) → o ≡ Some d
due-is None d r path n add remove h = absurd h
due-is (Some c) d r path n add remove h = ap Some (sym (eqb-true d c h))

-- with a node behind the record, it is in behind the record
abbrev Goes : ℕ → Option ℕ → Bool → Rec → Type 0
Goes c h i r = is_some (home_step c h r) ≡ true → in_step c i r ≡ true

keeps-in : (c : ℕ) (h : Option ℕ) (i : Bool) (o : Option ℕ) (r : Rec) → (is_some h ≡ true → i ≡ true) → ((d : ℕ) → o ≡ Some d → d ≡ c → i ≡ true) → MayPair o r → Goes c h i r
keeps-in c h i o (rec.Admitted d) was due may = go (nat_eq d c) where
  go : (b : Bool) → is_some h ≡ true → cond b true i ≡ true
  go true some = refl
  go false some = was some
keeps-in c h i o (rec.Released d) was due may = go (nat_eq d c) where
  go : (b : Bool) → is_some (cond b None h) ≡ true → cond b false i ≡ true
  go true some = let no : false ≡ true = some in absurd cc
  go false some = was some
keeps-in c h i o (rec.AssignedFirst d r path n add remove) was due may = go (nat_eq d c) refl where
  go : (b : Bool) → nat_eq d c ≡ b → is_some (cond b (Some n) h) ≡ true → i ≡ true
  go true same some = due d (due-is o d r path n add remove may) (eqb-true d c same)
  go false other some = was some
keeps-in c h i o _ was due may = was

-- who is due is in
due-in : (c : ℕ) (i : Bool) (r : Rec) → due_by r ≡ Some c → in_step c i r ≡ true
due-in c i (rec.Admitted d) e =
    let same : d ≡ c = cc in
    ap (λ (b : Bool). cond b true i) (ap (λ (k : ℕ). nat_eq k c) same ∙ same_number c)
due-in c i _ e = absurd cc

homes-on : (past : List Rec) (r : Rec) → HomesIn past → PairsAt past r → HomesIn (past ++ r ∷ [])
homes-on past r h may = record {
  homes = λ c some. in-behind past r c
      ∙ keeps-in c (home_told past c) (is_in past c) (audit_due_behind (audit_last_of past)) r (h.homes c) (λ d is same. subst (λ (k : ℕ). is_in past k ≡ true) same (h.due d is)) may
      (sym (ap is_some (home-behind past r c)) ∙ some);
  due = λ c is. in-behind past r c ∙ due-in c (is_in past c) r (sym (ap audit_due_behind (last-behind past r)) ∙ is);
}

homes-each : (past rs : List Rec) → HomesIn past → EachMay PairsAt past rs → EachMay (λ past r. HomesIn past) past rs
homes-each past [] h e = tt
homes-each past (r ∷ rs) h e = (h, homes-each (past ++ r ∷ []) rs (homes-on past r h e.0) e.1)

pub homes-in : (J : List Rec) → EachMay PairsAt [] J → EachMay (λ past r. HomesIn past) [] J
homes-in J e = homes-each [] J (record { homes = λ c some. let no : false ≡ true = some in absurd cc; due = λ c is. let no : None ≡ Some c = is in absurd cc }) e
