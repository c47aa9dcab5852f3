-- The books that are kept are those of the ledger, and one record more is noted.
use Rattle.std.proofs.Common.{◌≡◌, ℕ, ◌<◌, Bool, true, false, not, ◌&&◌, ◌||◌, nat_eq, nat_lt, List, [], ◌∷◌, ◌++◌, Option, Some, None, IfSome, refl, sym, ap, subst, ◌∙◌}
use Rattle.std.proofs.lemmas.Bool.{and_parts, cond_both, eqb-true}
use Rattle.std.specs.FinMap as map
use Rattle.std.specs.List.{filter}
use Rattle.lard_base.specs.Config.{room_of}
use Rattle.lard_base.specs.declared.config.Config.{Config}
use Rattle.lard_base.specs.declared.ids.Millis.{Millis}
use Rattle.lard_counts.specs.Ledger.{Ledger, ledger_admitted, blank_ledger, is_in_ledger, ledger_step}
use Rattle.lard_dispatch.specs.Calls.{joined, reduced}
use Rattle.lard_journal.specs.declared.rec.Rec.{Rec}
use Rattle.lard_journal.specs.declared.rec.Rec.TheVariants as rec
use Rattle.lard_loads.specs.Tally.{Standing, Tally, batch_ended, connected, batch_ended_with, home, released, shared, sharing, tally_closed}
use Rattle.lard_loads.specs.Tally as tally
use Rattle.lard_sets.specs.Sets.{sets_closed, touched}
use Rattle.lard_sets.specs.declared.sets.ServerSet.{ServerSet}
use Rattle.lard_audit.specs.Audit.{AreBooks}
use Rattle.lard_audit.specs.Sound.{due_by, is_first_of, keeps_admission, keeps_choice, keeps_clock, keeps_later, keeps_room}
use Rattle.lard_audit.specs.Books.{AreSound, AuditBooks, blank_books, books_step, count_in, is_inside, is_it}
use Rattle.lard_audit.proofs.Counting.{AreIn, any-times, has_home, in-admitted, in-assigned, in-begin, in-released, in-same}

inside-same : (b : AuditBooks) (l : Ledger) → AreBooks b l → (c : ℕ) → is_in_ledger l c ≡ is_inside b c
inside-same b l h c = any-times c l.ins (is_inside b c) (h.each c)

in-of : (b : AuditBooks) (l : Ledger) (due : Option ℕ) → AreBooks b l → b.due ≡ due → AreIn l.ins b.loads.standings due
in-of b l due h is = subst (AreIn l.ins b.loads.standings) is (record { many = h.many; each = h.each })

-- ---- the rules say the same of what is kept

pub admission-same : (b : AuditBooks) (l : Ledger) (cfg : Config) (due : Option ℕ) (r : Rec) → AreBooks b l → b.config ≡ cfg → due ≡ b.due
    → keeps_admission due (room_of cfg) (ledger_admitted l) (is_in_ledger l) r ≡ keeps_admission b.due (room_of b.config) (count_in b) (is_inside b) r
admission-same b l cfg due r h by is =
    ap (λ (d : Option ℕ). keeps_admission d (room_of cfg) (ledger_admitted l) (is_in_ledger l) r) is
    ∙ ap (λ (c : Config). keeps_admission b.due (room_of c) (ledger_admitted l) (is_in_ledger l) r) (sym by) ∙ go b.due r where
      go : (due : Option ℕ) (r : Rec) → keeps_admission due (room_of b.config) (ledger_admitted l) (is_in_ledger l) r ≡ keeps_admission due (room_of b.config) (count_in b) (is_inside b) r
      go (Some c) r = refl
      go None (rec.Waits c) = ap (λ (n : ℕ). nat_eq n (room_of b.config)) h.many
      go None (rec.Admitted c) = ap (λ (n : ℕ). nat_lt n (room_of b.config) && not (is_in_ledger l c)) h.many ∙ ap (λ (x : Bool). nat_lt (count_in b) (room_of b.config) && not x) (inside-same b l h c)
      go None (rec.Released c) = inside-same b l h c
      go None _ = refl

pub choice-same : (b : AuditBooks) (l : Ledger) (cfg : Config) (r : Rec) → AreBooks b l → b.config ≡ cfg
    → keeps_choice cfg l.now l.loads l.sets (is_in_ledger l) r ≡ keeps_choice b.config b.time b.loads b.sets (is_inside b) r
choice-same b l cfg r h by =
    ap (λ (c : Config). keeps_choice c l.now l.loads l.sets (is_in_ledger l) r) (sym by)
    ∙ ap (λ (t : Millis). keeps_choice b.config t l.loads l.sets (is_in_ledger l) r) h.time
    ∙ ap (λ (t : Tally). keeps_choice b.config b.time t l.sets (is_in_ledger l) r) h.loads
    ∙ ap (λ (s : List (List ℕ × ServerSet)). keeps_choice b.config b.time b.loads s (is_in_ledger l) r) h.sets
    ∙ go r where
      go : (r : Rec) → keeps_choice b.config b.time b.loads b.sets (is_in_ledger l) r ≡ keeps_choice b.config b.time b.loads b.sets (is_inside b) r
      go (rec.AssignedLater c r path n add size queue) = ap (λ (x : Bool). x && keeps_later b.config b.loads b.sets (home b.loads c) c path n add size queue) (inside-same b l h c)
      go _ = refl

pub clock-same : (b : AuditBooks) (l : Ledger) (r : Rec) → AreBooks b l → keeps_clock l.now r ≡ keeps_clock b.time r
clock-same b l r h = ap (λ (t : Millis). keeps_clock t r) h.time

-- ---- one record more

pub books-begin : (cfg : Config) → AreBooks (blank_books cfg) (blank_ledger cfg)
books-begin cfg = record { time = refl; loads = refl; sets = refl; many = in-begin.many; each = in-begin.each }

in-ended : (ins : List ℕ) (t : Tally) (due : Option ℕ) (c : ℕ) → AreIn ins t.standings due → AreIn ins (batch_ended t c).standings due
in-ended ins t due c h = go (map.get t.standings c) refl where
  go : (o : Option Standing) → map.get t.standings c ≡ o → AreIn ins (batch_ended_with t c o).standings due
  go None e = h
  go (Some s) e = in-same ins t.standings due c s _ h e

in-shared : (ins : List ℕ) (t : Tally) (due : Option ℕ) (c n size : ℕ) → AreIn ins t.standings due → AreIn ins (shared t c n size).standings due
in-shared ins t due c n size h = go (map.get t.standings c) refl where
  go : (o : Option Standing) → map.get t.standings c ≡ o → AreIn ins (sharing t c n size o).standings due
  go None e = h
  go (Some s) e = cond_both (nat_eq n s.home) t _ (λ (x : Tally). AreIn ins x.standings due) (λ _. h) (λ _. in-same ins t.standings due c s _ h e)

joined-same : (l : Ledger) (b : AuditBooks) (path : List ℕ) (add : Option ℕ) → AreBooks b l → joined (touched l.sets path) path add l.now ≡ joined (touched b.sets path) path add b.time
joined-same l b path add h =
    ap (λ (s : List (List ℕ × ServerSet)). joined (touched s path) path add l.now) h.sets ∙ ap (λ (t : Millis). joined (touched b.sets path) path add t) h.time

reduced-same : (l : Ledger) (b : AuditBooks) (path : List ℕ) (add remove : Option ℕ) → AreBooks b l
    → reduced (joined (touched l.sets path) path add l.now) path remove l.now ≡ reduced (joined (touched b.sets path) path add b.time) path remove b.time
reduced-same l b path add remove h =
    ap (λ (s : List (List ℕ × ServerSet)). reduced s path remove l.now) (joined-same l b path add h)
    ∙ ap (λ (t : Millis). reduced (joined (touched b.sets path) path add b.time) path remove t) h.time

-- where no first assignment is due
none-due : (b : AuditBooks) (l : Ledger) (r : Rec) → AreBooks b l → b.due ≡ None → keeps_room (room_of b.config) (count_in b) (is_inside b) r ≡ true → AreBooks (books_step b r) (ledger_step l r)
none-due b l (rec.Admitted c) h none keeps =
    let out : is_inside b c ≡ false = flip (is_inside b c) (and_parts (nat_lt (count_in b) (room_of b.config)) (not (is_inside b c)) keeps).1 in
    let free : (has_home b.loads.standings c || false) ≡ false = ap (λ (d : Option ℕ). has_home b.loads.standings c || is_it d c) (sym none) ∙ out in
    let a : AreIn (l.ins ++ c ∷ []) b.loads.standings (Some c) = in-admitted l.ins b.loads.standings c (in-of b l None h none) free in
    record { time = h.time; loads = h.loads; sets = h.sets; many = a.many; each = a.each } where
      flip : (x : Bool) → not x ≡ true → x ≡ false
      flip true e = sym e
      flip false e = refl
none-due b l (rec.Released c) h none keeps =
    let there : (has_home b.loads.standings c || false) ≡ true = ap (λ (d : Option ℕ). has_home b.loads.standings c || is_it d c) (sym none) ∙ keeps in
    let a : AreIn (filter (λ d. not (nat_eq c d)) l.ins) (released b.loads c).standings b.due =
    subst (AreIn (filter (λ d. not (nat_eq c d)) l.ins) (released b.loads c).standings) (sym none) (in-released l.ins b.loads.standings c (in-of b l None h none) there) in
    record { time = h.time; loads = ap (λ (t : Tally). released t c) h.loads; sets = h.sets; many = a.many; each = a.each }
none-due b l (rec.AssignedFirst c r path n add remove) h none keeps = let no : false ≡ true = keeps in absurd cc
none-due b l (rec.AssignedLater c r path n add size queue) h none keeps =
    let a : AreIn l.ins (shared b.loads c n size).standings b.due = in-shared l.ins b.loads b.due c n size (in-of b l b.due h refl) in
    record { time = h.time; loads = ap (λ (t : Tally). shared t c n size) h.loads; sets = joined-same l b path add h; many = a.many; each = a.each }
none-due b l (rec.Closed n) h none keeps =
    record { time = h.time; loads = ap (λ (t : Tally). tally_closed t n) h.loads; sets = ap (λ (s : List (List ℕ × ServerSet)). sets_closed s n) h.sets; many = h.many; each = h.each }
none-due b l (rec.BatchOver c) h none keeps =
    let a : AreIn l.ins (batch_ended b.loads c).standings b.due = in-ended l.ins b.loads b.due c (in-of b l b.due h refl) in
    record { time = h.time; loads = ap (λ (t : Tally). batch_ended t c) h.loads; sets = h.sets; many = a.many; each = a.each }
none-due b l (rec.Clock time) h none keeps = record { time = refl; loads = h.loads; sets = h.sets; many = h.many; each = h.each }
none-due b l _ h none keeps = h

-- where that of a connection is due
one-due : (b : AuditBooks) (l : Ledger) (d : ℕ) (r : Rec) → AreBooks b l → b.due ≡ Some d → map.get b.loads.standings d ≡ None → is_first_of d r ≡ true → AreBooks (books_step b r) (ledger_step l r)
one-due b l d (rec.AssignedFirst c r path n add remove) h is free keeps =
    let same : c ≡ d = eqb-true c d keeps in
    let a : AreIn l.ins (connected b.loads c n).standings None =
    in-assigned l.ins b.loads.standings c (record { home = n; shares = [] }) (in-of b l (Some c) h (is ∙ ap Some (sym same))) (ap (map.get b.loads.standings) same ∙ free) in
    record { time = h.time; loads = ap (λ (t : Tally). connected t c n) h.loads; sets = reduced-same l b path add remove h; many = a.many; each = a.each }
one-due b l d _ h is free keeps = let no : false ≡ true = keeps in absurd cc

pub books-more : (b : AuditBooks) (l : Ledger) (r : Rec) → AreBooks b l → AreSound b → keeps_admission b.due (room_of b.config) (count_in b) (is_inside b) r ≡ true → AreBooks (books_step b r) (ledger_step l r)
books-more b l r h s keeps = go b.due refl s.free keeps where
  go : (due : Option ℕ) → b.due ≡ due → IfSome due (λ c. (map.get b.loads.standings c ≡ None) × (tally.admitted b.loads < room_of b.config))
      → keeps_admission due (room_of b.config) (count_in b) (is_inside b) r ≡ true → AreBooks (books_step b r) (ledger_step l r)
  go None is free k = none-due b l r h is k
  go (Some d) is free k = one-due b l d r h is free.0 k

-- what is due behind a record
pub due-more : (b : AuditBooks) (r : Rec) → keeps_admission b.due (room_of b.config) (count_in b) (is_inside b) r ≡ true → due_by r ≡ (books_step b r).due
due-more b r keeps = go b.due r refl keeps where
  go : (due : Option ℕ) (r : Rec) → b.due ≡ due → keeps_admission due (room_of b.config) (count_in b) (is_inside b) r ≡ true → due_by r ≡ (books_step b r).due
  go None (rec.Admitted c) is k = refl
  go None (rec.AssignedFirst c r path n add remove) is k = refl
  go None _ is k = sym is
  go (Some d) (rec.AssignedFirst c r path n add remove) is k = refl
  go (Some d) _ is k = let no : false ≡ true = k in absurd cc
