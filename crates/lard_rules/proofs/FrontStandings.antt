-- Where the dispatcher has a connection, once it was called for one.
use Rattle.std.proofs.Common.{◌≡◌, ℕ, ◌==◌, ◌||◌, ◌⊎◌, Bool, true, false, cond, not, nat_eq, List, [], ◌∷◌, ◌++◌, Option, Some, None, refl, sym, ap, ◌∙◌, inl, inr}
use Rattle.std.proofs.lemmas.Bool.{cases_eq, cond_both, eq-eqb, eqb-true, ne_eqb}
use Rattle.std.specs.FinMap as table
use Rattle.lard_base.specs.declared.config.Config.{Config}
use Rattle.lard_base.specs.declared.ids.Millis.{Millis}
use Rattle.lard_dispatch.specs.declared.dispatch.Ask.{Ask}
use Rattle.lard_dispatch.specs.declared.dispatch.First.{First}
use Rattle.lard_dispatch.specs.declared.dispatch.First.TheVariants.{Go, Waits}
use Rattle.lard_dispatch.specs.declared.line.Waiting.{Waiting}
use Rattle.lard_dispatch.specs.Books.{Books, Dispatcher}
use Rattle.lard_dispatch.specs.Calls.{admitted_with, after_first, after_later, after_leave, all_shared, batch_over, choice_at, first_answer, is_full, later_choice_at, shared_with}
use Rattle.lard_dispatch.specs.Line.{line_waits, line_without}
use Rattle.lard_dispatch.proofs.Sharing.{home-ended, home-shared}
use Rattle.lard_rules.specs.FrontSound.{DispatchStanding, nowhere, dispatch_standing}
use Rattle.lard_loads.specs.Tally.{Tally, batch_ended, batch_ended_with, home, home_of, shared, sharing}
use Rattle.lard_loads.specs.Tally as tally
use Rattle.lard_table.proofs.Map.{get_inserted, get_other}

-- ---- the line

-- who comes last waits, and so does who waited
push-here : (ws : List Waiting) (w : Waiting) → line_waits (ws ++ w ∷ []) w.c ≡ true
push-here [] w = ap (λ (b : Bool). b || false) (eq-eqb w.c w.c refl)
push-here (v ∷ ws) w = ap (λ (b : Bool). v.c == w.c || b) (push-here ws w) ∙ or-true (v.c == w.c) where
  or-true : (b : Bool) → (b || true) ≡ true
  or-true true = refl
  or-true false = refl

push-other : (ws : List Waiting) (w : Waiting) (q : ℕ) → (q ≡ w.c → ⊥) → line_waits (ws ++ w ∷ []) q ≡ line_waits ws q
push-other [] w q n = ap (λ (b : Bool). b || false) (ne_eqb w.c q (λ e. n (sym e)))
push-other (v ∷ ws) w q n = ap (λ (b : Bool). v.c == q || b) (push-other ws w q n)

-- who left does not wait, and all others do as before
left-here : (ws : List Waiting) (c : ℕ) → line_waits (line_without ws c) c ≡ false
left-here [] c = refl
left-here (w ∷ ws) c = go (w.c == c) refl (left-here ws c) where
  go : (b : Bool) → (w.c == c) ≡ b → line_waits (line_without ws c) c ≡ false → line_waits (cond (not b) (w ∷ line_without ws c) (line_without ws c)) c ≡ false
  go true e later = later
  go false e later = ap (λ (b : Bool). b || line_waits (line_without ws c) c) e ∙ later

left-other : (ws : List Waiting) (c q : ℕ) → (q ≡ c → ⊥) → line_waits (line_without ws c) q ≡ line_waits ws q
left-other [] c q n = refl
left-other (w ∷ ws) c q n = go (w.c == c) refl (left-other ws c q n) where
  go : (b : Bool) → (w.c == c) ≡ b → line_waits (line_without ws c) q ≡ line_waits ws q → line_waits (cond (not b) (w ∷ line_without ws c) (line_without ws c)) q ≡ line_waits (w ∷ ws) q
  go true e later = later ∙ sym (ap (λ (b : Bool). b || line_waits ws q) (ne_eqb w.c q (λ f. n (sym f ∙ eqb-true w.c c e))))
  go false e later = ap (λ (b : Bool). w.c == q || b) later

-- the head waits, and who is no head waits as behind it
pub head-waits : (w : Waiting) (ws : List Waiting) → line_waits (w ∷ ws) w.c ≡ true
head-waits w ws = ap (λ (b : Bool). b || line_waits ws w.c) (eq-eqb w.c w.c refl)

pub behind : (w : Waiting) (ws : List Waiting) (q : ℕ) → (q ≡ w.c → ⊥) → line_waits (w ∷ ws) q ≡ line_waits ws q
behind w ws q n = ap (λ (b : Bool). b || line_waits ws q) (ne_eqb w.c q (λ e. n (sym e)))

-- ---- homes

-- a share, or none, is opened: all stay where they are
shared-home : (t : Tally) (c n size q : ℕ) → home (shared t c n size) q ≡ home t q
shared-home t c n size q = go (cases_eq q c) where
  other : (q ≡ c → ⊥) → (o : Option tally.Standing) → home (sharing t c n size o) q ≡ home t q
  other apart None = refl
  other apart (Some s) = cond_both (nat_eq n s.home) t _ (λ (x : Tally). home x q ≡ home t q) (λ _. refl) (λ _. ap home_of (get_other t.standings c q _ apart))

  go : (q ≡ c) ⊎ (q ≡ c → ⊥) → home (shared t c n size) q ≡ home t q
  go (inl e) = ap (home (shared t c n size)) e ∙ home-shared t c n size ∙ sym (ap (home t) e)
  go (inr apart) = other apart (table.get t.standings c)

ended-home : (t : Tally) (c q : ℕ) → home (batch_ended t c) q ≡ home t q
ended-home t c q = go (cases_eq q c) where
  other : (q ≡ c → ⊥) → (o : Option tally.Standing) → home (batch_ended_with t c o) q ≡ home t q
  other apart None = refl
  other apart (Some s) = ap home_of (get_other t.standings c q _ apart)

  go : (q ≡ c) ⊎ (q ≡ c → ⊥) → home (batch_ended t c) q ≡ home t q
  go (inl e) = ap (home (batch_ended t c)) e ∙ home-ended t c ∙ sym (ap (home t) e)
  go (inr apart) = other apart (table.get t.standings c)

-- ---- a first request

-- it is at the node of the choice, or in the line
abbrev pub StandsAt : ℕ → First → Dispatcher → Type 0
StandsAt c (Go choice) d = dispatch_standing d c ≡ record { home = Some choice.node; waits = false }
StandsAt c Waits d = dispatch_standing d c ≡ record { home = None; waits = true }

pub first-stands : (d : Dispatcher) (c : ℕ) (target : List ℕ) (now : Millis) → dispatch_standing d c ≡ nowhere → StandsAt c (first_answer d target now) (after_first d c target now)
first-stands d c target now free = go (is_full d) where
  go : (full : Bool) → StandsAt c (cond full Waits (Go (choice_at d.config d.books target now)))
      (cond full (record d { books = record d.books { line = d.books.line ++ record { c = c; target = target } ∷ [] } }) (record d { books = admitted_with d.config d.books c target now }))
  go true = λ i. record { home = (ap (λ (x : DispatchStanding). x.home) free) i; waits = push-here d.books.line (record { c = c; target = target }) i }
  go false = λ i. record { home = (ap home_of (get_inserted d.books.loads.standings c (record { home = (choice_at d.config d.books target now).node; shares = [] }))) i; waits = (ap (λ (x : DispatchStanding). x.waits) free) i }

pub first-others : (d : Dispatcher) (c : ℕ) (target : List ℕ) (now : Millis) (q : ℕ) → (q ≡ c → ⊥) → dispatch_standing (after_first d c target now) q ≡ dispatch_standing d q
first-others d c target now q apart = go (is_full d) where
  go : (full : Bool) → dispatch_standing (cond full (record d { books = record d.books { line = d.books.line ++ record { c = c; target = target } ∷ [] } }) (record d { books = admitted_with d.config d.books c target now })) q ≡ dispatch_standing d q
  go true = λ i. record { home = home d.books.loads q; waits = push-other d.books.line (record { c = c; target = target }) q apart i }
  go false = λ i. record { home = (ap home_of (get_other d.books.loads.standings c q (record { home = (choice_at d.config d.books target now).node; shares = [] }) apart)) i; waits = line_waits d.books.line q }

-- ---- later requests: all stand as before

abbrev at_books : ℕ → Books → DispatchStanding
at_books q b = record { home = home b.loads q; waits = line_waits b.line q }

shares-stand : (cfg : Config) (ask : Ask) (now : Millis) (q : ℕ) (ps : List (List ℕ)) (b : Books) → at_books q (all_shared cfg ask now ps b) ≡ at_books q b
shares-stand cfg ask now q [] b = refl
shares-stand cfg ask now q (p ∷ ps) b =
    shares-stand cfg ask now q ps (shared_with cfg b ask p now) ∙ (λ i. record { home = shared-home b.loads ask.c (later_choice_at cfg b ask p).node ask.size q i; waits = line_waits b.line q })

pub later-stands : (d : Dispatcher) (ask : Ask) (now : Millis) (q : ℕ) → dispatch_standing (after_later d ask now) q ≡ dispatch_standing d q
later-stands d ask now q = shares-stand d.config ask now q ask.paths (batch_over d.books ask) ∙ (λ i. record { home = ended-home d.books.loads ask.c q i; waits = line_waits d.books.line q })

-- ---- who leaves the line

pub leave-stands : (d : Dispatcher) (c : ℕ) → home d.books.loads c ≡ None → dispatch_standing (after_leave d c) c ≡ nowhere
leave-stands d c none = λ i. record { home = none i; waits = left-here d.books.line c i }

pub leave-others : (d : Dispatcher) (c q : ℕ) → (q ≡ c → ⊥) → dispatch_standing (after_leave d c) q ≡ dispatch_standing d q
leave-others d c q apart = λ i. record { home = home d.books.loads q; waits = left-other d.books.line c q apart i }
