-- The numbers that the causes write out are those of the rules.
use Rattle.std.proofs.Common.{◌≡◌, ℕ, ◌+◌, ◌-◌, ◌*◌, ◌^◌, ◌≤◌, ◌<◌, List, [], ◌∷◌, Bool, true, false, cond, Option, Some, None, Result, Ok, Err, refl, sym, ap, ◌∙◌, subst, arith, nat_eq, nat_le, nat_lt}
use Rattle.std.proofs.lemmas.Bool.Decides.{nat_tests}
use Rattle.std.specs.Prelude.{IsSome, is_some}
use Rattle.lard_base.specs.Config.{AreKeysInRange, checked_from, config_check, is_in_range, range_check, room_of, set_key, standard, value_of}
use Rattle.lard_base.specs.declared.config.Config.{Config}
use Rattle.lard_base.specs.declared.config.ConfigFault.{ConfigFault}
use Rattle.lard_base.specs.declared.config.ConfigFault.TheVariants.{Range, LowHigh, NoRoom}
use Rattle.lard_base.specs.declared.config.Key.{Key}
use Rattle.lard_base.specs.declared.config.Key.TheVariants.{Nodes, Low, High, Age, Idle, Over, Miss, Cache, Stream}
use Rattle.lard_files.specs.Files.{first_fault}
use Rattle.lard_files.specs.declared.fault.FileFault.{FileFault}
use Rattle.lard_files.specs.declared.fault.FileFault.TheVariants as file
use Rattle.lard_lab.specs.declared.event.LabEvent.{LabEvent}
use Rattle.lard_lab.specs.declared.event.LabEvent.TheVariants as event
use Rattle.lard_lab.specs.declared.event.LabFault.{LabFault}
use Rattle.lard_lab.specs.declared.event.LabFault.TheVariants as fault
use Rattle.lard_lab.specs.declared.targets.Target.{Target}
use Rattle.lard_lab.specs.Desk.{is_request_open}
use Rattle.lard_lab.specs.Lab.{State, fault_of, path_fault}
use Rattle.lard_lab.specs.Targets.{target_at}
use Rattle.lard_lab_run.specs.Causes.{DisagreesInLab, IsLabFit, IsKey, MayNotAddInLab}

-- ---- tests of numbers

is_at_most : (m n : ℕ) → nat_le m n ≡ true → m ≤ n
is_at_most m n e = grind (arith, nat_tests, e)

at_most : (m n : ℕ) → m ≤ n → nat_le m n ≡ true
at_most m n h = grind (arith, nat_tests, h)

is_less : (m n : ℕ) → nat_lt m n ≡ true → m < n
is_less m n e = grind (arith, nat_tests, e)

less : (m n : ℕ) → m < n → nat_lt m n ≡ true
less m n h = grind (arith, nat_tests, h)

is_no_less : (m n : ℕ) → nat_lt m n ≡ false → n ≤ m
is_no_less m n e = grind (arith, nat_tests, e)

no_less : (m n : ℕ) → n ≤ m → nat_lt m n ≡ false
no_less m n h = grind (arith, nat_tests, h)

-- ---- the ranges of the configuration's numbers

fits : (key : Key) (value : ℕ) → IsKey key → is_in_range key value ≡ true → IsLabFit key value
fits Nodes value may h = (grind (arith, nat_tests, h), grind (arith, nat_tests, h))
fits Low value may h = (grind (arith, nat_tests, h), grind (arith, nat_tests, h))
fits High value may h = (grind (arith, nat_tests, h), grind (arith, nat_tests, h))
fits Age value may h = grind (arith, nat_tests, h)
fits Idle value may h = absurd may
fits Over value may h = absurd may
fits Miss value may h = absurd may
fits Cache value may h = (grind (arith, nat_tests, h), grind (arith, nat_tests, h))
fits Stream value may h = absurd may

ranges : (key : Key) (value : ℕ) → IsLabFit key value → is_in_range key value ≡ true
ranges Nodes value h = grind (arith, nat_tests, h.0, h.1)
ranges Low value h = grind (arith, nat_tests, h.0, h.1)
ranges High value h = grind (arith, nat_tests, h.0, h.1)
ranges Age value h = grind (arith, nat_tests, h)
ranges Idle value h = absurd h
ranges Over value h = absurd h
ranges Miss value h = absurd h
ranges Cache value h = grind (arith, nat_tests, h.0, h.1)
ranges Stream value h = absurd h

module _ (key : Key) (value : ℕ) where
  pub range-fault : (known : ConfigFault) → range_check key value ≡ Err known → (known ≡ Range key value) × ¬ (IsLabFit key value)
  range-fault known e = go (is_in_range key value) refl e where
    go : (b : Bool) → is_in_range key value ≡ b → cond {A = Result (Unit {0}) ConfigFault} b (Ok tt) (Err (Range key value)) ≡ Err known → (known ≡ Range key value) × ¬ (IsLabFit key value)
    go true t h = cc
    go false t h = (cc, λ fit. let both : true ≡ false = sym (ranges key value fit) ∙ t in cc)

  pub fault-range : IsKey key → ¬ (IsLabFit key value) → range_check key value ≡ Err (Range key value)
  fault-range may unfit = go (is_in_range key value) refl where
    go : (b : Bool) → is_in_range key value ≡ b → cond {A = Result (Unit {0}) ConfigFault} b (Ok tt) (Err (Range key value)) ≡ Err (Range key value)
    go true t = absurd (unfit (fits key value may t))
    go false t = refl

-- ---- each number that the lines set, or none did, is in its range

pub standard_ranged : AreKeysInRange standard
standard_ranged Nodes = refl
standard_ranged Low = refl
standard_ranged High = refl
standard_ranged Age = refl
standard_ranged Idle = refl
standard_ranged Over = refl
standard_ranged Miss = refl
standard_ranged Cache = refl
standard_ranged Stream = refl

pub set_ranged : (c : Config) (key : Key) (value : ℕ) → AreKeysInRange c → is_in_range key value ≡ true → AreKeysInRange (set_key c key value)
set_ranged c Nodes value h e Nodes = e
set_ranged c Nodes value h e other = h other
set_ranged c Low value h e Low = e
set_ranged c Low value h e other = h other
set_ranged c High value h e High = e
set_ranged c High value h e other = h other
set_ranged c Age value h e Age = e
set_ranged c Age value h e other = h other
set_ranged c Idle value h e Idle = e
set_ranged c Idle value h e other = h other
set_ranged c Over value h e Over = e
set_ranged c Over value h e other = h other
set_ranged c Miss value h e Miss = e
set_ranged c Miss value h e other = h other
set_ranged c Cache value h e Cache = e
set_ranged c Cache value h e other = h other
set_ranged c Stream value h e Stream = e
set_ranged c Stream value h e other = h other

pub range_passed : (key : Key) (value : ℕ) → range_check key value ≡ Ok tt → is_in_range key value ≡ true
range_passed key value e = go (is_in_range key value) e where
  go : (b : Bool) → cond {A = Result (Unit {0}) ConfigFault} b (Ok tt) (Err (Range key value)) ≡ Ok tt → b ≡ true
  go true h = refl
  go false h = cc

-- ---- numbers that go together

is_no_room : (others low : ℕ) → nat_eq (others + low - 1) 0 ≡ true → others + low ≤ 1
is_no_room others low e = grind (arith, nat_tests, e)

no_room : (others low : ℕ) → others + low ≤ 1 → nat_eq (others + low - 1) 0 ≡ true
no_room others low h = grind (arith, nat_tests, h)

module _ (c : Config) (ranged : AreKeysInRange c) where
  -- how the check goes on where each number is in its range
  passes : (key : Key) (keys : List Key) → checked_from c (key ∷ keys) ≡ checked_from c keys
  passes key keys = ap (λ b. cond {A = Result (Unit {0}) ConfigFault} b (checked_from c keys) (Err (Range key (value_of c key)))) (ranged key)

  all_pass : config_check c ≡ checked_from c []
  all_pass =
      passes Nodes (Low ∷ High ∷ Age ∷ Idle ∷ Over ∷ Miss ∷ Cache ∷ Stream ∷ []) ∙ passes Low (High ∷ Age ∷ Idle ∷ Over ∷ Miss ∷ Cache ∷ Stream ∷ [])
      ∙ passes High (Age ∷ Idle ∷ Over ∷ Miss ∷ Cache ∷ Stream ∷ []) ∙ passes Age (Idle ∷ Over ∷ Miss ∷ Cache ∷ Stream ∷ [])
      ∙ passes Idle (Over ∷ Miss ∷ Cache ∷ Stream ∷ []) ∙ passes Over (Miss ∷ Cache ∷ Stream ∷ []) ∙ passes Miss (Cache ∷ Stream ∷ []) ∙ passes Cache (Stream ∷ [])
      ∙ passes Stream []

  known_fault : (known other : ConfigFault) → DisagreesInLab c known → ◌≡◌ {A = Result (Unit {0}) ConfigFault} (Err known) (Err other) → DisagreesInLab c other
  known_fault known other d e = let same : known ≡ other = cc in subst (DisagreesInLab c) same d

  pub check-fault : (known : ConfigFault) → config_check c ≡ Err known → DisagreesInLab c known
  check-fault known e = go (nat_lt c.high c.low) (nat_eq (room_of c) 0) refl refl (sym all_pass ∙ e) where
    go : (b d : Bool) → nat_lt c.high c.low ≡ b → nat_eq (room_of c) 0 ≡ d → cond {A = Result (Unit {0}) ConfigFault} b (Err (LowHigh c.low c.high)) (cond d (Err NoRoom) (Ok tt)) ≡ Err known → DisagreesInLab c known
    go true d p q h = known_fault (LowHigh c.low c.high) known (refl, refl, is_less c.high c.low p) h
    go false true p q h = known_fault NoRoom known (is_no_less c.high c.low p, is_no_room ((c.nodes - 1) * c.high) c.low q) h
    go false false p q h = cc

  pub fault-check : (known : ConfigFault) → DisagreesInLab c known → config_check c ≡ Err known
  fault-check (Range key value) d = absurd d
  fault-check (LowHigh low high) d =
      all_pass ∙ ap (λ b. cond {A = Result (Unit {0}) ConfigFault} b (Err (LowHigh c.low c.high)) (cond (nat_eq (room_of c) 0) (Err NoRoom) (Ok tt))) (less c.high c.low (subst (λ n. n < c.low) d.1 (subst (λ n. high < n) d.0 d.2)))
      ∙ ap (λ n. Err (LowHigh n c.high)) (sym d.0) ∙ ap (λ n. Err (LowHigh low n)) (sym d.1)
  fault-check NoRoom d =
      all_pass ∙ ap (λ b. cond {A = Result (Unit {0}) ConfigFault} b (Err (LowHigh c.low c.high)) (cond (nat_eq (room_of c) 0) (Err NoRoom) (Ok tt))) (no_less c.high c.low d.0)
      ∙ ap (λ b. cond {A = Result (Unit {0}) ConfigFault} b (Err NoRoom) (Ok tt)) (no_room ((c.nodes - 1) * c.high) c.low d.1)

-- ---- files

is_none : {A : Type 0} (there : Option A) → is_some there ≡ false → there ≡ None
is_none None f = refl
is_none (Some x) f = cc

module _ (there : Option Target) (count sum size : ℕ) (short : size ≤ 2 ^ 20) where
  known_file : (known other : FileFault) → MayNotAddInLab there count sum size known → ◌≡◌ {A = Result (Unit {0}) FileFault} (Err known) (Err other) → MayNotAddInLab there count sum size other
  known_file known other h e = let same : known ≡ other = cc in subst (MayNotAddInLab there count sum size) same h

  fault_tests : (o q r : Bool) → is_some there ≡ o → nat_lt 65536 (count + 1) ≡ q → nat_lt (2 ^ 26) (sum + size) ≡ r
      → first_fault (is_some there) count sum size ≡ cond o (Err file.Repeated) (cond q (Err (file.TooMany (count + 1))) (cond r (Err (file.TooMuch (sum + size))) (Ok tt)))
  fault_tests o q r a c d = let b = no_less (2 ^ 20) size short in rw (a, b, c, d, first_fault) refl

  pub file-fault : (known : FileFault) → first_fault (is_some there) count sum size ≡ Err known → MayNotAddInLab there count sum size known
  file-fault known e =
      go (is_some there) (nat_lt 65536 (count + 1)) (nat_lt (2 ^ 26) (sum + size)) refl refl refl (sym (fault_tests (is_some there) (nat_lt 65536 (count + 1)) (nat_lt (2 ^ 26) (sum + size)) refl refl refl) ∙ e) where
        go : (o q r : Bool) → is_some there ≡ o → nat_lt 65536 (count + 1) ≡ q → nat_lt (2 ^ 26) (sum + size) ≡ r
            → ◌≡◌ {A = Result (Unit {0}) FileFault} (cond o (Err file.Repeated) (cond q (Err (file.TooMany (count + 1))) (cond r (Err (file.TooMuch (sum + size))) (Ok tt)))) (Err known)
            → MayNotAddInLab there count sum size known
        go true q r a c d h = known_file file.Repeated known a h
        go false true r a c d h = known_file (file.TooMany (count + 1)) known (is_none there a, refl, is_less 65536 (count + 1) c) h
        go false false true a c d h = known_file (file.TooMuch (sum + size)) known (is_none there a, is_no_less 65536 (count + 1) c, refl, is_less (2 ^ 26) (sum + size) d) h
        go false false false a c d h = cc

  pub fault-file : (known : FileFault) → MayNotAddInLab there count sum size known → first_fault (is_some there) count sum size ≡ Err known
  fault-file file.Repeated h = fault_tests true (nat_lt 65536 (count + 1)) (nat_lt (2 ^ 26) (sum + size)) h refl refl
  fault-file (file.TooLong n) h = absurd h
  fault-file (file.TooMany n) h = fault_tests false true (nat_lt (2 ^ 26) (sum + size)) (ap is_some h.0) (less 65536 (count + 1) h.2) refl ∙ ap (λ m. Err (file.TooMany m)) (sym h.1)
  fault-file (file.TooMuch n) h = fault_tests false false true (ap is_some h.0) (no_less 65536 (count + 1) h.1) (less (2 ^ 26) (sum + size) h.3) ∙ ap (λ m. Err (file.TooMuch m)) (sym h.2)
  fault-file file.NoMemory h = absurd h

-- ---- events

-- why an event is refused
abbrev pub IsRefused : State → LabEvent → LabFault → Type 0
IsRefused s e fault.NoFile = (path : List ℕ) × (e ≡ event.Req path) × (target_at s.desk.targets path ≡ None)
IsRefused s e (fault.NotOpen i) = (e ≡ event.Done i) × (is_request_open s.desk i ≡ false)
IsRefused s e fault.Limit = (path : List ℕ) × (e ≡ event.Req path) × IsSome (target_at s.desk.targets path) × (16384 ≤ s.desk.made)
IsRefused s e fault.NoMemory = ⊥

some_fault : (s : State) (e : LabEvent) (known other : LabFault) → IsRefused s e known → ◌≡◌ {A = Option LabFault} (Some known) (Some other) → IsRefused s e other
some_fault s e known other h is = let same : known ≡ other = cc in subst (IsRefused s e) same h

path-refused : (s : State) (path : List ℕ) (f : LabFault) (o : Option Target) → target_at s.desk.targets path ≡ o → path_fault s.desk.made o ≡ Some f → IsRefused s (event.Req path) f
path-refused s path f None t e = some_fault s (event.Req path) fault.NoFile f (path, refl, t) e
path-refused s path f (Some target) t e = go (nat_le 16384 s.desk.made) refl e where
  go : (b : Bool) → nat_le 16384 s.desk.made ≡ b → cond b (Some fault.Limit) None ≡ Some f → IsRefused s (event.Req path) f
  go false p h = cc
  go true p h = some_fault s (event.Req path) fault.Limit f (path, refl, ap is_some t, is_at_most 16384 s.desk.made p) h

pub event-refused : (s : State) (e : LabEvent) (f : LabFault) → fault_of s e ≡ Some f → IsRefused s e f
unfolding fault_of
event-refused s (event.Req path) f e = path-refused s path f (target_at s.desk.targets path) refl e
event-refused s (event.Done i) f e = go (is_request_open s.desk i) refl e where
  go : (b : Bool) → is_request_open s.desk i ≡ b → cond b None (Some (fault.NotOpen i)) ≡ Some f → IsRefused s (event.Done i) f
  go false p h = some_fault s (event.Done i) (fault.NotOpen i) f (refl, p) h
  go true p h = cc
event-refused s (event.Clock ms) f e = cc

some-there : (s : State) (path : List ℕ) (o : Option Target) → target_at s.desk.targets path ≡ o → is_some o ≡ true → 16384 ≤ s.desk.made → path_fault s.desk.made o ≡ Some fault.Limit
some-there s path None t there many = cc
some-there s path (Some target) t there many = ap (λ b. cond b (Some fault.Limit) None) (at_most 16384 s.desk.made many)

pub refused-event : (s : State) (e : LabEvent) (f : LabFault) → IsRefused s e f → fault_of s e ≡ Some f
unfolding fault_of
refused-event s e fault.NoFile h = ap (fault_of s) h.1 ∙ ap (path_fault s.desk.made) h.2
refused-event s e (fault.NotOpen i) h = ap (fault_of s) h.0 ∙ ap (λ b. cond b None (Some (fault.NotOpen i))) h.1
refused-event s e fault.Limit h = ap (fault_of s) h.1 ∙ some-there s h.0 (target_at s.desk.targets h.0) refl h.2 h.3
refused-event s e fault.NoMemory h = absurd h
