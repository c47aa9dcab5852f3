-- The numbers that the causes write out are those of the rules.
use Rattle.std.proofs.Common.{◌≡◌, ℕ, ◌+◌, ◌-◌, ◌*◌, ◌^◌, ◌≤◌, ◌<◌, List, [], ◌∷◌, length, Bool, true, false, cond, Option, Some, None, Result, Ok, Err, refl, sym, ap, ◌∙◌, subst, arith, nat_eq, nat_le, nat_lt}
use Rattle.std.proofs.lemmas.Bool.Decides.{nat_tests}
use Rattle.std.specs.Prelude.{is_some}
use Rattle.lard_law_view.specs.Prelude.{AreKeysInRange, Config, ConfigFault, FileFault, Key, Rec, What, answered_bytes, checked_from, config_check, first_fault, is_in_range, limit_of, packet_bytes, range_check, room_of, sent_count, value_of}
use Rattle.lard_base.specs.declared.config.ConfigFault.TheVariants.{Range, LowHigh, NoRoom}
use Rattle.lard_base.specs.declared.config.Key.TheVariants.{Nodes, Low, High, Age, Idle, Over, Miss, Cache, Stream}
use Rattle.lard_files.specs.declared.fault.FileFault.TheVariants.{Repeated, TooLong, TooMany, TooMuch, NoMemory}
use Rattle.lard_rules.specs.declared.fault.What.TheVariants.{Input, Packets, PacketBytes, Records, Answers, Requests, Stream}
use Rattle.lard_app.specs.Causes.{DisagreesBy, HasReached, IsFit, IsWithinLimits, MayNotAdd}

-- ---- tests of numbers

is_at_most : (m n : ℕ) → nat_le m n ≡ true → m ≤ n
is_at_most m n e = grind (arith, nat_tests, e)

at_most : (m n : ℕ) → m ≤ n → nat_le m n ≡ true
at_most m n h = grind (arith, nat_tests, h)

is_more : (m n : ℕ) → nat_le m n ≡ false → n < m
is_more m n e = grind (arith, nat_tests, e)

more : (m n : ℕ) → n < m → nat_le m n ≡ false
more m n h = grind (arith, nat_tests, h)

is_less : (m n : ℕ) → nat_lt m n ≡ true → m < n
is_less m n e = grind (arith, nat_tests, e)

less : (m n : ℕ) → m < n → nat_lt m n ≡ true
less m n h = grind (arith, nat_tests, h)

is_no_less : (m n : ℕ) → nat_lt m n ≡ false → n ≤ m
is_no_less m n e = grind (arith, nat_tests, e)

no_less : (m n : ℕ) → n ≤ m → nat_lt m n ≡ false
no_less m n h = grind (arith, nat_tests, h)

-- ---- the ranges of the configuration's numbers

pub fits : (key : Key) (value : ℕ) → is_in_range key value ≡ true → IsFit key value
fits Nodes value h = (grind (arith, nat_tests, h), grind (arith, nat_tests, h))
fits Low value h = (grind (arith, nat_tests, h), grind (arith, nat_tests, h))
fits High value h = (grind (arith, nat_tests, h), grind (arith, nat_tests, h))
fits Age value h = grind (arith, nat_tests, h)
fits Idle value h = grind (arith, nat_tests, h)
fits Over value h = grind (arith, nat_tests, h)
fits Miss value h = grind (arith, nat_tests, h)
fits Cache value h = (grind (arith, nat_tests, h), grind (arith, nat_tests, h))
fits Stream value h = (grind (arith, nat_tests, h), grind (arith, nat_tests, h))

ranges : (key : Key) (value : ℕ) → IsFit key value → is_in_range key value ≡ true
ranges Nodes value h = grind (arith, nat_tests, h.0, h.1)
ranges Low value h = grind (arith, nat_tests, h.0, h.1)
ranges High value h = grind (arith, nat_tests, h.0, h.1)
ranges Age value h = grind (arith, nat_tests, h)
ranges Idle value h = grind (arith, nat_tests, h)
ranges Over value h = grind (arith, nat_tests, h)
ranges Miss value h = grind (arith, nat_tests, h)
ranges Cache value h = grind (arith, nat_tests, h.0, h.1)
ranges Stream value h = grind (arith, nat_tests, h.0, h.1)

module _ (key : Key) (value : ℕ) where
  pub range-fault : (fault : ConfigFault) → range_check key value ≡ Err fault → (fault ≡ Range key value) × ¬ (IsFit key value)
  range-fault fault e = go (is_in_range key value) refl e where
    go : (b : Bool) → is_in_range key value ≡ b → cond {A = Result (Unit {0}) ConfigFault} b (Ok tt) (Err (Range key value)) ≡ Err fault → (fault ≡ Range key value) × ¬ (IsFit key value)
    go true t h = cc
    go false t h = (cc, λ fit. let both : true ≡ false = sym (ranges key value fit) ∙ t in cc)

  pub fault-range : ¬ (IsFit key value) → range_check key value ≡ Err (Range key value)
  fault-range unfit = go (is_in_range key value) refl where
    go : (b : Bool) → is_in_range key value ≡ b → cond {A = Result (Unit {0}) ConfigFault} b (Ok tt) (Err (Range key value)) ≡ Err (Range key value)
    go true t = absurd (unfit (fits key value t))
    go false t = refl

-- ---- numbers that go together

-- no room, with what the nodes but one have
is_no_room : (others low : ℕ) → nat_eq (others + low - 1) 0 ≡ true → others + low ≤ 1
is_no_room others low e = grind (arith, nat_tests, e)

no_room : (others low : ℕ) → others + low ≤ 1 → nat_eq (others + low - 1) 0 ≡ true
no_room others low h = grind (arith, nat_tests, h)

module _ (c : Config) (ranged : AreKeysInRange c) where
  passes : (key : Key) (keys : List Key) → checked_from c (key ∷ keys) ≡ checked_from c keys
  passes key keys = ap (λ b. cond {A = Result (Unit {0}) ConfigFault} b (checked_from c keys) (Err (Range key (value_of c key)))) (ranged key)

  all_pass : config_check c ≡ checked_from c []
  all_pass =
      passes Nodes (Low ∷ High ∷ Age ∷ Idle ∷ Over ∷ Miss ∷ Cache ∷ Stream ∷ []) ∙ passes Low (High ∷ Age ∷ Idle ∷ Over ∷ Miss ∷ Cache ∷ Stream ∷ [])
      ∙ passes High (Age ∷ Idle ∷ Over ∷ Miss ∷ Cache ∷ Stream ∷ []) ∙ passes Age (Idle ∷ Over ∷ Miss ∷ Cache ∷ Stream ∷ [])
      ∙ passes Idle (Over ∷ Miss ∷ Cache ∷ Stream ∷ []) ∙ passes Over (Miss ∷ Cache ∷ Stream ∷ []) ∙ passes Miss (Cache ∷ Stream ∷ []) ∙ passes Cache (Stream ∷ [])
      ∙ passes Stream []

  fault_of : (known fault : ConfigFault) → DisagreesBy c known → ◌≡◌ {A = Result (Unit {0}) ConfigFault} (Err known) (Err fault) → DisagreesBy c fault
  fault_of known fault d e = let same : known ≡ fault = cc in subst (DisagreesBy c) same d

  pub check-fault : (fault : ConfigFault) → config_check c ≡ Err fault → DisagreesBy c fault
  check-fault fault e = go (nat_lt c.high c.low) (nat_eq (room_of c) 0) refl refl (sym all_pass ∙ e) where
    go : (b d : Bool) → nat_lt c.high c.low ≡ b → nat_eq (room_of c) 0 ≡ d → cond {A = Result (Unit {0}) ConfigFault} b (Err (LowHigh c.low c.high)) (cond d (Err NoRoom) (Ok tt)) ≡ Err fault → DisagreesBy c fault
    go true d p q h = fault_of (LowHigh c.low c.high) fault (refl, refl, is_less c.high c.low p) h
    go false true p q h = fault_of NoRoom fault (is_no_less c.high c.low p, is_no_room ((c.nodes - 1) * c.high) c.low q) h
    go false false p q h = cc

  pub fault-check : (fault : ConfigFault) → DisagreesBy c fault → config_check c ≡ Err fault
  fault-check (Range key value) d = absurd d
  fault-check (LowHigh low high) d =
      all_pass ∙ ap (λ b. cond {A = Result (Unit {0}) ConfigFault} b (Err (LowHigh c.low c.high)) (cond (nat_eq (room_of c) 0) (Err NoRoom) (Ok tt))) (less c.high c.low (subst (λ n. n < c.low) d.1 (subst (λ n. high < n) d.0 d.2)))
      ∙ ap (λ n. Err (LowHigh n c.high)) (sym d.0) ∙ ap (λ n. Err (LowHigh low n)) (sym d.1)
  fault-check NoRoom d =
      all_pass ∙ ap (λ b. cond {A = Result (Unit {0}) ConfigFault} b (Err (LowHigh c.low c.high)) (cond (nat_eq (room_of c) 0) (Err NoRoom) (Ok tt))) (no_less c.high c.low d.0)
      ∙ ap (λ b. cond {A = Result (Unit {0}) ConfigFault} b (Err NoRoom) (Ok tt)) (no_room ((c.nodes - 1) * c.high) c.low d.1)

-- ---- limits

module _ (J : List Rec) where
  -- the limit that the rules find
  abbrev pub found_limit : Option What
  found_limit = limit_of (sent_count J) (packet_bytes J) (length J) (answered_bytes J)

  limit_tests : (p q r t : Bool) → nat_le 1000000 (sent_count J) ≡ p → nat_le (2 ^ 29) (packet_bytes J) ≡ q → nat_le 4000000 (length J) ≡ r → nat_le (2 ^ 29) (answered_bytes J) ≡ t
      → found_limit ≡ cond p (Some Packets) (cond q (Some PacketBytes) (cond r (Some Records) (cond t (Some Answers) None)))
  limit_tests p q r t a b c d = rw (a, b, c, d, limit_of) refl

  of_limit : (known w : What) → HasReached J known → ◌≡◌ {A = Option What} (Some known) (Some w) → HasReached J w
  of_limit known w h e = let same : known ≡ w = cc in subst (HasReached J) same h

  pub limit-reached : (w : What) → found_limit ≡ Some w → HasReached J w
  limit-reached w e = go (nat_le 1000000 (sent_count J)) (nat_le (2 ^ 29) (packet_bytes J)) (nat_le 4000000 (length J)) (nat_le (2 ^ 29) (answered_bytes J)) refl refl refl refl e where
    go : (p q r t : Bool) → nat_le 1000000 (sent_count J) ≡ p → nat_le (2 ^ 29) (packet_bytes J) ≡ q → nat_le 4000000 (length J) ≡ r → nat_le (2 ^ 29) (answered_bytes J) ≡ t
        → cond p (Some Packets) (cond q (Some PacketBytes) (cond r (Some Records) (cond t (Some Answers) None))) ≡ Some w → HasReached J w
    go true q r t a b c d h = of_limit Packets w (is_at_most 1000000 (sent_count J) a) h
    go false true r t a b c d h = of_limit PacketBytes w (is_more 1000000 (sent_count J) a, is_at_most (2 ^ 29) (packet_bytes J) b) h
    go false false true t a b c d h = of_limit Records w (is_more 1000000 (sent_count J) a, is_more (2 ^ 29) (packet_bytes J) b, is_at_most 4000000 (length J) c) h
    go false false false true a b c d h =
        of_limit Answers w (is_more 1000000 (sent_count J) a, is_more (2 ^ 29) (packet_bytes J) b, is_more 4000000 (length J) c, is_at_most (2 ^ 29) (answered_bytes J) d) h
    go false false false false a b c d h = cc

  pub none-reached : found_limit ≡ None → IsWithinLimits J
  none-reached e = go (nat_le 1000000 (sent_count J)) (nat_le (2 ^ 29) (packet_bytes J)) (nat_le 4000000 (length J)) (nat_le (2 ^ 29) (answered_bytes J)) refl refl refl refl e where
    go : (p q r t : Bool) → nat_le 1000000 (sent_count J) ≡ p → nat_le (2 ^ 29) (packet_bytes J) ≡ q → nat_le 4000000 (length J) ≡ r → nat_le (2 ^ 29) (answered_bytes J) ≡ t
        → cond p (Some Packets) (cond q (Some PacketBytes) (cond r (Some Records) (cond t (Some Answers) None))) ≡ None → IsWithinLimits J
    go true q r t a b c d h = cc
    go false true r t a b c d h = cc
    go false false true t a b c d h = cc
    go false false false true a b c d h = cc
    go false false false false a b c d h = (is_more 1000000 (sent_count J) a, is_more (2 ^ 29) (packet_bytes J) b, is_more 4000000 (length J) c, is_more (2 ^ 29) (answered_bytes J) d)

  pub within-none : IsWithinLimits J → found_limit ≡ None
  within-none h = limit_tests false false false false (more 1000000 (sent_count J) h.0) (more (2 ^ 29) (packet_bytes J) h.1) (more 4000000 (length J) h.2) (more (2 ^ 29) (answered_bytes J) h.3)

  pub reached-limit : (w : What) → HasReached J w → found_limit ≡ Some w
  reached-limit Packets h = limit_tests true (nat_le (2 ^ 29) (packet_bytes J)) (nat_le 4000000 (length J)) (nat_le (2 ^ 29) (answered_bytes J)) (at_most 1000000 (sent_count J) h) refl refl refl
  reached-limit PacketBytes h = limit_tests false true (nat_le 4000000 (length J)) (nat_le (2 ^ 29) (answered_bytes J)) (more 1000000 (sent_count J) h.0) (at_most (2 ^ 29) (packet_bytes J) h.1) refl refl
  reached-limit Records h = limit_tests false false true (nat_le (2 ^ 29) (answered_bytes J)) (more 1000000 (sent_count J) h.0) (more (2 ^ 29) (packet_bytes J) h.1) (at_most 4000000 (length J) h.2) refl
  reached-limit Answers h = limit_tests false false false true (more 1000000 (sent_count J) h.0) (more (2 ^ 29) (packet_bytes J) h.1) (more 4000000 (length J) h.2) (at_most (2 ^ 29) (answered_bytes J) h.3)
  reached-limit Input h = absurd h
  reached-limit Requests h = absurd h
  reached-limit Stream h = absurd h

-- ---- files

module _ (there : Option (List ℕ)) (count sum len : ℕ) where
  of_fault : (known fault : FileFault) → MayNotAdd there count sum len known → ◌≡◌ {A = Result (Unit {0}) FileFault} (Err known) (Err fault) → MayNotAdd there count sum len fault
  of_fault known fault h e = let same : known ≡ fault = cc in subst (MayNotAdd there count sum len) same h

  is_none : is_some there ≡ false → there ≡ None
  is_none e = go there refl where
    go : (o : Option (List ℕ)) → there ≡ o → o ≡ None
    go None f = refl
    go (Some bytes) f = let both : is_some (Some bytes) ≡ false = ap is_some (sym f) ∙ e in cc

  fault_tests : (o p q r : Bool) → is_some there ≡ o → nat_lt (2 ^ 20) len ≡ p → nat_lt 65536 (count + 1) ≡ q → nat_lt (2 ^ 26) (sum + len) ≡ r
      → first_fault (is_some there) count sum len ≡ cond o (Err Repeated) (cond p (Err (TooLong len)) (cond q (Err (TooMany (count + 1))) (cond r (Err (TooMuch (sum + len))) (Ok tt))))
  fault_tests o p q r a b c d = rw (a, b, c, d, first_fault) refl

  pub file-fault : (fault : FileFault) → first_fault (is_some there) count sum len ≡ Err fault → MayNotAdd there count sum len fault
  file-fault fault e = go (is_some there) (nat_lt (2 ^ 20) len) (nat_lt 65536 (count + 1)) (nat_lt (2 ^ 26) (sum + len)) refl refl refl refl e where
    go : (o p q r : Bool) → is_some there ≡ o → nat_lt (2 ^ 20) len ≡ p → nat_lt 65536 (count + 1) ≡ q → nat_lt (2 ^ 26) (sum + len) ≡ r
        → ◌≡◌ {A = Result (Unit {0}) FileFault} (cond o (Err Repeated) (cond p (Err (TooLong len)) (cond q (Err (TooMany (count + 1))) (cond r (Err (TooMuch (sum + len))) (Ok tt))))) (Err fault)
        → MayNotAdd there count sum len fault
    go true p q r a b c d h = of_fault Repeated fault a h
    go false true q r a b c d h = of_fault (TooLong len) fault (is_none a, refl, is_less (2 ^ 20) len b) h
    go false false true r a b c d h = of_fault (TooMany (count + 1)) fault (is_none a, is_no_less (2 ^ 20) len b, refl, is_less 65536 (count + 1) c) h
    go false false false true a b c d h =
        of_fault (TooMuch (sum + len)) fault (is_none a, is_no_less (2 ^ 20) len b, is_no_less 65536 (count + 1) c, refl, is_less (2 ^ 26) (sum + len) d) h
    go false false false false a b c d h = cc

  pub fault-file : (fault : FileFault) → MayNotAdd there count sum len fault → first_fault (is_some there) count sum len ≡ Err fault
  fault-file Repeated h = fault_tests true (nat_lt (2 ^ 20) len) (nat_lt 65536 (count + 1)) (nat_lt (2 ^ 26) (sum + len)) h refl refl refl
  fault-file (TooLong n) h =
      fault_tests false true (nat_lt 65536 (count + 1)) (nat_lt (2 ^ 26) (sum + len)) (ap is_some h.0) (less (2 ^ 20) len h.2) refl refl ∙ ap (λ m. Err (TooLong m)) (sym h.1)
  fault-file (TooMany n) h =
      fault_tests false false true (nat_lt (2 ^ 26) (sum + len)) (ap is_some h.0) (no_less (2 ^ 20) len h.1) (less 65536 (count + 1) h.3) refl ∙ ap (λ m. Err (TooMany m)) (sym h.2)
  fault-file (TooMuch n) h =
      fault_tests false false false true (ap is_some h.0) (no_less (2 ^ 20) len h.1) (no_less 65536 (count + 1) h.2) (less (2 ^ 26) (sum + len) h.4) ∙ ap (λ m. Err (TooMuch m)) (sym h.3)
  fault-file NoMemory h = absurd h
