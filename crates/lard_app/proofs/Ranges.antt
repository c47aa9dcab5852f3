-- What the lines of a text give to a run is in range: its events, its files and its configuration.
use Rattle.std.proofs.Common.{◌≡◌, ℕ, zero, suc, ◌+◌, ◌-◌, ◌≤◌, ◌<◌, ◌^◌, List, [], ◌∷◌, ◌++◌, length, replicate, Bool, true, false, cond, Result, Ok, Err, inl, inr, refl, sym, subst, arith, nat_eq, nat_le, nat_lt, ◌&&◌}
use Rattle.std.proofs.lemmas.Bool.{and_parts}
use Rattle.std.proofs.lemmas.Bool.Decides.{nat_tests}
use Rattle.std.specs.List.{list_all}
use Rattle.hex.proofs.HexLemmas.{decode_of-ok}
use Rattle.hex.specs.Hex.{IsBytes}
use Rattle.lard_law_view.specs.Prelude.{Config, Event, FileFault, IsConfigInRange, IsFileInRange, IsNumber, IsPlaceInRange, IsUnspaced, Key, Machine, Place, add_check, checked_from, config_check, first_fault, is_in_range, value_of}
use Rattle.lard_base.specs.declared.config.ConfigFault.TheVariants.{Range}
use Rattle.lard_base.specs.declared.config.Key.TheVariants.{Nodes, Low, High, Age, Idle, Over, Miss, Cache, Stream}
use Rattle.lard_base.specs.declared.event.Event.TheVariants as event
use Rattle.lard_base.specs.declared.place.Place.TheVariants as place
use Rattle.lard_audit_run.specs.Reports.{MayBeAdded}
use Rattle.lard_law_audit.proofs.Adding.{added-told}
use Rattle.lard_laws.specs.Records.{IsRunFile, IsScheduled}
use Rattle.lard_report.specs.Formed.{IsEventFormed}
use Rattle.lard_files.specs.declared.fault.FileFault.TheVariants as file_fault
use Rattle.lard_history.proofs.Each.{Each, Each-weaker}
use Rattle.lard_law_view.proofs.ByteLists.{AreBytes, bytes-index, each-all}
use Rattle.lard_schedule.specs.Events.{IsInLineRange, IsPlace, IsUpTo, is_path, is_visible}
use Rattle.lard_schedule.specs.Files.{is_file_path}
use Rattle.lard_schedule.specs.Laws.{HasBytes, Spells, SpellsFile}
use Rattle.lard_app.specs.Replay.{file_sizes}

-- ---- a configuration that was checked

-- the number of one key, and the keys behind it
key_checked : (c : Config) (key : Key) (keys : List Key) → checked_from c (key ∷ keys) ≡ Ok tt → (is_in_range key (value_of c key) ≡ true) × (checked_from c keys ≡ Ok tt)
key_checked c key keys e = go (is_in_range key (value_of c key)) refl e where
  go : (b : Bool) → is_in_range key (value_of c key) ≡ b → cond b (checked_from c keys) (Err (Range key (value_of c key))) ≡ Ok tt → (is_in_range key (value_of c key) ≡ true) × (checked_from c keys ≡ Ok tt)
  go true t h = (t, h)
  go false t h = cc

-- the upper bound of a range
at_most : (least most value : ℕ) → (nat_le least value && nat_le value most) ≡ true → value ≤ most
at_most least most value h = grind (arith, nat_tests, h)

-- all nine numbers
pub config_checked : (c : Config) → config_check c ≡ Ok tt → IsConfigInRange c × (c.stream ≤ 2 ^ 30)
config_checked c e =
    let first = key_checked c Nodes (Low ∷ High ∷ Age ∷ Idle ∷ Over ∷ Miss ∷ Cache ∷ Stream ∷ []) e in
    let second = key_checked c Low (High ∷ Age ∷ Idle ∷ Over ∷ Miss ∷ Cache ∷ Stream ∷ []) first.1 in
    let third = key_checked c High (Age ∷ Idle ∷ Over ∷ Miss ∷ Cache ∷ Stream ∷ []) second.1 in
    let fourth = key_checked c Age (Idle ∷ Over ∷ Miss ∷ Cache ∷ Stream ∷ []) third.1 in
    let fifth = key_checked c Idle (Over ∷ Miss ∷ Cache ∷ Stream ∷ []) fourth.1 in
    let sixth = key_checked c Over (Miss ∷ Cache ∷ Stream ∷ []) fifth.1 in
    let seventh = key_checked c Miss (Cache ∷ Stream ∷ []) sixth.1 in
    let eighth = key_checked c Cache (Stream ∷ []) seventh.1 in
    let ninth = key_checked c Stream [] eighth.1 in
    let nodes = at_most 1 64 c.nodes first.0 in
    let low = at_most 1 1000 c.low second.0 in
    let high = at_most 1 1000 c.high third.0 in
    let age = at_most 0 (2 ^ 32 - 1) c.age fourth.0 in
    let idle = at_most 0 1000000 c.idle fifth.0 in
    let over = at_most 0 1000000 c.over sixth.0 in
    let miss = at_most 0 1000000 c.miss seventh.0 in
    let cache = at_most 1 (2 ^ 30) c.cache eighth.0 in
    let stream = at_most 1 (2 ^ 30) c.stream ninth.0 in (
      (omega (arith, nodes), omega (arith, low), omega (arith, high), omega (arith, age), omega (arith, idle), omega (arith, over), omega (arith, miss), omega (arith, cache), omega (arith, stream)),
      stream,
    )

-- ---- paths

-- a visible byte
abbrev IsVisible : ℕ → Type 0
IsVisible b = (32 < b) × (b < 256)

-- a byte that passes the test
visible : (b : ℕ) → is_visible b ≡ true → IsVisible b
visible b e = (grind (arith, nat_tests, e), grind (arith, nat_tests, e))

all-visible : (bs : List ℕ) → list_all is_visible bs ≡ true → Each IsVisible bs
all-visible [] e = tt
all-visible (b ∷ bs) e = let both = and_parts (is_visible b) (list_all is_visible bs) e in (visible b both.0, all-visible bs both.1)

-- a path is visible, byte by byte, so it has no space, and is made of bytes
path-visible : (path : List ℕ) → is_path path ≡ true → Each IsVisible path
path-visible [] e = tt
path-visible (b ∷ bs) e =
    let both = and_parts (nat_eq b 47 && nat_lt (length bs) 1024) (list_all is_visible bs) e in
    let slash = (and_parts (nat_eq b 47) (nat_lt (length bs) 1024) both.0).0 in
    ((grind (arith, nat_tests, slash), grind (arith, nat_tests, slash)), all-visible bs both.1)

visible-unspaced : (path : List ℕ) → Each IsVisible path → IsUnspaced path
visible-unspaced path h = each-all (λ b. 32 < b) path (Each-weaker IsVisible (λ b. 32 < b) (λ b v. v.0) path h)

visible-bytes : (path : List ℕ) → Each IsVisible path → IsBytes path
visible-bytes path h = bytes-index path (Each-weaker IsVisible (λ b. b < 256) (λ b v. v.1) path h)

-- it has as many as a path may have
path-short : (path : List ℕ) → is_path path ≡ true → (1 ≤ length path) × (length path ≤ 2 ^ 10)
path-short [] e = cc
path-short (b ∷ bs) e =
    let first = (and_parts (nat_eq b 47 && nat_lt (length bs) 1024) (list_all is_visible bs) e).0 in
    let short = (and_parts (nat_eq b 47) (nat_lt (length bs) 1024) first).1 in
    (omega arith, grind (arith, nat_tests, short))

-- ---- events

-- numbers of a range, of clients, and of 32 bits
up-to : (most n : ℕ) → most < 2 ^ 64 → IsUpTo most n → IsNumber n
up-to most n m h = let le = h.1 in omega (arith, le, m)

client : (c : ℕ) → IsUpTo 16384 c → IsNumber c
client c h = up-to 16384 c (omega arith) h

word : (n : ℕ) → n < 2 ^ 32 → IsNumber n
word n h = omega (arith, h)

-- the place of a timer
place-given : (p : Place) → IsPlace p → IsPlaceInRange p
place-given place.Front h = tt
place-given (place.Node n) h = up-to 64 n (omega arith) h
place-given (place.Client c) h = client c h

-- an event that a line can have
pub event-ranged : (e : Event) → IsInLineRange e → HasBytes e → IsScheduled e
event-ranged (event.Open c isn iss wnd mss) r b = ((client c r.0, word isn r.1, word iss r.2, up-to 65535 wnd (omega arith) r.3, up-to 1460 mss (omega arith) r.4), tt)
event-ranged (event.Get c path) r b = let v = path-visible path r.1 in ((client c r.0, visible-unspaced path v), visible-bytes path v)
event-ranged (event.Write c bytes) r b = ((client c r.0, b), tt)
event-ranged (event.Shut c) r b = (client c r, tt)
event-ranged (event.Abort c) r b = (client c r, tt)
event-ranged (event.Hold c) r b = (client c r, tt)
event-ranged (event.Take c) r b = (client c r, tt)
event-ranged (event.Deliver k) r b = (word k r, tt)
event-ranged (event.Lose k) r b = (word k r, tt)
event-ranged (event.Timer p c) r b = ((place-given p r.0, client c r.1), tt)
event-ranged (event.Disk n j) r b = ((word n r.0, word j r.1), tt)
event-ranged (event.Drain n) r b = (word n r, tt)
event-ranged (event.Clock ms) r b = (word ms r, r)
event-ranged (event.Settle rounds) r b = (word rounds r.1, tt)
event-ranged (event.Inject c bytes) r b = ((client c r.0, b), tt)

-- what words spell in hexadecimal digits are bytes
spells-bytes : (words : List (List ℕ)) (e : Event) → Spells words e → HasBytes e
spells-bytes words (event.Write c bytes) s = (decode_of-ok s.0 bytes s.2).3
spells-bytes words (event.Inject c bytes) s = (decode_of-ok s.0 bytes s.2).3
spells-bytes words _ s = tt

-- the event of a line
pub event-given : (words : List (List ℕ)) (e : Event) → Spells words e → IsInLineRange e → IsScheduled e
event-given words e s r = event-ranged e r (spells-bytes words e s)

-- has the form that a record of it must have
pub event-formed : (e : Event) → IsInLineRange e → IsEventFormed e
event-formed (event.Open c isn iss wnd mss) r = (r.3, r.4)
event-formed (event.Get c path) r = r.1
event-formed (event.Write c bytes) r = r.1
event-formed (event.Timer p c) r = r.2
event-formed (event.Clock ms) r = r
event-formed (event.Settle rounds) r = r.0
event-formed (event.Inject c bytes) r = r.1
event-formed _ r = tt

-- ---- files

-- a byte that is repeated
replicate-bytes : (n byte : ℕ) → byte < 256 → AreBytes (replicate n byte)
replicate-bytes zero byte h = tt
replicate-bytes (suc n) byte h = (h, replicate-bytes n byte h)

-- what the words of a file spell are bytes
content-bytes : (words : List (List ℕ)) (path bytes : List ℕ) → SpellsFile words path bytes → IsBytes bytes
content-bytes words path bytes (inl s) = (decode_of-ok s.0 bytes s.2).3
content-bytes words path bytes (inr (inl s)) = subst IsBytes (sym s.1) (bytes-index [] tt)
content-bytes words path bytes (inr (inr s)) = subst IsBytes (sym s.6) (bytes-index (replicate s.0 s.1) (replicate-bytes s.0 s.1 ((decode_of-ok s.2 (s.1 ∷ []) s.5).3 0)))

-- a file that may be added is not too long
short-file : (there : Bool) (count sum len : ℕ) → first_fault there count sum len ≡ Ok tt → len ≤ 2 ^ 20
short-file true count sum len e = cc
short-file false count sum len e = go (nat_lt (2 ^ 20) len) refl e where
  go : (b : Bool) → nat_lt (2 ^ 20) len ≡ b
      → cond {A = Result (Unit {0}) FileFault} b (Err (file_fault.TooLong len)) (cond (nat_lt 65536 (count + 1)) (Err (file_fault.TooMany (count + 1))) (cond (nat_lt (2 ^ 26) (sum + len)) (Err (file_fault.TooMuch (sum + len))) (Ok tt))) ≡ Ok tt → len ≤ 2 ^ 20
  go true t h = cc
  go false t h = grind (arith, nat_tests, t)

-- a file that a line can have, and which is not too long
pub file-ranged : (path bytes : List ℕ) → is_file_path path ≡ true → length bytes ≤ 2 ^ 20 → IsBytes bytes → IsRunFile (path, bytes)
file-ranged path bytes fits short are =
    let is : is_path path ≡ true = (and_parts (is_path path) _ fits).0 in
    let visible_ = path-visible path is in
    ((path-short path is, short), visible-unspaced path visible_, visible-bytes path visible_, are)

-- the file of a line, once it is added
pub file-given : (files : List (List ℕ × List ℕ)) (words : List (List ℕ)) (path bytes : List ℕ) → SpellsFile words path bytes → is_file_path path ≡ true → add_check files path (length bytes) ≡ Ok tt → IsRunFile (path, bytes)
file-given files words path bytes s fits e = file-ranged path bytes fits (short-file _ _ _ (length bytes) e) (content-bytes words path bytes s)

-- it may be added to those before, as an audit is told of them
pub file-told : (files : List (List ℕ × List ℕ)) (path bytes : List ℕ) → MayBeAdded [] (file_sizes files) → is_file_path path ≡ true → add_check files path (length bytes) ≡ Ok tt
    → MayBeAdded [] (file_sizes (files ++ (path, bytes) ∷ []))
file-told files path bytes told fits e = let most = short-file _ _ _ (length bytes) e in added-told files path bytes told fits (omega (arith, most)) e

-- ---- a replay

-- What was given before `go`, and what the machine was given, is in range.
pub record HasRanges (given : List (List ℕ × List ℕ)) (m : Machine) (es : List Event) : Type 0 where
  pub files : Each IsRunFile given
  pub config : IsConfigInRange m.config
  pub taken : Each IsRunFile m.files
  pub events : Each IsScheduled es
  pub told : MayBeAdded [] (file_sizes given)
  pub started : MayBeAdded [] (file_sizes m.files)
  pub formed : Each IsEventFormed es

-- the lines of files
pub sizes-ranges : (files : List (List ℕ × List ℕ)) → Each IsRunFile files → Each IsFileInRange (file_sizes files)
sizes-ranges [] h = tt
sizes-ranges (f ∷ fs) h = let most = h.0.0.1 in ((h.0.1, omega (arith, most)), sizes-ranges fs h.1)
