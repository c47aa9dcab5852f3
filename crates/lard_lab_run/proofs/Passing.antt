-- What a line that passes was: it stood for an item, which was taken. And what it keeps.
use Rattle.std.proofs.Common.{◌≡◌, ℕ, ◌+◌, ◌^◌, ◌≤◌, ◌<◌, List, [], ◌∷◌, ◌++◌, length, Bool, true, false, cond, Option, Some, None, Result, Ok, Err, refl, sym, ap, ◌∙◌, subst, arith}
use Rattle.std.proofs.lemmas.Bool.Decides.{nat_tests}
use Rattle.std.specs.Prelude.{nat_lt}
use Rattle.lard_base.specs.Config.{config_check, range_check}
use Rattle.lard_base.specs.declared.config.ConfigFault.{ConfigFault}
use Rattle.lard_base.specs.declared.config.Key.{Key}
use Rattle.lard_base.specs.declared.limits.TheConstants.{MAX_INPUT_BYTES}
use Rattle.lard_files.specs.declared.fault.FileFault.{FileFault}
use Rattle.lard_lab.specs.declared.event.LabEvent.{LabEvent}
use Rattle.lard_lab.specs.declared.event.LabEvent.TheVariants as event
use Rattle.lard_lab.specs.declared.event.LabFault.{LabFault}
use Rattle.lard_lab.specs.declared.policy.Policy.{Policy}
use Rattle.lard_lab.specs.declared.targets.Target.{Target}
use Rattle.lard_policy.specs.declared.first.FirstChoice.{FirstChoice}
use Rattle.lard_lab.specs.Desk.{answer_at}
use Rattle.lard_lab.specs.Lab as lab
use Rattle.lard_lab.specs.Lab.{State, fault_of, requested, requested_by}
use Rattle.lard_lab.specs.Targets.{AreFresh, target_check, fresh_target, target_at}
use Rattle.lard_schedule.specs.declared.reader.Reader.{Reader}
use Rattle.lard_lab_run.specs.Causes.{StandsInLab}
use Rattle.lard_lab_run.specs.Items.{HasLabRange, IsLabEventInRange, lab_item_of}
use Rattle.lard_lab_run.specs.Trial.{IsLabSound, LabProgress, lab_begin, lab_begun, lab_config_set, lab_counted, lab_event_gain, trace_filed, lab_followed, lab_found, lab_gain, heading_gain, lab_is_past, lab_item_gain, lab_item_taken, lab_judged, lab_judged_gain, lab_moved, lab_passed, lab_taken}
use Rattle.lard_lab_run.specs.declared.end.LabEnd.{LabEnd}
use Rattle.lard_lab_run.specs.declared.end.LabEnd.TheVariants.{Limit}
use Rattle.lard_lab_run.specs.declared.end.LabLimit.TheVariants.{Input}
use Rattle.lard_lab_run.specs.declared.end.LabWhy.TheVariants as why
use Rattle.lard_lab_run.specs.declared.item.Item.{Item}
use Rattle.lard_lab_run.specs.declared.item.Item.TheVariants as item
use Rattle.lard_lab_run.proofs.Spelled.{line_spelled}

-- what a line stands for, once its place was looked up
pub judged_by : (r : Reader) (line : List ℕ) (x : Option Item) → lab_item_of r line ≡ x → lab_judged r line ≡ lab_found x
judged_by r line x i = ap lab_found i

-- what a line leads to, once it is known whether it goes past the limit
pub passed_by : (s : LabProgress) (line : List ℕ) (b : Bool) → lab_is_past s line ≡ b → lab_passed s line ≡ cond b (Err (Limit (s.lines + 1) Input)) (lab_item_taken (lab_counted s line) (lab_judged s.reader line))
unfolding lab_passed
passed_by s line b e = ap (λ t. cond {A = Result LabProgress LabEnd} t (Err (Limit (s.lines + 1) Input)) (lab_item_taken (lab_counted s line) (lab_judged s.reader line))) e

pub gain_by : (s : LabProgress) (line : List ℕ) (b : Bool) → lab_is_past s line ≡ b → lab_gain s line ≡ cond b [] (lab_judged_gain (lab_counted s line) (lab_judged s.reader line))
unfolding lab_gain
gain_by s line b e = ap (λ t. cond t [] (lab_judged_gain (lab_counted s line) (lab_judged s.reader line))) e

-- no answer is both
pub never : {A E : Type 0} (f : E) (x : A) → ◌≡◌ {A = Result A E} (Err f) (Ok x) → ⊥
never f x e = cc

-- an answer that is known
pub ok_is : {A E : Type 0} (x y : A) → ◌≡◌ {A = Result A E} (Ok x) (Ok y) → x ≡ y
ok_is x y e = cc

-- the item of a line that passed
pub record Took (s t : LabProgress) (line : List ℕ) : Type 0 where
  pub item : Item
  pub within : lab_is_past s line ≡ false
  pub stands : lab_item_of s.reader line ≡ Some item
  pub is : lab_taken (lab_followed (lab_counted s line) item) item ≡ Ok t

pub passed-took : (s t : LabProgress) (line : List ℕ) → lab_passed s line ≡ Ok t → Took s t line
passed-took s t line e = go (lab_is_past s line) (lab_item_of s.reader line) refl refl where
  go : (b : Bool) (x : Option Item) → lab_is_past s line ≡ b → lab_item_of s.reader line ≡ x → Took s t line
  go true x p i = let both : Err (Limit (s.lines + 1) Input) ≡ Ok t = sym (passed_by s line true p) ∙ e in cc
  go false None p i =
      let both : lab_item_taken (lab_counted s line) (Err why.Syntax) ≡ Ok t = ap (lab_item_taken (lab_counted s line)) (sym (judged_by s.reader line None i)) ∙ sym (passed_by s line false p) ∙ e in cc
  go false (Some x) p i = record {
    item = x;
    within = p;
    stands = i;
    is = ap (lab_item_taken (lab_counted s line)) (sym (judged_by s.reader line (Some x) i)) ∙ sym (passed_by s line false p) ∙ e;
  }

module _ (s t : LabProgress) (line : List ℕ) (k : Took s t line) where
  pub took-gain : lab_gain s line ≡ lab_item_gain (lab_followed (lab_counted s line) k.item) k.item
  took-gain = gain_by s line false k.within ∙ ap (lab_judged_gain (lab_counted s line)) (judged_by s.reader line (Some k.item) k.stands)

  pub took-stands : StandsInLab s.reader line k.item
  took-stands = line_spelled s.reader line k.item k.stands

-- ---- lines and bytes that are counted

-- both have read as many lines and bytes, of the same policy, and the reader is the same
pub record HaveRead (s t : LabProgress) : Type 0 where
  pub lines : t.lines ≡ s.lines
  pub read : t.read ≡ s.read
  pub policy : t.policy ≡ s.policy
  pub reader : t.reader ≡ s.reader

-- an item counts nothing
module _ (s t : LabProgress) where
  read_as : (u : LabProgress) → HaveRead s u → ◌≡◌ {A = Result LabProgress LabEnd} (Ok u) (Ok t) → HaveRead s t
  read_as u h e = subst (HaveRead s) (ok_is u t e) h

  set-read : (key : Key) (value : ℕ) (r : Result (Unit {0}) ConfigFault) → lab_config_set s key value r ≡ Ok t → HaveRead s t
  set-read key value (Ok u) e = read_as _ (record { lines = refl; read = refl; policy = refl; reader = refl }) e
  set-read key value (Err fault) e = cc

  filed-read : (path : List ℕ) (size : ℕ) (r : Result (Unit {0}) FileFault) → trace_filed s path size r ≡ Ok t → HaveRead s t
  filed-read path size (Ok u) e = read_as _ (record { lines = refl; read = refl; policy = refl; reader = refl }) e
  filed-read path size (Err fault) e = cc

  begun-read : (r : Result (Unit {0}) ConfigFault) → lab_begun s r ≡ Ok t → HaveRead s t
  begun-read (Ok u) e = read_as _ (record { lines = refl; read = refl; policy = refl; reader = refl }) e
  begun-read (Err fault) e = cc

  moved-read : (e : LabEvent) (f : Option LabFault) → lab_moved s e f ≡ Ok t → HaveRead s t
  moved-read e None is = read_as _ (record { lines = refl; read = refl; policy = refl; reader = refl }) is
  moved-read e (Some fault) is = cc

  pub taken-read : (x : Item) → lab_taken s x ≡ Ok t → HaveRead s t
  taken-read item.Header e = read_as s (record { lines = refl; read = refl; policy = refl; reader = refl }) e
  taken-read (item.Set key value) e = set-read key value (range_check key value) e
  taken-read (item.File path size) e = filed-read path size (target_check s.targets path size) e
  taken-read item.Go e = begun-read (config_check s.config) e
  taken-read (item.Event d) e = moved-read d (fault_of s.lab d) e

-- a line that passes is counted
pub passed-read : (s t : LabProgress) (line : List ℕ) → lab_passed s line ≡ Ok t → (t.lines ≡ s.lines + 1) × (t.read ≡ s.read + length line + 1)
passed-read s t line e = let k = passed-took s t line e in let h = taken-read (lab_followed (lab_counted s line) k.item) t k.item k.is in (h.lines, h.read)

-- ---- nothing is written of a line that ends the lab

module _ (s : LabProgress) where
  begun-nothing : (r : Result (Unit {0}) ConfigFault) (end : LabEnd) → lab_begun s r ≡ Err end → heading_gain s r ≡ []
  begun-nothing (Ok u) end e = absurd (never _ _ (sym e))
  begun-nothing (Err fault) end e = refl

  moved-nothing : (d : LabEvent) (f : Option LabFault) (end : LabEnd) → lab_moved s d f ≡ Err end → lab_event_gain s d f ≡ []
  moved-nothing d None end e = absurd (never _ _ (sym e))
  moved-nothing d (Some fault) end e = refl

  taken-nothing : (x : Item) (end : LabEnd) → lab_taken s x ≡ Err end → lab_item_gain s x ≡ []
  taken-nothing item.Header end e = refl
  taken-nothing (item.Set key value) end e = refl
  taken-nothing (item.File path size) end e = refl
  taken-nothing item.Go end e = begun-nothing (config_check s.config) end e
  taken-nothing (item.Event d) end e = moved-nothing d (fault_of s.lab d) end e

pub refused-nothing : (s : LabProgress) (line : List ℕ) (end : LabEnd) → lab_passed s line ≡ Err end → lab_gain s line ≡ []
refused-nothing s line end e = go (lab_is_past s line) (lab_item_of s.reader line) refl refl where
  go : (b : Bool) (x : Option Item) → lab_is_past s line ≡ b → lab_item_of s.reader line ≡ x → lab_gain s line ≡ []
  go true x p i = gain_by s line true p
  go false None p i = gain_by s line false p ∙ ap (lab_judged_gain (lab_counted s line)) (judged_by s.reader line None i)
  go false (Some x) p i =
      gain_by s line false p ∙ ap (lab_judged_gain (lab_counted s line)) (judged_by s.reader line (Some x) i)
      ∙ taken-nothing (lab_followed (lab_counted s line) x) x end (ap (lab_item_taken (lab_counted s line)) (sym (judged_by s.reader line (Some x) i)) ∙ sym (passed_by s line false p) ∙ e)

-- ---- what lines keep

pub added-fresh : (targets : List (List ℕ × Target)) (path : List ℕ) (size : ℕ) → AreFresh targets → AreFresh (targets ++ (path, fresh_target size) ∷ [])
added-fresh [] path size all = (refl, tt)
added-fresh (t ∷ ts) path size all = (all.0, added-fresh ts path size all.1)

as-late : (a b : ℕ) → a ≡ b → a ≤ b + 2 ^ 32
as-late a b e = omega (arith, e)

by-time : (s : State) (path : List ℕ) (target : Target) (o : Option FirstChoice) → (requested_by s path target o).desk.time.0 ≤ s.desk.time.0 + 2 ^ 32
by-time s path target None = as-late _ _ refl
by-time s path target (Some choice) = as-late _ _ refl

request-time : (s : State) (path : List ℕ) (o : Option Target) → (requested s path o).desk.time.0 ≤ s.desk.time.0 + 2 ^ 32
request-time s path None = as-late _ _ refl
request-time s path (Some target) = by-time s path target (answer_at s.desk path target)

later-time : (a ms : ℕ) → ms < 2 ^ 32 → a + ms ≤ a + 2 ^ 32
later-time a ms small = omega (arith, small)

event-time : (s : State) (e : LabEvent) → IsLabEventInRange e → (lab.lab_after s e).desk.time.0 ≤ s.desk.time.0 + 2 ^ 32
unfolding lab.lab_after
event-time s (event.Req path) range = request-time s path (target_at s.desk.targets path)
event-time s (event.Done i) range = as-late _ _ refl
event-time s (event.Clock ms) range = later-time s.desk.time.0 ms range

-- the files are ones that no request was for, and the time is not much later
abbrev Grows : LabProgress → LabProgress → Type 0
Grows s t = AreFresh t.targets × (t.lab.desk.time.0 ≤ s.lab.desk.time.0 + 2 ^ 32)

module _ (s t : LabProgress) (all : AreFresh s.targets) where
  grows_as : (u : LabProgress) → Grows s u → ◌≡◌ {A = Result LabProgress LabEnd} (Ok u) (Ok t) → Grows s t
  grows_as u h e = subst (Grows s) (ok_is u t e) h

  set-grows : (key : Key) (value : ℕ) (r : Result (Unit {0}) ConfigFault) → lab_config_set s key value r ≡ Ok t → Grows s t
  set-grows key value (Ok u) e = grows_as _ (all, as-late _ _ refl) e
  set-grows key value (Err fault) e = cc

  filed-grows : (path : List ℕ) (size : ℕ) (r : Result (Unit {0}) FileFault) → trace_filed s path size r ≡ Ok t → Grows s t
  filed-grows path size (Ok u) e = grows_as _ (added-fresh s.targets path size all, as-late _ _ refl) e
  filed-grows path size (Err fault) e = cc

  begun-grows : (r : Result (Unit {0}) ConfigFault) → lab_begun s r ≡ Ok t → Grows s t
  begun-grows (Ok u) e = grows_as _ (tt, omega arith) e
  begun-grows (Err fault) e = cc

  moved-grows : (e : LabEvent) (f : Option LabFault) → IsLabEventInRange e → lab_moved s e f ≡ Ok t → Grows s t
  moved-grows e None range is = grows_as _ (all, event-time s.lab e range) is
  moved-grows e (Some fault) range is = cc

  taken-grows : (x : Item) → HasLabRange x → lab_taken s x ≡ Ok t → Grows s t
  taken-grows item.Header range e = grows_as s (all, as-late _ _ refl) e
  taken-grows (item.Set key value) range e = set-grows key value (range_check key value) e
  taken-grows (item.File path size) range e = filed-grows path size (target_check s.targets path size) e
  taken-grows item.Go range e = begun-grows (config_check s.config) e
  taken-grows (item.Event d) range e = moved-grows d (fault_of s.lab d) range e

is_within : (r n : ℕ) → nat_lt MAX_INPUT_BYTES (r + n + 1) ≡ false → r + n + 1 ≤ MAX_INPUT_BYTES
is_within r n o = grind (arith, nat_tests, o)

pub begin-sound : (policy : Policy) → IsLabSound (lab_begin policy)
begin-sound policy = record { lines = omega arith; read = omega arith; fresh = tt; time = omega arith }

pub passed-sound : (s t : LabProgress) (line : List ℕ) → IsLabSound s → lab_passed s line ≡ Ok t → IsLabSound t
passed-sound s t line sound e =
    let k = passed-took s t line e in
    let counts = passed-read s t line e in
    let grown = taken-grows (lab_followed (lab_counted s line) k.item) t sound.fresh k.item (took-stands s t line k).2 k.is in
    let small = is_within s.read (length line) k.within in
    record {
      lines = omega (arith, counts.0, counts.1, sound.lines);
      read = omega (arith, counts.1, small);
      fresh = grown.0;
      time = omega (arith, counts.0, grown.1, sound.time);
    }
