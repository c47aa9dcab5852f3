-- What a line that passes was: it stood for an item, which was taken.
use Rattle.std.proofs.Common.{◌≡◌, ℕ, ◌+◌, List, [], length, Bool, true, false, cond, Option, Some, None, Result, Ok, Err, refl, sym, ap, ◌∙◌, subst}
use Rattle.lard_law_view.specs.Prelude.{ConfigFault, FileFault, Key, Machine, add_check, config_check, range_check}
use Rattle.lard_rules.specs.declared.fault.What.TheVariants.{Input}
use Rattle.lard_schedule.specs.declared.item.Item.{Item}
use Rattle.lard_schedule.specs.declared.item.Item.TheVariants as item
use Rattle.lard_schedule.specs.declared.reader.Reader.{Reader}
use Rattle.lard_schedule.specs.Laws.{IsLineOf, MayStand}
use Rattle.lard_schedule.specs.Reader.{HasRange, item_of}
use Rattle.lard_schedule.proofs.Lines.{line_spelled}
use Rattle.lard_settling.specs.Events.{event_step}
use Rattle.lard_settling.specs.Settling.{Stop}
use Rattle.lard_app.specs.declared.status.Status.{Status}
use Rattle.lard_app.specs.declared.status.Status.TheVariants.{Limit}
use Rattle.lard_app.specs.declared.status.Why.TheVariants as why
use Rattle.lard_app.specs.Replay.{Progress, replay_begun, config_set, line_counted, filed, followed, item_found, gain, is_past, item_gain, item_taken, judged, judged_gain, replay_moved, line_passed, taken_item}

-- what a line stands for, once its place was looked up
pub judged_by : (r : Reader) (line : List ℕ) (x : Option Item) → item_of r line ≡ x → judged r line ≡ item_found x
judged_by r line x i = ap item_found i

-- what a line leads to, once it is known whether it goes past the limit
pub passed_by : (s : Progress) (line : List ℕ) (b : Bool) → is_past s line ≡ b → line_passed s line ≡ cond b (Err (Limit (s.lines + 1) Input)) (item_taken (line_counted s line) (judged s.reader line))
unfolding line_passed
passed_by s line b e = ap (λ t. cond {A = Result Progress Status} t (Err (Limit (s.lines + 1) Input)) (item_taken (line_counted s line) (judged s.reader line))) e

-- the item of a line that passed
pub record Took (s t : Progress) (line : List ℕ) : Type 0 where
  pub item : Item
  pub within : is_past s line ≡ false
  pub stands : item_of s.reader line ≡ Some item
  pub is : taken_item (followed (line_counted s line) item) item ≡ Ok t

pub passed-took : (s t : Progress) (line : List ℕ) → line_passed s line ≡ Ok t → Took s t line
passed-took s t line e = go (is_past s line) (item_of s.reader line) refl refl where
  go : (b : Bool) (x : Option Item) → is_past s line ≡ b → item_of s.reader line ≡ x → Took s t line
  go true x p i = let both : Err (Limit (s.lines + 1) Input) ≡ Ok t = sym (passed_by s line true p) ∙ e in cc
  go false None p i =
      let both : item_taken (line_counted s line) (Err why.Syntax) ≡ Ok t = ap (item_taken (line_counted s line)) (sym (judged_by s.reader line None i)) ∙ sym (passed_by s line false p) ∙ e in cc
  go false (Some x) p i = record {
    item = x;
    within = p;
    stands = i;
    is = ap (item_taken (line_counted s line)) (sym (judged_by s.reader line (Some x) i)) ∙ sym (passed_by s line false p) ∙ e;
  }

module _ (s t : Progress) (line : List ℕ) (k : Took s t line) where
  pub took-judged : judged s.reader line ≡ Ok k.item
  took-judged = judged_by s.reader line (Some k.item) k.stands

  pub took-gain : gain s line ≡ item_gain (followed (line_counted s line) k.item) k.item
  unfolding gain
  took-gain = ap (λ b. cond b [] (judged_gain (line_counted s line) (judged s.reader line))) k.within ∙ ap (judged_gain (line_counted s line)) took-judged

  pub took-fits : IsLineOf line k.item × MayStand s.reader k.item × HasRange k.item
  took-fits = line_spelled s.reader line k.item k.stands

-- ---- lines and bytes that are counted

-- no answer is both
pub never : {A E : Type 0} (f : E) (x : A) → ◌≡◌ {A = Result A E} (Err f) (Ok x) → ⊥
never f x e = cc

-- an answer that is known
pub ok_is : {A E : Type 0} (x y : A) → ◌≡◌ {A = Result A E} (Ok x) (Ok y) → x ≡ y
ok_is x y e = cc

-- both have read as many lines and bytes
abbrev pub HaveRead : Progress → Progress → Type 0
HaveRead s t = (t.lines ≡ s.lines) × (t.read ≡ s.read)

-- an item counts nothing
module _ (s t : Progress) where
  read_as : (u : Progress) → HaveRead s u → ◌≡◌ {A = Result Progress Status} (Ok u) (Ok t) → HaveRead s t
  read_as u h e = subst (HaveRead s) (ok_is u t e) h

  set-read : (key : Key) (value : ℕ) (r : Result (Unit {0}) ConfigFault) → config_set s key value r ≡ Ok t → HaveRead s t
  set-read key value (Ok u) e = read_as _ (refl, refl) e
  set-read key value (Err fault) e = cc

  filed-read : (path bytes : List ℕ) (r : Result (Unit {0}) FileFault) → filed s path bytes r ≡ Ok t → HaveRead s t
  filed-read path bytes (Ok u) e = read_as _ (refl, refl) e
  filed-read path bytes (Err fault) e = cc

  begun-read : (r : Result (Unit {0}) ConfigFault) → replay_begun s r ≡ Ok t → HaveRead s t
  begun-read (Ok u) e = read_as _ (refl, refl) e
  begun-read (Err fault) e = cc

  moved-read : (r : Result Machine Stop) → replay_moved s r ≡ Ok t → HaveRead s t
  moved-read (Ok m) e = read_as _ (refl, refl) e
  moved-read (Err stop) e = cc

  taken-read : (x : Item) → taken_item s x ≡ Ok t → HaveRead s t
  taken-read item.Header e = read_as s (refl, refl) e
  taken-read (item.Set key value) e = set-read key value (range_check key value) e
  taken-read (item.File path bytes) e = filed-read path bytes (add_check s.files path (length bytes)) e
  taken-read item.Go e = begun-read (config_check s.config) e
  taken-read (item.Event d) e = moved-read (event_step s.machine d) e

-- a line that passes is counted
pub passed-read : (s t : Progress) (line : List ℕ) → line_passed s line ≡ Ok t → HaveRead (line_counted s line) t
passed-read s t line e = let k = passed-took s t line e in taken-read (followed (line_counted s line) k.item) t k.item k.is
