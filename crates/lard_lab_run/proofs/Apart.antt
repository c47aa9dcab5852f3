-- No space stands in the words of a trace's line.
use Rattle.std.proofs.Common.{◌≡◌, ℕ, ◌≤◌, ◌<◌, ◌^◌, List, [], ◌∷◌, length, Bool, true, false, ◌&&◌, refl, arith}
use Rattle.std.specs.Prelude.{nat_eq, nat_lt, decimal, codes}
use Rattle.std.specs.List.{list_all}
use Rattle.std.specs.Str.Parse.{AllDigits}
use Rattle.std.proofs.lemmas.Bool.Decides.{nat_tests}
use Rattle.std.proofs.lemmas.Fmt.{decimal_is_IsNumeral}
use Rattle.std.proofs.lemmas.Str.Parse.{digit_from_value}
use Rattle.lard_base.specs.Spelling.{key_word}
use Rattle.lard_base.specs.declared.config.Key.{Key}
use Rattle.lard_base.specs.declared.config.Key.TheVariants.{Nodes, Low, High, Age, Idle, Over, Miss, Cache, Stream}
use Rattle.lard_lab.specs.declared.event.LabEvent.{LabEvent}
use Rattle.lard_lab.specs.declared.event.LabEvent.TheVariants as event
use Rattle.lard_schedule.specs.Events.{is_path, is_visible}
use Rattle.lard_schedule.specs.Files.{is_file_path, is_no_question}
use Rattle.lard_schedule.specs.Laws.{AreWords, HasNoSpace}
use Rattle.lard_schedule.specs.Words.{is_space}
use Rattle.lard_lab_run.specs.Causes.{lab_event_words, item_words}
use Rattle.lard_lab_run.specs.Items.{HasLabRange, IsLabEventInRange}
use Rattle.lard_lab_run.specs.declared.item.Item.{Item}
use Rattle.lard_lab_run.specs.declared.item.Item.TheVariants as item

no_space_digit : (b : ℕ) → 48 ≤ b → is_space b ≡ false
no_space_digit b most = grind (arith, nat_tests, most)

no_space_digits : (ds : List ℕ) → AllDigits 10 ds → HasNoSpace ds
no_space_digits [] all = tt
no_space_digits (b ∷ bs) all = (no_space_digit b (digit_from_value b all.0).0, no_space_digits bs all.1)

no_space_number : (n : ℕ) → n < 2 ^ 64 → HasNoSpace (decimal n)
no_space_number n small = no_space_digits (decimal n) (decimal_is_IsNumeral n small).0.1

no_space_visible : (bs : List ℕ) → list_all is_visible bs ≡ true → HasNoSpace bs
no_space_visible [] all = tt
no_space_visible (b ∷ bs) all = go (no_space_visible bs) (is_visible b) refl all where
  go : (list_all is_visible bs ≡ true → HasNoSpace bs) → (t : Bool) → is_visible b ≡ t → t && list_all is_visible bs ≡ true → HasNoSpace (b ∷ bs)
  go more false e f = let none : false ≡ true = f in cc
  go more true e f = let space : is_space b ≡ false = grind (arith, nat_tests, e) in (space, more f)

no_space_path : (path : List ℕ) → is_path path ≡ true → HasNoSpace path
no_space_path [] e = let none : false ≡ true = e in cc
no_space_path (b ∷ bs) e = go (nat_eq b 47) refl (nat_lt (length bs) 1024) e where
  go : (t : Bool) → nat_eq b 47 ≡ t → (s : Bool) → t && s && list_all is_visible bs ≡ true → HasNoSpace (b ∷ bs)
  go false f s g = let none : false ≡ true = g in cc
  go true f false g = let none : false ≡ true = g in cc
  go true f true g = let space : is_space b ≡ false = grind (arith, nat_tests, f) in (space, no_space_visible bs g)

no_space_file_path : (path : List ℕ) → is_file_path path ≡ true → HasNoSpace path
no_space_file_path path e = no_space_path path (go (is_path path) e) where
  go : (t : Bool) → t && list_all is_no_question path ≡ true → t ≡ true
  go true f = refl
  go false f = f

no_space_key : (key : Key) → HasNoSpace (key_word key)
no_space_key Nodes = no_space_visible (codes "nodes") refl
no_space_key Low = no_space_visible (codes "low") refl
no_space_key High = no_space_visible (codes "high") refl
no_space_key Age = no_space_visible (codes "age") refl
no_space_key Idle = no_space_visible (codes "idle") refl
no_space_key Over = no_space_visible (codes "over") refl
no_space_key Miss = no_space_visible (codes "miss") refl
no_space_key Cache = no_space_visible (codes "cache") refl
no_space_key Stream = no_space_visible (codes "stream") refl

event_apart : (e : LabEvent) → IsLabEventInRange e → AreWords (lab_event_words e)
event_apart (event.Req path) range = (no_space_visible (codes "req") refl, (no_space_path path range, tt))
event_apart (event.Done i) range = (no_space_visible (codes "done") refl, (no_space_number i (omega (arith, range)), tt))
event_apart (event.Clock ms) range = (no_space_visible (codes "clock") refl, (no_space_number ms (omega (arith, range)), tt))

pub words_apart : (x : Item) → HasLabRange x → AreWords (item_words x)
words_apart item.Header range = (no_space_visible (codes "lab") refl, (no_space_visible (codes "1") refl, tt))
words_apart (item.Set key value) range = (no_space_key key, (no_space_number value range, tt))
words_apart (item.File path size) range = (no_space_visible (codes "file") refl, (no_space_file_path path range.0, (no_space_number size (omega (arith, range.1)), tt)))
words_apart item.Go range = (no_space_visible (codes "go") refl, tt)
words_apart (item.Event e) range = event_apart e range
