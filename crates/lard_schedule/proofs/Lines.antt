-- A line stands for an item exactly where it is the sentence of words that spell it, and it may stand here.
use Rattle.std.proofs.Common.{◌≡◌, ◌↔◌, inl, inr, ℕ, ◌-◌, ◌<◌, ◌^◌, List, [], ◌∷◌, Bool, true, false, cond, Option, Some, None, refl, sym, ap, ◌∙◌, subst, arith}
use Rattle.std.specs.Prelude.{decimal, codes, bytes_eq}
use Rattle.lard_base.specs.Config.{all_keys}
use Rattle.lard_base.specs.Spelling.{key_word, sentence}
use Rattle.lard_base.specs.declared.config.Key.{Key}
use Rattle.lard_base.specs.declared.config.Key.TheVariants.{Nodes, Low, High, Age, Idle, Over, Miss, Cache, Stream}
use Rattle.lard_schedule.specs.declared.keys.Keys.{Keys}
use Rattle.lard_schedule.specs.declared.item.Item.{Item}
use Rattle.lard_schedule.specs.declared.item.Item.TheVariants as item
use Rattle.lard_schedule.specs.declared.reader.Reader.{Reader}
use Rattle.lard_schedule.specs.declared.reader.Stage.{Stage}
use Rattle.lard_schedule.specs.declared.reader.Stage.TheVariants.{Start, Settings, Files, Running}
use Rattle.lard_schedule.specs.Words.{◌>>=◌, words_of, number_then}
use Rattle.lard_schedule.specs.Events.{event_of}
use Rattle.lard_schedule.specs.Files.{file_item}
use Rattle.lard_schedule.specs.Laws.{IsBefore, IsLineOf, MayStand, SpellsFile}
use Rattle.lard_schedule.specs.Reader.{HasRange, has_key, header_of, item_at, item_of, key_of, set_once, setting_item, setting_or, value_item}
use Rattle.lard_schedule.proofs.Found.{bind_some, some_same, cond_some, ended_some, number_then_spelled, number_then_read}
use Rattle.lard_schedule.proofs.Places.{text_is}
use Rattle.lard_schedule.proofs.Readings.{event_spelled, event_read, found_passes}
use Rattle.lard_schedule.proofs.Contents.{Stands, file_item_spelled, file_read, go_read}
use Rattle.lard_schedule.proofs.Sentences.{line_words, text_back}

-- ---- a number of the configuration

key_spelled : (word : List ℕ) (key : Key) → key_of word ≡ Some key → word ≡ key_word key
key_spelled word key e = text_is _ _ (found_passes (λ k. bytes_eq word (key_word k)) all_keys key e)

key_read : (key : Key) → key_of (key_word key) ≡ Some key
key_read Nodes = refl
key_read Low = refl
key_read High = refl
key_read Age = refl
key_read Idle = refl
key_read Over = refl
key_read Miss = refl
key_read Cache = refl
key_read Stream = refl

value_spelled : (reader : Reader) (key : Key) (words : List (List ℕ)) (what : Item) → reader.stage ≡ Settings → has_key reader.keys key ≡ false
    → value_item key words ≡ Some what → Stands reader (key_word key ∷ words) what
unfolding value_item
value_spelled reader key words what stage new e =
    let value = bind_some (number_then (2 ^ 64 - 1) words) _ what e in
    let end = ended_some value.0.1 (item.Set key value.0.0) what value.2 in
    let spelled = number_then_spelled (2 ^ 64 - 1) words value.0 (omega arith) value.1 in
    subst (Stands reader (key_word key ∷ words)) end.1 (
      ap (λ w. key_word key ∷ w) (spelled.0 ∙ ap (λ w. decimal value.0.0 ∷ w) end.0),
      (stage, new),
      omega (arith, spelled.1),
    )

set_spelled : (reader : Reader) (key : Key) (words : List (List ℕ)) (what : Item) → reader.stage ≡ Settings → set_once reader.keys key words ≡ Some what
    → Stands reader (key_word key ∷ words) what
set_spelled reader key words what stage e = go (has_key reader.keys key) refl e where
  go : (t : Bool) → has_key reader.keys key ≡ t → cond t None (value_item key words) ≡ Some what → Stands reader (key_word key ∷ words) what
  go true f g = let none : None ≡ Some what = g in cc
  go false f g = value_spelled reader key words what stage f g

setting_spelled : (reader : Reader) (words : List (List ℕ)) (what : Item) → reader.stage ≡ Settings → setting_item reader.keys words ≡ Some what → Stands reader words what
unfolding setting_item
setting_spelled reader [] what stage e = let none : None ≡ Some what = e in cc
setting_spelled reader (word ∷ words) what stage e = go (key_of word) refl e where
  go : (o : Option Key) → key_of word ≡ o → setting_or reader.keys o words (word ∷ words) ≡ Some what → Stands reader (word ∷ words) what
  go None f g = file_item_spelled reader (word ∷ words) what (subst IsBefore (sym stage) tt) g
  go (Some key) f g = subst (λ w. Stands reader (w ∷ words) what) (sym (key_spelled word key f)) (set_spelled reader key words what stage g)

value_read : (key : Key) (value : ℕ) → value < 2 ^ 64 → value_item key (decimal value ∷ []) ≡ Some (item.Set key value)
unfolding value_item
value_read key value small = rw (number_then_read (2 ^ 64 - 1) value [] (omega arith) (omega arith)) refl

setting_read : (keys : Keys) (key : Key) (value : ℕ) → has_key keys key ≡ false → value < 2 ^ 64
    → setting_item keys (key_word key ∷ decimal value ∷ []) ≡ Some (item.Set key value)
unfolding setting_item
setting_read keys key value new small =
    ap (λ o. setting_or keys o (decimal value ∷ []) (key_word key ∷ decimal value ∷ [])) (key_read key)
    ∙ ap (λ t. cond t None (value_item key (decimal value ∷ []))) new
    ∙ value_read key value small

-- ---- a line

-- the words of the line stand here
stands_line : (reader : Reader) (line : List ℕ) (what : Item) → Stands reader (words_of line) what → IsLineOf line what × MayStand reader what × HasRange what
stands_line reader line what s = ((words_of line, sym (text_back line), s.0), s.1, s.2)

pub line_spelled : (reader : Reader) (line : List ℕ) (what : Item) → item_of reader line ≡ Some what → IsLineOf line what × MayStand reader what × HasRange what
line_spelled reader line what e = go reader.stage refl e where
  go : (s : Stage) → reader.stage ≡ s → item_at s reader.keys line ≡ Some what → IsLineOf line what × MayStand reader what × HasRange what
  go Start f g =
      let tested = cond_some (bytes_eq line (codes "lard 1")) item.Header what g in
      subst (λ x. IsLineOf line x × MayStand reader x × HasRange x) tested.1
      ((codes "lard" ∷ codes "1" ∷ [], text_is _ _ tested.0, refl), f, tt)
  go Settings f g = stands_line reader line what (setting_spelled reader (words_of line) what f g)
  go Files f g = stands_line reader line what (file_item_spelled reader (words_of line) what (subst IsBefore (sym f) tt) g)
  go Running f g =
      let event = bind_some (event_of (words_of line)) _ what g in
      let spelled = event_spelled (words_of line) event.0 event.1 in
      stands_line reader line what (subst (Stands reader (words_of line)) (some_same (item.Event event.0) what event.2) (spelled.0, f, spelled.1))

-- what stands before `go` and is no number of the configuration is read alike in both places
before_read : (keys : Keys) (line : List ℕ) (what : Item) → file_item (words_of line) ≡ Some what → setting_item keys (words_of line) ≡ file_item (words_of line)
    → (s : Stage) → IsBefore s → item_at s keys line ≡ Some what
before_read keys line what e same Start before = absurd before
before_read keys line what e same Settings before = same ∙ e
before_read keys line what e same Files before = e
before_read keys line what e same Running before = absurd before

-- a file's line does not begin with a key
file_no_key : (keys : Keys) (words : List (List ℕ)) (path bytes : List ℕ) → SpellsFile words path bytes → setting_item keys words ≡ file_item words
unfolding setting_item
file_no_key keys words path bytes (inl s) = ap (setting_item keys) s.1 ∙ ap file_item (sym s.1)
file_no_key keys words path bytes (inr (inl s)) = ap (setting_item keys) s.0 ∙ ap file_item (sym s.0)
file_no_key keys words path bytes (inr (inr s)) = ap (setting_item keys) s.3 ∙ ap file_item (sym s.3)

-- nor does `go`
go_no_key : (keys : Keys) → setting_item keys (codes "go" ∷ []) ≡ file_item (codes "go" ∷ [])
unfolding setting_item
go_no_key keys = refl

pub line_read : (reader : Reader) (line : List ℕ) (what : Item) → IsLineOf line what → MayStand reader what → HasRange what → item_of reader line ≡ Some what
line_read reader line item.Header spelled stage range =
    ap (λ s. item_at s reader.keys line) stage ∙ ap header_of (spelled.1 ∙ ap sentence spelled.2)
line_read reader line (item.Set key value) spelled may range =
    let words = line_words line spelled.0 (item.Set key value) spelled.1 spelled.2 range in
    ap (λ s. item_at s reader.keys line) may.0 ∙ ap (setting_item reader.keys) (words ∙ spelled.2) ∙ setting_read reader.keys key value may.1 range
line_read reader line (item.File path bytes) spelled before range =
    let words = line_words line spelled.0 (item.File path bytes) spelled.1 spelled.2 range in
    let here : SpellsFile (words_of line) path bytes = subst (λ w. SpellsFile w path bytes) (sym words) spelled.2 in
    before_read reader.keys line (item.File path bytes) (file_read (words_of line) path bytes here range) (file_no_key reader.keys (words_of line) path bytes here) reader.stage before
line_read reader line item.Go spelled before range =
    let words = line_words line spelled.0 item.Go spelled.1 spelled.2 range ∙ spelled.2 in
    let same : setting_item reader.keys (words_of line) ≡ file_item (words_of line) = ap (setting_item reader.keys) words ∙ go_no_key reader.keys ∙ ap file_item (sym words) in
    before_read reader.keys line item.Go (ap file_item words ∙ go_read) same reader.stage before
line_read reader line (item.Event event) spelled stage range =
    let words = line_words line spelled.0 (item.Event event) spelled.1 spelled.2 range in
    ap (λ s. item_at s reader.keys line) stage
    ∙ ap (λ o. o >>= λ e. Some (item.Event e)) (ap event_of words ∙ event_read spelled.0 event spelled.2 range)

-- ---- a line that stands for nothing

-- the line stands for no item
abbrev StandsForNone : Reader → List ℕ → Type 0
StandsForNone reader line = (what : Item) → ¬ (IsLineOf line what × MayStand reader what × HasRange what)

none_told : (reader : Reader) (line : List ℕ) → item_of reader line ≡ None → StandsForNone reader line
none_told reader line e what s = let read : item_of reader line ≡ Some what = line_read reader line what s.0 s.1 s.2 in cc

none_from : (reader : Reader) (line : List ℕ) → StandsForNone reader line → item_of reader line ≡ None
none_from reader line none = go (item_of reader line) refl where
  go : (o : Option Item) → item_of reader line ≡ o → o ≡ None
  go None f = refl
  go (Some what) f = absurd (none what (line_spelled reader line what f))

pub none_is : (reader : Reader) (line : List ℕ) → (item_of reader line ≡ None) ↔ StandsForNone reader line
none_is reader line = (none_told reader line, none_from reader line)
