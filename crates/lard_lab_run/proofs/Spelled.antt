-- A line stands for an item exactly where it is the item's words, and the item may stand here.
use Rattle.std.proofs.Common.{◌≡◌, ◌↔◌, ℕ, ◌-◌, ◌<◌, ◌≤◌, ◌^◌, List, [], ◌∷◌, Bool, true, false, cond, Option, Some, None, refl, sym, ap, ◌∙◌, subst, arith}
use Rattle.std.specs.Prelude.{decimal, codes, bytes_eq}
use Rattle.lard_base.specs.Spelling.{key_word, sentence}
use Rattle.lard_base.specs.declared.config.Key.{Key}
use Rattle.lard_base.specs.declared.config.Key.TheVariants.{Nodes, Low, High, Age, Idle, Over, Miss, Cache, Stream}
use Rattle.lard_lab.specs.declared.event.LabEvent.{LabEvent}
use Rattle.lard_lab.specs.declared.event.LabEvent.TheVariants as event
use Rattle.lard_schedule.specs.declared.keys.Keys.{Keys}
use Rattle.lard_schedule.specs.declared.reader.Reader.{Reader}
use Rattle.lard_schedule.specs.declared.reader.Stage.{Stage}
use Rattle.lard_schedule.specs.declared.reader.Stage.TheVariants.{Start, Settings, Files, Running}
use Rattle.lard_schedule.specs.Events.{is_path, number_alone}
use Rattle.lard_schedule.specs.Files.{is_file_path, path_then}
use Rattle.lard_schedule.specs.Laws.{IsBefore}
use Rattle.lard_schedule.specs.Reader.{has_key}
use Rattle.lard_schedule.specs.Words.{◌>>=◌, ended, number_then, word_then, words_of}
use Rattle.lard_schedule.proofs.Found.{bind_some, cond_some, ended_some, number_alone_read, number_alone_spelled, number_then_read, number_then_spelled, some_same, word_spelled}
use Rattle.lard_schedule.proofs.Places.{text_is}
use Rattle.lard_schedule.proofs.Readings.{found_passes}
use Rattle.lard_schedule.proofs.Sentences.{sentence_words, text_back}
use Rattle.lard_lab_run.specs.Causes.{IsKey, MayStandInLab, StandsInLab, lab_event_words, item_words}
use Rattle.lard_lab_run.specs.Items.{HasLabRange, IsLabEventInRange, lab_event_of, lab_file_item, lab_file_of, lab_header_of, lab_item_at, lab_item_of, lab_key_of, keys, req_of, lab_set_of, lab_setting_of, lab_setting_or, lab_value_of, word_alone}
use Rattle.lard_lab_run.specs.declared.item.Item.{Item}
use Rattle.lard_lab_run.specs.declared.item.Item.TheVariants as item
use Rattle.lard_lab_run.proofs.Apart.{words_apart}

-- the words are those of the item, which may stand here and is in range
abbrev IsAt : Reader → List (List ℕ) → Item → Type 0
IsAt reader words x = (words ≡ item_words x) × MayStandInLab reader x × HasLabRange x

-- ---- numbers of the configuration

key_allowed : (k : Key) → lab_key_of (key_word k) ≡ Some k → IsKey k
key_allowed Nodes e = tt
key_allowed Low e = tt
key_allowed High e = tt
key_allowed Age e = tt
key_allowed Idle e = let none : None ≡ Some Idle = e in cc
key_allowed Over e = let none : None ≡ Some Over = e in cc
key_allowed Miss e = let none : None ≡ Some Miss = e in cc
key_allowed Cache e = tt
key_allowed Stream e = let none : None ≡ Some Stream = e in cc

key_spelled : (word : List ℕ) (k : Key) → lab_key_of word ≡ Some k → (word ≡ key_word k) × IsKey k
key_spelled word k e =
    let same : word ≡ key_word k = text_is _ _ (found_passes (λ j. bytes_eq word (key_word j)) keys k e) in
    (same, key_allowed k (ap lab_key_of (sym same) ∙ e))

key_read : (k : Key) → IsKey k → lab_key_of (key_word k) ≡ Some k
key_read Nodes may = refl
key_read Low may = refl
key_read High may = refl
key_read Age may = refl
key_read Idle may = absurd may
key_read Over may = absurd may
key_read Miss may = absurd may
key_read Cache may = refl
key_read Stream may = absurd may

value_spelled : (reader : Reader) (k : Key) (words : List (List ℕ)) (x : Item) → reader.stage ≡ Settings → has_key reader.keys k ≡ false → IsKey k
    → lab_value_of k words ≡ Some x → IsAt reader (key_word k ∷ words) x
unfolding lab_value_of
value_spelled reader k words x stage new may e =
    let value = bind_some (number_then (2 ^ 64 - 1) words) _ x e in
    let end = ended_some value.0.1 (item.Set k value.0.0) x value.2 in
    let spelled = number_then_spelled (2 ^ 64 - 1) words value.0 (omega arith) value.1 in
    subst (IsAt reader (key_word k ∷ words)) end.1 (
      ap (λ w. key_word k ∷ w) (spelled.0 ∙ ap (λ w. decimal value.0.0 ∷ w) end.0),
      (stage, new, may),
      omega (arith, spelled.1),
    )

set_spelled : (reader : Reader) (k : Key) (words : List (List ℕ)) (x : Item) → reader.stage ≡ Settings → IsKey k → lab_set_of reader.keys k words ≡ Some x
    → IsAt reader (key_word k ∷ words) x
set_spelled reader k words x stage may e = go (has_key reader.keys k) refl e where
  go : (t : Bool) → has_key reader.keys k ≡ t → cond t None (lab_value_of k words) ≡ Some x → IsAt reader (key_word k ∷ words) x
  go true f g = let none : None ≡ Some x = g in cc
  go false f g = value_spelled reader k words x stage f may g

-- ---- files, and `go`

path_spelled : (words : List (List ℕ)) (found : List ℕ × List (List ℕ)) → path_then words ≡ Some found → (words ≡ found.0 ∷ found.1) × (is_file_path found.0 ≡ true)
unfolding path_then
path_spelled words found e =
    let path = bind_some (word_then words) _ found e in
    let tested = cond_some (is_file_path path.0.0) path.0 found path.2 in
    subst (λ (p : List ℕ × List (List ℕ)). (words ≡ p.0 ∷ p.1) × (is_file_path p.0 ≡ true)) tested.1 (word_spelled words path.0 path.1, tested.0)

path_read : (path : List ℕ) (words : List (List ℕ)) → is_file_path path ≡ true → path_then (path ∷ words) ≡ Some (path, words)
unfolding path_then
path_read path words e = rw e refl

file_spelled : (reader : Reader) (words : List (List ℕ)) (x : Item) → IsBefore reader.stage → lab_file_of words ≡ Some x → IsAt reader (codes "file" ∷ words) x
unfolding lab_file_of
file_spelled reader words x before e =
    let path = bind_some (path_then words) _ x e in
    let size = bind_some (number_then (2 ^ 20) path.0.1) _ x path.2 in
    let end = ended_some size.0.1 (item.File path.0.0 size.0.0) x size.2 in
    let first = path_spelled words path.0 path.1 in
    let second = number_then_spelled (2 ^ 20) path.0.1 size.0 (omega arith) size.1 in
    subst (IsAt reader (codes "file" ∷ words)) end.1 (
      ap (λ w. codes "file" ∷ w) (first.0 ∙ ap (λ w. path.0.0 ∷ w) (second.0 ∙ ap (λ w. decimal size.0.0 ∷ w) end.0)),
      before,
      (first.1, second.1),
    )

file_item_spelled : (reader : Reader) (words : List (List ℕ)) (x : Item) → IsBefore reader.stage → lab_file_item words ≡ Some x → IsAt reader words x
unfolding lab_file_item
file_item_spelled reader [] x before e = let none : None ≡ Some x = e in cc
file_item_spelled reader (word ∷ words) x before e = of_file (bytes_eq word (codes "file")) refl e where
  named : (text : List ℕ) → bytes_eq word text ≡ true → IsAt reader (text ∷ words) x → IsAt reader (word ∷ words) x
  named text f s = subst (λ v. IsAt reader (v ∷ words) x) (sym (text_is word text f)) s

  of_go : (t : Bool) → bytes_eq word (codes "go") ≡ t → cond t (ended words item.Go) None ≡ Some x → IsAt reader (word ∷ words) x
  of_go false f g = let none : None ≡ Some x = g in cc
  of_go true f g =
      let end = ended_some words item.Go x g in
      named (codes "go") f (subst (IsAt reader (codes "go" ∷ words)) end.1 (ap (λ w. codes "go" ∷ w) end.0, before, tt))

  of_file : (t : Bool) → bytes_eq word (codes "file") ≡ t → cond t (lab_file_of words) (cond (bytes_eq word (codes "go")) (ended words item.Go) None) ≡ Some x → IsAt reader (word ∷ words) x
  of_file false f g = of_go (bytes_eq word (codes "go")) refl g
  of_file true f g = named (codes "file") f (file_spelled reader words x before g)

setting_spelled : (reader : Reader) (words : List (List ℕ)) (x : Item) → reader.stage ≡ Settings → lab_setting_of reader.keys words ≡ Some x → IsAt reader words x
unfolding lab_setting_of
setting_spelled reader [] x stage e = let none : None ≡ Some x = e in cc
setting_spelled reader (word ∷ words) x stage e = go (lab_key_of word) refl e where
  go : (o : Option Key) → lab_key_of word ≡ o → lab_setting_or reader.keys o words (word ∷ words) ≡ Some x → IsAt reader (word ∷ words) x
  go None f g = file_item_spelled reader (word ∷ words) x (subst IsBefore (sym stage) tt) g
  go (Some k) f g = let found = key_spelled word k f in subst (λ w. IsAt reader (w ∷ words) x) (sym found.0) (set_spelled reader k words x stage found.1 g)

-- ---- events

-- the words of an event in range
abbrev IsEvent : List (List ℕ) → LabEvent → Type 0
IsEvent words e = (words ≡ lab_event_words e) × IsLabEventInRange e

alone_spelled : (words : List (List ℕ)) (text : List ℕ) → word_alone words ≡ Some text → words ≡ text ∷ []
unfolding word_alone
alone_spelled words text e =
    let word = bind_some (word_then words) _ text e in
    let end = ended_some word.0.1 word.0.0 text word.2 in
    word_spelled words word.0 word.1 ∙ ap (λ w. word.0.0 ∷ w) end.0 ∙ ap (λ w. w ∷ []) end.1

req_spelled : (words : List (List ℕ)) (e : LabEvent) → req_of words ≡ Some e → IsEvent (codes "req" ∷ words) e
unfolding req_of
req_spelled words e is =
    let path = bind_some (word_alone words) _ e is in
    let tested = cond_some (is_path path.0) (event.Req path.0) e path.2 in
    subst (IsEvent (codes "req" ∷ words)) tested.1 (ap (λ w. codes "req" ∷ w) (alone_spelled words path.0 path.1), tested.0)

number_spelled : (make : ℕ → LabEvent) (word : List ℕ) (words : List (List ℕ)) (e : LabEvent) → ((n : ℕ) → n < 2 ^ 32 → IsEvent (word ∷ decimal n ∷ []) (make n))
    → (number_alone words >>= λ n. Some (make n)) ≡ Some e → IsEvent (word ∷ words) e
number_spelled make word words e spells is =
    let n = bind_some (number_alone words) _ e is in
    let spelled = number_alone_spelled words n.0 n.1 in
    subst (IsEvent (word ∷ words)) (some_same (make n.0) e n.2) (subst (λ w. IsEvent (word ∷ w) (make n.0)) (sym spelled.0) (spells n.0 spelled.1))

event_spelled : (words : List (List ℕ)) (e : LabEvent) → lab_event_of words ≡ Some e → IsEvent words e
unfolding lab_event_of
event_spelled [] e is = let none : None ≡ Some e = is in cc
event_spelled (word ∷ words) e is = of_req (bytes_eq word (codes "req")) refl is where
  named : (text : List ℕ) → bytes_eq word text ≡ true → IsEvent (text ∷ words) e → IsEvent (word ∷ words) e
  named text f s = subst (λ v. IsEvent (v ∷ words) e) (sym (text_is word text f)) s

  of_clock : (t : Bool) → bytes_eq word (codes "clock") ≡ t → cond t (number_alone words >>= λ ms. Some (event.Clock ms)) None ≡ Some e → IsEvent (word ∷ words) e
  of_clock false f g = let none : None ≡ Some e = g in cc
  of_clock true f g = named (codes "clock") f (number_spelled event.Clock (codes "clock") words e (λ n small. (refl, small)) g)

  of_done : (t : Bool) → bytes_eq word (codes "done") ≡ t
      → cond t (number_alone words >>= λ i. Some (event.Done i)) (cond (bytes_eq word (codes "clock")) (number_alone words >>= λ ms. Some (event.Clock ms)) None) ≡ Some e → IsEvent (word ∷ words) e
  of_done false f g = of_clock (bytes_eq word (codes "clock")) refl g
  of_done true f g = named (codes "done") f (number_spelled event.Done (codes "done") words e (λ n small. (refl, small)) g)

  of_req : (t : Bool) → bytes_eq word (codes "req") ≡ t
      → cond t (req_of words) (cond (bytes_eq word (codes "done")) (number_alone words >>= λ i. Some (event.Done i)) (cond (bytes_eq word (codes "clock")) (number_alone words >>= λ ms. Some (event.Clock ms)) None)) ≡ Some e
      → IsEvent (word ∷ words) e
  of_req false f g = of_done (bytes_eq word (codes "done")) refl g
  of_req true f g = named (codes "req") f (req_spelled words e g)

-- ---- lines

of_words : (reader : Reader) (line : List ℕ) (x : Item) → IsAt reader (words_of line) x → StandsInLab reader line x
of_words reader line x s = (sym (text_back line) ∙ ap sentence s.0, s.1, s.2)

pub line_spelled : (reader : Reader) (line : List ℕ) (x : Item) → lab_item_of reader line ≡ Some x → StandsInLab reader line x
line_spelled reader line x e = go reader.stage refl e where
  go : (s : Stage) → reader.stage ≡ s → lab_item_at s reader.keys line ≡ Some x → StandsInLab reader line x
  go Start f g =
      let tested = cond_some (bytes_eq line (codes "lab 1")) item.Header x g in
      subst (StandsInLab reader line) tested.1 (text_is _ _ tested.0, f, tt)
  go Settings f g = of_words reader line x (setting_spelled reader (words_of line) x f g)
  go Files f g = of_words reader line x (file_item_spelled reader (words_of line) x (subst IsBefore (sym f) tt) g)
  go Running f g =
      let found = bind_some (lab_event_of (words_of line)) _ x g in
      let spelled = event_spelled (words_of line) found.0 found.1 in
      of_words reader line x (subst (IsAt reader (words_of line)) (some_same (item.Event found.0) x found.2) (spelled.0, f, spelled.1))

-- ---- and back

value_read : (k : Key) (value : ℕ) → value < 2 ^ 64 → lab_value_of k (decimal value ∷ []) ≡ Some (item.Set k value)
unfolding lab_value_of
value_read k value small = rw (number_then_read (2 ^ 64 - 1) value [] (omega arith) (omega arith)) refl

setting_read : (set : Keys) (k : Key) (value : ℕ) → has_key set k ≡ false → IsKey k → value < 2 ^ 64 → lab_setting_of set (key_word k ∷ decimal value ∷ []) ≡ Some (item.Set k value)
unfolding lab_setting_of
setting_read set k value new may small =
    ap (λ o. lab_setting_or set o (decimal value ∷ []) (key_word k ∷ decimal value ∷ [])) (key_read k may)
    ∙ ap (λ t. cond t None (lab_value_of k (decimal value ∷ []))) new
    ∙ value_read k value small

file_read : (path : List ℕ) (size : ℕ) → is_file_path path ≡ true → size ≤ 2 ^ 20 → lab_file_item (codes "file" ∷ path ∷ decimal size ∷ []) ≡ Some (item.File path size)
unfolding lab_file_item lab_file_of
file_read path size is small = rw (path_read path (decimal size ∷ []) is, number_then_read (2 ^ 20) size [] (omega arith) small) refl

file_no_key : (set : Keys) (words : List (List ℕ)) → lab_setting_of set (codes "file" ∷ words) ≡ lab_file_item (codes "file" ∷ words)
unfolding lab_setting_of
file_no_key set words = refl

go_read : lab_file_item (codes "go" ∷ []) ≡ Some item.Go
unfolding lab_file_item
go_read = refl

go_no_key : (set : Keys) → lab_setting_of set (codes "go" ∷ []) ≡ lab_file_item (codes "go" ∷ [])
unfolding lab_setting_of
go_no_key set = refl

event_read : (e : LabEvent) → IsLabEventInRange e → lab_event_of (lab_event_words e) ≡ Some e
unfolding lab_event_of req_of word_alone
event_read (event.Req path) range = rw range refl
event_read (event.Done i) range = rw (number_alone_read i range) refl
event_read (event.Clock ms) range = rw (number_alone_read ms range) refl

-- what stands before `go` and is no number of the configuration is read alike in both places
before_read : (set : Keys) (line : List ℕ) (x : Item) → lab_file_item (words_of line) ≡ Some x → lab_setting_of set (words_of line) ≡ lab_file_item (words_of line)
    → (s : Stage) → IsBefore s → lab_item_at s set line ≡ Some x
before_read set line x e same Start before = absurd before
before_read set line x e same Settings before = same ∙ e
before_read set line x e same Files before = e
before_read set line x e same Running before = absurd before

line_cut : (line : List ℕ) (x : Item) → line ≡ sentence (item_words x) → HasLabRange x → words_of line ≡ item_words x
line_cut line x e range = ap words_of e ∙ sentence_words (item_words x) (words_apart x range)

pub line_read : (reader : Reader) (line : List ℕ) (x : Item) → StandsInLab reader line x → lab_item_of reader line ≡ Some x
line_read reader line item.Header s = ap (λ t. lab_item_at t reader.keys line) s.1 ∙ ap lab_header_of s.0
line_read reader line (item.Set k value) s =
    ap (λ t. lab_item_at t reader.keys line) s.1.0 ∙ ap (lab_setting_of reader.keys) (line_cut line (item.Set k value) s.0 s.2) ∙ setting_read reader.keys k value s.1.1 s.1.2 s.2
line_read reader line (item.File path size) s =
    let words = line_cut line (item.File path size) s.0 s.2 in
    let read : lab_file_item (words_of line) ≡ Some (item.File path size) = ap lab_file_item words ∙ file_read path size s.2.0 s.2.1 in
    before_read reader.keys line (item.File path size) read (ap (lab_setting_of reader.keys) words ∙ file_no_key reader.keys (path ∷ decimal size ∷ []) ∙ ap lab_file_item (sym words)) reader.stage s.1
line_read reader line item.Go s =
    let words = line_cut line item.Go s.0 s.2 in
    before_read reader.keys line item.Go (ap lab_file_item words ∙ go_read) (ap (lab_setting_of reader.keys) words ∙ go_no_key reader.keys ∙ ap lab_file_item (sym words)) reader.stage s.1
line_read reader line (item.Event e) s =
    ap (λ t. lab_item_at t reader.keys line) s.1
    ∙ ap (λ o. o >>= λ d. Some (item.Event d)) (ap lab_event_of (line_cut line (item.Event e) s.0 s.2) ∙ event_read e s.2)

-- the line stands for no item
abbrev pub StandsForNone : Reader → List ℕ → Type 0
StandsForNone reader line = (x : Item) → ¬ (StandsInLab reader line x)

none_told : (reader : Reader) (line : List ℕ) → lab_item_of reader line ≡ None → StandsForNone reader line
none_told reader line e x s = let read : lab_item_of reader line ≡ Some x = line_read reader line x s in cc

none_from : (reader : Reader) (line : List ℕ) → StandsForNone reader line → lab_item_of reader line ≡ None
none_from reader line none = go (lab_item_of reader line) refl where
  go : (o : Option Item) → lab_item_of reader line ≡ o → o ≡ None
  go None f = refl
  go (Some x) f = absurd (none x (line_spelled reader line x f))

pub none_is : (reader : Reader) (line : List ℕ) → (lab_item_of reader line ≡ None) ↔ StandsForNone reader line
none_is reader line = (none_told reader line, none_from reader line)
