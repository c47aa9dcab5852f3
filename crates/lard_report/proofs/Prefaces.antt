-- A line is read as a heading, or as one of a file, exactly where it is that.
use Rattle.std.proofs.Common.{◌≡◌, ℕ, ◌-◌, ◌<◌, ◌^◌, List, [], ◌∷◌, ◌++◌, true, Some, refl, sym, ap, ◌∙◌, subst, arith}
use Rattle.std.specs.Prelude.{codes, bytes_eq, decimal}
use Rattle.std.specs.List.{list_all}
use Rattle.std.proofs.lemmas.Bool.{and_parts}
use Rattle.std.proofs.lemmas.List.{append_cancel_right}
use Rattle.std.proofs.lemmas.Slice.Eq.{bytes_eq-Decides}
use Rattle.lard_base.specs.declared.config.Config.{Config}
use Rattle.lard_base.specs.declared.config.Key.TheVariants.{Nodes, Low, High, Age, Idle, Over, Miss, Cache, Stream}
use Rattle.lard_base.specs.Spelling.{key_word, sentence}
use Rattle.lard_journal.specs.Report.{file_text, heading_line, heading_words}
use Rattle.lard_journal.proofs.Cut.{plain-decimal}
use Rattle.lard_journal.proofs.Told.{plain-path}
use Rattle.lard_schedule.specs.Events.{is_path}
use Rattle.lard_schedule.specs.Words.{word_then, number_then, words_of}
use Rattle.lard_schedule.specs.Laws.{AreWords}
use Rattle.lard_schedule.specs.Files.{is_file_path, is_no_question, path_then}
use Rattle.lard_schedule.proofs.Found.{bind_some, some_same, cond_some, ended_some, word_spelled, number_then_spelled, number_then_read}
use Rattle.lard_schedule.proofs.Places.{text_is}
use Rattle.lard_schedule.proofs.Sentences.{sentence_words, text_back}
use Rattle.lard_report.specs.declared.preface.Heading.{Heading}
use Rattle.lard_report.specs.Preface.{IsHeadingWide, behind_word, heading_config, costs_then, file_line_of, heading_of, heading_with, limits_then, policy_then, setting_then}
use Rattle.lard_report.proofs.Apart.{plain_apart}
use Rattle.lard_report.proofs.Ranges.{path_unspaced}

-- ---- a word that has to stand, and a key with its number

behind_spelled : (text : List ℕ) (words rest : List (List ℕ)) → behind_word text words ≡ Some rest → words ≡ text ∷ rest
unfolding behind_word
behind_spelled text words rest e =
    let word = bind_some (word_then words) _ rest e in
    let tested = cond_some (bytes_eq word.0.0 text) word.0.1 rest word.2 in
    word_spelled words word.0 word.1 ∙ ap (λ w. w ∷ word.0.1) (text_is word.0.0 text tested.0) ∙ ap (λ w. text ∷ w) tested.1

behind_read : (text : List ℕ) (rest : List (List ℕ)) → behind_word text (text ∷ rest) ≡ Some rest
unfolding behind_word
behind_read text rest = rw ((bytes_eq-Decides text text).1 refl) refl

setting_spelled : (key : List ℕ) (words : List (List ℕ)) (found : ℕ × List (List ℕ)) → setting_then key words ≡ Some found
    → (words ≡ key ∷ decimal found.0 ∷ found.1) × (found.0 < 2 ^ 64)
unfolding setting_then
setting_spelled key words found e =
    let rest = bind_some (behind_word key words) _ found e in
    let number = number_then_spelled (2 ^ 64 - 1) rest.0 found (omega arith) rest.2 in
    (behind_spelled key words rest.0 rest.1 ∙ ap (λ w. key ∷ w) number.0, omega (arith, number.1))

setting_read : (key : List ℕ) (n : ℕ) (rest : List (List ℕ)) → n < 2 ^ 64 → setting_then key (key ∷ decimal n ∷ rest) ≡ Some (n, rest)
unfolding setting_then
setting_read key n rest small = rw (behind_read key (decimal n ∷ rest)) (number_then_read (2 ^ 64 - 1) n rest (omega arith) (omega (arith, small)))

-- ---- a heading

abbrev Policy : Type 0
Policy = ℕ × ℕ × ℕ × ℕ

abbrev Costs : Type 0
Costs = ℕ × ℕ × ℕ

-- words of keys and numbers in front of others
abbrev policy_words : Policy → List (List ℕ) → List (List ℕ)
policy_words p rest =
    key_word Nodes ∷ decimal p.0 ∷ key_word Low ∷ decimal p.1 ∷ key_word High ∷ decimal p.2 ∷ key_word Age ∷ decimal p.3 ∷ rest

abbrev costs_words : Costs → List (List ℕ) → List (List ℕ)
costs_words p rest = key_word Idle ∷ decimal p.0 ∷ key_word Over ∷ decimal p.1 ∷ key_word Miss ∷ decimal p.2 ∷ rest

abbrev limits_words : ℕ × ℕ → List (List ℕ) → List (List ℕ)
limits_words p rest = key_word Cache ∷ decimal p.0 ∷ key_word Stream ∷ decimal p.1 ∷ rest

abbrev IsWidePolicy : Policy → Type 0
IsWidePolicy p = (p.0 < 2 ^ 64) × (p.1 < 2 ^ 64) × (p.2 < 2 ^ 64) × (p.3 < 2 ^ 64)

abbrev IsWideCosts : Costs → Type 0
IsWideCosts p = (p.0 < 2 ^ 64) × (p.1 < 2 ^ 64) × (p.2 < 2 ^ 64)

abbrev IsWideLimits : ℕ × ℕ → Type 0
IsWideLimits p = (p.0 < 2 ^ 64) × (p.1 < 2 ^ 64)

policy_spelled : (words : List (List ℕ)) (found : Policy × List (List ℕ)) → policy_then words ≡ Some found
    → (words ≡ policy_words found.0 found.1) × IsWidePolicy found.0
unfolding policy_then
policy_spelled words found e =
    let nodes = bind_some (setting_then (key_word Nodes) words) _ found e in
    let low = bind_some (setting_then (key_word Low) nodes.0.1) _ found nodes.2 in
    let high = bind_some (setting_then (key_word High) low.0.1) _ found low.2 in
    let age = bind_some (setting_then (key_word Age) high.0.1) _ found high.2 in
    let first = setting_spelled (key_word Nodes) words nodes.0 nodes.1 in
    let second = setting_spelled (key_word Low) nodes.0.1 low.0 low.1 in
    let third = setting_spelled (key_word High) low.0.1 high.0 high.1 in
    let fourth = setting_spelled (key_word Age) high.0.1 age.0 age.1 in
    subst (λ (p : Policy × List (List ℕ)). (words ≡ policy_words p.0 p.1) × IsWidePolicy p.0)
    (some_same ((nodes.0.0, low.0.0, high.0.0, age.0.0), age.0.1) found age.2) (
      first.0 ∙ ap (λ w. key_word Nodes ∷ decimal nodes.0.0 ∷ w) (second.0 ∙ ap (λ w. key_word Low ∷ decimal low.0.0 ∷ w) (third.0
          ∙ ap (λ w. key_word High ∷ decimal high.0.0 ∷ w) fourth.0)),
      (first.1, second.1, third.1, fourth.1),
    )

costs_spelled : (words : List (List ℕ)) (found : Costs × List (List ℕ)) → costs_then words ≡ Some found → (words ≡ costs_words found.0 found.1) × IsWideCosts found.0
unfolding costs_then
costs_spelled words found e =
    let idle = bind_some (setting_then (key_word Idle) words) _ found e in
    let over = bind_some (setting_then (key_word Over) idle.0.1) _ found idle.2 in
    let miss = bind_some (setting_then (key_word Miss) over.0.1) _ found over.2 in
    let first = setting_spelled (key_word Idle) words idle.0 idle.1 in
    let second = setting_spelled (key_word Over) idle.0.1 over.0 over.1 in
    let third = setting_spelled (key_word Miss) over.0.1 miss.0 miss.1 in
    subst (λ (p : Costs × List (List ℕ)). (words ≡ costs_words p.0 p.1) × IsWideCosts p.0) (some_same ((idle.0.0, over.0.0, miss.0.0), miss.0.1) found miss.2) (
      first.0 ∙ ap (λ w. key_word Idle ∷ decimal idle.0.0 ∷ w) (second.0 ∙ ap (λ w. key_word Over ∷ decimal over.0.0 ∷ w) third.0),
      (first.1, second.1, third.1),
    )

limits_spelled : (words : List (List ℕ)) (found : (ℕ × ℕ) × List (List ℕ)) → limits_then words ≡ Some found
    → (words ≡ limits_words found.0 found.1) × IsWideLimits found.0
unfolding limits_then
limits_spelled words found e =
    let cache = bind_some (setting_then (key_word Cache) words) _ found e in
    let stream = bind_some (setting_then (key_word Stream) cache.0.1) _ found cache.2 in
    let first = setting_spelled (key_word Cache) words cache.0 cache.1 in
    let second = setting_spelled (key_word Stream) cache.0.1 stream.0 stream.1 in
    subst (λ (p : (ℕ × ℕ) × List (List ℕ)). (words ≡ limits_words p.0 p.1) × IsWideLimits p.0) (some_same ((cache.0.0, stream.0.0), stream.0.1) found stream.2)
    (first.0 ∙ ap (λ w. key_word Cache ∷ decimal cache.0.0 ∷ w) second.0, (first.1, second.1))

-- the line is the heading with these numbers
abbrev IsHeadingOf : List ℕ → Heading → Type 0
IsHeadingOf line h = (line ++ 10 ∷ [] ≡ heading_line (heading_config h)) × IsHeadingWide h

heading_line_is : (line : List ℕ) (h : Heading) → words_of line ≡ heading_words (heading_config h) → line ++ 10 ∷ [] ≡ heading_line (heading_config h)
unfolding heading_line
heading_line_is line h e = ap (λ text. text ++ 10 ∷ []) (sym (text_back line) ∙ ap sentence e)

pub heading_told : (line : List ℕ) (h : Heading) → heading_of line ≡ Some h → IsHeadingOf line h
unfolding heading_of
heading_told line h e =
    let report = bind_some (behind_word (codes "report") (words_of line)) _ h e in
    let version = bind_some (behind_word (codes "1") report.0) _ h report.2 in
    let policy = bind_some (policy_then version.0) _ h version.2 in
    let costs = bind_some (costs_then policy.0.1) _ h policy.2 in
    let limits = bind_some (limits_then costs.0.1) _ h costs.2 in
    let end = ended_some limits.0.1 (heading_with policy.0.0 costs.0.0 limits.0.0) h limits.2 in
    let first = behind_spelled (codes "report") (words_of line) report.0 report.1 in
    let second = behind_spelled (codes "1") report.0 version.0 version.1 in
    let third = policy_spelled version.0 policy.0 policy.1 in
    let fourth = costs_spelled policy.0.1 costs.0 costs.1 in
    let fifth = limits_spelled costs.0.1 limits.0 limits.1 in
    let words : words_of line ≡ codes "report" ∷ codes "1" ∷ policy_words policy.0.0 (costs_words costs.0.0 (limits_words limits.0.0 [])) =
    first ∙ ap (λ w. codes "report" ∷ w) (second ∙ ap (λ w. codes "1" ∷ w) (third.0
    ∙ ap (policy_words policy.0.0) (fourth.0 ∙ ap (costs_words costs.0.0) (fifth.0 ∙ ap (limits_words limits.0.0) end.0)))) in
    subst (IsHeadingOf line) end.1 (
      heading_line_is line (heading_with policy.0.0 costs.0.0 limits.0.0) words,
      (third.1.0, third.1.1, third.1.2, third.1.3, fourth.1.0, fourth.1.1, fourth.1.2, fifth.1.0, fifth.1.1),
    )

policy_read : (p : Policy) (rest : List (List ℕ)) → IsWidePolicy p → policy_then (policy_words p rest) ≡ Some (p, rest)
unfolding policy_then
policy_read p rest wide =
    rw (
      setting_read (key_word Nodes) p.0 (key_word Low ∷ decimal p.1 ∷ key_word High ∷ decimal p.2 ∷ key_word Age ∷ decimal p.3 ∷ rest) wide.0,
      setting_read (key_word Low) p.1 (key_word High ∷ decimal p.2 ∷ key_word Age ∷ decimal p.3 ∷ rest) wide.1,
      setting_read (key_word High) p.2 (key_word Age ∷ decimal p.3 ∷ rest) wide.2,
      setting_read (key_word Age) p.3 rest wide.3,
    ) refl

costs_read : (p : Costs) (rest : List (List ℕ)) → IsWideCosts p → costs_then (costs_words p rest) ≡ Some (p, rest)
unfolding costs_then
costs_read p rest wide =
    rw (
      setting_read (key_word Idle) p.0 (key_word Over ∷ decimal p.1 ∷ key_word Miss ∷ decimal p.2 ∷ rest) wide.0,
      setting_read (key_word Over) p.1 (key_word Miss ∷ decimal p.2 ∷ rest) wide.1,
      setting_read (key_word Miss) p.2 rest wide.2,
    ) refl

limits_read : (p : ℕ × ℕ) (rest : List (List ℕ)) → IsWideLimits p → limits_then (limits_words p rest) ≡ Some (p, rest)
unfolding limits_then
limits_read p rest wide = rw (setting_read (key_word Cache) p.0 (key_word Stream ∷ decimal p.1 ∷ rest) wide.0, setting_read (key_word Stream) p.1 rest wide.1) refl

heading_apart : (c : Config) → AreWords (heading_words c)
heading_apart c =
    plain_apart (heading_words c) (
    rw (
      plain-decimal c.nodes,
      plain-decimal c.low,
      plain-decimal c.high,
      plain-decimal c.age,
      plain-decimal c.idle,
      plain-decimal c.over,
      plain-decimal c.miss,
      plain-decimal c.cache,
      plain-decimal c.stream,
    ) refl
    )

heading_words_back : (line : List ℕ) (h : Heading) → line ++ 10 ∷ [] ≡ heading_line (heading_config h) → words_of line ≡ heading_words (heading_config h)
unfolding heading_line
heading_words_back line h e =
    ap words_of (append_cancel_right line (sentence (heading_words (heading_config h))) (10 ∷ []) e) ∙ sentence_words (heading_words (heading_config h)) (heading_apart (heading_config h))

pub heading_from : (line : List ℕ) (h : Heading) → IsHeadingOf line h → heading_of line ≡ Some h
unfolding heading_of
heading_from line h spelled =
    let wide = spelled.1 in
    let limits : List (List ℕ) = limits_words (h.cache, h.stream) [] in
    let costs : List (List ℕ) = costs_words (h.idle, h.over, h.miss) limits in
    let policy : List (List ℕ) = policy_words (h.nodes, h.low, h.high, h.age) costs in
    rw (
      heading_words_back line h spelled.0,
      behind_read (codes "report") (codes "1" ∷ policy),
      behind_read (codes "1") policy,
      policy_read (h.nodes, h.low, h.high, h.age) costs (wide.0, wide.1, wide.2, wide.3),
      costs_read (h.idle, h.over, h.miss) limits (wide.4, wide.5, wide.6),
      limits_read (h.cache, h.stream) [] (wide.7, wide.8),
    ) refl

-- ---- a file

-- the line is that of a file of this path and length
abbrev IsFileOf : List ℕ → List ℕ × ℕ → Type 0
IsFileOf line file = (line ++ 10 ∷ [] ≡ file_text file) × (is_file_path file.0 ≡ true) × (file.1 < 2 ^ 64)

path_spelled : (words : List (List ℕ)) (found : List ℕ × List (List ℕ)) → path_then words ≡ Some found → (words ≡ found.0 ∷ found.1) × (is_file_path found.0 ≡ true)
unfolding path_then
path_spelled words found e =
    let path = bind_some (word_then words) _ found e in
    let tested = cond_some (is_file_path path.0.0) path.0 found path.2 in
    subst (λ (p : List ℕ × List (List ℕ)). (words ≡ p.0 ∷ p.1) × (is_file_path p.0 ≡ true)) tested.1 (word_spelled words path.0 path.1, tested.0)

path_read : (path : List ℕ) (words : List (List ℕ)) → is_file_path path ≡ true → path_then (path ∷ words) ≡ Some (path, words)
unfolding path_then
path_read path words fits = rw fits refl

pub file_told : (line path : List ℕ) (size : ℕ) → file_line_of line ≡ Some (path, size) → IsFileOf line (path, size)
unfolding file_line_of
file_told line path size e =
    let file : List ℕ × ℕ = (path, size) in
    let rest = bind_some (behind_word (codes "file") (words_of line)) _ file e in
    let text = bind_some (path_then rest.0) _ file rest.2 in
    let number = bind_some (number_then (2 ^ 64 - 1) text.0.1) _ file text.2 in
    let end = ended_some number.0.1 (text.0.0, number.0.0) file number.2 in
    let first = behind_spelled (codes "file") (words_of line) rest.0 rest.1 in
    let second = path_spelled rest.0 text.0 text.1 in
    let third = number_then_spelled (2 ^ 64 - 1) text.0.1 number.0 (omega arith) number.1 in
    let words : words_of line ≡ codes "file" ∷ text.0.0 ∷ decimal number.0.0 ∷ [] =
    first ∙ ap (λ w. codes "file" ∷ w) (second.0 ∙ ap (λ w. text.0.0 ∷ w) (third.0 ∙ ap (λ w. decimal number.0.0 ∷ w) end.0)) in
    subst (IsFileOf line) end.1 (ap (λ t. t ++ 10 ∷ []) (sym (text_back line) ∙ ap sentence words), second.1, omega (arith, third.1))

pub file_from : (line path : List ℕ) (size : ℕ) → IsFileOf line (path, size) → file_line_of line ≡ Some (path, size)
unfolding file_line_of
file_from line path size spelled =
    let words : List (List ℕ) = codes "file" ∷ path ∷ decimal size ∷ [] in
    let visible = path_unspaced path (and_parts (is_path path) (list_all is_no_question path) spelled.1).0 in
    let apart : AreWords words = plain_apart words (rw (plain-path path visible, plain-decimal size) refl) in
    let back : words_of line ≡ words = ap words_of (append_cancel_right line (sentence words) (10 ∷ []) spelled.0) ∙ sentence_words words apart in
    rw (
      back,
      behind_read (codes "file") (path ∷ decimal size ∷ []),
      path_read path (decimal size ∷ []) spelled.1,
      number_then_read (2 ^ 64 - 1) size [] (omega arith) (omega (arith, spelled.2)),
    ) refl
