-- Words are read as an event exactly where they spell it.
use Rattle.std.proofs.Common.{◌≡◌, ℕ, ◌-◌, ◌≤◌, ◌<◌, ◌^◌, List, [], ◌∷◌, length, Bool, true, false, cond, Some, None, Ok, refl, sym, ap, ◌∙◌, subst, arith}
use Rattle.std.specs.Prelude.{nat_le, decimal, codes, bytes_eq}
use Rattle.std.specs.List.{find}
use Rattle.std.proofs.lemmas.Bool.Decides.{nat_tests}
use Rattle.hex.specs.Hex.{decode_of, encode_lower}
use Rattle.hex.proofs.HexLemmas.{decode_of-encode_lower}
use Rattle.lard_base.specs.Spelling.{event_words, place_word}
use Rattle.lard_base.specs.declared.place.Place.{Place}
use Rattle.lard_base.specs.declared.event.Event.{Event}
use Rattle.lard_base.specs.declared.event.Event.TheVariants.{Open, Get, Write, Shut, Abort, Hold, Take, Deliver, Lose, Timer, Disk, Drain, Clock, Settle, Inject}
use Rattle.lard_schedule.specs.declared.verbs.Verb.{Verb}
use Rattle.lard_schedule.specs.declared.verbs.Verb.TheVariants as verb
use Rattle.lard_schedule.specs.Words.{◌>>=◌, word_then, number_then, count_then, client_then}
use Rattle.lard_schedule.specs.Events.{IsInLineRange, IsUpTo, client_alone, number_alone, client_and_word, disk_of, event_after, event_of, get_of, inject_of, is_path, may_keep, open_of, place_of, settle_of, some_bytes_of, timer_of, verb_of, verb_word, verbs, write_of}
use Rattle.lard_schedule.specs.Laws.{HasBytes, Spells}
use Rattle.lard_schedule.proofs.Found.{bind_some, some_same, cond_some, ended_some, word_spelled, number_then_spelled, count_then_spelled, number_then_read, count_then_read, client_alone_spelled, number_alone_spelled, client_and_word_spelled, client_alone_read, number_alone_read, client_and_word_read}
use Rattle.lard_schedule.proofs.Places.{text_is, place_spelled, place_read, some_bytes_spelled, some_bytes_read}

-- the words spell the event, and it is in range
abbrev pub IsSpelled : List (List ℕ) → Event → Type 0
IsSpelled words event = Spells words event × IsInLineRange event

-- ---- a verb

-- what is found in a list passes the test
pub found_passes : {X : Type 0} (p : X → Bool) (xs : List X) (x : X) → find p xs ≡ Some x → p x ≡ true
found_passes p [] x e = let none : None ≡ Some x = e in cc
found_passes p (y ∷ ys) x e = go (p y) refl (found_passes p ys x) e where
  go : (t : Bool) → p y ≡ t → (find p ys ≡ Some x → p x ≡ true) → cond t (Some y) (find p ys) ≡ Some x → p x ≡ true
  go true f more g = subst (λ z. p z ≡ true) (some_same y x g) f
  go false f more g = more g

verb_spelled : (word : List ℕ) (v : Verb) → verb_of word ≡ Some v → word ≡ verb_word v
verb_spelled word v e = text_is _ _ (found_passes (λ w. bytes_eq word (verb_word w)) verbs v e)

-- ---- events, word by word

open_spelled : (words : List (List ℕ)) (event : Event) → open_of words ≡ Some event → IsSpelled (codes "open" ∷ words) event
unfolding open_of
open_spelled words event e =
    let c = bind_some (client_then words) _ event e in
    let isn = bind_some (number_then (2 ^ 32 - 1) c.0.1) _ event c.2 in
    let iss = bind_some (number_then (2 ^ 32 - 1) isn.0.1) _ event isn.2 in
    let wnd = bind_some (count_then 65535 iss.0.1) _ event iss.2 in
    let mss = bind_some (count_then 1460 wnd.0.1) _ event wnd.2 in
    let end = ended_some mss.0.1 (Open c.0.0 isn.0.0 iss.0.0 wnd.0.0 mss.0.0) event mss.2 in
    let first = count_then_spelled 16384 words c.0 c.1 in
    let second = number_then_spelled (2 ^ 32 - 1) c.0.1 isn.0 (omega arith) isn.1 in
    let third = number_then_spelled (2 ^ 32 - 1) isn.0.1 iss.0 (omega arith) iss.1 in
    let fourth = count_then_spelled 65535 iss.0.1 wnd.0 wnd.1 in
    let fifth = count_then_spelled 1460 wnd.0.1 mss.0 mss.1 in
    subst (IsSpelled (codes "open" ∷ words)) end.1 (
      ap (λ w. codes "open" ∷ w) (first.0 ∙ ap (λ w. decimal c.0.0 ∷ w) (second.0 ∙ ap (λ w. decimal isn.0.0 ∷ w) (third.0
          ∙ ap (λ w. decimal iss.0.0 ∷ w) (fourth.0 ∙ ap (λ w. decimal wnd.0.0 ∷ w) (fifth.0 ∙ ap (λ w. decimal mss.0.0 ∷ w) end.0))))),
      (first.1, omega (arith, second.1), omega (arith, third.1), fourth.1, fifth.1),
    )

get_spelled : (words : List (List ℕ)) (event : Event) → get_of words ≡ Some event → IsSpelled (codes "get" ∷ words) event
unfolding get_of
get_spelled words event e =
    let asked = bind_some (client_and_word words) _ event e in
    let tested = cond_some (is_path asked.0.1) (Get asked.0.0 asked.0.1) event asked.2 in
    let spelled = client_and_word_spelled words asked.0 asked.1 in
    subst (IsSpelled (codes "get" ∷ words)) tested.1 (ap (λ w. codes "get" ∷ w) spelled.0, (spelled.1, tested.0))

write_spelled : (words : List (List ℕ)) (event : Event) → write_of words ≡ Some event → IsSpelled (codes "write" ∷ words) event
unfolding write_of
write_spelled words event e =
    let sent = bind_some (client_and_word words) _ event e in
    let bytes = bind_some (some_bytes_of sent.0.1) _ event sent.2 in
    let spelled = client_and_word_spelled words sent.0 sent.1 in
    let read = some_bytes_spelled sent.0.1 bytes.0 bytes.1 in
    subst (IsSpelled (codes "write" ∷ words)) (some_same (Write sent.0.0 bytes.0) event bytes.2) (
      (sent.0.1, ap (λ w. codes "write" ∷ w) spelled.0, read.0),
      (spelled.1, read.1),
    )

inject_spelled : (words : List (List ℕ)) (event : Event) → inject_of words ≡ Some event → IsSpelled (codes "inject" ∷ words) event
unfolding inject_of
inject_spelled words event e =
    let sent = bind_some (client_and_word words) _ event e in
    let bytes = bind_some (some_bytes_of sent.0.1) _ event sent.2 in
    let tested = cond_some (nat_le (length bytes.0) 1520) (Inject sent.0.0 bytes.0) event bytes.2 in
    let most : length bytes.0 ≤ 1520 = let passed = tested.0 in grind (arith, nat_tests, passed) in
    let spelled = client_and_word_spelled words sent.0 sent.1 in
    let read = some_bytes_spelled sent.0.1 bytes.0 bytes.1 in
    subst (IsSpelled (codes "inject" ∷ words)) tested.1 (
      (sent.0.1, ap (λ w. codes "inject" ∷ w) spelled.0, read.0),
      (spelled.1, (read.1, most)),
    )

timer_spelled : (words : List (List ℕ)) (event : Event) → timer_of words ≡ Some event → IsSpelled (codes "timer" ∷ words) event
unfolding timer_of
timer_spelled words event e =
    let word = bind_some (word_then words) _ event e in
    let place = bind_some (place_of word.0.0) _ event word.2 in
    let c = bind_some (client_alone word.0.1) _ event place.2 in
    let tested = cond_some (may_keep place.0 c.0) (Timer place.0 c.0) event c.2 in
    let first = place_spelled word.0.0 place.0 place.1 in
    let second = client_alone_spelled word.0.1 c.0 c.1 in
    subst (IsSpelled (codes "timer" ∷ words)) tested.1 (
      ap (λ w. codes "timer" ∷ w) (word_spelled words word.0 word.1 ∙ ap (λ w. w ∷ word.0.1) first.0 ∙ ap (λ w. place_word place.0 ∷ w) second.0),
      (first.1, second.1, tested.0),
    )

disk_spelled : (words : List (List ℕ)) (event : Event) → disk_of words ≡ Some event → IsSpelled (codes "disk" ∷ words) event
unfolding disk_of
disk_spelled words event e =
    let n = bind_some (number_then (2 ^ 32 - 1) words) _ event e in
    let j = bind_some (number_alone n.0.1) _ event n.2 in
    let first = number_then_spelled (2 ^ 32 - 1) words n.0 (omega arith) n.1 in
    let second = number_alone_spelled n.0.1 j.0 j.1 in
    subst (IsSpelled (codes "disk" ∷ words)) (some_same (Disk n.0.0 j.0) event j.2)
    (ap (λ w. codes "disk" ∷ w) (first.0 ∙ ap (λ w. decimal n.0.0 ∷ w) second.0), (omega (arith, first.1), second.1))

settle_spelled : (words : List (List ℕ)) (event : Event) → settle_of words ≡ Some event → IsSpelled (codes "settle" ∷ words) event
unfolding settle_of
settle_spelled words event e =
    let rounds = bind_some (count_then (2 ^ 32 - 1) words) _ event e in
    let end = ended_some rounds.0.1 (Settle rounds.0.0) event rounds.2 in
    let first = count_then_spelled (2 ^ 32 - 1) words rounds.0 rounds.1 in
    subst (IsSpelled (codes "settle" ∷ words)) end.1
    (ap (λ w. codes "settle" ∷ w) (first.0 ∙ ap (λ w. decimal rounds.0.0 ∷ w) end.0), (first.1.0, omega (arith, first.1.1)))

-- an event that names a client alone
of_client_spelled : (make : ℕ → Event) (verb : List ℕ) (words : List (List ℕ)) (event : Event)
    → ((c : ℕ) → IsUpTo 16384 c → IsSpelled (verb ∷ decimal c ∷ []) (make c)) → (client_alone words >>= λ c. Some (make c)) ≡ Some event → IsSpelled (verb ∷ words) event
of_client_spelled make verb words event spells e =
    let c = bind_some (client_alone words) _ event e in
    let spelled = client_alone_spelled words c.0 c.1 in
    subst (IsSpelled (verb ∷ words)) (some_same (make c.0) event c.2)
    (subst (λ w. IsSpelled (verb ∷ w) (make c.0)) (sym spelled.0) (spells c.0 spelled.1))

-- an event that names a number alone
of_number_spelled : (make : ℕ → Event) (verb : List ℕ) (words : List (List ℕ)) (event : Event)
    → ((n : ℕ) → n < 2 ^ 32 → IsSpelled (verb ∷ decimal n ∷ []) (make n)) → (number_alone words >>= λ n. Some (make n)) ≡ Some event → IsSpelled (verb ∷ words) event
of_number_spelled make verb words event spells e =
    let n = bind_some (number_alone words) _ event e in
    let spelled = number_alone_spelled words n.0 n.1 in
    subst (IsSpelled (verb ∷ words)) (some_same (make n.0) event n.2)
    (subst (λ w. IsSpelled (verb ∷ w) (make n.0)) (sym spelled.0) (spells n.0 spelled.1))

after_spelled : (v : Verb) (words : List (List ℕ)) (event : Event) → event_after v words ≡ Some event → IsSpelled (verb_word v ∷ words) event
after_spelled verb.Open words event e = open_spelled words event e
after_spelled verb.Get words event e = get_spelled words event e
after_spelled verb.Write words event e = write_spelled words event e
after_spelled verb.Shut words event e = of_client_spelled Shut (codes "shut") words event (λ c range. (refl, range)) e
after_spelled verb.Abort words event e = of_client_spelled Abort (codes "abort") words event (λ c range. (refl, range)) e
after_spelled verb.Hold words event e = of_client_spelled Hold (codes "hold") words event (λ c range. (refl, range)) e
after_spelled verb.Take words event e = of_client_spelled Take (codes "take") words event (λ c range. (refl, range)) e
after_spelled verb.Deliver words event e = of_number_spelled Deliver (codes "deliver") words event (λ n range. (refl, range)) e
after_spelled verb.Lose words event e = of_number_spelled Lose (codes "lose") words event (λ n range. (refl, range)) e
after_spelled verb.Timer words event e = timer_spelled words event e
after_spelled verb.Disk words event e = disk_spelled words event e
after_spelled verb.Drain words event e = of_number_spelled Drain (codes "drain") words event (λ n range. (refl, range)) e
after_spelled verb.Clock words event e = of_number_spelled Clock (codes "clock") words event (λ n range. (refl, range)) e
after_spelled verb.Settle words event e = settle_spelled words event e
after_spelled verb.Inject words event e = inject_spelled words event e

pub event_spelled : (words : List (List ℕ)) (event : Event) → event_of words ≡ Some event → IsSpelled words event
unfolding event_of
event_spelled words event e =
    let first = bind_some (word_then words) _ event e in
    let v = bind_some (verb_of first.0.0) _ event first.2 in
    let spelled = after_spelled v.0 first.0.1 event v.2 in
    subst (λ w. IsSpelled w event) (sym (word_spelled words first.0 first.1 ∙ ap (λ w. w ∷ first.0.1) (verb_spelled first.0.0 v.0 v.1))) spelled

-- ---- and each event is read

open_read : (c isn iss wnd mss : ℕ) → IsInLineRange (Open c isn iss wnd mss)
    → open_of (decimal c ∷ decimal isn ∷ decimal iss ∷ decimal wnd ∷ decimal mss ∷ []) ≡ Some (Open c isn iss wnd mss)
unfolding open_of
open_read c isn iss wnd mss range =
    rw (
      count_then_read 16384 c (decimal isn ∷ decimal iss ∷ decimal wnd ∷ decimal mss ∷ []) (omega arith) range.0,
      number_then_read (2 ^ 32 - 1) isn (decimal iss ∷ decimal wnd ∷ decimal mss ∷ []) (omega arith) (omega (arith, range.1)),
      number_then_read (2 ^ 32 - 1) iss (decimal wnd ∷ decimal mss ∷ []) (omega arith) (omega (arith, range.2)),
      count_then_read 65535 wnd (decimal mss ∷ []) (omega arith) range.3,
      count_then_read 1460 mss [] (omega arith) range.4,
    ) refl

get_read : (c : ℕ) (path : List ℕ) → IsInLineRange (Get c path) → get_of (decimal c ∷ path ∷ []) ≡ Some (Get c path)
unfolding get_of
get_read c path range = rw (client_and_word_read c path range.0, range.1) refl

write_read : (c : ℕ) (bytes digits : List ℕ) → decode_of digits ≡ Ok bytes → IsInLineRange (Write c bytes) → write_of (decimal c ∷ digits ∷ []) ≡ Some (Write c bytes)
unfolding write_of
write_read c bytes digits e range = rw (client_and_word_read c digits range.0, some_bytes_read digits bytes e range.1) refl

inject_read : (c : ℕ) (bytes digits : List ℕ) → decode_of digits ≡ Ok bytes → IsInLineRange (Inject c bytes) → inject_of (decimal c ∷ digits ∷ []) ≡ Some (Inject c bytes)
unfolding inject_of
inject_read c bytes digits e range =
    let passed : nat_le (length bytes) 1520 ≡ true = grind (arith, nat_tests, range.1.1) in
    rw (client_and_word_read c digits range.0, some_bytes_read digits bytes e range.1.0, passed) refl

timer_read : (place : Place) (c : ℕ) → IsInLineRange (Timer place c) → timer_of (place_word place ∷ decimal c ∷ []) ≡ Some (Timer place c)
unfolding timer_of
timer_read place c range = rw (place_read place range.0, client_alone_read c range.1, range.2) refl

disk_read : (n j : ℕ) → IsInLineRange (Disk n j) → disk_of (decimal n ∷ decimal j ∷ []) ≡ Some (Disk n j)
unfolding disk_of
disk_read n j range = rw (number_then_read (2 ^ 32 - 1) n (decimal j ∷ []) (omega arith) (omega (arith, range.0)), number_alone_read j range.1) refl

settle_read : (rounds : ℕ) → IsInLineRange (Settle rounds) → settle_of (decimal rounds ∷ []) ≡ Some (Settle rounds)
unfolding settle_of
settle_read rounds range = rw (count_then_read (2 ^ 32 - 1) rounds [] (omega arith) (range.0, omega (arith, range.1))) refl

pub event_read : (words : List (List ℕ)) (event : Event) → Spells words event → IsInLineRange event → event_of words ≡ Some event
unfolding event_of
event_read words (Open c isn iss wnd mss) e range = ap event_of e ∙ open_read c isn iss wnd mss range
event_read words (Get c path) e range = ap event_of e ∙ get_read c path range
event_read words (Write c bytes) e range = ap event_of e.1 ∙ write_read c bytes e.0 e.2 range
event_read words (Shut c) e range = ap event_of e ∙ ap (λ o. o >>= λ k. Some (Shut k)) (client_alone_read c range)
event_read words (Abort c) e range = ap event_of e ∙ ap (λ o. o >>= λ k. Some (Abort k)) (client_alone_read c range)
event_read words (Hold c) e range = ap event_of e ∙ ap (λ o. o >>= λ k. Some (Hold k)) (client_alone_read c range)
event_read words (Take c) e range = ap event_of e ∙ ap (λ o. o >>= λ k. Some (Take k)) (client_alone_read c range)
event_read words (Deliver k) e range = ap event_of e ∙ ap (λ o. o >>= λ n. Some (Deliver n)) (number_alone_read k range)
event_read words (Lose k) e range = ap event_of e ∙ ap (λ o. o >>= λ n. Some (Lose n)) (number_alone_read k range)
event_read words (Timer place c) e range = ap event_of e ∙ timer_read place c range
event_read words (Disk n j) e range = ap event_of e ∙ disk_read n j range
event_read words (Drain n) e range = ap event_of e ∙ ap (λ o. o >>= λ k. Some (Drain k)) (number_alone_read n range)
event_read words (Clock ms) e range = ap event_of e ∙ ap (λ o. o >>= λ n. Some (Clock n)) (number_alone_read ms range)
event_read words (Settle rounds) e range = ap event_of e ∙ settle_read rounds range
event_read words (Inject c bytes) e range = ap event_of e.1 ∙ inject_read c bytes e.0 e.2 range

-- ---- the spelling of records is one of them

spells_itself : (event : Event) → HasBytes event → Spells (event_words event) event
spells_itself (Write c bytes) h = (encode_lower bytes, refl, decode_of-encode_lower bytes h)
spells_itself (Inject c bytes) h = (encode_lower bytes, refl, decode_of-encode_lower bytes h)
spells_itself event h = refl

pub event_again : (event : Event) → IsInLineRange event → HasBytes event → event_of (event_words event) ≡ Some event
event_again event range bytes = event_read (event_words event) event (spells_itself event bytes) range
