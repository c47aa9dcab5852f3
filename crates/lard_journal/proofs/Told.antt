-- A record can be read back from its line, so different records have different lines.
use Rattle.std.proofs.Common.{◌≡◌, ℕ, ◌<◌, ◌==◌, cond, true, false, ◌&&◌, List, [], ◌∷◌, ◌++◌, slice_index_or, drop, codes, Option, Some, None, refl, sym, ◌∙◌, ap, arith}
use Rattle.std.specs.Fmt.{decimal}
use Rattle.std.specs.Str.{bytes_eq}
use Rattle.std.specs.Str.Parse.{IsNumeral, digits_value}
use Rattle.std.specs.Char.{digit_value}
use Rattle.std.proofs.lemmas.Bool.Decides.{nat_tests}
use Rattle.std.specs.Result.{result_unwrap_or}
use Rattle.std.proofs.lemmas.Fmt.{decimal_is_IsNumeral}
use Rattle.std.proofs.lemmas.List.Sums.{list_all-from_AllPass}
use Rattle.hex.specs.Hex.{IsBytes, decode_of, encode_lower}
use Rattle.hex.proofs.HexLemmas.{decode_of-encode_lower}
use Rattle.lard_base.specs.declared.event.Event.{Event}
use Rattle.lard_base.specs.declared.event.Event.TheVariants as event
use Rattle.lard_base.specs.declared.place.Place.{Place}
use Rattle.lard_base.specs.declared.place.Place.TheVariants.{Front, Node, Client}
use Rattle.lard_base.specs.declared.place.TimerKind.{TimerKind}
use Rattle.lard_base.specs.declared.place.TimerKind.TheVariants.{Tcp, Offer, Ask, Fetch, Ended, Give}
use Rattle.lard_base.specs.declared.place.Via.{Via}
use Rattle.lard_base.specs.declared.place.Via.TheVariants as via
use Rattle.lard_base.specs.Spelling.{place_word, event_words}
use Rattle.lard_journal.specs.declared.rec.Rec.{Rec}
use Rattle.lard_journal.specs.declared.rec.Rec.TheVariants as rec
use Rattle.lard_journal.specs.Range.{IsNumber, IsUnspaced, IsPlaceInRange, IsChoiceInRange, IsViaInRange, IsEventInRange, IsRecordInRange}
use Rattle.lard_journal.specs.Report.{node_word, choice_word, via_word, kind_word, rec_words, rec_line}
use Rattle.lard_journal.proofs.Cut.{is_plain, is_plain_byte, all_plain, is_sentence, cut, cut-line_of, plain-decimal, plain-encode_lower}

-- the word at a place, counted from 0
abbrev pub word_at : List (List ℕ) → ℕ → List ℕ
word_at ws i = slice_index_or ws i []

-- what each kind of word stands for

-- a number
abbrev pub number_of : List ℕ → ℕ
number_of word = digits_value 10 word

-- a node written as a place
abbrev node_of : List ℕ → ℕ
node_of word = number_of (drop 1 word)

-- bytes in hexadecimal
abbrev bytes_of : List ℕ → List ℕ
bytes_of word = result_unwrap_or (decode_of word) []

-- a place
abbrev place_of : List ℕ → Place
place_of [] = Front
place_of (b ∷ digits) = cond (b == 110) (Node (number_of digits)) (cond (b == 99) (Client (number_of digits)) Front)

-- the number of a node, or a dash
abbrev choice_of : List ℕ → Option ℕ
choice_of [] = None
choice_of (b ∷ digits) = cond (b == 45) None (Some (number_of (b ∷ digits)))

-- where a content came from
abbrev via_of : List ℕ → Via
via_of [] = via.Own
via_of (b ∷ word) = cond (b == 110) (via.Node (number_of (drop 3 word))) (cond (b == 99) via.Cache (cond (b == 100) via.Disk via.Own))

-- the kind of a timer
abbrev kind_of : List ℕ → TimerKind
kind_of [] = Tcp
kind_of (b ∷ _) = cond (b == 111) Offer (cond (b == 97) Ask (cond (b == 102) Fetch (cond (b == 101) Ended (cond (b == 103) Give Tcp))))

-- the words of an event
abbrev event_of : List (List ℕ) → Event
event_of ws =
    cond (bytes_eq (word_at ws 0) (codes "open")) (event.Open (number_of (word_at ws 1)) (number_of (word_at ws 2)) (number_of (word_at ws 3)) (number_of (word_at ws 4)) (number_of (word_at ws 5))) (
    cond (bytes_eq (word_at ws 0) (codes "get")) (event.Get (number_of (word_at ws 1)) (word_at ws 2)) (
    cond (bytes_eq (word_at ws 0) (codes "write")) (event.Write (number_of (word_at ws 1)) (bytes_of (word_at ws 2))) (
    cond (bytes_eq (word_at ws 0) (codes "shut")) (event.Shut (number_of (word_at ws 1))) (
    cond (bytes_eq (word_at ws 0) (codes "abort")) (event.Abort (number_of (word_at ws 1))) (
    cond (bytes_eq (word_at ws 0) (codes "hold")) (event.Hold (number_of (word_at ws 1))) (
    cond (bytes_eq (word_at ws 0) (codes "take")) (event.Take (number_of (word_at ws 1))) (
    cond (bytes_eq (word_at ws 0) (codes "deliver")) (event.Deliver (number_of (word_at ws 1))) (
    cond (bytes_eq (word_at ws 0) (codes "lose")) (event.Lose (number_of (word_at ws 1))) (
    cond (bytes_eq (word_at ws 0) (codes "timer")) (event.Timer (place_of (word_at ws 1)) (number_of (word_at ws 2))) (
    cond (bytes_eq (word_at ws 0) (codes "disk")) (event.Disk (number_of (word_at ws 1)) (number_of (word_at ws 2))) (
    cond (bytes_eq (word_at ws 0) (codes "drain")) (event.Drain (number_of (word_at ws 1))) (
    cond (bytes_eq (word_at ws 0) (codes "clock")) (event.Clock (number_of (word_at ws 1))) (
    cond (bytes_eq (word_at ws 0) (codes "settle")) (event.Settle (number_of (word_at ws 1))) (event.Inject (number_of (word_at ws 1)) (bytes_of (word_at ws 2))))))))))))))))

-- the words of a record
abbrev rec_of : List (List ℕ) → Rec
rec_of ws =
    cond (bytes_eq (word_at ws 0) (codes "event")) (rec.Event (number_of (word_at ws 1)) (event_of (drop 2 ws))) (
    cond (bytes_eq (word_at ws 0) (codes "inner")) (rec.Inner (event_of (drop 1 ws))) (
    cond (bytes_eq (word_at ws 0) (codes "opened")) (rec.Opened (number_of (word_at ws 1)) (number_of (word_at ws 2)) (number_of (word_at ws 3)) (number_of (word_at ws 4)) (number_of (word_at ws 5))) (
    cond (bytes_eq (word_at ws 0) (codes "wrote")) (rec.Wrote (number_of (word_at ws 1)) (bytes_of (word_at ws 2))) (
    cond (bytes_eq (word_at ws 0) (codes "sent")) (rec.Sent (number_of (word_at ws 1)) (place_of (word_at ws 2)) (place_of (word_at ws 3)) (bytes_of (word_at ws 4))) (
    cond (bytes_eq (word_at ws 0) (codes "got")) (rec.Got (number_of (word_at ws 1))) (
    cond (bytes_eq (word_at ws 0) (codes "lost")) (rec.Lost (number_of (word_at ws 1))) (
    cond (bytes_eq (word_at ws 0) (codes "accepted")) (rec.Accepted (number_of (word_at ws 1)) (bytes_of (word_at ws 2))) (
    cond (bytes_eq (word_at ws 0) (codes "eof")) (rec.Eof (number_of (word_at ws 1))) (
    cond (bytes_eq (word_at ws 0) (codes "took")) (rec.Took (place_of (word_at ws 1)) (number_of (word_at ws 2)) (record { 0 = number_of (word_at ws 3) })) (
    cond (bytes_eq (word_at ws 0) (codes "gave")) (rec.Gave (place_of (word_at ws 1)) (number_of (word_at ws 2)) (record { 0 = number_of (word_at ws 3) })) (
    cond (bytes_eq (word_at ws 0) (codes "waits")) (rec.Waits (number_of (word_at ws 1))) (
    cond (bytes_eq (word_at ws 0) (codes "admitted")) (rec.Admitted (number_of (word_at ws 1))) (
    cond (bytes_eq (word_at ws 0) (codes "released")) (rec.Released (number_of (word_at ws 1))) (
    cond (bytes_eq (word_at ws 0) (codes "assigned") && bytes_eq (word_at ws 3) (codes "first")) (rec.AssignedFirst (number_of (word_at ws 1)) (number_of (word_at ws 2)) (word_at ws 4) (number_of (word_at ws 5)) (choice_of (word_at ws 6)) (choice_of (word_at ws 7))) (
    cond (bytes_eq (word_at ws 0) (codes "assigned")) (rec.AssignedLater (number_of (word_at ws 1)) (number_of (word_at ws 2)) (word_at ws 4) (number_of (word_at ws 5)) (choice_of (word_at ws 6)) (number_of (word_at ws 7)) (number_of (word_at ws 8))) (
    cond (bytes_eq (word_at ws 0) (codes "batchover")) (rec.BatchOver (number_of (word_at ws 1))) (
    cond (bytes_eq (word_at ws 0) (codes "served")) (rec.Served (place_of (word_at ws 1)) (number_of (word_at ws 2)) (number_of (word_at ws 3)) (number_of (word_at ws 4)) (number_of (word_at ws 5)) (via_of (word_at ws 6))) (
    cond (bytes_eq (word_at ws 0) (codes "hit")) (rec.Hit (node_of (word_at ws 1)) (word_at ws 2)) (
    cond (bytes_eq (word_at ws 0) (codes "queued")) (rec.Queued (node_of (word_at ws 1)) (node_of (word_at ws 2)) (number_of (word_at ws 3)) (number_of (word_at ws 4)) (word_at ws 5)) (
    cond (bytes_eq (word_at ws 0) (codes "read")) (rec.Read (node_of (word_at ws 1)) (node_of (word_at ws 2)) (number_of (word_at ws 3)) (number_of (word_at ws 4)) (word_at ws 5)) (
    cond (bytes_eq (word_at ws 0) (codes "closed")) (rec.Closed (node_of (word_at ws 1))) (
    cond (bytes_eq (word_at ws 0) (codes "armed")) (rec.Armed (place_of (word_at ws 1)) (number_of (word_at ws 2)) (kind_of (word_at ws 3))) (
    cond (bytes_eq (word_at ws 0) (codes "cleared")) (rec.Cleared (place_of (word_at ws 1)) (number_of (word_at ws 2)) (kind_of (word_at ws 3))) (
    cond (bytes_eq (word_at ws 0) (codes "reset")) (rec.Reset (place_of (word_at ws 1)) (number_of (word_at ws 2)) (number_of (word_at ws 3))) (
    cond (bytes_eq (word_at ws 0) (codes "aborted")) (rec.Aborted (number_of (word_at ws 1))) (
    cond (bytes_eq (word_at ws 0) (codes "injected")) (rec.Injected (number_of (word_at ws 1))) (
    cond (bytes_eq (word_at ws 0) (codes "clock")) (rec.Clock (record { 0 = number_of (word_at ws 1) })) (
    cond (bytes_eq (word_at ws 0) (codes "settled")) (rec.Settled (number_of (word_at ws 1))) (rec.Unsettled (number_of (word_at ws 1)) (number_of (word_at ws 2)))))))))))))))))))))))))))))))

-- what each kind of word is read back as

-- a number is read back
pub number_back : (n : ℕ) → IsNumber n → number_of (decimal n) ≡ n
number_back n h = (decimal_is_IsNumeral n h).1

-- bytes are read back
bytes_back : (bytes : List ℕ) → IsBytes bytes → bytes_of (encode_lower bytes) ≡ bytes
bytes_back bytes h = ap (λ r. result_unwrap_or r []) (decode_of-encode_lower bytes h)

-- a place is read back
place_back : (place : Place) → IsPlaceInRange place → place_of (place_word place) ≡ place
place_back Front h = refl
place_back (Node n) h = ap Node (number_back n h)
place_back (Client c) h = ap Client (number_back c h)

-- a digit is not a dash
not_dash : (b : ℕ) → digit_value b < 10 → (b == 45) ≡ false
not_dash b h = grind (arith, nat_tests)

-- what has digits alone is no dash
some_back : (word : List ℕ) → IsNumeral 10 word → choice_of word ≡ Some (number_of word)
some_back [] h = absurd (omega arith)
some_back (b ∷ digits) h = rw (not_dash b h.1.0) refl

-- a choice is read back
choice_back : (n : Option ℕ) → IsChoiceInRange n → choice_of (choice_word n) ≡ n
choice_back None h = refl
choice_back (Some n) h = some_back (decimal n) (decimal_is_IsNumeral n h).0 ∙ ap Some (number_back n h)

-- where a content came from is read back
via_back : (v : Via) → IsViaInRange v → via_of (via_word v) ≡ v
via_back via.Own h = refl
via_back via.Cache h = refl
via_back via.Disk h = refl
via_back (via.Node m) h = ap via.Node (number_back m h)

-- a timer's kind is read back
kind_back : (kind : TimerKind) → kind_of (kind_word kind) ≡ kind
kind_back Tcp = refl
kind_back Offer = refl
kind_back Ask = refl
kind_back Fetch = refl
kind_back Ended = refl
kind_back Give = refl

-- an event is read back from its words
event_back : (e : Event) → IsEventInRange e → event_of (event_words e) ≡ e
event_back (event.Open c isn iss wnd mss) h = cc (number_back c h.0, number_back isn h.1, number_back iss h.2, number_back wnd h.3, number_back mss h.4)
event_back (event.Get c path) h = cc (number_back c h.0)
event_back (event.Write c bytes) h = cc (number_back c h.0, bytes_back bytes h.1)
event_back (event.Shut c) h = cc (number_back c h)
event_back (event.Abort c) h = cc (number_back c h)
event_back (event.Hold c) h = cc (number_back c h)
event_back (event.Take c) h = cc (number_back c h)
event_back (event.Deliver k) h = cc (number_back k h)
event_back (event.Lose k) h = cc (number_back k h)
event_back (event.Timer place c) h = cc (place_back place h.0, number_back c h.1)
event_back (event.Disk n j) h = cc (number_back n h.0, number_back j h.1)
event_back (event.Drain n) h = cc (number_back n h)
event_back (event.Clock ms) h = cc (number_back ms h)
event_back (event.Settle rounds) h = cc (number_back rounds h)
event_back (event.Inject c bytes) h = cc (number_back c h.0, bytes_back bytes h.1)

-- the words are plain

-- a byte above the space is plain
plain_byte : (b : ℕ) → 32 < b → is_plain_byte b ≡ true
plain_byte b h = grind (arith, nat_tests)

-- a path without spaces is plain
pub plain-path : (path : List ℕ) → IsUnspaced path → is_plain path ≡ true
plain-path path h = list_all-from_AllPass is_plain_byte path (λ k d within. plain_byte (slice_index_or path k d) (h k d within))

-- a node is plain
plain-node : (n : ℕ) → is_plain (node_word n) ≡ true
plain-node n = plain-decimal n

-- a place is plain
plain-place : (place : Place) → is_plain (place_word place) ≡ true
plain-place Front = refl
plain-place (Node n) = plain-decimal n
plain-place (Client c) = plain-decimal c

-- a choice is plain
plain-choice : (n : Option ℕ) → is_plain (choice_word n) ≡ true
plain-choice None = refl
plain-choice (Some n) = plain-decimal n

-- where a content came from is plain
plain-via : (v : Via) → is_plain (via_word v) ≡ true
plain-via via.Own = refl
plain-via via.Cache = refl
plain-via via.Disk = refl
plain-via (via.Node m) = plain-decimal m

-- a timer's kind is plain
plain-kind : (kind : TimerKind) → is_plain (kind_word kind) ≡ true
plain-kind Tcp = refl
plain-kind Offer = refl
plain-kind Ask = refl
plain-kind Fetch = refl
plain-kind Ended = refl
plain-kind Give = refl

-- the words of an event are plain
plain-event : (e : Event) → IsEventInRange e → all_plain (event_words e) ≡ true
plain-event (event.Open c isn iss wnd mss) h = rw (plain-decimal c, plain-decimal isn, plain-decimal iss, plain-decimal wnd, plain-decimal mss) refl
plain-event (event.Get c path) h = rw (plain-decimal c, plain-path path h.1) refl
plain-event (event.Write c bytes) h = rw (plain-decimal c, plain-encode_lower bytes h.1) refl
plain-event (event.Shut c) h = rw (plain-decimal c) refl
plain-event (event.Abort c) h = rw (plain-decimal c) refl
plain-event (event.Hold c) h = rw (plain-decimal c) refl
plain-event (event.Take c) h = rw (plain-decimal c) refl
plain-event (event.Deliver k) h = rw (plain-decimal k) refl
plain-event (event.Lose k) h = rw (plain-decimal k) refl
plain-event (event.Timer place c) h = rw (plain-place place, plain-decimal c) refl
plain-event (event.Disk n j) h = rw (plain-decimal n, plain-decimal j) refl
plain-event (event.Drain n) h = rw (plain-decimal n) refl
plain-event (event.Clock ms) h = rw (plain-decimal ms) refl
plain-event (event.Settle rounds) h = rw (plain-decimal rounds) refl
plain-event (event.Inject c bytes) h = rw (plain-decimal c, plain-encode_lower bytes h.1) refl

-- a record has words, and they are plain
plain-rec : (r : Rec) → IsRecordInRange r → is_sentence (rec_words r) ≡ true
plain-rec (rec.Event i event) h = rw (plain-decimal i, plain-event event h.1) refl
plain-rec (rec.Inner event) h = rw (plain-event event h) refl
plain-rec (rec.Opened c isn iss wnd mss) h = rw (plain-decimal c, plain-decimal isn, plain-decimal iss, plain-decimal wnd, plain-decimal mss) refl
plain-rec (rec.Wrote c bytes) h = rw (plain-decimal c, plain-encode_lower bytes h.1) refl
plain-rec (rec.Sent k from to bytes) h = rw (plain-decimal k, plain-place from, plain-place to, plain-encode_lower bytes h.3) refl
plain-rec (rec.Got k) h = rw (plain-decimal k) refl
plain-rec (rec.Lost k) h = rw (plain-decimal k) refl
plain-rec (rec.Accepted c bytes) h = rw (plain-decimal c, plain-encode_lower bytes h.1) refl
plain-rec (rec.Eof c) h = rw (plain-decimal c) refl
plain-rec (rec.Took place c epoch) h = rw (plain-place place, plain-decimal c, plain-decimal epoch.0) refl
plain-rec (rec.Gave place c epoch) h = rw (plain-place place, plain-decimal c, plain-decimal epoch.0) refl
plain-rec (rec.Waits c) h = rw (plain-decimal c) refl
plain-rec (rec.Admitted c) h = rw (plain-decimal c) refl
plain-rec (rec.Released c) h = rw (plain-decimal c) refl
plain-rec (rec.AssignedFirst c r path n add remove) h = rw (plain-decimal c, plain-decimal r, plain-path path h.2, plain-decimal n, plain-choice add, plain-choice remove) refl
plain-rec (rec.AssignedLater c r path n add size queue) h = rw (plain-decimal c, plain-decimal r, plain-path path h.2, plain-decimal n, plain-choice add, plain-decimal size, plain-decimal queue) refl
plain-rec (rec.BatchOver c) h = rw (plain-decimal c) refl
plain-rec (rec.Served place c r code length via) h = rw (plain-place place, plain-decimal c, plain-decimal r, plain-decimal code, plain-decimal length, plain-via via) refl
plain-rec (rec.Hit n path) h = rw (plain-node n, plain-path path h.1) refl
plain-rec (rec.Queued n m c r path) h = rw (plain-node n, plain-node m, plain-decimal c, plain-decimal r, plain-path path h.4) refl
plain-rec (rec.Read n m c r path) h = rw (plain-node n, plain-node m, plain-decimal c, plain-decimal r, plain-path path h.4) refl
plain-rec (rec.Closed n) h = rw (plain-node n) refl
plain-rec (rec.Armed place c kind) h = rw (plain-place place, plain-decimal c, plain-kind kind) refl
plain-rec (rec.Cleared place c kind) h = rw (plain-place place, plain-decimal c, plain-kind kind) refl
plain-rec (rec.Reset place c count) h = rw (plain-place place, plain-decimal c, plain-decimal count) refl
plain-rec (rec.Aborted c) h = rw (plain-decimal c) refl
plain-rec (rec.Injected c) h = rw (plain-decimal c) refl
plain-rec (rec.Clock time) h = rw (plain-decimal time.0) refl
plain-rec (rec.Settled rounds) h = rw (plain-decimal rounds) refl
plain-rec (rec.Unsettled rounds left) h = rw (plain-decimal rounds, plain-decimal left) refl

-- what the words of a record are read back as
rec_back : (r : Rec) → IsRecordInRange r → rec_of (rec_words r) ≡ r
rec_back (rec.Event i event) h = rw (number_back i h.0, event_back event h.1) refl
rec_back (rec.Inner event) h = rw (event_back event h) refl
rec_back (rec.Opened c isn iss wnd mss) h = rw (number_back c h.0, number_back isn h.1, number_back iss h.2, number_back wnd h.3, number_back mss h.4) refl
rec_back (rec.Wrote c bytes) h = rw (number_back c h.0, bytes_back bytes h.1) refl
rec_back (rec.Sent k from to bytes) h = rw (number_back k h.0, place_back from h.1, place_back to h.2, bytes_back bytes h.3) refl
rec_back (rec.Got k) h = rw (number_back k h) refl
rec_back (rec.Lost k) h = rw (number_back k h) refl
rec_back (rec.Accepted c bytes) h = rw (number_back c h.0, bytes_back bytes h.1) refl
rec_back (rec.Eof c) h = rw (number_back c h) refl
rec_back (rec.Took place c epoch) h = rw (place_back place h.0, number_back c h.1, number_back epoch.0 h.2) refl
rec_back (rec.Gave place c epoch) h = rw (place_back place h.0, number_back c h.1, number_back epoch.0 h.2) refl
rec_back (rec.Waits c) h = rw (number_back c h) refl
rec_back (rec.Admitted c) h = rw (number_back c h) refl
rec_back (rec.Released c) h = rw (number_back c h) refl
rec_back (rec.AssignedFirst c r path n add remove) h = rw (number_back c h.0, number_back r h.1, number_back n h.3, choice_back add h.4, choice_back remove h.5) refl
rec_back (rec.AssignedLater c r path n add size queue) h = rw (number_back c h.0, number_back r h.1, number_back n h.3, choice_back add h.4, number_back size h.5, number_back queue h.6) refl
rec_back (rec.BatchOver c) h = rw (number_back c h) refl
rec_back (rec.Served place c r code length via) h = rw (place_back place h.0, number_back c h.1, number_back r h.2, number_back code h.3, number_back length h.4, via_back via h.5) refl
rec_back (rec.Hit n path) h = rw (number_back n h.0) refl
rec_back (rec.Queued n m c r path) h = rw (number_back n h.0, number_back m h.1, number_back c h.2, number_back r h.3) refl
rec_back (rec.Read n m c r path) h = rw (number_back n h.0, number_back m h.1, number_back c h.2, number_back r h.3) refl
rec_back (rec.Closed n) h = rw (number_back n h) refl
rec_back (rec.Armed place c kind) h = rw (place_back place h.0, number_back c h.1, kind_back kind) refl
rec_back (rec.Cleared place c kind) h = rw (place_back place h.0, number_back c h.1, kind_back kind) refl
rec_back (rec.Reset place c count) h = rw (place_back place h.0, number_back c h.1, number_back count h.2) refl
rec_back (rec.Aborted c) h = rw (number_back c h) refl
rec_back (rec.Injected c) h = rw (number_back c h) refl
rec_back (rec.Clock time) h = rw (number_back time.0 h) refl
rec_back (rec.Settled rounds) h = rw (number_back rounds h) refl
rec_back (rec.Unsettled rounds left) h = rw (number_back rounds h.0, number_back left h.1) refl

-- the words of a record's line
pub cut-rec_line : (r : Rec) (rest : List ℕ) → IsRecordInRange r → cut (rec_line r ++ rest) ≡ rec_words r
cut-rec_line r rest h = cut-line_of (rec_words r) rest (plain-rec r h)

-- two texts that begin with lines of records begin with the same record
pub first_rec : (r s : Rec) (behind also_behind : List ℕ) → IsRecordInRange r → IsRecordInRange s → rec_line r ++ behind ≡ rec_line s ++ also_behind → r ≡ s
first_rec r s behind also_behind in_range also_in_range same =
    sym (rec_back r in_range)
    ∙ ap rec_of (sym (cut-rec_line r behind in_range) ∙ ap cut same ∙ cut-rec_line s also_behind also_in_range)
    ∙ rec_back s also_in_range

-- different records have different lines
pub rec_line-injective : (r s : Rec) → IsRecordInRange r → IsRecordInRange s → rec_line r ≡ rec_line s → r ≡ s
rec_line-injective r s in_range also_in_range same =
    first_rec r s [] [] in_range also_in_range (ap (λ line. line ++ []) same)
