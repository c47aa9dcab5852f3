-- Parts of a record: what is found is in range, and what is in range is found where it is spelled.
use Rattle.std.proofs.Common.{◌≡◌, ℕ, ◌-◌, ◌≤◌, ◌<◌, ◌^◌, List, [], ◌∷◌, length, Bool, true, false, cond, Option, Some, None, refl, sym, ap, ◌∙◌, subst, arith}
use Rattle.std.specs.Prelude.{decimal, codes, bytes_eq}
use Rattle.hex.specs.Hex.{encode_lower}
use Rattle.hex.proofs.HexLemmas.{decode_of-encode_lower, decode_of-ok}
use Rattle.lard_base.specs.Spelling.{place_word}
use Rattle.lard_base.specs.declared.place.Place.{Place}
use Rattle.lard_base.specs.declared.place.Place.TheVariants.{Front, Node, Client}
use Rattle.lard_base.specs.declared.place.TimerKind.{TimerKind}
use Rattle.lard_base.specs.declared.place.TimerKind.TheVariants as timer
use Rattle.lard_base.specs.declared.place.Via.{Via}
use Rattle.lard_base.specs.declared.place.Via.TheVariants as via
use Rattle.lard_journal.specs.Report.{choice_word, kind_word, node_word, via_word}
use Rattle.lard_schedule.specs.Words.{◌>>=◌, word_then, number_then, count_up_to, client_then}
use Rattle.lard_schedule.specs.Events.{IsPlace, client_and_word, is_path, place_of, some_bytes_of}
use Rattle.lard_schedule.proofs.Found.{bind_some, some_same, cond_some, ended_some, count_spelled, count_read, number_then_spelled, number_then_read, count_then_spelled, count_then_read, client_and_word_spelled, client_and_word_read}
use Rattle.lard_schedule.proofs.Places.{text_is, place_spelled, place_read, some_bytes_spelled, some_bytes_read}
use Rattle.lard_report.specs.declared.parts.DiskJob.{DiskJob}
use Rattle.lard_report.specs.Parts.{choice_alone, choice_of, choice_then, client_and_bytes, far_via_of, job_of, report_node_at, node_place_of, node_then, packet_words, place_client_number, place_client_timer, place_then, request_words, request_path_then, response_of, timer_kind_of, two_numbers, via_of}
use Rattle.lard_report.specs.Readable.{IsChoice, IsConn, IsReadableNode, IsReadablePath, IsSomeBytes, IsVia}

-- ---- what is found is in range

-- of two answers, the first where a test passes
either_fits : {A : Type 0} (P : A → Type 0) (t : Bool) (x : A) (o : Option A) (y : A) → cond t (Some x) o ≡ Some y → P x → (o ≡ Some y → P y) → P y
either_fits P true x o y e fits more = subst P (some_same x y e) fits
either_fits P false x o y e fits more = more e

node_place : (place : Place) (n : ℕ) → report_node_at place ≡ Some n → place ≡ Node n
node_place Front n e = let none : None ≡ Some n = e in cc
node_place (Node m) n e = ap Node (some_same m n e)
node_place (Client c) n e = let none : None ≡ Some n = e in cc

choice_fits : (word : List ℕ) (choice : Option ℕ) → choice_of word ≡ Some choice → IsChoice choice
choice_fits word choice e =
    either_fits IsChoice (bytes_eq word (codes "-")) None (count_up_to 64 word >>= λ n. Some (Some n)) choice e tt (λ f.
    let n = bind_some (count_up_to 64 word) _ choice f in
    subst IsChoice (some_same (Some n.0) choice n.2) (count_spelled 64 word n.0 n.1).1)

far_via_fits : (word : List ℕ) (v : Via) → far_via_of word ≡ Some v → IsVia v
far_via_fits [] v e = let none : None ≡ Some v = e in cc
far_via_fits (n ∷ []) v e = let none : None ≡ Some v = e in cc
far_via_fits (n ∷ o ∷ []) v e = let none : None ≡ Some v = e in cc
far_via_fits (n ∷ o ∷ d ∷ []) v e = let none : None ≡ Some v = e in cc
far_via_fits (n ∷ o ∷ d ∷ f ∷ digits) v e =
    let m = bind_some (count_up_to 64 digits) _ v e in
    subst IsVia (some_same (via.Node m.0) v m.2) (count_spelled 64 digits m.0 m.1).1

via_fits : (word : List ℕ) (v : Via) → via_of word ≡ Some v → IsVia v
unfolding via_of
via_fits word v e =
    either_fits IsVia (bytes_eq word (codes "own")) via.Own _ v e tt (λ e.
    either_fits IsVia (bytes_eq word (codes "cache")) via.Cache _ v e tt (λ e.
    either_fits IsVia (bytes_eq word (codes "disk")) via.Disk _ v e tt (far_via_fits word v)))

bytes_fit : (word bytes : List ℕ) → some_bytes_of word ≡ Some bytes → IsSomeBytes bytes
bytes_fit word bytes e = let read = some_bytes_spelled word bytes e in ((decode_of-ok word bytes read.0).3, read.1)

pub place_then_fits : (words : List (List ℕ)) (found : Place × List (List ℕ)) → place_then words ≡ Some found → IsPlace found.0
unfolding place_then
place_then_fits words found e =
    let word = bind_some (word_then words) _ found e in
    let place = bind_some (place_of word.0.0) _ found word.2 in
    subst (λ (p : Place × List (List ℕ)). IsPlace p.0) (some_same (place.0, word.0.1) found place.2) (place_spelled word.0.0 place.0 place.1).1

node_place_fits : (word : List ℕ) (n : ℕ) → node_place_of word ≡ Some n → IsReadableNode n
node_place_fits word n e =
    let place = bind_some (place_of word) report_node_at n e in
    subst IsPlace (node_place place.0 n place.2) (place_spelled word place.0 place.1).1

pub node_then_fits : (words : List (List ℕ)) (found : ℕ × List (List ℕ)) → node_then words ≡ Some found → IsReadableNode found.0
unfolding node_then
node_then_fits words found e =
    let word = bind_some (word_then words) _ found e in
    let n = bind_some (node_place_of word.0.0) _ found word.2 in
    subst (λ (p : ℕ × List (List ℕ)). IsReadableNode p.0) (some_same (n.0, word.0.1) found n.2) (node_place_fits word.0.0 n.0 n.1)

pub request_path_then_fits : (words : List (List ℕ)) (found : List ℕ × List (List ℕ)) → request_path_then words ≡ Some found → IsReadablePath found.0
unfolding request_path_then
request_path_then_fits words found e =
    let path = bind_some (word_then words) _ found e in
    let tested = cond_some (is_path path.0.0) path.0 found path.2 in
    subst (λ (p : List ℕ × List (List ℕ)). IsReadablePath p.0) tested.1 tested.0

pub choice_then_fits : (words : List (List ℕ)) (found : Option ℕ × List (List ℕ)) → choice_then words ≡ Some found → IsChoice found.0
unfolding choice_then
choice_then_fits words found e =
    let word = bind_some (word_then words) _ found e in
    let choice = bind_some (choice_of word.0.0) _ found word.2 in
    subst (λ (p : Option ℕ × List (List ℕ)). IsChoice p.0) (some_same (choice.0, word.0.1) found choice.2) (choice_fits word.0.0 choice.0 choice.1)

pub choice_alone_fits : (words : List (List ℕ)) (choice : Option ℕ) → choice_alone words ≡ Some choice → IsChoice choice
unfolding choice_alone
choice_alone_fits words choice e =
    let found = bind_some (choice_then words) _ choice e in
    let end = ended_some found.0.1 found.0.0 choice found.2 in
    subst IsChoice end.1 (choice_then_fits words found.0 found.1)

pub client_and_bytes_fit : (words : List (List ℕ)) (found : ℕ × List ℕ) → client_and_bytes words ≡ Some found → IsConn found.0 × IsSomeBytes found.1
unfolding client_and_bytes
client_and_bytes_fit words found e =
    let both = bind_some (client_and_word words) _ found e in
    let bytes = bind_some (some_bytes_of both.0.1) _ found both.2 in
    let c = client_and_word_spelled words both.0 both.1 in
    subst (λ (p : ℕ × List ℕ). IsConn p.0 × IsSomeBytes p.1) (some_same (both.0.0, bytes.0) found bytes.2) (c.1, bytes_fit both.0.1 bytes.0 bytes.1)

pub place_client_number_fits : (most : ℕ) (words : List (List ℕ)) (found : Place × ℕ × ℕ) → most < 2 ^ 64 → place_client_number most words ≡ Some found
    → IsPlace found.0 × IsConn found.1 × (found.2 ≤ most)
unfolding place_client_number
place_client_number_fits most words found wide e =
    let place = bind_some (place_then words) _ found e in
    let c = bind_some (client_then place.0.1) _ found place.2 in
    let n = bind_some (number_then most c.0.1) _ found c.2 in
    let end = ended_some n.0.1 (place.0.0, c.0.0, n.0.0) found n.2 in
    subst (λ (p : Place × ℕ × ℕ). IsPlace p.0 × IsConn p.1 × (p.2 ≤ most)) end.1 (
      place_then_fits words place.0 place.1,
      (count_then_spelled 16384 place.0.1 c.0 c.1).1,
      (number_then_spelled most c.0.1 n.0 wide n.1).1,
    )

pub place_client_timer_fits : (words : List (List ℕ)) (found : Place × ℕ × TimerKind) → place_client_timer words ≡ Some found → IsPlace found.0 × IsConn found.1
unfolding place_client_timer
place_client_timer_fits words found e =
    let place = bind_some (place_then words) _ found e in
    let c = bind_some (client_then place.0.1) _ found place.2 in
    let word = bind_some (word_then c.0.1) _ found c.2 in
    let kind = bind_some (timer_kind_of word.0.0) _ found word.2 in
    let end = ended_some word.0.1 (place.0.0, c.0.0, kind.0) found kind.2 in
    subst (λ (p : Place × ℕ × TimerKind). IsPlace p.0 × IsConn p.1) end.1
    (place_then_fits words place.0 place.1, (count_then_spelled 16384 place.0.1 c.0 c.1).1)

pub packet_fits : (words : List (List ℕ)) (found : Place × Place × List ℕ) → packet_words words ≡ Some found → IsPlace found.0 × IsPlace found.1 × IsSomeBytes found.2
unfolding packet_words
packet_fits words found e =
    let from = bind_some (place_then words) _ found e in
    let to = bind_some (place_then from.0.1) _ found from.2 in
    let word = bind_some (word_then to.0.1) _ found to.2 in
    let bytes = bind_some (some_bytes_of word.0.0) _ found word.2 in
    let end = ended_some word.0.1 (from.0.0, to.0.0, bytes.0) found bytes.2 in
    subst (λ (p : Place × Place × List ℕ). IsPlace p.0 × IsPlace p.1 × IsSomeBytes p.2) end.1
    (place_then_fits words from.0 from.1, place_then_fits from.0.1 to.0 to.1, bytes_fit word.0.0 bytes.0 bytes.1)

request_fits : (words : List (List ℕ)) (found : ℕ × ℕ × List ℕ) → request_words words ≡ Some found → IsConn found.0 × (found.1 < 2 ^ 32) × IsReadablePath found.2
unfolding request_words
request_fits words found e =
    let c = bind_some (client_then words) _ found e in
    let r = bind_some (number_then (2 ^ 32 - 1) c.0.1) _ found c.2 in
    let path = bind_some (request_path_then r.0.1) _ found r.2 in
    let end = ended_some path.0.1 (c.0.0, r.0.0, path.0.0) found path.2 in
    let small = number_then_spelled (2 ^ 32 - 1) c.0.1 r.0 (omega arith) r.1 in
    subst (λ (p : ℕ × ℕ × List ℕ). IsConn p.0 × (p.1 < 2 ^ 32) × IsReadablePath p.2) end.1
    ((count_then_spelled 16384 words c.0 c.1).1, omega (arith, small.1), request_path_then_fits r.0.1 path.0 path.1)

-- the parts of a job are in range
abbrev pub IsJob : DiskJob → Type 0
IsJob job = IsReadableNode job.n × IsReadableNode job.m × IsConn job.c × (job.r < 2 ^ 32) × IsReadablePath job.path

pub job_fits : (words : List (List ℕ)) (job : DiskJob) → job_of words ≡ Some job → IsJob job
unfolding job_of
job_fits words job e =
    let n = bind_some (node_then words) _ job e in
    let m = bind_some (node_then n.0.1) _ job n.2 in
    let request = bind_some (request_words m.0.1) _ job m.2 in
    let fits = request_fits m.0.1 request.0 request.1 in
    subst IsJob (some_same (record { n = n.0.0; m = m.0.0; c = request.0.0; r = request.0.1; path = request.0.2 }) job request.2)
    (node_then_fits words n.0 n.1, node_then_fits n.0.1 m.0 m.1, fits.0, fits.1, fits.2)

pub response_fits : (words : List (List ℕ)) (found : ℕ × ℕ × Via) → response_of words ≡ Some found → (found.0 < 2 ^ 16) × (found.1 < 2 ^ 32) × IsVia found.2
unfolding response_of
response_fits words found e =
    let code = bind_some (number_then (2 ^ 16 - 1) words) _ found e in
    let length = bind_some (number_then (2 ^ 32 - 1) code.0.1) _ found code.2 in
    let word = bind_some (word_then length.0.1) _ found length.2 in
    let via = bind_some (via_of word.0.0) _ found word.2 in
    let end = ended_some word.0.1 (code.0.0, length.0.0, via.0) found via.2 in
    let first = number_then_spelled (2 ^ 16 - 1) words code.0 (omega arith) code.1 in
    let second = number_then_spelled (2 ^ 32 - 1) code.0.1 length.0 (omega arith) length.1 in
    subst (λ (p : ℕ × ℕ × Via). (p.0 < 2 ^ 16) × (p.1 < 2 ^ 32) × IsVia p.2) end.1 (omega (arith, first.1), omega (arith, second.1), via_fits word.0.0 via.0 via.1)

pub two_numbers_fit : (most : ℕ) (words : List (List ℕ)) (found : ℕ × ℕ) → most < 2 ^ 64 → two_numbers most words ≡ Some found → (found.0 < 2 ^ 32) × (found.1 ≤ most)
unfolding two_numbers
two_numbers_fit most words found wide e =
    let first = bind_some (number_then (2 ^ 32 - 1) words) _ found e in
    let second = bind_some (number_then most first.0.1) _ found first.2 in
    let end = ended_some second.0.1 (first.0.0, second.0.0) found second.2 in
    let small = number_then_spelled (2 ^ 32 - 1) words first.0 (omega arith) first.1 in
    subst (λ (p : ℕ × ℕ). (p.0 < 2 ^ 32) × (p.1 ≤ most)) end.1 (omega (arith, small.1), (number_then_spelled most first.0.1 second.0 wide second.1).1)

-- ---- what is in range is found where it is spelled

dash_is_no_count : count_up_to 64 (codes "-") ≡ None
unfolding count_up_to
dash_is_no_count = refl

no_dash : (n : ℕ) → IsReadableNode n → bytes_eq (decimal n) (codes "-") ≡ false
no_dash n range = go (bytes_eq (decimal n) (codes "-")) refl where
  go : (t : Bool) → bytes_eq (decimal n) (codes "-") ≡ t → t ≡ false
  go false f = refl
  go true f = let clash : Some n ≡ None = sym (count_read 64 n (omega arith) range) ∙ ap (count_up_to 64) (text_is _ _ f) ∙ dash_is_no_count in cc

choice_read : (choice : Option ℕ) → IsChoice choice → choice_of (choice_word choice) ≡ Some choice
choice_read None fits = refl
choice_read (Some n) fits = rw (no_dash n fits, count_read 64 n (omega arith) fits) refl

via_read : (v : Via) → IsVia v → via_of (via_word v) ≡ Some v
unfolding via_of
via_read via.Own fits = refl
via_read via.Cache fits = refl
via_read via.Disk fits = refl
via_read (via.Node m) fits = ap (λ o. o >>= λ n. Some (via.Node n)) (count_read 64 m (omega arith) fits)

timer_kind_read : (kind : TimerKind) → timer_kind_of (kind_word kind) ≡ Some kind
unfolding timer_kind_of
timer_kind_read timer.Tcp = refl
timer_kind_read timer.Offer = refl
timer_kind_read timer.Ask = refl
timer_kind_read timer.Fetch = refl
timer_kind_read timer.Ended = refl
timer_kind_read timer.Give = refl

bytes_read : (bytes : List ℕ) → IsSomeBytes bytes → some_bytes_of (encode_lower bytes) ≡ Some bytes
bytes_read bytes fits = some_bytes_read (encode_lower bytes) bytes (decode_of-encode_lower bytes fits.0) fits.1

pub place_then_read : (place : Place) (words : List (List ℕ)) → IsPlace place → place_then (place_word place ∷ words) ≡ Some (place, words)
unfolding place_then
place_then_read place words fits = rw (place_read place fits) refl

pub node_then_read : (n : ℕ) (words : List (List ℕ)) → IsReadableNode n → node_then (node_word n ∷ words) ≡ Some (n, words)
unfolding node_then
node_then_read n words fits = rw (place_read (Node n) fits) refl

pub request_path_then_read : (path : List ℕ) (words : List (List ℕ)) → IsReadablePath path → request_path_then (path ∷ words) ≡ Some (path, words)
unfolding request_path_then
request_path_then_read path words fits = rw fits refl

pub choice_then_read : (choice : Option ℕ) (words : List (List ℕ)) → IsChoice choice → choice_then (choice_word choice ∷ words) ≡ Some (choice, words)
unfolding choice_then
choice_then_read choice words fits = rw (choice_read choice fits) refl

pub choice_alone_read : (choice : Option ℕ) → IsChoice choice → choice_alone (choice_word choice ∷ []) ≡ Some choice
unfolding choice_alone
choice_alone_read choice fits = rw (choice_then_read choice [] fits) refl

pub client_and_bytes_read : (c : ℕ) (bytes : List ℕ) → IsConn c → IsSomeBytes bytes → client_and_bytes (decimal c ∷ encode_lower bytes ∷ []) ≡ Some (c, bytes)
unfolding client_and_bytes
client_and_bytes_read c bytes range fits = rw (client_and_word_read c (encode_lower bytes) range, bytes_read bytes fits) refl

pub place_client_number_read : (most : ℕ) (place : Place) (c n : ℕ) → most < 2 ^ 64 → IsPlace place → IsConn c → n ≤ most
    → place_client_number most (place_word place ∷ decimal c ∷ decimal n ∷ []) ≡ Some (place, c, n)
unfolding place_client_number
place_client_number_read most place c n wide at range small =
    rw (
      place_then_read place (decimal c ∷ decimal n ∷ []) at,
      count_then_read 16384 c (decimal n ∷ []) (omega arith) range,
      number_then_read most n [] wide small,
    ) refl

pub place_client_timer_read : (place : Place) (c : ℕ) (kind : TimerKind) → IsPlace place → IsConn c
    → place_client_timer (place_word place ∷ decimal c ∷ kind_word kind ∷ []) ≡ Some (place, c, kind)
unfolding place_client_timer
place_client_timer_read place c kind at range =
    rw (
      place_then_read place (decimal c ∷ kind_word kind ∷ []) at,
      count_then_read 16384 c (kind_word kind ∷ []) (omega arith) range,
      timer_kind_read kind,
    ) refl

pub packet_read : (from to : Place) (bytes : List ℕ) → IsPlace from → IsPlace to → IsSomeBytes bytes
    → packet_words (place_word from ∷ place_word to ∷ encode_lower bytes ∷ []) ≡ Some (from, to, bytes)
unfolding packet_words
packet_read from to bytes here there fits =
    rw (place_then_read from (place_word to ∷ encode_lower bytes ∷ []) here, place_then_read to (encode_lower bytes ∷ []) there, bytes_read bytes fits) refl

request_read : (c r : ℕ) (path : List ℕ) → IsConn c → r < 2 ^ 32 → IsReadablePath path → request_words (decimal c ∷ decimal r ∷ path ∷ []) ≡ Some (c, r, path)
unfolding request_words
request_read c r path range small fits =
    rw (
      count_then_read 16384 c (decimal r ∷ path ∷ []) (omega arith) range,
      number_then_read (2 ^ 32 - 1) r (path ∷ []) (omega arith) (omega (arith, small)),
      request_path_then_read path [] fits,
    ) refl

pub job_read : (job : DiskJob) → IsJob job → job_of (node_word job.n ∷ node_word job.m ∷ decimal job.c ∷ decimal job.r ∷ job.path ∷ []) ≡ Some job
unfolding job_of
job_read job fits =
    rw (
      node_then_read job.n (node_word job.m ∷ decimal job.c ∷ decimal job.r ∷ job.path ∷ []) fits.0,
      node_then_read job.m (decimal job.c ∷ decimal job.r ∷ job.path ∷ []) fits.1,
      request_read job.c job.r job.path fits.2 fits.3 fits.4,
    ) refl

pub response_read : (code length : ℕ) (via : Via) → code < 2 ^ 16 → length < 2 ^ 32 → IsVia via
    → response_of (decimal code ∷ decimal length ∷ via_word via ∷ []) ≡ Some (code, length, via)
unfolding response_of
response_read code length via short small fits =
    rw (
      number_then_read (2 ^ 16 - 1) code (decimal length ∷ via_word via ∷ []) (omega arith) (omega (arith, short)),
      number_then_read (2 ^ 32 - 1) length (via_word via ∷ []) (omega arith) (omega (arith, small)),
      via_read via fits,
    ) refl

pub two_numbers_read : (most first second : ℕ) → most < 2 ^ 64 → first < 2 ^ 32 → second ≤ most → two_numbers most (decimal first ∷ decimal second ∷ []) ≡ Some (first, second)
unfolding two_numbers
two_numbers_read most first second wide small least =
    rw (number_then_read (2 ^ 32 - 1) first (decimal second ∷ []) (omega arith) (omega (arith, small)), number_then_read most second [] wide least) refl
