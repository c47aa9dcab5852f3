-- What is so of each packet: it goes to a place in range, has bytes, an Ask of a node names paths, and between two machines of the
-- cluster it is a message.
use Rattle.std.proofs.Common.{◌≡◌, ℕ, ◌≤◌, ◌<◌, ◌^◌, List, [], ◌∷◌, ◌++◌, length, Bool, true, false, Some, Ok, nat_lt, refl, sym, ap, ◌∙◌, subst, arith}
use Rattle.std.proofs.lemmas.Bool.{cond-false, le-ltb}
use Rattle.std.proofs.lemmas.List.{append-nil}
use Rattle.std.specs.Int.{from_be_bytes, to_be_bytes, w16, w32}
use Rattle.std.specs.List.{AllByRecursion, flat_map}
use Rattle.lard_law_view.specs.Prelude.{Body, Client, EndpointParts, FitsFields, Front, IsMessage, IsNumber, IsOfTable, IsPlaceInRange, IsUnspaced, Kind, MAX_SEGMENT_BYTES, Message, Node, Place, Reason, ask_at, body_bytes, byte_at, counted_bytes, decoded_message, ended_body_at, flag_byte, give_at, header_bytes, kind_number, kind_of, number_at, parts_at, parts_bytes, parts_numbers, paths_at, reason_at, reason_byte, spelled_message, version_of}
use Rattle.lard_base.specs.declared.place.Reason.TheVariants as reason
use Rattle.lard_rules.specs.Bounds as cluster
use Rattle.lard_law_connections.proofs.PlacesHeads.{spelled-body}
use Rattle.lard_laws.proofs.RecordsNamed.{IsNamed}
use Rattle.lard_history.proofs.Each.{Each, Each-weaker}
use Rattle.lard_law_view.proofs.ByteLists.{AreBytes, bytes-16, bytes-32, bytes-append, bytes-index, each-behind}
use Rattle.lard_message.specs.declared.message.Body.TheVariants as body
use Rattle.lard_message.proofs.Fields.{bind_then, paths_again, some_same}
use Rattle.lard_message.proofs.Whole.{kind_small, spelled_so}
use Rattle.lard_rules.specs.Node.{message}

-- ---- what a message says of paths

-- the paths that an Ask names have no spaces
abbrev pub HasPaths : Body → Type 0
HasPaths (body.Ask number queue size paths) = Each IsUnspaced paths
HasPaths _ = Unit {0}

-- whatever the bytes say
abbrev pub SaysPaths : List ℕ → Type 0
SaysPaths bytes = (m : Message) → decoded_message bytes ≡ Ok m → HasPaths m.body

abbrev pub AsksBy : Place → List ℕ → Type 0
AsksBy Front bytes = Unit {0}
AsksBy (Node n) bytes = SaysPaths bytes
AsksBy (Client c) bytes = Unit {0}

-- a packet to this place, from that one: a node tells the front end of paths alone
abbrev pub MayAsk : Place → Place → List ℕ → Type 0
MayAsk Front from bytes = AsksBy from bytes
MayAsk (Node n) from bytes = Unit {0}
MayAsk (Client c) from bytes = Unit {0}

-- ---- what is a message

-- the bytes are the spelling of a message
pub record IsSpelled (bytes : List ℕ) : Type 0 where
  pub message : Message
  pub is : IsMessage message
  pub spelled : spelled_message message ≡ bytes

-- a message of a connection that there can be, in an epoch that fits
pub spells : (c epoch : ℕ) (b : Body) → cluster.IsConnNumber c → epoch < 2 ^ 16 → IsOfTable b → FitsFields b → IsSpelled (message c epoch b)
spells c epoch b n early table fits = record {
  message = record { c = c; epoch = record { 0 = epoch }; body = b };
  is = record { some_connection = n.0; connection = n.1; epoch = early; table = table; fits = fits };
  spelled = refl;
}

-- a machine of the cluster sends messages, and a client segments that fit one
abbrev pub SaysBy : Place → List ℕ → Type 0
SaysBy Front bytes = IsSpelled bytes
SaysBy (Node n) bytes = IsSpelled bytes
SaysBy (Client c) bytes = length bytes ≤ MAX_SEGMENT_BYTES

-- a packet to this place, from that one: what goes to a client is no message
abbrev pub MaySay : Place → Place → List ℕ → Type 0
MaySay Front from bytes = SaysBy from bytes
MaySay (Node n) from bytes = SaysBy from bytes
MaySay (Client c) from bytes = Unit {0}

-- ---- all that is so

-- what goes out from a place
abbrev pub IsLetter : Place → Place × List ℕ → Type 0
IsLetter from s = IsPlaceInRange s.0 × AreBytes s.1 × MayAsk s.0 from s.1 × MaySay s.0 from s.1

-- the number of a connection is one of a record
pub conn-number : (c : ℕ) → cluster.IsConnNumber c → IsNumber c
conn-number c n = let most = n.1 in omega (arith, most)

-- ---- what was spelled is bytes

abbrev pub HasBytes : Body → Type 0
HasBytes (body.Offer parts) = AreBytes parts.unread
HasBytes (body.Forward bytes) = AreBytes bytes
HasBytes (body.Ask number queue size paths) = (size < 256) × (length paths < 256) × Each AreBytes paths
HasBytes (body.Tag number nodes) = (length nodes < 256) × AreBytes nodes
HasBytes (body.Fetch r path) = AreBytes path
HasBytes (body.Content r bytes) = AreBytes bytes
HasBytes (body.Give parts) = AreBytes parts.unread
HasBytes _ = Unit {0}

bytes-header : (k : Kind) (c epoch len : ℕ) → AreBytes (header_bytes (version_of k) (kind_number k) c epoch len)
bytes-header k c epoch len =
    let small = kind_small k in
    bytes-append (version_of k ∷ kind_number k ∷ to_be_bytes w16 c ++ to_be_bytes w16 epoch) (to_be_bytes w32 len)
    (bytes-append (version_of k ∷ kind_number k ∷ to_be_bytes w16 c) (to_be_bytes w16 epoch) (omega (arith, small.1), (omega (arith, small.2), bytes-16 c)) (bytes-16 epoch)) (bytes-32 len)

bytes-counted : (bytes : List ℕ) → AreBytes bytes → AreBytes (counted_bytes bytes)
bytes-counted bytes h = bytes-append (to_be_bytes w16 (length bytes)) bytes (bytes-16 (length bytes)) h

bytes-paths : (paths : List (List ℕ)) → Each AreBytes paths → AreBytes (flat_map counted_bytes paths)
bytes-paths [] h = tt
bytes-paths (p ∷ ps) h = bytes-append (counted_bytes p) (flat_map counted_bytes ps) (bytes-counted p h.0) (bytes-paths ps h.1)

flag-small : (b : Bool) → flag_byte b < 256
flag-small true = omega arith
flag-small false = omega arith

bytes-numbers : (p : EndpointParts) → AreBytes (parts_numbers p)
bytes-numbers p =
    let a : List ℕ = to_be_bytes w32 p.irs ++ to_be_bytes w32 p.iss ++ to_be_bytes w32 p.got in
    let b : List ℕ = a ++ flag_byte p.fin ∷ to_be_bytes w32 p.una in
    let c : List ℕ = b ++ to_be_bytes w16 p.wnd ++ to_be_bytes w32 p.wl1 ++ to_be_bytes w32 p.wl2 in
    let in_a : AreBytes a = bytes-append (to_be_bytes w32 p.irs ++ to_be_bytes w32 p.iss) (to_be_bytes w32 p.got) (bytes-append (to_be_bytes w32 p.irs) (to_be_bytes w32 p.iss) (bytes-32 p.irs) (bytes-32 p.iss)) (bytes-32 p.got) in
    let in_b : AreBytes b = bytes-append a (flag_byte p.fin ∷ to_be_bytes w32 p.una) in_a (flag-small p.fin, bytes-32 p.una) in
    let in_c : AreBytes c = bytes-append (b ++ to_be_bytes w16 p.wnd ++ to_be_bytes w32 p.wl1) (to_be_bytes w32 p.wl2)
    (bytes-append (b ++ to_be_bytes w16 p.wnd) (to_be_bytes w32 p.wl1) (bytes-append b (to_be_bytes w16 p.wnd) in_b (bytes-16 p.wnd)) (bytes-32 p.wl1)) (bytes-32 p.wl2) in
    bytes-append (c ++ to_be_bytes w16 p.mss) (to_be_bytes w32 p.served) (bytes-append c (to_be_bytes w16 p.mss) in_c (bytes-16 p.mss)) (bytes-32 p.served)

reason-small : (r : Reason) → reason_byte r < 256
reason-small reason.Closed = omega arith
reason-small reason.Peer = omega arith
reason-small reason.Limit = omega arith

bytes-parts : (p : EndpointParts) → AreBytes p.unread → AreBytes (parts_bytes p)
bytes-parts p h = bytes-append (parts_numbers p) (counted_bytes p.unread) (bytes-numbers p) (bytes-counted p.unread h)

bytes-body : (b : Body) → HasBytes b → AreBytes (body_bytes b)
bytes-body (body.Offer parts) h = bytes-parts parts h
bytes-body (body.Forward bytes) h = h
bytes-body (body.Ask number queue size paths) h =
    bytes-append (to_be_bytes w32 number ++ to_be_bytes w32 queue) (size ∷ length paths ∷ flat_map counted_bytes paths)
    (bytes-append (to_be_bytes w32 number) (to_be_bytes w32 queue) (bytes-32 number) (bytes-32 queue)) (h.0, (h.1, bytes-paths paths h.2))
bytes-body (body.Tag number nodes) h = bytes-append (to_be_bytes w32 number) (length nodes ∷ nodes) (bytes-32 number) (h.0, h.1)
bytes-body (body.Fetch r path) h = bytes-append (to_be_bytes w32 r) (counted_bytes path) (bytes-32 r) (bytes-counted path h)
bytes-body (body.Content r bytes) h = bytes-append (to_be_bytes w32 r ++ to_be_bytes w32 (length bytes)) bytes (bytes-append (to_be_bytes w32 r) (to_be_bytes w32 (length bytes)) (bytes-32 r) (bytes-32 (length bytes))) h
bytes-body (body.Ended reason snd rcv count) h =
    bytes-append (reason_byte reason ∷ to_be_bytes w32 snd ++ to_be_bytes w32 rcv) (to_be_bytes w32 count)
    (bytes-append (reason_byte reason ∷ to_be_bytes w32 snd) (to_be_bytes w32 rcv) (reason-small reason, bytes-32 snd) (bytes-32 rcv)) (bytes-32 count)
bytes-body (body.Give parts) h = bytes-parts parts h
bytes-body _ h = tt

pub bytes-message : (c epoch : ℕ) (b : Body) → HasBytes b → AreBytes (message c epoch b)
unfolding spelled_message
bytes-message c epoch b h =
    bytes-append (header_bytes (version_of (kind_of b)) (kind_number (kind_of b)) c epoch (length (body_bytes b))) (body_bytes b) (bytes-header (kind_of b) c epoch (length (body_bytes b))) (bytes-body b h)

-- ---- what was decoded of bytes

-- what the bytes spell has numbers in range
pub is-message : (bytes : List ℕ) (m : Message) → AreBytes bytes → decoded_message bytes ≡ Ok m → IsMessage m
is-message bytes m h is = (spelled_so bytes m (bytes-index bytes h) is).0

in-body : (m : Message) → AreBytes (spelled_message m) → AreBytes (body_bytes m.body)
unfolding spelled_message
in-body m h = each-behind (λ b. b < 256) (header_bytes (version_of (kind_of m.body)) (kind_number (kind_of m.body)) m.c m.epoch.0 (length (body_bytes m.body))) (body_bytes m.body) h

body-read : (bytes : List ℕ) (m : Message) → AreBytes bytes → decoded_message bytes ≡ Ok m → AreBytes (body_bytes m.body)
body-read bytes m h is = in-body m (subst AreBytes (sym (spelled_so bytes m (bytes-index bytes h) is).1) h)

unread-read : (parts : EndpointParts) → AreBytes (parts_bytes parts) → AreBytes parts.unread
unread-read parts all = each-behind (λ b. b < 256) (to_be_bytes w16 (length parts.unread)) parts.unread
    (each-behind (λ b. b < 256) (parts_numbers parts) (counted_bytes parts.unread) all)

-- the bytes of an Offer or a Give that were not read, and those of a Forward
pub offer-read : (bytes : List ℕ) (c epoch : ℕ) (parts : EndpointParts) → AreBytes bytes → decoded_message bytes ≡ Ok (record { c = c; epoch = record { 0 = epoch }; body = body.Offer parts }) → AreBytes parts.unread
offer-read bytes c epoch parts h is =
    unread-read parts (body-read bytes (record { c = c; epoch = record { 0 = epoch }; body = body.Offer parts }) h is)

pub give-read : (bytes : List ℕ) (c epoch : ℕ) (parts : EndpointParts) → AreBytes bytes
    → decoded_message bytes ≡ Ok (record { c = c; epoch = record { 0 = epoch }; body = body.Give parts }) → AreBytes parts.unread
give-read bytes c epoch parts h is = unread-read parts (body-read bytes (record { c = c; epoch = record { 0 = epoch }; body = body.Give parts }) h is)

pub forward-read : (bytes : List ℕ) (c epoch : ℕ) (segment : List ℕ) → AreBytes bytes → decoded_message bytes ≡ Ok (record { c = c; epoch = record { 0 = epoch }; body = body.Forward segment }) → AreBytes segment
forward-read bytes c epoch segment h is = body-read bytes (record { c = c; epoch = record { 0 = epoch }; body = body.Forward segment }) h is

-- ---- what an Ask was spelled from is read again

-- a number in front goes, whatever it is
number-first : (n : ℕ) (rest : List ℕ) → number_at w32 (to_be_bytes w32 n ++ rest) ≡ Some (from_be_bytes w32 (to_be_bytes w32 n), rest)
number-first n rest = cond-false (nat_lt (length (to_be_bytes w32 n ++ rest)) 4) _ _ (le-ltb _ _ (omega arith))

short-paths : (paths : List (List ℕ)) → Each IsNamed paths → AllByRecursion (λ (p : List ℕ). length p < 2 ^ 16) paths
short-paths [] h = tt
short-paths (p ∷ ps) h = let most = h.0.2.1 in (omega (arith, most), short-paths ps h.1)

asked-paths : (number queue size : ℕ) (paths : List (List ℕ)) → Each IsNamed paths → (b : Body) (rest : List ℕ) → ask_at (body_bytes (body.Ask number queue size paths)) ≡ Some (b, rest) → HasPaths b
unfolding ask_at
asked-paths number queue size paths h b rest e =
    let r3 : List ℕ = flat_map counted_bytes paths in
    let r2 : List ℕ = size ∷ length paths ∷ r3 in
    let r1 : List ℕ = to_be_bytes w32 queue ++ r2 in
    let y : Body × List ℕ = (b, rest) in
    bind_then (number_at w32 (to_be_bytes w32 number ++ r1)) _ y e (λ a e1 n1.
    bind_then (number_at w32 a.1) _ y n1 (λ t e2 n2.
    bind_then (byte_at t.1) _ y n2 (λ u e3 n3.
    bind_then (byte_at u.1) _ y n3 (λ v e4 n4.
    bind_then (paths_at v.0 v.1) _ y n4 (λ w e5 n5.
    let N : ℕ → ℕ = λ n. from_be_bytes w32 (to_be_bytes w32 n) in
    let first : (N number, r1) ≡ a = some_same (N number, r1) a (sym (number-first number r1) ∙ e1) in
    let second : (N queue, r2) ≡ t = some_same (N queue, r2) t (sym (number-first queue r2) ∙ ap (λ (p : ℕ × List ℕ). number_at w32 p.1) first ∙ e2) in
    let third : (size, length paths ∷ r3) ≡ u = some_same (size, length paths ∷ r3) u (ap (λ (p : ℕ × List ℕ). byte_at p.1) second ∙ e3) in
    let fourth : (length paths, r3) ≡ v = some_same (length paths, r3) v (ap (λ (p : ℕ × List ℕ). byte_at p.1) third ∙ e4) in
    let again : paths_at (length paths) r3 ≡ Some (paths, []) = ap (paths_at (length paths)) (sym (append-nil r3)) ∙ paths_again paths [] (short-paths paths h) in
    let fifth : (paths, []) ≡ w = some_same (paths, []) w (sym again ∙ ap (λ (p : ℕ × List ℕ). paths_at p.0 p.1) fourth ∙ e5) in
    let whole : (body.Ask a.0 t.0 u.0 w.0, w.1) ≡ y = some_same (body.Ask a.0 t.0 u.0 w.0, w.1) y n5 in
    let unspaced : Each IsUnspaced paths = Each-weaker IsNamed IsUnspaced (λ p k. k.0) paths h in
    subst (λ (p : Body × List ℕ). HasPaths p.0) whole (subst (λ (p : List (List ℕ) × List ℕ). Each IsUnspaced p.0) fifth unspaced))))))

pub ask-says : (c epoch number queue size : ℕ) (paths : List (List ℕ)) → Each IsNamed paths → SaysPaths (message c epoch (body.Ask number queue size paths))
ask-says c epoch number queue size paths h m is =
    let read = spelled-body (record { c = c; epoch = record { 0 = epoch }; body = body.Ask number queue size paths }) m is in
    asked-paths number queue size paths h m.body read.0 read.1

pub taken-says : (c epoch : ℕ) → SaysPaths (message c epoch body.Taken)
taken-says c epoch m is =
    let read = spelled-body (record { c = c; epoch = record { 0 = epoch }; body = body.Taken }) m is in
    subst (λ (p : Body × List ℕ). HasPaths p.0) (some_same (body.Taken, []) (m.body, read.0) read.1) tt

pub refused-says : (c epoch : ℕ) → SaysPaths (message c epoch body.Refused)
refused-says c epoch m is =
    let read = spelled-body (record { c = c; epoch = record { 0 = epoch }; body = body.Refused }) m is in
    subst (λ (p : Body × List ℕ). HasPaths p.0) (some_same (body.Refused, []) (m.body, read.0) read.1) tt

ended-none : (bytes : List ℕ) (b : Body) (rest : List ℕ) → ended_body_at bytes ≡ Some (b, rest) → HasPaths b
unfolding ended_body_at
ended-none bytes b rest e =
    let y : Body × List ℕ = (b, rest) in
    bind_then (reason_at bytes) _ y e (λ why e1 n1. bind_then (number_at w32 why.1) _ y n1 (λ snd e2 n2. bind_then (number_at w32 snd.1) _ y n2 (λ rcv e3 n3.
    bind_then (number_at w32 rcv.1) _ y n3 (λ count e4 n4. subst (λ (p : Body × List ℕ). HasPaths p.0) (some_same (body.Ended why.0 snd.0 rcv.0 count.0, count.1) y n4) tt))))

pub ended-says : (c epoch : ℕ) (why : Reason) (snd rcv count : ℕ) → SaysPaths (message c epoch (body.Ended why snd rcv count))
ended-says c epoch why snd rcv count m is =
    let read = spelled-body (record { c = c; epoch = record { 0 = epoch }; body = body.Ended why snd rcv count }) m is in
    ended-none (body_bytes (body.Ended why snd rcv count)) m.body read.0 read.1

give-none : (bytes : List ℕ) (b : Body) (rest : List ℕ) → give_at bytes ≡ Some (b, rest) → HasPaths b
unfolding give_at
give-none bytes b rest e =
    let y : Body × List ℕ = (b, rest) in
    bind_then (parts_at bytes) _ y e (λ given e1 n1. subst (λ (p : Body × List ℕ). HasPaths p.0) (some_same (body.Give given.0, given.1) y n1) tt)

pub give-says : (c epoch : ℕ) (parts : EndpointParts) → SaysPaths (message c epoch (body.Give parts))
give-says c epoch parts m is =
    let read = spelled-body (record { c = c; epoch = record { 0 = epoch }; body = body.Give parts }) m is in
    give-none (body_bytes (body.Give parts)) m.body read.0 read.1
