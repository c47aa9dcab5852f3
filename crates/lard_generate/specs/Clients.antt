-- What the generated clients do, and how many rounds that takes at most.
use Rattle.std.specs.Prelude.{ℕ, ◌+◌, ◌*◌, nat_eq, List, [], ◌∷◌, ◌++◌, length, sum_by, codes, decimal, slice_index, if◌then◌else◌}
use Rattle.rand_pcg.specs.Lcg.{Lcg}
use Rattle.lard_base.specs.declared.event.Event.{Event}
use Rattle.lard_base.specs.declared.event.Event.TheVariants as event
use Rattle.lard_generate.specs.declared.action.Action.{Action}
use Rattle.lard_generate.specs.declared.action.Action.TheVariants.{Ask, Shut}
use Rattle.lard_generate.specs.Draws.{draw, drawn_word, behind, each}
use Rattle.lard_generate.specs.Files.{generated_path}

-- ---- opens

-- client c opens, with two draws for its initial sequence number and for the cluster's
abbrev pub drawn_open : ℕ → Lcg → List Event × Lcg
drawn_open c g = (event.Open c (drawn_word g) (drawn_word (behind g)) 65535 1460 ∷ [], behind (behind g))

-- ---- requests

-- what a browser's request has behind its path
unfoldable pub fields : List ℕ
fields =
    codes " HTTP/1.1\r\n"
    ++ codes "Host: lard.example\r\n"
    ++ codes "User-Agent: Mozilla/5.0 (X11; Linux x86_64; rv:128.0) Gecko/20100101 Firefox/128.0\r\n"
    ++ codes "Accept: text/html,application/xhtml+xml,application/xml;q=0.9,*/*;q=0.8\r\n"
    ++ codes "Accept-Language: en-US,en;q=0.5\r\n"
    ++ codes "Accept-Encoding: gzip, deflate, br\r\n"
    ++ codes "Connection: keep-alive\r\n"
    ++ codes "Upgrade-Insecure-Requests: 1\r\n"
    ++ codes "Sec-Fetch-Dest: document\r\n"
    ++ codes "Sec-Fetch-Mode: navigate\r\n"
    ++ codes "Sec-Fetch-Site: none\r\n"
    ++ codes "Sec-Fetch-User: ?1\r\n"
    ++ codes "Priority: u=0, i\r\n"
    ++ codes "Pragma: no-cache\r\n"
    ++ codes "Cache-Control: no-cache\r\n"
    ++ codes "DNT: 1\r\n"
    ++ codes "\r\n"

-- the head of a request for a file
abbrev pub request_head : ℕ → List ℕ
request_head file = codes "GET " ++ generated_path file ++ fields

-- client c asks for a file, with a request of its own
abbrev pub drawn_ask : ℕ → ℕ → Lcg → List Action × Lcg
drawn_ask c _ g = (Ask c (draw 256 g) ∷ [], behind g)

-- a client shuts its side unless the draw is 0
abbrev pub shut_at : ℕ → ℕ → List Action
shut_at c draw = if nat_eq draw 0 then [] else Shut c ∷ []

-- client c asks 1 to 10 times, and then shuts or does not
abbrev pub drawn_actions : ℕ → Lcg → List Action × Lcg
drawn_actions c g =
    let asks = each (drawn_ask c) (1 + draw 10 g) (behind g) in
    (asks.0 ++ shut_at c (draw 4 asks.1), behind asks.1)

-- the event of an action
abbrev pub action_event : Action → Event
action_event (Ask c file) = event.Write c (request_head file)
action_event (Shut c) = event.Shut c

-- ---- SYNs

-- packet c, which is the SYN of client c, is lost where the draw is 0, and comes twice where it is 1
abbrev pub fate_at : ℕ → ℕ → List Event
fate_at c draw =
    if nat_eq draw 0 then event.Lose c ∷ []
    else if nat_eq draw 1 then event.Deliver c ∷ event.Deliver c ∷ []
    else []

abbrev pub drawn_fate : ℕ → Lcg → List Event × Lcg
drawn_fate c g = (fate_at c (draw 8 g), behind g)

-- ---- rounds

-- how many requests an action writes, how many bytes these have, and how many bytes their answers have where files have these sizes
abbrev pub requests_written : Action → ℕ
requests_written (Ask c file) = 1
requests_written (Shut c) = 0

abbrev pub bytes_written : Action → ℕ
bytes_written (Ask c file) = length (request_head file)
bytes_written (Shut c) = 0

-- the length of a response that carries so many bytes: its head has 37 bytes and the digits of this number
abbrev pub answer_len : ℕ → ℕ
answer_len size = size + 37 + length (decimal size)

abbrev pub answer_bytes_of : List ℕ → Action → ℕ
answer_bytes_of sizes (Ask c file) = answer_len (slice_index sizes file)
answer_bytes_of sizes (Shut c) = 0

-- the most rounds in which all of it settles: 128 for each client and 128 more, 64 for each request, and 16 for each byte that is written or answered
abbrev pub rounds : ℕ → List ℕ → List Action → ℕ
rounds clients sizes actions =
    128 * (clients + 1) + 64 * sum_by requests_written actions + 16 * (sum_by bytes_written actions + sum_by (answer_bytes_of sizes) actions)
