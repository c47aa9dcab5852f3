-- The packets that travel in these journals, byte by byte. All are of connection 1, whose first numbers are 1000 of the client and
-- 5000 of the cluster. Messages are of epoch 2.
use Rattle.std.specs.Prelude.{ℕ, List, [], ◌∷◌}

-- ---- segments

-- The SYN of the client.
abbrev pub syn : List ℕ
syn = 156 ∷ 64 ∷ 0 ∷ 80 ∷ 0 ∷ 0 ∷ 3 ∷ 232 ∷ 0 ∷ 0 ∷ 0 ∷ 0 ∷ 96 ∷ 2 ∷ 255 ∷ 255 ∷ 227 ∷ 171 ∷ 0 ∷ 0 ∷ 2 ∷ 4 ∷ 5 ∷ 180 ∷ []

-- The client acknowledges the SYN of the cluster.
abbrev pub client_acknowledgement : List ℕ
client_acknowledgement = 156 ∷ 64 ∷ 0 ∷ 80 ∷ 0 ∷ 0 ∷ 3 ∷ 233 ∷ 0 ∷ 0 ∷ 19 ∷ 137 ∷ 80 ∷ 16 ∷ 255 ∷ 255 ∷ 231 ∷ 207 ∷ 0 ∷ 0 ∷ []

-- The cluster acknowledges the SYN of the client, and nothing more.
abbrev pub acknowledgement : List ℕ
acknowledgement = 0 ∷ 80 ∷ 156 ∷ 64 ∷ 0 ∷ 0 ∷ 19 ∷ 137 ∷ 0 ∷ 0 ∷ 3 ∷ 233 ∷ 80 ∷ 16 ∷ 64 ∷ 0 ∷ 167 ∷ 207 ∷ 0 ∷ 0 ∷ []

-- The cluster acknowledges the SYN of the client and three bytes of it.
abbrev pub acknowledges_three_bytes : List ℕ
acknowledges_three_bytes = 0 ∷ 80 ∷ 156 ∷ 64 ∷ 0 ∷ 0 ∷ 19 ∷ 137 ∷ 0 ∷ 0 ∷ 3 ∷ 236 ∷ 80 ∷ 16 ∷ 64 ∷ 0 ∷ 167 ∷ 204 ∷ 0 ∷ 0 ∷ []

-- The cluster acknowledges the SYN of the client and its request for /a, 31 bytes.
abbrev pub acknowledges_the_request : List ℕ
acknowledges_the_request = 0 ∷ 80 ∷ 156 ∷ 64 ∷ 0 ∷ 0 ∷ 19 ∷ 137 ∷ 0 ∷ 0 ∷ 4 ∷ 8 ∷ 80 ∷ 16 ∷ 64 ∷ 0 ∷ 167 ∷ 176 ∷ 0 ∷ 0 ∷ []

-- The cluster acknowledges the SYN of the client and two such requests.
abbrev pub acknowledges_two_requests : List ℕ
acknowledges_two_requests = 0 ∷ 80 ∷ 156 ∷ 64 ∷ 0 ∷ 0 ∷ 19 ∷ 137 ∷ 0 ∷ 0 ∷ 4 ∷ 39 ∷ 80 ∷ 16 ∷ 64 ∷ 0 ∷ 167 ∷ 145 ∷ 0 ∷ 0 ∷ []

-- The first two bytes of a response, "HT".
abbrev pub two_bytes : List ℕ
two_bytes = 0 ∷ 80 ∷ 156 ∷ 64 ∷ 0 ∷ 0 ∷ 19 ∷ 137 ∷ 0 ∷ 0 ∷ 3 ∷ 233 ∷ 80 ∷ 24 ∷ 64 ∷ 0 ∷ 95 ∷ 113 ∷ 0 ∷ 0 ∷ 72 ∷ 84 ∷ []

-- Two bytes in their place that are not those, "TT".
abbrev pub two_other_bytes : List ℕ
two_other_bytes = 0 ∷ 80 ∷ 156 ∷ 64 ∷ 0 ∷ 0 ∷ 19 ∷ 137 ∷ 0 ∷ 0 ∷ 3 ∷ 233 ∷ 80 ∷ 24 ∷ 64 ∷ 0 ∷ 83 ∷ 113 ∷ 0 ∷ 0 ∷ 84 ∷ 84 ∷ []

-- The same two bytes, where the first number of the cluster is 4,294,967,295: theirs is 0.
abbrev pub two_bytes_from_zero : List ℕ
two_bytes_from_zero = 0 ∷ 80 ∷ 156 ∷ 64 ∷ 0 ∷ 0 ∷ 0 ∷ 0 ∷ 0 ∷ 0 ∷ 3 ∷ 233 ∷ 80 ∷ 24 ∷ 64 ∷ 0 ∷ 114 ∷ 250 ∷ 0 ∷ 0 ∷ 72 ∷ 84 ∷ []

-- With a number that is not counted modulo 2^32.
abbrev pub two_bytes_from_the_end : List ℕ
two_bytes_from_the_end = 0 ∷ 80 ∷ 156 ∷ 64 ∷ 255 ∷ 255 ∷ 255 ∷ 255 ∷ 0 ∷ 0 ∷ 3 ∷ 233 ∷ 80 ∷ 24 ∷ 64 ∷ 0 ∷ 114 ∷ 250 ∷ 0 ∷ 0 ∷ 72 ∷ 84 ∷ []

-- The FIN of the cluster, directly behind its SYN.
abbrev pub final_segment : List ℕ
final_segment = 0 ∷ 80 ∷ 156 ∷ 64 ∷ 0 ∷ 0 ∷ 19 ∷ 137 ∷ 0 ∷ 0 ∷ 3 ∷ 233 ∷ 80 ∷ 17 ∷ 64 ∷ 0 ∷ 167 ∷ 206 ∷ 0 ∷ 0 ∷ []

-- The cluster resets the connection.
abbrev pub reset_segment : List ℕ
reset_segment = 0 ∷ 80 ∷ 156 ∷ 64 ∷ 0 ∷ 0 ∷ 19 ∷ 137 ∷ 0 ∷ 0 ∷ 0 ∷ 0 ∷ 80 ∷ 4 ∷ 0 ∷ 0 ∷ 235 ∷ 196 ∷ 0 ∷ 0 ∷ []

-- ---- messages

-- An Offer that carries the request for /a, 31 bytes, which came and was not read.
abbrev pub offer : List ℕ
offer = 1 ∷ 1 ∷ 0 ∷ 1 ∷ 0 ∷ 2 ∷ 0 ∷ 0 ∷ 0 ∷ 66 ∷ 0 ∷ 0 ∷ 3 ∷ 232 ∷ 0 ∷ 0 ∷ 19 ∷ 136 ∷ 0 ∷ 0 ∷ 0 ∷ 31 ∷ 0 ∷ 0 ∷ 0 ∷ 0 ∷ 1 ∷ 255 ∷ 255 ∷ 0 ∷ 0 ∷ 3 ∷ 233 ∷ 0 ∷ 0 ∷ 19 ∷ 137 ∷ 5 ∷ 180 ∷ 0 ∷ 0 ∷ 0 ∷ 0 ∷ 0 ∷ 31 ∷ 71 ∷ 69 ∷ 84 ∷ 32 ∷ 47 ∷ 97 ∷ 32 ∷ 72 ∷ 84 ∷ 84 ∷ 80 ∷ 47 ∷ 49 ∷ 46 ∷ 49 ∷ 13 ∷ 10 ∷ 72 ∷ 111 ∷ 115 ∷ 116 ∷ 58 ∷ 32 ∷ 108 ∷ 97 ∷ 114 ∷ 100 ∷ 13 ∷ 10 ∷ 13 ∷ 10 ∷ []

-- An Offer that says that these 31 bytes came, and carries none of them.
abbrev pub offer_without_bytes : List ℕ
offer_without_bytes = 1 ∷ 1 ∷ 0 ∷ 1 ∷ 0 ∷ 2 ∷ 0 ∷ 0 ∷ 0 ∷ 35 ∷ 0 ∷ 0 ∷ 3 ∷ 232 ∷ 0 ∷ 0 ∷ 19 ∷ 136 ∷ 0 ∷ 0 ∷ 0 ∷ 31 ∷ 0 ∷ 0 ∷ 0 ∷ 0 ∷ 1 ∷ 255 ∷ 255 ∷ 0 ∷ 0 ∷ 3 ∷ 233 ∷ 0 ∷ 0 ∷ 19 ∷ 137 ∷ 5 ∷ 180 ∷ 0 ∷ 0 ∷ 0 ∷ 0 ∷ 0 ∷ 0 ∷ []

-- A Give that says the same.
abbrev pub give_without_bytes : List ℕ
give_without_bytes = 2 ∷ 11 ∷ 0 ∷ 1 ∷ 0 ∷ 2 ∷ 0 ∷ 0 ∷ 0 ∷ 35 ∷ 0 ∷ 0 ∷ 3 ∷ 232 ∷ 0 ∷ 0 ∷ 19 ∷ 136 ∷ 0 ∷ 0 ∷ 0 ∷ 31 ∷ 0 ∷ 0 ∷ 0 ∷ 0 ∷ 1 ∷ 255 ∷ 255 ∷ 0 ∷ 0 ∷ 3 ∷ 233 ∷ 0 ∷ 0 ∷ 19 ∷ 137 ∷ 5 ∷ 180 ∷ 0 ∷ 0 ∷ 0 ∷ 0 ∷ 0 ∷ 0 ∷ []

-- The first Ask, with no job in the queue and one request, for /a.
abbrev pub first_ask : List ℕ
first_ask = 1 ∷ 5 ∷ 0 ∷ 1 ∷ 0 ∷ 2 ∷ 0 ∷ 0 ∷ 0 ∷ 14 ∷ 0 ∷ 0 ∷ 0 ∷ 1 ∷ 0 ∷ 0 ∷ 0 ∷ 0 ∷ 1 ∷ 1 ∷ 0 ∷ 2 ∷ 47 ∷ 97 ∷ []

-- The second one.
abbrev pub second_ask : List ℕ
second_ask = 1 ∷ 5 ∷ 0 ∷ 1 ∷ 0 ∷ 2 ∷ 0 ∷ 0 ∷ 0 ∷ 14 ∷ 0 ∷ 0 ∷ 0 ∷ 2 ∷ 0 ∷ 0 ∷ 0 ∷ 0 ∷ 1 ∷ 1 ∷ 0 ∷ 2 ∷ 47 ∷ 97 ∷ []

-- The first one, with three jobs in the queue.
abbrev pub ask_with_a_queue : List ℕ
ask_with_a_queue = 1 ∷ 5 ∷ 0 ∷ 1 ∷ 0 ∷ 2 ∷ 0 ∷ 0 ∷ 0 ∷ 14 ∷ 0 ∷ 0 ∷ 0 ∷ 1 ∷ 0 ∷ 0 ∷ 0 ∷ 3 ∷ 1 ∷ 1 ∷ 0 ∷ 2 ∷ 47 ∷ 97 ∷ []

-- The Tag of the first Ask: its request is assigned to node 1.
abbrev pub tag : List ℕ
tag = 1 ∷ 6 ∷ 0 ∷ 1 ∷ 0 ∷ 2 ∷ 0 ∷ 0 ∷ 0 ∷ 6 ∷ 0 ∷ 0 ∷ 0 ∷ 1 ∷ 1 ∷ 1 ∷ []

-- An Ended: all was said, up to 5001 of the cluster and 1032 of the client.
abbrev pub end_message : List ℕ
end_message = 1 ∷ 9 ∷ 0 ∷ 1 ∷ 0 ∷ 2 ∷ 0 ∷ 0 ∷ 0 ∷ 13 ∷ 0 ∷ 0 ∷ 0 ∷ 19 ∷ 137 ∷ 0 ∷ 0 ∷ 4 ∷ 8 ∷ 0 ∷ 0 ∷ 0 ∷ 0 ∷ []

-- A Refused.
abbrev pub refused : List ℕ
refused = 2 ∷ 3 ∷ 0 ∷ 1 ∷ 0 ∷ 2 ∷ 0 ∷ 0 ∷ 0 ∷ 0 ∷ []

-- The content of request 1, "hi".
abbrev pub content : List ℕ
content = 1 ∷ 8 ∷ 0 ∷ 1 ∷ 0 ∷ 2 ∷ 0 ∷ 0 ∷ 0 ∷ 10 ∷ 0 ∷ 0 ∷ 0 ∷ 1 ∷ 0 ∷ 0 ∷ 0 ∷ 2 ∷ 104 ∷ 105 ∷ []
