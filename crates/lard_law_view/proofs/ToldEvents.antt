-- The events of a journal as a schedule gave them, and those that a connection sees of it.
use Rattle.std.proofs.Common.{ℕ, ◌++◌, List, refl, codes}
use Rattle.lard_law_view.specs.Prelude.{request}
use Rattle.lard_law_view.proofs.ByteLists.{AreBytes, bytes-append, bytes-tested}

-- what a get writes
pub request-bytes : (path : List ℕ) → AreBytes path → AreBytes (request path)
request-bytes path h = bytes-append (codes "GET " ++ path) (codes " HTTP/1.1\r\nHost: lard\r\n\r\n")
    (bytes-append (codes "GET ") path (bytes-tested (codes "GET ") refl) h) (bytes-tested (codes " HTTP/1.1\r\nHost: lard\r\n\r\n") refl)
