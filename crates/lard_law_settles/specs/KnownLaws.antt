-- What is known of each connection in every state that events lead to, so that no unit of what is left to do comes back.
use Rattle.std.specs.Prelude.{◌≡◌, ℕ, false, List, Ok, Some}
use Rattle.lard_law_view.specs.Prelude.{Config, IsReached, Machine, Station, config_check, conn, file_at, setting_of, tale_at, which_leave}
use Rattle.lard_bound.specs.Units.{whole_of}
use Rattle.lard_law_progress.proofs.Given.{Known}

-- It is by what the client wrote so far, which it does not go on with within a settle.
abbrev pub EachConnectionIsKnown : Type 0
EachConnectionIsKnown = (config : Config) (files : List (List ℕ × List ℕ)) → config_check config ≡ Ok tt → (m : Machine) → IsReached config files m → (q : ℕ) → (tale_at (conn m q)).touched ≡ false
    → (st : Station) → (conn m q).part.station ≡ Some st → Known (setting_of m) (whole_of (file_at files) (which_leave m) (tale_at (conn m q)).wrote) (conn m q) st
