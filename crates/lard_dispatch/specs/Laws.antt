-- What any number of calls leave.
use Rattle.std.specs.Prelude.{◌≡◌, ℕ, ◌≤◌, ◌<◌, false, true, is_some, List, [], ◌∷◌, length, Some, None, Ok}
use Rattle.lard_base.specs.Config.{config_check, room_of}
use Rattle.lard_base.specs.declared.config.Config.{Config}
use Rattle.lard_base.specs.declared.ids.Millis.{Millis}
use Rattle.lard_loads.specs.Tally.{admitted, has_other_open, home}
use Rattle.lard_dispatch.specs.declared.dispatch.Ask.{Ask}
use Rattle.lard_dispatch.specs.Books.{Dispatcher, dispatch_begun}
use Rattle.lard_dispatch.specs.Calls.{after_close, after_ended, after_first, after_later, after_leave}
use Rattle.lard_dispatch.specs.Line.{line_waits}
use Rattle.lard_dispatch.specs.Sound.{AreApart}

-- a call of the dispatcher
pub data Call : Type 0 where
  First : ℕ → List ℕ → Millis → Call
  Later : Ask → Millis → Call
  Ended : ℕ → Millis → Call
  Leave : ℕ → Call
  Close : ℕ → Call

-- what the caller of each has to see to
abbrev pub IsAllowed : Dispatcher → Call → Type 0
IsAllowed d (First c target now) = (home d.books.loads c ≡ None) × (line_waits d.books.line c ≡ false)
IsAllowed d (Later ask now) = home d.books.loads ask.c ≡ Some ask.home
IsAllowed d (Ended c now) = is_some (home d.books.loads c) ≡ true
IsAllowed d (Leave c) = Unit {0}
IsAllowed d (Close n) = has_other_open d.books.loads n ≡ true

abbrev pub after_call : Dispatcher → Call → Dispatcher
after_call d (First c target now) = after_first d c target now
after_call d (Later ask now) = after_later d ask now
after_call d (Ended c now) = after_ended d c now
after_call d (Leave c) = after_leave d c
after_call d (Close n) = after_close d n

-- any number of them, one after another
abbrev pub after_calls : Dispatcher → List Call → Dispatcher
after_calls d [] = d
after_calls d (call ∷ calls) = after_calls (after_call d call) calls

abbrev pub AreAllowed : Dispatcher → List Call → Type 0
AreAllowed d [] = Unit {0}
AreAllowed d (call ∷ calls) = IsAllowed d call × AreAllowed (after_call d call) calls

-- At no moment are more connections admitted than there is room for.
abbrev pub AdmitsWithinTheRoom : Type 0
AdmitsWithinTheRoom = (cfg : Config) (calls : List Call) → config_check cfg ≡ Ok tt → AreAllowed (dispatch_begun cfg) calls
    → admitted (after_calls (dispatch_begun cfg) calls).books.loads ≤ room_of cfg

-- Somebody waits only while as many are admitted as there is room for; nobody waits who is admitted, and nobody twice.
abbrev pub WaitsForRoomAlone : Type 0
WaitsForRoomAlone = (cfg : Config) (calls : List Call) → config_check cfg ≡ Ok tt → AreAllowed (dispatch_begun cfg) calls
    → (0 < length (after_calls (dispatch_begun cfg) calls).books.line → admitted (after_calls (dispatch_begun cfg) calls).books.loads ≡ room_of cfg)
    × AreApart (after_calls (dispatch_begun cfg) calls).books.loads.standings (after_calls (dispatch_begun cfg) calls).books.line
