-- The kinds of messages. Each has a version, and a number that names it there. A later version is further kinds, with
-- cases of their own in the functions below and a table of its own.
use Rattle.std.specs.Prelude.{ℕ, Bool, ◌==◌, ◌||◌, Option, Some, None, if◌then◌else◌}
use Rattle.lard_message.specs.declared.kind.Kind.{Kind}
use Rattle.lard_message.specs.declared.kind.Kind.TheVariants.{Offer, Taken, Forward, Ask, Tag, Fetch, Content, Ended, EndedAck, Refused, Give, Given}

-- the second version came with the kinds of connections that come back
abbrev pub version_of : Kind → ℕ
version_of Refused = 2
version_of Give = 2
version_of Given = 2
version_of _ = 1

abbrev pub kind_number : Kind → ℕ
kind_number Offer = 1
kind_number Taken = 2
kind_number Forward = 4
kind_number Ask = 5
kind_number Tag = 6
kind_number Fetch = 7
kind_number Content = 8
kind_number Ended = 9
kind_number EndedAck = 10
kind_number Refused = 3
kind_number Give = 11
kind_number Given = 12

-- whether some kind has this version
abbrev pub is_version : ℕ → Bool
is_version version = version == 1 || version == 2

-- the kind of the first version with this number
abbrev pub first_kind : ℕ → Option Kind
first_kind n =
    if n == 1 then Some Offer
    else if n == 2 then Some Taken
    else if n == 4 then Some Forward
    else if n == 5 then Some Ask
    else if n == 6 then Some Tag
    else if n == 7 then Some Fetch
    else if n == 8 then Some Content
    else if n == 9 then Some Ended
    else if n == 10 then Some EndedAck
    else None

-- the kind of the second version with this number
abbrev pub second_kind : ℕ → Option Kind
second_kind n =
    if n == 3 then Some Refused
    else if n == 11 then Some Give
    else if n == 12 then Some Given
    else None

-- the kind with this version and number
abbrev pub kind_named : ℕ → ℕ → Option Kind
kind_named version number =
    if version == 1 then first_kind number
    else if version == 2 then second_kind number
    else None
