-- What the fields of a head say (RFC 9110, 5).
use Rattle.std.specs.Prelude.{ℕ, Bool, false, ◌||◌, not, List, [], ◌∷◌, map, filter, length, codes, nat_eq, nat_lt}
use Rattle.std.specs.List.{list_all, list_any, slice_split}
use Rattle.std.specs.Char.{is_ascii_alphanumeric}
use Rattle.std.specs.Str.{bytes_eq, str_eq_ignore_ascii_case}
use Rattle.httparse.specs.Grammar.{Field, field_value, trim_ows}

-- the field has this name, in any case of its letters
abbrev pub is_named : List ℕ → Field → Bool
is_named name f = str_eq_ignore_ascii_case f.name name

-- the values of the fields with a name, in order, without the spaces and tabs around them
unfoldable pub values : List ℕ → List Field → List (List ℕ)
values name fields = map field_value (filter (is_named name) fields)

-- a byte of a host or a port (RFC 3986, 3.2.2)
abbrev pub is_host_byte : ℕ → Bool
is_host_byte b = is_ascii_alphanumeric b || list_any (nat_eq b) (codes "-._~!$&'()*+,;=:[]%")

abbrev pub is_host : List ℕ → Bool
is_host value = list_all is_host_byte value

-- one Host value at most, none only in HTTP/1.0, and it names a host
abbrev pub good_hosts : ℕ → List (List ℕ) → Bool
good_hosts minor [] = nat_eq minor 0
good_hosts minor (value ∷ []) = is_host value
good_hosts minor (value ∷ other ∷ more) = false

-- the Host fields name one host (RFC 9112, 3.2)
unfoldable pub has_good_host : ℕ → List Field → Bool
has_good_host minor fields = good_hosts minor (values (codes "host") fields)

abbrev pub is_zero : List ℕ → Bool
is_zero value = bytes_eq value (codes "0")

-- some transfer coding, or a length other than 0
abbrev pub told_content : List (List ℕ) → List (List ℕ) → Bool
told_content codings lengths = nat_lt 0 (length codings) || not (list_all is_zero lengths)

-- a request with content: a Transfer-Encoding, or a Content-Length other than 0 (RFC 9112, 6)
unfoldable pub has_content : List Field → Bool
has_content fields = told_content (values (codes "transfer-encoding") fields) (values (codes "content-length") fields)

abbrev pub is_comma : ℕ → Bool
is_comma b = nat_eq b 44

-- a member of a list, without the spaces and tabs around it, is `close` in any case (RFC 9110, 5.6.1)
unfoldable pub is_close : List ℕ → Bool
is_close member = str_eq_ignore_ascii_case (codes "close") (trim_ows member)

-- one of the members between commas is
abbrev pub lists_close : List ℕ → Bool
lists_close value = list_any is_close (slice_split is_comma value)

-- a member of a Connection field says close (RFC 9112, 9.6)
unfoldable pub says_close : List Field → Bool
says_close fields = list_any lists_close (values (codes "connection") fields)
