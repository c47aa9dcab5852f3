-- Fields by name, in a map and in a list.
use Rattle.std.proofs.Common.{◌≡◌, ℕ, suc, ◌+◌, ◌<◌, Bool, true, false, List, [], ◌∷◌, ◌++◌, length, take, map, cond, refl, sym, ap, ◌∙◌, subst, arith, append-nil, get_or, ◌≤◌}
use Rattle.std.specs.Prelude.{filter}
use Rattle.std.specs.Str.{str_eq_ignore_ascii_case, bytes_eq}
use Rattle.std.proofs.lemmas.Bool.{false≢true}
use Rattle.std.proofs.lemmas.List.{map-append, length-append}
use Rattle.std.proofs.lemmas.List.Elements.{filter-append}
use Rattle.std.proofs.lemmas.List.Sums.{sum_by-cons}
use Rattle.std.proofs.Math.Seq.{take-suc}
use Rattle.std.proofs.lemmas.Slice.Eq.{bytes_eq-Decides}
use Rattle.httparse.specs.Grammar.{Field, field_value}
use Rattle.httparse.specs.declared.spans.HeaderSpan.{HeaderSpan}
use Rattle.httparse.specs.Spans.{name_and_value, header_bytes}
use Rattle.http_header.specs.Token.{lowercase}
use Rattle.http_header.specs.FieldName.{IsFieldName, IsHeaderName}
use Rattle.http_header.specs.HeaderMap.{Entry, Entries, get_all, append, value_count}
use Rattle.http_header.proofs.TokenLemmas.{IsFieldName-from_lowercase}
use Rattle.http_header.proofs.HeaderMapLemmas.{get_all-append_same, get_all-append_other}
use Rattle.lard_request.specs.Fields.{is_named, values}
use Rattle.lard_request.specs.Kept.{values_named, Keeps, KeepsMore, GrowsByOne}

-- ---- values by name

-- the field's name is this one
test-named : (field name : List ℕ) → IsHeaderName name → str_eq_ignore_ascii_case field name ≡ bytes_eq (lowercase field) name
test-named field name lower = ap (bytes_eq (lowercase field)) lower.1

named-hit : (name field value : List ℕ) → str_eq_ignore_ascii_case field name ≡ true → values_named name ((field, value) ∷ []) ≡ value ∷ []
unfolding values_named
named-hit name field value hit = ap (λ t. map (λ (f : List ℕ × List ℕ). f.1) (cond t ((field, value) ∷ []) [])) hit

named-miss : (name field value : List ℕ) → str_eq_ignore_ascii_case field name ≡ false → values_named name ((field, value) ∷ []) ≡ []
unfolding values_named
named-miss name field value miss = ap (λ t. map (λ (f : List ℕ × List ℕ). f.1) (cond t ((field, value) ∷ []) [])) miss

-- the values of more fields stand behind those of the first
pub named-append : (name : List ℕ) (first more : List (List ℕ × List ℕ)) → values_named name (first ++ more) ≡ values_named name first ++ values_named name more
unfolding values_named
named-append name first more =
    let has_name = λ (f : List ℕ × List ℕ). str_eq_ignore_ascii_case f.0 name in
    ap (map (λ (f : List ℕ × List ℕ). f.1)) (filter-append has_name first more) ∙ map-append (λ (f : List ℕ × List ℕ). f.1) (filter has_name first) (filter has_name more)

-- the fields of a head, as names and values
pub named-values : (name : List ℕ) (fields : List Field) → values_named name (map name_and_value fields) ≡ values name fields
unfolding values_named values
named-values name [] = refl
named-values name (f ∷ fields) = go (is_named name f) (named-values name fields) where
  go : (t : Bool) → values_named name (map name_and_value fields) ≡ values name fields
      → map (λ (f : List ℕ × List ℕ). f.1) (cond t ((f.name, field_value f) ∷ filter (λ (f : List ℕ × List ℕ). str_eq_ignore_ascii_case f.0 name) (map name_and_value fields)) (filter (λ (f : List ℕ × List ℕ). str_eq_ignore_ascii_case f.0 name) (map name_and_value fields)))
      ≡ map field_value (cond t (f ∷ filter (is_named name) fields) (filter (is_named name) fields))
  go true ih = ap (λ l. field_value f ∷ l) ih
  go false ih = ih

-- ---- one more field

-- it is appended under its name in lower case
pub keeps-appended : (old new : Entries (List ℕ)) (field value : List ℕ) → new ≡ append old (lowercase field) value → KeepsMore old new field value
keeps-appended old new field value is = λ name lower. ap (λ (m : Entries (List ℕ)). get_all m name) is ∙ go name lower (bytes_eq (lowercase field) name) refl where
  go : (name : List ℕ) → IsHeaderName name → (t : Bool) → bytes_eq (lowercase field) name ≡ t
      → get_all (append old (lowercase field) value) name ≡ get_all old name ++ values_named name ((field, value) ∷ [])
  go name lower true e =
      let same : lowercase field ≡ name = (bytes_eq-Decides (lowercase field) name).0 e in
      subst (λ (n : List ℕ). get_all (append old n value) name ≡ get_all old name ++ values_named name ((field, value) ∷ [])) (sym same)
      (get_all-append_same old name value ∙ ap (λ l. get_all old name ++ l) (sym (named-hit name field value (test-named field name lower ∙ e))))
  go name lower false e =
      get_all-append_other old (lowercase field) name value (λ k. false≢true (sym e ∙ (bytes_eq-Decides (lowercase field) name).1 k))
      ∙ sym (append-nil (get_all old name)) ∙ ap (λ l. get_all old name ++ l) (sym (named-miss name field value (test-named field name lower ∙ e)))

-- a name that no map takes is none that is asked for
pub keeps-none : (old : Entries (List ℕ)) (field value : List ℕ) → (IsFieldName field → ⊥) → KeepsMore old old field value
keeps-none old field value never = λ name lower. go name lower (bytes_eq (lowercase field) name) refl where
  go : (name : List ℕ) → IsHeaderName name → (t : Bool) → bytes_eq (lowercase field) name ≡ t → get_all old name ≡ get_all old name ++ values_named name ((field, value) ∷ [])
  go name lower true e = absurd (never (IsFieldName-from_lowercase field (subst IsFieldName (sym ((bytes_eq-Decides (lowercase field) name).0 e)) lower.0)))
  go name lower false e = sym (append-nil (get_all old name)) ∙ ap (λ l. get_all old name ++ l) (sym (named-miss name field value (test-named field name lower ∙ e)))

-- ---- all fields of a slice

pub keeps-nothing : (m : Entries (List ℕ)) → m ≡ [] → Keeps m []
unfolding values_named
keeps-nothing m empty = λ name lower. ap (λ (m : Entries (List ℕ)). get_all m name) empty

pub keeps-next : (old new : Entries (List ℕ)) (block : List ℕ) (spans : List HeaderSpan) (at : ℕ) (d : HeaderSpan) → at < length spans
    → Keeps old (map (header_bytes block) (take at spans))
    → (field value : List ℕ) → field ≡ (header_bytes block (get_or spans at d)).0 → value ≡ (header_bytes block (get_or spans at d)).1 → KeepsMore old new field value
    → Keeps new (map (header_bytes block) (take (at + 1) spans))
keeps-next old new block spans at d inside so_far field value is_field is_value more = λ name lower.
    let next : at + 1 ≡ suc at = omega arith in
    let all : map (header_bytes block) (take (at + 1) spans) ≡ map (header_bytes block) (take at spans) ++ header_bytes block (get_or spans at d) ∷ [] =
    ap (λ k. map (header_bytes block) (take k spans)) next ∙ ap (map (header_bytes block)) (take-suc spans at d inside)
    ∙ map-append (header_bytes block) (take at spans) (get_or spans at d ∷ []) in
    more name lower
    ∙ ap (λ (f : List ℕ × List ℕ). get_all old name ++ values_named name (f ∷ [])) (λ i. (is_field i, is_value i))
    ∙ ap (λ l. l ++ values_named name (header_bytes block (get_or spans at d) ∷ [])) (so_far name lower)
    ∙ sym (named-append name (map (header_bytes block) (take at spans)) (header_bytes block (get_or spans at d) ∷ []))
    ∙ ap (values_named name) (sym all)

-- ---- room

-- a value more is one value more, and one name more at most
grown : (m : Entries (List ℕ)) (name value : List ℕ) → (length (append m name value) ≤ length m + 1) × (value_count (append m name value) ≡ value_count m + 1)
grown [] name value = (omega arith, omega arith)
grown (e ∷ m) name value = go (bytes_eq e.0 name) (grown m name value) where
  count : (e : Entry (List ℕ)) (m : Entries (List ℕ)) → value_count (e ∷ m) ≡ length e.1 + value_count m
  count e m = sum_by-cons (λ (e : Entry (List ℕ)). length e.1) e m

  go : (t : Bool) → (length (append m name value) ≤ length m + 1) × (value_count (append m name value) ≡ value_count m + 1)
      → (length (cond {A = Entries (List ℕ)} t ((e.0, e.1 ++ value ∷ []) ∷ m) (e ∷ append m name value)) ≤ length (e ∷ m) + 1)
      × (value_count (cond {A = Entries (List ℕ)} t ((e.0, e.1 ++ value ∷ []) ∷ m) (e ∷ append m name value)) ≡ value_count (e ∷ m) + 1)
  go true ih = (omega arith, omega (arith, count e m, count (e.0, e.1 ++ value ∷ []) m, length-append e.1 (value ∷ [])))
  go false ih = (omega (arith, ih), omega (arith, ih, count e m, count e (append m name value)))

pub grows-appended : (old new : Entries (List ℕ)) (name value : List ℕ) → new ≡ append old name value → GrowsByOne old new
grows-appended old new name value is = subst (GrowsByOne old) (sym is) ((grown old name value).0, omega (arith, (grown old name value).1))
