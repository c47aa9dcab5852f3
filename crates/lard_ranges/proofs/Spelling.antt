-- A value is read as a range exactly where it is spelled so.
use Rattle.std.proofs.Common.{◌≡◌, ℕ, ◌+◌, Bool, true, false, List, [], ◌∷◌, ◌++◌, map, length, take, drop, Option, Some, None, cond, refl, sym, ap, ◌∙◌, arith, append_assoc, codes}
use Rattle.std.specs.List.{position}
use Rattle.std.specs.Option.{IfSome}
use Rattle.std.specs.Char.{to_ascii_lowercase}
use Rattle.std.specs.Str.{str_eq_ignore_ascii_case}
use Rattle.std.proofs.Math.Seq.{take-append-add, drop-append-add}
use Rattle.std.proofs.lemmas.Bool.Decides.{nat_tests}
use Rattle.std.proofs.lemmas.List.{take-append-drop, map-append, length-map}
use Rattle.std.proofs.lemmas.Slice.Eq.{bytes_eq-Decides}
use Rattle.httparse.specs.Grammar.{is_ows, trim_ows}
use Rattle.lard_ranges.specs.declared.reading.Range.{Range}
use Rattle.lard_ranges.specs.declared.reading.Range.TheVariants.{From, Suffix}
use Rattle.lard_ranges.specs.Reading.{is_dash, spec_at, set_read, range_read, IsForward}
use Rattle.lard_ranges.specs.Spelled.{SpellsSpec, SpellsRange}
use Rattle.lard_ranges.proofs.Trimming.{trim-sound, HasVisibleEnds, trim-complete}
use Rattle.lard_ranges.proofs.Specs.{spec-sound, spec-complete, last-shows}

-- ---- the unit

-- what is mapped to a list with a last element has a last element
map-last : (f : ℕ → ℕ) (ws xs : List ℕ) (w : ℕ) → map f xs ≡ ws ++ w ∷ [] → (ys : List ℕ) × (y : ℕ) × (xs ≡ ys ++ y ∷ []) × (map f ys ≡ ws) × (f y ≡ w)
map-last f [] [] w e = cc
map-last f [] (x ∷ []) w e = ([], x, refl, refl, cc)
map-last f [] (x ∷ y ∷ xs) w e = cc
map-last f (v ∷ ws) [] w e = cc
map-last f (v ∷ ws) (x ∷ xs) w e =
    let tails : map f xs ≡ ws ++ w ∷ [] = cc in
    let heads : f x ≡ v = cc in
    let ih = map-last f ws xs w tails in
    (x ∷ ih.0, ih.1, ap (λ l. x ∷ l) ih.2, ap (λ h. h ∷ map f ih.0) heads ∙ ap (λ l. v ∷ l) ih.3, ih.4)

equals-sign : (b : ℕ) → to_ascii_lowercase b ≡ 61 → b ≡ 61
equals-sign b e = grind (arith, nat_tests)

letter-shows : (b : ℕ) → to_ascii_lowercase b ≡ 98 → is_ows b ≡ false
letter-shows b e = grind (arith, nat_tests)

first-shows : (unit : List ℕ) → map to_ascii_lowercase unit ≡ codes "bytes" → (first : ℕ) × (rest : List ℕ) × (unit ≡ first ∷ rest) × (is_ows first ≡ false)
first-shows [] e = cc
first-shows (b ∷ bs) e = let f : to_ascii_lowercase b ≡ 98 = cc in (b, bs, refl, letter-shows b f)

-- ---- a set of one range

-- a unit, `=` and a range
record SpellsSet (set : List ℕ) (range : Range) : Type 0 where
  unit : List ℕ
  spec : List ℕ
  bytes : map to_ascii_lowercase unit ≡ codes "bytes"
  asks : SpellsSpec spec range
  spelled : set ≡ unit ++ 61 ∷ spec

set-sound : (set : List ℕ) (range : Range) → set_read set ≡ Some range → SpellsSet set range
unfolding set_read
set-sound set range e = go (str_eq_ignore_ascii_case (codes "bytes=") (take 6 set)) refl e where
  go : (t : Bool) → str_eq_ignore_ascii_case (codes "bytes=") (take 6 set) ≡ t
      → cond {A = Option Range} t (spec_at (drop 6 set) (position is_dash (drop 6 set))) None ≡ Some range → SpellsSet set range
  go false f g = cc
  go true f g =
      let same : codes "bytes=" ≡ map to_ascii_lowercase (take 6 set) = (bytes_eq-Decides (codes "bytes=") (map to_ascii_lowercase (take 6 set))).0 f in
      let parts = map-last to_ascii_lowercase (codes "bytes") (take 6 set) 61 (sym same) in
      record {
        unit = parts.0;
        spec = drop 6 set;
        bytes = parts.3;
        asks = spec-sound (drop 6 set) range g;
        spelled =
            sym (take-append-drop 6 set)
            ∙ ap (λ w. w ++ drop 6 set) (parts.2 ∙ ap (λ b. parts.0 ++ b ∷ []) (equals-sign parts.1 parts.4))
            ∙ append_assoc parts.0 (61 ∷ []) (drop 6 set);
      }

set-complete : (set : List ℕ) (range : Range) → SpellsSet set range → set_read set ≡ Some range
unfolding set_read
set-complete set range x =
    let five : length x.unit ≡ 5 = sym (length-map x.unit to_ascii_lowercase) ∙ ap length x.bytes in
    let six : 6 ≡ length x.unit + 1 = omega (arith, five) in
    let front : take 6 set ≡ x.unit ++ 61 ∷ [] = ap (λ n. take n set) six ∙ ap (take (length x.unit + 1)) x.spelled ∙ take-append-add x.unit (61 ∷ x.spec) 1 in
    let back : drop 6 set ≡ x.spec = ap (λ n. drop n set) six ∙ ap (drop (length x.unit + 1)) x.spelled ∙ drop-append-add x.unit (61 ∷ x.spec) 1 in
    let low : map to_ascii_lowercase (take 6 set) ≡ codes "bytes=" =
    ap (map to_ascii_lowercase) front ∙ map-append to_ascii_lowercase x.unit (61 ∷ []) ∙ ap (λ u. u ++ 61 ∷ []) x.bytes in
    let t : str_eq_ignore_ascii_case (codes "bytes=") (take 6 set) ≡ true =
    (bytes_eq-Decides (codes "bytes=") (map to_ascii_lowercase (take 6 set))).1 (sym low) in
    ap (λ b. cond {A = Option Range} b (spec_at (drop 6 set) (position is_dash (drop 6 set))) None) t
    ∙ ap (λ s. spec_at s (position is_dash s)) back
    ∙ spec-complete x.spec range x.asks

-- ---- a value

regroup : (before unit spec behind : List ℕ) → before ++ ((unit ++ 61 ∷ spec) ++ behind) ≡ before ++ unit ++ (61 ∷ []) ++ spec ++ behind
regroup before unit spec behind = simp append_assoc

pub read-sound : (value : List ℕ) (range : Range) → range_read value ≡ Some range → SpellsRange value range
read-sound value range e =
    let around = trim-sound value in
    let set = set-sound (trim_ows value) range e in
    record {
      before = around.0;
      unit = set.unit;
      spec = set.spec;
      behind = around.1;
      blank_before = around.2;
      blank_behind = around.3;
      bytes = set.bytes;
      asks = set.asks;
      spelled = around.4 ∙ ap (λ s. around.0 ++ (s ++ around.1)) set.spelled ∙ regroup around.0 set.unit set.spec around.1;
    }

visible : (unit spec : List ℕ) (range : Range) → map to_ascii_lowercase unit ≡ codes "bytes" → SpellsSpec spec range → HasVisibleEnds (unit ++ 61 ∷ spec)
visible unit spec range bytes asks =
    let front = first-shows unit bytes in
    let back = last-shows spec range asks in
    record {
      first = front.0;
      rest = front.1 ++ 61 ∷ spec;
      begins = ap (λ u. u ++ 61 ∷ spec) front.2;
      first_shows = front.3;
      before = unit ++ 61 ∷ back.0;
      last = back.1;
      ends = ap (λ s. unit ++ 61 ∷ s) back.2 ∙ sym (append_assoc unit (61 ∷ back.0) (back.1 ∷ []));
      last_shows = back.3;
    }

pub read-complete : (value : List ℕ) (range : Range) → SpellsRange value range → range_read value ≡ Some range
read-complete value range x =
    ap set_read
    (ap trim_ows (x.spelled ∙ sym (regroup x.before x.unit x.spec x.behind))
    ∙ trim-complete x.before (x.unit ++ 61 ∷ x.spec) x.behind x.blank_before x.blank_behind (visible x.unit x.spec range x.bytes x.asks))
    ∙ set-complete (x.unit ++ 61 ∷ x.spec) range (record { unit = x.unit; spec = x.spec; bytes = x.bytes; asks = x.asks; spelled = refl })

-- ---- in what is read the last byte is not before the first

forward : (spec : List ℕ) (range : Range) → SpellsSpec spec range → IsForward range
forward spec (From first None) x = tt
forward spec (From first (Some last)) x = x.4
forward spec (Suffix len) x = tt

read-forward : (value : List ℕ) (range : Range) → range_read value ≡ Some range → IsForward range
read-forward value range e = let x : SpellsRange value range = read-sound value range e in forward x.spec range x.asks

pub forward-told : (value : List ℕ) (o : Option Range) → range_read value ≡ o → IfSome o IsForward
forward-told value None e = tt
forward-told value (Some range) e = read-forward value range e
