-- Field lines, and the section that they make.
use Rattle.std.proofs.Common.{◌≡◌, ℕ, zero, suc, ◌≤◌, ◌<◌, List, [], ◌∷◌, ◌++◌, length, Some, None, refl, sym, ap, ◌∙◌, subst, arith, append_assoc}
use Rattle.std.specs.List.{flat_map}
use Rattle.std.proofs.lemmas.List.{length-append}
use Rattle.std.proofs.lemmas.List.Elements.{All-cons, All-nil, All-head, All-tail}
use Rattle.httparse.specs.Grammar.{is_token_byte, is_value_byte, AllPass, LineEnd, crlf, lf, print_end, Field, IsField, print_field, print_section}
use Rattle.httparse.specs.Pieces.{Word, Newline, FieldLine, Section}
use Rattle.httparse.proofs.PieceLemmas.{colon_ends_token, Stops_value, print_field-append, FieldLine_parts, Stops-FieldLine}
use Rattle.lard_request.specs.Head.{Read, run, word, newline, value_ended, field, one_field, section_from, section}
use Rattle.lard_request.proofs.Words.{bound, bind, same_parts, run-parts, run-stops, word-sound, word-complete, newline-sound, newline-complete, newline-none}

-- ---- a field line

pub field-sound : (text : List ℕ) (f : Field) (rest : List ℕ) → field text ≡ Some (f, rest) → FieldLine f text rest
unfolding field
field-sound text f rest e =
    let name = bound (word is_token_byte 58 text) (λ name rest. value_ended name (run is_value_byte rest)) (f, rest) e in
    let raw = run is_value_byte name.rest in
    let line = bound (newline raw.1) (λ end rest. Some (record { name = name.value; raw = raw.0; end = end }, rest)) (f, rest) name.second in
    let found : Field = record { name = name.value; raw = raw.0; end = line.value } in
    let same : (found ≡ f) × (line.rest ≡ rest) = same_parts found f line.rest rest line.second in
    let token : Word is_token_byte 58 name.value text name.rest = word-sound is_token_byte 58 text name.value name.rest name.first in
    let value : AllPass is_value_byte raw.0 × (name.rest ≡ raw.0 ++ raw.1) = run-parts is_value_byte name.rest in
    let ends : Newline line.value raw.1 line.rest = newline-sound raw.1 line.value line.rest line.first in
    let reads : FieldLine found text line.rest = (
      record { name = (token.0, token.1); raw = value.0 },
      token.2
          ∙ ap (λ v. name.value ++ 58 ∷ v) (value.1 ∙ ap (λ v. raw.0 ++ v) ends)
          ∙ sym (print_field-append found line.rest),
    ) in
    subst (λ (v : List ℕ). FieldLine f text v) same.1 (subst (λ (g : Field). FieldLine g text line.rest) same.0 reads)

pub field-complete : (text : List ℕ) (f : Field) (rest : List ℕ) → FieldLine f text rest → field text ≡ Some (f, rest)
unfolding field
field-complete text f rest x =
    let parts = FieldLine_parts f text rest x in
    bind (word is_token_byte 58 text) (λ name rest. value_ended name (run is_value_byte rest)) f.name parts.0 (word-complete is_token_byte 58 text f.name parts.0 colon_ends_token parts.1)
    ∙ ap (λ v. value_ended f.name (run is_value_byte v)) parts.2.1
    ∙ ap (value_ended f.name) (run-stops is_value_byte f.raw (print_end f.end ++ rest) parts.2.0 (Stops_value f.end rest))
    ∙ bind (newline (print_end f.end ++ rest)) (λ end rest. Some (record { name = f.name; raw = f.raw; end = end }, rest)) f.end rest (newline-complete (print_end f.end ++ rest) f.end rest refl)

-- ---- a section

-- a field before a section is a section
joined : (f : Field) (fs : List Field) (last : LineEnd) (text middle rest : List ℕ) → FieldLine f text middle → Section (fs, last) middle rest → Section (f ∷ fs, last) text rest
joined f fs last text middle rest x y = (
  All-cons IsField f fs x.0 y.0,
  x.1 ∙ ap (λ v. print_field f ++ v) y.1 ∙ regroup (print_field f) (flat_map print_field fs) (print_end last) rest,
) where
  regroup : (a b c r : List ℕ) → a ++ ((b ++ c) ++ r) ≡ ((a ++ b) ++ c) ++ r
  regroup a b c r = simp append_assoc

parted : (f : Field) (fs : List Field) (last : LineEnd) (text rest : List ℕ) → Section (f ∷ fs, last) text rest → FieldLine f text (print_section fs last ++ rest) × Section (fs, last) (print_section fs last ++ rest) rest
parted f fs last text rest x = (
  (All-head IsField f fs x.0, x.1 ∙ regroup (print_field f) (flat_map print_field fs) (print_end last) rest),
  (All-tail IsField f fs x.0, refl),
) where
  regroup : (a b c r : List ℕ) → ((a ++ b) ++ c) ++ r ≡ a ++ ((b ++ c) ++ r)
  regroup a b c r = simp append_assoc

pub section-sound : (n : ℕ) (text : List ℕ) (s : List Field × LineEnd) (rest : List ℕ) → section n text ≡ Some (s, rest) → Section s text rest
unfolding section
section-sound zero text s rest e = cc
section-sound (suc n) text s rest e = go (section-sound n) (newline text) refl e where
  go : ((text : List ℕ) (s : List Field × LineEnd) (rest : List ℕ) → section n text ≡ Some (s, rest) → Section s text rest)
      → (end : Read LineEnd) → newline text ≡ end → section_from text (section n) end ≡ Some (s, rest) → Section s text rest
  go ih (Some x) a h =
      let same : (([], x.0) ≡ s) × (x.1 ≡ rest) = same_parts ([], x.0) s x.1 rest h in
      let reads : Section ([], x.0) text x.1 = (All-nil IsField, newline-sound text x.0 x.1 a) in
      subst (λ (v : List ℕ). Section s text v) same.1 (subst (λ (t : List Field × LineEnd). Section t text x.1) same.0 reads)
  go ih None a h =
      let line = bound (field text) (λ f rest. one_field f (section n rest)) (s, rest) h in
      let more = bound (section n line.rest) (λ fields rest. Some ((line.value ∷ fields.0, fields.1), rest)) (s, rest) line.second in
      let same : ((line.value ∷ more.value.0, more.value.1) ≡ s) × (more.rest ≡ rest) = same_parts (line.value ∷ more.value.0, more.value.1) s more.rest rest more.second in
      let reads : Section (line.value ∷ more.value.0, more.value.1) text more.rest =
      joined line.value more.value.0 more.value.1 text line.rest more.rest (field-sound text line.value line.rest line.first) (ih line.rest more.value more.rest more.first) in
      subst (λ (v : List ℕ). Section s text v) same.1 (subst (λ (t : List Field × LineEnd). Section t text more.rest) same.0 reads)

pub end_some : (end : LineEnd) (rest : List ℕ) → length rest < length (print_end end ++ rest)
end_some crlf rest = omega arith
end_some lf rest = omega arith

-- a field line takes one byte or more
line_some : (f : Field) (text rest : List ℕ) → FieldLine f text rest → length rest < length text
line_some f text rest x =
    let e : length text ≡ length (f.name ++ 58 ∷ (f.raw ++ (print_end f.end ++ rest))) = ap length (x.1 ∙ print_field-append f rest) in
    omega (arith, e, length-append f.name (58 ∷ (f.raw ++ (print_end f.end ++ rest))), length-append f.raw (print_end f.end ++ rest), length-append (print_end f.end) rest)

pub section-complete : (n : ℕ) (fields : List Field) (last : LineEnd) (text rest : List ℕ) → length text ≤ n → Section (fields, last) text rest
    → section n text ≡ Some ((fields, last), rest)
unfolding section
section-complete zero [] last text rest short x = absurd (let l : length text ≡ length (print_end last ++ rest) = ap length x.1 in omega (arith, l, end_some last rest))
section-complete zero (f ∷ fs) last text rest short x = absurd (omega (arith, line_some f text (print_section fs last ++ rest) (parted f fs last text rest x).0))
section-complete (suc n) [] last text rest short x = ap (section_from text (section n)) (newline-complete text last rest x.1)
section-complete (suc n) (f ∷ fs) last text rest short x =
    let parts = parted f fs last text rest x in
    let middle = print_section fs last ++ rest in
    let less : length middle < length text = line_some f text middle parts.0 in
    ap (section_from text (section n)) (newline-none text (Stops-FieldLine f text middle parts.0))
    ∙ bind (field text) (λ f rest. one_field f (section n rest)) f middle (field-complete text f middle parts.0)
    ∙ bind (section n middle) (λ fields rest. Some ((f ∷ fields.0, fields.1), rest)) (fs, last) rest (section-complete n fs last middle rest (omega (arith, less, short)) parts.1)
