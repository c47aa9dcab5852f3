-- What is read as a head is what httparse's grammar spells, and nothing else.
use Rattle.std.proofs.Common.{◌≡◌, ℕ, zero, suc, ◌≤◌, ◌<◌, Bool, true, false, List, [], ◌∷◌, ◌++◌, length, Some, None, cond, refl, sym, ap, ◌∙◌, subst, arith, append_assoc}
use Rattle.std.specs.Prelude.{IsUtf8}
use Rattle.std.specs.Str.{is_utf8}
use Rattle.std.proofs.lemmas.Str.{IsUtf8-from_is_utf8, is_utf8-from_IsUtf8}
use Rattle.httparse.specs.Grammar.{is_token_byte, is_uri_byte, AllPass, LineEnd, print_end, print_blank, print_version, print_section, RequestHead, IsRequestHead, ReadsRequest}
use Rattle.httparse.specs.Pieces.{Stops, is_newline, Word, Newline, Version, Section}
use Rattle.httparse.proofs.PieceLemmas.{space_ends_token, Stops_token}
use Rattle.httparse.proofs.GrammarLemmas.{print_request-append}
use Rattle.lard_request.specs.Head.{Read, word, newline, one_more, blank_from, blank_lines, text_only, version, section, head_parts, alone, head_of}
use Rattle.lard_request.proofs.Words.{bound, bind, same_parts, word-sound, word-complete, newline-sound, newline-complete, newline-none, version-sound, version-complete}
use Rattle.lard_request.proofs.Sections.{section-sound, section-complete, end_some}

-- ---- the empty lines before the request line

blank-sound : (n : ℕ) (text : List ℕ) → text ≡ print_blank (blank_lines n text).0 ++ (blank_lines n text).1
unfolding blank_lines
blank-sound zero text = refl
blank-sound (suc n) text = go (blank-sound n) (newline text) refl where
  go : ((text : List ℕ) → text ≡ print_blank (blank_lines n text).0 ++ (blank_lines n text).1) → (end : Read LineEnd) → newline text ≡ end
      → text ≡ print_blank (blank_from text (blank_lines n) end).0 ++ (blank_from text (blank_lines n) end).1
  go ih None e = refl
  go ih (Some x) e =
      newline-sound text x.0 x.1 e
      ∙ ap (λ v. print_end x.0 ++ v) (ih x.1)
      ∙ sym (append_assoc (print_end x.0) (print_blank (blank_lines n x.1).0) (blank_lines n x.1).1)

blank-complete : (n : ℕ) (ends : List LineEnd) (text rest : List ℕ) → length text ≤ n → text ≡ print_blank ends ++ rest → Stops is_newline rest
    → blank_lines n text ≡ (ends, rest)
unfolding blank_lines
blank-complete zero [] text rest short e stops = ap (λ (v : List ℕ). ([], v)) e
blank-complete (suc n) [] text rest short e stops = ap (blank_from text (blank_lines n)) (newline-none text (subst (Stops is_newline) (sym e) stops)) ∙ ap (λ (v : List ℕ). ([], v)) e
blank-complete zero (x ∷ ends) text rest short e stops =
    absurd (let l : length text ≡ length (print_end x ++ (print_blank ends ++ rest)) = ap length (e ∙ append_assoc (print_end x) (print_blank ends) rest) in omega (arith, l, end_some x (print_blank ends ++ rest)))
blank-complete (suc n) (x ∷ ends) text rest short e stops =
    let parts : text ≡ print_end x ++ (print_blank ends ++ rest) = e ∙ append_assoc (print_end x) (print_blank ends) rest in
    let l : length text ≡ length (print_end x ++ (print_blank ends ++ rest)) = ap length parts in
    ap (blank_from text (blank_lines n)) (newline-complete text x (print_blank ends ++ rest) parts)
    ∙ ap (one_more x) (blank-complete n ends (print_blank ends ++ rest) rest (omega (arith, l, end_some x (print_blank ends ++ rest))) refl stops)

-- ---- the target

text-sound : (word rest target more : List ℕ) → text_only word rest ≡ Some (target, more) → (word ≡ target) × (rest ≡ more) × IsUtf8 word
text-sound word rest target more e = go (is_utf8 word) refl e where
  go : (t : Bool) → is_utf8 word ≡ t → cond {A = Read (List ℕ)} t (Some (word, rest)) None ≡ Some (target, more) → (word ≡ target) × (rest ≡ more) × IsUtf8 word
  go true a h = let same : (word ≡ target) × (rest ≡ more) = same_parts word target rest more h in (same.0, same.1, IsUtf8-from_is_utf8 word a)
  go false a h = cc

text-complete : (target rest : List ℕ) → IsUtf8 target → text_only target rest ≡ Some (target, rest)
text-complete target rest text = ap (λ t. cond {A = Read (List ℕ)} t (Some (target, rest)) None) (is_utf8-from_IsUtf8 target text)

-- ---- the parts behind the empty lines

-- the bytes behind the empty lines spell the parts of the head, and then the rest
record Spells (lines : List LineEnd) (text : List ℕ) (h : RequestHead) (rest : List ℕ) : Type 0 where
  same_lines : h.blank ≡ lines
  valid : IsRequestHead h
  spelled : text ≡ h.method ++ 32 ∷ (h.target ++ 32 ∷ (print_version h.minor ++ (print_end h.line_end ++ (print_section h.fields h.last ++ rest))))

-- parts that stand one behind another
in_a_row : (text method after target same after_target after_text number after_number end after_line last : List ℕ)
    → text ≡ method ++ 32 ∷ after → after ≡ target ++ 32 ∷ after_target → target ≡ same → after_target ≡ after_text → after_text ≡ number ++ after_number
    → after_number ≡ end ++ after_line → after_line ≡ last → text ≡ method ++ 32 ∷ (same ++ 32 ∷ (number ++ (end ++ last)))
in_a_row text method after target same after_target after_text number after_number end after_line last a b c d e f g =
    let line : after_number ≡ end ++ last = f ∙ ap (λ v. end ++ v) g in
    let version : after_text ≡ number ++ (end ++ last) = e ∙ ap (λ v. number ++ v) line in
    let behind : after ≡ same ++ 32 ∷ (number ++ (end ++ last)) = b ∙ ap (λ v. v ++ 32 ∷ after_target) c ∙ ap (λ v. same ++ 32 ∷ v) (d ∙ version) in
    a ∙ ap (λ v. method ++ 32 ∷ v) behind

parts-sound : (lines : List LineEnd) (text : List ℕ) (h : RequestHead) (rest : List ℕ) → head_parts lines text ≡ Some (h, rest) → Spells lines text h rest
parts-sound lines text h rest e =
    let method = bound _ _ _ e in
    let target = bound _ _ _ method.second in
    let text_part = bound _ _ _ target.second in
    let minor = bound _ _ _ text_part.second in
    let line = bound _ _ _ minor.second in
    let fields = bound _ _ _ line.second in
    let found : RequestHead = record { blank = lines; method = method.value; target = text_part.value; minor = minor.value; line_end = line.value; fields = fields.value.0; last = fields.value.1 } in
    let same : (found ≡ h) × (fields.rest ≡ rest) = same_parts found h fields.rest rest fields.second in
    let token : Word is_token_byte 32 method.value text method.rest = word-sound is_token_byte 32 text method.value method.rest method.first in
    let uri : Word is_uri_byte 32 target.value method.rest target.rest = word-sound is_uri_byte 32 method.rest target.value target.rest target.first in
    let utf8 : (target.value ≡ text_part.value) × (target.rest ≡ text_part.rest) × IsUtf8 target.value = text-sound target.value target.rest text_part.value text_part.rest text_part.first in
    let number : Version minor.value text_part.rest minor.rest = version-sound text_part.rest minor.value minor.rest minor.first in
    let ends : Newline line.value minor.rest line.rest = newline-sound minor.rest line.value line.rest line.first in
    let lines_part : Section fields.value line.rest fields.rest = section-sound (length line.rest) line.rest fields.value fields.rest fields.first in
    let spells : Spells lines text found fields.rest = record {
      same_lines = refl;
      valid = record {
        method = (token.0, token.1);
        target = subst (λ (v : List ℕ). (0 < length v) × AllPass is_uri_byte v) utf8.0 (uri.0, uri.1);
        target_text = subst IsUtf8 utf8.0 utf8.2;
        minor = number.0;
        fields = lines_part.0;
      };
      spelled = in_a_row text method.value method.rest target.value text_part.value target.rest text_part.rest (print_version minor.value) minor.rest (print_end line.value) line.rest (print_section fields.value.0 fields.value.1 ++ fields.rest) token.2 uri.2 utf8.0 utf8.1 number.1 ends lines_part.1;
    } in
    subst (λ (v : List ℕ). Spells lines text h v) same.1 (subst (λ (k : RequestHead). Spells lines text k fields.rest) same.0 spells)

parts-complete : (h : RequestHead) (text rest : List ℕ) → IsRequestHead h
    → text ≡ h.method ++ 32 ∷ (h.target ++ 32 ∷ (print_version h.minor ++ (print_end h.line_end ++ (print_section h.fields h.last ++ rest))))
    → head_parts h.blank text ≡ Some (h, rest)
parts-complete h text rest valid e =
    let after_line = print_section h.fields h.last ++ rest in
    let after_version = print_end h.line_end ++ after_line in
    let after_text = print_version h.minor ++ after_version in
    let after_method = h.target ++ 32 ∷ after_text in
    bind (word is_token_byte 32 text) _ h.method after_method (word-complete is_token_byte 32 text h.method after_method space_ends_token (valid.method.0, valid.method.1, e))
    ∙ bind (word is_uri_byte 32 after_method) _ h.target after_text (word-complete is_uri_byte 32 after_method h.target after_text refl (valid.target.0, valid.target.1, refl))
    ∙ bind (text_only h.target after_text) _ h.target after_text (text-complete h.target after_text valid.target_text)
    ∙ bind (version after_text) _ h.minor after_version (version-complete after_text h.minor after_version (valid.minor, refl))
    ∙ bind (newline after_version) _ h.line_end after_line (newline-complete after_version h.line_end after_line refl)
    ∙ bind (section (length after_line) after_line) _ (h.fields, h.last) rest (section-complete (length after_line) h.fields h.last after_line rest (omega arith) (valid.fields, refl))

-- ---- the head

alone-is : (x : Read RequestHead) (h : RequestHead) → alone x ≡ Some h → x ≡ Some (h, [])
alone-is None h e = cc
alone-is (Some (head, [])) h e = let same : head ≡ h = cc in ap (λ (k : RequestHead). Some (k, [])) same
alone-is (Some (head, b ∷ rest)) h e = cc

-- what is read is a head of the grammar, from its first to its last byte
pub head-sound : (b : List ℕ) (h : RequestHead) → head_of b ≡ Some h → ReadsRequest b h []
unfolding head_of
head-sound b h e =
    let lines = (blank_lines (length b) b).0 in
    let text = (blank_lines (length b) b).1 in
    let spells = parts-sound lines text h [] (alone-is (head_parts lines text) h e) in
    let parts = h.method ++ 32 ∷ (h.target ++ 32 ∷ (print_version h.minor ++ (print_end h.line_end ++ (print_section h.fields h.last ++ [])))) in (
      spells.valid,
      blank-sound (length b) b ∙ ap (λ v. print_blank lines ++ v) spells.spelled ∙ ap (λ v. print_blank v ++ parts) (sym spells.same_lines) ∙ sym (print_request-append h []),
    )

-- and each head of the grammar is read
pub head-complete : (b : List ℕ) (h : RequestHead) → ReadsRequest b h [] → head_of b ≡ Some h
unfolding head_of
head-complete b h x =
    let text = h.method ++ 32 ∷ (h.target ++ 32 ∷ (print_version h.minor ++ (print_end h.line_end ++ (print_section h.fields h.last ++ [])))) in
    let lines : blank_lines (length b) b ≡ (h.blank, text) =
    blank-complete (length b) h.blank b text (omega arith) (x.1 ∙ print_request-append h []) (Stops_token h.method _ x.0.method.0 x.0.method.1) in
    ap (λ (v : List LineEnd × List ℕ). alone (head_parts v.0 v.1)) lines ∙ ap alone (parts-complete h text [] x.0 refl)
