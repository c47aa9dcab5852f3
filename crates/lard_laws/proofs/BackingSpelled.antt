-- What is read of a Fetch, and of a content, is what was said: its request's number and its path.
use Rattle.std.proofs.Common.{◌≡◌, ◌≤◌, ◌<◌, ◌+◌, ◌^◌, nat_lt, not, ℕ, zero, suc, Bool, true, false, cond, List, [], ◌∷◌, ◌++◌, length, Option, Some, None, Result, Ok, Err, refl, sym, ap, ◌∙◌, subst, arith}
use Rattle.std.proofs.lemmas.List.{append-nil}
use Rattle.std.proofs.lemmas.Bool.{ltb-false}
use Rattle.std.specs.Int.{from_be_bytes, to_be_bytes, w32}
use Rattle.std.specs.List.{slice_get}
use Rattle.lard_law_view.specs.Prelude.{Body, FilesAt, Kind, Message, MsgFault, Verdict, and_path, body_bytes, content_at, counted_at, counted_bytes, decoded_message, fetch_at, good_path, is_version, kind_named, length_at, number_at, number_byte, spelled_message, taken_at, verdicts, version_at, with_kind}
use Rattle.lard_laws.specs.BackingRequests.{IsFor}
use Rattle.lard_law_connections.proofs.FewVerdicts.{verdicts-few}
use Rattle.lard_law_connections.proofs.PlacesHeads.{spelled-body}
use Rattle.lard_laws.specs.Ways.{good_paths}
use Rattle.lard_laws.proofs.WaysShort.{wanted-short}
use Rattle.lard_history.proofs.Each.{Each}
use Rattle.lard_message.specs.declared.fault.MsgFault.TheVariants as fault
use Rattle.lard_message.specs.declared.message.Body.TheVariants as body
use Rattle.lard_message.proofs.Fields.{bind_then, counted_alone, number_again, some_same, taken_again, wide32}
use Rattle.lard_message.proofs.Spelled.{length-spelled}
use Rattle.lard_rules.specs.Node.{message}

-- ---- its number and its path are in range

pub got-within : (vs : List Verdict) (i : ℕ) (v : Verdict) → slice_get vs i ≡ Some v → i < length vs
got-within [] i v e = let no : None ≡ Some v = e in absurd (let f : ⊥ = cc in f)
got-within (x ∷ vs) zero v e = omega arith
got-within (x ∷ vs) (suc i) v e = let le = got-within vs i v e in omega (arith, le)

pub number-small : (files : FilesAt) (wrote : List ℕ) (r : ℕ) (path : List ℕ) → length wrote ≤ 2 ^ 30 → IsFor files wrote r path → r < 2 ^ 32
number-small files wrote r path most h =
    let a = got-within (verdicts wrote) h.before h.verdict h.is in
    let b = verdicts-few wrote in
    let c = h.number in
    omega (arith, a, b, c, most)

one-of-them : (files : FilesAt) (P : List ℕ → Type 0) (vs : List Verdict) (i : ℕ) (v : Verdict) (path : List ℕ) → slice_get vs i ≡ Some v → good_path files v ≡ Some path → Each P (good_paths files vs) → P path
one-of-them files P [] i v path e good h = let no : None ≡ Some v = e in absurd (let f : ⊥ = cc in f)
one-of-them files P (x ∷ vs) zero v path e good h =
    let same : x ≡ v = some_same x v e in
    (subst (λ (o : Option (List ℕ)). Each P (and_path o (good_paths files vs))) (ap (good_path files) same ∙ good) h).0
one-of-them files P (x ∷ vs) (suc i) v path e good h = one-of-them files P vs i v path e good (behind (good_path files x) h) where
  behind : (o : Option (List ℕ)) → Each P (and_path o (good_paths files vs)) → Each P (good_paths files vs)
  behind None k = k
  behind (Some p) k = k.1

pub path-short : (files : FilesAt) (wrote : List ℕ) (r : ℕ) (path : List ℕ) → IsFor files wrote r path → length path < 2 ^ 16
path-short files wrote r path h = one-of-them files (λ (p : List ℕ). length p < 2 ^ 16) (verdicts wrote) h.before h.verdict path h.is h.good (wanted-short files wrote)

-- ---- a Fetch

fetched-body : (r : ℕ) (path : List ℕ) → r < 2 ^ 32 → length path < 2 ^ 16 → (b : Body) (rest : List ℕ) → fetch_at (body_bytes (body.Fetch r path)) ≡ Some (b, rest) → b ≡ body.Fetch r path
unfolding fetch_at
fetched-body r path small short b rest e =
    let y : Body × List ℕ = (b, rest) in
    bind_then (number_at w32 (to_be_bytes w32 r ++ counted_bytes path)) _ y e (λ a e1 n1.
    bind_then (counted_at a.1) _ y n1 (λ t e2 n2.
    let first : (r, counted_bytes path) ≡ a = some_same (r, counted_bytes path) a (sym (number_again w32 (2 ^ 32) wide32 r (counted_bytes path) small) ∙ e1) in
    let second : (path, []) ≡ t = some_same (path, []) t (sym (counted_alone path short) ∙ ap (λ (p : ℕ × List ℕ). counted_at p.1) first ∙ e2) in
    let whole : (body.Fetch a.0 t.0, t.1) ≡ y = some_same (body.Fetch a.0 t.0, t.1) y n2 in
    ap (λ (p : Body × List ℕ). p.0) (sym whole) ∙ (λ i. body.Fetch (sym first i).0 (sym second i).0)))

pub fetch-reads : (c e r : ℕ) (path : List ℕ) → r < 2 ^ 32 → length path < 2 ^ 16 → (m : Message) → decoded_message (message c e (body.Fetch r path)) ≡ Ok m → m.body ≡ body.Fetch r path
fetch-reads c e r path small short m d =
    let read = spelled-body (record { c = c; epoch = record { 0 = e }; body = body.Fetch r path }) m d in
    fetched-body r path small short m.body read.0 read.1

-- ---- a content

through : (b : Bool) (f : MsgFault) (x : Result Message MsgFault) (m : Message) → cond b (Err f) x ≡ Ok m → (b ≡ false) × (x ≡ Ok m)
through true f x m h = let no : ◌≡◌ {A = Result Message MsgFault} (Err f) (Ok m) = h in absurd (let g : ⊥ = cc in g)
through false f x m h = (refl, h)

-- a message is no longer than it says
decoded-length : (bytes : List ℕ) (m : Message) → decoded_message bytes ≡ Ok m → length bytes ≤ 10 + length_at bytes
unfolding decoded_message
decoded-length bytes m h =
    let a = through (nat_lt (length bytes) 10) fault.Short _ m h in
    let b = through (not (is_version (version_at bytes))) fault.Version _ m a.1 in
    by-kind (kind_named (version_at bytes) (number_byte bytes)) b.1 where
      by-kind : (o : Option Kind) → with_kind bytes o ≡ Ok m → length bytes ≤ 10 + length_at bytes
      by-kind None e = let no : ◌≡◌ {A = Result Message MsgFault} (Err fault.Kind) (Ok m) = e in absurd (let g : ⊥ = cc in g)
      by-kind (Some k) e =
          let c = through (nat_lt (length bytes) (10 + length_at bytes)) fault.Length _ m e in
          let d = through (nat_lt (10 + length_at bytes) (length bytes)) fault.Trailing _ m c.1 in
          let le = ltb-false (10 + length_at bytes) (length bytes) d.0 in
          omega (arith, le)

-- which stands in four of its bytes
length-small : (x : Message) → length_at (spelled_message x) < 2 ^ 32
unfolding spelled_message
length-small x =
    let read : from_be_bytes w32 (to_be_bytes w32 (length (body_bytes x.body))) < 2 ^ 32 = omega arith in read

content-body : (r : ℕ) (file : List ℕ) → r < 2 ^ 32 → length file < 2 ^ 32 → (b : Body) (rest : List ℕ) → content_at (body_bytes (body.Content r file)) ≡ Some (b, rest) → b ≡ body.Content r file
unfolding content_at
content-body r file small short b rest e =
    let r1 : List ℕ = to_be_bytes w32 (length file) ++ file in
    let y : Body × List ℕ = (b, rest) in
    bind_then (number_at w32 (to_be_bytes w32 r ++ r1)) _ y e (λ a e1 n1.
    bind_then (number_at w32 a.1) _ y n1 (λ t e2 n2.
    bind_then (taken_at t.0 t.1) _ y n2 (λ u e3 n3.
    let first : (r, r1) ≡ a = some_same (r, r1) a (sym (number_again w32 (2 ^ 32) wide32 r r1 small) ∙ e1) in
    let second : (length file, file) ≡ t = some_same (length file, file) t (sym (number_again w32 (2 ^ 32) wide32 (length file) file short) ∙ ap (λ (p : ℕ × List ℕ). number_at w32 p.1) first ∙ e2) in
    let taken : taken_at (length file) file ≡ Some (file, []) = ap (taken_at (length file)) (sym (append-nil file)) ∙ taken_again (length file) file [] refl in
    let third : (file, []) ≡ u = some_same (file, []) u (sym taken ∙ ap (λ (p : ℕ × List ℕ). taken_at p.0 p.1) second ∙ e3) in
    let whole : (body.Content a.0 u.0, u.1) ≡ y = some_same (body.Content a.0 u.0, u.1) y n3 in
    ap (λ (p : Body × List ℕ). p.0) (sym whole) ∙ (λ i. body.Content (sym first i).0 (sym third i).0))))

pub content-reads : (c e r : ℕ) (file : List ℕ) → r < 2 ^ 32 → (m : Message) → decoded_message (message c e (body.Content r file)) ≡ Ok m → m.body ≡ body.Content r file
content-reads c e r file small m d =
    let x : Message = record { c = c; epoch = record { 0 = e }; body = body.Content r file } in
    let read = spelled-body x m d in
    let most = decoded-length (spelled_message x) m d in
    let long = length-spelled x in
    let four = length-small x in
    let parts : length (body_bytes (body.Content r file)) ≡ 8 + length file = omega arith in
    content-body r file small (omega (arith, most, long, four, parts)) m.body read.0 read.1
