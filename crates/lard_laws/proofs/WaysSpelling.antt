-- What is read of an Ask and of a Tag is what was said.
use Rattle.std.proofs.Common.{◌≡◌, ◌≤◌, ◌<◌, ◌^◌, ℕ, Bool, true, false, List, [], ◌∷◌, ◌++◌, length, Option, Some, None, Ok, nat_lt, refl, sym, ap, ◌∙◌, subst, arith}
use Rattle.std.proofs.lemmas.Bool.{cond-false, le-ltb, ltb-false, ltb-true}
use Rattle.std.proofs.lemmas.List.{append-nil}
use Rattle.std.proofs.lemmas.Nat.{from_be_bytes-to_be_bytes_4}
use Rattle.std.specs.Int.{from_be_bytes, to_be_bytes, w32}
use Rattle.std.specs.List.{AllByRecursion, flat_map}
use Rattle.lard_law_connections.specs.Places.{Head}
use Rattle.lard_law_connections.proofs.PlacesHeads.{decoded-head, spelled-body, spelled-head}
use Rattle.lard_laws.proofs.WaysShort.{AreShort}
use Rattle.lard_law_view.specs.Prelude.{Body, Message, ask_at, body_bytes, byte_at, counted_bytes, decoded_message, nodes_of, number_at, paths_at, spelled_message, tag_at, taken_at}
use Rattle.lard_message.specs.declared.message.Body.TheVariants as body
use Rattle.lard_message.proofs.Fields.{bind_then, nodes_are, paths_again, some_same, taken_again}
use Rattle.lard_rules.specs.Node.{message}

-- ---- a number in four bytes

abbrev read_as : ℕ → ℕ
read_as n = from_be_bytes w32 (to_be_bytes w32 n)

-- is no greater than it was
read-less : (n : ℕ) → read_as n ≤ n
read-less n = go (nat_lt n (2 ^ 32)) refl where
  go : (b : Bool) → nat_lt n (2 ^ 32) ≡ b → read_as n ≤ n
  go true e = let same : read_as n ≡ n = from_be_bytes-to_be_bytes_4 n (ltb-true n (2 ^ 32) e) in omega (arith, same)
  go false e = let more : 2 ^ 32 ≤ n = ltb-false n (2 ^ 32) e in omega (arith, more)

-- what is in front goes, whatever it is
number-first : (n : ℕ) (rest : List ℕ) → number_at w32 (to_be_bytes w32 n ++ rest) ≡ Some (read_as n, rest)
number-first n rest = cond-false (nat_lt (length (to_be_bytes w32 n ++ rest)) 4) _ _ (le-ltb _ _ (omega arith))

short-paths : (paths : List (List ℕ)) → AreShort paths → AllByRecursion (λ (p : List ℕ). length p < 2 ^ 16) paths
short-paths [] h = tt
short-paths (p ∷ ps) h = (h.0, short-paths ps h.1)

-- ---- an Ask

pub record ReadsAsk (number size : ℕ) (paths : List (List ℕ)) (b : Body) : Type 0 where
  pub read : ℕ
  pub queue : ℕ
  pub is : b ≡ body.Ask read queue size paths
  pub less : read ≤ number

asked-body : (number queue size : ℕ) (paths : List (List ℕ)) → AreShort paths → (b : Body) (rest : List ℕ) → ask_at (body_bytes (body.Ask number queue size paths)) ≡ Some (b, rest) → ReadsAsk number size paths b
unfolding ask_at
asked-body number queue size paths h b rest e =
    let r3 : List ℕ = flat_map counted_bytes paths in
    let r2 : List ℕ = size ∷ length paths ∷ r3 in
    let r1 : List ℕ = to_be_bytes w32 queue ++ r2 in
    let y : Body × List ℕ = (b, rest) in
    bind_then (number_at w32 (to_be_bytes w32 number ++ r1)) _ y e (λ a e1 n1.
    bind_then (number_at w32 a.1) _ y n1 (λ t e2 n2.
    bind_then (byte_at t.1) _ y n2 (λ u e3 n3.
    bind_then (byte_at u.1) _ y n3 (λ v e4 n4.
    bind_then (paths_at v.0 v.1) _ y n4 (λ w e5 n5.
    let first : (read_as number, r1) ≡ a = some_same (read_as number, r1) a (sym (number-first number r1) ∙ e1) in
    let second : (read_as queue, r2) ≡ t = some_same (read_as queue, r2) t (sym (number-first queue r2) ∙ ap (λ (p : ℕ × List ℕ). number_at w32 p.1) first ∙ e2) in
    let third : (size, length paths ∷ r3) ≡ u = some_same (size, length paths ∷ r3) u (ap (λ (p : ℕ × List ℕ). byte_at p.1) second ∙ e3) in
    let fourth : (length paths, r3) ≡ v = some_same (length paths, r3) v (ap (λ (p : ℕ × List ℕ). byte_at p.1) third ∙ e4) in
    let again : paths_at (length paths) r3 ≡ Some (paths, []) = ap (paths_at (length paths)) (sym (append-nil r3)) ∙ paths_again paths [] (short-paths paths h) in
    let fifth : (paths, []) ≡ w = some_same (paths, []) w (sym again ∙ ap (λ (p : ℕ × List ℕ). paths_at p.0 p.1) fourth ∙ e5) in
    let whole : (body.Ask a.0 t.0 u.0 w.0, w.1) ≡ y = some_same (body.Ask a.0 t.0 u.0 w.0, w.1) y n5 in
    record {
      read = a.0;
      queue = t.0;
      is = ap (λ (p : Body × List ℕ). p.0) (sym whole) ∙ ap (λ (p : List (List ℕ) × List ℕ). body.Ask a.0 t.0 u.0 p.0) (sym fifth) ∙ ap (λ (p : ℕ × List ℕ). body.Ask a.0 t.0 p.0 paths) (sym third);
      less = subst (λ (p : ℕ × List ℕ). p.0 ≤ number) first (read-less number);
    })))))

pub ask-reads : (c e number queue size : ℕ) (paths : List (List ℕ)) → AreShort paths → (m : Message) → decoded_message (message c e (body.Ask number queue size paths)) ≡ Ok m → ReadsAsk number size paths m.body
ask-reads c e number queue size paths h m d =
    let read = spelled-body (record { c = c; epoch = record { 0 = e }; body = body.Ask number queue size paths }) m d in
    asked-body number queue size paths h m.body read.0 read.1

-- ---- a Tag

pub record ReadsTag (number : ℕ) (nodes : List ℕ) (b : Body) : Type 0 where
  pub read : ℕ
  pub is : b ≡ body.Tag read nodes
  pub less : read ≤ number

tagged-body : (number : ℕ) (nodes : List ℕ) (b : Body) (rest : List ℕ) → tag_at (body_bytes (body.Tag number nodes)) ≡ Some (b, rest) → ReadsTag number nodes b
unfolding tag_at
tagged-body number nodes b rest e =
    let r1 : List ℕ = length nodes ∷ nodes in
    let y : Body × List ℕ = (b, rest) in
    bind_then (number_at w32 (to_be_bytes w32 number ++ r1)) _ y e (λ a e1 n1.
    bind_then (byte_at a.1) _ y n1 (λ t e2 n2.
    bind_then (taken_at t.0 t.1) _ y n2 (λ u e3 n3.
    bind_then (nodes_of u.0) _ y n3 (λ w e4 n4.
    let first : (read_as number, r1) ≡ a = some_same (read_as number, r1) a (sym (number-first number r1) ∙ e1) in
    let second : (length nodes, nodes) ≡ t = some_same (length nodes, nodes) t (ap (λ (p : ℕ × List ℕ). byte_at p.1) first ∙ e2) in
    let again : taken_at (length nodes) nodes ≡ Some (nodes, []) = ap (taken_at (length nodes)) (sym (append-nil nodes)) ∙ taken_again (length nodes) nodes [] refl in
    let third : (nodes, []) ≡ u = some_same (nodes, []) u (sym again ∙ ap (λ (p : ℕ × List ℕ). taken_at p.0 p.1) second ∙ e3) in
    let same : u.0 ≡ w = (nodes_are u.0 w e4).0 in
    let whole : (body.Tag a.0 w, u.1) ≡ y = some_same (body.Tag a.0 w, u.1) y n4 in
    record {
      read = a.0;
      is = ap (λ (p : Body × List ℕ). p.0) (sym whole) ∙ ap (body.Tag a.0) (sym (ap (λ (p : List ℕ × List ℕ). p.0) third ∙ same));
      less = subst (λ (p : ℕ × List ℕ). p.0 ≤ number) first (read-less number);
    }))))

pub tag-reads : (c e number : ℕ) (nodes : List ℕ) → (m : Message) → decoded_message (message c e (body.Tag number nodes)) ≡ Ok m → ReadsTag number nodes m.body
tag-reads c e number nodes m d =
    let read = spelled-body (record { c = c; epoch = record { 0 = e }; body = body.Tag number nodes }) m d in
    tagged-body number nodes m.body read.0 read.1

-- ---- its epoch

pub epoch-reads : (c e : ℕ) (b : Body) → e < 2 ^ 16 → (m : Message) → decoded_message (message c e b) ≡ Ok m → m.epoch.0 ≡ e
epoch-reads c e b small m d =
    let x : Message = record { c = c; epoch = record { 0 = e }; body = b } in
    ap epoch_of (sym (decoded-head (spelled_message x) m d) ∙ spelled-head x small) where
      epoch_of : Option Head → ℕ
      epoch_of None = e
      epoch_of (Some h) = h.epoch
