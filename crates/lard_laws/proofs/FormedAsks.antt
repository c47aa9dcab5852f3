-- The paths that an Ask names, as it is spelled and as it is read; and those of the requests that an Ask is for.
use Rattle.std.proofs.Common.{◌≡◌, ℕ, ◌<◌, ◌^◌, Bool, true, false, cond, List, [], ◌∷◌, ◌++◌, length, is_some, nat_lt, Option, Some, None, IfSome, Ok, refl, sym, ap, ◌∙◌, subst, arith}
use Rattle.std.proofs.lemmas.Bool.{cond-false, le-ltb}
use Rattle.std.proofs.lemmas.List.{append-nil}
use Rattle.std.specs.Int.{from_be_bytes, to_be_bytes, w32}
use Rattle.std.specs.List.{AllByRecursion, flat_map}
use Rattle.lard_law_view.specs.Prelude.{Body, Entry, FilesAt, Message, Progress, Verdict, and_path, ask_at, body_bytes, byte_at, counted_bytes, decoded_message, good_path, kind_of, named_path, named_paths, number_at, path_in, paths_at, spelled_message}
use Rattle.lard_history.proofs.Each.{Each}
use Rattle.lard_law_connections.proofs.PlacesHeads.{kinds-same, spelled-body}
use Rattle.lard_laws.proofs.FormedTold.{BodyNames}
use Rattle.lard_laws.specs.Formed.{AreFilePathsShort, IsOfFile}
use Rattle.lard_message.specs.declared.kind.Kind.TheVariants as kind
use Rattle.lard_message.specs.declared.message.Body.TheVariants as body
use Rattle.lard_message.proofs.Fields.{bind_then, paths_again, some_same}
use Rattle.lard_request.specs.declared.verdict.Verdict.TheVariants.{Fault, Serve}
use Rattle.lard_rules.specs.declared.stay.Progress.TheVariants as progress

module _ (files : FilesAt) where
  -- ---- requests

  -- the path of a good request is that of a file
  pub good-named : (v : Verdict) → IfSome (good_path files v) (IsOfFile files)
  good-named (Serve path head close) = go (is_some (files path)) refl where
    go : (b : Bool) → is_some (files path) ≡ b → IfSome (cond b (Some path) None) (IsOfFile files)
    go true e = e
    go false e = tt
  good-named (Fault code) = tt

  in-named : (e : Entry) (p : Progress) → IfSome (path_in files e p) (IsOfFile files)
  in-named e progress.Named = good-named e.verdict
  in-named e progress.Reading = tt
  in-named e (progress.Awaited node) = tt
  in-named e (progress.Ready way) = tt

  and-named : (o : Option (List ℕ)) (paths : List (List ℕ)) → IfSome o (IsOfFile files) → Each (IsOfFile files) paths → Each (IsOfFile files) (and_path o paths)
  and-named None paths one h = h
  and-named (Some path) paths one h = (one, h)

  -- so is each that an Ask names
  pub all-named : (es : List Entry) → Each (IsOfFile files) (named_paths files es)
  all-named [] = tt
  all-named (e ∷ es) = and-named (named_path files e) (named_paths files es) (in-named e e.progress) (all-named es)

  -- ---- an Ask that is read again

  -- a number in front goes, whatever it is
  number-first : (n : ℕ) (rest : List ℕ) → number_at w32 (to_be_bytes w32 n ++ rest) ≡ Some (from_be_bytes w32 (to_be_bytes w32 n), rest)
  number-first n rest = cond-false (nat_lt (length (to_be_bytes w32 n ++ rest)) 4) _ _ (le-ltb _ _ (omega arith))

  module _ (short : AreFilePathsShort files) where
    all-short : (paths : List (List ℕ)) → Each (IsOfFile files) paths → AllByRecursion (λ (p : List ℕ). length p < 2 ^ 16) paths
    all-short [] h = tt
    all-short (p ∷ ps) h = (short p h.0, all-short ps h.1)

    asked-names : (number queue size : ℕ) (paths : List (List ℕ)) → Each (IsOfFile files) paths → (b : Body) (rest : List ℕ) → ask_at (body_bytes (body.Ask number queue size paths)) ≡ Some (b, rest) → BodyNames files b
    unfolding ask_at
    asked-names number queue size paths h b rest e =
        let r3 : List ℕ = flat_map counted_bytes paths in
        let r2 : List ℕ = size ∷ length paths ∷ r3 in
        let r1 : List ℕ = to_be_bytes w32 queue ++ r2 in
        let y : Body × List ℕ = (b, rest) in
        bind_then (number_at w32 (to_be_bytes w32 number ++ r1)) _ y e (λ a e1 n1.
        bind_then (number_at w32 a.1) _ y n1 (λ t e2 n2.
        bind_then (byte_at t.1) _ y n2 (λ u e3 n3.
        bind_then (byte_at u.1) _ y n3 (λ v e4 n4.
        bind_then (paths_at v.0 v.1) _ y n4 (λ w e5 n5.
        let N : ℕ → ℕ = λ n. from_be_bytes w32 (to_be_bytes w32 n) in
        let first : (N number, r1) ≡ a = some_same (N number, r1) a (sym (number-first number r1) ∙ e1) in
        let second : (N queue, r2) ≡ t = some_same (N queue, r2) t (sym (number-first queue r2) ∙ ap (λ (p : ℕ × List ℕ). number_at w32 p.1) first ∙ e2) in
        let third : (size, length paths ∷ r3) ≡ u = some_same (size, length paths ∷ r3) u (ap (λ (p : ℕ × List ℕ). byte_at p.1) second ∙ e3) in
        let fourth : (length paths, r3) ≡ v = some_same (length paths, r3) v (ap (λ (p : ℕ × List ℕ). byte_at p.1) third ∙ e4) in
        let again : paths_at (length paths) r3 ≡ Some (paths, []) = ap (paths_at (length paths)) (sym (append-nil r3)) ∙ paths_again paths [] (all-short paths h) in
        let fifth : (paths, []) ≡ w = some_same (paths, []) w (sym again ∙ ap (λ (p : ℕ × List ℕ). paths_at p.0 p.1) fourth ∙ e5) in
        let whole : (body.Ask a.0 t.0 u.0 w.0, w.1) ≡ y = some_same (body.Ask a.0 t.0 u.0 w.0, w.1) y n5 in
        subst (λ (p : Body × List ℕ). BodyNames files p.0) whole (subst (λ (p : List (List ℕ) × List ℕ). Each (IsOfFile files) p.0) fifth h))))))

    pub ask-names : (c epoch number queue size : ℕ) (paths : List (List ℕ)) → Each (IsOfFile files) paths → (m : Message)
        → decoded_message (spelled_message (record { c = c; epoch = record { 0 = epoch }; body = body.Ask number queue size paths })) ≡ Ok m → BodyNames files m.body
    ask-names c epoch number queue size paths h m is =
        let read = spelled-body (record { c = c; epoch = record { 0 = epoch }; body = body.Ask number queue size paths }) m is in
        asked-names number queue size paths h m.body read.0 read.1

  -- ---- what is no Ask

  other-body : (b : Body) → (kind_of b ≡ kind.Ask → ⊥) → BodyNames files b
  other-body (body.Ask number queue size paths) none = absurd (none refl)
  other-body _ none = tt

  pub other-names : (m : Message) → (kind_of m.body ≡ kind.Ask → ⊥) → (read : Message) → decoded_message (spelled_message m) ≡ Ok read → BodyNames files read.body
  other-names m none read is = other-body read.body (λ ask. none (kinds-same m read is ∙ ask))
