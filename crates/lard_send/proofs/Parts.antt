-- What a queue of parts has left when a part comes, when bytes are dropped, and when its bytes are copied part by part.
use Rattle.std.proofs.Common.{◌≡◌, ◌+◌, ◌-◌, ◌<◌, ◌≤◌, ℕ, zero, suc, List, [], ◌∷◌, ◌++◌, length, take, drop, get_or, min, refl, sym, ap, ◌∙◌, arith, subst, append-nil, append_assoc, length-append, length-drop, length-take}
use Rattle.std.specs.List.{concat}
use Rattle.std.proofs.lemmas.List.{drop-drop, drop-append-le, drop_at, drop_min, drop_all, take_all, take_min, take_at}
use borrow.Rule.Slice.PartMut.{put_mid}
use Rattle.lard_send.specs.Rest.{AreFilled, AreWanted, bytes_left}

-- ---- a part comes

pub concat_pushed : (ps : List (List ℕ)) (x : List ℕ) → concat (ps ++ x ∷ []) ≡ concat ps ++ x
concat_pushed [] x = append-nil x
concat_pushed (p ∷ ps) x = ap (λ (ys : List ℕ). p ++ ys) (concat_pushed ps x) ∙ sym (append_assoc p (concat ps) x)

-- not all bytes of the first part are dropped
pub within : (dropped : ℕ) (ps : List (List ℕ)) → AreWanted dropped ps → dropped ≤ length (concat ps)
within dropped [] h = omega (arith, h)
within dropped (p ∷ ps) h = omega (arith, h.0, length-append p (concat ps))

pub bytes_pushed : (dropped : ℕ) (ps : List (List ℕ)) (x : List ℕ) → AreWanted dropped ps → bytes_left dropped (ps ++ x ∷ []) ≡ bytes_left dropped ps ++ x
bytes_pushed dropped ps x h = ap (drop dropped) (concat_pushed ps x) ∙ drop-append-le dropped (concat ps) x (within dropped ps h)

filled_pushed : (ps : List (List ℕ)) (x : List ℕ) → AreFilled ps → 0 < length x → AreFilled (ps ++ x ∷ [])
filled_pushed [] x h some = (some, tt)
filled_pushed (p ∷ ps) x h some = (h.0, filled_pushed ps x h.1 some)

wanted_behind : (dropped : ℕ) (ps : List (List ℕ)) (x : List ℕ) → AreWanted dropped ps → 0 < length x → AreWanted dropped (ps ++ x ∷ [])
wanted_behind dropped [] x h some = (omega (arith, h, some), tt)
wanted_behind dropped (p ∷ ps) x h some = (h.0, filled_pushed ps x h.1 some)

pub wanted_pushed : (dropped : ℕ) (ps qs : List (List ℕ)) (x : List ℕ) → qs ≡ ps ++ x ∷ [] → AreWanted dropped ps → 0 < length x → AreWanted dropped qs
wanted_pushed dropped ps qs x e h some = subst (AreWanted dropped) (sym e) (wanted_behind dropped ps x h some)

-- ---- bytes are dropped

-- no byte of the first part is
pub wanted_whole : (ps : List (List ℕ)) → AreFilled ps → AreWanted 0 ps
wanted_whole [] h = refl
wanted_whole (p ∷ ps) h = h

-- some bytes of the first part
pub dropped_part : (dropped n : ℕ) (ps : List (List ℕ)) → bytes_left (dropped + n) ps ≡ drop n (bytes_left dropped ps)
dropped_part dropped n ps = sym (drop-drop n dropped (concat ps))

-- the first part, and more
pub dropped_whole : (dropped n : ℕ) (p : List ℕ) (ps : List (List ℕ)) → dropped ≤ length p → length p - dropped ≤ n
    → drop (n - (length p - dropped)) (bytes_left 0 ps) ≡ drop n (bytes_left dropped (p ∷ ps))
dropped_whole dropped n p ps some all =
    let m : ℕ = n - (length p - dropped) in
    let place : length p + m ≡ dropped + n = omega arith in
    ap (drop m) (sym (drop_at p (concat ps) (length p) refl))
    ∙ drop-drop m (length p) (p ++ concat ps)
    ∙ ap (λ (k : ℕ). drop k (p ++ concat ps)) place
    ∙ sym (drop-drop n dropped (p ++ concat ps))

-- the first part goes, and what is behind it is whole
pub popped : (dropped n : ℕ) (q p : List ℕ) (ps rest : List (List ℕ)) → 0 < length ps → q ≡ p → p ≡ get_or ps 0 p → rest ≡ drop 1 ps → AreWanted dropped ps → length q - dropped ≤ n
    → AreWanted 0 rest × (drop (n - (length q - dropped)) (bytes_left 0 rest) ≡ drop n (bytes_left dropped ps))
popped dropped n q p [] rest some same is e h all = absurd (omega arith)
popped dropped n q p (x ∷ ps) rest some same is e h all =
    let first : q ≡ x = same ∙ is in
    let within : dropped ≤ length x = omega (arith, h.0) in
    let count : length q ≡ length x = ap length first in (
      subst (AreWanted 0) (sym e) (wanted_whole ps h.1),
      ap (λ (qs : List (List ℕ)). drop (n - (length q - dropped)) (bytes_left 0 qs)) e
          ∙ ap (λ (k : ℕ). drop (n - (k - dropped)) (bytes_left 0 ps)) count
          ∙ dropped_whole dropped n x ps within (omega arith),
    )

-- ---- bytes are copied

drop_append : (n : ℕ) (xs ys : List ℕ) → drop n (xs ++ ys) ≡ drop n xs ++ drop (n - length xs) ys
drop_append zero [] ys = refl
drop_append zero (x ∷ xs) ys = let e : 0 ≡ 0 - length (x ∷ xs) = omega arith in ap (λ (k : ℕ). (x ∷ xs) ++ drop k ys) e
drop_append (suc n) [] ys = let e : suc n ≡ suc n - 0 = omega arith in ap (λ (k : ℕ). drop k ys) e
drop_append (suc n) (x ∷ xs) ys = let e : suc n - length (x ∷ xs) ≡ n - length xs = omega arith in drop_append n xs ys ∙ ap (λ (k : ℕ). drop n xs ++ drop k ys) (sym e)

take_append : (n : ℕ) (xs ys : List ℕ) → take n (xs ++ ys) ≡ take n xs ++ take (n - length xs) ys
take_append zero [] ys = refl
take_append zero (x ∷ xs) ys = let e : 0 ≡ 0 - length (x ∷ xs) = omega arith in ap (λ (k : ℕ). take k ys) e
take_append (suc n) [] ys = let e : suc n ≡ suc n - 0 = omega arith in ap (λ (k : ℕ). take k ys) e
take_append (suc n) (x ∷ xs) ys = let e : suc n - length (x ∷ xs) ≡ n - length xs = omega arith in ap (λ (zs : List ℕ). x ∷ zs) (take_append n xs ys) ∙ ap (λ (k : ℕ). x ∷ (take n xs ++ take k ys)) (sym e)

-- what is wanted of a part, and then what is wanted of those behind it
pub part_copied : (p rest : List ℕ) (skip want from n : ℕ) → from ≡ min skip (length p) → n ≡ min (length (drop from p)) want
    → take n (drop from p) ++ take (want - n) (drop (skip - from) rest) ≡ take want (drop skip (p ++ rest))
part_copied p rest skip want from n f e =
    let whole : drop from p ≡ drop skip p = ap (λ (k : ℕ). drop k p) f ∙ drop_min skip p in
    let least : n ≡ min want (length (drop from p)) = omega (arith, e) in
    let front : take n (drop from p) ≡ take want (drop skip p) =
    ap (λ (k : ℕ). take k (drop from p)) least ∙ take_min want (drop from p) ∙ ap (take want) whole in
    let more : want - n ≡ want - length (drop skip p) = omega (arith, e, ap length whole) in
    let behind : skip - from ≡ skip - length p = omega (arith, f) in
    ap (λ (xs : List ℕ). xs ++ take (want - n) (drop (skip - from) rest)) front
    ∙ ap (λ (k : ℕ). take want (drop skip p) ++ take k (drop (skip - from) rest)) more
    ∙ ap (λ (k : ℕ). take want (drop skip p) ++ take (want - length (drop skip p)) (drop k rest)) behind
    ∙ sym (take_append want (drop skip p) (drop (skip - length p) rest))
    ∙ ap (take want) (sym (drop_append skip p rest))

-- a buffer whose bytes from `filled` on are written over
pub written : (filled : ℕ) (buf new : List ℕ) → put_mid filled (length buf - filled) buf new ≡ take filled buf ++ new
written filled buf new =
    let none : length (drop filled buf) ≤ length buf - filled = omega (arith, length-drop filled buf) in
    ap (λ (xs : List ℕ). take filled buf ++ (new ++ xs)) (drop_all (length buf - filled) (drop filled buf) none)
    ∙ ap (λ (xs : List ℕ). take filled buf ++ xs) (append-nil new)

-- a part is copied behind what is filled
pub part_gathered : (p rest buf src part new all : List ℕ) (skip filled from n : ℕ) → filled ≤ length buf → from ≡ min skip (length p)
    → src ≡ drop from p → part ≡ drop filled buf → n ≡ min (length src) (length part) → new ≡ take n src ++ drop n part
    → take filled buf ++ take (length buf - filled) (drop skip (p ++ rest)) ≡ all
    → (filled + n ≤ length (put_mid filled (length buf - filled) buf new))
    × (take (filled + n) (put_mid filled (length buf - filled) buf new)
    ++ take (length (put_mid filled (length buf - filled) buf new) - (filled + n)) (drop (skip - from) rest) ≡ all)
part_gathered p rest buf src part new all skip filled from n within f s t e h a =
    let b : List ℕ = put_mid filled (length buf - filled) buf new in
    let whole : b ≡ take filled buf ++ new = written filled buf new in
    let lp : length part ≡ length buf - filled = ap length t ∙ length-drop filled buf in
    let ls : length src ≡ length (drop from p) = ap length s in
    let lt : length (take filled buf) ≡ filled = omega (arith, length-take filled buf) in
    let lc : length (take n src) ≡ n = omega (arith, length-take n src, e) in
    let ln : length new ≡ length buf - filled = omega (arith, ap length h, length-append (take n src) (drop n part), lc, length-drop n part, lp, e) in
    let lb : length b ≡ length buf = omega (arith, ap length whole, length-append (take filled buf) new, lt, ln, within) in
    let room : n ≤ length buf - filled = omega (arith, e, lp) in
    let cut : b ≡ (take filled buf ++ take n src) ++ drop n part =
    whole ∙ ap (λ (xs : List ℕ). take filled buf ++ xs) h ∙ sym (append_assoc (take filled buf) (take n src) (drop n part)) in
    let lf : length (take filled buf ++ take n src) ≡ filled + n = omega (arith, length-append (take filled buf) (take n src), lt, lc) in
    let front : take (filled + n) b ≡ take filled buf ++ take n src =
    ap (take (filled + n)) cut ∙ take_at (take filled buf ++ take n src) (drop n part) (filled + n) lf in
    let least : n ≡ min (length (drop from p)) (length buf - filled) = omega (arith, e, lp, ls) in
    let left : length b - (filled + n) ≡ (length buf - filled) - n = omega (arith, lb) in (
      omega (arith, lb, room, within),
      ap (λ (xs : List ℕ). xs ++ take (length b - (filled + n)) (drop (skip - from) rest)) front
          ∙ ap (λ (k : ℕ). (take filled buf ++ take n src) ++ take k (drop (skip - from) rest)) left
          ∙ append_assoc (take filled buf) (take n src) (take ((length buf - filled) - n) (drop (skip - from) rest))
          ∙ ap (λ (xs : List ℕ). take filled buf ++ (take n xs ++ take ((length buf - filled) - n) (drop (skip - from) rest))) s
          ∙ ap (λ (xs : List ℕ). take filled buf ++ xs) (part_copied p rest skip (length buf - filled) from n f least)
          ∙ a,
    )

pub no_parts : (ps : List (List ℕ)) → length ps ≡ 0 → ps ≡ []
no_parts [] h = refl
no_parts (p ∷ ps) h = absurd (omega arith)

no_bytes : (xs : List ℕ) → length xs ≡ 0 → xs ≡ []
no_bytes [] h = refl
no_bytes (x ∷ xs) h = absurd (omega arith)

-- all parts were copied
pub all_gathered : (buf all rest : List ℕ) (filled skip want from : ℕ) → rest ≡ [] → filled ≤ length buf → length buf ≡ want → from + want ≤ length all
    → take filled buf ++ take (length buf - filled) (drop skip rest) ≡ take want (drop from all) → buf ≡ take want (drop from all)
all_gathered buf all rest filled skip want from none within count there e =
    let left : List ℕ = take (length buf - filled) (drop skip rest) in
    let few : length left ≡ 0 = omega (arith, length-take (length buf - filled) (drop skip rest), length-drop skip rest, ap length none) in
    let lw : length (take want (drop from all)) ≡ want = omega (arith, length-take want (drop from all), length-drop from all, there) in
    let lf : length (take filled buf) ≡ filled = omega (arith, length-take filled buf) in
    let full : length buf ≤ filled = omega (arith, ap length e, length-append (take filled buf) left, few, lw, lf, count) in
    let nothing : left ≡ [] = no_bytes left few in
    sym (take_all filled buf full) ∙ sym (append-nil (take filled buf)) ∙ ap (λ (xs : List ℕ). take filled buf ++ xs) (sym nothing) ∙ e
