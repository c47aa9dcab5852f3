-- What a journal tells stands in it: a packet that came was sent, and a job that is read was queued.
use Rattle.std.proofs.Common.{◌≡◌, ◌-◌, ◌==◌, ℕ, zero, suc, Bool, true, false, cond, nat_eq, List, [], ◌∷◌, ◌++◌, map, take, drop, Option, Some, None, refl, sym, ap, ◌∙◌, subst, inl, inr, ⊎_elim, append_assoc}
use Rattle.std.specs.Prelude.{◌⊎◌, slice_get}
use Rattle.std.specs.List.{fold}
use Rattle.std.proofs.lemmas.Bool.{eqb-true}
use Rattle.std.proofs.lemmas.List.{map-append}
use Rattle.lard_counts.specs.Stores.{Queue, Waiting, jobs, jobs_step, no_jobs, waiting_at, without_waiting}
use Rattle.lard_law_view.specs.Prelude.{Came, EachMay, Has, Letter, Packet, Rec, Row, Seen, came_seen, letter_of, lose_at, net_of, net_step, one_of, own, packet_at, plain, seen_of, seen_on, whose}
use Rattle.lard_history.proofs.Seeing.{has-before}
use Rattle.lard_journal.specs.declared.rec.Rec.TheVariants as rec

-- ---- one of a list

module _ {A : Type 0} (a : A) where
  pub has-either : (xs ys : List A) → Has a (xs ++ ys) → Has a xs ⊎ Has a ys
  has-either [] ys h = inr h
  has-either (x ∷ xs) ys h = ⊎_elim (λ (e : x ≡ a). inl (inl e)) (λ (k : Has a (xs ++ ys)). ⊎_elim (λ (f : Has a xs). inl (inr f)) (λ (g : Has a ys). inr g) (has-either xs ys k)) h

  -- where it stands
  pub record Stands (xs : List A) : Type 0 where
    pub before : List A
    pub behind : List A
    pub split : xs ≡ before ++ a ∷ behind

  pub has-stands : (xs : List A) → Has a xs → Stands xs
  has-stands [] h = absurd h
  has-stands (x ∷ xs) h = ⊎_elim
      (λ (e : x ≡ a). record { before = []; behind = xs; split = ap (λ (y : A). y ∷ xs) e })
      (λ (k : Has a xs). let s : Stands xs = has-stands xs k in record { before = x ∷ s.before; behind = s.behind; split = ap (λ (l : List A). x ∷ l) s.split }) h

  has-take : (n : ℕ) (xs : List A) → Has a (take n xs) → Has a xs
  has-take zero xs h = absurd h
  has-take (suc n) [] h = absurd h
  has-take (suc n) (x ∷ xs) h = ⊎_elim (λ (e : x ≡ a). inl e) (λ (k : Has a (take n xs)). inr (has-take n xs k)) h

  has-drop : (n : ℕ) (xs : List A) → Has a (drop n xs) → Has a xs
  has-drop zero xs h = h
  has-drop (suc n) [] h = absurd h
  has-drop (suc n) (x ∷ xs) h = inr (has-drop n xs h)

  has-got : (xs : List A) (i : ℕ) → slice_get xs i ≡ Some a → Has a xs
  has-got [] i e = let no : None ≡ Some a = e in absurd (let f : ⊥ = cc in f)
  has-got (x ∷ xs) zero e = inl (let same : x ≡ a = cc in same)
  has-got (x ∷ xs) (suc i) e = inr (has-got xs i e)

-- ---- a law of records, where it is known of each

pub each-from : (may : List Rec → Rec → Type 0) (J : List Rec) → ((a b : List Rec) (r : Rec) → J ≡ a ++ r ∷ b → may a r) → EachMay may [] J
each-from may J all = go [] J refl where
  go : (past rs : List Rec) → J ≡ past ++ rs → EachMay may past rs
  go past [] is = tt
  go past (r ∷ rs) is = (all past rs r is, go (past ++ r ∷ []) rs (is ∙ sym (append_assoc past (r ∷ []) rs)))

-- ---- packets

lost-same : (n : ℕ) (net : List Packet) → map letter_of (lose_at n net) ≡ map letter_of net
lost-same n [] = refl
lost-same zero (p ∷ ps) = refl
lost-same (suc n) (p ∷ ps) = ap (λ (l : List Letter). letter_of p ∷ l) (lost-same n ps)

-- these records send it
abbrev pub IsSentIn : Letter → List Rec → Type 0
IsSentIn l rs = (i : ℕ) × Has (rec.Sent i l.from l.to l.bytes) rs

sent-behind : (l : Letter) (r : Rec) (rs : List Rec) → IsSentIn l rs → IsSentIn l (r ∷ rs)
sent-behind l r rs h = (h.0, inr h.1)

-- one more record
step-sent : (l : Letter) (net : List Packet) (r : Rec) → Has l (map letter_of (net_step net r)) → Has l (map letter_of net) ⊎ IsSentIn l (r ∷ [])
step-sent l net (rec.Sent k from to bytes) h =
    let new : Packet = record { from = from; to = to; bytes = bytes; lost = false } in
    ⊎_elim (λ (old : Has l (map letter_of net)). inl old)
    (λ (one : Has l (letter_of new ∷ [])). inr (⊎_elim
    (λ (e : letter_of new ≡ l). (k, inl (λ i. rec.Sent k (e i).from (e i).to (e i).bytes)))
    (λ (no : ⊥). absurd no) one))
    (has-either l (map letter_of net) (letter_of new ∷ []) (subst (Has l) (map-append letter_of net (new ∷ [])) h))
step-sent l net (rec.Lost k) h = inl (subst (Has l) (lost-same (k - 1) net) h)
step-sent l net _ h = inl h

net-sent : (l : Letter) (net : List Packet) (rs : List Rec) → Has l (map letter_of (fold net_step net rs)) → Has l (map letter_of net) ⊎ IsSentIn l rs
net-sent l net [] h = inl h
net-sent l net (r ∷ rs) h = ⊎_elim
    (λ (a : Has l (map letter_of (net_step net r))). ⊎_elim (λ (b : Has l (map letter_of net)). inl b) (λ (b : IsSentIn l (r ∷ [])). inr (b.0, has-before (rec.Sent b.0 l.from l.to l.bytes) (r ∷ []) rs b.1)) (step-sent l net r a))
    (λ (a : IsSentIn l rs). inr (sent-behind l r rs a))
    (net-sent l (net_step net r) rs h)

has-packet : (net : List Packet) (k : ℕ) (p : Packet) → packet_at net k ≡ Some p → Has (letter_of p) (map letter_of net)
has-packet net k p e = go (k == 0) e where
  got : (ps : List Packet) (i : ℕ) → slice_get ps i ≡ Some p → Has (letter_of p) (map letter_of ps)
  got [] i f = let no : None ≡ Some p = f in absurd (let g : ⊥ = cc in g)
  got (q ∷ ps) zero f = inl (let same : q ≡ p = cc in ap letter_of same)
  got (q ∷ ps) (suc i) f = inr (got ps i f)

  go : (b : Bool) → cond b None (slice_get net (k - 1)) ≡ Some p → Has (letter_of p) (map letter_of net)
  go true f = let no : None ≡ Some p = f in absurd (let g : ⊥ = cc in g)
  go false f = got net (k - 1) f

-- a packet that there is was sent
pub packet-sent : (J : List Rec) (k : ℕ) (p : Packet) → packet_at (net_of J) k ≡ Some p → IsSentIn (letter_of p) J
packet-sent J k p e = ⊎_elim (λ (no : ⊥). absurd no) (λ (h : IsSentIn (letter_of p) J). h) (net-sent (letter_of p) [] J (has-packet (net_of J) k p e))

-- ---- what a connection sees

one-has : (q : ℕ) (o : Option ℕ) (s it : Seen) → Has it (one_of q o s) → s ≡ it
one-has q None s it h = absurd h
one-has q (Some c) s it h = go (nat_eq c q) h where
  go : (b : Bool) → Has it (cond b (s ∷ []) []) → s ≡ it
  go true k = ⊎_elim (λ (e : s ≡ it). e) (λ (no : ⊥). absurd no) k
  go false k = absurd k

row-came : (r : Rec) (l : Letter) → Row r ≡ Came l → ⊥
row-came r l e = cc

came-same : (k l : Letter) → Came k ≡ Came l → k ≡ l
came-same k l e = cc

-- a packet that comes was there
came-of : (l : Letter) (q : ℕ) (net : List Packet) (r : Rec) → Has (Came l) (seen_of q net r) → Has l (map letter_of net)
came-of l q net (rec.Got k) h = go (packet_at net k) refl h where
  go : (o : Option Packet) → packet_at net k ≡ o → Has (Came l) (came_seen q o) → Has l (map letter_of net)
  go None e f = absurd f
  go (Some p) e f = subst (λ (x : Letter). Has x (map letter_of net)) (came-same (letter_of p) l (one-has q _ (Came (letter_of p)) (Came l) f)) (has-packet net k p e)
came-of l q net r h = absurd (row-came (plain r) l (one-has q (whose r) (Row (plain r)) (Came l) h))

seen-sent : (l : Letter) (q : ℕ) (net : List Packet) (rs : List Rec) → Has (Came l) (seen_on q net rs) → Has l (map letter_of net) ⊎ IsSentIn l rs
seen-sent l q net [] h = absurd h
seen-sent l q net (r ∷ rs) h = ⊎_elim
    (λ (a : Has (Came l) (seen_of q net r)). inl (came-of l q net r a))
    (λ (a : Has (Came l) (seen_on q (net_step net r) rs)). ⊎_elim
    (λ (b : Has l (map letter_of (net_step net r))). ⊎_elim (λ (c : Has l (map letter_of net)). inl c) (λ (c : IsSentIn l (r ∷ [])). inr (c.0, has-before (rec.Sent c.0 l.from l.to l.bytes) (r ∷ []) rs c.1)) (step-sent l net r b))
    (λ (b : IsSentIn l rs). inr (sent-behind l r rs b))
    (seen-sent l q (net_step net r) rs a))
    (has-either (Came l) (seen_of q net r) (seen_on q (net_step net r) rs) h)

pub came-sent : (l : Letter) (q : ℕ) (J : List Rec) → Has (Came l) (own q J) → IsSentIn l J
unfolding own
came-sent l q J h = ⊎_elim (λ (no : ⊥). absurd no) (λ (s : IsSentIn l J). s) (seen-sent l q [] J h)

-- ---- jobs

abbrev IsQueued : ℕ → Waiting → List Rec → Type 0
IsQueued n job rs = Has (rec.Queued n job.0 job.1 job.2 job.3) rs

less-has : (job : Waiting) (list : List Waiting) (j : ℕ) → Has job (without_waiting list j) → Has job list
less-has job list j = go (nat_eq j 0) where
  go : (b : Bool) → Has job (cond b list (take (j - 1) list ++ drop (suc (j - 1)) list)) → Has job list
  go true h = h
  go false h = ⊎_elim (λ (a : Has job (take (j - 1) list)). has-take job (j - 1) list a) (λ (a : Has job (drop (suc (j - 1)) list)). has-drop job (suc (j - 1)) list a) (has-either job (take (j - 1) list) (drop (suc (j - 1)) list) h)

step-queued : (n : ℕ) (job : Waiting) (q : Queue) (r : Rec) → Has job (jobs_step n q r).list → Has job q.list ⊎ IsQueued n job (r ∷ [])
step-queued n job q (rec.Event i e) h = inl h
step-queued n job q (rec.Inner e) h = inl h
step-queued n job q (rec.Queued k m c r path) h = go (nat_eq k n) refl h where
  go : (b : Bool) → nat_eq k n ≡ b → Has job (cond b (record q { list = q.list ++ (m, c, r, path) ∷ [] }) q).list → Has job q.list ⊎ IsQueued n job (rec.Queued k m c r path ∷ [])
  go true e f = ⊎_elim (λ (old : Has job q.list). inl old)
      (λ (new : Has job ((m, c, r, path) ∷ [])). inr (⊎_elim (λ (s : (m, c, r, path) ≡ job). inl (λ i. rec.Queued (eqb-true k n e i) (s i).0 (s i).1 (s i).2 (s i).3)) (λ (no : ⊥). absurd no) new))
      (has-either job q.list ((m, c, r, path) ∷ []) f)
  go false e f = inl f
step-queued n job q (rec.Read k m c r path) h = go (nat_eq k n) h where
  go : (b : Bool) → Has job (cond b (record q { list = without_waiting q.list q.at }) q).list → Has job q.list ⊎ IsQueued n job (rec.Read k m c r path ∷ [])
  go true f = inl (less-has job q.list q.at f)
  go false f = inl f
step-queued n job q _ h = inl h

fold-queued : (n : ℕ) (job : Waiting) (q : Queue) (rs : List Rec) → Has job (fold (jobs_step n) q rs).list → Has job q.list ⊎ IsQueued n job rs
fold-queued n job q [] h = inl h
fold-queued n job q (r ∷ rs) h = ⊎_elim
    (λ (a : Has job (jobs_step n q r).list). ⊎_elim (λ (b : Has job q.list). inl b) (λ (b : IsQueued n job (r ∷ [])). inr (has-before (rec.Queued n job.0 job.1 job.2 job.3) (r ∷ []) rs b)) (step-queued n job q r a))
    (λ (a : IsQueued n job rs). inr (inr a))
    (fold-queued n job (jobs_step n q r) rs h)

-- a job that waits was queued
pub job-queued : (J : List Rec) (n j : ℕ) (job : Waiting) → waiting_at (jobs J n) j ≡ Some job → Has (rec.Queued n job.0 job.1 job.2 job.3) J
job-queued J n j job e = ⊎_elim (λ (no : ⊥). absurd no) (λ (h : IsQueued n job J). h) (fold-queued n job no_jobs J (go (nat_eq j 0) e)) where
  go : (b : Bool) → cond b None (slice_get (jobs J n) (j - 1)) ≡ Some job → Has job (jobs J n)
  go true f = let no : None ≡ Some job = f in absurd (let g : ⊥ = cc in g)
  go false f = has-got job (jobs J n) (j - 1) f
