-- What the journal tells of the line, connection by connection: each stands there as it stands by what it sees.
use Rattle.std.proofs.Common.{◌≡◌, ◌≢◌, ℕ, ◌+◌, nat_eq, Bool, true, false, cond, List, [], ◌∷◌, ◌++◌, Option, Some, None, arith, refl, sym, ap, ◌∙◌, subst}
use Rattle.std.proofs.lemmas.List.Sums.{fold-append}
use Rattle.std.specs.List.{fold, list_any}
use Rattle.lard_law_view.specs.Prelude.{Came, Client, Front, Node, Packet, Place, Rec, Row, Said, Seen, ToClient, ToCluster, came_seen, conn_of, decoded, in_step, is_in, net_step, one_of, own, packet_at, plain, seen_of, seen_on, whose}
use Rattle.lard_law_connections.proofs.LineStands.{Stand, stand_step, unknown}
use Rattle.lard_law_connections.specs.Line.{Line, leaves, line_left_at, line_left_by, waiting_line, line_step, nobody, said_of, told_by, all_but}
use Rattle.lard_law_connections.proofs.PolicyHomes.{any-more, less-any}
use Rattle.lard_law_connections.proofs.PolicyIns.{count, count-append, none-left, others-left}
use Rattle.lard_law_connections.specs.PolicyLine.{waiting, waiting_step}
use Rattle.lard_history.proofs.Seeing.{by_number, other_number, same_number}
use Rattle.lard_journal.specs.declared.rec.Rec.TheVariants as rec

module _ (c : ℕ) where
  -- What was told to each client, who is in the line, who was to wait since, and whether c is admitted, agree with how c stands.
  pub record Agrees (told : ℕ → Option Said) (waits : List ℕ) (ws : List ℕ) (i : Bool) (s : Stand) : Type 0 where
    pub told_is : told c ≡ s.told
    pub waits_is : list_any (nat_eq c) waits ≡ s.waits
    pub times : count c ws ≡ s.times
    pub inside : i ≡ s.inside

  -- ---- what a connection sees

  -- nothing, or what leaves it as it is
  unmoved : (s : Stand) (o : Option ℕ) (x : Seen) → stand_step c s x ≡ s → fold (stand_step c) s (one_of c o x) ≡ s
  unmoved s None x e = refl
  unmoved s (Some d) x e = go (nat_eq d c) where
    go : (b : Bool) → fold (stand_step c) s (cond b (x ∷ []) []) ≡ s
    go true = e
    go false = refl

  -- what is its own, or another's
  by_conn : (s : Stand) (d : ℕ) (x : ℕ → Seen) (R : ℕ → Stand → Type 0) → R c (stand_step c s (x c)) → (d ≢ c → R d s) → R d (fold (stand_step c) s (one_of c (Some d) (x d)))
  by_conn s d x R mine others = by_number (R d (fold (stand_step c) s (one_of c (Some d) (x d)))) d c
      (λ e. subst (λ (n : ℕ). R n (fold (stand_step c) s (one_of c (Some n) (x n)))) (sym e) (subst (λ (b : Bool). R c (fold (stand_step c) s (cond b (x c ∷ []) []))) (sym (same_number c)) mine))
      (λ n. subst (λ (b : Bool). R d (fold (stand_step c) s (cond b (x d ∷ []) []))) (sym (other_number d c n)) (others n))

  module _ (told : ℕ → Option Said) (waits : List ℕ) (ws : List ℕ) (i : Bool) (s : Stand) (h : Agrees told waits ws i s) where
    alone : count c (c ∷ []) ≡ 1
    alone = ap (λ (b : Bool). cond b 1 0 + 0) (same_number c)

    waits-agrees : (d : ℕ) → Agrees told (waits ++ d ∷ []) (ws ++ d ∷ []) i (fold (stand_step c) s (one_of c (Some d) (Row (rec.Waits d))))
    waits-agrees d = by_conn s d (λ n. Row (rec.Waits n)) (λ n t. Agrees told (waits ++ n ∷ []) (ws ++ n ∷ []) i t)
        (record {
          told_is = h.told_is;
          waits_is = any-more c c waits ∙ ap (λ (b : Bool). cond b true (list_any (nat_eq c) waits)) (same_number c);
          times = let all = count-append c ws (c ∷ []) in let was = h.times in let one = alone in omega (arith, all, was, one);
          inside = h.inside;
        })
        (λ n. record {
          told_is = h.told_is;
          waits_is = any-more c d waits ∙ ap (λ (b : Bool). cond b true (list_any (nat_eq c) waits)) (other_number d c n) ∙ h.waits_is;
          times =
              let all = count-append c ws (d ∷ []) in
              let was = h.times in
              let none : count c (d ∷ []) ≡ 0 = ap (λ (b : Bool). cond b 1 0 + 0) (other_number c d (λ e. n (sym e))) in
              omega (arith, all, was, none);
          inside = h.inside;
        })

    admitted-agrees : (d : ℕ) → Agrees told (all_but d waits) (waiting_step ws (rec.Admitted d)) (in_step c i (rec.Admitted d)) (fold (stand_step c) s (one_of c (Some d) (Row (rec.Admitted d))))
    admitted-agrees d = by_conn s d (λ n. Row (rec.Admitted n)) (λ n t. Agrees told (all_but n waits) (waiting_step ws (rec.Admitted n)) (in_step c i (rec.Admitted n)) t)
        (record {
          told_is = h.told_is;
          waits_is = less-any c c waits ∙ ap (λ (b : Bool). cond b false (list_any (nat_eq c) waits)) (same_number c);
          times = none-left c ws;
          inside = ap (λ (b : Bool). cond b true i) (same_number c);
        })
        (λ n. record {
          told_is = h.told_is;
          waits_is = less-any c d waits ∙ ap (λ (b : Bool). cond b false (list_any (nat_eq c) waits)) (other_number d c n) ∙ h.waits_is;
          times = others-left d c ws (λ e. n (sym e)) ∙ h.times;
          inside = ap (λ (b : Bool). cond b true i) (other_number d c n) ∙ h.inside;
        })

    released-agrees : (d : ℕ) → Agrees told waits ws (in_step c i (rec.Released d)) (fold (stand_step c) s (one_of c (Some d) (Row (rec.Released d))))
    released-agrees d = by_conn s d (λ n. Row (rec.Released n)) (λ n t. Agrees told waits ws (in_step c i (rec.Released n)) t)
        (record { told_is = h.told_is; waits_is = h.waits_is; times = h.times; inside = ap (λ (b : Bool). cond b false i) (same_number c) })
        (λ n. record { told_is = h.told_is; waits_is = h.waits_is; times = h.times; inside = ap (λ (b : Bool). cond b false i) (other_number d c n) ∙ h.inside })

    -- ---- segments

    sent-agrees : (from to : Place) (bytes : List ℕ) → Agrees (told_by to from bytes told) waits ws i (fold (stand_step c) s (one_of c (conn_of from to bytes) (Row (rec.Sent 0 from to bytes))))
    sent-agrees Front (Client d) bytes = by_conn s d (λ n. Row (rec.Sent 0 Front (Client n) bytes)) (λ n t. Agrees (told_by (Client n) Front bytes told) waits ws i t)
        (record { told_is = ap (λ (b : Bool). cond b (said_of (decoded bytes c ToClient)) (told c)) (same_number c); waits_is = h.waits_is; times = h.times; inside = h.inside })
        (λ n. record { told_is = ap (λ (b : Bool). cond b (said_of (decoded bytes d ToClient)) (told c)) (other_number d c n) ∙ h.told_is; waits_is = h.waits_is; times = h.times; inside = h.inside })
    sent-agrees (Node m) (Client d) bytes = by_conn s d (λ n. Row (rec.Sent 0 (Node m) (Client n) bytes)) (λ n t. Agrees (told_by (Client n) (Node m) bytes told) waits ws i t)
        (record { told_is = ap (λ (b : Bool). cond b (said_of (decoded bytes c ToClient)) (told c)) (same_number c); waits_is = h.waits_is; times = h.times; inside = h.inside })
        (λ n. record { told_is = ap (λ (b : Bool). cond b (said_of (decoded bytes d ToClient)) (told c)) (other_number d c n) ∙ h.told_is; waits_is = h.waits_is; times = h.times; inside = h.inside })
    sent-agrees (Client e) (Client d) bytes = subst (Agrees told waits ws i) (sym (unmoved s (Some e) (Row (rec.Sent 0 (Client e) (Client d) bytes)) refl)) h
    sent-agrees from Front bytes = subst (Agrees told waits ws i) (sym (unmoved s (conn_of from Front bytes) (Row (rec.Sent 0 from Front bytes)) refl)) h
    sent-agrees from (Node n) bytes = subst (Agrees told waits ws i) (sym (unmoved s (conn_of from (Node n) bytes) (Row (rec.Sent 0 from (Node n) bytes)) refl)) h

    -- ---- what comes

    left-agrees : (from to : Place) (bytes : List ℕ) → Agrees told (line_left_by to from bytes told waits) ws i (fold (stand_step c) s (one_of c (conn_of from to bytes) (Came (record { from = from; to = to; bytes = bytes }))))
    left-agrees (Client d) Front bytes = by_conn s d (λ n. Came (record { from = Client n; to = Front; bytes = bytes })) (λ n t. Agrees told (line_left_by Front (Client n) bytes told waits) ws i t)
        (record {
          told_is = h.told_is;
          waits_is = mine (leaves (told c) (decoded bytes c ToCluster)) ∙ ap (λ (o : Option Said). cond (leaves o (decoded bytes c ToCluster)) false s.waits) h.told_is;
          times = h.times;
          inside = h.inside;
        })
        (λ n. record { told_is = h.told_is; waits_is = others n (leaves (told d) (decoded bytes d ToCluster)); times = h.times; inside = h.inside })
      where
        mine : (b : Bool) → list_any (nat_eq c) (cond b (all_but c waits) waits) ≡ cond b false s.waits
        mine true = less-any c c waits ∙ ap (λ (t : Bool). cond t false (list_any (nat_eq c) waits)) (same_number c)
        mine false = h.waits_is

        others : d ≢ c → (b : Bool) → list_any (nat_eq c) (cond b (all_but d waits) waits) ≡ s.waits
        others n true = less-any c d waits ∙ ap (λ (t : Bool). cond t false (list_any (nat_eq c) waits)) (other_number d c n) ∙ h.waits_is
        others n false = h.waits_is
    left-agrees Front Front bytes = subst (Agrees told waits ws i) (sym (unmoved s (conn_of Front Front bytes) (Came (record { from = Front; to = Front; bytes = bytes })) refl)) h
    left-agrees (Node m) Front bytes = subst (Agrees told waits ws i) (sym (unmoved s (conn_of (Node m) Front bytes) (Came (record { from = Node m; to = Front; bytes = bytes })) refl)) h
    left-agrees from (Client d) bytes = subst (Agrees told waits ws i) (sym (unmoved s (conn_of from (Client d) bytes) (Came (record { from = from; to = Client d; bytes = bytes })) refl)) h
    left-agrees from (Node n) bytes = subst (Agrees told waits ws i) (sym (unmoved s (conn_of from (Node n) bytes) (Came (record { from = from; to = Node n; bytes = bytes })) refl)) h

    got-agrees : (o : Option Packet) → Agrees told (line_left_at o told waits) ws i (fold (stand_step c) s (came_seen c o))
    got-agrees None = h
    got-agrees (Some p) = left-agrees p.from p.to p.bytes

  -- ---- a journal

  abbrev Told : Line → List ℕ → Bool → Stand → Type 0
  Told l ws i s = Agrees l.told l.waits ws i s

  one-agrees : (l : Line) (ws : List ℕ) (i : Bool) (s : Stand) (r : Rec) → Told l ws i s → Told (line_step l r) (waiting_step ws r) (in_step c i r) (fold (stand_step c) s (seen_of c l.net r))
  one-agrees l ws i s (rec.Waits d) h = waits-agrees l.told l.waits ws i s h d
  one-agrees l ws i s (rec.Admitted d) h = admitted-agrees l.told l.waits ws i s h d
  one-agrees l ws i s (rec.Released d) h = released-agrees l.told l.waits ws i s h d
  one-agrees l ws i s (rec.Got k) h = got-agrees l.told l.waits ws i s h (packet_at l.net k)
  one-agrees l ws i s (rec.Sent k from to bytes) h = sent-agrees l.told l.waits ws i s h from to bytes
  one-agrees l ws i s (rec.Lost k) h = h
  one-agrees l ws i s r h = subst (Agrees l.told l.waits ws i) (sym (unmoved s (whose r) (Row (plain r)) refl)) h

  line-net : (l : Line) (r : Rec) → (line_step l r).net ≡ net_step l.net r
  line-net l (rec.Waits d) = refl
  line-net l (rec.Admitted d) = refl
  line-net l (rec.Got k) = refl
  line-net l (rec.Sent k from to bytes) = refl
  line-net l (rec.Lost k) = refl
  line-net l _ = refl

  all-agree : (l : Line) (ws : List ℕ) (i : Bool) (s : Stand) (rs : List Rec) → Told l ws i s → Told (fold line_step l rs) (fold waiting_step ws rs) (fold (in_step c) i rs) (fold (stand_step c) s (seen_on c l.net rs))
  all-agree l ws i s [] h = h
  all-agree l ws i s (r ∷ rs) h =
      let later = all-agree (line_step l r) (waiting_step ws r) (in_step c i r) (fold (stand_step c) s (seen_of c l.net r)) rs (one-agrees l ws i s r h) in
      let same : fold (stand_step c) (fold (stand_step c) s (seen_of c l.net r)) (seen_on c (line_step l r).net rs) ≡ fold (stand_step c) s (seen_of c l.net r ++ seen_on c (net_step l.net r) rs) =
      ap (λ (net : List Packet). fold (stand_step c) (fold (stand_step c) s (seen_of c l.net r)) (seen_on c net rs)) (line-net l r) ∙ sym (fold-append (stand_step c) s (seen_of c l.net r) (seen_on c (net_step l.net r) rs)) in
      subst (Told (fold line_step (line_step l r) rs) (fold waiting_step (waiting_step ws r) rs) (fold (in_step c) (in_step c i r) rs)) same later

  pub stands-told : (J : List Rec) → Agrees (fold line_step nobody J).told (waiting_line J) (waiting J) (is_in J c) (fold (stand_step c) unknown (own c J))
  unfolding own
  stands-told J = all-agree nobody [] false unknown J (record { told_is = refl; waits_is = refl; times = refl; inside = refl })
