-- What an open client makes of a segment: it owes an acknowledgement of data, and takes one of what it sent.
use Rattle.std.proofs.Common.{◌≡◌, ◌==◌, ◌&&◌, ◌||◌, nat_lt, not, true, false, cond, length, refl, sym, ap, ◌∙◌, subst}
use Rattle.std.proofs.lemmas.Bool.{cond_both, cond-false, cond-true}
use Rattle.lard_law_view.specs.Prelude.{ClientBlock, Heard, Phase, Said, accepting, after_ack, bare, client_arrived, client_begins_after, client_ends, client_on_ack, client_on_rst, client_on_segment, client_on_syn, client_on_text, client_on_unacceptable, client_owing, client_part_of, client_rcv_nxt, client_rcv_wnd, fresh_len, heard_in, heard_nothing, is_acceptable, is_allowed, on_fresh, on_greeting, reset_by_peer, seq_offset}
use Rattle.lard_bound.specs.Chains.{is_plain}
use Rattle.lard_client.specs.declared.phase.Phase.TheVariants.{Open}
use Rattle.lard_law_progress.proofs.Silence.{ack-una, plain-parts}

-- It is open and established, and the segment acknowledges nothing that it did not send.
pub record IsInTalk (x : ClientBlock) (s : Said) : Type 0 where
  pub open_ : x.phase ≡ Open
  pub established : (x.send.una == 0) ≡ false
  pub known : nat_lt x.send.nxt (seq_offset s.ack x.send.iss) ≡ false
  pub wide : (client_rcv_wnd x == 0) ≡ false

pub arrives : (x : ClientBlock) (s : Said) → IsInTalk x s → client_arrived x s ≡ client_on_segment x s
unfolding client_arrived
arrives x s h = ap (λ (p : Phase). heard_in p x s) h.open_ ∙ cond-false (x.send.una == 0) (on_greeting x s) (client_on_segment x s) h.established

-- ---- an acknowledgement and nothing else

pub plain-arrives : (x : ClientBlock) (s : Said) → IsInTalk x s → is_plain s ≡ true → is_acceptable (client_rcv_nxt x) (client_rcv_wnd x) s ≡ true → (client_arrived x s).1 ≡ record x { send = after_ack x.send s.ack s.seq s.wnd }
plain-arrives x s h plain fits =
    let p = plain-parts s.flags.syn s.flags.fin s.flags.rst s.flags.ack (length s.payload) plain in
    let after : ClientBlock = record x { send = after_ack x.send s.ack s.seq s.wnd } in
    let text : ((length s.payload == 0) && not s.flags.fin) ≡ true = λ i. (p.4 i) && not (p.1 i) in
    let a : client_on_segment x s ≡ client_on_rst x s = cond-true (is_acceptable (client_rcv_nxt x) (client_rcv_wnd x) s) (client_on_rst x s) (client_on_unacceptable x s) fits in
    let c : client_on_rst x s ≡ client_on_syn x s = cond-true (not s.flags.rst) (client_on_syn x s) (cond (s.seq == client_rcv_nxt x) (heard_nothing, reset_by_peer x) (heard_nothing, client_owing x)) (ap not p.2) in
    let d : client_on_syn x s ≡ client_on_ack x s = cond-false s.flags.syn (heard_nothing, client_owing x) (client_on_ack x s) p.0 in
    let e : client_on_ack x s ≡ client_on_text after s =
    cond-false (not s.flags.ack) (heard_nothing, x) (cond (nat_lt x.send.nxt (seq_offset s.ack x.send.iss)) (heard_nothing, client_owing x) (client_on_text after s)) (ap not p.3)
    ∙ cond-false (nat_lt x.send.nxt (seq_offset s.ack x.send.iss)) (heard_nothing, client_owing x) (client_on_text after s) h.known in
    let f : client_on_text after s ≡ (heard_nothing, after) = cond-true ((length s.payload == 0) && not s.flags.fin) (heard_nothing, after) (on_fresh (client_owing after) s) text in
    ap (λ (r : Heard × ClientBlock). r.1) (arrives x s h ∙ a ∙ c ∙ d ∙ e ∙ f)

-- of what it did not know to be taken: then it knows
pub plain-tells : (x : ClientBlock) (s : Said) → IsInTalk x s → is_plain s ≡ true → is_acceptable (client_rcv_nxt x) (client_rcv_wnd x) s ≡ true → nat_lt x.send.una (seq_offset s.ack x.send.iss) ≡ true
    → (client_arrived x s).1.send.una ≡ seq_offset s.ack x.send.iss
plain-tells x s h plain fits more = ap (λ (y : ClientBlock). y.send.una) (plain-arrives x s h plain fits) ∙ ack-una x.send s.ack s.seq s.wnd h.known more

-- ---- data

pub record BringsData (s : Said) : Type 0 where
  pub acks : s.flags.ack ≡ true
  pub no_syn : s.flags.syn ≡ false
  pub no_rst : s.flags.rst ≡ false
  pub some : ((length s.payload == 0) && not s.flags.fin) ≡ false

abbrev IsOwing : Heard × ClientBlock → Type 0
IsOwing r = (r.1.owed ≡ true) × (r.1.phase ≡ Open)

fresh-owes : (y : ClientBlock) (s : Said) → y.owed ≡ true → y.phase ≡ Open → IsOwing (on_fresh y s)
fresh-owes y s owed open_ = cond_both {A = Heard × ClientBlock} (client_begins_after y s || y.eof) (heard_nothing, y) (client_part_of y s, accepting y (fresh_len y s) (client_ends y s)) IsOwing (λ t. (owed, open_)) (λ t. (owed, open_))

-- whether it is in the window or not, an acknowledgement is owed
pub data-owed : (x : ClientBlock) (s : Said) → IsInTalk x s → BringsData s → IsOwing (client_arrived x s)
data-owed x s h b =
    let after : ClientBlock = record x { send = after_ack x.send s.ack s.seq s.wnd } in
    subst IsOwing (sym (arrives x s h)) (cond_both {A = Heard × ClientBlock} (is_acceptable (client_rcv_nxt x) (client_rcv_wnd x) s) (client_on_rst x s) (client_on_unacceptable x s) IsOwing
    (λ t.
    let rst : client_on_rst x s ≡ client_on_syn x s = cond-true (not s.flags.rst) (client_on_syn x s) (cond (s.seq == client_rcv_nxt x) (heard_nothing, reset_by_peer x) (heard_nothing, client_owing x)) (ap not b.no_rst) in
    let syn : client_on_syn x s ≡ client_on_ack x s = cond-false s.flags.syn (heard_nothing, client_owing x) (client_on_ack x s) b.no_syn in
    let ack : client_on_ack x s ≡ client_on_text after s =
    cond-false (not s.flags.ack) (heard_nothing, x) (cond (nat_lt x.send.nxt (seq_offset s.ack x.send.iss)) (heard_nothing, client_owing x) (client_on_text after s)) (ap not b.acks)
    ∙ cond-false (nat_lt x.send.nxt (seq_offset s.ack x.send.iss)) (heard_nothing, client_owing x) (client_on_text after s) h.known in
    let text : client_on_text after s ≡ on_fresh (client_owing after) s = cond-false ((length s.payload == 0) && not s.flags.fin) (heard_nothing, after) (on_fresh (client_owing after) s) b.some in
    subst IsOwing (sym (rst ∙ syn ∙ ack ∙ text)) (fresh-owes (client_owing after) s refl h.open_))
    (λ t.
    let shut : is_allowed (client_rcv_nxt x) (client_rcv_wnd x) s ≡ false = λ i. ((h.wide i) && (s.seq == client_rcv_nxt x)) && (not s.flags.rst && not s.flags.syn) in
    let is : client_on_unacceptable x s ≡ (heard_nothing, client_owing x) =
    cond-false (is_allowed (client_rcv_nxt x) (client_rcv_wnd x) s) (client_on_ack (client_owing x) (bare s)) (cond s.flags.rst (heard_nothing, x) (heard_nothing, client_owing x)) shut ∙ cond-false s.flags.rst (heard_nothing, x) (heard_nothing, client_owing x) b.no_rst in
    subst IsOwing (sym is) (refl, h.open_)))
