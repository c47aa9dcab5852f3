-- What a node tells of a stay that is over: how the connection ended there, or the endpoint that goes back.
use Rattle.std.proofs.Common.{◌≡◌, ◌⊎◌, ◌<◌, ◌^◌, ℕ, Bool, List, [], ◌∷◌, Option, Some, None, Ok, ap, ◌∙◌, sym, subst, ⊎_elim}
use Rattle.lard_law_view.specs.Prelude.{BackConn, BackRow, Body, EndpointParts, IsConnNumber, IsStream, Kept, Message, NodePart, Reason, Stream, Verdict, decoded_message, ended_kept, kind_of, parts_of}
use Rattle.lard_law_connections.specs.BytesAgreement.{BackAgrees, EndedWithNumbers, IsEnding, IsKept, IsReturning, NodeAgrees, RowAgrees}
use Rattle.lard_law_connections.proofs.BytesMessages.{ends-read, gives-read}
use Rattle.lard_law_connections.specs.Places.{IsLeft, IsOver, IsThere, Owning}
use Rattle.lard_law_connections.proofs.PlacesHeads.{kinds-same}
use Rattle.lard_handoff_back.specs.declared.row.BackConn.TheVariants as back
use Rattle.lard_message.specs.declared.kind.Kind.TheVariants as kind
use Rattle.lard_message.specs.declared.message.Body.TheVariants as body
use Rattle.lard_rules.specs.Front.{message}

module _ (w out : Stream) (vs pend : List Verdict) (r : Bool) (c e : ℕ) (p : NodePart) where
  -- it ended there, or goes back
  abbrev pub TellsBack : Type 0
  TellsBack = IsEnding w r c e p.kept ⊎ IsReturning w out vs pend c e p

  pub at-stage : (d : BackConn) → IsLeft d → BackAgrees w out vs pend r c e p d → TellsBack
  at-stage (back.Here b) left h = absurd left
  at-stage back.Out left h = absurd h
  at-stage back.Ended left h = h
  at-stage back.Gone left h = absurd h

  at-row : (n : ℕ) (own : Owning) (o : Option BackRow) → IsThere n e own o → IsOver e o → RowAgrees w out vs pend r c p o → TellsBack
  at-row n own None is over h = absurd is
  at-row n own (Some row) is over h = at-stage row.stage (over.1 is.0) (subst (λ (f : ℕ). BackAgrees w out vs pend r c f p row.stage) is.0 h)

  -- where the node has it in this epoch, and its stay is over, it is what the node keeps
  pub over-tells : (n : ℕ) (own : Owning) → IsThere n e own p.row → IsOver e p.row → NodeAgrees w out vs pend r c p → TellsBack
  over-tells n own is over agrees = at-row n own p.row is over agrees

  -- ---- what is read of the message that tells it

  kept-bytes : (q : Kept) (bytes : List ℕ) → p.kept ≡ q ∷ [] → IsKept p.kept bytes → q.bytes ≡ bytes
  kept-bytes q bytes is k = ap first_bytes (sym is ∙ k.1) ∙ k.2 where
    first_bytes : List Kept → List ℕ
    first_bytes [] = q.bytes
    first_bytes (x ∷ xs) = x.bytes

  -- its kind is that of what is kept
  kept-kind : (b : Body) (bytes : List ℕ) (m : Message) → message c e b ≡ bytes → decoded_message bytes ≡ Ok m → kind_of b ≡ kind_of m.body
  kept-kind b bytes m is d = kinds-same (record { c = c; epoch = record { 0 = e }; body = b }) m (ap decoded_message is ∙ d)

  ended-spelled : (bytes : List ℕ) (h : IsEnding w r c e p.kept) → IsKept p.kept bytes → message c e (body.Ended h.last.reason h.last.snd.0 h.last.rcv.0 h.count) ≡ bytes
  ended-spelled bytes h k = kept-bytes (ended_kept c e h.last h.count) bytes h.kept_is k

  give-spelled : (bytes : List ℕ) (h : IsReturning w out vs pend c e p) → IsKept p.kept bytes → message c e (body.Give (parts_of h.block h.count)) ≡ bytes
  give-spelled bytes h k = kept-bytes _ bytes h.kept_is k

  -- an Ended says how it ended
  pub told-end : (bytes : List ℕ) → TellsBack → IsKept p.kept bytes → (m : Message) (why : Reason) (snd rcv count : ℕ) → decoded_message bytes ≡ Ok m
      → m.body ≡ body.Ended why snd rcv count → EndedWithNumbers w r (record { reason = why; snd = record { 0 = snd }; rcv = record { 0 = rcv } })
  told-end bytes tells k m why snd rcv count d is = ⊎_elim
      (λ (h : IsEnding w r c e p.kept). ends-read c e w r h.last h.count h.ended m why snd rcv count (ap decoded_message (ended-spelled bytes h k) ∙ d) is)
      (λ (h : IsReturning w out vs pend c e p).
      let no : kind.Give ≡ kind.Ended = kept-kind (body.Give (parts_of h.block h.count)) bytes m (give-spelled bytes h k) d ∙ ap kind_of is in absurd cc)
      tells

  -- a Give carries the parts of the endpoint that was frozen
  pub record GivesBack (parts : EndpointParts) : Type 0 where
    pub back : IsReturning w out vs pend c e p
    pub parts_are : parts ≡ parts_of back.block back.count

  -- where a Give is kept, it goes back
  pub goes-back : (bytes : List ℕ) → TellsBack → IsKept p.kept bytes → (m : Message) → decoded_message bytes ≡ Ok m → kind.Give ≡ kind_of m.body
      → (h : IsReturning w out vs pend c e p) × (message c e (body.Give (parts_of h.block h.count)) ≡ bytes)
  goes-back bytes tells k m d is = ⊎_elim
      (λ (h : IsEnding w r c e p.kept).
      let no : kind.Ended ≡ kind.Give = kept-kind (body.Ended h.last.reason h.last.snd.0 h.last.rcv.0 h.count) bytes m (ended-spelled bytes h k) d ∙ sym is in absurd cc)
      (λ (h : IsReturning w out vs pend c e p). (h, give-spelled bytes h k)) tells

  pub told-give : IsConnNumber c → e < 2 ^ 16 → IsStream w → (bytes : List ℕ) → TellsBack → IsKept p.kept bytes → (m : Message) (parts : EndpointParts)
      → decoded_message bytes ≡ Ok m → m.body ≡ body.Give parts → GivesBack parts
  told-give number small stream bytes tells k m parts d is =
      let back = goes-back bytes tells k m d (sym (ap kind_of is)) in
      let h : IsReturning w out vs pend c e p = back.0 in
      record {
        back = h;
        parts_are = gives-read c e w out vs pend h.block h.count number small stream h.holds h.frozen m parts (ap decoded_message back.1 ∙ d) is;
      }
