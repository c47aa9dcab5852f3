-- What is so of each packet that is on its way behind the two rounds, in the words of chains: it is warm.
use Rattle.std.proofs.Common.{◌≡◌, ℕ, List, Option, Some, None, Result, Ok, Err, refl, subst}
use Rattle.lard_law_view.specs.Prelude.{Body, Client, Conn, Front, IsConnSound, Letter, Message, MsgFault, Node, Place, Said, SegFault, Station, ToCluster, decoded, decoded_message}
use Rattle.lard_bound.specs.Progress.{IsWarm, IsWarmBetween, IsWarmBody, IsWarmBy, IsWarmMessage, IsWarmSegment}
use Rattle.lard_message.specs.declared.message.Body.TheVariants as body
use Rattle.lard_law_progress.proofs.AnswersForm.{IsLateBetween, IsLateBody, IsLateOn, IsLateWord}
use Rattle.lard_law_settles.proofs.EnoughWording.{AreWordsOf, Forwards, Second, SecondOn}

module _ (x : Conn) (st : Station) (there : x.part.station ≡ Some st) (named : st.client.c ≡ x.c) where
  segment-warm : (bytes : List ℕ) → AreWordsOf x bytes → IsWarmSegment st.client (decoded bytes st.client.c ToCluster)
  segment-warm bytes h = go (decoded bytes st.client.c ToCluster) refl where
    go : (r : Result Said SegFault) → decoded bytes st.client.c ToCluster ≡ r → IsWarmSegment st.client r
    go (Err fault) e = tt
    go (Ok s) e = (h st there s (subst (λ (c : ℕ). decoded bytes c ToCluster ≡ Ok s) named e)).0

  body-warm : (b : Body) → ((segment : List ℕ) → b ≡ body.Forward segment → AreWordsOf x segment) → IsWarmBody st.client b
  body-warm (body.Forward segment) h = segment-warm segment (h segment refl)
  body-warm _ h = tt

  message-warm : (bytes : List ℕ) → Forwards x bytes → IsWarmMessage st.client (decoded_message bytes)
  message-warm bytes h = go (decoded_message bytes) refl where
    go : (r : Result Message MsgFault) → decoded_message bytes ≡ r → IsWarmMessage st.client r
    go (Err fault) e = tt
    go (Ok m) e = body-warm m.body (λ segment is. h m segment e is)

  between-warm : (from to : Place) (l : Letter) → SecondOn x from to l.bytes → IsWarmBetween st.client from to l
  between-warm (Client d) Front l h = segment-warm l.bytes h
  between-warm Front (Node n) l h = message-warm l.bytes h
  between-warm _ _ l h = tt

pub second-warm : (x : Conn) → IsConnSound x → (l : Letter) → Second x l → IsWarm x l
second-warm x sound l h = go x.part.station refl where
  go : (o : Option Station) → x.part.station ≡ o → IsWarmBy o l
  go None at = tt
  go (Some st) at = between-warm x st at (sound.client st at) l.from l.to l h

-- ---- a reset among them has no ACK, where the client opened

module _ (x : Conn) (st : Station) (there : x.part.station ≡ Some st) where
  word-late : (bytes : List ℕ) → AreWordsOf x bytes → IsLateWord x.c bytes
  word-late bytes h s d = (h st there s d).1

  body-late : (b : Body) → ((segment : List ℕ) → b ≡ body.Forward segment → AreWordsOf x segment) → IsLateBody x.c b
  body-late (body.Forward segment) h = word-late segment (h segment refl)
  body-late _ h = tt

  between-late : (from to : Place) (bytes : List ℕ) → SecondOn x from to bytes → IsLateBetween x.c from to bytes
  between-late (Client d) Front bytes h = word-late bytes h
  between-late Front (Node n) bytes h = λ m is. body-late m.body (λ segment same. h m segment is same)
  between-late _ _ bytes h = tt

pub second-late : (x : Conn) (l : Letter) → Second x l → IsLateOn x l
second-late x l h st there = between-late x st there l.from l.to l.bytes h
