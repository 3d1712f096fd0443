-- Each thing once: no key comes twice among things of one kind, and no reply is owed twice.
use Rattle.std.specs.Prelude.{◌≢◌, ℕ, ◌≤◌, if◌then◌else◌, List, filter_map, Option, Some, None}
use Rattle.sal_mail.specs.declared.message.Reply.{Reply}
use Rattle.sal_mail.specs.declared.message.Reply.TheVariants.{Nobody}
use Rattle.sal_mail.specs.ReplyKeys.{reply_key, owes}
use Rattle.sal_source.specs.Table.{TableKey, key_eq, total}
use Rattle.sal_source.specs.Keys.{actor_key, message_key, join_key, creation_key}
use Rattle.sal_source.specs.Laws.{IsOwedOnce}
use Rattle.sal_pieces.specs.Pieces.{Thing, ActorThing, MessageThing, JoinThing, CreationThing, ReplyThing}
use Rattle.sal_pieces.specs.Image.{reply_in, waiting_before_replies}

abbrev pub one_if_key : TableKey → Option TableKey → ℕ
one_if_key k None = 0
one_if_key k (Some q) = if key_eq k q then 1 else 0

abbrev pub actor_key_in : Thing → Option TableKey
actor_key_in (ActorThing a) = Some (actor_key a)
actor_key_in (MessageThing m) = None
actor_key_in (JoinThing j) = None
actor_key_in (CreationThing x) = None
actor_key_in (ReplyThing g) = None

abbrev pub message_key_in : Thing → Option TableKey
message_key_in (ActorThing a) = None
message_key_in (MessageThing m) = Some (message_key m)
message_key_in (JoinThing j) = None
message_key_in (CreationThing x) = None
message_key_in (ReplyThing g) = None

abbrev pub join_key_in : Thing → Option TableKey
join_key_in (ActorThing a) = None
join_key_in (MessageThing m) = None
join_key_in (JoinThing j) = Some (join_key j)
join_key_in (CreationThing x) = None
join_key_in (ReplyThing g) = None

abbrev pub creation_key_in : Thing → Option TableKey
creation_key_in (ActorThing a) = None
creation_key_in (MessageThing m) = None
creation_key_in (JoinThing j) = None
creation_key_in (CreationThing x) = Some (creation_key x)
creation_key_in (ReplyThing g) = None

-- how often a thing with this key is there
abbrev pub count_at_key : (Thing → Option TableKey) → TableKey → List Thing → ℕ
count_at_key words k ts = total (λ t. one_if_key k (words t)) ts

-- how often the thing owes to this address
abbrev pub count_owed : TableKey → Thing → ℕ
count_owed a (ActorThing x) = 0
count_owed a (MessageThing m) = owes a m.reply
count_owed a (JoinThing j) = owes a j.1.reply
count_owed a (CreationThing x) = 0
count_owed a (ReplyThing g) = owes a g.0

-- no thing is there twice, and no reply is owed twice
pub record StandOnce (ts : List Thing) : Type 0 where
  pub actors : (k : TableKey) → count_at_key actor_key_in k ts ≤ 1
  pub messages : (k : TableKey) → count_at_key message_key_in k ts ≤ 1
  pub joins : (k : TableKey) → count_at_key join_key_in k ts ≤ 1
  pub creations : (k : TableKey) → count_at_key creation_key_in k ts ≤ 1
  pub replies : (r : Reply) → r ≢ Nobody → total (count_owed (reply_key r)) ts ≤ 1

-- No address is owed twice by the replies that are still to be given, the pending messages and the
-- open joins: so these
-- replies may be given in any order.
abbrev pub OwesOnce : List Thing → Type 0
OwesOnce ts = IsOwedOnce (filter_map reply_in ts) (waiting_before_replies ts)
