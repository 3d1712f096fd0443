-- The configuration that pieces make.
use Rattle.std.specs.Prelude.{ℕ, List, ◌++◌, filter_map, Option, Some, None}
use Rattle.std.specs.FinSet as fs
use Rattle.sal_value.specs.declared.name.Name.{Name}
use Rattle.sal_value.specs.declared.name.Name.TheVariants as name
use Rattle.sal_mail.specs.declared.message.Message.{Message}
use Rattle.sal_mail.specs.declared.message.Join.{Join}
use Rattle.sal_mail.specs.declared.effects.Actor.{Actor}
use Rattle.sal_mail.specs.declared.effects.Creation.{Creation}
use Rattle.sal_source.specs.Table.{TableKey, table_of}
use Rattle.sal_source.specs.Keys.{name_key, message_key, join_key, creation_key, actor_key}
use Rattle.sal_value.specs.declared.value.Value.{Value}
use Rattle.sal_mail.specs.declared.fault.Fault.{Fault}
use Rattle.sal_source.specs.Configuration.{Waiting, Configuration}
use Rattle.sal_source.specs.Give.{DueReply, settle_all}
use Rattle.sal_pieces.specs.Pieces.{Thing, ActorThing, MessageThing, JoinThing, CreationThing, ReplyThing, Piece, things}

-- ---- things of one kind

abbrev pub actor_in : Thing → Option (Actor × ℕ)
actor_in (ActorThing a) = Some a
actor_in (MessageThing m) = None
actor_in (JoinThing j) = None
actor_in (CreationThing x) = None
actor_in (ReplyThing g) = None

abbrev pub message_in : Thing → Option Message
message_in (ActorThing a) = None
message_in (MessageThing m) = Some m
message_in (JoinThing j) = None
message_in (CreationThing x) = None
message_in (ReplyThing g) = None

abbrev pub join_in : Thing → Option (Name × Join)
join_in (ActorThing a) = None
join_in (MessageThing m) = None
join_in (JoinThing j) = Some j
join_in (CreationThing x) = None
join_in (ReplyThing g) = None

abbrev pub creation_in : Thing → Option (Name × Creation)
creation_in (ActorThing a) = None
creation_in (MessageThing m) = None
creation_in (JoinThing j) = None
creation_in (CreationThing x) = Some x
creation_in (ReplyThing g) = None

abbrev pub reply_in : Thing → Option DueReply
reply_in (ActorThing a) = None
reply_in (MessageThing m) = None
reply_in (JoinThing j) = None
reply_in (CreationThing x) = None
reply_in (ReplyThing g) = Some g

-- the name of an actor without a universal name
abbrev pub anonymous_name : Name → Option TableKey
anonymous_name (name.Anon theatre number) = Some (name_key (name.Anon theatre number))
anonymous_name (name.Uan u) = None
anonymous_name (name.Outside number) = None

abbrev pub anonymous_in : Thing → Option TableKey
anonymous_in (ActorThing a) = anonymous_name a.0.name
anonymous_in (MessageThing m) = None
anonymous_in (JoinThing j) = None
anonymous_in (CreationThing x) = None
anonymous_in (ReplyThing g) = None

-- ---- the configuration that pieces make

-- what waits, before the replies are given
unfoldable pub waiting_before_replies : List Thing → Waiting
waiting_before_replies ts = record {
  messages = table_of message_key
      (filter_map message_in ts);
  joins = table_of join_key (filter_map join_in ts);
}

-- what waits, once each reply on its way is given
abbrev pub waiting_after_replies : List Thing → Waiting
waiting_after_replies ts = settle_all (filter_map reply_in ts) (waiting_before_replies ts)

-- What a configuration has beside its pieces: the texts, faults and answers told so far, in order,
-- and the last post's number.
pub record History : Type 0 where
  pub output : List (List ℕ)
  pub faults : List Fault
  pub answers : List (ℕ × Value)
  pub posted : ℕ

-- Given are the names of anonymous actors, and those that naming services bound.
unfoldable pub image_of : List TableKey → List Thing → History → Configuration
image_of bound ts w = record {
  actors = table_of actor_key (filter_map actor_in ts);
  given = fs.from_list (filter_map anonymous_in ts ++ bound);
  creations = table_of creation_key (filter_map creation_in ts);
  waiting = waiting_after_replies ts;
  output = w.output;
  faults = w.faults;
  answers = w.answers;
  posted = w.posted;
}

-- the image of these pieces, where these universal names were bound and this was told
abbrev pub image : List TableKey → List Piece → History → Configuration
image bound ps h = image_of bound (things ps) h
