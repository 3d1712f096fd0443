-- Giving replies to whom they are owed.
use Rattle.std.specs.Prelude.{ℕ, zero, suc, ◌+◌, List, [], ◌∷◌, ◌++◌, length, cond, Option, Some, None}
use Rattle.std.specs.FinMap as fm
use Rattle.sal_value.specs.declared.name.Name.{Name}
use Rattle.sal_value.specs.declared.value.Value.{Value}
use Rattle.sal_value.specs.Spelling.{is_legal}
use Rattle.sal_mail.specs.declared.message.Reply.{Reply}
use Rattle.sal_mail.specs.declared.message.Reply.TheVariants.{Nobody, Tok, Place, Outside}
use Rattle.sal_mail.specs.declared.message.Message.{Message}
use Rattle.sal_mail.specs.declared.message.Join.{Join}
use Rattle.sal_mail.specs.Message.{with_reply, with_slot, is_full, join_value}
use Rattle.sal_source.specs.Table.{key_eq, write, table_map}
use Rattle.sal_source.specs.Keys.{name_key, made_key}
use Rattle.sal_source.specs.Configuration.{Waiting, Configuration}

-- a reply that is due, and its value
abbrev pub DueReply : Type 0
DueReply = Reply × Value

-- ---- messages

-- only the messages of the token's maker wait for it
abbrev pub resolve : Name → ℕ → Value → Message → Message
resolve maker number value m = cond (key_eq (name_key maker) (name_key m.maker)) (with_reply number value m) m

-- ---- joins

-- a full join is open no more
abbrev pub if_still_open : Name × Join → Option (Name × Join)
if_still_open j = cond (is_full j.1) None (Some j)

-- and its array, or null, is given to its reply
abbrev pub full_join_reply : Join → List DueReply
full_join_reply j = cond (is_full j) ((j.reply, join_value j) ∷ []) []

-- an open join with the value in this slot, where it was empty
abbrev pub owned_join_with_slot : ℕ → Value → Name × Join → Name × Join
owned_join_with_slot at value j = (j.0, with_slot at value j.1)

-- the open join once the value came to the slot, where there is such a join
abbrev pub join_after_value : ℕ → Value → Option (Name × Join) → Option (Name × Join)
join_after_value at value None = None
join_after_value at value (Some j) = if_still_open (owned_join_with_slot at value j)

-- the reply that it makes due then
abbrev pub join_replies : ℕ → Value → Option (Name × Join) → List DueReply
join_replies at value None = []
join_replies at value (Some j) = full_join_reply (with_slot at value j.1)

-- ---- one reply

-- what waits, once the reply was given
abbrev pub give_to : Reply → Value → Waiting → Waiting
give_to Nobody value w = w
give_to (Outside number) value w = w
give_to (Tok maker number) value w = record w { messages = table_map (resolve maker number value) w.messages }
give_to (Place maker join at) value w = record w { joins = write w.joins (made_key maker join) (join_after_value at value (fm.get w.joins (made_key maker join))) }

-- the array of the join that it made full
abbrev pub replies_from : Reply → Value → Waiting → List DueReply
replies_from Nobody value w = []
replies_from (Outside number) value w = []
replies_from (Tok maker number) value w = []
replies_from (Place maker join at) value w = join_replies at value (fm.get w.joins (made_key maker join))

-- the answer to a call from outside
abbrev pub outside_answers : Reply → Value → List (ℕ × Value)
outside_answers Nobody value = []
outside_answers (Outside number) value = (number, value) ∷ []
outside_answers (Tok maker number) value = []
outside_answers (Place maker join at) value = []

-- nothing comes of a value that isn't legal
abbrev pub give_one : DueReply → Waiting → Waiting
give_one g w = cond (is_legal g.1) (give_to g.0 g.1 w) w

-- the replies that a reply makes due; a value that isn't legal makes none
abbrev pub replies_if_legal : DueReply → Waiting → List DueReply
replies_if_legal g w = cond (is_legal g.1) (replies_from g.0 g.1 w) []

-- the answer to a call from outside that a reply is, if it is one and its value is legal
abbrev pub answers_if_legal : DueReply → List (ℕ × Value)
answers_if_legal g = cond (is_legal g.1) (outside_answers g.0 g.1) []

-- ---- replies one after another

-- What waits after at most so many replies, from the front of the list. What a reply releases comes next.
unfoldable pub settle : ℕ → List DueReply → Waiting → Waiting
settle zero gs w = w
settle (suc n) [] w = w
settle (suc n) (g ∷ gs) w = settle n (replies_if_legal g w ++ gs) (give_one g w)

-- the answers to calls from outside on the way
unfoldable pub settle_answers : ℕ → List DueReply → Waiting → List (ℕ × Value)
settle_answers zero gs w = []
settle_answers (suc n) [] w = []
settle_answers (suc n) (g ∷ gs) w = answers_if_legal g ++ settle_answers n (replies_if_legal g w ++ gs) (give_one g w)

-- how many can be given at most: these, and one for each open join, since each reply of a join takes it out
abbrev pub settle_bound : List DueReply → Waiting → ℕ
settle_bound gs w = length gs + fm.len w.joins

-- what waits once these replies, and those that they release, were given
abbrev pub settle_all : List DueReply → Waiting → Waiting
settle_all gs w = settle (settle_bound gs w) gs w

-- the answers to calls from outside that come of it
abbrev pub settle_all_answers : List DueReply → Waiting → List (ℕ × Value)
settle_all_answers gs w = settle_answers (settle_bound gs w) gs w

-- the configuration after these replies were given in this order
abbrev pub give_all : List DueReply → Configuration → Configuration
give_all gs c = record c { waiting = settle_all gs c.waiting; answers = c.answers ++ settle_all_answers gs c.waiting }

-- the configuration after the reply was given
abbrev pub give : Reply → Value → Configuration → Configuration
give reply value c = give_all ((reply, value) ∷ []) c
