-- One step: which are possible, and what they change.
use Rattle.std.specs.Prelude.{◌≡◌, ℕ, Bool, true, false, nat_eq, ◌&&◌, ◌||◌, not, length, List, [], ◌∷◌, ◌++◌, codes, Option, Some, None, if◌then◌else◌}
use Rattle.std.specs.List.{list_all, list_any}
use Rattle.std.specs.Fmt.{signed_decimal}
use Rattle.std.specs.Str.{bytes_eq}
use Rattle.std.specs.FinMap as fm
use Rattle.std.specs.FinSet as fs
use Rattle.sal_value.specs.declared.name.Name.{Name}
use Rattle.sal_value.specs.declared.name.Name.TheVariants as name
use Rattle.sal_value.specs.declared.name.Uan.{Uan}
use Rattle.sal_value.specs.declared.name.Authority.{Authority}
use Rattle.sal_value.specs.declared.value.Value.{Value}
use Rattle.sal_value.specs.declared.value.Value.TheVariants as v
use Rattle.sal_mail.specs.declared.message.Piece.{Piece}
use Rattle.sal_mail.specs.declared.message.Piece.TheVariants.{Known, Token}
use Rattle.sal_mail.specs.declared.message.Reply.{Reply}
use Rattle.sal_mail.specs.declared.message.Target.{Target}
use Rattle.sal_mail.specs.declared.message.Target.TheVariants as target
use Rattle.sal_mail.specs.declared.message.Message.{Message}
use Rattle.sal_mail.specs.declared.message.Join.{Join}
use Rattle.sal_mail.specs.declared.effects.Actor.{Actor}
use Rattle.sal_mail.specs.declared.effects.Creation.{Creation}
use Rattle.sal_mail.specs.declared.effects.Effects.{Effects}
use Rattle.sal_mail.specs.declared.effects.Answer.{Answer}
use Rattle.sal_mail.specs.declared.effects.Answer.TheVariants as answer
use Rattle.sal_mail.specs.declared.fault.FaultKind.{FaultKind}
use Rattle.sal_mail.specs.declared.fault.FaultKind.TheVariants.{Trap as Trapped, NoHandler, NameTaken}
use Rattle.sal_mail.specs.Message.{is_ready, known_values, without_delay, is_full}
use Rattle.sal_handler.specs.Calls.{Call, Meaning}
use Rattle.sal_handler.specs.declared.turn.Outcome.{Outcome}
use Rattle.sal_handler.specs.declared.turn.Outcome.TheVariants as outcome
use Rattle.sal_source.specs.declared.state.Setup.{Setup}
use Rattle.sal_source.specs.declared.state.Step.{Step}
use Rattle.sal_source.specs.declared.state.Step.TheVariants.{Handle, Print, Bind, Refuse, Post}
use Rattle.sal_source.specs.Table.{key_cmp, key_eq, Table, write}
use Rattle.sal_source.specs.Keys.{name_key, made_key, message_key}
use Rattle.sal_source.specs.Configuration.{Configuration}
use Rattle.sal_source.specs.Give.{DueReply, full_join_reply, give, give_all}
use Rattle.sal_source.specs.Posts.{fits_post, post_message}
use Rattle.sal_mail.specs.declared.constants.TheConstants.{OUTPUT, PRINTLN, MIGRATE}

-- ---- what is put, and what goes

-- the message is pending at its maker and number, without its delay
abbrev pub put_message : Message → Table Message → Table Message
put_message m t = write t (message_key m) (Some (without_delay m))

-- all of these messages; of two with one maker and number the first stays
abbrev pub put_messages : List Message → Table Message → Table Message
put_messages [] t = t
put_messages (m ∷ ms) t = put_message m (put_messages ms t)

-- the join of this maker is open at its number
abbrev pub put_join : Name → Join → Table (Name × Join) → Table (Name × Join)
put_join maker j t = write t (made_key maker j.number) (Some (maker, j))

-- those of the joins that are open yet; of two with one number the first stays
abbrev pub put_joins : Name → List Join → Table (Name × Join) → Table (Name × Join)
put_joins maker [] t = t
put_joins maker (j ∷ js) t = if is_full j then put_joins maker js t else put_join maker j (put_joins maker js t)

-- the creation by this maker is pending at its number
abbrev pub put_creation : Name → Creation → Table (Name × Creation) → Table (Name × Creation)
put_creation maker x t = write t (made_key maker x.serial) (Some (maker, x))

-- all of these creations; of two with one number the first stays
abbrev pub put_creations : Name → List Creation → Table (Name × Creation) → Table (Name × Creation)
put_creations maker [] t = t
put_creations maker (x ∷ xs) t = put_creation maker x (put_creations maker xs t)

-- a new actor has next number 0
abbrev pub put_actors : List Actor → Table (Actor × ℕ) → Table (Actor × ℕ)
put_actors [] t = t
put_actors (a ∷ actors) t = write (put_actors actors t) (name_key a.name) (Some (a, 0))

-- the names of these actors are given, too
abbrev pub give_names : List Actor → fs.FinSet key_cmp → fs.FinSet key_cmp
give_names [] given = given
give_names (a ∷ actors) given = fs.insert (give_names actors given) (name_key a.name)

-- the message with this maker and number goes
abbrev pub drop_message : Name → ℕ → Configuration → Configuration
drop_message maker serial c = record c { waiting = record c.waiting { messages = write c.waiting.messages (made_key maker serial) None } }

-- one fault more, with the maker and number of the message or creation
abbrev pub add_fault : FaultKind → Name → ℕ → Configuration → Configuration
add_fault kind maker serial c = record c { faults = c.faults ++ record { maker = maker; serial = serial; kind = kind } ∷ [] }

-- one printed text more
abbrev pub add_output : List ℕ → Configuration → Configuration
add_output text c = record c { output = c.output ++ text ∷ [] }

-- ---- handling a message

-- `migrate` is behaviour 65,535 with handler 65,535
abbrev pub is_migrate_message : Message → Bool
is_migrate_message m = nat_eq m.behavior OUTPUT && nat_eq m.handler MIGRATE

-- an actor understands the messages of its behaviour, and `migrate`
abbrev pub understands : Actor → Message → Bool
understands a m = nat_eq m.behavior a.behavior || is_migrate_message m

-- new actors take the fresh names, of which no theatre is known
abbrev pub call_of : Message → Actor × ℕ → List Name → Call
call_of m a fresh = record {
  me = a.0.name;
  behavior = a.0.behavior;
  fields = a.0.fields;
  handler = m.handler;
  args = known_values m.args;
  reply = m.reply;
  serial = a.1;
  names = fresh;
  fresh = 0;
}

-- the name is that of an actor without a universal name
abbrev pub is_anonymous : Name → Bool
is_anonymous (name.Anon theatre number) = true
is_anonymous (name.Uan u) = false
is_anonymous (name.Outside number) = false

-- an anonymous name that was never given
abbrev pub is_new : fs.FinSet key_cmp → Name → Bool
is_new given n = is_anonymous n && not (fs.contains given (name_key n))

-- no name is there twice
abbrev pub are_different : List Name → Bool
are_different [] = true
are_different (n ∷ names) = not (list_any (λ m. key_eq (name_key n) (name_key m)) names) && are_different names

-- different anonymous names that were never given
abbrev pub are_fresh : List Name → fs.FinSet key_cmp → Bool
are_fresh names given = list_all (is_new given) names && are_different names

-- just as many fresh names as the handler made actors
abbrev pub fits_fresh : List Name → Effects → Configuration → Bool
fits_fresh fresh e c = nat_eq (length fresh) (length e.actors) && are_fresh fresh c.given

-- the actor has its fields and its next number, and what the handler made is there
abbrev pub with_effects : Effects → Actor → Configuration → Configuration
with_effects e a c = record c {
  actors = write (put_actors e.actors c.actors) (name_key a.name) (Some (record a { fields = e.fields }, e.serial));
  given = give_names e.actors c.given;
  creations = put_creations a.name e.creations c.creations;
  waiting = record { messages = put_messages e.messages c.waiting.messages; joins = put_joins a.name e.joins c.waiting.joins };
}

-- the answer goes to the message's reply, unless it was passed on
abbrev pub answer_replies : Answer → Reply → List DueReply
answer_replies (answer.Value value) reply = (reply, value) ∷ []
answer_replies answer.Passed reply = []

-- the arrays of the full joins, in the order of the list, which is that of their numbers
abbrev pub full_join_replies : List Join → List DueReply
full_join_replies [] = []
full_join_replies (j ∷ js) = full_join_reply j ++ full_join_replies js

-- and then the answer
abbrev pub step_replies : Effects → Reply → List DueReply
step_replies e reply = full_join_replies e.joins ++ answer_replies e.answer reply

-- where there is nothing to name, no name is taken
abbrev pub if_no_names : List Name → Configuration → Option Configuration
if_no_names [] c = Some c
if_no_names (n ∷ names) c = None

-- a message whose actor doesn't understand it goes
abbrev pub fault_no_handler : Name → ℕ → List Name → Configuration → Option Configuration
fault_no_handler maker serial fresh c = if_no_names fresh (add_fault NoHandler maker serial (drop_message maker serial c))

-- what comes of a message that went, by what its handler does; a trap leaves nothing else of the handler
abbrev pub after_outcome : Outcome → Name → ℕ → List Name → Message → Actor → Configuration → Option Configuration
after_outcome (outcome.Done e) maker serial fresh m a c = if fits_fresh fresh e c then Some (give_all (step_replies e m.reply) (with_effects e a c)) else None
after_outcome (outcome.Trap kind) maker serial fresh m a c = if_no_names fresh (add_fault (Trapped kind) maker serial c)

-- a message that went is handled by the actor, or is the fault `no-handler`
abbrev pub handle_by_actor : (Call → Outcome) → Name → ℕ → List Name → Message → Actor × ℕ → Configuration → Option Configuration
handle_by_actor outcomes maker serial fresh m a c =
    if understands a.0 m then after_outcome (outcomes (call_of m a fresh)) maker serial fresh m a.0 c else if_no_names fresh (add_fault NoHandler maker serial c)

-- a message that went is handled by its actor; where there is none, the step isn't possible
abbrev pub handle_if_actor : (Call → Outcome) → Name → ℕ → List Name → Message → Option (Actor × ℕ) → Configuration → Option Configuration
handle_if_actor outcomes maker serial fresh m None c = None
handle_if_actor outcomes maker serial fresh m (Some a) c = handle_by_actor outcomes maker serial fresh m a c

-- the actor that the target names, with its next number; the output has none
abbrev pub actor_at : Target → Configuration → Option (Actor × ℕ)
actor_at (target.Actor n) c = fm.get c.actors (name_key n)
actor_at target.Output c = None

-- the message goes, and is handled by the actor of its target
abbrev pub handle_message : (Call → Outcome) → Name → ℕ → List Name → Message → Configuration → Option Configuration
handle_message outcomes maker serial fresh m c = handle_if_actor outcomes maker serial fresh m (actor_at m.target c) (drop_message maker serial c)

-- ---- printing a message

-- a text, an int's decimal, or a boolean's word; of all else, nothing
abbrev pub value_text : Value → List ℕ
value_text (v.Str text) = text
value_text (v.Int n) = signed_decimal n
value_text (v.Bool b) = if b then codes "true" else codes "false"
value_text _ = []

-- the text of a known argument; a token has none
abbrev pub piece_text : Piece → List ℕ
piece_text (Known value) = value_text value
piece_text (Token number) = []

-- of no argument, and of what has no text, nothing
abbrev pub argument_text : List Piece → List ℕ
argument_text (p ∷ []) = piece_text p
argument_text _ = []

-- `println`, which is handler 1, adds a line feed
abbrev pub message_text : Message → List ℕ
message_text m = if nat_eq m.handler PRINTLN then argument_text m.args ++ 10 ∷ [] else argument_text m.args

-- a message that went is printed, and null is given to its reply; only the output prints
abbrev pub print_to : Target → Message → Configuration → Option Configuration
print_to target.Output m c = Some (give m.reply v.Null (add_output (message_text m) c))
print_to (target.Actor n) m c = None

-- its text is printed, and null is its reply
abbrev pub print_message : Name → ℕ → Message → Configuration → Option Configuration
print_message maker serial m c = print_to m.target m (drop_message maker serial c)

-- ---- creations

-- the naming service of the name's host and port is among these
abbrev pub serves : Authority → Uan → Bool
serves a u = bytes_eq a.host u.host && nat_eq a.port u.port

-- the naming service of the name is among these
abbrev pub is_served : List Authority → Uan → Bool
is_served authorities u = list_any (λ a. serves a u) authorities

-- the creation's name was given before
abbrev pub is_given : Creation → Configuration → Bool
is_given x c = fs.contains c.given (name_key (name.Uan x.name))

-- the creation with this maker and number goes
abbrev pub drop_creation : Name → ℕ → Configuration → Configuration
drop_creation maker serial c = record c { creations = write c.creations (made_key maker serial) None }

-- the actor that a creation makes, under its universal name
abbrev pub bound_actor : Creation → Actor
bound_actor x = record { name = name.Uan x.name; behavior = x.behavior; fields = x.fields }

-- the actor exists, and its name is given
abbrev pub bind_creation : Creation → Configuration → Configuration
bind_creation x c = record c { actors = write c.actors (name_key (name.Uan x.name)) (Some (bound_actor x, 0)); given = fs.insert c.given (name_key (name.Uan x.name)) }

-- a pending creation is bound where its naming service is there and its name was never given
abbrev pub bind : List Authority → Name → ℕ → Option (Name × Creation) → Configuration → Option Configuration
bind authorities maker serial None c = None
bind authorities maker serial (Some x) c = if is_served authorities x.1.name && not (is_given x.1 c) then Some (bind_creation x.1 (drop_creation maker serial c)) else None

-- a pending creation is refused, with the fault `name-taken`, where its name was given
abbrev pub refuse : Name → ℕ → Option (Name × Creation) → Configuration → Option Configuration
refuse maker serial None c = None
refuse maker serial (Some x) c = if is_given x.1 c then Some (add_fault NameTaken maker serial (drop_creation maker serial c)) else None

-- ---- steps

-- what the pending message allows, if it is ready
abbrev pub if_ready : Option Message → (Message → Option Configuration) → Option Configuration
if_ready None f = None
if_ready (Some m) f = if is_ready m then f m else None

-- the pending message with this maker and number, if there is one
abbrev pub pending : Name → ℕ → Configuration → Option Message
pending maker serial c = fm.get c.waiting.messages (made_key maker serial)

-- the ready message goes, and is handled
abbrev pub handle_step : (Call → Outcome) → Name → ℕ → List Name → Configuration → Option Configuration
handle_step outcomes maker serial fresh c = if_ready (pending maker serial c) (λ m. handle_message outcomes maker serial fresh m c)

-- the ready message goes, and is printed
abbrev pub print_step : Name → ℕ → Configuration → Option Configuration
print_step maker serial c = if_ready (pending maker serial c) (λ m. print_message maker serial m c)

-- the pending creation goes, where its naming service is there and its name was never given
abbrev pub bind_step : List Authority → Name → ℕ → Configuration → Option Configuration
bind_step authorities maker serial c = bind authorities maker serial (fm.get c.creations (made_key maker serial)) c

-- the pending creation goes, where its name was given
abbrev pub refuse_step : Name → ℕ → Configuration → Option Configuration
refuse_step maker serial c = refuse maker serial (fm.get c.creations (made_key maker serial)) c

-- the message is pending, and the last post's number is this one
abbrev pub after_post : ℕ → Uan → ℕ → ℕ → List Value → Configuration → Configuration
after_post number to behavior handler args c = record c { waiting = record c.waiting { messages = put_message (post_message number to behavior handler args) c.waiting.messages }; posted = number }

-- a post that fits, where the call fits the program
abbrev pub post_step : Bool → ℕ → Uan → ℕ → ℕ → List Value → Configuration → Option Configuration
post_step fits number to behavior handler args c = if fits && fits_post c.posted number to behavior args then Some (after_post number to behavior handler args c) else None

-- the configuration after a step, where the step is possible
unfoldable pub step : Meaning → Setup → Configuration → Step → Option Configuration
step p setup c (Handle maker serial fresh) = handle_step p.outcome maker serial fresh c
step p setup c (Print maker serial) = print_step maker serial c
step p setup c (Bind maker serial) = bind_step setup.authorities maker serial c
step p setup c (Refuse maker serial) = refuse_step maker serial c
step p setup c (Post number to behavior handler args) = post_step (p.fits_call behavior handler args) number to behavior handler args c

-- the step is a post
abbrev pub is_post : Step → Bool
is_post (Post number to behavior handler args) = true
is_post (Handle maker serial fresh) = false
is_post (Print maker serial) = false
is_post (Bind maker serial) = false
is_post (Refuse maker serial) = false

-- no step but a post is possible
abbrev pub IsFinal : Meaning → Setup → Configuration → Type 0
IsFinal p setup c = (s : Step) → is_post s ≡ false → step p setup c s ≡ None

-- no step but a post is possible for any program, with these naming services and any words
abbrev pub IsAtEnd : List Authority → Configuration → Type 0
IsAtEnd authorities c = (p : Meaning) (setup : Setup) → setup.authorities ≡ authorities → IsFinal p setup c
