-- Configurations: what is there between two steps. No theatre occurs in one.
use Rattle.std.specs.Prelude.{ℕ, List, [], ◌∷◌, refl}
use Rattle.std.specs.Coded.{Coded, code_by, coded×, coded_ℕ, coded_list}
use Rattle.std.specs.FinMap as fm
use Rattle.std.specs.FinSet as fs
use Rattle.sal_value.specs.declared.name.Name.{Name}
use Rattle.sal_value.specs.contracts.name.Name.{the_row as name_row}
use Rattle.sal_value.specs.declared.name.Name.TheVariants.{Anon, Outside}
use Rattle.sal_value.specs.declared.name.Authority.{Authority}
use Rattle.sal_value.specs.contracts.name.Authority.{the_row as authority_row}
use Rattle.sal_value.specs.declared.value.Value.{Value}
use Rattle.sal_value.specs.declared.value.Value.TheVariants.{Array}
use Rattle.sal_value.specs.contracts.value.Value.{the_row as value_row}
use Rattle.sal_mail.specs.declared.message.Piece.TheVariants.{Known}
use Rattle.sal_mail.specs.declared.message.Reply.TheVariants as reply
use Rattle.sal_mail.specs.declared.message.Target.TheVariants as target
use Rattle.sal_mail.specs.declared.message.Message.{Message}
use Rattle.sal_mail.specs.contracts.message.Message.{the_row as message_row}
use Rattle.sal_mail.specs.declared.message.Join.{Join}
use Rattle.sal_mail.specs.contracts.message.Join.{the_row as join_row}
use Rattle.sal_mail.specs.declared.effects.Actor.{Actor}
use Rattle.sal_mail.specs.contracts.effects.Actor.{the_row as actor_row}
use Rattle.sal_mail.specs.declared.effects.Creation.{Creation}
use Rattle.sal_mail.specs.contracts.effects.Creation.{the_row as creation_row}
use Rattle.sal_mail.specs.declared.fault.Fault.{Fault}
use Rattle.sal_mail.specs.declared.fault.FaultKind.TheVariants.{Trap as Trapped}
use Rattle.sal_mail.specs.contracts.fault.Fault.{the_row as fault_row}
use Rattle.sal_handler.specs.declared.turn.Began.{Began}
use Rattle.sal_handler.specs.declared.turn.Began.TheVariants as began
use Rattle.sal_handler.specs.Calls.{Meaning}
use Rattle.sal_source.specs.declared.state.Setup.{Setup}
use Rattle.sal_source.specs.Table.{TableKey, key_cmp, Table, table_of}
use Rattle.sal_source.specs.Keys.{name_key, message_key, actor_key}

-- What replies are given to: the pending messages by maker and number, and the open joins by maker and
-- number. A pending message has no delay.
pub record Waiting : Type 0 where
  pub messages : Table Message
  pub joins : Table (Name × Join)

-- Actors by name, each with its next number; the names ever given; the pending creations by maker and
-- number; what waits; what came out, oldest first: printed texts, faults, and answers to calls from
-- outside; and the number of the last post, which is 0 before the first.
pub record Configuration : Type 0 where
  pub actors : Table (Actor × ℕ)
  pub given : fs.FinSet key_cmp
  pub creations : Table (Name × Creation)
  pub waiting : Waiting
  pub output : List (List ℕ)
  pub faults : List Fault
  pub answers : List (ℕ × Value)
  pub posted : ℕ

-- The configuration that a run has come to, with the naming services that there are.
pub record End : Type 0 where
  pub authorities : List Authority
  pub configuration : Configuration

-- ---- their codes, so that a type of the program can stand for them

-- the code of keys and texts
abbrev pub key_code : Coded TableKey
key_code = coded_list coded_ℕ

-- the code of the open joins with their makers
abbrev pub joins_code : Coded (Table (Name × Join))
joins_code = fm.code key_code (coded× name_row.coded join_row.coded)

-- the code of what waits
abbrev pub waiting_code : Coded Waiting
waiting_code =
    code_by
    (Table Message × Table (Name × Join))
    (coded× (fm.code key_code message_row.coded) joins_code)
    (λ w. (w.messages, w.joins))
    (λ p. record { messages = p.0; joins = p.1 })
    (λ _. refl)

-- the code of the actors with their next numbers
abbrev pub actors_code : Coded (Table (Actor × ℕ))
actors_code = fm.code key_code (coded× actor_row.coded coded_ℕ)

-- the code of the pending creations with their makers
abbrev pub creations_code : Coded (Table (Name × Creation))
creations_code = fm.code key_code (coded× name_row.coded creation_row.coded)

abbrev pub configuration_code : Coded Configuration
configuration_code =
    code_by
    (Table (Actor × ℕ) × (fs.FinSet key_cmp × (Table (Name × Creation) × (Waiting × (List (List ℕ) × (List Fault × (List (ℕ × Value) × ℕ)))))))
    (coded× actors_code (coded× (fs.code key_code) (coded× creations_code (coded× waiting_code (coded× (coded_list key_code) (coded× (coded_list fault_row.coded) (coded× (coded_list (coded× coded_ℕ value_row.coded)) coded_ℕ)))))))
    (λ c. (c.actors, (c.given, (c.creations, (c.waiting, (c.output, (c.faults, (c.answers, c.posted))))))))
    (λ p. record { actors = p.0; given = p.1.0; creations = p.1.1.0; waiting = p.1.1.1.0; output = p.1.1.1.1.0; faults = p.1.1.1.1.1.0; answers = p.1.1.1.1.1.1.0; posted = p.1.1.1.1.1.1.1 })
    (λ _. refl)

-- the code of what runs come to
abbrev pub end_code : Coded End
end_code =
    code_by
    (List Authority × Configuration)
    (coded× (coded_list authority_row.coded) configuration_code)
    (λ e. (e.authorities, e.configuration))
    (λ p. record { authorities = p.0; configuration = p.1 })
    (λ _. refl)

-- ---- the first configuration

-- the name of the start actor
abbrev pub start_name : Name
start_name = Anon 0 0

-- the start actor of this behaviour with these fields, and its next number, 0
abbrev pub start_actor : ℕ → List Value → Actor × ℕ
start_actor behavior fields = (record { name = start_name; behavior = behavior; fields = fields }, 0)

-- the message `act`, whose argument is the words
abbrev pub act_message : List Value → ℕ → ℕ → Message
act_message words behavior handler = record {
  maker = Outside 0;
  serial = 0;
  target = target.Actor start_name;
  behavior = behavior;
  handler = handler;
  args = Known (Array words) ∷ [];
  after = [];
  delay = 0;
  reply = reply.Nobody;
}

-- the start actor stands, its name is given, and `act` is pending; or there is only the fault of the start
abbrev pub first_by : List Value → Began → Configuration
first_by words (began.Actor behavior handler fields) = record {
  actors = table_of actor_key (start_actor behavior fields ∷ []);
  given = fs.from_list (name_key start_name ∷ []);
  creations = fm.empty;
  waiting = record { messages = table_of message_key (act_message words behavior handler ∷ []); joins = fm.empty };
  output = [];
  faults = [];
  answers = [];
  posted = 0;
}
first_by words (began.Trap kind) = record {
  actors = fm.empty;
  given = fs.empty;
  creations = fm.empty;
  waiting = record { messages = fm.empty; joins = fm.empty };
  output = [];
  faults = record { maker = Outside 0; serial = 0; kind = Trapped kind } ∷ [];
  answers = [];
  posted = 0;
}

-- the first configuration: how the program begins, with the words of this setup
abbrev pub first_configuration : Meaning → Setup → Configuration
first_configuration p setup = first_by setup.words p.begin
