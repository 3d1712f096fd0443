-- Calls of handlers, and what a program means by them.
use Rattle.std.specs.Prelude.{ℕ, zero, suc, ◌+◌, Bool, List, [], ◌∷◌}
use Rattle.sal_value.specs.declared.name.Name.{Name}
use Rattle.sal_value.specs.declared.name.Name.TheVariants.{Anon}
use Rattle.sal_value.specs.declared.value.Value.{Value}
use Rattle.sal_mail.specs.declared.message.Reply.{Reply}
use Rattle.sal_handler.specs.declared.turn.Turn.{Turn}
use Rattle.sal_handler.specs.declared.turn.Outcome.{Outcome}
use Rattle.sal_handler.specs.declared.turn.Began.{Began}
use Rattle.sal_handler.specs.declared.constants.TheConstants.{MOST_MADE}

-- A call of a handler: the actor's name, the number of its behaviour, and its fields; the number of the
-- handler, which is 65,535 for `migrate`, and the arguments; to whom the handled message owes its reply; the
-- actor's next number; the names that new actors take, in this order; and the number that the first of
-- these names has at its place, or 0 where no place is known.
pub record Call : Type 0 where
  pub me : Name
  pub behavior : ℕ
  pub fields : List Value
  pub handler : ℕ
  pub args : List Value
  pub reply : Reply
  pub serial : ℕ
  pub names : List Name
  pub fresh : ℕ

-- What a program means: what each call does, how it begins, and which calls and states fit it.
pub record Meaning : Type 0 where
  pub outcome : Call → Outcome
  pub begin : Began
  pub fits_call : ℕ → ℕ → List Value → Bool
  pub fits_state : ℕ → List Value → Bool

-- so many names of a place, from this number on
unfoldable pub names_from : ℕ → ℕ → ℕ → List Name
names_from place n zero = []
names_from place n (suc k) = Anon place n ∷ names_from place (n + 1) k

-- one for each actor that a handler can make
unfoldable pub fresh_names : ℕ → ℕ → List Name
fresh_names place n = names_from place n MOST_MADE

-- the call that a turn of the code stands for: new actors take the names of its place from its fresh number on
abbrev pub call : Turn → Call
call t = record { me = t.me.now; behavior = t.behavior; fields = t.fields.now; handler = t.handler; args = t.args.now; reply = t.reply.now; serial = t.serial; names = fresh_names t.place t.fresh; fresh = t.fresh }
