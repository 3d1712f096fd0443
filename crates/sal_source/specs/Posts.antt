-- Calls from outside: which fit, and their messages.
use Rattle.std.specs.Prelude.{ℕ, Bool, true, false, ◌&&◌, not, nat_eq, nat_lt, List, [], map}
use Rattle.std.specs.List.{list_all}
use Rattle.sal_value.specs.declared.name.Name.{Name}
use Rattle.sal_value.specs.declared.name.Name.TheVariants as name
use Rattle.sal_value.specs.declared.name.Uan.{Uan}
use Rattle.sal_value.specs.declared.value.Value.{Value, fold-Value}
use Rattle.sal_value.specs.declared.value.Value.TheOpen.{Value-F}
use Rattle.sal_value.specs.Names.{is_uan}
use Rattle.sal_value.specs.Spelling.{is_legal}
use Rattle.sal_mail.specs.declared.message.Message.{Message}
use Rattle.sal_mail.specs.declared.message.Piece.TheVariants.{Known}
use Rattle.sal_mail.specs.declared.message.Reply.TheVariants as reply
use Rattle.sal_mail.specs.declared.message.Target.TheVariants as target
use Rattle.sal_mail.specs.declared.constants.TheConstants.{OUTPUT}

-- the name is a universal one
abbrev pub is_universal : Name → Bool
is_universal (name.Uan u) = true
is_universal (name.Anon theatre number) = false
is_universal (name.Outside number) = false

-- whether a value's form holds no names but universal ones, by whether the items of an array do
abbrev pub universal_step : Value-F Bool → Bool
universal_step (Value-F.Ref n) = is_universal n
universal_step (Value-F.Array items) = list_all (λ b. b) items
universal_step Value-F.Null = true
universal_step (Value-F.Int n) = true
universal_step (Value-F.Bool b) = true
universal_step (Value-F.Str text) = true

-- the value holds no names but universal ones
unfoldable pub holds_universal : Value → Bool
holds_universal = fold-Value Bool universal_step

-- a post may hand over these values
abbrev pub may_be_posted : Value → Bool
may_be_posted v = is_legal v && holds_universal v

-- The number is above that of the last post, the target is a name that can be read, the message is none to
-- the output and not `migrate`, and the values may be posted. Whether the program has the handler, with
-- these parameters, is for the program to say.
abbrev pub fits_post : ℕ → ℕ → Uan → ℕ → List Value → Bool
fits_post last number to behavior args = nat_lt last number && (is_uan to && (not (nat_eq behavior OUTPUT) && list_all may_be_posted args))

abbrev pub post_message : ℕ → Uan → ℕ → ℕ → List Value → Message
post_message number to behavior handler args = record {
  maker = name.Outside number;
  serial = 0;
  target = target.Actor (name.Uan to);
  behavior = behavior;
  handler = handler;
  args = map Known args;
  after = [];
  delay = 0;
  reply = reply.Outside number;
}
