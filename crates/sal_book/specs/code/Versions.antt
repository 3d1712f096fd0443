-- New versions of messages, by which the code copies only those that wait for a reply.
use Rattle.std.specs.Prelude.{ℕ, Bool, false, ◌||◌, nat_eq, cond, List, [], ◌∷◌, Option, Some, None, unwrap_or}
use Rattle.std.specs.List.{list_any}
use Rattle.sal_value.specs.declared.value.Value.{Value}
use Rattle.sal_mail.specs.declared.message.Piece.{Piece}
use Rattle.sal_mail.specs.declared.message.Piece.TheVariants.{Known, Token}
use Rattle.sal_mail.specs.declared.message.Message.{Message}
use Rattle.sal_mail.specs.Message.{with_reply}

-- the argument is the token with this number
abbrev pub is_token : ℕ → Piece → Bool
is_token number (Known value) = false
is_token number (Token n) = nat_eq n number

-- the message waits for the reply with this number
abbrev pub awaits : ℕ → Message → Bool
awaits number m = list_any (is_token number) m.args || list_any (λ n. nat_eq n number) m.after

-- the message with the reply, where it waits for it
abbrev pub new_version : ℕ → Value → Message → Option Message
new_version number value m = cond (awaits number m) (Some (with_reply number value m)) None

-- each message in its new version, where there is one
abbrev pub newest : List Message → List (Option Message) → List Message
newest [] versions = []
newest (m ∷ ms) [] = m ∷ newest ms []
newest (m ∷ ms) (v ∷ versions) = unwrap_or v m ∷ newest ms versions
