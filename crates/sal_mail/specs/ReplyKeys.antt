-- To whom a reply is owed, as keys.
use Rattle.std.specs.Prelude.{ℕ, if◌then◌else◌, List, [], ◌∷◌}
use Rattle.std.specs.Str.{bytes_eq}
use Rattle.sal_value.specs.Order.{key}
use Rattle.sal_mail.specs.declared.message.Reply.{Reply}
use Rattle.sal_mail.specs.declared.message.Reply.TheVariants.{Nobody, Tok, Place, Outside}

-- the key of whom a reply is owed to; `Nobody` has the empty one
abbrev pub reply_key : Reply → List ℕ
reply_key Nobody = []
reply_key (Tok maker number) = 0 ∷ number ∷ key maker
reply_key (Place maker join at) = 1 ∷ at ∷ join ∷ key maker
reply_key (Outside number) = 2 ∷ number ∷ []

-- 1 where the reply is owed to this key, else 0
abbrev pub owes : List ℕ → Reply → ℕ
owes a r = if bytes_eq a (reply_key r) then 1 else 0
