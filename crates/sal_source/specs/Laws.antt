-- What holds of every configuration, whatever the program.
use Rattle.std.specs.Prelude.{◌≡◌, ◌≢◌, ℕ, ◌+◌, ◌≤◌, List, [], ◌∷◌}
use Rattle.sal_mail.specs.declared.message.Reply.{Reply}
use Rattle.sal_mail.specs.declared.message.Reply.TheVariants.{Nobody}
use Rattle.sal_source.specs.Table.{TableKey, total, sum_values, HasSameItems}
use Rattle.sal_mail.specs.ReplyKeys.{reply_key, owes}
use Rattle.sal_source.specs.Configuration.{Waiting, Configuration}
use Rattle.sal_source.specs.Give.{DueReply, give}

-- how often a reply is owed to this key: by the replies that are due, the pending messages and the open joins
abbrev pub times_owed : TableKey → List DueReply → Waiting → ℕ
times_owed a gs w = total (λ g. owes a g.0) gs + sum_values (λ m. owes a m.reply) w.messages + sum_values (λ j. owes a j.1.reply) w.joins

-- to each but `Nobody` at most one reply is owed
abbrev pub IsOwedOnce : List DueReply → Waiting → Type 0
IsOwedOnce gs w = (r : Reply) → r ≢ Nobody → times_owed (reply_key r) gs w ≤ 1

-- the configuration without its answers
abbrev pub without_answers : Configuration → Configuration
without_answers c = record c { answers = [] }

-- One configuration but for the order of its answers.
pub record IsSameButForOrder (c d : Configuration) : Type 0 where
  pub rest : without_answers c ≡ without_answers d
  pub answers : HasSameItems c.answers d.answers

-- Two of the replies that are due may be given in either order.
abbrev pub RepliesCommute : Type 0
RepliesCommute =
    (g h : DueReply) (rest : List DueReply) (c : Configuration) → IsOwedOnce (g ∷ h ∷ rest) c.waiting
    → IsSameButForOrder (give g.0 g.1 (give h.0 h.1 c)) (give h.0 h.1 (give g.0 g.1 c))
