-- What the calls that change a configuration answer and leave.
use Rattle.std.specs.Prelude.{◌≡◌, ℕ, Bool, true, false, List, [], ◌∷◌, ◌++◌, reverse, Option, Some, None, if◌then◌else◌}
use Rattle.sal_value.specs.declared.name.Name.{Name}
use Rattle.sal_value.specs.declared.value.Value.{Value}
use Rattle.sal_mail.specs.declared.message.Join.{Join}
use Rattle.sal_mail.specs.Message.{is_full}
use Rattle.sal_source.specs.Configuration.{Waiting, Configuration}
use Rattle.sal_source.specs.Give.{DueReply, full_join_reply, give_one, replies_if_legal, answers_if_legal, settle_all, settle_all_answers}
use Rattle.sal_source.specs.Step as s

-- what a step leaves, and whether it was possible: one that isn't possible leaves all as it was
abbrev pub TakesStep : Option Configuration → Configuration → Configuration × Bool → Type 0
TakesStep outcome old (new, true) = outcome ≡ Some new
TakesStep outcome old (new, false) = (outcome ≡ None) × (new ≡ old)

-- the item alone, if there is one
abbrev pub option_list : {A : Type 0} → Option A → List A
option_list None = []
option_list (Some a) = a ∷ []

-- one reply was given: what waits, the answers, and the replies that it makes due
pub record GivesOne (g : DueReply) (old new : Waiting) (answers_old answers_new : List (ℕ × Value)) (more : List DueReply) : Type 0 where
  pub waiting : new ≡ give_one g old
  pub answers : answers_new ≡ answers_old ++ answers_if_legal g
  pub gives : more ≡ replies_if_legal g old

-- the first reply was given, and what it makes due stands before the others; the replies are listed last one first
pub record GivesNext (g : DueReply) (old new : Waiting) (answers_old answers_new : List (ℕ × Value)) (left_old left_new : List DueReply) : Type 0 where
  pub waiting : new ≡ give_one g old
  pub answers : answers_new ≡ answers_old ++ answers_if_legal g
  pub left : reverse left_new ≡ replies_if_legal g old ++ reverse left_old

-- all replies were given
pub record Settles (gs : List DueReply) (old new : Waiting) (answers_old answers_new : List (ℕ × Value)) : Type 0 where
  pub waiting : new ≡ settle_all gs old
  pub answers : answers_new ≡ answers_old ++ settle_all_answers gs old

-- a join is open, or gives its array before the others
pub record Opens (maker : Name) (j : Join) (old new : Waiting) (left_old left_new : List DueReply) : Type 0 where
  pub waiting : new ≡ record old { joins = if is_full j then old.joins else s.put_join maker j old.joins }
  pub left : reverse left_new ≡ full_join_reply j ++ reverse left_old

-- the same of several joins
pub record OpensAll (maker : Name) (js : List Join) (old new : Waiting) (left_old left_new : List DueReply) : Type 0 where
  pub waiting : new ≡ record old { joins = s.put_joins maker js old.joins }
  pub left : reverse left_new ≡ s.full_join_replies js ++ reverse left_old
