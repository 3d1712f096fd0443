-- What a step tells the outside hangs on open joins alone.
use Rattle.std.specs.Prelude.{◌≡◌, List}
use Rattle.sal_source.specs.Configuration.{Waiting}
use Rattle.sal_source.specs.Give.{DueReply, settle_all, settle_all_answers}
use Rattle.sal_pieces.specs.Pieces.{Thing}
use Rattle.sal_pieces.specs.Once.{StandOnce, OwesOnce}

-- Where the same joins are open, the same replies tell the same answers and leave the same joins
-- open, whatever messages
-- wait: so a world needs to keep nothing else to know them.
abbrev pub AnswersNeedJoinsAlone : Type 0
AnswersNeedJoinsAlone = (gs : List DueReply) (c d : Waiting) → c.joins ≡ d.joins
    → (settle_all_answers gs c ≡ settle_all_answers gs d)
    × ((settle_all gs c).joins ≡ (settle_all gs d).joins)

-- Where each thing stands once, no address is owed twice.
abbrev pub ThingsOweOnce : Type 0
ThingsOweOnce = (ts : List Thing) → StandOnce ts → OwesOnce ts
