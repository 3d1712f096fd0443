-- When no step but a post is possible, said of pieces.
use Rattle.std.specs.Prelude.{◌≡◌, ℕ, ◌||◌, if◌then◌else◌, List}
use Rattle.std.specs.FinSet as fs
use Rattle.sal_value.specs.declared.name.Name.{Name}
use Rattle.sal_value.specs.declared.name.Name.TheVariants as name
use Rattle.sal_value.specs.declared.name.Authority.{Authority}
use Rattle.sal_mail.specs.declared.message.Reply.{Reply}
use Rattle.sal_mail.specs.declared.message.Reply.TheVariants.{Nobody, Tok, Place, Outside}
use Rattle.sal_mail.specs.declared.message.Target.{Target}
use Rattle.sal_mail.specs.declared.message.Target.TheVariants as target
use Rattle.sal_mail.specs.Message.{is_ready}
use Rattle.sal_handler.specs.Calls.{Meaning}
use Rattle.sal_source.specs.declared.state.Setup.{Setup}
use Rattle.sal_source.specs.Table.{TableKey, key_cmp, total}
use Rattle.sal_source.specs.Keys.{name_key}
use Rattle.sal_source.specs.Step.{is_served, IsFinal}
use Rattle.sal_pieces.specs.Pieces.{Piece, Thing, ActorThing, MessageThing, JoinThing, CreationThing, ReplyThing, things}
use Rattle.sal_pieces.specs.Image.{History, image_of}
use Rattle.sal_pieces.specs.Once.{actor_key_in, count_at_key}
use Rattle.sal_pieces.specs.Steps.{names_given, count_untidy}

-- how many actors of this name stand
abbrev pub count_actors : Name → List Thing → ℕ
count_actors n ts = count_at_key actor_key_in (name_key n) ts

-- how many take a call with this target: the output, or the actors that stand
abbrev pub count_takers : Target → List Thing → ℕ
count_takers target.Output ts = 1
count_takers (target.Actor n) ts = count_actors n ts

-- how many actors stand that wait for the reply
abbrev pub count_owners : Reply → List Thing → ℕ
count_owners Nobody ts = 0
count_owners (Outside number) ts = 0
count_owners (Tok maker number) ts = count_actors maker ts
count_owners (Place maker join at) ts = count_actors maker ts

-- 0 where nothing can come of the thing: of a ready call that nothing takes, of a creation whose
-- name no service gives and
-- none has, of a reply whose owner doesn't stand
abbrev pub prospects : List Authority → fs.FinSet key_cmp → List Thing → Thing → ℕ
prospects authorities given ts (ActorThing a) = 0
prospects authorities given ts (MessageThing m) = if is_ready m then count_takers m.target ts else 0
prospects authorities given ts (JoinThing j) = 0
prospects authorities given ts (CreationThing x) = if is_served authorities x.1.name || fs.contains
    given (name_key (name.Uan x.1.name)) then 1 else 0
prospects authorities given ts (ReplyThing g) = count_owners g.0 ts

-- nothing can come of any of these pieces, where these names were bound
abbrev pub AreStill : List Authority → List TableKey → List Piece → Type 0
AreStill authorities bound ps = total (prospects authorities (names_given bound ps) (things ps))
    (things ps) ≡ 0

-- Where pieces are tidy and still, no step but a post is possible in their image.
abbrev pub StillPiecesAreFinal : Type 0
StillPiecesAreFinal =
    (p : Meaning) (setup : Setup) (bound : List TableKey) (ps : List Piece) (w : History)
    → total count_untidy ps ≡ 0 → AreStill setup.authorities bound ps
    → IsFinal p setup (image_of bound (things ps) w)
