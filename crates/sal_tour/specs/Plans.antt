-- The plan of the tour: eight theatres and one naming service, all of one host.
use Rattle.std.specs.Prelude.{ℕ, zero, suc, ◌+◌, List, [], ◌∷◌, map, codes}
use Rattle.sal_mail.specs.declared.plan.Plan.{Plan}
use Rattle.sal_value.specs.declared.name.Authority.{Authority}
use Rattle.sal_value.specs.declared.name.Ual.{Ual}
use Rattle.sal_value.specs.declared.value.Value.{Value}
use Rattle.sal_value.specs.declared.value.Value.TheVariants as value
use Rattle.sal_value.specs.Names.{ual_text}
use Rattle.sal_tour.specs.declared.constants.TheConstants.{FIRST_PORT, THEATRES, SERVICE_PORT}

abbrev pub localhost : List ℕ
localhost = codes "localhost"

abbrev pub theatre : ℕ → Ual
theatre port = record { host = localhost; port = port }

-- so many theatres, from this port on
abbrev pub theatres : ℕ → ℕ → List Ual
theatres zero port = []
theatres (suc n) port = theatre port ∷ theatres n (port + 1)

abbrev pub service : Authority
service = record { host = localhost; port = SERVICE_PORT }

-- the texts of the theatres
abbrev pub words_of : List Ual → List Value
words_of found = map (λ l. value.Str (ual_text l)) found

-- the plan of every tour, with its theatres as words
unfoldable pub tour_plan : Plan
tour_plan = record { theatres = theatres THEATRES FIRST_PORT; names = service ∷ []; words = words_of (theatres THEATRES FIRST_PORT) }
