-- To which node of a plan a locator or a name leads.
use Rattle.std.specs.Prelude.{ℕ, ◌+◌, Bool, ◌&&◌, nat_eq, position, Option, option_map}
use Rattle.std.specs.Str.{bytes_eq}
use Rattle.sal_value.specs.declared.name.Authority.{Authority}
use Rattle.sal_value.specs.declared.name.Uan.{Uan}
use Rattle.sal_value.specs.declared.name.Ual.{Ual}
use Rattle.sal_mail.specs.declared.plan.Plan.{Plan}

-- host and port are the same
abbrev pub is_same_place : Ual → Ual → Bool
is_same_place a b = bytes_eq a.host b.host && nat_eq a.port b.port

-- the theatre with this locator, where the plan has one: theatres are numbered from 0
unfoldable pub theatre_of : Plan → Ual → Option ℕ
theatre_of plan place = position (is_same_place place) plan.theatres

-- the naming service of this host and port has the name's
abbrev pub serves : Uan → Authority → Bool
serves u a = bytes_eq a.host u.host && nat_eq a.port u.port

-- the naming service of the name, where the plan has one: services are numbered from 0 here
unfoldable pub service_of : Plan → Uan → Option ℕ
service_of plan u = position (serves u) plan.names
