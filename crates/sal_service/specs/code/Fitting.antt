-- Which theatre a put or an update names.
use Rattle.std.specs.Prelude.{ℕ, if◌then◌else◌, Option, None}
use Rattle.sal_value.specs.declared.name.Uan.{Uan}
use Rattle.sal_value.specs.declared.name.Ual.{Ual}
use Rattle.sal_mail.specs.declared.plan.Plan.{Plan}
use Rattle.sal_directory.specs.Nodes.{theatre_of}
use Rattle.sal_service.specs.Service.{is_mine}

-- the theatre with this locator, where the name is one of this service
abbrev pub theatre_if_mine : ℕ → Plan → Uan → Ual → Option ℕ
theatre_if_mine number plan u place = if is_mine number plan u then theatre_of plan place else None
