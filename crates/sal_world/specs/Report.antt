-- What a world tells of its actors, and of what is pending.
use Rattle.std.specs.Prelude.{ℕ, List, filter_map, Option, option_map}
use Rattle.std.specs.FinMap as fm
use Rattle.sal_value.specs.Table.{Table}
use Rattle.sal_mail.specs.declared.effects.Actor.{Actor}
use Rattle.sal_source.specs.Keys.{name_key}
use Rattle.sal_source.specs.Configuration.{Configuration}
use Rattle.sal_events.specs.declared.report.Report.{Report}
use Rattle.sal_world.specs.World.{World}
use Rattle.sal_world.specs.Image.{image}

-- An actor with its next number, and the theatre where it was made or to which it last went. One in transit counts at
-- its destination.
abbrev pub actor_report : Table ℕ → Actor × ℕ → Option (Actor × ℕ × ℕ)
actor_report places a = option_map (λ theatre. (a.0, a.1, theatre)) (fm.get places (name_key a.0.name))

-- the actors in the order of their names
abbrev pub actor_reports : World → List (Actor × ℕ × ℕ)
actor_reports w = filter_map (actor_report w.lists.places) (fm.values (image w).actors)

-- how many messages, creations and joins are pending
unfoldable pub pending_counts : Configuration → ℕ × ℕ × ℕ
pending_counts c = (fm.len c.waiting.messages, fm.len c.creations, fm.len c.waiting.joins)

unfoldable pub report : World → Report
report w = record { actors = actor_reports w; pending = pending_counts (image w) }
