-- Whether a step is possible, whatever the program: what the code tests that looks for one.
use Rattle.std.specs.Prelude.{ℕ, Bool, true, ◌&&◌, ◌||◌, is_some, List}
use Rattle.std.specs.FinMap as fm
use Rattle.sal_value.specs.declared.name.Name.{Name}
use Rattle.sal_value.specs.declared.name.Name.TheVariants as name
use Rattle.sal_value.specs.declared.name.Authority.{Authority}
use Rattle.sal_mail.specs.declared.message.Target.{Target}
use Rattle.sal_mail.specs.declared.message.Target.TheVariants as target
use Rattle.sal_mail.specs.declared.message.Message.{Message}
use Rattle.sal_mail.specs.declared.effects.Actor.{Actor}
use Rattle.sal_mail.specs.declared.effects.Creation.{Creation}
use Rattle.sal_mail.specs.Message.{is_ready}
use Rattle.sal_source.specs.Table.{Table}
use Rattle.sal_source.specs.Keys.{name_key}
use Rattle.sal_source.specs.Step.{is_served}

-- there is an actor of the target's name, or the target is the output
abbrev pub has_receiver : Table (Actor × ℕ) → Target → Bool
has_receiver actors target.Output = true
has_receiver actors (target.Actor n) = is_some (fm.get actors (name_key n))

-- the message is ready, and there is an actor for it, or it goes to the output
abbrev pub is_possible : Table (Actor × ℕ) → Message → Bool
is_possible actors m = is_ready m && has_receiver actors m.target

-- there is an actor of the creation's name, or its naming service is there
abbrev pub is_decided : List Authority → Table (Actor × ℕ) → Name × Creation → Bool
is_decided authorities actors x = fm.contains_key actors (name_key (name.Uan x.1.name)) || is_served authorities x.1.name
